use Rattle.std.proofs.Common.{◌≡◌, ◌∙◌, false, sym, rules}
use Rattle.std.specs.Prelude.{◌==◌, length}
use Rattle.std.specs.List.{list_any}
use Rattle.sshlab.specs.ScenarioFields.{parts}
use Rattle.sshlab.specs.Scenarios.{statement_by, statement_in_fields}
use Rattle.sshlab.specs.ScenarioView.{texts}
use Rattle.sshlab.proofs.ScenarioTextLemmas.{fields_empty, fields_state}
use Rattle.sshlab.proofs.scenario_line.statement_in_fields.Goals as goal

pub returns-then-has_empty-clause-form : goal.returns-then-has_empty-clause-form
returns-then-has_empty-clause-form c =
    let are : texts c.deref.result.now ≡ parts 32 c.args.line.now = search rules in
    λ _. fields_empty c.args.line.now c.deref.result.now are (sym c.has_empty.ensures ∙ c.if-has_empty.true)

pub returns-clause-value : goal.returns-clause-value
returns-clause-value c =
    let are : texts c.deref-2.result.now ≡ parts 32 c.args.line.now = search rules in
    let same : c.deref-2.result.now ≡ c.deref.result.now = c.deref-2.ensures.value ∙ sym c.deref.ensures.value in
    let full : list_any (λ field. length field.now == 0) c.deref-2.result.now ≡ false = rw same (sym c.has_empty.ensures ∙ c.if-has_empty.false) in
    let e : statement_in_fields c.args.line.now ≡ statement_by (texts c.deref-2.result.now) = fields_state c.args.line.now c.deref-2.result.now are full in
    rw e c.statement_by.ensures.value

pub returns-clause-form : goal.returns-clause-form
returns-clause-form c =
    let are : texts c.deref-2.result.now ≡ parts 32 c.args.line.now = search rules in
    let same : c.deref-2.result.now ≡ c.deref.result.now = c.deref-2.ensures.value ∙ sym c.deref.ensures.value in
    let full : list_any (λ field. length field.now == 0) c.deref-2.result.now ≡ false = rw same (sym c.has_empty.ensures ∙ c.if-has_empty.false) in
    λ h. fields_state c.args.line.now c.deref-2.result.now are full ∙ c.statement_by.ensures.form h
