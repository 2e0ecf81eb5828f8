use Rattle.std.proofs.Common.{◌≡◌, ◌∙◌, false, ap, sym, rules}
use Rattle.std.specs.Prelude.{None, Some, option_map}
use Rattle.sshlab.specs.Scenarios.{is_text, statement_in_fields}
use Rattle.sshlab.proofs.ScenarioTextLemmas.{line_bad, line_silent, line_states, line_utf8}
use Rattle.sshlab.proofs.scenario_line.statement_of.Goals as goal

pub returns-then-not-is_text-clause-form : goal.returns-then-not-is_text-clause-form
returns-then-not-is_text-clause-form c =
    let e : is_text c.args.line.now ≡ false = sym c.is_text.ensures ∙ c.if-not-is_text.true in
    λ _. line_bad c.args.line.now e

pub returns-then-states_nothing-clause-value : goal.returns-then-states_nothing-clause-value
returns-then-states_nothing-clause-value c =
    line_silent c.args.line.now (sym c.is_text.ensures ∙ c.if-not-is_text.false) (sym c.states_nothing.ensures ∙ c.if-states_nothing.true)

pub returns-in_err-statement_in_fields-in-Ok-clause-form : goal.returns-in_err-statement_in_fields-in-Ok-clause-form
returns-in_err-statement_in_fields-in-Ok-clause-form c =
    λ h.
    let none : statement_in_fields c.in-Ok.line.now ≡ None = c.statement_in_fields.ensures.form (search rules) in
    line_states c.args.line.now (sym c.is_text.ensures ∙ c.if-not-is_text.false) (sym c.states_nothing.ensures ∙ c.if-states_nothing.false)
    ∙ ap (option_map Some) (ap statement_in_fields (sym c.in-Ok.ensures.cases.0) ∙ none)

pub returns-in_ok-statement_in_fields-in-Ok-clause-value : goal.returns-in_ok-statement_in_fields-in-Ok-clause-value
returns-in_ok-statement_in_fields-in-Ok-clause-value c =
    line_states c.args.line.now (sym c.is_text.ensures ∙ c.if-not-is_text.false) (sym c.states_nothing.ensures ∙ c.if-states_nothing.false)
    ∙ ap (option_map Some) (ap statement_in_fields (sym c.in-Ok.ensures.cases.0) ∙ c.in_ok-statement_in_fields-in-Ok.ensures.value)

pub returns-in-Err-clause-form : goal.returns-in-Err-clause-form
returns-in-Err-clause-form c = absurd (c.in-Err.ensures.cases.0 (line_utf8 c.args.line.now (sym c.is_text.ensures ∙ c.if-not-is_text.false)))
