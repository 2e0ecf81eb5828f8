use Rattle.std.proofs.Common.{◌≡◌, ◌∙◌, ap, rules}
use Rattle.std.specs.Prelude.{option_map}
use Rattle.sshlab.specs.Scenarios.{Does, statement_by, step}
use Rattle.sshlab.specs.ScenarioView.{texts}
use Rattle.sshlab.proofs.ScenarioWordLemmas.{statement_seen}
use Rattle.sshlab.proofs.scenario_line.statement_by.Goals as goal

pub returns-in_err-step_by-in_default-clause-form : goal.returns-in_err-step_by-in_default-clause-form
returns-in_err-step_by-in_default-clause-form c =
    let e : statement_by (texts c.args.fields.now) ≡ option_map Does (step (texts c.args.fields.now)) = statement_seen c.args.fields.now ∙ search rules in
    λ h. e ∙ ap (option_map Does) (c.step_by.ensures.form (search rules))

pub returns-in_ok-step_by-in_default-clause-value : goal.returns-in_ok-step_by-in_default-clause-value
returns-in_ok-step_by-in_default-clause-value c =
    let e : statement_by (texts c.args.fields.now) ≡ option_map Does (step (texts c.args.fields.now)) = statement_seen c.args.fields.now ∙ search rules in
    e ∙ ap (option_map Does) c.in_ok-step_by-in_default.ensures.value
