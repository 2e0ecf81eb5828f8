use Rattle.std.proofs.Common.{◌≡◌, ◌∙◌, rules}
use Rattle.sshlab.specs.Scenarios.{server_value, statement_of_server}
use Rattle.sshlab.specs.ScenarioView.{texts}
use Rattle.sshlab.proofs.ScenarioWordLemmas.{lent, of_server_seen}
use Rattle.sshlab.proofs.scenario_line.statement_of_server.Goals as goal

pub returns-in-len2-clause-value : goal.returns-in-len2-clause-value
returns-in-len2-clause-value c =
    let e : statement_of_server (texts c.args.fields.now) ≡ server_value (lent c.args.fields.now 0) (lent c.args.fields.now 1) = of_server_seen c.args.fields.now ∙ search rules in
    rw e c.server_setting.ensures.value

pub returns-in-len2-clause-form : goal.returns-in-len2-clause-form
returns-in-len2-clause-form c =
    let e : statement_of_server (texts c.args.fields.now) ≡ server_value (lent c.args.fields.now 0) (lent c.args.fields.now 1) = of_server_seen c.args.fields.now ∙ search rules in
    λ h. e ∙ c.server_setting.ensures.form h

pub returns-in_default-clause-form : goal.returns-in_default-clause-form
returns-in_default-clause-form c = λ _. of_server_seen c.args.fields.now ∙ search rules
