use Rattle.std.proofs.Common.{◌∙◌, rules}
use Rattle.sshlab.proofs.ScenarioWordLemmas.{of_client_seen}
use Rattle.sshlab.proofs.scenario_line.statement_of_client.Goals as goal

pub returns-in_default-clause-form : goal.returns-in_default-clause-form
returns-in_default-clause-form c = λ _. of_client_seen c.args.fields.now ∙ search rules
