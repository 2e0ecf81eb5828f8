use Rattle.std.proofs.Common.{◌∙◌, rules}
use Rattle.sshlab.proofs.ScenarioWordLemmas.{step_seen}
use Rattle.sshlab.proofs.line_words.step_by.Goals as goal

pub returns-in_default-2-clause-form : goal.returns-in_default-2-clause-form
returns-in_default-2-clause-form c = λ _. step_seen c.args.fields.now ∙ search rules

pub returns-in_default-3-clause-form : goal.returns-in_default-3-clause-form
returns-in_default-3-clause-form c = λ _. step_seen c.args.fields.now ∙ search rules
