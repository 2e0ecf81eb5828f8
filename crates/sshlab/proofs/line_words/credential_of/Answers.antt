use Rattle.std.proofs.Common.{◌∙◌, rules}
use Rattle.sshlab.proofs.ScenarioWordLemmas.{proving_seen}
use Rattle.sshlab.proofs.line_words.credential_of.Goals as goal

pub returns-in_default-clause-form : goal.returns-in_default-clause-form
returns-in_default-clause-form c = λ _. proving_seen c.args.fields.now ∙ search rules
