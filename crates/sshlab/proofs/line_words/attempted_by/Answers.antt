use Rattle.std.proofs.Common.{◌≡◌, ◌∙◌, IfOk, Some, rules, subst, sym}
use Rattle.sshcore.specs.ConfigView.{credential_data}
use Rattle.sshlab.specs.ScenarioView.{texts}
use Rattle.sshlab.specs.Scenarios.{attempting, proving}
use Rattle.sshlab.proofs.ScenarioWordLemmas.{attempting_seen}
use Rattle.sshlab.proofs.line_words.attempted_by.Goals as goal

pub returns-in_default-clause-value : goal.returns-in_default-clause-value
returns-in_default-clause-value c =
    let same : attempting (texts c.args.fields.now) ≡ proving (texts c.args.fields.now) = attempting_seen c.args.fields.now ∙ search rules in
    subst (λ o. IfOk c.credential_of.result (λ credential. o ≡ Some (credential_data credential))) (sym same) c.credential_of.ensures.value

pub returns-in_default-clause-form : goal.returns-in_default-clause-form
returns-in_default-clause-form c = λ e.
    let same : attempting (texts c.args.fields.now) ≡ proving (texts c.args.fields.now) = attempting_seen c.args.fields.now ∙ search rules in
    same ∙ c.credential_of.ensures.form e
