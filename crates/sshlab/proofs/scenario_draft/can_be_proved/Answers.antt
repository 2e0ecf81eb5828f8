use Rattle.std.proofs.Common.{◌∙◌, ap}
use Rattle.sshwire.specs.TypeReadings.{is_name}
use Rattle.sshlab.proofs.ScenarioSettingLemmas.{named_test}
use Rattle.sshlab.proofs.scenario_draft.can_be_proved.Goals as goal

pub returns-in-PublicKey : goal.returns-in-PublicKey
returns-in-PublicKey c =
    rw c.in-PublicKey.is
    (c.is_some.ensures
    ∙ (named_test (λ name. name.now) c.as_bytes.result.now c.as_name.result c.as_name.ensures.sound c.as_name.ensures.complete
    ∙ ap is_name c.as_bytes.ensures.value))
