use Rattle.std.proofs.Common.{◌∙◌, sym}
use Rattle.sshcore.specs.ConfigView.{credential_data}
use Rattle.sshlab.proofs.ScenarioSettingLemmas.{named}
use Rattle.sshlab.proofs.scenario_draft.allow.Goals as goal

pub allow-requires : goal.allow-requires
allow-requires c = named (credential_data c.args.credential.now) (sym c.can_be_proved.ensures ∙ c.if-not-can_be_proved.false)
