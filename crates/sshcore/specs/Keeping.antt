-- That what an endpoint keeps is of use with its suite and its config: what holds after every step of its session.

use Rattle.std.specs.Prelude.{◌≡◌, ◌⊎◌, ℕ, List, drop}
use Rattle.sshpacket.specs.Suite.{SuiteData}
use Rattle.sshcore.specs.Brings.{IsOngoing}
use Rattle.sshcore.specs.ConfigParts.{AttemptData}
use Rattle.sshcore.specs.EndpointParts.{ConfigData}
use Rattle.sshcore.specs.Exchanged.{HasForm}
use Rattle.sshcore.specs.Plan.{confirmed}
use Rattle.sshcore.specs.StateData.{StateData}

-- these attempts are the plan's from a place on, the first of which may be confirmed (RFC 4252 section 7)
pub record IsRest (plan left : List AttemptData) : Type 0 where
  pub from : ℕ
  pub is : (left ≡ drop from plan) ⊎ (left ≡ confirmed (drop from plan))

-- what is kept has the suite's form of shares, and of the config's plan a rest (RFC 4252 section 5)
pub record FitsConfig (m : SuiteData) (config : ConfigData) (kept : StateData) : Type 0 where
  pub form : HasForm m kept
  pub rest : IsRest config.plan kept.known.left

-- what fits the suite and the config before a step fits them after it, where the session goes on
abbrev pub StillFits : SuiteData → ConfigData → StateData → StateData → Type 0
StillFits m config old new = FitsConfig m config old → IsOngoing new.end → FitsConfig m config new
