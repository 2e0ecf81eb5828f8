-- An endpoint that asks and waits, as contracts see it.

use Rattle.std.specs.Prelude.{ℕ, List, Option}
use Rattle.sshneg.specs.declared.side.Side.{Side}
use Rattle.sshpacket.specs.Suite.{SuiteData}
use Rattle.sshcore.specs.declared.input.Input.{Input}
use Rattle.sshcore.specs.declared.pending.Pending.{Pending}
use Rattle.sshcore.specs.declared.state.State.{State}
use Rattle.sshcore.specs.EndpointParts.{ConfigData, DecisionsData, Setup, setup_with}
use Rattle.sshcore.specs.Questions.{QuestionData}

-- A packet that was read and isn't answered yet: its payload, what it asks, and what its answer needs, which no layer above opens.
pub record WaitingData : Type 0 where
  pub payload : List ℕ
  pub question : QuestionData
  pub pending : Pending

-- what contracts see of an asking endpoint: its role, config and suite, what it keeps, which no layer above opens, and the packet that
-- waits for its answer, if one does
pub record AskingData (S : Type 0) : Type 0 where
  pub role : Side
  pub config : ConfigData
  pub suite : S
  pub input : Input
  pub state : State
  pub waiting : Option WaitingData

-- the setup of an asking endpoint, by what its suite means and by these decisions, which aren't its own
abbrev pub asking_setup : {S : Type 0} → (S → SuiteData) → DecisionsData → AskingData S → Setup
asking_setup meaning d e = setup_with (meaning e.suite) d e.role e.config
