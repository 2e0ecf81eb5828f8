-- An endpoint, as contracts see it.

use Rattle.sshneg.specs.declared.side.Side.{Side}
use Rattle.sshpacket.specs.Suite.{SuiteData}
use Rattle.sshcore.specs.declared.input.Input.{Input}
use Rattle.sshcore.specs.declared.state.State.{State}
use Rattle.sshcore.specs.EndpointParts.{ConfigData, DecisionsData, Setup, setup_with}

-- what contracts see of an endpoint: its role and config, the suite and the decisions that it was given, and what it keeps, which no layer
-- above opens
pub record EndpointData (S D : Type 0) : Type 0 where
  pub role : Side
  pub config : ConfigData
  pub suite : S
  pub decisions : D
  pub input : Input
  pub state : State

-- an endpoint's setup, by what its suite means and how its decisions answer
abbrev pub endpoint_setup : {S D : Type 0} → (S → SuiteData) → (D → DecisionsData) → EndpointData S D → Setup
endpoint_setup meaning policy e = setup_with (meaning e.suite) (policy e.decisions) e.role e.config
