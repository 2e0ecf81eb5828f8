-- An asking endpoint beside one that asks at once.

use Rattle.std.specs.Prelude.{◌≡◌}
use Rattle.sshcore.specs.AskingData.{AskingData}
use Rattle.sshcore.specs.EndpointData.{EndpointData}

-- an asking endpoint and one that asks at once have one role, config and suite
pub record IsBeside {S D : Type 0} (asking : AskingData S) (endpoint : EndpointData S D) : Type 0 where
  pub same_role : endpoint.role ≡ asking.role
  pub same_config : endpoint.config ≡ asking.config
  pub same_suite : endpoint.suite ≡ asking.suite
