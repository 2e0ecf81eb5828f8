-- What two configs ask of the suite of algorithms, so that each end understands what the other sends.

use Rattle.std.specs.Prelude.{◌≡◌, true, Ok}
use Rattle.std.specs.List.{AllByRecursion}
use Rattle.sshneg.specs.ChoiceReadings.{choice}
use Rattle.sshneg.specs.Fields.{AlgorithmsData}
use Rattle.sshpacket.specs.Suite.{Agrees, Signs, SuiteData}
use Rattle.sshcore.specs.ConfigParts.{AttemptData, ByKey, ByNothing, ByPassword, ClientData, CredentialData, ServerData, client_offer, server_offer}
use Rattle.sshcore.specs.Exchange.{secret_of}
use Rattle.sshcore.specs.EndpointParts.{DecisionsData}
use Rattle.sshworld.specs.Agreement.{host_key_of_server}
use Rattle.sshworld.specs.Held.{IsHeld}

-- The key of an attempt, if it has one, signs (RFC 4252 section 7).
abbrev pub CanSign : SuiteData → CredentialData → Type 0
CanSign m ByNothing = Unit {0}
CanSign m (ByPassword password) = Unit {0}
CanSign m (ByKey algorithm secret ask) = Signs m algorithm secret

-- The chosen method comes to one shared secret of both random values; the server's host key signs, if the client trusts it; and
-- so does each key of the client's plan. The suite holds all of these keys (RFC 4253 section 8, RFC 4252 section 7).
pub record AreCompatible (m : SuiteData) (d : DecisionsData) (client : ClientData) (server : ServerData) : Type 0 where
  pub exchange : (a : AlgorithmsData) → choice m (client_offer client) (server_offer server) ≡ Ok a → Agrees m a.kex client.side.random server.side.random
  pub host_key : (a : AlgorithmsData) → choice m (client_offer client) (server_offer server) ≡ Ok a
      → d.host_key a.host_key (host_key_of_server m server a.host_key) ≡ true → Signs m a.host_key (secret_of server.host_keys a.host_key)
  pub plan : AllByRecursion (λ (attempt : AttemptData). CanSign m attempt.proving) client.plan
  pub host_key_held : (a : AlgorithmsData) → choice m (client_offer client) (server_offer server) ≡ Ok a
      → m.holds a.host_key (secret_of server.host_keys a.host_key) ≡ true
  pub plan_held : AllByRecursion (λ (attempt : AttemptData). IsHeld m attempt.proving) client.plan
