-- Configs with draws.

use Rattle.std.proofs.Common.{◌≡◌, ◌∙◌, refl, ap}
use Rattle.sshpacket.specs.Suite.{SuiteData}
use Rattle.sshcore.specs.declared.config_draws.Draws.{Draws}
use Rattle.sshcore.specs.ConfigParts.{ClientData, ServerData}
use Rattle.sshcore.specs.EndpointParts.{DecisionsData}
use Rattle.sshcore.specs.Redrawn.{redrawn_client, redrawn_server}
use Rattle.sshworld.specs.Outcome.{outcome}
use Rattle.sshworld.specs.Verdicts.{verdict}

-- no draws decide on requests
undrawn : (m : SuiteData) (d : DecisionsData) (one other : Draws) (client : ClientData) (server : ServerData)
    → verdict m d client server ≡ verdict m d (redrawn_client one client) (redrawn_server other server)
unfolding verdict
undrawn m d one other client server = refl

pub same_verdict : (m : SuiteData) (d : DecisionsData) (one other : Draws) (client drawn_client : ClientData) (server drawn_server : ServerData)
    → redrawn_client one client ≡ drawn_client → redrawn_server other server ≡ drawn_server → verdict m d client server ≡ verdict m d drawn_client drawn_server
same_verdict m d one other client drawn_client server drawn_server p q =
    undrawn m d one other client server ∙ ap (λ (c : ClientData). verdict m d c (redrawn_server other server)) p ∙ ap (λ (s : ServerData). verdict m d drawn_client s) q

-- the outcome of the same two configs
pub same_outcome : (m : SuiteData) (d : DecisionsData) (client one : ClientData) (server other : ServerData) → client ≡ one → server ≡ other
    → outcome m d client server ≡ outcome m d one other
same_outcome m d client one server other p q = ap (λ (c : ClientData). outcome m d c server) p ∙ ap (λ (s : ServerData). outcome m d one s) q
