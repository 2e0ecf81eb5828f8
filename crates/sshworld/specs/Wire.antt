-- Two endpoints whose bytes a caller carries itself, as the two nodes of a world.

use Rattle.std.specs.Prelude.{◌≡◌, ◌≢◌, ◌+◌, ◌≤◌, ℕ, List, Vec, drop, length, take}
use Rattle.std.specs.Global.{Global}
use Rattle.sshpacket.specs.Suite.{SuiteData}
use Rattle.sshcore.specs.declared.end.Fault.TheVariants as fault
use Rattle.sshcore.specs.ConfigParts.{ClientData, ServerData}
use Rattle.sshcore.specs.EndData.{Failed, Open}
use Rattle.sshcore.specs.EndpointData.{EndpointData}
use Rattle.sshcore.specs.Endpoints.{Fed, endpoint_end}
use Rattle.sshcore.specs.EndpointParts.{DecisionsData}
use Rattle.sshworld.specs.declared.node.Node.{Node}
use Rattle.sshworld.specs.WorldCourse.{WorldStands}

-- One of two such endpoints: all that it has sent, and how many of the other's bytes it has used.
pub record WireEnd (S D : Type 0) : Type 0 where
  pub endpoint : EndpointData S D
  pub sent : Vec ℕ Global
  pub used : ℕ

-- an end of a wire as a node of a world, to which the bytes were moved that it has used
abbrev pub wire_node : {S D : Type 0} → WireEnd S D → Node S D
wire_node e = record { endpoint = e.endpoint; sent = e.sent; moved = e.used; used = e.used }

-- Each that is open has used all that the other has sent.
pub record HaveUsedAll {S D : Type 0} (client server : WireEnd S D) : Type 0 where
  pub client_all : endpoint_end client.endpoint ≡ Open → client.used ≡ length server.sent.items
  pub server_all : endpoint_end server.endpoint ≡ Open → server.used ≡ length client.sent.items

module _ {S D : Type 0} (meaning : S → SuiteData) (policy : D → DecisionsData) where
  -- Two endpoints on a wire stand as the nodes of a world of these configs, this suite and these decisions; and neither ran out of
  -- memory.
  pub record AreOnWire (client_config : ClientData) (server_config : ServerData) (suite : S) (decisions : D) (client server : WireEnd S D) : Type 0 where
    pub stand : WorldStands meaning policy client_config server_config suite decisions (wire_node client) (wire_node server)
    pub client_had : endpoint_end client.endpoint ≢ Failed fault.Memory
    pub server_had : endpoint_end server.endpoint ≢ Failed fault.Memory

  -- One of the two used the next count of the bytes that the other has sent, and sent what it answers; where it had ended nothing
  -- changed.
  pub record UsesMore (their_sent : List ℕ) (count : ℕ) (old new : WireEnd S D) : Type 0 where
    pub within : old.used + count ≤ length their_sent
    pub used_on : new.used ≡ old.used + count
    pub fed : Fed meaning policy old.endpoint new.endpoint (take count (drop old.used their_sent)) old.sent.items new.sent.items
    pub had_memory : endpoint_end old.endpoint ≢ Failed fault.Memory → endpoint_end new.endpoint ≢ Failed fault.Memory
    pub ended : endpoint_end old.endpoint ≢ Open → new ≡ old
