-- A world, as callers see it: a client and a server, what each has sent, and how far it was moved to the other.

use Rattle.std.specs.Prelude.{◌≡◌, ◌≢◌, ◌≤◌, ◌-◌, ℕ, List, length, take}
use Rattle.sshcore.specs.declared.end.Fault.TheVariants as fault
use Rattle.sshcore.specs.ConfigParts.{ClientData, ServerData}
use Rattle.sshcore.specs.EndData.{Authenticated, Closed, Disconnected, EndData, Failed, Open}
use Rattle.sshcore.specs.EndpointParts.{ConfigData, config_of_client, config_of_server}
use Rattle.sshneg.specs.declared.side.Side.{Side}
use Rattle.sshneg.specs.declared.side.Side.TheVariants as side

-- One side: all that it has sent; how many of the other's bytes were moved to it, and how many of those it has used; and how it
-- stands.
pub record NodeData : Type 0 where
  pub sent : List ℕ
  pub moved : ℕ
  pub used : ℕ
  pub end : EndData

-- A side has used what was moved to it, or what of it stands before its end; and unless it ran out of memory, this is true of
-- the bytes that it used and those that it sent.
pub record HasReplied (conversed : List ℕ → List ℕ → Type 0) (own their : NodeData) : Type 0 where
  pub used_within : own.used ≤ own.moved
  pub moved_within : own.moved ≤ length their.sent
  pub all_used : own.end ≡ Open → own.used ≡ own.moved
  pub replies : own.end ≢ Failed fault.Memory → conversed (take own.used their.sent) own.sent

-- A world: both configs, the suite and the decisions that both sides share, and its two sides.
pub record WorldData (S D : Type 0) : Type 0 where
  pub client_config : ClientData
  pub server_config : ServerData
  pub suite : S
  pub decisions : D
  pub client : NodeData
  pub server : NodeData

-- what never changes
pub record IsSameSetup {S D : Type 0} (old new : WorldData S D) : Type 0 where
  pub same_client_config : new.client_config ≡ old.client_config
  pub same_server_config : new.server_config ≡ old.server_config
  pub same_suite : new.suite ≡ old.suite
  pub same_decisions : new.decisions ≡ old.decisions

-- the node of this side
abbrev pub node_at : {S D : Type 0} → Side → WorldData S D → NodeData
node_at side.Client w = w.client
node_at side.Server w = w.server

-- the node of the other side
abbrev pub node_opposite : {S D : Type 0} → Side → WorldData S D → NodeData
node_opposite side.Client w = w.server
node_opposite side.Server w = w.client

-- What a side's endpoint is made of.
abbrev pub config_at : {S D : Type 0} → Side → WorldData S D → ConfigData
config_at side.Client w = config_of_client w.client_config
config_at side.Server w = config_of_server w.server_config

-- How many bytes wait for a side, of those that the other has sent: those that weren't moved to it, or none once it has ended.
abbrev pub waiting_at : EndData → ℕ → ℕ → ℕ
waiting_at Open sent moved = sent - moved
waiting_at (Authenticated a) sent moved = 0
waiting_at (Failed f) sent moved = 0
waiting_at (Closed reason) sent moved = 0
waiting_at (Disconnected reason) sent moved = 0

-- how many bytes wait for a node, of those that its opposite has sent
abbrev pub waiting : NodeData → NodeData → ℕ
waiting own their = waiting_at own.end (length their.sent) own.moved

-- how many bytes wait for a side of a world
abbrev pub waiting_for : {S D : Type 0} → Side → WorldData S D → ℕ
waiting_for to w = waiting (node_at to w) (node_opposite to w)

-- nothing waits for either side
pub record Complete {S D : Type 0} (w : WorldData S D) : Type 0 where
  pub for_client : waiting w.client w.server ≡ 0
  pub for_server : waiting w.server w.client ≡ 0

-- neither side has run out of memory
pub record HadMemory {S D : Type 0} (w : WorldData S D) : Type 0 where
  pub client_had : w.client.end ≢ Failed fault.Memory
  pub server_had : w.server.end ≢ Failed fault.Memory
