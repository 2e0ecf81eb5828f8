-- How the nodes of a world stand.

use Rattle.std.specs.Prelude.{◌≡◌, ◌≢◌, ◌≤◌, ◌+◌, ℕ, false, List, [], length, take, drop}
use Rattle.sshneg.specs.declared.side.Side.{Side}
use Rattle.sshneg.specs.declared.side.Side.TheVariants as role
use Rattle.sshpacket.specs.Suite.{SuiteData}
use Rattle.sshcore.specs.declared.end.Fault.TheVariants as fault
use Rattle.sshcore.specs.ConfigParts.{ClientData, ServerData}
use Rattle.sshcore.specs.EndData.{Failed, Open, by_owner}
use Rattle.sshcore.specs.Endpoints.{Breaks, EndpointAfter, EndpointMade, Fed, endpoint_end}
use Rattle.sshcore.specs.EndpointParts.{ConfigData, DecisionsData, config_of_client, config_of_server}
use Rattle.sshworld.specs.declared.node.Node.{Node}
use Rattle.sshworld.specs.Worlds.{NodeData, WorldData}

-- a node, as callers see it
abbrev pub node_data : {S D : Type 0} → Node S D → NodeData
node_data n = record { sent = n.sent.items; moved = n.moved; used = n.used; end = endpoint_end n.endpoint }

-- a world of these nodes
abbrev pub seen : {S D : Type 0} → ClientData → ServerData → S → D → Node S D → Node S D → WorldData S D
seen client_config server_config suite decisions client server = record {
  client_config = client_config;
  server_config = server_config;
  suite = suite;
  decisions = decisions;
  client = node_data client;
  server = node_data server;
}

module _ {S D : Type 0} (meaning : S → SuiteData) (policy : D → DecisionsData) where
  -- A node beside another that has sent these bytes: it has used what was moved to it, or what of it stands before its end; and
  -- unless memory ran out, its endpoint has received what the side used and has sent what the side sent. No call of a world ends it
  -- as its owner may.
  pub record NodeStands (role : Side) (config : ConfigData) (suite : S) (decisions : D) (node : Node S D) (their_sent : List ℕ) : Type 0 where
    pub is_role : node.endpoint.role ≡ role
    pub is_config : node.endpoint.config ≡ config
    pub is_suite : node.endpoint.suite ≡ suite
    pub is_decisions : node.endpoint.decisions ≡ decisions
    pub used_within : node.used ≤ node.moved
    pub moved_within : node.moved ≤ length their_sent
    pub all_used : endpoint_end node.endpoint ≡ Open → node.used ≡ node.moved
    pub after : endpoint_end node.endpoint ≢ Failed fault.Memory → EndpointAfter meaning policy node.endpoint (take node.used their_sent) node.sent.items
    pub uncut : by_owner (endpoint_end node.endpoint) ≡ false

  -- a node that has received nothing, and has sent its first output
  pub record IsFresh (role : Side) (config : ConfigData) (suite : S) (decisions : D) (node : Node S D) : Type 0 where
    pub made : EndpointMade meaning policy role config suite decisions node.endpoint [] node.sent.items
    pub none_moved : node.moved ≡ 0
    pub none_used : node.used ≡ 0

  -- the two nodes of a world
  pub record NodesStand (client_config : ClientData) (server_config : ServerData) (suite : S) (decisions : D) (client server : Node S D) : Type 0 where
    pub client_stands : NodeStands role.Client (config_of_client client_config) suite decisions client server.sent.items
    pub server_stands : NodeStands role.Server (config_of_server server_config) suite decisions server client.sent.items

  -- The next count of the other's bytes were moved to a node that was open, and its endpoint was fed with them: memory didn't run out.
  pub record IsFed (their_sent : List ℕ) (count : ℕ) (old new : Node S D) : Type 0 where
    pub used : ℕ
    pub was_open : endpoint_end old.endpoint ≡ Open
    pub had_memory : endpoint_end new.endpoint ≢ Failed fault.Memory
    pub moved_on : new.moved ≡ old.moved + count
    pub moved_within : new.moved ≤ length their_sent
    pub used_on : new.used ≡ old.moved + used
    pub used_within : used ≤ count
    pub all_used : endpoint_end new.endpoint ≡ Open → used ≡ count
    pub fed : Fed meaning policy old.endpoint new.endpoint (take used (take count (drop old.moved their_sent))) old.sent.items new.sent.items

  -- The next count of them were, and memory ran out.
  pub record BrokenWith (their_sent : List ℕ) (count : ℕ) (old new : Node S D) : Type 0 where
    pub was_open : endpoint_end old.endpoint ≡ Open
    pub failed : endpoint_end new.endpoint ≡ Failed fault.Memory
    pub moved_on : new.moved ≡ old.moved + count
    pub moved_within : new.moved ≤ length their_sent
    pub same_used : new.used ≡ old.used
    pub breaks : Breaks meaning policy old.endpoint new.endpoint (take count (drop old.moved their_sent)) old.sent.items new.sent.items

  -- what a delivery of so many bytes does to the node that receives, where memory doesn't run out
  pub data Takes (their_sent : List ℕ) (count : ℕ) (old new : Node S D) : Type 0 where
    TakesNone : count ≡ 0 → new ≡ old → Takes their_sent count old new
    TakesSome : count ≢ 0 → IsFed their_sent count old new → Takes their_sent count old new

  -- what any delivery does to it
  pub data Receives (their_sent : List ℕ) (old new : Node S D) : Type 0 where
    ReceivesNone : new ≡ old → Receives their_sent old new
    ReceivesSome : (count : ℕ) → IsFed their_sent count old new → Receives their_sent old new
    ReceivesInto : (count : ℕ) → BrokenWith their_sent count old new → Receives their_sent old new
