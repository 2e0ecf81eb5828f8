-- What rounds bring to a world, as its private functions tell it: no clause of a public call names these.

use Rattle.std.specs.Prelude.{◌≡◌, ◌≤◌, ◌+◌, ℕ, length, min, take}
use Rattle.sshpacket.specs.Suite.{SuiteData}
use Rattle.sshcore.specs.ConfigParts.{ClientData, ServerData}
use Rattle.sshcore.specs.EndpointParts.{DecisionsData, client_setup, server_setup}
use Rattle.sshworld.specs.Offered.{most_requests}
use Rattle.sshneg.specs.declared.side.Side.{Side}
use Rattle.sshneg.specs.declared.side.Side.TheVariants.{Client, Server}
use Rattle.sshworld.specs.Course.{Part}
use Rattle.sshworld.specs.Deliveries.{Delivered}
use Rattle.sshworld.specs.Follows.{part_of_client, part_of_server}
use Rattle.sshworld.specs.Partners.{HasHistory}
use Rattle.sshworld.specs.Rounds.{UnitsReceived, after_rounds, round_from, server_receives_all}
use Rattle.sshworld.specs.Wording.{Wording}
use Rattle.sshworld.specs.Wordings.{wording_of}
use Rattle.sshworld.specs.WorldCourse.{AreCompatibleIn, IsOnCourse, ReceivesAll, WorldHolds}
use Rattle.sshworld.specs.Worlds.{Complete, HadMemory, IsSameSetup, NodeData, WorldData, waiting_for}

-- what both have received when all that waits was moved to one side
abbrev pub turn : Part → Part → Side → UnitsReceived → UnitsReceived
turn client server Client received = record received { client = server_receives_all server client received.server }
turn client server Server received = record received { server = server_receives_all client server received.client }

-- In each of their histories, each of two sides has received at least so many units.
pub record HaveReceived (m : SuiteData) (d : DecisionsData) (client : ClientData) (server : ServerData) (w : Wording) (received : UnitsReceived) (of_client of_server : NodeData) : Type 0 where
  pub by_client : (a : HasHistory (client_setup m d client) of_client.end (take of_client.used of_server.sent) of_client.sent) → received.client ≤ length a.units
  pub by_server : (b : HasHistory (server_setup m d server) of_server.end (take of_server.used of_client.sent) of_server.sent) → received.server ≤ length b.units

module _ {S D : Type 0} (meaning : S → SuiteData) (policy : D → DecisionsData) (w : WorldData S D) where
  -- the client's part of the course of this world
  abbrev pub part_of_client_in : Part
  part_of_client_in = part_of_client (meaning w.suite) (policy w.decisions) w.client_config w.server_config (wording_of (meaning w.suite) (policy w.decisions) w.client_config w.server_config)

  -- the server's part of the course of this world
  abbrev pub part_of_server_in : Part
  part_of_server_in = part_of_server (meaning w.suite) (policy w.decisions) w.client_config w.server_config (wording_of (meaning w.suite) (policy w.decisions) w.client_config w.server_config)

  -- each side has received at least so many units
  abbrev pub HaveReceivedIn : UnitsReceived → Type 0
  HaveReceivedIn received = HaveReceived (meaning w.suite) (policy w.decisions) w.client_config w.server_config (wording_of (meaning w.suite) (policy w.decisions) w.client_config w.server_config) received w.client w.server

  -- Where each has received what so many rounds of the course bring, and those are enough, nothing waits for either.
  abbrev pub Settles : Type 0
  Settles = AreCompatibleIn meaning policy w → HadMemory w → (r : ℕ) → most_requests w.client_config.plan + 4 ≤ r
      → HaveReceivedIn (after_rounds part_of_client_in part_of_server_in r) → Complete w

module _ {S D : Type 0} (meaning : S → SuiteData) (policy : D → DecisionsData) where
  -- Where both receive all that the other sends in the course, and neither ran out of memory, they receive what a turn to one side
  -- brings.
  abbrev pub ReceivesTurn : Side → WorldData S D → WorldData S D → Type 0
  ReceivesTurn to old new = ReceivesAll meaning policy old → HadMemory old → (received : UnitsReceived) → HaveReceivedIn meaning policy old received
      → HaveReceivedIn meaning policy new (turn (part_of_client_in meaning policy old) (part_of_server_in meaning policy old) to received)

  -- So they receive what a round brings.
  abbrev pub ReceivesRound : WorldData S D → WorldData S D → Type 0
  ReceivesRound old new = ReceivesAll meaning policy old → HadMemory old → (received : UnitsReceived) → HaveReceivedIn meaning policy old received
      → HaveReceivedIn meaning policy new (round_from (part_of_client_in meaning policy old) (part_of_server_in meaning policy old) received)

  -- what is true after a delivery, whether or not memory ran out
  pub record Keeps (old new : WorldData S D) : Type 0 where
    pub setup : IsSameSetup old new
    pub holds : WorldHolds meaning policy new
    pub was_on : IsOnCourse meaning policy old
    pub on_course : IsOnCourse meaning policy new

-- The lesser of count and what waits, which are n bytes, was moved to a side, and memory didn't run out.
pub record Moves {S D : Type 0} (to : Side) (count n : ℕ) (old new : WorldData S D) : Type 0 where
  pub counted : n ≡ min count (waiting_for to old)
  pub delivered : Delivered to n old new
  pub still : HadMemory old → HadMemory new
