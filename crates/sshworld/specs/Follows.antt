-- An endpoint that replies as its part of a course has it.

use Rattle.std.specs.Prelude.{◌≡◌, ◌==◌, ◌<◌, ◌≤◌, ◌++◌, ℕ, suc, None, List, [], ◌∷◌, length, if◌then◌else◌}
use Rattle.sshpacket.specs.Places.{IsPrefix}
use Rattle.sshpacket.specs.Stream.{Units}
use Rattle.sshpacket.specs.Suite.{SuiteData}
use Rattle.sshcore.specs.ConfigParts.{ClientData, ServerData}
use Rattle.sshcore.specs.EndData.{EndData, Open}
use Rattle.sshcore.specs.EndpointParts.{ConfigData, DecisionsData, Setup, client_setup, config_of_client, config_of_server, server_setup}
use Rattle.sshcore.specs.Replies.{Replies, answers_at, end_at}
use Rattle.sshcore.specs.Work.{making}
use Rattle.sshworld.specs.Course.{Part, client_part, sent_after, server_part, way_of}
use Rattle.sshworld.specs.Guesses.{guess_of}
use Rattle.sshworld.specs.Outcome.{outcome}
use Rattle.sshworld.specs.Wording.{Wording}

-- How a side stands that has received n units: it is open until it has received all that it receives.
abbrev pub end_after : Part → ℕ → EndData
end_after part n = if n == part.receives then part.final else Open

-- The units that a side sends in a course: its version line, and all payloads that it sends.
abbrev pub units_of : ConfigData → Part → Units
units_of own part = own.version ∷ sent_after part part.receives

-- At this place an endpoint answers and stands as its part has it.
pub record IsAsPart (setup : Setup) (part : Part) (before : Units) (unit : List ℕ) : Type 0 where
  pub answer : answers_at setup before unit ≡ part.group (length before)
  pub end : end_at setup before unit ≡ end_after part (suc (length before))

-- An endpoint follows its part, while it receives units of this stream: it sends first what the part has first, and at each
-- place up to the part's end it answers and stands as the part has it.
pub record FollowsPart (setup : Setup) (part : Part) (stream : Units) : Type 0 where
  pub making_is : making setup.suite setup.role setup.config ≡ part.first
  pub places : (before : Units) (unit : List ℕ) → IsPrefix (before ++ unit ∷ []) stream → length before < part.receives
      → IsAsPart setup part before unit

-- A side that has received these units, has sent these answers and has this end stands in its part: it has received no more than
-- the part receives, and has sent and stands as the part has it then.
pub record IsInPart (part : Part) (units answers : Units) (end : EndData) : Type 0 where
  pub within : length units ≤ part.receives
  pub sent : answers ≡ sent_after part (length units)
  pub ends : end ≡ end_after part (length units)

-- Whatever prefix of this stream an endpoint has received, and whatever it replied, it stands in its part.
abbrev pub KeepsPart : Setup → Part → Units → Type 0
KeepsPart setup part stream =
    (units answers : Units) (end : EndData) → IsPrefix units stream → Replies setup units None answers end → IsInPart part units answers end

module _ (m : SuiteData) (d : DecisionsData) (client : ClientData) (server : ServerData) (w : Wording) where
  -- the client's part of the course of two configs, in these words
  abbrev pub part_of_client : Part
  part_of_client = client_part w (guess_of client server) (way_of m d client server) (outcome m d client server)

  -- the server's part of the course of two configs, in these words
  abbrev pub part_of_server : Part
  part_of_server = server_part w (guess_of client server) (way_of m d client server) (outcome m d client server)

  -- Each of two endpoints with these configs follows its part, while it receives what the other sends in the course.
  pub record BothFollow : Type 0 where
    pub client_follows : FollowsPart (client_setup m d client) part_of_client (units_of (config_of_server server) part_of_server)
    pub server_follows : FollowsPart (server_setup m d server) part_of_server (units_of (config_of_client client) part_of_client)

  -- Each stands in its part then.
  pub record BothKeep : Type 0 where
    pub client_keeps : KeepsPart (client_setup m d client) part_of_client (units_of (config_of_server server) part_of_server)
    pub server_keeps : KeepsPart (server_setup m d server) part_of_server (units_of (config_of_client client) part_of_client)
