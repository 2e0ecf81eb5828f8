-- The headline: two sides that have ended have the ends that the outcome of their configs gives; and where nothing waits for
-- either, both have ended.

use Rattle.std.specs.Prelude.{◌≡◌, ◌≢◌, ◌↔◌, ◌∷◌}
use Rattle.sshpacket.specs.Places.{IsPrefix}
use Rattle.sshpacket.specs.Stream.{Units}
use Rattle.sshpacket.specs.Suite.{SuiteData}
use Rattle.sshcore.specs.ConfigParts.{ClientData, ServerData, version_of}
use Rattle.sshcore.specs.EndData.{AgreedData, Authenticated, EndData, Open}
use Rattle.sshcore.specs.EndpointParts.{DecisionsData}
use Rattle.sshworld.specs.Follows.{IsInPart, part_of_client, part_of_server}
use Rattle.sshworld.specs.Outcome.{BothEnds}
use Rattle.sshworld.specs.Wording.{Wording}

-- Each side that has ended has the end that is given.
pub record EndAs (ends : BothEnds) (client server : EndData) : Type 0 where
  pub client_as : client ≢ Open → client ≡ ends.client
  pub server_as : server ≢ Open → server ≡ ends.server

-- The headline, of ends that are given, how both sides stand, and whether nothing waits for either: then both have ended, and one is
-- authenticated exactly if the other is, with the same that was agreed.
pub record Headline (ends : BothEnds) (client server : EndData) (complete : Type 0) : Type 0 where
  pub as_given : EndAs ends client server
  pub both_ended : complete → (client ≢ Open) × (server ≢ Open)
  pub together : complete → (a : AgreedData) → (client ≡ Authenticated a) ↔ (server ≡ Authenticated a)

-- What one side has received and sent: the units that it has received, the payloads that it has sent, and how it stands.
pub record Told : Type 0 where
  pub units : Units
  pub answers : Units
  pub end : EndData

module _ (m : SuiteData) (d : DecisionsData) (client : ClientData) (server : ServerData) (w : Wording) (of_client of_server : Told) where
  -- Two sides with these configs are in their course: each stands in its part, and what it has received is a prefix of what the
  -- other has sent after its version line.
  pub record AreInCourse : Type 0 where
    pub client_in_part : IsInPart (part_of_client m d client server w) of_client.units of_client.answers of_client.end
    pub server_in_part : IsInPart (part_of_server m d client server w) of_server.units of_server.answers of_server.end
    pub client_received : IsPrefix of_client.units (version_of server.side ∷ of_server.answers)
    pub server_received : IsPrefix of_server.units (version_of client.side ∷ of_client.answers)

-- Each of two sides with these configs that is open has received all that the other has sent.
pub record HaveReceivedAll (client : ClientData) (server : ServerData) (of_client of_server : Told) : Type 0 where
  pub client_all : of_client.end ≡ Open → of_client.units ≡ version_of server.side ∷ of_server.answers
  pub server_all : of_server.end ≡ Open → of_server.units ≡ version_of client.side ∷ of_client.answers
