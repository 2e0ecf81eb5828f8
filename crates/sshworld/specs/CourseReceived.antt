-- The course of two configs, as both sides of a world receive and send it.

use Rattle.std.specs.Prelude.{◌≡◌, take, None}
use Rattle.sshneg.specs.declared.side.Side.TheVariants.{Client, Server}
use Rattle.sshpacket.specs.Suite.{SuiteData}
use Rattle.sshcore.specs.ConfigParts.{ClientData, ServerData}
use Rattle.sshcore.specs.EndpointParts.{DecisionsData, client_setup, config_of_client, config_of_server, server_setup}
use Rattle.sshworld.specs.Follows.{part_of_client, part_of_server}
use Rattle.sshworld.specs.Partners.{HasHistory, Partner, ReceivesCourse, told}
use Rattle.sshworld.specs.Headline.{AreInCourse, HaveReceivedAll}
use Rattle.sshworld.specs.Wording.{Wording}
use Rattle.sshworld.specs.Worlds.{NodeData, waiting}

module _ (m : SuiteData) (d : DecisionsData) (client : ClientData) (server : ServerData) (w : Wording) where
  -- the client of two configs as a partner
  abbrev pub client_partner : Partner
  client_partner = record { role = Client; config = config_of_client client; part = part_of_client m d client server w }

  -- the server of two configs as a partner
  abbrev pub server_partner : Partner
  server_partner = record { role = Server; config = config_of_server server; part = part_of_server m d client server w }

  -- Both directions of their course are received.
  pub record BothReceive : Type 0 where
    pub to_client : ReceivesCourse m d client_partner server_partner
    pub to_server : ReceivesCourse m d server_partner client_partner

  -- Both sides of a world have such histories that they are in their course, without a refusal; and where nothing waits for either,
  -- each that is open has received all that the other has sent.
  pub record IsCourseReceived (of_client of_server : NodeData) : Type 0 where
    pub client_history : HasHistory (client_setup m d client) of_client.end (take of_client.used of_server.sent) of_client.sent
    pub server_history : HasHistory (server_setup m d server) of_server.end (take of_server.used of_client.sent) of_server.sent
    pub client_unrefused : client_history.refusal ≡ None
    pub server_unrefused : server_history.refusal ≡ None
    pub in_course : AreInCourse m d client server w (told client_history) (told server_history)
    pub received_all : waiting of_client of_server ≡ 0 → waiting of_server of_client ≡ 0 → HaveReceivedAll client server (told client_history) (told server_history)
