-- Two endpoints that are joined, and what they hand over to each other.

use Rattle.std.specs.Prelude.{◌≡◌, ℕ, List, Option, None, Some, take}
use Rattle.sshneg.specs.declared.side.Side.TheVariants as role
use Rattle.sshpacket.specs.Places.{IsPrefix}
use Rattle.sshpacket.specs.Suite.{SuiteData}
use Rattle.sshcore.specs.declared.session.Session.{Session}
use Rattle.sshcore.specs.ConfigParts.{ClientData, ServerData, version_of}
use Rattle.sshcore.specs.EndData.{AgreedData, agreed_data}
use Rattle.sshcore.specs.EndpointData.{EndpointData, endpoint_setup}
use Rattle.sshcore.specs.Endpoints.{EndpointAfter, endpoint_end}
use Rattle.sshcore.specs.EndpointParts.{DecisionsData, config_of_client, config_of_server}
use Rattle.sshcore.specs.Sessions.{IsSession}
use Rattle.sshworld.specs.Worlds.{WorldData}

-- Two endpoints are joined: a client and a server with these configs, one suite and the same decisions; and what either has
-- received is a prefix of what the other has sent (RFC 4253 section 4).
pub record AreJoined {S D : Type 0} (meaning : S → SuiteData) (policy : D → DecisionsData) (client_config : ClientData) (server_config : ServerData) (client server : EndpointData S D)
    (client_received client_sent server_received server_sent : List ℕ) : Type 0 where
  pub is_client : client.role ≡ role.Client
  pub is_server : server.role ≡ role.Server
  pub of_client : client.config ≡ config_of_client client_config
  pub of_server : server.config ≡ config_of_server server_config
  pub one_suite : server.suite ≡ client.suite
  pub same_decisions : server.decisions ≡ client.decisions
  pub client_after : EndpointAfter meaning policy client client_received client_sent
  pub server_after : EndpointAfter meaning policy server server_received server_sent
  pub to_client : IsPrefix client_received server_sent
  pub to_server : IsPrefix server_received client_sent

-- Two sessions match crosswise: they agreed on the same; the version line of either is what the other has of its peer, and both have
-- one host key (RFC 4253 section 8); and the keys and the number of the next packet that either sends are those of
-- the next packet that the other receives (RFC 4253 sections 6.4 and 7.2).
pub record AreCrosswise (one other : Session) : Type 0 where
  pub same_agreed : agreed_data one.agreed ≡ agreed_data other.agreed
  pub there_version : one.own_version.items ≡ other.peer_version.items
  pub back_version : other.own_version.items ≡ one.peer_version.items
  pub same_host_key : one.host_key.items ≡ other.host_key.items
  pub there : one.outgoing ≡ other.incoming
  pub back : other.outgoing ≡ one.incoming

-- The sessions of the two sides of a world that ended authenticated. Each is what an endpoint hands over, by IsSession: two endpoints
-- are joined that have received what the sides used and have sent what the sides sent, and that stand as they do. So each session has
-- what its side agreed on and its own version line; and where the two understood each other, the sessions match crosswise.
pub record HaveSessions {S D : Type 0} (meaning : S → SuiteData) (policy : D → DecisionsData) (compatible : Type 0) (w : WorldData S D) (a b : AgreedData) (client server : Session) : Type 0 where
  pub of_client : EndpointData S D
  pub of_server : EndpointData S D
  pub client_end : endpoint_end of_client ≡ w.client.end
  pub server_end : endpoint_end of_server ≡ w.server.end
  pub one_suite : of_client.suite ≡ w.suite
  pub same_decisions : of_client.decisions ≡ w.decisions
  pub joined : AreJoined meaning policy w.client_config w.server_config of_client of_server (take w.client.used w.server.sent) w.client.sent (take w.server.used w.client.sent) w.server.sent
  pub client_session : IsSession (endpoint_setup meaning policy of_client) joined.client_after.units joined.client_after.answers joined.client_after.sizes a client
  pub server_session : IsSession (endpoint_setup meaning policy of_server) joined.server_after.units joined.server_after.answers joined.server_after.sizes b server
  pub client_agreed : agreed_data client.agreed ≡ a
  pub server_agreed : agreed_data server.agreed ≡ b
  pub client_version : client.own_version.items ≡ version_of w.client_config.side
  pub server_version : server.own_version.items ≡ version_of w.server_config.side
  pub crosswise : compatible → AreCrosswise client server

-- both endpoints hand over a session, the client's first
abbrev pub HandOver : {S D : Type 0} → (S → SuiteData) → (D → DecisionsData) → Type 0 → WorldData S D → AgreedData → AgreedData → Option (Session × Session) → Type 0
HandOver meaning policy compatible w a b None = ⊥
HandOver meaning policy compatible w a b (Some two) = HaveSessions meaning policy compatible w a b two.0 two.1
