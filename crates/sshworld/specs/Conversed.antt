-- How the endpoints of a world stand: each has received and sent the bytes that were moved.

use Rattle.std.specs.Prelude.{◌≡◌, ℕ, List, []}
use Rattle.sshneg.specs.declared.side.Side.{Side}
use Rattle.sshneg.specs.declared.side.Side.TheVariants as role
use Rattle.sshpacket.specs.Suite.{SuiteData}
use Rattle.sshcore.specs.EndData.{EndData, Open}
use Rattle.sshcore.specs.EndpointData.{EndpointData}
use Rattle.sshcore.specs.Endpoints.{EndpointAfter, EndpointMade, endpoint_end}
use Rattle.sshcore.specs.EndpointParts.{ConfigData, DecisionsData, config_of_client, config_of_server}
use Rattle.sshworld.specs.Worlds.{HasReplied, NodeData, WorldData}

module _ {S D : Type 0} (meaning : S → SuiteData) (policy : D → DecisionsData) where
  -- An endpoint of this role, config, suite and decisions stands so, and has received and sent these bytes (RFC 4253 sections 4 to 11).
  pub record HasConversed (role : Side) (config : ConfigData) (suite : S) (decisions : D) (end : EndData) (received_bytes sent_bytes : List ℕ) : Type 0 where
    pub endpoint : EndpointData S D
    pub is_role : endpoint.role ≡ role
    pub is_config : endpoint.config ≡ config
    pub is_suite : endpoint.suite ≡ suite
    pub is_decisions : endpoint.decisions ≡ decisions
    pub is_end : endpoint_end endpoint ≡ end
    pub after : EndpointAfter meaning policy endpoint received_bytes sent_bytes

  -- A side has used what was moved to it, up to its end; and unless memory ran out, its endpoint has received what the side used
  -- and has sent what the side sent.
  abbrev pub SideReplies : Side → ConfigData → S → D → NodeData → NodeData → Type 0
  SideReplies role config suite decisions own their = HasReplied (HasConversed role config suite decisions own.end) own their

  -- Each side of a world has used what was moved to it, up to its end. Unless memory ran out, its endpoint has received what the side used
  -- and has sent what the side sent.
  pub record EachReplies (w : WorldData S D) : Type 0 where
    pub client : SideReplies role.Client (config_of_client w.client_config) w.suite w.decisions w.client w.server
    pub server : SideReplies role.Server (config_of_server w.server_config) w.suite w.decisions w.server w.client

  -- A side of a new world: it has received nothing, and has sent the first output of its endpoint (RFC 4253 sections 4.2, 7 and 7.1).
  pub record SideBegins (role : Side) (config : ConfigData) (suite : S) (decisions : D) (own : NodeData) : Type 0 where
    pub none_moved : own.moved ≡ 0
    pub none_used : own.used ≡ 0
    pub is_open : own.end ≡ Open
    pub endpoint : EndpointData S D
    pub made : EndpointMade meaning policy role config suite decisions endpoint [] own.sent

  -- a new world
  pub record IsNew (w : WorldData S D) : Type 0 where
    pub client : SideBegins role.Client (config_of_client w.client_config) w.suite w.decisions w.client
    pub server : SideBegins role.Server (config_of_server w.server_config) w.suite w.decisions w.server
