-- A world on the course of its configs.

use Rattle.sshpacket.specs.Suite.{SuiteData}
use Rattle.sshcore.specs.ConfigParts.{ClientData, ServerData}
use Rattle.sshcore.specs.ConfigRules.{IsClient, IsServer}
use Rattle.sshcore.specs.EndpointParts.{DecisionsData}
use Rattle.sshworld.specs.declared.node.Node.{Node}
use Rattle.sshworld.specs.Conversed.{EachReplies}
use Rattle.sshworld.specs.CourseReceived.{BothReceive, IsCourseReceived, client_partner, server_partner}
use Rattle.sshworld.specs.Partners.{BothOnCourse}
use Rattle.sshworld.specs.Headline.{Headline}
use Rattle.sshworld.specs.Outcome.{outcome}
use Rattle.sshworld.specs.Nodes.{NodesStand, seen}
use Rattle.sshworld.specs.Compatible.{AreCompatible}
use Rattle.sshworld.specs.Wordings.{wording_of}
use Rattle.sshworld.specs.Worlds.{Complete, HadMemory, WorldData}

module _ {S D : Type 0} (meaning : S → SuiteData) (policy : D → DecisionsData) (w : WorldData S D) where
  -- both sides receive all that the other sends in the course of the world's configs
  abbrev pub ReceivesAll : Type 0
  ReceivesAll = BothReceive (meaning w.suite) (policy w.decisions) w.client_config w.server_config (wording_of (meaning w.suite) (policy w.decisions) w.client_config w.server_config)

  -- where both sides receive all that the other sends in the course, both are on it
  abbrev pub IsOnCourse : Type 0
  IsOnCourse = ReceivesAll → BothOnCourse (meaning w.suite) (policy w.decisions)
      (client_partner (meaning w.suite) (policy w.decisions) w.client_config w.server_config (wording_of (meaning w.suite) (policy w.decisions) w.client_config w.server_config))
      (server_partner (meaning w.suite) (policy w.decisions) w.client_config w.server_config (wording_of (meaning w.suite) (policy w.decisions) w.client_config w.server_config)) w.client w.server

  -- The two ends understand each other: what the configs ask of the suite is true of it (RFC 4253 section 8, RFC 4252 section 7).
  abbrev pub AreCompatibleIn : Type 0
  AreCompatibleIn = AreCompatible (meaning w.suite) (policy w.decisions) w.client_config w.server_config

  -- Where the two ends understand each other, and neither ran out of memory, both sides are in the course of their configs.
  abbrev pub KeepsCourse : Type 0
  KeepsCourse = AreCompatibleIn → HadMemory w
      → IsCourseReceived (meaning w.suite) (policy w.decisions) w.client_config w.server_config (wording_of (meaning w.suite) (policy w.decisions) w.client_config w.server_config) w.client w.server

  -- Where both ends understand each other and neither ran out of memory, each side that has ended has the end that the outcome gives. Where
  -- nothing waits for either, both have ended, and one is authenticated exactly if the other is.
  abbrev pub KeepsHeadline : Type 0
  KeepsHeadline = AreCompatibleIn → HadMemory w
      → Headline (outcome (meaning w.suite) (policy w.decisions) w.client_config w.server_config) w.client.end w.server.end (Complete w)

  -- What is true of every world: its configs were accepted; each side has replied to what was moved to it; both are in the course of
  -- the configs; and the headline.
  pub record WorldHolds : Type 0 where
    pub client_accepted : IsClient w.client_config
    pub server_accepted : IsServer w.server_config
    pub replies : EachReplies meaning policy w
    pub course : KeepsCourse
    pub headline : KeepsHeadline

module _ {S D : Type 0} (meaning : S → SuiteData) (policy : D → DecisionsData) where
  -- The invariant of a world, which contracts don't see: its configs were accepted, its nodes stand, and they are on the course of the
  -- configs.
  pub record WorldStands (client_config : ClientData) (server_config : ServerData) (suite : S) (decisions : D) (client server : Node S D) : Type 0 where
    pub client_accepted : IsClient client_config
    pub server_accepted : IsServer server_config
    pub nodes : NodesStand meaning policy client_config server_config suite decisions client server
    pub on_course : IsOnCourse meaning policy (seen client_config server_config suite decisions client server)
