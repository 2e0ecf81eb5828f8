-- A world of a scenario, whose ends understand each other.

use Rattle.std.proofs.Common.{◌≡◌, ◌≢◌, ◌+◌, List, sym}
use Rattle.sshpacket.specs.Suite.{SuiteData}
use Rattle.sshcore.specs.declared.end.Fault.TheVariants as fault
use Rattle.sshcore.specs.ConfigParts.{ClientData, ServerData}
use Rattle.sshcore.specs.EndData.{EndData, Failed, Open}
use Rattle.sshcore.specs.EndpointParts.{DecisionsData}
use Rattle.sshworld.specs.Offered.{most_requests}
use Rattle.sshworld.specs.Conversed.{IsNew}
use Rattle.sshworld.specs.CourseReceived.{IsCourseReceived}
use Rattle.sshworld.specs.Headline.{Headline}
use Rattle.sshworld.specs.Outcome.{BothEnds, outcome}
use Rattle.sshworld.specs.Compatible.{AreCompatible}
use Rattle.sshworld.specs.WorldCourse.{AreCompatibleIn, KeepsCourse, KeepsHeadline}
use Rattle.sshworld.specs.Wordings.{wording_of}
use Rattle.sshworld.specs.Worlds.{Complete, HadMemory, WorldData}
use Rattle.sshlab.specs.declared.scenario_line.Step.{Step}
use Rattle.sshlab.specs.Steps.{EndsSettling}

-- a side that is open hasn't failed
open_had : (end : EndData) → end ≡ Open → end ≢ Failed fault.Memory
open_had end is_open failed = cc

module _ {S D : Type 0} (meaning : S → SuiteData) (policy : D → DecisionsData) where
  -- neither side of a new world has failed
  pub new_had : (w : WorldData S D) → IsNew meaning policy w → HadMemory w
  new_had w new = record { client_had = open_had w.client.end new.client.is_open; server_had = open_had w.server.end new.server.is_open }

-- where nothing waits, both ends are those of the headline
pub both_predicted : (ends : BothEnds) (client server : EndData) (complete : Type 0) → Headline ends client server complete → complete
    → (client ≡ ends.client) × (server ≡ ends.server)
both_predicted ends client server complete h c =
    let both = h.both_ended c in
    (h.as_given.client_as both.0, h.as_given.server_as both.1)

-- what is known of a world of these configs and rules
module _ {S D : Type 0} (m : SuiteData) (policy : D → DecisionsData) (client : ClientData) (server : ServerData) (rules : D) (w : WorldData S D)
    (of_client : w.client_config ≡ client) (of_server : w.server_config ≡ server) (of_rules : w.decisions ≡ rules) where
  pub course_of : AreCompatible m (policy rules) client server → HadMemory w → KeepsCourse (λ suite. m) policy w
      → IsCourseReceived m (policy rules) client server (wording_of m (policy rules) client server) w.client w.server
  course_of = rw (sym of_client, sym of_server, sym of_rules) (λ u had keeps. keeps u had)

  pub headline_of : AreCompatible m (policy rules) client server → HadMemory w → KeepsHeadline (λ suite. m) policy w
      → Headline (outcome m (policy rules) client server) w.client.end w.server.end (Complete w)
  headline_of = rw (sym of_client, sym of_server, sym of_rules) (λ u had keeps. keeps u had)

  pub settled_of : (steps read : List Step) (new : WorldData S D) → read ≡ steps → AreCompatible m (policy rules) client server → HadMemory w
      → (AreCompatibleIn (λ suite. m) policy w → HadMemory w → EndsSettling (most_requests w.client_config.plan + 4) read → Complete new)
      → EndsSettling (most_requests client.plan + 4) steps → Complete new
  settled_of steps read new same = rw (sym of_client, sym of_server, sym of_rules, sym same) (λ u had settled. settled u had)
