use Rattle.std.proofs.Common.{◌≡◌, Option, None, Some, refl}
use Rattle.sshcore.specs.declared.session.Session.{Session}
use Rattle.sshpacket.specs.Suite.{SuiteData}
use Rattle.sshcore.specs.EndData.{AgreedData}
use Rattle.sshcore.specs.EndpointParts.{DecisionsData}
use Rattle.sshworld.specs.Joined.{AreCrosswise, HandOver}
use Rattle.sshworld.specs.Worlds.{WorldData}
use Rattle.sshpromises.proofs.sessions.handed_by_world.Goals as goal

crossed : {S D : Type 0} (meaning : S → SuiteData) (policy : D → DecisionsData) (compatible : Type 0) (w : WorldData S D) (a b : AgreedData) (r : Option (Session × Session))
    → HandOver meaning policy compatible w a b r → compatible → (p : Session × Session) × (r ≡ Some p) × AreCrosswise p.0 p.1
crossed meaning policy compatible w a b None h u = absurd h
crossed meaning policy compatible w a b (Some p) h u = (p, refl, h.crosswise u)

pub returns : goal.returns
returns g c = λ a b is other_is.
    let w = c.args.world in
    crossed g.S.Suite.meaning g.D.Decisions.policy _ w a b c.into_sessions.result (c.into_sessions.ensures.sessions a b is other_is)
    (c.follows_law.ensures.compatible (g.S.Suite.meaning w.suite) (g.D.Decisions.policy w.decisions) w.client_config w.server_config
    (g.met.S.AgreeingSuite.agrees w.suite) c.complete.ensures.holds.client_accepted c.complete.ensures.holds.server_accepted)
