use Rattle.std.proofs.Common.{subst}
use Rattle.sshworld.specs.WorldCourse.{AreCompatibleIn, ReceivesAll, WorldHolds}
use Rattle.sshworld.specs.WorldRounds.{Settles}
use Rattle.sshworld.proofs.WorldCourseLemmas.{holds_in, settles_in, understands_in}
use Rattle.sshworld.proofs.world.World.holds.Goals as goal

pub returns-clause-holds : goal.returns-clause-holds
returns-clause-holds g c =
    let i = c.self.inside in
    subst (λ w. WorldHolds g.S.Suite.meaning g.D.Decisions.policy w) c.self.view_is
    (holds_in g.S.Suite.meaning g.D.Decisions.policy i.client_config i.server_config i.suite.now i.decisions.now c.below_law.ensures.laws c.course_receiving_law.ensures.receive (g.met.S.Suite.lawful i.suite.now) i.client i.server c.self.invariant)

pub returns-clause-understands : goal.returns-clause-understands
returns-clause-understands g c =
    let i = c.self.inside in
    subst (λ w. AreCompatibleIn g.S.Suite.meaning g.D.Decisions.policy w → ReceivesAll g.S.Suite.meaning g.D.Decisions.policy w) c.self.view_is
    (understands_in g.S.Suite.meaning g.D.Decisions.policy i.client_config i.server_config i.suite.now i.decisions.now c.below_law.ensures.laws c.course_receiving_law.ensures.receive (g.met.S.Suite.lawful i.suite.now) i.client i.server c.self.invariant)

pub returns-clause-settles : goal.returns-clause-settles
returns-clause-settles g c =
    let i = c.self.inside in
    subst (λ w. Settles g.S.Suite.meaning g.D.Decisions.policy w) c.self.view_is
    (settles_in g.S.Suite.meaning g.D.Decisions.policy i.client_config i.server_config i.suite.now i.decisions.now c.below_law.ensures.laws c.course_receiving_law.ensures.receive (g.met.S.Suite.lawful i.suite.now) i.client i.server c.self.invariant)
