use Rattle.std.proofs.Common.{◌+◌, ◌≤◌, arith}
use Rattle.sshworld.proofs.DeliveryLemmas.{at_err, round_more, rounds_into, same_then}
use Rattle.sshworld.proofs.WorldCourseLemmas.{bound, received_more}
use Rattle.sshworld.specs.Offered.{most_requests}
use Rattle.sshworld.proofs.world.World.settle.Goals as goal

pub loop-preserved : goal.loop-preserved
loop-preserved g c =
    let e = c.in_ok-round.ensures in
    let i = c.loop.invariant in
    record {
      rounds = round_more g.S.Suite.meaning g.D.Decisions.policy c.loop.counter c.args.self.now c.loop.self c.round.new.self i.rounds e.round;
      still = λ m. e.still (i.still m);
      setup = same_then c.args.self.now c.loop.self c.round.new.self i.setup e.keeps.setup;
      received = received_more g.S.Suite.meaning g.D.Decisions.policy c.args.self.now c.loop.self c.round.new.self c.loop.counter i.setup i.still i.received e.receives;
    }

pub returns-in_err-round-clause-stopped : goal.returns-in_err-round-clause-stopped
returns-in_err-round-clause-stopped g c = at_err c.from_residual.result
    (rounds_into g.S.Suite.meaning g.D.Decisions.policy c.args.rounds c.loop.counter c.args.self.now c.loop.self c.round.new.self c.loop-test.true c.loop.invariant.rounds c.in_err-round.ensures.stopped)

pub returns-clause-bound : goal.returns-clause-bound
returns-clause-bound g c = λ compatible had few.
    let i = c.loop.invariant in
    let enough : most_requests c.args.self.now.client_config.plan + 4 ≤ c.loop.counter = omega (arith, c.loop-test.false, few) in
    bound g.S.Suite.meaning g.D.Decisions.policy c.args.self.now c.loop.self c.loop.counter i.setup i.still i.received c.holds.ensures.understands c.holds.ensures.settles compatible had enough
