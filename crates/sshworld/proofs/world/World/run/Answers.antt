use Rattle.sshworld.proofs.DeliveryLemmas.{at_err, done, run_more, runs_into, same_then}
use Rattle.sshworld.proofs.world.World.run.Goals as goal

pub loop-delivery-preserved : goal.loop-delivery-preserved
loop-delivery-preserved g c =
    let e = c.in_ok-deliver.ensures in
    let i = c.loop-delivery.invariant in
    record {
      runs = run_more g.S.Suite.meaning g.D.Decisions.policy c.args.schedule.now c.loop-delivery.delivery-index _ c.args.self.now c.loop-delivery.self c.deliver.new.self c.loop-delivery-test.true i.runs
          (done g.S.Suite.meaning g.D.Decisions.policy _ c.in_ok-deliver.field-0 _ c.loop-delivery.self c.deliver.new.self e.count e.delivered e.setup e.holds);
      still = λ m. e.still (i.still m);
      setup = same_then c.args.self.now c.loop-delivery.self c.deliver.new.self i.setup e.setup;
    }

pub returns-in_err-deliver-clause-stopped : goal.returns-in_err-deliver-clause-stopped
returns-in_err-deliver-clause-stopped g c = at_err c.from_residual.result
    (runs_into g.S.Suite.meaning g.D.Decisions.policy c.args.schedule.now c.loop-delivery.delivery-index _ c.args.self.now c.loop-delivery.self c.deliver.new.self c.loop-delivery-test.true c.loop-delivery.invariant.runs c.in_err-deliver.ensures.refused)
