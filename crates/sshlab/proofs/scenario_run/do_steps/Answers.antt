use Rattle.sshlab.proofs.StepLemmas.{at_err, settled_more, setup_then, step_more, steps_into}
use Rattle.sshlab.proofs.scenario_run.do_steps.Goals as goal

pub loop-step-preserved : goal.loop-step-preserved
loop-step-preserved g c =
    let e = c.in_ok-do_step.ensures in
    let i = c.loop-step.invariant in
    let meaning = g.S.Suite.meaning in
    let policy = g.D.Decisions.policy in
    record {
      done = step_more meaning policy c.args.steps.now c.loop-step.step-index _ c.args.world.now c.loop-step.world c.do_step.new.world c.loop-step-test.true i.done e.done;
      still = λ had. e.still (i.still had);
      setup = setup_then c.args.world.now c.loop-step.world c.do_step.new.world i.setup e.done.setup;
      holds = λ k. e.holds;
      settled = settled_more meaning policy c.args.steps.now c.loop-step.step-index _ c.args.world.now c.loop-step.world c.do_step.new.world c.loop-step-test.true i.setup i.still e.settled;
    }

pub returns-in_err-do_step-clause-stopped : goal.returns-in_err-do_step-clause-stopped
returns-in_err-do_step-clause-stopped g c = at_err c.from_residual.result
    (steps_into g.S.Suite.meaning g.D.Decisions.policy c.args.steps.now c.loop-step.step-index _ c.args.world.now c.loop-step.world c.do_step.new.world c.loop-step-test.true c.loop-step.invariant.done c.in_err-do_step.ensures.stopped)
