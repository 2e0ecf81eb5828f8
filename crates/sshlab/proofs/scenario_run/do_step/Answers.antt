use Rattle.std.proofs.Common.{◌+◌, sym, subst}
use Rattle.std.specs.Result.{OnOk}
use Rattle.sshworld.specs.Offered.{most_requests}
use Rattle.sshworld.specs.WorldCourse.{AreCompatibleIn}
use Rattle.sshworld.specs.Worlds.{Complete, HadMemory}
use Rattle.sshlab.specs.declared.scenario_line.Step.{Step}
use Rattle.sshlab.specs.Steps.{SettlesFor}
use Rattle.sshlab.proofs.StepLemmas.{delivery_done}
use Rattle.sshlab.proofs.scenario_run.do_step.Goals as goal

pub returns-in_ok-deliver-in-Deliver-clause-done : goal.returns-in_ok-deliver-in-Deliver-clause-done
returns-in_ok-deliver-in-Deliver-clause-done g c =
    let e = c.in_ok-deliver-in-Deliver.ensures in
    delivery_done g.S.Suite.meaning g.D.Decisions.policy c.args.step c.in-Deliver.delivery c.in_ok-deliver-in-Deliver.field-0 c.args.world.now c.deliver.new.self c.in-Deliver.is e.count e.delivered e.setup e.holds

pub returns-in-Settle-clause-settled : goal.returns-in-Settle-clause-settled
returns-in-Settle-clause-settled g c = subst
    (λ (s : Step). OnOk c.settle.result (AreCompatibleIn g.S.Suite.meaning g.D.Decisions.policy c.args.world.now → HadMemory c.args.world.now
    → SettlesFor (most_requests c.args.world.now.client_config.plan + 4) s → Complete c.settle.new.self))
    (sym c.in-Settle.is) c.settle.ensures.bound
