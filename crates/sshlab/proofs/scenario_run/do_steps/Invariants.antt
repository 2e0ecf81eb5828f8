use Rattle.std.proofs.Common.{◌+◌, take}
use Rattle.sshworld.specs.Offered.{most_requests}
use Rattle.sshworld.specs.WorldCourse.{AreCompatibleIn, WorldHolds}
use Rattle.sshworld.specs.Worlds.{Complete, HadMemory, IsSameSetup}
use Rattle.sshlab.specs.Steps.{EndsSettling, StepsDone}
use Rattle.sshlab.proofs.scenario_run.do_steps.Given as goal

-- so many of the steps were done
abbrev pub invariant-loop-step : goal.invariant-loop-step
invariant-loop-step g l = record {
  done : StepsDone g.S.Suite.meaning g.D.Decisions.policy (take l.step-index l.steps) l.fn.world l.world;
  still : HadMemory l.fn.world → HadMemory l.world;
  setup : IsSameSetup l.fn.world l.world;
  holds : WorldHolds g.S.Suite.meaning g.D.Decisions.policy l.fn.world → WorldHolds g.S.Suite.meaning g.D.Decisions.policy l.world;
  settled : AreCompatibleIn g.S.Suite.meaning g.D.Decisions.policy l.fn.world → HadMemory l.fn.world
      → EndsSettling (most_requests l.fn.world.client_config.plan + 4) (take l.step-index l.steps) → Complete l.world;
}
