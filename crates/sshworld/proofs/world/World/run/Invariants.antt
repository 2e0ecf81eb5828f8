use Rattle.std.proofs.Common.{take}
use Rattle.sshworld.specs.Deliveries.{Runs}
use Rattle.sshworld.specs.Worlds.{HadMemory, IsSameSetup}
use Rattle.sshworld.proofs.world.World.run.Given as goal

-- so many deliveries of the schedule were done
abbrev pub invariant-loop-delivery : goal.invariant-loop-delivery
invariant-loop-delivery g l = record {
  runs : Runs g.S.Suite.meaning g.D.Decisions.policy (take l.delivery-index l.schedule) l.fn.self l.self;
  still : HadMemory l.fn.self → HadMemory l.self;
  setup : IsSameSetup l.fn.self l.self;
}
