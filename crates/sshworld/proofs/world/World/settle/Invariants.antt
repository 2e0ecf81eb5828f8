use Rattle.sshworld.specs.Deliveries.{Rounds}
use Rattle.sshworld.specs.Worlds.{HadMemory, IsSameSetup}
use Rattle.sshworld.proofs.WorldCourseLemmas.{ReceivedAfter}
use Rattle.sshworld.proofs.world.World.settle.Given as goal

-- so many rounds were done, and both have received what those bring
abbrev pub invariant-loop : goal.invariant-loop
invariant-loop g l = record {
  rounds : Rounds g.S.Suite.meaning g.D.Decisions.policy l.counter l.fn.self l.self;
  still : HadMemory l.fn.self → HadMemory l.self;
  setup : IsSameSetup l.fn.self l.self;
  received : ReceivedAfter g.S.Suite.meaning g.D.Decisions.policy l.fn.self l.self l.counter;
}
