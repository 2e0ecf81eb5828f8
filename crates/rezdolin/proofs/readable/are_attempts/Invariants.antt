use Rattle.std.proofs.Common.{take}
use Rattle.std.specs.List.{AllByRecursion}
use Rattle.rezdolin.specs.Readable.{IsAttempt}
use Rattle.rezdolin.proofs.readable.are_attempts.Given as goal

abbrev pub invariant-loop-attempt : goal.invariant-loop-attempt
invariant-loop-attempt l = AllByRecursion (IsAttempt l.asks) (take l.attempt-index l.plan)
