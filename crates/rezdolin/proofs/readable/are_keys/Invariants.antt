use Rattle.std.proofs.Common.{take}
use Rattle.std.specs.List.{AllByRecursion}
use Rattle.rezdolin.specs.Readable.{IsPlaced}
use Rattle.rezdolin.proofs.readable.are_keys.Given as goal

abbrev pub invariant-loop-key : goal.invariant-loop-key
invariant-loop-key l = AllByRecursion (IsPlaced l.asks) (take l.key-index l.keys)
