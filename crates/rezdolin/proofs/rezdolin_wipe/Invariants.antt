use Rattle.std.proofs.Common.{◌≡◌, length, take}
use Rattle.std.specs.Prelude.{replicate}
use Rattle.rezdolin.proofs.rezdolin_wipe.Given as goal

abbrev pub invariant-loop-index : goal.invariant-loop-index
invariant-loop-index l = (take l.index l.bytes ≡ replicate l.index 0) × (length l.bytes ≡ length l.fn.bytes)
