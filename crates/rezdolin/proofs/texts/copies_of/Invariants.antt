use Rattle.std.proofs.Common.{◌≡◌, map, take}
use Rattle.rezdolin.proofs.texts.copies_of.Given as goal

abbrev pub invariant-loop-bytes : goal.invariant-loop-bytes
invariant-loop-bytes l = map (λ copy. copy.items) l.copies.items ≡ map (λ bytes. bytes.now) (take l.bytes-index l.list)
