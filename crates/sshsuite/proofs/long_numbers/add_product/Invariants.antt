use Rattle.sshsuite.proofs.LongNumberLemmas.{IsAdded}
use Rattle.sshsuite.proofs.long_numbers.add_product.Given as goal

abbrev pub invariant-loop-i : goal.invariant-loop-i
invariant-loop-i l = IsAdded l.sum l.initial.sum l.number l.times l.i l.carry
