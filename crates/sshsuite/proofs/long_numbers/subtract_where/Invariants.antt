use Rattle.sshsuite.proofs.LongNumberLemmas.{IsLess}
use Rattle.sshsuite.proofs.long_numbers.subtract_where.Given as goal

abbrev pub invariant-loop-i : goal.invariant-loop-i
invariant-loop-i l = IsLess l.rest l.initial.rest l.number l.bit l.i l.borrow
