use Rattle.sshsuite.proofs.LongNumberLemmas.{IsBorrow}
use Rattle.sshsuite.proofs.long_numbers.is_below.Given as goal

abbrev pub invariant-loop-i : goal.invariant-loop-i
invariant-loop-i l = IsBorrow l.a l.b l.i l.borrow
