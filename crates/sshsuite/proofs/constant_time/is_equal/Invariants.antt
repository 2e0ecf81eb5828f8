use Rattle.std.proofs.Common.{◌≡◌}
use Rattle.sshsuite.proofs.ConstantTimeLemmas.{differences}
use Rattle.sshsuite.proofs.constant_time.is_equal.Given as goal

abbrev pub invariant-loop-i : goal.invariant-loop-i
invariant-loop-i l = l.difference ≡ differences l.a l.b l.i
