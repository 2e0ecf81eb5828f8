use Rattle.std.proofs.Common.{◌≡◌}
use Rattle.sshsuite.specs.Poly1305.{sum_to}
use Rattle.sshsuite.proofs.poly1305.sum_of.Given as goal

abbrev pub invariant-loop-i : goal.invariant-loop-i
invariant-loop-i l = l.sum ≡ sum_to l.input l.factor l.i
