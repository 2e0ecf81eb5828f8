use Rattle.std.proofs.Common.{◌≡◌, ◌%◌}
use Rattle.sshsuite.specs.Scalar.{number}
use Rattle.sshcurve.specs.Scalar.{number_to, order}
use Rattle.sshsuite.proofs.scalar.scalar_from.Given as goal

abbrev pub invariant-loop-i : goal.invariant-loop-i
invariant-loop-i l = number l.sum ≡ number_to l.bytes l.i % order
