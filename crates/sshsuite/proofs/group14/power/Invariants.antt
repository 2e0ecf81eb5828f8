use Rattle.std.proofs.Common.{◌≡◌, ◌*◌, ◌%◌, ◌^◌}
use Rattle.sshsuite.specs.Group14.{prime}
use Rattle.sshsuite.specs.LongNumbers.{number_of, weight}
use Rattle.sshcurve.specs.Scalar.{number_to}
use Rattle.sshsuite.proofs.group14.power.Given as goal

abbrev pub invariant-loop-i : goal.invariant-loop-i
invariant-loop-i l = number_of l.power ≡ weight 32 * number_of l.base ^ number_to l.exponent l.i % prime
