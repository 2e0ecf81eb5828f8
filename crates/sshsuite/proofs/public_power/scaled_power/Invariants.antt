use Rattle.std.proofs.Common.{◌<◌}
use Rattle.sshsuite.specs.LongNumbers.{number_of, weight}
use Rattle.sshsuite.proofs.PublicPowerLemmas.{IsScaled}
use Rattle.sshsuite.proofs.public_power.scaled_power.Given as goal

abbrev pub invariant-loop-i : goal.invariant-loop-i
invariant-loop-i l = IsScaled (weight l.words) l.exponent (number_of l.base) (number_of l.modulus) l.i (number_of l.power) × (number_of l.power < number_of l.modulus)
