use Rattle.std.proofs.Common.{length}
use Rattle.sshsuite.specs.LongNumbers.{number_of, weight}
use Rattle.sshsuite.proofs.MontgomeryLemmas.{IsMultiplied}
use Rattle.sshsuite.proofs.montgomery.product.Given as goal

abbrev pub invariant-loop-i : goal.invariant-loop-i
invariant-loop-i l = IsMultiplied l.a (number_of l.b) (number_of l.modulus) l.i (number_of l.out) l.top (weight (length l.modulus))
