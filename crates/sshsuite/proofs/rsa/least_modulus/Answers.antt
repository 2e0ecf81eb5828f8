use Rattle.std.proofs.Common.{refl}
use Rattle.sshsuite.specs.LongNumbers.{number_of, number_to, weight}
use Rattle.sshsuite.proofs.rsa.least_modulus.Goals as goal

pub returns : goal.returns
unfolding number_of number_to weight
returns c = refl
