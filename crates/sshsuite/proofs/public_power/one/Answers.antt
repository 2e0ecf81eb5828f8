use Rattle.std.proofs.Common.{refl}
use Rattle.sshsuite.specs.LongNumbers.{number_of, number_to, weight}
use Rattle.sshsuite.proofs.public_power.one.Goals as goal

pub returns : goal.returns
unfolding number_of number_to weight
returns c = refl
