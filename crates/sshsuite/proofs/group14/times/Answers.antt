use Rattle.std.proofs.Common.{◌*◌}
use Rattle.sshsuite.specs.LongNumbers.{number_of, weight}
use Rattle.sshsuite.proofs.PowerLemmas.{below_modulus, below_prime, by_prime}
use Rattle.sshsuite.proofs.group14.times.Goals as goal

pub product-requires-clause-b : goal.product-requires-clause-b
product-requires-clause-b c = below_modulus (number_of c.args.b.now) c.requires

pub returns-clause-remainder : goal.returns-clause-remainder
returns-clause-remainder c = by_prime (weight 32 * number_of c.product.new.out) (number_of c.args.a.now * number_of c.args.b.now) c.product.ensures.remainder

pub returns-clause-below : goal.returns-clause-below
returns-clause-below c = below_prime (number_of c.product.new.out) c.product.ensures.below
