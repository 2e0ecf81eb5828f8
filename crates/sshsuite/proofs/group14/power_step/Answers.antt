use Rattle.std.proofs.Common.{◌*◌}
use Rattle.sshsuite.specs.LongNumbers.{number_of}
use Rattle.sshsuite.proofs.PowerLemmas.{chosen_is, product_is}
use Rattle.sshsuite.proofs.group14.power_step.Goals as goal

pub returns-clause-powers : goal.returns-clause-powers
returns-clause-powers c = λ x y hx hy.
    let square = product_is (number_of c.args.power.now) (number_of c.args.power.now) (number_of c.times-square.result) x x c.times-square.ensures.remainder c.times-square.ensures.below hx hx in
    let product = product_is (number_of c.times-square.result) (number_of c.args.factor.now) (number_of c.times-product.result) (x * x) y c.times-product.ensures.remainder c.times-product.ensures.below square hy in
    rw c.select_words.ensures (chosen_is x y c.args.bit c.times-square.result c.times-product.result c.requires.bit square product)
