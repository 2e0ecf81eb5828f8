use Rattle.std.proofs.Common.{◌%◌, rules}
use Rattle.sshsuite.specs.LongNumbers.{number_of, weight}
use Rattle.sshsuite.proofs.PublicPowerLemmas.{even_step, odd_step}
use Rattle.sshsuite.proofs.public_power.power_step.Goals as goal

pub returns-then-exponent-eq1-clause-powers : goal.returns-then-exponent-eq1-clause-powers
returns-then-exponent-eq1-clause-powers c = λ n h.
    odd_step (weight c.args.words) n (number_of c.args.power.now) (number_of c.args.base.now) (number_of c.times-square.result) (number_of c.times.result) (number_of c.args.modulus.now) (c.args.exponent % 2) (search rules)
    c.times-square.ensures.remainder c.times.ensures.remainder h

pub returns-else-exponent-eq1-clause-powers : goal.returns-else-exponent-eq1-clause-powers
returns-else-exponent-eq1-clause-powers c = λ n h.
    even_step (weight c.args.words) n (number_of c.args.power.now) (number_of c.args.base.now) (number_of c.times-square.result) (number_of c.args.modulus.now) (c.args.exponent % 2) (search rules)
    c.times-square.ensures.remainder h
