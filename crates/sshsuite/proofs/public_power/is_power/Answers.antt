use Rattle.std.proofs.Common.{rules, ◌∙◌}
use Rattle.sshsuite.specs.LongNumbers.{number_of}
use Rattle.sshsuite.proofs.FrontLemmas.{used_some}
use Rattle.sshsuite.proofs.PublicPowerLemmas.{odd_word, power_test}
use Rattle.sshsuite.proofs.public_power.is_power.Goals as goal

pub inverse_of-inverse-requires : goal.inverse_of-inverse-requires
inverse_of-inverse-requires c = odd_word c.args.modulus.now 127 (search rules) c.requires.odd

pub scaled_power-power-requires-clause-words : goal.scaled_power-power-requires-clause-words
scaled_power-power-requires-clause-words c = used_some c.used_words-words.result (number_of c.args.modulus.now) c.requires.one c.used_words-words.ensures.holds

pub scaled_power-scale-requires-clause-words : goal.scaled_power-scale-requires-clause-words
scaled_power-scale-requires-clause-words c = used_some c.used_words-words.result (number_of c.args.modulus.now) c.requires.one c.used_words-words.ensures.holds

pub times-own-requires-clause-some : goal.times-own-requires-clause-some
times-own-requires-clause-some c = used_some c.used_words-words.result (number_of c.args.modulus.now) c.requires.one c.used_words-words.ensures.holds

pub times-other-requires-clause-some : goal.times-other-requires-clause-some
times-other-requires-clause-some c = used_some c.used_words-words.result (number_of c.args.modulus.now) c.requires.one c.used_words-words.ensures.holds

pub returns : goal.returns
returns c =
    c.is_same.ensures
    ∙ power_test c.used_words-words.result c.args.exponent (number_of c.args.base.now) (number_of c.args.found.now) (number_of c.args.modulus.now) (number_of c.scaled_power-power.result) (number_of c.scaled_power-scale.result)
    (number_of c.times-own.result) (number_of c.times-other.result) 1 c.requires.some c.requires.one c.requires.odd (search rules) (search rules)
    c.times-own.ensures.below c.times-other.ensures.below c.scaled_power-power.ensures.power (search rules) (search rules) c.times-other.ensures.remainder
