use Rattle.std.proofs.Common.{ℕ, ◌/◌, ◌-◌, ◌^◌, refl, rules}
use Rattle.sshsuite.specs.LongNumbers.{number_of, weight}
use Rattle.sshsuite.proofs.PublicPowerLemmas.{scaled_all, scaled_more, scaled_none, scaled_same}
use Rattle.sshsuite.proofs.public_power.scaled_power.Goals as goal
use Rattle.sshsuite.proofs.public_power.scaled_power.Goals.{then-bits-gt1, else-bits-gt1}

pub loop-i-init : goal.loop-i-init
loop-i-init c = (scaled_none (weight c.args.words) c.args.exponent (number_of c.args.base.now) (number_of c.args.modulus.now) c.requires.exponent, c.requires.base)

pub loop-i-preserved : goal.loop-i-preserved
loop-i-preserved c =
    let base : ℕ = number_of c.args.base.now in
    let modulus : ℕ = number_of c.args.modulus.now in
    let front : ℕ = c.args.exponent / 2 ^ (31 - c.loop-i.i) in
    elim c.if-bits-gt1.branch [
      | then-bits-gt1 w ↦ rw w.power-is (
        scaled_more (weight c.args.words) c.args.exponent base modulus c.loop-i.i front (number_of c.loop-i.power) (number_of w.power_step-power.result) (search rules) refl (search rules) c.loop-i.invariant.0 w.power_step-power.ensures.powers,
        w.power_step-power.ensures.below,
      )
      | else-bits-gt1 w ↦ rw w.power-is (
        scaled_same (weight c.args.words) c.args.exponent base modulus c.loop-i.i front (number_of c.loop-i.power) (search rules) refl (search rules) c.loop-i.invariant.0,
        c.loop-i.invariant.1,
      )
    ]

pub returns-clause-power : goal.returns-clause-power
returns-clause-power c =
    scaled_all (weight c.args.words) c.args.exponent (number_of c.args.base.now) (number_of c.args.modulus.now) c.loop-i.i (number_of c.loop-i.power) (search rules) c.requires.some c.loop-i.invariant.0
