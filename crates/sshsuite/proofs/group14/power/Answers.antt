use Rattle.std.proofs.Common.{ℕ, ◌*◌, ◌%◌, ◌^◌, ap, arith, ◌∙◌}
use Rattle.sshsuite.specs.Group14.{prime}
use Rattle.sshsuite.specs.LongNumbers.{number_of, weight}
use Rattle.sshcurve.specs.Scalar.{number_to}
use Rattle.sshsuite.specs.declared.group14.TheConstants.{UNIT_SQUARE}
use Rattle.sshsuite.proofs.PowerLemmas.{factor_is, one_below, one_is, power_all, power_more, power_none, result_is, unit_is, unit_square_below, unit_square_is}
use Rattle.sshsuite.proofs.group14.power.Goals as goal

pub times-factor-requires : goal.times-factor-requires
times-factor-requires c = unit_square_below

pub loop-i-init : goal.loop-i-init
loop-i-init c = unit_is ∙ power_none (number_of c.args.base.now) c.args.exponent.now

pub loop-i-preserved : goal.loop-i-preserved
loop-i-preserved c =
    let base : ℕ = number_of c.args.base.now in
    let x : ℕ = base ^ number_to c.args.exponent.now c.loop-i.i in
    let factor = factor_is base (number_of UNIT_SQUARE) (number_of c.times-factor.result) c.times-factor.ensures.remainder c.times-factor.ensures.below unit_square_is in
    c.power_step-next.ensures.powers x base c.loop-i.invariant factor ∙ ap (λ (b : ℕ). weight 32 * (x * x * base ^ b) % prime) c.bit_at.ensures.value ∙ power_more base c.args.exponent.now c.loop-i.i

pub times-requires : goal.times-requires
times-requires c = one_below

pub returns : goal.returns
returns c =
    let base : ℕ = number_of c.args.base.now in
    let u : ℕ = base ^ number_to c.args.exponent.now c.loop-i.i in
    result_is (number_of c.loop-i.power) (number_of c.times.result) u (c.times.ensures.remainder ∙ ap (λ (n : ℕ). number_of c.loop-i.power * n % prime) one_is) c.times.ensures.below c.loop-i.invariant
    ∙ power_all base c.args.exponent.now c.loop-i.i (omega arith)
