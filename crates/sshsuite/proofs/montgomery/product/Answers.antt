use Rattle.std.proofs.Common.{◌≡◌, length, arith, ap, rules, sym, ◌∙◌}
use Rattle.sshsuite.specs.LongNumbers.{number_of, weight}
use Rattle.sshsuite.proofs.MontgomeryLemmas.{multiplied_all, multiplied_more, multiplied_none, number_of_zeros}
use Rattle.sshsuite.proofs.montgomery.product.Goals as goal

pub loop-i-init : goal.loop-i-init
loop-i-init c =
    let none : number_of c.fill.new.self ≡ 0 = ap number_of (c.fill.ensures.after (λ y e. search rules)) ∙ number_of_zeros (length c.args.out.now) in
    rw none (multiplied_none c.args.a.now (number_of c.args.b.now) (number_of c.args.modulus.now) (weight (length c.args.modulus.now)) c.requires.b)

pub loop-i-preserved : goal.loop-i-preserved
loop-i-preserved c =
    multiplied_more c.args.a.now (number_of c.args.b.now) (number_of c.args.modulus.now) c.loop-i.i (number_of c.loop-i.out) c.loop-i.top (number_of c.step-top.new.sum) c.step-top.result (weight (length c.args.modulus.now))
    c.loop-i.invariant c.step-top.ensures.remainder c.step-top.ensures.below

pub returns-clause-remainder : goal.returns-clause-remainder
returns-clause-remainder c =
    multiplied_all c.args.a.now (number_of c.args.b.now) (number_of c.args.modulus.now) c.loop-i.i (length c.args.modulus.now) (number_of c.loop-i.out) c.loop-i.top (number_of c.reduce.new.sum)
    (omega (arith, c.requires.a_long)) (sym c.requires.a_long) c.loop-i.invariant c.reduce.ensures
