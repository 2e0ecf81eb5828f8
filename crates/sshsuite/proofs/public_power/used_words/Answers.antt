use Rattle.std.proofs.Common.{◌≡◌, ◌<◌, ◌^◌, ℕ, length, arith, rules, subst, sym}
use Rattle.std.specs.Prelude.{slice_index}
use Rattle.sshsuite.specs.LongNumbers.{weight}
use Rattle.sshsuite.proofs.LongNumberLemmas.{number_all}
use Rattle.sshsuite.proofs.FrontLemmas.{used_before, used_here, used_none}
use Rattle.sshsuite.proofs.public_power.used_words.Goals as goal
use Rattle.sshsuite.proofs.public_power.used_words.Goals.{then-number-i-ne0, else-number-i-ne0}

pub loop-i-init : goal.loop-i-init
loop-i-init c = (search rules, used_none c.args.number.now, used_none c.args.number.now)

pub loop-i-preserved : goal.loop-i-preserved
loop-i-preserved c =
    let low = c.loop-i.invariant.0 in
    let fits : slice_index c.args.number.now c.loop-i.i < 2 ^ 64 = search rules in
    let whole = used_here c.args.number.now c.loop-i.i fits c.loop-i.invariant.2 in
    elim c.if-number-i-ne0.branch [
      | then-number-i-ne0 w ↦ rw w.used-is (omega arith, whole, whole)
      | else-number-i-ne0 w ↦ rw w.used-is (omega (arith, low), used_before c.args.number.now c.loop-i.i c.loop-i.used w.if-number-i-ne0.false c.loop-i.invariant.1, whole)
    ]

pub returns-clause-holds : goal.returns-clause-holds
returns-clause-holds c =
    let at : c.loop-i.i ≡ length c.args.number.now = omega (arith, c.loop-i.auto.i-end, c.loop-i-test.false, c.told-number) in
    subst (λ (n : ℕ). n < weight c.loop-i.used) (sym (number_all c.args.number.now c.loop-i.i at)) c.loop-i.invariant.1
