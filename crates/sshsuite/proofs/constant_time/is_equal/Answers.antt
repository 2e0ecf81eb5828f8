use Rattle.std.proofs.Common.{◌≡◌, ℕ, length, arith, ap, ◌∙◌, nat_eq}
use Rattle.sshsuite.proofs.ConstantTimeLemmas.{differences, equal_is}
use Rattle.sshsuite.proofs.constant_time.is_equal.Goals as goal

pub returns : goal.returns
returns c =
    let all : c.loop-i.i ≡ length c.args.a.now = omega arith in
    ap (λ (n : ℕ). nat_eq n 0) (c.loop-i.invariant ∙ ap (differences c.args.a.now c.args.b.now) all) ∙ equal_is c.args.a.now c.args.b.now c.requires
