use Rattle.std.proofs.Common.{◌≡◌, ℕ, Bool, length, arith, ap, ◌∙◌, cond, eqb}
use Rattle.sshmlkem.proofs.ChoiceLemmas.{differences, equal_is}
use Rattle.sshmlkem.proofs.choice.same.Goals as goal

pub returns : goal.returns
returns c =
    let all : c.loop-i.i ≡ length c.args.a.now = omega arith in
    let is : c.loop-i.difference ≡ differences c.args.a.now c.args.b.now (length c.args.a.now) =
    c.loop-i.invariant ∙ ap (differences c.args.a.now c.args.b.now) all in
    c.is_zero.ensures
    ∙ (ap (λ (n : ℕ). cond (eqb n 0) 1 0) is ∙ ap (λ (t : Bool). cond t 1 0) (equal_is c.args.a.now c.args.b.now c.requires))
