use Rattle.std.proofs.Common.{◌≡◌, arith, ap, ◌∙◌}
use Rattle.std.specs.Prelude.{replicate}
use Rattle.sshkeccak.specs.Repeated.{repeated}
use Rattle.sshmlkem.proofs.ChoiceLemmas.{choice_is, with_choice}
use Rattle.sshmlkem.proofs.choice.chosen.Goals as goal

pub returns : goal.returns
returns c =
    let all : c.loop-i.i ≡ 32 = omega arith in
    c.loop-i.invariant ∙ (ap (repeated (with_choice c.args.bit c.args.a.now c.args.b.now) (replicate 32 0)) all
    ∙ choice_is c.args.bit c.args.a.now c.args.b.now c.told-a c.told-b)
