use Rattle.std.proofs.Common.{refl, sym, ◌∙◌, arith}
use Rattle.std.proofs.lemmas.Bool.{eqb-false, eqb-true}
use Rattle.sshwire.proofs.EndLemmas.{ends_after_comma, ends_after_other, ends_whole, names_of_empty, names_of_some}
use Rattle.sshwire.proofs.name_list.ends_of.Goals.{then-b-eq44+in_ok-push, else-b-eq44}
use Rattle.sshwire.proofs.name_list.ends_of.Goals as goal

pub returns-then-is_empty : goal.returns-then-is_empty
returns-then-is_empty c =
    rw (c.in_ok-ends.ensures.items, names_of_empty c.args.body.now (eqb-true _ _ (sym c.is_empty.ensures ∙ c.if-is_empty.true))) refl

pub loop-i-preserved : goal.loop-i-preserved
loop-i-preserved c = elim c.if-b-eq44.branch [
  | then-b-eq44+in_ok-push w ↦
      rw (w.ends-is, w.in_ok-push.ensures.items) (ends_after_comma _ _ _ _ c.loop-i.invariant c.loop-i-test.true w.if-b-eq44.true)
  | else-b-eq44 w ↦ rw w.ends-is (ends_after_other _ _ _ _ c.loop-i.invariant c.loop-i-test.true w.if-b-eq44.false)
]

pub returns : goal.returns
returns c =
    rw (c.in_ok-push-2.ensures.items, names_of_some c.args.body.now (eqb-false _ _ (sym c.is_empty.ensures ∙ c.if-is_empty.false)))
    (ends_whole _ _ _ c.loop-i.i c.loop-i.invariant (omega arith))
