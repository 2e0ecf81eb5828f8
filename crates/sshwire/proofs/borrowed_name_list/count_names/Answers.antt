use Rattle.std.proofs.Common.{refl, sym, ◌∙◌}
use Rattle.std.proofs.lemmas.Bool.{eqb-false, eqb-true}
use Rattle.sshwire.proofs.NamesLeft.{body_empty, body_refused, body_taken, comma_after_none, ends_in_name, ends_in_none, no_name_byte, past_limit}
use Rattle.sshwire.proofs.borrowed_name_list.count_names.Goals.{then-len-eq-NAME_LIMIT-via-then-len-eq-NAME_LIMIT, then-len-eq-NAME_LIMIT-via-else-len-eq-NAME_LIMIT+then-not-is_name_byte}
use Rattle.sshwire.proofs.borrowed_name_list.count_names.Goals as goal

pub returns-then-is_empty : goal.returns-then-is_empty
returns-then-is_empty c =
    let n = body_empty c.args.body.now (eqb-true _ _ (sym c.is_empty.ensures ∙ c.if-is_empty.true)) in (n.names, n.count_is)

pub returns-then-len-eq0 : goal.returns-then-len-eq0
returns-then-len-eq0 c =
    body_refused c.args.body.now (eqb-false _ _ (sym c.is_empty.ensures ∙ c.if-is_empty.false))
    (comma_after_none _ _ _ _ c.loop-b.invariant _ c.loop-b-test.true refl c.if-b-eq44.true c.if-len-eq0.true)

pub returns-then-len-eq-NAME_LIMIT : goal.returns-then-len-eq-NAME_LIMIT
returns-then-len-eq-NAME_LIMIT c =
    body_refused c.args.body.now (eqb-false _ _ (sym c.is_empty.ensures ∙ c.if-is_empty.false))
    (elim c.then-len-eq-NAME_LIMIT.branch [
      | then-len-eq-NAME_LIMIT-via-then-len-eq-NAME_LIMIT w ↦
          past_limit _ _ _ _ c.loop-b.invariant _ c.loop-b-test.true refl c.if-b-eq44.false w.if-len-eq-NAME_LIMIT.true
      | then-len-eq-NAME_LIMIT-via-else-len-eq-NAME_LIMIT+then-not-is_name_byte w ↦
          no_name_byte _ _ _ _ c.loop-b.invariant _ c.loop-b-test.true refl c.if-b-eq44.false w.if-len-eq-NAME_LIMIT.false
          (sym w.is_name_byte.ensures ∙ w.if-not-is_name_byte.true)
    ])

pub returns-then-len-eq0-2 : goal.returns-then-len-eq0-2
returns-then-len-eq0-2 c =
    body_refused c.args.body.now (eqb-false _ _ (sym c.is_empty.ensures ∙ c.if-is_empty.false))
    (ends_in_none _ _ _ _ c.loop-b.invariant c.loop-b-test.false c.if-len-eq0-2.true)

pub returns-else-len-eq0-2 : goal.returns-else-len-eq0-2
returns-else-len-eq0-2 c =
    let n = body_taken c.args.body.now _ (eqb-false _ _ (sym c.is_empty.ensures ∙ c.if-is_empty.false))
    (ends_in_name _ _ _ _ c.loop-b.invariant c.loop-b-test.false c.if-len-eq0-2.false) in
    (n.names, n.count_is)
