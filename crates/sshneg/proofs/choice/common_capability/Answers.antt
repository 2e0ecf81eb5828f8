use Rattle.std.proofs.Common.{◌≡◌, ◌&&◌, ℕ, List, false, true, refl, sym, ◌∙◌}
use Rattle.sshneg.specs.ChoiceReadings.{is_in}
use Rattle.sshneg.proofs.PositionLemmas.{got_name, any_more, or_false}
use Rattle.sshneg.proofs.choice.common_capability.Goals.{then-lists, else-lists}
use Rattle.sshneg.proofs.choice.common_capability.Goals as goal

pub loop-position-preserved : goal.loop-position-preserved
loop-position-preserved g c =
    let got = got_name c.args.names.now c.loop-position.position c.name_at.result c.unwrap-name.result c.name_at.ensures.exact c.unwrap-name.ensures in
    let names : List (List ℕ) = c.args.names.now in
    let signs = λ (name : List ℕ). is_in c.args.server.now name && ((g.S.Suite.meaning c.args.suite.now).can name).signature in
    let encrypts = λ (name : List ℕ). is_in c.args.server.now name && ((g.S.Suite.meaning c.args.suite.now).can name).encryption in
    let more = any_more signs names c.loop-position.position c.unwrap-name.result.now got c.loop-position.common.signature c.loop-position.invariant.0 in
    let more₂ = any_more encrypts names c.loop-position.position c.unwrap-name.result.now got c.loop-position.common.encryption c.loop-position.invariant.1 in
    elim c.if-lists.branch [
      | then-lists w ↦
          let listed : is_in c.args.server.now c.unwrap-name.result.now ≡ true = sym c.lists.ensures ∙ w.if-lists.true in
          (rw (w.common-is, w.can-can.ensures, ← more, listed) refl, rw (w.common-is, w.can-can.ensures, ← more₂, listed) refl)
      | else-lists w ↦
          let unlisted : is_in c.args.server.now c.unwrap-name.result.now ≡ false = sym c.lists.ensures ∙ w.if-lists.false in
          (rw (w.common-is, ← more, unlisted) (sym (or_false _)), rw (w.common-is, ← more₂, unlisted) (sym (or_false _)))
    ]
