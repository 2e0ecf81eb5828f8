use Rattle.std.proofs.Common.{◌≡◌, ◌+◌, ◌%◌, ◌++◌, List, ℕ, subst, sym, ap₂, ◌∙◌, arith}
use Rattle.sshsuite.specs.CounterMode.{HoldsFrom, stream_more, stream_none}
use Rattle.sshsuite.proofs.StreamLemmas.{block_bytes, eight_holds, next_holds}
use Rattle.sshsuite.proofs.counter_mode.stream.Goals as goal
use Rattle.sshsuite.proofs.counter_mode.stream.Goals.{then-at-eq0, else-at-eq0}

pub loop-i-init : goal.loop-i-init
loop-i-init c =
    let keys = c.args.keys.now in
    let counter = c.args.counter in (
      c.new-bytes.ensures.items ∙ sym (stream_none keys counter),
      λ some. let at : (0 + c.args.place) % 8 ≡ c.args.place = omega (arith, c.requires.place) in
          subst (λ (n : ℕ). HoldsFrom keys counter 0 n c.args.made) (sym at) (c.requires.made (omega (arith, some, at))),
    )

pub loop-i-preserved : goal.loop-i-preserved
loop-i-preserved c =
    let keys = c.args.keys.now in
    let counter = c.args.counter in
    let i = c.loop-i.i in
    let start = c.args.place in
    let holds : HoldsFrom keys counter i ((i + start) % 8) c.if-at-eq0.eight
    = elim c.if-at-eq0.branch [
      | then-at-eq0 w ↦ subst (λ (eight : List ℕ). HoldsFrom keys counter i ((i + start) % 8) eight) (sym (w.eight-is ∙ w.eight_from-eight.ensures)) (eight_holds keys counter i ((i + start) % 8) w.if-at-eq0.true)
      | else-at-eq0 w ↦ subst (λ (eight : List ℕ). HoldsFrom keys counter i ((i + start) % 8) eight) (sym w.eight-is) (c.loop-i.invariant.1 w.if-at-eq0.false)
    ] in (
      c.in_ok-extend_from_slice.ensures.items
          ∙ (ap₂ ◌++◌ c.loop-i.invariant.0 (c.to_be_bytes.ensures ∙ block_bytes keys c.if-at-eq0.eight counter i ((i + start) % 8) (omega arith) holds)
          ∙ sym (stream_more keys counter i)),
      next_holds keys c.if-at-eq0.eight counter i start holds,
    )
