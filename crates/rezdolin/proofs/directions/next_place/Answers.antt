use Rattle.std.proofs.Common.{◌∙◌, ◌<◌, ◌^◌, ◌++◌, ℕ, ap, arith, sym}
use Rattle.std.proofs.lemmas.Grind.{common_steps}
use Rattle.sshwire.specs.Types.{uint32}
use Rattle.rezdolin.proofs.DirectionLemmas.{place_whole}
use Rattle.rezdolin.proofs.directions.next_place.Goals as goal

pub returns : goal.returns
returns c =
    let high = c.from.result in
    let low = c.from-2.result in
    let small : low < 2 ^ 32 = grind (arith, common_steps) in
    place_whole c.in_ok-number.number c.in_ok-count.count high low c.args.reader.now c.next_number.new.reader c.next_number-2.new.reader c.next_number-3.new.reader c.next_number-4.new.reader small
    c.in_ok-number.ensures c.in_ok-count.ensures
    (c.in_ok-high.ensures ∙ ap (λ (k : ℕ). uint32 k ++ c.next_number-3.new.reader) (sym c.from.ensures))
    (c.in_ok-low.ensures ∙ ap (λ (k : ℕ). uint32 k ++ c.next_number-4.new.reader) (sym c.from-2.ensures))
