use Rattle.std.proofs.Common.{◌≡◌, ◌∙◌, ◌==◌, List, ℕ, [], Some, ap, false, length, sym}
use Rattle.std.proofs.lemmas.Bool.{true≢false}
use Rattle.sshcore.proofs.record_reading.record_in.Goals as goal

some_left : (rest reader : List ℕ) → rest ≡ reader → false ≡ (length rest == 0) → reader ≡ [] → ⊥
some_left rest reader same is none = true≢false (sym (is ∙ ap (λ (l : List ℕ). length l == 0) (same ∙ none)))

pub returns-then-not-reader : goal.returns-then-not-reader
returns-then-not-reader c = λ r fits e. absurd (true≢false (sym (c.record-record.ensures r [] fits (c.new.ensures ∙ e)).2 ∙ c.if-not-reader.true))

pub returns-then-not-is_empty : goal.returns-then-not-is_empty
returns-then-not-is_empty c = λ r fits e.
    absurd (some_left c.rest.result.now c.record-record.new.self.reader c.rest.ensures.rest c.if-not-is_empty.ensures (c.record-record.ensures r [] fits (c.new.ensures ∙ e)).1)

pub returns : goal.returns
returns c = λ r fits e. ap Some (c.record-record.ensures r [] fits (c.new.ensures ∙ e)).0
