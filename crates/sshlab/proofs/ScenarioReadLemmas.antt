-- The lines of a text, read one after the other.

use Rattle.std.proofs.Common.{◌≡◌, ◌∙◌, ℕ, ◌+◌, ◌-◌, ◌<◌, ◌≤◌, List, [], ◌∷◌, ◌++◌, length, take, get_or, refl, sym, subst, ap, add-one, arith}
use Rattle.std.specs.Prelude.{◌==◌}
use Rattle.std.specs.List.{slice_split}
use Rattle.std.proofs.lemmas.List.{take_all}
use Rattle.std.proofs.lemmas.List.Splits.{length-slice_split}
use Rattle.std.proofs.lemmas.List.Sums.{count_by-le-length}
use Rattle.std.proofs.Math.Seq.{take-suc}
use Rattle.sshneg.specs.declared.side.Side.{Side}
use Rattle.sshlab.specs.declared.scenario_settings.Setting.{Setting}
use Rattle.sshlab.specs.ScenarioDrafts.{DraftData, after_line, drafted, no_lines}
use Rattle.sshlab.specs.ScenarioText.{CanBeRead, CanFollow, IsFirstBad, settings, statements_in}
use Rattle.sshlab.specs.TextLines.{lines}
use Rattle.sshlab.proofs.ScenarioDraftLemmas.{drafted_more, drafted_settings}
use Rattle.sshlab.proofs.ScenarioLineLemmas.{read_less, read_more}
use Rattle.sshlab.proofs.TextLemmas.{parts_are}

-- the line that is read next stands after so many others
pub record IsLineAt (ls : List (List ℕ)) (n : ℕ) (line : List ℕ) : Type 0 where
  pub within : n < length ls
  pub is : line ≡ get_or ls n line

pub line_at : (text : List ℕ) (n : ℕ) (line : List ℕ)
    → (n < length (slice_split (λ b. b == 10) text)) × (line ≡ get_or (slice_split (λ b. b == 10) text) n line) → IsLineAt (lines text) n line
line_at text n line h = record {
  within = subst (λ (ls : List (List ℕ)). n < length ls) (parts_are 10 text) h.0;
  is = subst (λ (ls : List (List ℕ)). line ≡ get_or ls n line) (parts_are 10 text) h.1;
}

-- a text has one line more than LFs
pub lines_few : (text : List ℕ) → length (lines text) ≤ length text + 1
lines_few text =
    subst (λ (ls : List (List ℕ)). length ls ≤ length text + 1) (parts_are 10 text)
    (omega (arith, length-slice_split (λ b. b == 10) text, count_by-le-length (λ b. b == 10) text))

-- no line is read
pub none_bad : CanBeRead []
unfolding statements_in
none_bad = record { forms = tt; once = λ i j d before within. absurd (omega arith) }

pub none_given : no_lines ≡ drafted (statements_in [])
unfolding drafted statements_in
none_given = refl

pub lines_end : (text : List ℕ) (n : ℕ) → n ≡ length (slice_split (λ b. b == 10) text) → take n (lines text) ≡ lines text
lines_end text n h =
    let same : length (slice_split (λ b. b == 10) text) ≡ length (lines text) = ap length (parts_are 10 text) in
    take_all n (lines text) (omega arith)

module _ (ls : List (List ℕ)) (n : ℕ) (line : List ℕ) (at : IsLineAt ls n line) where
  next_line : take (n + 1) ls ≡ take n ls ++ line ∷ []
  next_line =
      ap (λ (k : ℕ). take k ls) (add-one n)
      ∙ (take-suc ls n line at.within ∙ ap (λ (x : List ℕ). take n ls ++ x ∷ []) (sym at.is))

  module _ (draft : DraftData) (read : CanBeRead (take n ls)) (is : draft ≡ drafted (statements_in (take n ls))) where
    made_are : draft.settings ≡ settings (take n ls)
    made_are = ap (λ (d : DraftData). d.settings) is ∙ drafted_settings (take n ls)

    pub reads_on : CanFollow draft.settings line → CanBeRead (take (n + 1) ls)
    reads_on follows =
        subst (λ (xs : List (List ℕ)). CanBeRead xs) (sym next_line)
        (read_more (take n ls) line read (subst (λ (made : List (Side × Setting)). CanFollow made line) made_are follows))

    pub drafts_on : (new : DraftData) → new ≡ after_line draft line → new ≡ drafted (statements_in (take (n + 1) ls))
    drafts_on new more =
        more ∙ (ap (λ (d : DraftData). after_line d line) is
        ∙ (sym (drafted_more (take n ls) line) ∙ ap (λ (xs : List (List ℕ)). drafted (statements_in xs)) (sym next_line)))

    pub stops_here : (CanFollow draft.settings line → ⊥) → IsFirstBad (n + 1) ls
    stops_here bad =
        let back : n ≡ n + 1 - 1 = omega arith in
        record {
          from_one = omega arith;
          within = let w : n < length ls = at.within in omega arith;
          before = subst (λ (k : ℕ). CanBeRead (take k ls)) back read;
          bad = λ all. bad (subst (λ (made : List (Side × Setting)). CanFollow made line) (sym made_are)
              (read_less (take n ls) line (subst (λ (xs : List (List ℕ)). CanBeRead xs) next_line all)));
        }
