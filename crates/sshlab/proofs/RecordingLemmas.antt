-- What the lines read so far say of a recording.

use Rattle.std.proofs.Common.{◌≡◌, ℕ, ◌+◌, ◌<◌, List, ◌∷◌, ◌++◌, length, take, drop, drop-cons, get_or, suc, sym, ap, ◌∙◌, arith, true, false}
use Rattle.std.proofs.lemmas.List.{take-append-drop}
use Rattle.std.specs.List.{list_all}
use Rattle.sshlab.specs.Recordings.{IsFirstBadLine, is_recorded}

-- a line of those that were cut, and what stands before and after it
cut_at : (ls : List (List ℕ)) (line : List ℕ) (n : ℕ) → n < length ls → line ≡ get_or ls n line → ls ≡ take n ls ++ line ∷ drop (suc n) ls
cut_at ls line n within at =
    sym (take-append-drop n ls)
    ∙ ap (λ (xs : List (List ℕ)). take n ls ++ xs) (drop-cons ls n line within ∙ ap (λ (x : List ℕ). x ∷ drop (suc n) ls) (sym at))

-- where the lines before place n can be read and the one there can't
pub bad_at : (ls before : List (List ℕ)) (line : List ℕ) (number n : ℕ) → before ≡ take n ls → n < length ls → line ≡ get_or ls n line → number ≡ n
    → length before ≡ n → list_all is_recorded before ≡ true → is_recorded line ≡ false → IsFirstBadLine (number + 1) ls
bad_at ls before line number n front within at count long readable bad = record {
  before = before;
  line = line;
  after = drop (suc n) ls;
  is = (rw front (cut_at ls line n within at));
  place = omega arith;
  readable = readable;
  bad = bad;
}
