-- Bytes that are all equal: each is the one before it.

use Rattle.std.proofs.Common.{◌≡◌, ◌∙◌, ℕ, suc, Bool, false, true, List, [], ◌∷◌, ap, arith, length, replicate, sym, take, refl}
use Rattle.std.proofs.lemmas.Bool.{true≢false}
use Rattle.std.proofs.lemmas.List.{take-replicate}
use Rattle.std.proofs.lemmas.Slice.Eq.{bytes_eq-Decides}
use Rattle.std.specs.Str.{bytes_eq}
use Rattle.rezdolin.specs.Drawn.{IsUniform}

head_in : List ℕ → ℕ
head_in [] = 0
head_in (x ∷ xs) = x

tail_in : List ℕ → List ℕ
tail_in [] = []
tail_in (x ∷ xs) = xs

nothing_there : (x : ℕ) (xs : List ℕ) → x ∷ xs ≡ [] → ⊥
nothing_there x xs e = cc

-- if each byte after the first is the one before it, all are the first
all_first : (x : ℕ) (rest : List ℕ) → rest ≡ take (length rest) (x ∷ rest) → rest ≡ replicate (length rest) x
unfolding head_in tail_in
all_first x [] e = refl
all_first x (y ∷ ys) e =
    let first : y ≡ x = ap head_in e in
    let others : ys ≡ take (length ys) (y ∷ ys) = ap tail_in e in
    ap (λ b. b ∷ ys) first ∙ ap (λ l. x ∷ l) (all_first y ys others ∙ ap (replicate (length ys)) first)

-- so all are, if those after the first are found to be those before the last
pub all_same : (bytes rest : List ℕ) (x : ℕ) (same : Bool) → bytes ≡ x ∷ rest → same ≡ bytes_eq rest (take (length rest) bytes) → same ≡ true → IsUniform bytes
all_same bytes rest x same is test there =
    let front : rest ≡ take (length rest) (x ∷ rest) = (bytes_eq-Decides rest (take (length rest) bytes)).0 (sym test ∙ there) ∙ ap (take (length rest)) is in
    (x, (λ none. nothing_there x rest (sym is ∙ none)), is ∙ (ap (λ l. x ∷ l) (all_first x rest front) ∙ ap (λ l. replicate (length l) x) (sym is)))

-- and those are found to be so
pub found_same : (bytes rest : List ℕ) (x : ℕ) (same : Bool) → bytes ≡ x ∷ rest → same ≡ bytes_eq rest (take (length rest) bytes) → same ≡ false → IsUniform bytes → ⊥
unfolding tail_in
found_same bytes rest x same is test unlike all =
    let whole : x ∷ rest ≡ all.0 ∷ replicate (length rest) all.0 = sym is ∙ (all.2 ∙ ap (λ l. replicate (length l) all.0) is) in
    let others : rest ≡ replicate (length rest) all.0 = ap tail_in whole in
    let front : take (length rest) bytes ≡ rest
    = ap (take (length rest)) (all.2 ∙ ap (λ l. replicate (length l) all.0) is) ∙ (take-replicate (length rest) (suc (length rest)) all.0 (omega arith) ∙ sym others) in
    true≢false (sym ((bytes_eq-Decides rest (take (length rest) bytes)).1 (sym front)) ∙ (sym test ∙ unlike))
