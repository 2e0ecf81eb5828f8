-- Tests over lists that are seen as data.

use Rattle.std.proofs.Common.{◌≡◌, ℕ, ◌+◌, ◌<◌, ◌≤◌, true, false, List, [], ◌∷◌, get_or, length, map, take, refl, ap, ◌∙◌, arith}
use Rattle.std.specs.List.{sum_by}
use Rattle.sshwire.specs.Types.{names_body}
use Rattle.sshcore.specs.ConfigTests.{text_is_short}
use Rattle.std.proofs.lemmas.Bool.{le-leb}
use Rattle.std.proofs.lemmas.Bool.Decides.{nat_tests}
use Rattle.std.proofs.lemmas.List.Sums.{sum_by_more_le}
use Rattle.std.proofs.lemmas.List.Folds.{fold-map}

-- what the text of a list needs, its last comma counted
abbrev pub BodyLaw : Type 0
BodyLaw = (name : List ℕ) (names : List (List ℕ)) → length (names_body (name ∷ names)) + 1 ≡ sum_by (λ (n : List ℕ). length n + 1) (name ∷ names)

room_mapped : {X : Type 0} (view : X → List ℕ) (xs : List X)
    → sum_by (λ (n : List ℕ). length n + 1) (map view xs) ≡ sum_by (λ x. length (view x) + 1) xs
room_mapped view xs = fold-map (λ a (n : List ℕ). a + (length n + 1)) view 0 xs

-- a list that needs too much is too long, and another isn't
pub list_over : {X : Type 0} → BodyLaw → (view : X → List ℕ) (xs : List X) → 1001 < sum_by (λ x. length (view x) + 1) xs
    → text_is_short (map view xs) ≡ false
list_over body view [] over = absurd (omega (arith, over))
list_over body view (x ∷ xs) over =
    let text : length (names_body (map view (x ∷ xs))) + 1 ≡ sum_by (λ x. length (view x) + 1) (x ∷ xs)
    = body (view x) (map view xs) ∙ room_mapped view (x ∷ xs) in
    grind (arith, nat_tests)

pub list_within : {X : Type 0} → BodyLaw → (view : X → List ℕ) (xs : List X) → sum_by (λ x. length (view x) + 1) xs ≤ 1001
    → text_is_short (map view xs) ≡ true
list_within body view [] within = refl
list_within body view (x ∷ xs) within =
    let text : length (names_body (map view (x ∷ xs))) + 1 ≡ sum_by (λ x. length (view x) + 1) (x ∷ xs)
    = body (view x) (map view xs) ∙ room_mapped view (x ∷ xs) in
    le-leb (length (names_body (map view (x ∷ xs)))) 1000 (omega arith)

-- what is left isn't enough for the next name
pub exceeds : {X : Type 0} (view : X → List ℕ) (xs : List X) (i : ℕ) (x : X) (left : ℕ)
    → sum_by (λ y. length (view y) + 1) (take i xs) + left ≡ 1001 → i < length xs → x ≡ get_or xs i x → left ≤ length (view x)
    → 1001 < sum_by (λ y. length (view y) + 1) xs
exceeds view xs i x left spent more at long =
    let next : sum_by (λ y. length (view y) + 1) (take i xs) + (length (view (get_or xs i x)) + 1) ≤ sum_by (λ y. length (view y) + 1) xs
    = sum_by_more_le (λ y. length (view y) + 1) xs i x more in
    let same : length (view x) ≡ length (view (get_or xs i x)) = ap (λ y. length (view y)) at in
    omega arith
