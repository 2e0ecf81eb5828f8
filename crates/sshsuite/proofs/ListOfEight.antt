-- Eight numbers, one for each number below 8.

use Rattle.std.proofs.Common.{◌≡◌, ℕ, zero, suc, ◌<◌, List, [], ◌∷◌, refl, ap₂, arith}
use Rattle.std.specs.Prelude.{slice_index}

-- the first eight values
abbrev pub eight : (ℕ → ℕ) → List ℕ
eight f = f 0 ∷ f 1 ∷ f 2 ∷ f 3 ∷ f 4 ∷ f 5 ∷ f 6 ∷ f 7 ∷ []

-- what holds at each number below 8
pub each_of_8 : (P : ℕ → Type 0) → P 0 → P 1 → P 2 → P 3 → P 4 → P 5 → P 6 → P 7 → (k : ℕ) → k < 8 → P k
each_of_8 P p0 p1 p2 p3 p4 p5 p6 p7 zero h = p0
each_of_8 P p0 p1 p2 p3 p4 p5 p6 p7 (suc zero) h = p1
each_of_8 P p0 p1 p2 p3 p4 p5 p6 p7 (suc (suc zero)) h = p2
each_of_8 P p0 p1 p2 p3 p4 p5 p6 p7 (suc (suc (suc zero))) h = p3
each_of_8 P p0 p1 p2 p3 p4 p5 p6 p7 (suc (suc (suc (suc zero)))) h = p4
each_of_8 P p0 p1 p2 p3 p4 p5 p6 p7 (suc (suc (suc (suc (suc zero))))) h = p5
each_of_8 P p0 p1 p2 p3 p4 p5 p6 p7 (suc (suc (suc (suc (suc (suc zero)))))) h = p6
each_of_8 P p0 p1 p2 p3 p4 p5 p6 p7 (suc (suc (suc (suc (suc (suc (suc zero))))))) h = p7
each_of_8 P p0 p1 p2 p3 p4 p5 p6 p7 (suc (suc (suc (suc (suc (suc (suc (suc k)))))))) h = absurd (omega arith)

-- functions that are the same below 8 have the same eight values
pub eight_same : (f g : ℕ → ℕ) → ((k : ℕ) → k < 8 → f k ≡ g k) → eight f ≡ eight g
eight_same f g e =
    ap₂ ◌∷◌ (e 0 (omega arith)) (ap₂ ◌∷◌ (e 1 (omega arith)) (ap₂ ◌∷◌ (e 2 (omega arith)) (ap₂ ◌∷◌ (e 3 (omega arith))
    (ap₂ ◌∷◌ (e 4 (omega arith)) (ap₂ ◌∷◌ (e 5 (omega arith)) (ap₂ ◌∷◌ (e 6 (omega arith)) (ap₂ ◌∷◌ (e 7 (omega arith)) refl)))))))

-- each of the eight stands at its number
pub at_eight : (f : ℕ → ℕ) (k : ℕ) → k < 8 → slice_index (eight f) k ≡ f k
at_eight f = each_of_8 (λ k. slice_index (eight f) k ≡ f k) refl refl refl refl refl refl refl refl
