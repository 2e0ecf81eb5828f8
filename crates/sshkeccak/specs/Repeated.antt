-- A step that is repeated: what a loop computes.

use Rattle.std.proofs.Common.{◌≡◌, add-one, refl}
use Rattle.std.specs.Prelude.{ℕ, zero, suc, ◌+◌}

-- the value after the steps 0 to n - 1, each applied to what the one before gave
unfoldable pub repeated : {A : Type 0} → (A → ℕ → A) → A → ℕ → A
repeated step a zero = a
repeated step a (suc n) = step (repeated step a n) n

-- steps of the loop
pub repeated_none : {A : Type 0} (step : A → ℕ → A) (a : A) → repeated step a 0 ≡ a
unfolding repeated
repeated_none step a = refl

pub repeated_more : {A : Type 0} (step : A → ℕ → A) (a : A) (n : ℕ) → repeated step a (n + 1) ≡ step (repeated step a n) n
unfolding repeated
repeated_more step a n = rw (add-one n) refl
