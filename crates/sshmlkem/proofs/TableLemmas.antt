-- Tables that a loop fills, some places at a step.

use Rattle.std.proofs.Common.{◌≡◌, ℕ, zero, suc, ◌+◌, ◌*◌, ◌/◌, ◌%◌, ◌≤◌, ◌<◌, inl, inr, List, [], ◌∷◌, length, refl, sym, ap, ◌∙◌, arith, eqb}
use Rattle.std.proofs.Math.Nat.{mul_comm}
use Rattle.std.proofs.lemmas.Bool.{cases_Bool, eqb-false, eqb-true}
use Rattle.std.proofs.lemmas.List.{get_or-set_other, get_or-set_same, length-set}
use Rattle.std.proofs.lemmas.Nat.{div-add-mod', div_below, mod_below, row_fits}
use Rattle.std.specs.Prelude.{slice_index, slice_set}
use Rattle.sshkeccak.specs.Repeated.{repeated}
use Rattle.sshmlkem.proofs.BitLemmas.{each_is}
use Rattle.sshmlkem.specs.Bits.{each}

-- values that are put at the places base + o, base + o + 1 and on
abbrev pub set_from : ℕ → ℕ → List ℕ → List ℕ → List ℕ
set_from base o xs [] = xs
set_from base o xs (v ∷ vs) = set_from base (o + 1) (slice_set xs (base + o) v) vs

-- at base, base + 1 and on
abbrev pub set_all : ℕ → List ℕ → List ℕ → List ℕ
set_all base xs [] = xs
set_all base xs (v ∷ vs) = set_from base 1 (slice_set xs base v) vs

from_long : (base o : ℕ) (xs vs : List ℕ) → length (set_from base o xs vs) ≡ length xs
from_long base o xs [] = refl
from_long base o xs (v ∷ vs) = from_long base (o + 1) (slice_set xs (base + o) v) vs ∙ length-set xs (base + o) v

from_before : (base o : ℕ) (xs vs : List ℕ) (k : ℕ) → k < base + o → slice_index (set_from base o xs vs) k ≡ slice_index xs k
from_before base o xs [] k h = refl
from_before base o xs (v ∷ vs) k h =
    from_before base (o + 1) (slice_set xs (base + o) v) vs k (omega (arith, h)) ∙ get_or-set_other xs (base + o) k v 0 (λ e. omega (arith, h, e))

from_here : (base o : ℕ) (xs vs : List ℕ) (j : ℕ) → j < length vs → base + o + length vs ≤ length xs
    → slice_index (set_from base o xs vs) (base + o + j) ≡ slice_index vs j
from_here base o xs [] j h room = absurd (omega (arith, h))
from_here base o xs (v ∷ vs) zero h room =
    let same : base + o + 0 ≡ base + o = omega arith in
    rw same (from_before base (o + 1) (slice_set xs (base + o) v) vs (base + o) (omega arith) ∙ get_or-set_same xs (base + o) v 0 (omega (arith, room)))
from_here base o xs (v ∷ vs) (suc j) h room =
    let long = length-set xs (base + o) v in
    let same : base + o + suc j ≡ base + (o + 1) + j = omega arith in
    rw same (from_here base (o + 1) (slice_set xs (base + o) v) vs j (omega (arith, h)) (omega (arith, room, long)))

all_from : (base : ℕ) (xs vs : List ℕ) → set_all base xs vs ≡ set_from base 0 xs vs
all_from base xs [] = refl
all_from base xs (v ∷ vs) = let same : base + 0 ≡ base = omega arith in rw same refl

-- a step that puts m values at the places m i to m i + m - 1
pub record Fills (m : ℕ) (values : ℕ → List ℕ) (step : List ℕ → ℕ → List ℕ) : Type 0 where
  pub long : (i : ℕ) → length (values i) ≡ m
  pub is : (xs : List ℕ) (i : ℕ) → step xs i ≡ set_all (m * i) xs (values i)

module _ (m : ℕ) (values : ℕ → List ℕ) (step : List ℕ → ℕ → List ℕ) (fills : Fills m values step) (start : List ℕ) where
  to : ℕ → List ℕ
  to n = repeated step start n

  to_long : (n : ℕ) → length (to n) ≡ length start
  unfolding repeated to
  to_long zero = refl
  to_long (suc n) =
      ap length (fills.is (to n) n ∙ all_from (m * n) (to n) (values n)) ∙ (from_long (m * n) 0 (to n) (values n) ∙ to_long n)

  less_or_last : (i n : ℕ) → i < suc n → (i ≡ n → ⊥) → i < n
  less_or_last i n h off = omega arith

  to_at : (n i j : ℕ) → m * n ≤ length start → i < n → j < m → slice_index (to n) (m * i + j) ≡ slice_index (values i) j
  unfolding repeated to
  to_at zero i j room h k = absurd (omega (arith, h))
  to_at (suc n) i j room h k =
      let xs : List ℕ = to n in
      let step_is : to (suc n) ≡ set_from (m * n) 0 xs (values n) = fills.is xs n ∙ all_from (m * n) xs (values n) in
      let more : m * suc n ≡ m * n + m = let a = mul_comm m (suc n) in let b = mul_comm n m in omega arith in
      let width = fills.long n in
      let size = to_long n in
      elim (cases_Bool (eqb i n)) [
        | inl e ↦
            let is : i ≡ n = eqb-true i n e in
            let place : m * i + j ≡ m * n + 0 + j = ap (λ (x : ℕ). m * x + j) is ∙ omega arith in
            ap (λ (ys : List ℕ). slice_index ys (m * i + j)) step_is
            ∙ (ap (slice_index (set_from (m * n) 0 xs (values n))) place
            ∙ (from_here (m * n) 0 xs (values n) j (omega (arith, k, width)) (omega (arith, more, room, width, size)) ∙ ap (λ (x : ℕ). slice_index (values x) j) (sym is)))
        | inr e ↦
            let less : i < n = less_or_last i n h (eqb-false i n e) in
            let fits : m * i + m ≤ m * n = let r = row_fits i m n m less (omega arith) in let a = mul_comm i m in let b = mul_comm n m in omega (arith, r, a, b) in
            ap (λ (ys : List ℕ). slice_index ys (m * i + j)) step_is
            ∙ (from_before (m * n) 0 xs (values n) (m * i + j) (omega (arith, fits, k)) ∙ to_at n i j (omega (arith, more, room)) less k)
      ]

  -- what is filled is a table
  pub filled : (n size : ℕ) (value : ℕ → ℕ) → 0 < m → m * n ≡ size → length start ≡ size
      → ((i j : ℕ) → i < n → j < m → slice_index (values i) j ≡ value (m * i + j)) → repeated step start n ≡ each size value
  unfolding to
  filled n size value some all long each_value =
      let own = to_long n in
      each_is size value (repeated step start n) (own ∙ long) (λ k h.
      let turned = mul_comm m n in
      let row : k / m < n = div_below k m n some (omega (arith, h, all, turned)) in
      let column : k % m < m = mod_below k m some in
      let place : m * (k / m) + k % m ≡ k = ap (λ (x : ℕ). x + k % m) (mul_comm m (k / m)) ∙ div-add-mod' k m in
      ap (slice_index (to n)) (sym place) ∙ (to_at n (k / m) (k % m) (omega (arith, all, long)) row column ∙ (each_value (k / m) (k % m) row column ∙ ap value place)))
