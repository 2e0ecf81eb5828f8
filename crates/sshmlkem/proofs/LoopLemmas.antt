-- Loops that set one number of a list in each step, or two.

use Rattle.std.proofs.Common.{◌≡◌, ◌≢◌, ℕ, zero, suc, ◌<◌, ◌≤◌, List, [], ◌∷◌, refl, sym, ap, ap₂, ◌∙◌, arith, lit<, ⊎_elim, subst}
use Rattle.std.proofs.lemmas.Bool.{cases_lt}
use Rattle.std.proofs.lemmas.List.{length-replicate, length-set}
use Rattle.std.specs.Prelude.{slice_index, slice_set, replicate}
use Prim.{tt}
use Rattle.sshkeccak.specs.Repeated.{repeated}
use Rattle.sshmlkem.specs.Ring.{IsRing}

low_set : (xs : List ℕ) (i v : ℕ) → v < 3329 → ((k : ℕ) → slice_index xs k < 3329) → (k : ℕ) → slice_index (slice_set xs i v) k < 3329
low_set [] i v low h k = h k
low_set (x ∷ xs) zero v low h zero = low
low_set (x ∷ xs) zero v low h (suc k) = h (suc k)
low_set (x ∷ xs) (suc i) v low h zero = h 0
low_set (x ∷ xs) (suc i) v low h (suc k) = low_set xs i v low (λ k. h (suc k)) k

pub set_ring : (xs : List ℕ) (i v : ℕ) → v < 3329 → IsRing xs → IsRing (slice_set xs i v)
set_ring xs i v low h = record { long = length-set xs i v ∙ h.long; low = low_set xs i v low h.low }

low_zeros : (n i : ℕ) → slice_index (replicate n 0) i < 3329
low_zeros zero i = lit< tt
low_zeros (suc n) zero = lit< tt
low_zeros (suc n) (suc i) = low_zeros n i

pub zeros_ring : IsRing (replicate 256 0)
zeros_ring = record { long = length-replicate {A = ℕ} 256 0; low = low_zeros 256 }

-- A step that sets numbers i k and j k of a list, by both and k.
pub record SetsTwo (i j : ℕ → ℕ) (a b : ℕ → ℕ → ℕ → ℕ) (step : List ℕ → ℕ → List ℕ) : Type 0 where
  pub ring : (f : List ℕ) (k : ℕ) → IsRing f → IsRing (step f k)
  pub first : (f : List ℕ) (k : ℕ) → k < 128 → IsRing f → slice_index (step f k) (i k) ≡ a (slice_index f (i k)) (slice_index f (j k)) k
  pub second : (f : List ℕ) (k : ℕ) → k < 128 → IsRing f → slice_index (step f k) (j k) ≡ b (slice_index f (i k)) (slice_index f (j k)) k
  pub other : (f : List ℕ) (k x : ℕ) → x ≢ i k → x ≢ j k → slice_index (step f k) x ≡ slice_index f x

-- places that are apart
pub record Apart (i j : ℕ → ℕ) : Type 0 where
  pub first : (k l : ℕ) → k < 128 → l < 128 → i k ≡ i l → k ≡ l
  pub second : (k l : ℕ) → k < 128 → l < 128 → j k ≡ j l → k ≡ l
  pub both : (k l : ℕ) → k < 128 → l < 128 → i k ≢ j l

module _ (i j : ℕ → ℕ) (a b : ℕ → ℕ → ℕ → ℕ) (step : List ℕ → ℕ → List ℕ) (sets : SetsTwo i j a b step) (apart : Apart i j) (f : List ℕ) (is : IsRing f) where
  pub ring_after : (n : ℕ) → IsRing (repeated step f n)
  unfolding repeated
  ring_after zero = is
  ring_after (suc n) = sets.ring _ n (ring_after n)

  before_first : (n k : ℕ) → n ≤ k → k < 128 → slice_index (repeated step f n) (i k) ≡ slice_index f (i k)
  unfolding repeated
  before_first zero k h l = refl
  before_first (suc n) k h l =
      sets.other _ n (i k) (λ e. let g = apart.first k n l (omega (arith, h, l)) e in omega (arith, g, h)) (apart.both k n l (omega (arith, h, l)))
      ∙ before_first n k (omega (arith, h)) l

  before_second : (n k : ℕ) → n ≤ k → k < 128 → slice_index (repeated step f n) (j k) ≡ slice_index f (j k)
  unfolding repeated
  before_second zero k h l = refl
  before_second (suc n) k h l =
      sets.other _ n (j k) (λ e. apart.both n k (omega (arith, h, l)) l (sym e)) (λ e. let g = apart.second k n l (omega (arith, h, l)) e in omega (arith, g, h))
      ∙ before_second n k (omega (arith, h)) l

  pub after_first : (n k : ℕ) → n ≤ 128 → k < n → slice_index (repeated step f n) (i k) ≡ a (slice_index f (i k)) (slice_index f (j k)) k
  unfolding repeated
  after_first zero k m h = absurd (omega (arith, h))
  after_first (suc n) k m h =
      ⊎_elim (λ (l : k < n).
      sets.other _ n (i k) (λ e. let g = apart.first k n (omega (arith, h, m)) (omega (arith, m)) e in omega (arith, g, l)) (apart.both k n (omega (arith, h, m)) (omega (arith, m)))
      ∙ after_first n k (omega (arith, m)) l)
      (λ (l : n ≤ k).
      let e : n ≡ k = omega (arith, h, l) in
      let now = sets.first (repeated step f n) n (omega (arith, m)) (ring_after n) in
      let value = now ∙ ap₂ (λ (x y : ℕ). a x y n) (before_first n n (omega arith) (omega (arith, m))) (before_second n n (omega arith) (omega (arith, m))) in
      subst (λ (m : ℕ). slice_index (repeated step f (suc n)) (i m) ≡ a (slice_index f (i m)) (slice_index f (j m)) m) e value)
      (cases_lt k n)

  pub after_second : (n k : ℕ) → n ≤ 128 → k < n → slice_index (repeated step f n) (j k) ≡ b (slice_index f (i k)) (slice_index f (j k)) k
  unfolding repeated
  after_second zero k m h = absurd (omega (arith, h))
  after_second (suc n) k m h =
      ⊎_elim (λ (l : k < n).
      sets.other _ n (j k) (λ e. apart.both n k (omega (arith, m)) (omega (arith, h, m)) (sym e)) (λ e. let g = apart.second k n (omega (arith, h, m)) (omega (arith, m)) e in omega (arith, g, l))
      ∙ after_second n k (omega (arith, m)) l)
      (λ (l : n ≤ k).
      let e : n ≡ k = omega (arith, h, l) in
      let now = sets.second (repeated step f n) n (omega (arith, m)) (ring_after n) in
      let value = now ∙ ap₂ (λ (x y : ℕ). b x y n) (before_first n n (omega arith) (omega (arith, m))) (before_second n n (omega arith) (omega (arith, m))) in
      subst (λ (m : ℕ). slice_index (repeated step f (suc n)) (j m) ≡ b (slice_index f (i m)) (slice_index f (j m)) m) e value)
      (cases_lt k n)

-- A step that sets number k of a list, by itself and k.
pub record SetsOne (a : ℕ → ℕ → ℕ) (step : List ℕ → ℕ → List ℕ) : Type 0 where
  pub ring : (f : List ℕ) (k : ℕ) → IsRing f → IsRing (step f k)
  pub first : (f : List ℕ) (k : ℕ) → k < 256 → IsRing f → slice_index (step f k) k ≡ a (slice_index f k) k
  pub other : (f : List ℕ) (k x : ℕ) → x ≢ k → slice_index (step f k) x ≡ slice_index f x

module _ (a : ℕ → ℕ → ℕ) (step : List ℕ → ℕ → List ℕ) (sets : SetsOne a step) (f : List ℕ) (is : IsRing f) where
  pub ring_ones : (n : ℕ) → IsRing (repeated step f n)
  unfolding repeated
  ring_ones zero = is
  ring_ones (suc n) = sets.ring _ n (ring_ones n)

  before_one : (n k : ℕ) → n ≤ k → k < 256 → slice_index (repeated step f n) k ≡ slice_index f k
  unfolding repeated
  before_one zero k h l = refl
  before_one (suc n) k h l = sets.other _ n k (λ e. omega (arith, e, h)) ∙ before_one n k (omega (arith, h)) l

  pub after_one : (n k : ℕ) → n ≤ 256 → k < n → slice_index (repeated step f n) k ≡ a (slice_index f k) k
  unfolding repeated
  after_one zero k m h = absurd (omega (arith, h))
  after_one (suc n) k m h =
      ⊎_elim (λ (l : k < n). sets.other _ n k (λ e. omega (arith, e, l)) ∙ after_one n k (omega (arith, m)) l)
      (λ (l : n ≤ k).
      let e : n ≡ k = omega (arith, h, l) in
      let now = sets.first (repeated step f n) n (omega (arith, m)) (ring_ones n) in
      let value = now ∙ ap (λ (x : ℕ). a x n) (before_one n n (omega arith) (omega (arith, m))) in
      subst (λ (m : ℕ). slice_index (repeated step f (suc n)) m ≡ a (slice_index f m) m) e value)
      (cases_lt k n)
