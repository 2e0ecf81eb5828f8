-- A comparison by the bits in which two lists differ, and a choice of bytes by a bit.

use Rattle.std.proofs.Common.{◌≡◌, ℕ, zero, suc, ◌+◌, ◌-◌, ◌*◌, ◌/◌, ◌%◌, ◌^◌, ◌<◌, inl, inr, Bool, true, false, List, [], ◌∷◌, length, refl, sym, ap, ◌∙◌, add-one, arith, cond, eqb}
use Rattle.std.proofs.lemmas.Bool.{cases_Bool, eqb-false, eqb-true}
use Rattle.std.proofs.Math.Nat.{one-mul}
use Rattle.std.proofs.lemmas.List.{ext_get_or, length-replicate}
use Rattle.std.proofs.lemmas.Nat.{le_or_l, le_or_r}
use Rattle.std.proofs.lemmas.Slice.Eq.{bytes_eq-Decides}
use Rattle.std.specs.Int.Bits.{or_zero_l, xor_assoc, xor_self, xor_zero_l, xor_zero_r}
use Rattle.std.specs.Prelude.{bit_or, bit_xor, replicate, slice_index, slice_set}
use Rattle.std.specs.Str.{bytes_eq}
use Rattle.sshkeccak.specs.Repeated.{repeated}
use Rattle.sshmlkem.proofs.BitLemmas.{each_is}
use Rattle.sshmlkem.proofs.TableLemmas.{Fills, filled}

xor_own : (a b : ℕ) → bit_xor a (bit_xor a b) ≡ b
xor_own a b = sym (xor_assoc a a b) ∙ (ap (λ (n : ℕ). bit_xor n b) (xor_self a) ∙ xor_zero_l b)

-- the bits in which two lists differ, over so many places
pub differences : List ℕ → List ℕ → ℕ → ℕ
differences a b zero = 0
differences a b (suc n) = bit_or (differences a b n) (bit_xor (slice_index a n) (slice_index b n))

pub differences_none : (a b : List ℕ) → differences a b 0 ≡ 0
unfolding differences
differences_none a b = refl

pub differences_more : (a b : List ℕ) (n : ℕ) → differences a b (n + 1) ≡ bit_or (differences a b n) (bit_xor (slice_index a n) (slice_index b n))
unfolding differences
differences_more a b n = rw (add-one n) refl

xor_none : (x y : ℕ) → bit_xor x y ≡ 0 → x ≡ y
xor_none x y e = sym (xor_zero_r x) ∙ (ap (bit_xor x) (sym e) ∙ xor_own x y)

same_at : (a b : List ℕ) (n : ℕ) → differences a b n ≡ 0 → (k : ℕ) → k < n → slice_index a k ≡ slice_index b k
unfolding differences
same_at a b zero e k h = absurd (omega arith)
same_at a b (suc n) e k h =
    let front = le_or_l (differences a b n) (bit_xor (slice_index a n) (slice_index b n)) in
    let last = le_or_r (differences a b n) (bit_xor (slice_index a n) (slice_index b n)) in
    elim (cases_Bool (eqb k n)) [
      | inl is ↦ let at : k ≡ n = eqb-true k n is in rw at (xor_none (slice_index a n) (slice_index b n) (omega (arith, last, e)))
      | inr isnt ↦ let off = eqb-false k n isnt in same_at a b n (omega (arith, front, e)) k (below k n h off)
    ]
  where
    below : (k n : ℕ) → k < suc n → (k ≡ n → ⊥) → k < n
    below k n h off = omega arith

no_differences : (a : List ℕ) (n : ℕ) → differences a a n ≡ 0
unfolding differences
no_differences a zero = refl
no_differences a (suc n) = rw (no_differences a n) (or_zero_l (bit_xor (slice_index a n) (slice_index a n)) ∙ xor_self (slice_index a n))

by_both : (x y : Bool) → (x ≡ true → y ≡ true) → (y ≡ true → x ≡ true) → x ≡ y
by_both true y f g = sym (f refl)
by_both false true f g = g refl
by_both false false f g = refl

-- there are none exactly if the lists are equal
pub equal_is : (a b : List ℕ) → length a ≡ length b → eqb (differences a b (length a)) 0 ≡ bytes_eq a b
equal_is a b long =
    by_both (eqb (differences a b (length a)) 0) (bytes_eq a b)
    (λ e. (bytes_eq-Decides a b).1 (ext_get_or 0 a b long (same_at a b (length a) (eqb-true (differences a b (length a)) 0 e))))
    (λ e. let is : a ≡ b = (bytes_eq-Decides a b).0 e in
    ap (λ (n : ℕ). eqb n 0) (ap (λ (xs : List ℕ). differences a xs (length a)) (sym is) ∙ no_differences a (length a)))

-- as a bit
above_zero : (n : ℕ) → n < 256 → (n ≡ 0 → ⊥) → 1 - (n + 255) / 256 ≡ 0
above_zero n h off = omega arith

pub zero_bit : (n : ℕ) → n < 2 ^ 8 → 1 - (n + 255) / 256 ≡ cond (eqb n 0) 1 0
zero_bit n h =
    elim (cases_Bool (eqb n 0)) [
      | inl e ↦ let is : n ≡ 0 = eqb-true n 0 e in rw e (omega (arith, is))
      | inr e ↦ let none = above_zero n h (eqb-false n 0 e) in rw e none
    ]

-- a choice
pub byte_choice : (bit a b : ℕ) → bit < 2 → a < 2 ^ 8 → b < 2 ^ 8 → (a * bit % 2 ^ 8 + b * (1 - bit) % 2 ^ 8) % 2 ^ 8 ≡ cond (eqb bit 1) a b
byte_choice zero a b h low low' = omega (arith, low')
byte_choice (suc zero) a b h low low' = omega (arith, low)
byte_choice (suc (suc bit)) a b h low low' = absurd (omega (arith, h))

-- byte i of the first list where the bit is 1, else of the second
unfoldable pub with_choice : ℕ → List ℕ → List ℕ → List ℕ → ℕ → List ℕ
with_choice bit a b bytes i = slice_set bytes i (cond (eqb bit 1) (slice_index a i) (slice_index b i))

choices : ℕ → List ℕ → List ℕ → ℕ → List ℕ
choices bit a b i = cond (eqb bit 1) (slice_index a i) (slice_index b i) ∷ []

choice_fills : (bit : ℕ) (a b : List ℕ) → Fills 1 (choices bit a b) (with_choice bit a b)
unfolding with_choice choices
choice_fills bit a b = record { long = λ i. refl; is = λ xs i. ap (λ (k : ℕ). slice_set xs k (slice_index (choices bit a b i) 0)) (sym (one-mul i)) }

choices_are : (bit : ℕ) (a b : List ℕ) (i j : ℕ) → i < 32 → j < 1 → slice_index (choices bit a b i) j ≡ slice_index (cond (eqb bit 1) a b) (1 * i + j)
unfolding choices
choices_are bit a b i zero h k =
    let same : 1 * i + 0 ≡ i = omega arith in
    elim (cases_Bool (eqb bit 1)) [ inl e ↦ rw (same, e) refl | inr e ↦ rw (same, e) refl ]
choices_are bit a b i (suc j) h k = absurd (omega (arith, k))

pub choice_is : (bit : ℕ) (a b : List ℕ) → length a ≡ 32 → length b ≡ 32 → repeated (with_choice bit a b) (replicate 32 0) 32 ≡ cond (eqb bit 1) a b
choice_is bit a b long long' =
    filled 1 (choices bit a b) (with_choice bit a b) (choice_fills bit a b) (replicate 32 0) 32 32 (slice_index (cond (eqb bit 1) a b)) (omega arith) refl
    (length-replicate {A = ℕ} 32 0) (choices_are bit a b)
    ∙ sym (each_is 32 (slice_index (cond (eqb bit 1) a b)) (cond (eqb bit 1) a b) both (λ k less. refl))
  where
    both : length (cond (eqb bit 1) a b) ≡ 32
    both = elim (cases_Bool (eqb bit 1)) [ inl e ↦ rw e long | inr e ↦ rw e long' ]
