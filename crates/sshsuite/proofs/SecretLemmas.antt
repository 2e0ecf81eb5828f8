-- A comparison of bytes of any two lengths, by the bits in which they differ.

use Rattle.std.proofs.Common.{◌≡◌, ℕ, ◌+◌, ◌<◌, inl, inr, List, length, sym, ap, ap₂, ◌∙◌, arith, eqb}
use Rattle.std.proofs.lemmas.Bool.{cases_Bool, eqb-false, eqb-true}
use Rattle.std.proofs.lemmas.List.{ext_get_or}
use Rattle.std.proofs.lemmas.Nat.{le_or_l, le_or_r}
use Rattle.std.proofs.lemmas.Slice.Eq.{bytes_eq-Decides}
use Rattle.std.specs.Int.Bits.{or_zero_l, xor_self}
use Rattle.std.specs.Prelude.{bit_or, bit_xor, slice_index}
use Rattle.std.specs.Str.{bytes_eq}
use Rattle.sshsuite.proofs.ConstantTimeLemmas.{xor_none}
use Rattle.sshsuite.proofs.TestLemmas.{by_both}

-- what a number tells of two lists after so many places: it is zero where they are one, and where it is zero they are as long, and
-- alike at these places
abbrev pub Told : List ℕ → List ℕ → ℕ → ℕ → Type 0
Told a b n d =
    (d ≡ 0 → (length a ≡ length b) × ((k : ℕ) → k < n → slice_index a k ≡ slice_index b k)) × (a ≡ b → d ≡ 0)

self_none : (x y : ℕ) → x ≡ y → bit_xor x y ≡ 0
self_none x y e = ap (bit_xor x) (sym e) ∙ xor_self x

pub told_none : (a b : List ℕ) → Told a b 0 (bit_xor (length a) (length b))
told_none a b =
    ((λ e. (xor_none (length a) (length b) e, λ k h. absurd (omega arith))), (λ e. self_none (length a) (length b) (ap length e)))

last_place : (k n : ℕ) → k < n + 1 → (k ≡ n → ⊥) → k < n
last_place k n h off = omega arith

pub told_more : (a b : List ℕ) (n d x : ℕ) → n < length b → (n < length a → x ≡ slice_index a n) → Told a b n d
    → Told a b (n + 1) (bit_or d (bit_xor x (slice_index b n)))
told_more a b n d x low own told =
    let last : ℕ = bit_xor x (slice_index b n) in
    let front = le_or_l d last in
    let back = le_or_r d last in (
      (λ e.
          let none : d ≡ 0 = omega (arith, front, e) in
          let long = (told.0 none).0 in
          let same : x ≡ slice_index b n = xor_none x (slice_index b n) (omega (arith, back, e)) in (
            long,
            λ k h. elim (cases_Bool (eqb k n)) [
              | inl is ↦ let at : k ≡ n = eqb-true k n is in rw at (sym (own (omega (arith, low, long))) ∙ same)
              | inr isnt ↦ (told.0 none).1 k (last_place k n h (eqb-false k n isnt))
            ],
          )),
      (λ e.
          let is : x ≡ slice_index b n = own (omega (arith, low, ap length e)) ∙ ap (λ (xs : List ℕ). slice_index xs n) e in
          ap₂ bit_or (told.1 e) (self_none x (slice_index b n) is) ∙ or_zero_l 0),
    )

-- after all places it tells whether they are one
pub told_all : (a b : List ℕ) (d : ℕ) → Told a b (length b) d → eqb d 0 ≡ bytes_eq a b
told_all a b d told =
    by_both (eqb d 0) (bytes_eq a b)
    (λ e. let known = told.0 (eqb-true d 0 e) in
    (bytes_eq-Decides a b).1 (ext_get_or 0 a b known.0 (λ k h. known.1 k (omega (arith, h, known.0)))))
    (λ e. ap (λ (n : ℕ). eqb n 0) (told.1 ((bytes_eq-Decides a b).0 e)))
