-- The product over GF(2) is linear in both factors, and a power of 2 raises the other.

use Rattle.std.proofs.Common.{◌≡◌, ℕ, zero, suc, ◌+◌, ◌-◌, ◌*◌, ◌/◌, ◌%◌, ◌^◌, ◌<◌, ◌≤◌, inl, inr, Bool, true, false, refl, sym, ap, ap₂, ◌∙◌, arith, cond, eqb, ltb}
use Rattle.std.proofs.lemmas.Bool.{cases_Bool, eqb-false, eqb-true, ltb-false, ltb-true}
use Rattle.std.proofs.lemmas.Nat.{pow-add, pow_pos, shl_below, xor_lt, xor_mod, xor_shr}
use Rattle.std.proofs.Math.Nat.{div-eq_of_lt, mul_assoc, pow-le-pow_right}
use Rattle.std.specs.Int.Bits.{xor_self, xor_zero_l, xor_zero_r}
use Rattle.std.specs.Prelude.{bit_xor}
use Rattle.sshsuite.proofs.LinearLemmas.{IsLinear, agree, raised, sum_linear, then_linear}
use Rattle.sshsuite.proofs.TestLemmas.{all_below, at_each}
use Rattle.sshsuite.specs.Carryless.{carryless, carryless_to}

none_linear : IsLinear (λ a. 0)
none_linear a b = sym (xor_zero_l 0)

by_bits : (s t p : ℕ) → s < 2 → t < 2 → bit_xor s t * p ≡ bit_xor (s * p) (t * p)
by_bits zero t p h k = ap (λ (x : ℕ). x * p) (xor_zero_l t) ∙ sym (let z : 0 * p ≡ 0 = omega arith in ap (λ (x : ℕ). bit_xor x (t * p)) z ∙ xor_zero_l (t * p))
by_bits (suc zero) zero p h k = let z : 0 * p ≡ 0 = omega arith in sym (ap (bit_xor (1 * p)) z ∙ xor_zero_r (1 * p))
by_bits (suc zero) (suc zero) p h k = let z : 0 * p ≡ 0 = omega arith in z ∙ sym (xor_self (1 * p))
by_bits (suc (suc s)) t p h k = absurd (omega arith)
by_bits (suc zero) (suc (suc t)) p h k = absurd (omega arith)

-- a bit times a number is linear in the number
bit_linear : (t : ℕ) → t < 2 → IsLinear (λ a. t * a)
bit_linear zero h a b = let z : (c : ℕ) → 0 * c ≡ 0 = λ c. omega arith in z (bit_xor a b) ∙ sym (ap₂ bit_xor (z a) (z b) ∙ xor_zero_l 0)
bit_linear (suc zero) h a b = let o : (c : ℕ) → 1 * c ≡ c = λ c. omega arith in o (bit_xor a b) ∙ sym (ap₂ bit_xor (o a) (o b))
bit_linear (suc (suc t)) h a b = absurd (omega arith)

first_to : (y n : ℕ) → IsLinear (λ x. carryless_to x y n)
unfolding carryless_to
first_to y zero = none_linear
first_to y (suc n) =
    sum_linear (λ x. carryless_to x y n) (λ x. x / 2 ^ (127 - n) % 2 * (y * 2 ^ (127 - n))) (first_to y n)
    (λ a b. ap (λ (x : ℕ). x * (y * 2 ^ (127 - n))) (ap (λ (x : ℕ). x % 2) (xor_shr a b (127 - n)) ∙ xor_mod (a / 2 ^ (127 - n)) (b / 2 ^ (127 - n)) 1)
    ∙ by_bits (a / 2 ^ (127 - n) % 2) (b / 2 ^ (127 - n) % 2) (y * 2 ^ (127 - n)) (omega arith) (omega arith))

second_to : (x n : ℕ) → IsLinear (λ y. carryless_to x y n)
unfolding carryless_to
second_to x zero = none_linear
second_to x (suc n) =
    sum_linear (λ y. carryless_to x y n) (λ y. x / 2 ^ (127 - n) % 2 * (y * 2 ^ (127 - n))) (second_to x n)
    (then_linear (λ y. y * 2 ^ (127 - n)) (λ y. x / 2 ^ (127 - n) % 2 * y) (raised (127 - n)) (bit_linear (x / 2 ^ (127 - n) % 2) (omega arith)))

pub first_linear : (y : ℕ) → IsLinear (λ x. carryless x y)
unfolding carryless
first_linear y = first_to y 128

pub second_linear : (x : ℕ) → IsLinear (λ y. carryless x y)
unfolding carryless
second_linear x = second_to x 128

-- linear maps have nothing at nothing
pub at_none : (h : ℕ → ℕ) → IsLinear h → h 0 ≡ 0
at_none h l = ap h (sym (xor_self 0)) ∙ (l 0 0 ∙ xor_self (h 0))

-- the bit of a power of 2
lone_bit : ℕ → ℕ → Bool
lone_bit k n = eqb (2 ^ k / 2 ^ (127 - n) % 2) (cond (eqb (127 - n) k) 1 0)

all_lone : all_below 128 (λ k. all_below 128 (lone_bit k)) ≡ true
unfolding lone_bit
all_lone = refl

lone : (k n : ℕ) → k < 128 → n < 128 → 2 ^ k / 2 ^ (127 - n) % 2 ≡ cond (eqb (127 - n) k) 1 0
unfolding lone_bit
lone k n h l =
    eqb-true (2 ^ k / 2 ^ (127 - n) % 2) (cond (eqb (127 - n) k) 1 0)
    (at_each 128 (lone_bit k) (at_each 128 (λ j. all_below 128 (lone_bit j)) all_lone k h) n l)

before_power : (k y n : ℕ) → k < 128 → n + k ≤ 127 → carryless_to (2 ^ k) y n ≡ 0
unfolding carryless_to
before_power k y zero h l = refl
before_power k y (suc n) h l =
    let off : eqb (127 - n) k ≡ false = apart (127 - n) k (omega arith) in
    let bit : 2 ^ k / 2 ^ (127 - n) % 2 ≡ 0 = lone k n h (omega arith) ∙ ap (λ (c : Bool). cond c 1 0) off in
    let z : 0 * (y * 2 ^ (127 - n)) ≡ 0 = omega arith in
    ap₂ bit_xor (before_power k y n h (omega arith)) (ap (λ (t : ℕ). t * (y * 2 ^ (127 - n))) bit ∙ z) ∙ xor_zero_l 0
  where
    apart : (i k : ℕ) → (i ≡ k → ⊥) → eqb i k ≡ false
    apart i k off = elim (cases_Bool (eqb i k)) [ inl e ↦ absurd (off (eqb-true i k e)) | inr e ↦ e ]

from_power : (k y n : ℕ) → k < 128 → 127 < n + k → n ≤ 128 → carryless_to (2 ^ k) y n ≡ y * 2 ^ k
unfolding carryless_to
from_power k y zero h l m = absurd (omega arith)
from_power k y (suc n) h l m = elim (cases_Bool (eqb (127 - n) k)) [
  | inl is ↦
      let at : 127 - n ≡ k = eqb-true (127 - n) k is in
      let bit : 2 ^ k / 2 ^ (127 - n) % 2 ≡ 1 = lone k n h (omega arith) ∙ ap (λ (c : Bool). cond c 1 0) is in
      let o : 1 * (y * 2 ^ k) ≡ y * 2 ^ k = omega arith in
      ap₂ bit_xor (before_power k y n h (omega arith)) (ap₂ (λ (t j : ℕ). t * (y * 2 ^ j)) bit at ∙ o) ∙ xor_zero_l (y * 2 ^ k)
  | inr isnt ↦
      let off = eqb-false (127 - n) k isnt in
      let bit : 2 ^ k / 2 ^ (127 - n) % 2 ≡ 0 = lone k n h (omega arith) ∙ ap (λ (c : Bool). cond c 1 0) isnt in
      let z : 0 * (y * 2 ^ (127 - n)) ≡ 0 = omega arith in
      ap₂ bit_xor (from_power k y n h (later n k l off) (omega arith)) (ap (λ (t : ℕ). t * (y * 2 ^ (127 - n))) bit ∙ z) ∙ xor_zero_r (y * 2 ^ k)
]
  where
    later : (n k : ℕ) → 127 < suc n + k → (127 - n ≡ k → ⊥) → 127 < n + k
    later n k l off = omega arith

-- a power of 2 raises the other factor
pub by_power : (k y : ℕ) → k < 128 → carryless (2 ^ k) y ≡ y * 2 ^ k
unfolding carryless
by_power k y h = from_power k y 128 h (omega arith) (omega arith)

pub by_bit : (t y : ℕ) → t < 2 → carryless t y ≡ t * y
by_bit zero y h = at_none (λ x. carryless x y) (first_linear y) ∙ omega arith
by_bit (suc zero) y h = by_power 0 y (omega arith) ∙ omega arith
by_bit (suc (suc t)) y h = absurd (omega arith)

raised_on : (y j k : ℕ) → y * 2 ^ j * 2 ^ k ≡ y * 2 ^ (j + k)
raised_on y j k = mul_assoc y (2 ^ j) (2 ^ k) ∙ ap (λ (p : ℕ). y * p) (sym (pow-add 2 j k))

-- raising a factor raises the product
pub first_raised : (k m x y : ℕ) → m + k ≤ 128 → x < 2 ^ m → carryless (x * 2 ^ k) y ≡ carryless x y * 2 ^ k
first_raised k m x y l h =
    agree (λ a. carryless (a * 2 ^ k) y) (λ a. carryless a y * 2 ^ k) m
    (then_linear (λ a. a * 2 ^ k) (λ a. carryless a y) (raised k) (first_linear y))
    (then_linear (λ a. carryless a y) (λ a. a * 2 ^ k) (first_linear y) (raised k))
    (at_none (λ a. carryless (a * 2 ^ k) y) (then_linear (λ a. a * 2 ^ k) (λ a. carryless a y) (raised k) (first_linear y))
    ∙ sym (at_none (λ a. carryless a y * 2 ^ k) (then_linear (λ a. carryless a y) (λ a. a * 2 ^ k) (first_linear y) (raised k))))
    (λ j i. ap (λ (x : ℕ). carryless x y) (sym (pow-add 2 j k)) ∙ (by_power (j + k) y (omega arith)
    ∙ (sym (raised_on y j k) ∙ ap (λ (p : ℕ). p * 2 ^ k) (sym (by_power j y (omega arith)))))) x h

pub second_raised : (k x y : ℕ) → x < 2 ^ 128 → carryless x (y * 2 ^ k) ≡ carryless x y * 2 ^ k
second_raised k x y h =
    agree (λ a. carryless a (y * 2 ^ k)) (λ a. carryless a y * 2 ^ k) 128 (first_linear (y * 2 ^ k))
    (then_linear (λ a. carryless a y) (λ a. a * 2 ^ k) (first_linear y) (raised k))
    (at_none (λ a. carryless a (y * 2 ^ k)) (first_linear (y * 2 ^ k))
    ∙ sym (at_none (λ a. carryless a y * 2 ^ k) (then_linear (λ a. carryless a y) (λ a. a * 2 ^ k) (first_linear y) (raised k))))
    (λ j i. by_power j (y * 2 ^ k) i ∙ (turned y k j ∙ ap (λ (p : ℕ). p * 2 ^ k) (sym (by_power j y i)))) x h
  where
    turned : (y k j : ℕ) → y * 2 ^ k * 2 ^ j ≡ y * 2 ^ j * 2 ^ k
    turned y k j = raised_on y k j ∙ (ap (λ (i : ℕ). y * 2 ^ i) (let e : k + j ≡ j + k = omega arith in e) ∙ sym (raised_on y j k))

-- the bits of a product
bounded_to : (w x y n : ℕ) → n ≤ 128 → ((k : ℕ) → k < 128 → x / 2 ^ k % 2 * (y * 2 ^ k) < 2 ^ w) → carryless_to x y n < 2 ^ w
unfolding carryless_to
bounded_to w x y zero l h = pow_pos w
bounded_to w x y (suc n) l h = xor_lt w (carryless_to x y n) (x / 2 ^ (127 - n) % 2 * (y * 2 ^ (127 - n))) (bounded_to w x y n (omega arith) h) (h (127 - n) (omega arith))

bit_below : (t p w : ℕ) → t < 2 → p < 2 ^ w → t * p < 2 ^ w
bit_below zero p w h l = let z : 0 * p ≡ 0 = omega arith in let c = pow_pos w in omega (arith, z, c)
bit_below (suc zero) p w h l = let o : 1 * p ≡ p = omega arith in omega (arith, o, l)
bit_below (suc (suc t)) p w h l = absurd (omega arith)

pub widened : (p v w : ℕ) → p < 2 ^ v → v ≤ w → p < 2 ^ w
widened p v w h l = let one : 1 ≤ 2 = omega arith in let top : 2 ^ v ≤ 2 ^ w = pow-le-pow_right one l in omega (arith, h, top)

pub words_bound : (x y : ℕ) → x < 2 ^ 64 → y < 2 ^ 64 → carryless x y < 2 ^ 128
unfolding carryless
words_bound x y h l = bounded_to 128 x y 128 (omega arith) (λ k m. elim (cases_Bool (ltb k 64)) [
  | inl is ↦ let low : k < 64 = ltb-true k 64 is in
      bit_below (x / 2 ^ k % 2) (y * 2 ^ k) 128 (omega arith) (widened (y * 2 ^ k) (64 + k) 128 (shl_below y 64 k l) (omega arith))
  | inr isnt ↦ let high : 64 ≤ k = ltb-false k 64 isnt in
      let none : x / 2 ^ k ≡ 0 = div-eq_of_lt (widened x 64 k h high) in
      let z : 0 % 2 * (y * 2 ^ k) ≡ 0 = omega arith in
      let at : x / 2 ^ k % 2 * (y * 2 ^ k) ≡ 0 = ap (λ (t : ℕ). t % 2 * (y * 2 ^ k)) none ∙ z in omega (arith, at)
])

pub blocks_bound : (x y : ℕ) → y < 2 ^ 128 → carryless x y < 2 ^ 255
unfolding carryless
blocks_bound x y l = bounded_to 255 x y 128 (omega arith) (λ k m.
    bit_below (x / 2 ^ k % 2) (y * 2 ^ k) 255 (omega arith) (widened (y * 2 ^ k) (128 + k) 255 (shl_below y 128 k l) (omega arith)))
