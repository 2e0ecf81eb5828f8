-- The code computes Poly1305 in numbers.

use Rattle.std.proofs.Common.{◌≡◌, ℕ, zero, suc, ◌+◌, ◌-◌, ◌*◌, ◌/◌, ◌%◌, ◌^◌, ◌<◌, ◌≤◌, Bool, true, false, List, ◌∷◌, ◌++◌, length, refl, sym, ap, ap₂, ◌∙◌, arith, cond, eqb}
use Rattle.std.proofs.lemmas.Nat.{and_le_r}
use Rattle.std.specs.Int.{w128, to_le_bytes}
use Rattle.std.specs.Int.Bits.{or_zero_r}
use Rattle.std.specs.Prelude.{bit_and, bit_or, replicate, slice_index}
use Rattle.sshwire.specs.ByteLaws.{bytes_append, bytes_cons, bytes_dropped, bytes_taken}
use Rattle.sshwire.specs.Types.{IsBytes}
use Rattle.sshcurve.specs.Bits.{word_at}
use Rattle.sshsuite.specs.FieldValues.{AreBelow}
use Rattle.sshsuite.specs.Limbs.{add64, mul64}
use Rattle.sshsuite.specs.Poly1305.{accumulated, add, block_at, block_limbs, canonical, carried, clamped_r, dot, limbs_of, mul, packed, s_of, sum_to, tag_of}
use Rattle.sshsuite.proofs.LimbLemmas.{IsRadix, at_places, dotted, folded, passed, reduced_value, times_small, whole64, wider}
use Rattle.sshsuite.proofs.WordLemmas.{or_high, word_low, zero_bytes}
use Rattle.sshsuite.specs.PolyNumbers.{accumulator, block_number, mac, modulus, number_of_16, r_number, s_number}

-- the number of five limbs
abbrev pub weighed : ℕ → ℕ → ℕ → ℕ → ℕ → ℕ
weighed c0 c1 c2 c3 c4 = c0 + 67108864 * c1 + 4503599627370496 * c2 + 302231454903657293676544 * c3 + 20282409603651670423947251286016 * c4

abbrev pub value : List ℕ → ℕ
value a = weighed (slice_index a 0) (slice_index a 1) (slice_index a 2) (slice_index a 3) (slice_index a 4)

-- Two words as limbs.
third : (low high : ℕ) → low < 2 ^ 64 → bit_or (low / 2 ^ 52) (high * 2 ^ 12 % 2 ^ 64) % 2 ^ 26 ≡ high % 2 ^ 14 * 2 ^ 12 + low / 2 ^ 52
third low high h =
    let e : high * 2 ^ 12 % 2 ^ 64 ≡ high % 2 ^ 52 * 2 ^ 12 = omega arith in
    ap (λ (n : ℕ). n % 2 ^ 26) (ap (bit_or (low / 2 ^ 52)) e ∙ or_high (high % 2 ^ 52) 12 (low / 2 ^ 52) (omega arith)) ∙ omega arith

five : (low high l0 l1 l2 l3 l4 : ℕ) → l0 ≡ low % 2 ^ 26 → l1 ≡ low / 2 ^ 26 % 2 ^ 26 → l2 ≡ high % 2 ^ 14 * 2 ^ 12 + low / 2 ^ 52 → l3 ≡ high / 2 ^ 14 % 2 ^ 26
    → l4 ≡ high / 2 ^ 40 → weighed l0 l1 l2 l3 l4 ≡ low + 2 ^ 64 * high
five low high l0 l1 l2 l3 l4 e0 e1 e2 e3 e4 = omega arith

five_above : (low high l0 l1 l2 l3 l4 : ℕ) → l0 ≡ low % 2 ^ 26 → l1 ≡ low / 2 ^ 26 % 2 ^ 26 → l2 ≡ high % 2 ^ 14 * 2 ^ 12 + low / 2 ^ 52 → l3 ≡ high / 2 ^ 14 % 2 ^ 26
    → l4 ≡ 2 ^ 24 + high / 2 ^ 40 → weighed l0 l1 l2 l3 l4 ≡ low + 2 ^ 64 * high + 2 ^ 128
five_above low high l0 l1 l2 l3 l4 e0 e1 e2 e3 e4 = omega arith

low26 : (x : ℕ) → x % 2 ^ 26 < 2 ^ 26
low26 x = omega arith

or_none : (x : ℕ) → bit_or x 0 ≡ x
or_none x = or_zero_r x

plain_limbs : (low high : ℕ) → low < 2 ^ 64 → high < 2 ^ 64 → AreBelow (2 ^ 26) (limbs_of low high 0) × (value (limbs_of low high 0) ≡ low + 2 ^ 64 * high)
unfolding limbs_of
plain_limbs low high h k =
    let top = or_none (high / 2 ^ 40) in (
      record { l0 = low26 low; l1 = low26 (low / 2 ^ 26); l2 = low26 _; l3 = low26 (high / 2 ^ 14); l4 = omega (arith, top, k) },
      five low high _ _ _ _ _ refl refl (third low high h) refl top,
    )

topped_limbs : (low high : ℕ) → low < 2 ^ 64 → high < 2 ^ 64
    → AreBelow (2 ^ 26) (limbs_of low high (2 ^ 24)) × (value (limbs_of low high (2 ^ 24)) ≡ low + 2 ^ 64 * high + 2 ^ 128)
unfolding limbs_of
topped_limbs low high h k =
    let top : bit_or (high / 2 ^ 40) (2 ^ 24) ≡ 2 ^ 24 + high / 2 ^ 40 = or_high 1 24 (high / 2 ^ 40) (omega arith) in (
      record { l0 = low26 low; l1 = low26 (low / 2 ^ 26); l2 = low26 _; l3 = low26 (high / 2 ^ 14); l4 = omega (arith, top, k) },
      five_above low high _ _ _ _ _ refl refl (third low high h) refl top,
    )

-- Carries.
settled : (v r s over top : ℕ) → v + 5 ≡ r + 2 ^ 130 * over → r < 2 ^ 130 → v + 5 * over ≡ s + 2 ^ 130 * top → s < 2 ^ 130 → v < 2 * modulus → s ≡ v % modulus
settled v r s zero top e h f k low = omega arith
settled v r s (suc zero) top e h f k low = omega arith
settled v r s (suc (suc over)) top e h f k low = absurd (omega arith)

chain : (l0 l1 l2 l3 l4 first q0 q1 q2 q3 q4 r0 r1 r2 r3 r4 : ℕ) → l0 + first ≡ 2 ^ 26 * q0 + r0 → l1 + q0 ≡ 2 ^ 26 * q1 + r1 → l2 + q1 ≡ 2 ^ 26 * q2 + r2
    → l3 + q2 ≡ 2 ^ 26 * q3 + r3 → l4 + q3 ≡ 2 ^ 26 * q4 + r4 → weighed l0 l1 l2 l3 l4 + first ≡ weighed r0 r1 r2 r3 r4 + 2 ^ 130 * q4
chain l0 l1 l2 l3 l4 first q0 q1 q2 q3 q4 r0 r1 r2 r3 r4 e0 e1 e2 e3 e4 = omega arith

bounded : (l0 l1 l2 l3 l4 : ℕ) → l0 < 2 ^ 26 → l1 < 2 ^ 26 → l2 < 2 ^ 26 → l3 < 2 ^ 26 → l4 < 2 ^ 26 → weighed l0 l1 l2 l3 l4 < 2 ^ 130
bounded l0 l1 l2 l3 l4 h0 h1 h2 h3 h4 = omega arith

radix : IsRadix (2 ^ 26) 5 (2 ^ 28) (2 ^ 130) modulus weighed
radix = record {
  eight = omega arith;
  first = omega arith;
  rest = low26;
  parted = λ x y h k. (omega arith, omega arith);
  times = λ n h. (omega arith, omega arith);
  chain = chain;
  lowest = λ l0 l1 l2 l3 l4 first. omega arith;
  beyond = refl;
  bounded = bounded;
  settled = settled;
}

limb_carry : (c e : ℕ) → c < 2 ^ 61 → e < 2 ^ 62 → (add64 c (e / 2 ^ 26) ≡ c + e / 2 ^ 26) × (add64 c (e / 2 ^ 26) < 2 ^ 62)
limb_carry c e h k = (omega arith, omega arith)

returned : (c e : ℕ) → e < 2 ^ 62 → (add64 (c % 2 ^ 26) (mul64 (e / 2 ^ 26) 5) ≡ c % 2 ^ 26 + 5 * (e / 2 ^ 26)) × (add64 (c % 2 ^ 26) (mul64 (e / 2 ^ 26) 5) < 2 ^ 39)
returned c e h = (omega arith, omega arith)

last_carry : (e d : ℕ) → d < 2 ^ 39 → (add64 (e % 2 ^ 26) (d / 2 ^ 26) ≡ e % 2 ^ 26 + d / 2 ^ 26) × (add64 (e % 2 ^ 26) (d / 2 ^ 26) ≤ 2 ^ 26 + 2 ^ 13)
last_carry e d h = (omega arith, omega arith)

together : (d0 d1 r1 r2 r3 r4 : ℕ) → d1 ≡ r1 + d0 / 2 ^ 26 → weighed (d0 % 2 ^ 26) d1 r2 r3 r4 ≡ weighed d0 r1 r2 r3 r4
together d0 d1 r1 r2 r3 r4 e = omega arith

multiple : (x y q : ℕ) → x ≡ y + modulus * q → x % modulus ≡ y % modulus
multiple x y q e = omega arith

-- limbs after carries: the second may be a little more than 2^26
pub record AreCarried (n : ℕ) (a : List ℕ) : Type 0 where
  pub l0 : slice_index a 0 < 2 ^ 26
  pub l1 : slice_index a 1 ≤ n
  pub l2 : slice_index a 2 < 2 ^ 26
  pub l3 : slice_index a 3 < 2 ^ 26
  pub l4 : slice_index a 4 < 2 ^ 26

module _ (a : List ℕ) (h : AreBelow (2 ^ 61) a) where
  carried_value : AreCarried (2 ^ 26 + 2 ^ 13) (carried a) × (value (carried a) % modulus ≡ value a % modulus)
  unfolding carried
  carried_value =
      let c0 : ℕ = slice_index a 0 in
      let e1 : ℕ = add64 (slice_index a 1) (c0 / 2 ^ 26) in
      let e2 : ℕ = add64 (slice_index a 2) (e1 / 2 ^ 26) in
      let e3 : ℕ = add64 (slice_index a 3) (e2 / 2 ^ 26) in
      let e4 : ℕ = add64 (slice_index a 4) (e3 / 2 ^ 26) in
      let d0 : ℕ = add64 (c0 % 2 ^ 26) (mul64 (e4 / 2 ^ 26) 5) in
      let f1 : ℕ = add64 (e1 % 2 ^ 26) (d0 / 2 ^ 26) in
      let w1 = limb_carry (slice_index a 1) c0 h.l1 (omega (arith, h.l0)) in
      let w2 = limb_carry (slice_index a 2) e1 h.l2 w1.1 in
      let w3 = limb_carry (slice_index a 3) e2 h.l3 w2.1 in
      let w4 = limb_carry (slice_index a 4) e3 h.l4 w3.1 in
      let x0 = returned c0 e4 w4.1 in
      let x1 = last_carry e1 d0 x0.1 in
      let all = passed (2 ^ 26) 5 (2 ^ 28) (2 ^ 130) modulus weighed radix c0 (slice_index a 1) (slice_index a 2) (slice_index a 3) (slice_index a 4) e1 e2 e3 e4 d0 w1.0 w2.0 w3.0 w4.0 x0.0 in (
        record { l0 = low26 d0; l1 = x1.1; l2 = low26 e2; l3 = low26 e3; l4 = low26 e4 },
        ap (λ (n : ℕ). n % modulus) (together d0 f1 (e1 % 2 ^ 26) (e2 % 2 ^ 26) (e3 % 2 ^ 26) (e4 % 2 ^ 26) x1.0) ∙ all,
      )

-- Products.
dot_value : (a b : List ℕ) → AreBelow (2 ^ 28) a → AreBelow (2 ^ 29) b
    → (dot a b ≡ at_places a b) × (dot a b < 2 ^ 61)
unfolding dot
dot_value a b h k =
    let sum = dotted (2 ^ 64) (2 ^ 28) (2 ^ 29) a b (omega arith) h k in
    (sum.0, omega (arith, sum.0, sum.1))

-- the product of two numbers by limbs
expand : (a0 a1 a2 a3 a4 b0 b1 b2 b3 b4 c0 c1 c2 c3 c4 : ℕ)
    → c0 ≡ a0 * b0 + 5 * (a1 * b4) + 5 * (a2 * b3) + 5 * (a3 * b2) + 5 * (a4 * b1)
    → c1 ≡ a0 * b1 + a1 * b0 + 5 * (a2 * b4) + 5 * (a3 * b3) + 5 * (a4 * b2)
    → c2 ≡ a0 * b2 + a1 * b1 + a2 * b0 + 5 * (a3 * b4) + 5 * (a4 * b3)
    → c3 ≡ a0 * b3 + a1 * b2 + a2 * b1 + a3 * b0 + 5 * (a4 * b4)
    → c4 ≡ a0 * b4 + a1 * b3 + a2 * b2 + a3 * b1 + a4 * b0
    → weighed a0 a1 a2 a3 a4 * weighed b0 b1 b2 b3 b4 ≡ weighed c0 c1 c2 c3 c4 + modulus * weighed (a1 * b4 + a2 * b3 + a3 * b2 + a4 * b1) (a2 * b4 + a3 * b3 + a4 * b2) (a3 * b4 + a4 * b3) (a4 * b4) 0
expand a0 a1 a2 a3 a4 b0 b1 b2 b3 b4 c0 c1 c2 c3 c4 e0 e1 e2 e3 e4 = omega arith

mul_value : (a b : List ℕ) → AreBelow (2 ^ 28) a → AreBelow (2 ^ 26) b
    → AreCarried (2 ^ 26 + 2 ^ 13) (mul a b) × (value (mul a b) % modulus ≡ value a * value b % modulus)
unfolding mul
mul_value a b h k =
    let a0 : ℕ = slice_index a 0 in
    let a1 : ℕ = slice_index a 1 in
    let a2 : ℕ = slice_index a 2 in
    let a3 : ℕ = slice_index a 3 in
    let a4 : ℕ = slice_index a 4 in
    let b0 : ℕ = slice_index b 0 in
    let b1 : ℕ = slice_index b 1 in
    let b2 : ℕ = slice_index b 2 in
    let b3 : ℕ = slice_index b 3 in
    let b4 : ℕ = slice_index b 4 in
    let s1 : ℕ = mul64 b1 5 in
    let w1 = times_small 5 (2 ^ 26) (2 ^ 29) b1 (omega arith) (omega arith) (omega arith) k.l1 in
    let s2 : ℕ = mul64 b2 5 in
    let w2 = times_small 5 (2 ^ 26) (2 ^ 29) b2 (omega arith) (omega arith) (omega arith) k.l2 in
    let s3 : ℕ = mul64 b3 5 in
    let w3 = times_small 5 (2 ^ 26) (2 ^ 29) b3 (omega arith) (omega arith) (omega arith) k.l3 in
    let s4 : ℕ = mul64 b4 5 in
    let w4 = times_small 5 (2 ^ 26) (2 ^ 29) b4 (omega arith) (omega arith) (omega arith) k.l4 in
    let both = folded 5 (2 ^ 28) (2 ^ 29) (2 ^ 61) dot dot_value a b s1 s2 s3 s4 h (wider (2 ^ 26) (2 ^ 29) b (omega arith) k) w1.0 w2.0 w3.0 w4.0 w1.1 w2.1 w3.1 w4.1 in
    let out = carried_value _ both.1 in
    let all = expand a0 a1 a2 a3 a4 b0 b1 b2 b3 b4 _ _ _ _ _ both.0.p0 both.0.p1 both.0.p2 both.0.p3 both.0.p4 in
    (out.0, out.1 ∙ sym (multiple (value a * value b) _ (weighed (a1 * b4 + a2 * b3 + a3 * b2 + a4 * b1) (a2 * b4 + a3 * b3 + a4 * b2) (a3 * b4 + a4 * b3) (a4 * b4) 0) all))

-- The accumulator.
sum_value : (a b : List ℕ) → AreCarried (2 ^ 26 + 2 ^ 13) a → AreBelow (2 ^ 26) b → AreBelow (2 ^ 28) (add a b) × (value (add a b) ≡ value a + value b)
unfolding add
sum_value a b h k =
    let e0 : add64 (slice_index a 0) (slice_index b 0) ≡ slice_index a 0 + slice_index b 0 = whole64 _ _ (omega (arith, h.l0)) (omega (arith, k.l0)) in
    let e1 : add64 (slice_index a 1) (slice_index b 1) ≡ slice_index a 1 + slice_index b 1 = whole64 _ _ (omega (arith, h.l1)) (omega (arith, k.l1)) in
    let e2 : add64 (slice_index a 2) (slice_index b 2) ≡ slice_index a 2 + slice_index b 2 = whole64 _ _ (omega (arith, h.l2)) (omega (arith, k.l2)) in
    let e3 : add64 (slice_index a 3) (slice_index b 3) ≡ slice_index a 3 + slice_index b 3 = whole64 _ _ (omega (arith, h.l3)) (omega (arith, k.l3)) in
    let e4 : add64 (slice_index a 4) (slice_index b 4) ≡ slice_index a 4 + slice_index b 4 = whole64 _ _ (omega (arith, h.l4)) (omega (arith, k.l4)) in (
      record { l0 = omega (arith, e0, h.l0, k.l0); l1 = omega (arith, e1, h.l1, k.l1); l2 = omega (arith, e2, h.l2, k.l2); l3 = omega (arith, e3, h.l3, k.l3); l4 = omega (arith, e4, h.l4, k.l4) },
      omega (arith, e0, e1, e2, e3, e4),
    )

after : (block : List ℕ) → IsBytes block → IsBytes (block ++ 1 ∷ replicate (15 - length block) 0)
after block h = bytes_append block (1 ∷ replicate (15 - length block) 0) h (bytes_cons 1 (replicate (15 - length block) 0) (omega arith) (zero_bytes (15 - length block)))

block_value : (block : List ℕ) → IsBytes block → AreBelow (2 ^ 26) (block_limbs block) × (value (block_limbs block) ≡ block_number block)
unfolding block_limbs block_number number_of_16
block_value block h =
    both (eqb (length block) 16)
    (topped_limbs (word_at block 0) (word_at block 8) (word_low block 0 h) (word_low block 8 h))
    (plain_limbs (word_at (block ++ 1 ∷ replicate (15 - length block) 0) 0) (word_at (block ++ 1 ∷ replicate (15 - length block) 0) 8)
    (word_low (block ++ 1 ∷ replicate (15 - length block) 0) 0 (after block h)) (word_low (block ++ 1 ∷ replicate (15 - length block) 0) 8 (after block h)))
  where
    both : (b : Bool) {x y : List ℕ} {m n : ℕ} → AreBelow (2 ^ 26) x × (value x ≡ m) → AreBelow (2 ^ 26) y × (value y ≡ n)
        → AreBelow (2 ^ 26) (cond b x y) × (value (cond b x y) ≡ cond b m n)
    both true h k = h
    both false h k = k

moved : (v m q b r : ℕ) → v ≡ modulus * q + m → (v + b) * r ≡ (m + b) * r + modulus * (q * r)
moved v m q b r is = rw is (omega arith)

parted : (v m : ℕ) → v % modulus ≡ m → v ≡ modulus * (v / modulus) + m
parted v m is = omega arith

accumulated_value : (sum factor block : List ℕ) (n r : ℕ) → AreCarried (2 ^ 26 + 2 ^ 13) sum → value sum % modulus ≡ n → AreBelow (2 ^ 26) factor → value factor ≡ r
    → IsBytes block → AreCarried (2 ^ 26 + 2 ^ 13) (accumulated sum factor block) × (value (accumulated sum factor block) % modulus ≡ (n + block_number block) * r % modulus)
unfolding accumulated
accumulated_value sum factor block n r h is k own bytes =
    let limbs = block_value block bytes in
    let both = sum_value sum (block_limbs block) h limbs.0 in
    let out = mul_value (add sum (block_limbs block)) factor both.0 k in (
      out.0,
      out.1 ∙ (ap (λ (x : ℕ). x % modulus) (ap₂ ◌*◌ (both.1 ∙ ap (λ (x : ℕ). value sum + x) limbs.1) own)
          ∙ multiple ((value sum + block_number block) * r) ((n + block_number block) * r) (value sum / modulus * r)
          (moved (value sum) n (value sum / modulus) (block_number block) r (parted (value sum) n is))),
    )

bytes_block : (input : List ℕ) (i : ℕ) → IsBytes input → IsBytes (block_at input i)
unfolding block_at
bytes_block input i h = bytes_taken _ _ (bytes_dropped (16 * i) input h)

sum_to_value : (input factor : List ℕ) (r n : ℕ) → AreBelow (2 ^ 26) factor → value factor ≡ r → IsBytes input
    → AreCarried (2 ^ 26 + 2 ^ 13) (sum_to input factor n) × (value (sum_to input factor n) % modulus ≡ accumulator input r n)
unfolding sum_to accumulator
sum_to_value input factor r zero k own h = (record { l0 = omega arith; l1 = omega arith; l2 = omega arith; l3 = omega arith; l4 = omega arith }, refl)
sum_to_value input factor r (suc n) k own h =
    let before = sum_to_value input factor r n k own h in
    accumulated_value (sum_to input factor n) factor (block_at input n) (accumulator input r n) r before.0 before.1 k own (bytes_block input n h)

r_value : (key : List ℕ) → AreBelow (2 ^ 26) (clamped_r key) × (value (clamped_r key) ≡ r_number key)
unfolding clamped_r r_number
r_value key =
    plain_limbs (bit_and (word_at key 0) 0x0ffffffc0fffffff) (bit_and (word_at key 8) 0x0ffffffc0ffffffc)
    (omega (arith, and_le_r (word_at key 0) 0x0ffffffc0fffffff)) (omega (arith, and_le_r (word_at key 8) 0x0ffffffc0ffffffc))

-- The last subtraction.
carried_low : (l0 l1 l2 l3 l4 : ℕ) → l0 < 2 ^ 26 → l1 ≤ 2 ^ 26 + 2 ^ 13 → l2 < 2 ^ 26 → l3 < 2 ^ 26 → l4 < 2 ^ 26 → weighed l0 l1 l2 l3 l4 < 2 * modulus
carried_low l0 l1 l2 l3 l4 h0 h1 h2 h3 h4 = omega arith

canonical_value : (l : List ℕ) → AreCarried (2 ^ 26 + 2 ^ 13) l → AreBelow (2 ^ 26) (canonical l) × (value (canonical l) ≡ value l % modulus)
unfolding canonical
canonical_value l h =
    reduced_value (2 ^ 26) 5 (2 ^ 28) (2 ^ 130) modulus weighed radix l
    (record { l0 = omega (arith, h.l0); l1 = omega (arith, h.l1); l2 = omega (arith, h.l2); l3 = omega (arith, h.l3); l4 = omega (arith, h.l4) })
    (carried_low _ _ _ _ _ h.l0 h.l1 h.l2 h.l3 h.l4)

-- Limbs to bytes.
packed_value : (l : List ℕ) → AreBelow (2 ^ 26) l → packed l ≡ value l % 2 ^ 128
unfolding packed
packed_value l h =
    let l0 : ℕ = slice_index l 0 in
    let l1 : ℕ = slice_index l 1 in
    let l2 : ℕ = slice_index l 2 in
    let l3 : ℕ = slice_index l 3 in
    let l4 : ℕ = slice_index l 4 in
    let s1 : l1 * 2 ^ 26 % 2 ^ 128 ≡ l1 * 2 ^ 26 = omega (arith, h.l1) in
    let s2 : l2 * 2 ^ 52 % 2 ^ 128 ≡ l2 * 2 ^ 52 = omega (arith, h.l2) in
    let s3 : l3 * 2 ^ 78 % 2 ^ 128 ≡ l3 * 2 ^ 78 = omega (arith, h.l3) in
    let s4 : l4 * 2 ^ 104 % 2 ^ 128 ≡ l4 % 2 ^ 24 * 2 ^ 104 = omega (arith, h.l4) in
    let o1 : bit_or l0 (l1 * 2 ^ 26 % 2 ^ 128) ≡ l1 * 2 ^ 26 + l0 = ap (bit_or l0) s1 ∙ or_high l1 26 l0 h.l0 in
    let o2 : bit_or (bit_or l0 (l1 * 2 ^ 26 % 2 ^ 128)) (l2 * 2 ^ 52 % 2 ^ 128) ≡ l2 * 2 ^ 52 + (l1 * 2 ^ 26 + l0)
    = ap₂ bit_or o1 s2 ∙ or_high l2 52 (l1 * 2 ^ 26 + l0) (omega (arith, h.l0, h.l1)) in
    let o3 : bit_or (bit_or (bit_or l0 (l1 * 2 ^ 26 % 2 ^ 128)) (l2 * 2 ^ 52 % 2 ^ 128)) (l3 * 2 ^ 78 % 2 ^ 128) ≡ l3 * 2 ^ 78 + (l2 * 2 ^ 52 + (l1 * 2 ^ 26 + l0))
    = ap₂ bit_or o2 s3 ∙ or_high l3 78 (l2 * 2 ^ 52 + (l1 * 2 ^ 26 + l0)) (omega (arith, h.l0, h.l1, h.l2)) in
    ap₂ bit_or o3 s4 ∙ (or_high (l4 % 2 ^ 24) 104 (l3 * 2 ^ 78 + (l2 * 2 ^ 52 + (l1 * 2 ^ 26 + l0))) (omega (arith, h.l0, h.l1, h.l2, h.l3))
    ∙ least l0 l1 l2 l3 l4 h.l0 h.l1 h.l2 h.l3)
  where
    least : (l0 l1 l2 l3 l4 : ℕ) → l0 < 2 ^ 26 → l1 < 2 ^ 26 → l2 < 2 ^ 26 → l3 < 2 ^ 26
        → l4 % 2 ^ 24 * 2 ^ 104 + (l3 * 2 ^ 78 + (l2 * 2 ^ 52 + (l1 * 2 ^ 26 + l0))) ≡ weighed l0 l1 l2 l3 l4 % 2 ^ 128
    least l0 l1 l2 l3 l4 h0 h1 h2 h3 = omega arith

s_value : (key : List ℕ) → IsBytes key → s_of key ≡ s_number key
unfolding s_of s_number
s_value key h =
    let w2 : ℕ = word_at key 16 in
    let w3 : ℕ = word_at key 24 in
    let high : w3 * 2 ^ 64 % 2 ^ 128 ≡ w3 * 2 ^ 64 = omega (arith, word_low key 24 h) in
    ap (bit_or w2) high ∙ (or_high w3 64 w2 (word_low key 16 h) ∙ turned w2 w3)
  where
    turned : (x y : ℕ) → y * 2 ^ 64 + x ≡ x + 2 ^ 64 * y
    turned x y = omega arith

below_of : (a : List ℕ) → AreCarried (2 ^ 26 + 2 ^ 13) a → AreBelow (2 ^ 61) a
below_of a h = record { l0 = omega (arith, h.l0); l1 = omega (arith, h.l1); l2 = omega (arith, h.l2); l3 = omega (arith, h.l3); l4 = omega (arith, h.l4) }

last_sum : (x y s : ℕ) → x ≡ y % 2 ^ 128 → (x + s) % 2 ^ 128 ≡ (y + s) % 2 ^ 128
last_sum x y s is = omega arith

pub mac_is : (key input : List ℕ) → IsBytes key → IsBytes input → tag_of key input ≡ mac key input
unfolding tag_of mac
mac_is key input h k =
    let n : ℕ = (length input + 15) / 16 in
    let factor = r_value key in
    let sum = sum_to_value input (clamped_r key) (r_number key) n factor.0 factor.1 k in
    let once = carried_value (sum_to input (clamped_r key) n) (below_of _ sum.0) in
    let twice = carried_value (carried (sum_to input (clamped_r key) n)) (below_of _ once.0) in
    let out = canonical_value (carried (carried (sum_to input (clamped_r key) n))) twice.0 in
    let number : value (canonical (carried (carried (sum_to input (clamped_r key) n)))) ≡ accumulator input (r_number key) n = out.1 ∙ (twice.1 ∙ (once.1 ∙ sum.1)) in
    let low : packed (canonical (carried (carried (sum_to input (clamped_r key) n)))) ≡ accumulator input (r_number key) n % 2 ^ 128
    = packed_value _ out.0 ∙ ap (λ (x : ℕ). x % 2 ^ 128) number in
    ap (to_le_bytes w128) (last_sum _ (accumulator input (r_number key) n) (s_of key) low ∙ ap (λ (s : ℕ). (accumulator input (r_number key) n + s) % 2 ^ 128) (s_value key h))
