-- The arithmetic of limbs is that of the field, where each limb of a factor is below 2^54 and of all else below 2^52: nothing is
-- lost, and the number of the limbs is what it is to be modulo 2^255 - 19.

use Rattle.std.proofs.Common.{◌≡◌, ℕ, ◌+◌, ◌*◌, ◌/◌, ◌%◌, ◌^◌, ◌<◌, ◌≤◌, List, [], ◌∷◌, zero, suc, refl, sym, ap, ap₂, ◌∙◌, arith}
use Rattle.std.specs.Prelude.{slice_index}
use Rattle.sshsuite.specs.FieldElement.{above, add, carried, carried_once, dot, less, limbs_of, loose_difference, loose_sum, mul, scaled, squared, sub, three, with_carry}
use Rattle.sshsuite.specs.Limbs.{add64, add128, mul64, mul128}
use Rattle.sshsuite.specs.FieldValues.{AreBelow, value, weighed}
use Rattle.sshcurve.specs.FieldNumbers.{field}
use Rattle.sshsuite.proofs.LimbLemmas.{IsRadix, at_places, below, dotted, moved, passed, times_small, wider}

-- a sum that is taken modulo 2^128 and isn't more
pub whole : (x y : ℕ) → x < 2 ^ 127 → y < 2 ^ 127 → add128 x y ≡ x + y
whole x y h k = omega arith

-- more than a limb of a product: 2^51 + 2^13
abbrev pub tight : ℕ
tight = 2251799813693440

low51 : (x : ℕ) → x % 2 ^ 51 < tight
low51 x = omega arith

pub multiple : (x y q : ℕ) → x ≡ y + field * q → x % field ≡ y % field
multiple x y q e = omega arith

pub least : (x : ℕ) → x % 2 ^ 51 < 2 ^ 51
least x = omega arith

settled : (v r s over top : ℕ) → v + 19 ≡ r + 2 ^ 255 * over → r < 2 ^ 255 → v + 19 * over ≡ s + 2 ^ 255 * top → s < 2 ^ 255 → v < 2 * field → s ≡ v % field
settled v r s zero top e h f k low = omega arith
settled v r s (suc zero) top e h f k low = omega arith
settled v r s (suc (suc over)) top e h f k low = absurd (omega arith)

chain : (l0 l1 l2 l3 l4 first q0 q1 q2 q3 q4 r0 r1 r2 r3 r4 : ℕ) → l0 + first ≡ 2 ^ 51 * q0 + r0 → l1 + q0 ≡ 2 ^ 51 * q1 + r1 → l2 + q1 ≡ 2 ^ 51 * q2 + r2
    → l3 + q2 ≡ 2 ^ 51 * q3 + r3 → l4 + q3 ≡ 2 ^ 51 * q4 + r4 → weighed l0 l1 l2 l3 l4 + first ≡ weighed r0 r1 r2 r3 r4 + 2 ^ 255 * q4
chain l0 l1 l2 l3 l4 first q0 q1 q2 q3 q4 r0 r1 r2 r3 r4 e0 e1 e2 e3 e4 = omega arith

pub bounded : (l0 l1 l2 l3 l4 : ℕ) → l0 < 2 ^ 51 → l1 < 2 ^ 51 → l2 < 2 ^ 51 → l3 < 2 ^ 51 → l4 < 2 ^ 51 → weighed l0 l1 l2 l3 l4 < 2 ^ 255
bounded l0 l1 l2 l3 l4 h0 h1 h2 h3 h4 = omega arith

pub radix : IsRadix (2 ^ 51) 19 (2 ^ 53) (2 ^ 255) field weighed
radix = record {
  eight = omega arith;
  first = omega arith;
  rest = least;
  parted = λ x y h k. (omega arith, omega arith);
  times = λ n h. (omega arith, omega arith);
  chain = chain;
  lowest = λ l0 l1 l2 l3 l4 first. omega arith;
  beyond = refl;
  bounded = bounded;
  settled = settled;
}

together : (d0 d1 r1 r2 r3 r4 : ℕ) → d1 ≡ r1 + d0 / 2 ^ 51 → weighed (d0 % 2 ^ 51) d1 r2 r3 r4 ≡ weighed d0 r1 r2 r3 r4
together d0 d1 r1 r2 r3 r4 e = omega arith

-- a sum below 2^115 has a word above its lowest 51 bits
above_is : (c : ℕ) → c < 2 ^ 115 → above c ≡ c / 2 ^ 51
above_is c h = omega arith

by_bound : (x y n : ℕ) → x ≡ y → y < n → x < n
by_bound x y n e h = omega arith

-- the bound of a sum and of what is carried out of the one before it
record IsCarried (c before top : ℕ) : Type 0 where
  pub is : with_carry c before ≡ c + before / 2 ^ 51
  pub low : with_carry c before < top

carry_is : (c before m top : ℕ) → c < m → before < 2 ^ 115 → m + 2 ^ 64 ≤ top → top ≤ 2 ^ 115 → IsCarried c before top
carry_is c before m top h k l t =
    let own : add128 c (before / 2 ^ 51) ≡ c + before / 2 ^ 51 = omega (arith, h, k, l, t) in
    let is : with_carry c before ≡ c + before / 2 ^ 51 = ap (add128 c) (above_is before k) ∙ own in
    let low : c + before / 2 ^ 51 < top = omega (arith, h, k, l) in
    record { is = is; low = by_bound (with_carry c before) (c + before / 2 ^ 51) top is low }

-- what is carried out of the highest place counts nineteen times at the lowest
returned : (c e : ℕ) → e < 13 * 2 ^ 107 → add64 (c % 2 ^ 51) (mul64 (above e) 19) ≡ c % 2 ^ 51 + 19 * (e / 2 ^ 51)
returned c e h = ap (λ (n : ℕ). add64 (c % 2 ^ 51) (mul64 n 19)) (above_is e (omega arith)) ∙ omega arith

word : (x : ℕ) → x % 2 ^ 64 < 2 ^ 64
word x = omega arith

last_carry : (e d : ℕ) → d < 2 ^ 64 → (add64 (e % 2 ^ 51) (d / 2 ^ 51) ≡ e % 2 ^ 51 + d / 2 ^ 51) × (add64 (e % 2 ^ 51) (d / 2 ^ 51) < tight)
last_carry e d h = (omega arith, omega arith)

-- sums below 96 * 2^108, of which the highest is below 6 * 2^108, are carried into tight limbs of the same number
module _ (c0 c1 c2 c3 c4 : ℕ) (h0 : c0 < 96 * 2 ^ 108) (h1 : c1 < 96 * 2 ^ 108) (h2 : c2 < 96 * 2 ^ 108) (h3 : c3 < 96 * 2 ^ 108) (h4 : c4 < 6 * 2 ^ 108) where
  carried_value : AreBelow tight (carried (c0 ∷ c1 ∷ c2 ∷ c3 ∷ c4 ∷ [])) × (value (carried (c0 ∷ c1 ∷ c2 ∷ c3 ∷ c4 ∷ [])) % field ≡ weighed c0 c1 c2 c3 c4 % field)
  unfolding carried limbs_of
  carried_value =
      let e1 : ℕ = with_carry c1 c0 in
      let e2 : ℕ = with_carry c2 e1 in
      let e3 : ℕ = with_carry c3 e2 in
      let e4 : ℕ = with_carry c4 e3 in
      let d0 : ℕ = add64 (c0 % 2 ^ 51) (mul64 (above e4) 19) in
      let d1 : ℕ = add64 (e1 % 2 ^ 51) (d0 / 2 ^ 51) in
      let w1 = carry_is c1 c0 (96 * 2 ^ 108) (2 ^ 115) h1 (omega (arith, h0)) (omega arith) (omega arith) in
      let w2 = carry_is c2 e1 (96 * 2 ^ 108) (2 ^ 115) h2 w1.low (omega arith) (omega arith) in
      let w3 = carry_is c3 e2 (96 * 2 ^ 108) (2 ^ 115) h3 w2.low (omega arith) (omega arith) in
      let w4 = carry_is c4 e3 (6 * 2 ^ 108) (13 * 2 ^ 107) h4 w3.low (omega arith) (omega arith) in
      let x0 : d0 ≡ c0 % 2 ^ 51 + 19 * (e4 / 2 ^ 51) = returned c0 e4 w4.low in
      let y0 : d0 < 2 ^ 64 = word (c0 % 2 ^ 51 + mul64 (above e4) 19) in
      let x1 = last_carry e1 d0 y0 in
      let all = passed (2 ^ 51) 19 (2 ^ 53) (2 ^ 255) field weighed radix c0 c1 c2 c3 c4 e1 e2 e3 e4 d0 w1.is w2.is w3.is w4.is x0 in (
        record { l0 = low51 d0; l1 = x1.1; l2 = low51 e2; l3 = low51 e3; l4 = low51 e4 },
        ap (λ (n : ℕ). n % field) (together d0 d1 (e1 % 2 ^ 51) (e2 % 2 ^ 51) (e3 % 2 ^ 51) (e4 % 2 ^ 51) x1.0) ∙ all,
      )

-- nineteen times 2^54
abbrev folded_bound : ℕ
folded_bound = 342273571680157696

dot_value : (a b : List ℕ) → AreBelow (2 ^ 54) a → AreBelow folded_bound b
    → (dot a b ≡ at_places a b) × (dot a b < 96 * 2 ^ 108)
unfolding dot
dot_value a b h k =
    let sum = dotted (2 ^ 128) (2 ^ 54) folded_bound a b (omega arith) h k in
    (sum.0, omega (arith, sum.0, sum.1))

-- the product of two numbers by limbs
expand : (a0 a1 a2 a3 a4 b0 b1 b2 b3 b4 c0 c1 c2 c3 c4 : ℕ)
    → c0 ≡ a0 * b0 + 19 * (a1 * b4) + 19 * (a2 * b3) + 19 * (a3 * b2) + 19 * (a4 * b1)
    → c1 ≡ a0 * b1 + a1 * b0 + 19 * (a2 * b4) + 19 * (a3 * b3) + 19 * (a4 * b2)
    → c2 ≡ a0 * b2 + a1 * b1 + a2 * b0 + 19 * (a3 * b4) + 19 * (a4 * b3)
    → c3 ≡ a0 * b3 + a1 * b2 + a2 * b1 + a3 * b0 + 19 * (a4 * b4)
    → c4 ≡ a0 * b4 + a1 * b3 + a2 * b2 + a3 * b1 + a4 * b0
    → weighed a0 a1 a2 a3 a4 * weighed b0 b1 b2 b3 b4 ≡ weighed c0 c1 c2 c3 c4 + field * weighed (a1 * b4 + a2 * b3 + a3 * b2 + a4 * b1) (a2 * b4 + a3 * b3 + a4 * b2) (a3 * b4 + a4 * b3) (a4 * b4) 0
expand a0 a1 a2 a3 a4 b0 b1 b2 b3 b4 c0 c1 c2 c3 c4 e0 e1 e2 e3 e4 = omega arith

-- the product of elements that are loose is tight
pub mul_loose : (a b : List ℕ) → AreBelow (2 ^ 54) a → AreBelow (2 ^ 54) b
    → AreBelow tight (mul a b) × (value (mul a b) % field ≡ value a * value b % field)
unfolding mul
mul_loose a b h k =
    let a0 : ℕ = slice_index a 0 in
    let a1 : ℕ = slice_index a 1 in
    let a2 : ℕ = slice_index a 2 in
    let a3 : ℕ = slice_index a 3 in
    let a4 : ℕ = slice_index a 4 in
    let b0 : ℕ = slice_index b 0 in
    let b1 : ℕ = slice_index b 1 in
    let b2 : ℕ = slice_index b 2 in
    let b3 : ℕ = slice_index b 3 in
    let b4 : ℕ = slice_index b 4 in
    let l = wider (2 ^ 54) folded_bound b (omega arith) k in
    let s1 : ℕ = mul64 b1 19 in
    let w1 = times_small 19 (2 ^ 54) folded_bound b1 (omega arith) (omega arith) (omega arith) k.l1 in
    let s2 : ℕ = mul64 b2 19 in
    let w2 = times_small 19 (2 ^ 54) folded_bound b2 (omega arith) (omega arith) (omega arith) k.l2 in
    let s3 : ℕ = mul64 b3 19 in
    let w3 = times_small 19 (2 ^ 54) folded_bound b3 (omega arith) (omega arith) (omega arith) k.l3 in
    let s4 : ℕ = mul64 b4 19 in
    let w4 = times_small 19 (2 ^ 54) folded_bound b4 (omega arith) (omega arith) (omega arith) k.l4 in
    let f0 = dot_value (a3 ∷ a2 ∷ a1 ∷ a0 ∷ a4 ∷ []) (s2 ∷ s3 ∷ s4 ∷ b0 ∷ s1 ∷ [])
    (record { l0 = h.l3; l1 = h.l2; l2 = h.l1; l3 = h.l0; l4 = h.l4 }) (record { l0 = w2.1; l1 = w3.1; l2 = w4.1; l3 = l.l0; l4 = w1.1 }) in
    let f1 = dot_value (a4 ∷ a3 ∷ a2 ∷ a1 ∷ a0 ∷ []) (s2 ∷ s3 ∷ s4 ∷ b0 ∷ b1 ∷ [])
    (record { l0 = h.l4; l1 = h.l3; l2 = h.l2; l3 = h.l1; l4 = h.l0 }) (record { l0 = w2.1; l1 = w3.1; l2 = w4.1; l3 = l.l0; l4 = l.l1 }) in
    let f2 = dot_value (a0 ∷ a4 ∷ a3 ∷ a2 ∷ a1 ∷ []) (b2 ∷ s3 ∷ s4 ∷ b0 ∷ b1 ∷ [])
    (record { l0 = h.l0; l1 = h.l4; l2 = h.l3; l3 = h.l2; l4 = h.l1 }) (record { l0 = l.l2; l1 = w3.1; l2 = w4.1; l3 = l.l0; l4 = l.l1 }) in
    let f3 = dot_value (a1 ∷ a0 ∷ a4 ∷ a3 ∷ a2 ∷ []) (b2 ∷ b3 ∷ s4 ∷ b0 ∷ b1 ∷ [])
    (record { l0 = h.l1; l1 = h.l0; l2 = h.l4; l3 = h.l3; l4 = h.l2 }) (record { l0 = l.l2; l1 = l.l3; l2 = w4.1; l3 = l.l0; l4 = l.l1 }) in
    let f4 = dot_value (a2 ∷ a1 ∷ a0 ∷ a4 ∷ a3 ∷ []) (b2 ∷ b3 ∷ b4 ∷ b0 ∷ b1 ∷ [])
    (record { l0 = h.l2; l1 = h.l1; l2 = h.l0; l3 = h.l4; l4 = h.l3 }) (record { l0 = l.l2; l1 = l.l3; l2 = l.l4; l3 = l.l0; l4 = l.l1 }) in
    let p14 = moved 19 a1 b4 s4 w4.0 in
    let p23 = moved 19 a2 b3 s3 w3.0 in
    let p24 = moved 19 a2 b4 s4 w4.0 in
    let p32 = moved 19 a3 b2 s2 w2.0 in
    let p33 = moved 19 a3 b3 s3 w3.0 in
    let p34 = moved 19 a3 b4 s4 w4.0 in
    let p41 = moved 19 a4 b1 s1 w1.0 in
    let p42 = moved 19 a4 b2 s2 w2.0 in
    let p43 = moved 19 a4 b3 s3 w3.0 in
    let p44 = moved 19 a4 b4 s4 w4.0 in
    let c0 : ℕ = dot (a3 ∷ a2 ∷ a1 ∷ a0 ∷ a4 ∷ []) (s2 ∷ s3 ∷ s4 ∷ b0 ∷ s1 ∷ []) in
    let g0 : c0 ≡ a0 * b0 + 19 * (a1 * b4) + 19 * (a2 * b3) + 19 * (a3 * b2) + 19 * (a4 * b1) = omega (arith, f0.0, p14, p23, p32, p41) in
    let c1 : ℕ = dot (a4 ∷ a3 ∷ a2 ∷ a1 ∷ a0 ∷ []) (s2 ∷ s3 ∷ s4 ∷ b0 ∷ b1 ∷ []) in
    let g1 : c1 ≡ a0 * b1 + a1 * b0 + 19 * (a2 * b4) + 19 * (a3 * b3) + 19 * (a4 * b2) = omega (arith, f1.0, p24, p33, p42) in
    let c2 : ℕ = dot (a0 ∷ a4 ∷ a3 ∷ a2 ∷ a1 ∷ []) (b2 ∷ s3 ∷ s4 ∷ b0 ∷ b1 ∷ []) in
    let g2 : c2 ≡ a0 * b2 + a1 * b1 + a2 * b0 + 19 * (a3 * b4) + 19 * (a4 * b3) = omega (arith, f2.0, p34, p43) in
    let c3 : ℕ = dot (a1 ∷ a0 ∷ a4 ∷ a3 ∷ a2 ∷ []) (b2 ∷ b3 ∷ s4 ∷ b0 ∷ b1 ∷ []) in
    let g3 : c3 ≡ a0 * b3 + a1 * b2 + a2 * b1 + a3 * b0 + 19 * (a4 * b4) = omega (arith, f3.0, p44) in
    let c4 : ℕ = dot (a2 ∷ a1 ∷ a0 ∷ a4 ∷ a3 ∷ []) (b2 ∷ b3 ∷ b4 ∷ b0 ∷ b1 ∷ []) in
    let g4 : c4 ≡ a0 * b4 + a1 * b3 + a2 * b2 + a3 * b1 + a4 * b0 = omega (arith, f4.0) in
    let m0 : a0 * b4 < 2 ^ 108 = below a0 b4 (2 ^ 54) (2 ^ 54) h.l0 k.l4 in
    let m1 : a1 * b3 < 2 ^ 108 = below a1 b3 (2 ^ 54) (2 ^ 54) h.l1 k.l3 in
    let m2 : a2 * b2 < 2 ^ 108 = below a2 b2 (2 ^ 54) (2 ^ 54) h.l2 k.l2 in
    let m3 : a3 * b1 < 2 ^ 108 = below a3 b1 (2 ^ 54) (2 ^ 54) h.l3 k.l1 in
    let m4 : a4 * b0 < 2 ^ 108 = below a4 b0 (2 ^ 54) (2 ^ 54) h.l4 k.l0 in
    let n4 : c4 < 6 * 2 ^ 108 = omega (arith, g4, m0, m1, m2, m3, m4) in
    let out = carried_value c0 c1 c2 c3 c4 f0.1 f1.1 f2.1 f3.1 n4 in
    let all = expand a0 a1 a2 a3 a4 b0 b1 b2 b3 b4 c0 c1 c2 c3 c4 g0 g1 g2 g3 g4 in
    (out.0, out.1 ∙ sym (multiple (value a * value b) (weighed c0 c1 c2 c3 c4) (weighed (a1 * b4 + a2 * b3 + a3 * b2 + a4 * b1) (a2 * b4 + a3 * b3 + a4 * b2) (a3 * b4 + a4 * b3) (a4 * b4) 0) all))

pub mul_value : (a b : List ℕ) → AreBelow (2 ^ 52) a → AreBelow (2 ^ 52) b
    → AreBelow (2 ^ 52) (mul a b) × (value (mul a b) % field ≡ value a * value b % field)
mul_value a b h k =
    let out = mul_loose a b (wider (2 ^ 52) (2 ^ 54) a (omega arith) h) (wider (2 ^ 52) (2 ^ 54) b (omega arith) k) in
    (wider tight (2 ^ 52) (mul a b) (omega arith) out.0, out.1)

-- three products
three_value : (x0 y0 x1 y1 x2 y2 : ℕ) → x0 * y0 < 38 * 2 ^ 108 → x1 * y1 < 38 * 2 ^ 108 → x2 * y2 < 38 * 2 ^ 108
    → three x0 y0 x1 y1 x2 y2 ≡ x0 * y0 + x1 * y1 + x2 * y2
unfolding three
three_value x0 y0 x1 y1 x2 y2 m0 m1 m2 = small (x0 * y0) (x1 * y1) (x2 * y2) m0 m1 m2
  where
    small : (x y z : ℕ) → x < 38 * 2 ^ 108 → y < 38 * 2 ^ 108 → z < 38 * 2 ^ 108 → add128 (add128 (x % 2 ^ 128) (y % 2 ^ 128)) (z % 2 ^ 128) ≡ x + y + z
    small x y z h k l = omega arith

pub square_loose : (a : List ℕ) → AreBelow (2 ^ 54) a
    → AreBelow tight (squared a) × (value (squared a) % field ≡ value a * value a % field)
unfolding squared
square_loose a h =
    let a0 : ℕ = slice_index a 0 in
    let a1 : ℕ = slice_index a 1 in
    let a2 : ℕ = slice_index a 2 in
    let a3 : ℕ = slice_index a 3 in
    let a4 : ℕ = slice_index a 4 in
    let t0 : ℕ = mul64 a0 2 in
    let u0 = times_small 2 (2 ^ 54) (2 ^ 55) a0 (omega arith) (omega arith) (omega arith) h.l0 in
    let t1 : ℕ = mul64 a1 2 in
    let u1 = times_small 2 (2 ^ 54) (2 ^ 55) a1 (omega arith) (omega arith) (omega arith) h.l1 in
    let t2 : ℕ = mul64 a2 2 in
    let u2 = times_small 2 (2 ^ 54) (2 ^ 55) a2 (omega arith) (omega arith) (omega arith) h.l2 in
    let s3 : ℕ = mul64 a3 19 in
    let w3 = times_small 19 (2 ^ 54) (19 * 2 ^ 54) a3 (omega arith) (omega arith) (omega arith) h.l3 in
    let s4 : ℕ = mul64 a4 19 in
    let w4 = times_small 19 (2 ^ 54) (19 * 2 ^ 54) a4 (omega arith) (omega arith) (omega arith) h.l4 in
    let r4 : ℕ = mul64 a4 38 in
    let v4 = times_small 38 (2 ^ 54) (38 * 2 ^ 54) a4 (omega arith) (omega arith) (omega arith) h.l4 in
    let m00 : a0 * a0 < 2 ^ 108 = below a0 a0 (2 ^ 54) (2 ^ 54) h.l0 h.l0 in
    let m14 : a1 * r4 < 38 * 2 ^ 108 = below a1 r4 (2 ^ 54) (38 * 2 ^ 54) h.l1 v4.1 in
    let m23 : t2 * s3 < 38 * 2 ^ 108 = below t2 s3 (2 ^ 55) (19 * 2 ^ 54) u2.1 w3.1 in
    let m01 : t0 * a1 < 2 ^ 109 = below t0 a1 (2 ^ 55) (2 ^ 54) u0.1 h.l1 in
    let m24 : a2 * r4 < 38 * 2 ^ 108 = below a2 r4 (2 ^ 54) (38 * 2 ^ 54) h.l2 v4.1 in
    let m33 : a3 * s3 < 19 * 2 ^ 108 = below a3 s3 (2 ^ 54) (19 * 2 ^ 54) h.l3 w3.1 in
    let m02 : t0 * a2 < 2 ^ 109 = below t0 a2 (2 ^ 55) (2 ^ 54) u0.1 h.l2 in
    let m11 : a1 * a1 < 2 ^ 108 = below a1 a1 (2 ^ 54) (2 ^ 54) h.l1 h.l1 in
    let m34 : a3 * r4 < 38 * 2 ^ 108 = below a3 r4 (2 ^ 54) (38 * 2 ^ 54) h.l3 v4.1 in
    let m03 : t0 * a3 < 2 ^ 109 = below t0 a3 (2 ^ 55) (2 ^ 54) u0.1 h.l3 in
    let m12 : t1 * a2 < 2 ^ 109 = below t1 a2 (2 ^ 55) (2 ^ 54) u1.1 h.l2 in
    let m44 : a4 * s4 < 19 * 2 ^ 108 = below a4 s4 (2 ^ 54) (19 * 2 ^ 54) h.l4 w4.1 in
    let m04 : t0 * a4 < 2 ^ 109 = below t0 a4 (2 ^ 55) (2 ^ 54) u0.1 h.l4 in
    let m13 : t1 * a3 < 2 ^ 109 = below t1 a3 (2 ^ 55) (2 ^ 54) u1.1 h.l3 in
    let m22 : a2 * a2 < 2 ^ 108 = below a2 a2 (2 ^ 54) (2 ^ 54) h.l2 h.l2 in
    let f0 = three_value t2 s3 a0 a0 a1 r4 m23 (omega (arith, m00)) m14 in
    let f1 = three_value a3 s3 a2 r4 t0 a1 (omega (arith, m33)) m24 (omega (arith, m01)) in
    let f2 = three_value a3 r4 t0 a2 a1 a1 m34 (omega (arith, m02)) (omega (arith, m11)) in
    let f3 = three_value a4 s4 t0 a3 t1 a2 (omega (arith, m44)) (omega (arith, m03)) (omega (arith, m12)) in
    let f4 = three_value a2 a2 t0 a4 t1 a3 (omega (arith, m22)) (omega (arith, m04)) (omega (arith, m13)) in
    let p01 : t0 * a1 ≡ 2 * a0 * a1 = ap (λ (n : ℕ). n * a1) u0.0 in
    let p02 : t0 * a2 ≡ 2 * a0 * a2 = ap (λ (n : ℕ). n * a2) u0.0 in
    let p03 : t0 * a3 ≡ 2 * a0 * a3 = ap (λ (n : ℕ). n * a3) u0.0 in
    let p04 : t0 * a4 ≡ 2 * a0 * a4 = ap (λ (n : ℕ). n * a4) u0.0 in
    let p12 : t1 * a2 ≡ 2 * a1 * a2 = ap (λ (n : ℕ). n * a2) u1.0 in
    let p13 : t1 * a3 ≡ 2 * a1 * a3 = ap (λ (n : ℕ). n * a3) u1.0 in
    let p14 : a1 * r4 ≡ a1 * (38 * a4) = ap (λ (n : ℕ). a1 * n) v4.0 in
    let p23 : t2 * s3 ≡ 2 * a2 * (19 * a3) = ap₂ ◌*◌ u2.0 w3.0 in
    let p24 : a2 * r4 ≡ a2 * (38 * a4) = ap (λ (n : ℕ). a2 * n) v4.0 in
    let p33 : a3 * s3 ≡ a3 * (19 * a3) = ap (λ (n : ℕ). a3 * n) w3.0 in
    let p34 : a3 * r4 ≡ a3 * (38 * a4) = ap (λ (n : ℕ). a3 * n) v4.0 in
    let p44 : a4 * s4 ≡ a4 * (19 * a4) = ap (λ (n : ℕ). a4 * n) w4.0 in
    let c0 : ℕ = three t2 s3 a0 a0 a1 r4 in
    let g0 : c0 ≡ a0 * a0 + 19 * (a1 * a4) + 19 * (a2 * a3) + 19 * (a3 * a2) + 19 * (a4 * a1) = omega (arith, f0, p14, p23) in
    let n0 : c0 < 96 * 2 ^ 108 = omega (arith, f0, m00, m14, m23) in
    let c1 : ℕ = three a3 s3 a2 r4 t0 a1 in
    let g1 : c1 ≡ a0 * a1 + a1 * a0 + 19 * (a2 * a4) + 19 * (a3 * a3) + 19 * (a4 * a2) = omega (arith, f1, p01, p24, p33) in
    let n1 : c1 < 96 * 2 ^ 108 = omega (arith, f1, m01, m24, m33) in
    let c2 : ℕ = three a3 r4 t0 a2 a1 a1 in
    let g2 : c2 ≡ a0 * a2 + a1 * a1 + a2 * a0 + 19 * (a3 * a4) + 19 * (a4 * a3) = omega (arith, f2, p02, p34) in
    let n2 : c2 < 96 * 2 ^ 108 = omega (arith, f2, m02, m11, m34) in
    let c3 : ℕ = three a4 s4 t0 a3 t1 a2 in
    let g3 : c3 ≡ a0 * a3 + a1 * a2 + a2 * a1 + a3 * a0 + 19 * (a4 * a4) = omega (arith, f3, p03, p12, p44) in
    let n3 : c3 < 96 * 2 ^ 108 = omega (arith, f3, m03, m12, m44) in
    let c4 : ℕ = three a2 a2 t0 a4 t1 a3 in
    let g4 : c4 ≡ a0 * a4 + a1 * a3 + a2 * a2 + a3 * a1 + a4 * a0 = omega (arith, f4, p04, p13) in
    let n4 : c4 < 6 * 2 ^ 108 = omega (arith, f4, m04, m13, m22) in
    let out = carried_value c0 c1 c2 c3 c4 n0 n1 n2 n3 n4 in
    let all = expand a0 a1 a2 a3 a4 a0 a1 a2 a3 a4 c0 c1 c2 c3 c4 g0 g1 g2 g3 g4 in
    (out.0, out.1 ∙ sym (multiple (value a * value a) (weighed c0 c1 c2 c3 c4) (weighed (a1 * a4 + a2 * a3 + a3 * a2 + a4 * a1) (a2 * a4 + a3 * a3 + a4 * a2) (a3 * a4 + a4 * a3) (a4 * a4) 0) all))

pub square_value : (a : List ℕ) → AreBelow (2 ^ 52) a
    → AreBelow (2 ^ 52) (squared a) × (value (squared a) % field ≡ value a * value a % field)
square_value a h =
    let out = square_loose a (wider (2 ^ 52) (2 ^ 54) a (omega arith) h) in
    (wider tight (2 ^ 52) (squared a) (omega arith) out.0, out.1)

limb_times : (x n : ℕ) → x < 2 ^ 54 → n < 2 ^ 32 → (mul128 x n ≡ x * n) × (mul128 x n < 2 ^ 86)
limb_times x n h k = let m : x * n < 2 ^ 86 = below x n (2 ^ 54) (2 ^ 32) h k in (omega (arith, m), omega (arith, m))

spread : (a0 a1 a2 a3 a4 n c0 c1 c2 c3 c4 : ℕ) → c0 ≡ a0 * n → c1 ≡ a1 * n → c2 ≡ a2 * n → c3 ≡ a3 * n → c4 ≡ a4 * n
    → weighed c0 c1 c2 c3 c4 ≡ n * weighed a0 a1 a2 a3 a4
spread a0 a1 a2 a3 a4 n c0 c1 c2 c3 c4 e0 e1 e2 e3 e4 = omega arith

pub scaled_loose : (a : List ℕ) (n : ℕ) → AreBelow (2 ^ 54) a → n < 2 ^ 32
    → AreBelow tight (scaled a n) × (value (scaled a n) % field ≡ n * value a % field)
unfolding scaled
scaled_loose a n h k =
    let w0 = limb_times (slice_index a 0) n h.l0 k in
    let w1 = limb_times (slice_index a 1) n h.l1 k in
    let w2 = limb_times (slice_index a 2) n h.l2 k in
    let w3 = limb_times (slice_index a 3) n h.l3 k in
    let w4 = limb_times (slice_index a 4) n h.l4 k in
    let out = carried_value (mul128 (slice_index a 0) n) (mul128 (slice_index a 1) n) (mul128 (slice_index a 2) n) (mul128 (slice_index a 3) n) (mul128 (slice_index a 4) n)
    (omega (arith, w0.1)) (omega (arith, w1.1)) (omega (arith, w2.1)) (omega (arith, w3.1)) (omega (arith, w4.1)) in
    (out.0, out.1 ∙ ap (λ (m : ℕ). m % field) (spread _ _ _ _ _ n _ _ _ _ _ w0.0 w1.0 w2.0 w3.0 w4.0))

pub scaled_value : (a : List ℕ) (n : ℕ) → AreBelow (2 ^ 52) a → n < 2 ^ 32
    → AreBelow (2 ^ 52) (scaled a n) × (value (scaled a n) % field ≡ n * value a % field)
scaled_value a n h k =
    let out = scaled_loose a n (wider (2 ^ 52) (2 ^ 54) a (omega arith) h) k in
    (wider tight (2 ^ 52) (scaled a n) (omega arith) out.0, out.1)

-- limbs of a number below 2^255 + 2^51
pub record AreTight (a : List ℕ) : Type 0 where
  pub l0 : slice_index a 0 < 2 ^ 52
  pub l1 : slice_index a 1 < 2 ^ 51
  pub l2 : slice_index a 2 < 2 ^ 51
  pub l3 : slice_index a 3 < 2 ^ 51
  pub l4 : slice_index a 4 < 2 ^ 51

pub below_tight : (a : List ℕ) → AreTight a → AreBelow (2 ^ 52) a
below_tight a h = record { l0 = h.l0; l1 = omega (arith, h.l1); l2 = omega (arith, h.l2); l3 = omega (arith, h.l3); l4 = omega (arith, h.l4) }

limb_carry : (c e : ℕ) → c < 2 ^ 56 → e < 2 ^ 57 → (add64 c (e / 2 ^ 51) ≡ c + e / 2 ^ 51) × (add64 c (e / 2 ^ 51) < 2 ^ 57)
limb_carry c e h k = (omega arith, omega arith)

limb_returned : (c e : ℕ) → e < 2 ^ 57 → (add64 (c % 2 ^ 51) (mul64 (e / 2 ^ 51) 19) ≡ c % 2 ^ 51 + 19 * (e / 2 ^ 51)) × (add64 (c % 2 ^ 51) (mul64 (e / 2 ^ 51) 19) < 2 ^ 52)
limb_returned c e h = (omega arith, omega arith)

-- sums below 2^56 are carried by one pass
module _ (c0 c1 c2 c3 c4 : ℕ) (h0 : c0 < 2 ^ 56) (h1 : c1 < 2 ^ 56) (h2 : c2 < 2 ^ 56) (h3 : c3 < 2 ^ 56) (h4 : c4 < 2 ^ 56) where
  once_value : AreTight (carried_once (c0 ∷ c1 ∷ c2 ∷ c3 ∷ c4 ∷ [])) × (value (carried_once (c0 ∷ c1 ∷ c2 ∷ c3 ∷ c4 ∷ [])) % field ≡ weighed c0 c1 c2 c3 c4 % field)
  unfolding carried_once
  once_value =
      let e1 : ℕ = add64 c1 (c0 / 2 ^ 51) in
      let e2 : ℕ = add64 c2 (e1 / 2 ^ 51) in
      let e3 : ℕ = add64 c3 (e2 / 2 ^ 51) in
      let e4 : ℕ = add64 c4 (e3 / 2 ^ 51) in
      let d0 : ℕ = add64 (c0 % 2 ^ 51) (mul64 (e4 / 2 ^ 51) 19) in
      let w1 = limb_carry c1 c0 h1 (omega (arith, h0)) in
      let w2 = limb_carry c2 e1 h2 w1.1 in
      let w3 = limb_carry c3 e2 h3 w2.1 in
      let w4 = limb_carry c4 e3 h4 w3.1 in
      let x0 = limb_returned c0 e4 w4.1 in (
        record { l0 = x0.1; l1 = least e1; l2 = least e2; l3 = least e3; l4 = least e4 },
        passed (2 ^ 51) 19 (2 ^ 53) (2 ^ 255) field weighed radix c0 c1 c2 c3 c4 e1 e2 e3 e4 d0 w1.0 w2.0 w3.0 w4.0 x0.0,
      )

limbs_added : (m n top x y : ℕ) → m + n ≤ top → top ≤ 2 ^ 54 → x < m → y < n → (add64 x y ≡ x + y) × (add64 x y < top)
limbs_added m n top x y l t h k = (omega arith, omega arith)

spread_sum : (a0 a1 a2 a3 a4 b0 b1 b2 b3 b4 c0 c1 c2 c3 c4 : ℕ) → c0 ≡ a0 + b0 → c1 ≡ a1 + b1 → c2 ≡ a2 + b2 → c3 ≡ a3 + b3 → c4 ≡ a4 + b4
    → weighed c0 c1 c2 c3 c4 ≡ weighed a0 a1 a2 a3 a4 + weighed b0 b1 b2 b3 b4
spread_sum a0 a1 a2 a3 a4 b0 b1 b2 b3 b4 c0 c1 c2 c3 c4 e0 e1 e2 e3 e4 = omega arith

-- a sum that isn't carried is the sum, by the sum of both bounds
pub sum_loose : (m n top : ℕ) (a b : List ℕ) → m + n ≤ top → top ≤ 2 ^ 54 → AreBelow m a → AreBelow n b
    → AreBelow top (loose_sum a b) × (value (loose_sum a b) ≡ value a + value b)
unfolding loose_sum
sum_loose m n top a b l t h k =
    let w0 = limbs_added m n top (slice_index a 0) (slice_index b 0) l t h.l0 k.l0 in
    let w1 = limbs_added m n top (slice_index a 1) (slice_index b 1) l t h.l1 k.l1 in
    let w2 = limbs_added m n top (slice_index a 2) (slice_index b 2) l t h.l2 k.l2 in
    let w3 = limbs_added m n top (slice_index a 3) (slice_index b 3) l t h.l3 k.l3 in
    let w4 = limbs_added m n top (slice_index a 4) (slice_index b 4) l t h.l4 k.l4 in
    (record { l0 = w0.1; l1 = w1.1; l2 = w2.1; l3 = w3.1; l4 = w4.1 }, spread_sum _ _ _ _ _ _ _ _ _ _ _ _ _ _ _ w0.0 w1.0 w2.0 w3.0 w4.0)

carried_sum : (c : List ℕ) → AreBelow (2 ^ 53) c → AreTight (carried_once c) × (value (carried_once c) % field ≡ value c % field)
unfolding carried_once
carried_sum c h =
    once_value (slice_index c 0) (slice_index c 1) (slice_index c 2) (slice_index c 3) (slice_index c 4)
    (omega (arith, h.l0)) (omega (arith, h.l1)) (omega (arith, h.l2)) (omega (arith, h.l3)) (omega (arith, h.l4))

pub add_tight : (a b : List ℕ) → AreBelow (2 ^ 52) a → AreBelow (2 ^ 52) b
    → AreTight (add a b) × (value (add a b) % field ≡ (value a + value b) % field)
unfolding add
add_tight a b h k =
    let sum = sum_loose (2 ^ 52) (2 ^ 52) (2 ^ 53) a b (omega arith) (omega arith) h k in
    let out = carried_sum (loose_sum a b) sum.0 in
    (out.0, out.1 ∙ ap (λ (n : ℕ). n % field) sum.1)

pub add_value : (a b : List ℕ) → AreBelow (2 ^ 52) a → AreBelow (2 ^ 52) b
    → AreBelow (2 ^ 52) (add a b) × (value (add a b) % field ≡ (value a + value b) % field)
add_value a b h k = let out = add_tight a b h k in (below_tight (add a b) out.0, out.1)

-- a limb less than so much more
spared : (spare m top a b : ℕ) → b ≤ spare → m + spare ≤ top → top ≤ 2 ^ 56 → a < m → (less spare a b + b ≡ spare + a) × (less spare a b < top)
unfolding less
spared spare m top a b h l t k = (omega arith, omega arith)

shifted : (x y b a : ℕ) → x % field ≡ y % field → y + b ≡ a + field * 4 → (x + b) % field ≡ a % field
shifted x y b a e f = omega arith

pub sub_value : (a b : List ℕ) → AreBelow (2 ^ 52) a → AreBelow (2 ^ 52) b
    → AreBelow (2 ^ 52) (sub a b) × ((value (sub a b) + value b) % field ≡ value a % field)
unfolding sub
sub_value a b h k =
    let c0 : ℕ = less 9007199254740916 (slice_index a 0) (slice_index b 0) in
    let w0 = spared 9007199254740916 (2 ^ 52) (2 ^ 56) (slice_index a 0) (slice_index b 0) (omega (arith, k.l0)) (omega arith) (omega arith) h.l0 in
    let c1 : ℕ = less 9007199254740988 (slice_index a 1) (slice_index b 1) in
    let w1 = spared 9007199254740988 (2 ^ 52) (2 ^ 56) (slice_index a 1) (slice_index b 1) (omega (arith, k.l1)) (omega arith) (omega arith) h.l1 in
    let c2 : ℕ = less 9007199254740988 (slice_index a 2) (slice_index b 2) in
    let w2 = spared 9007199254740988 (2 ^ 52) (2 ^ 56) (slice_index a 2) (slice_index b 2) (omega (arith, k.l2)) (omega arith) (omega arith) h.l2 in
    let c3 : ℕ = less 9007199254740988 (slice_index a 3) (slice_index b 3) in
    let w3 = spared 9007199254740988 (2 ^ 52) (2 ^ 56) (slice_index a 3) (slice_index b 3) (omega (arith, k.l3)) (omega arith) (omega arith) h.l3 in
    let c4 : ℕ = less 9007199254740988 (slice_index a 4) (slice_index b 4) in
    let w4 = spared 9007199254740988 (2 ^ 52) (2 ^ 56) (slice_index a 4) (slice_index b 4) (omega (arith, k.l4)) (omega arith) (omega arith) h.l4 in
    let out = once_value c0 c1 c2 c3 c4 w0.1 w1.1 w2.1 w3.1 w4.1 in
    let all : weighed c0 c1 c2 c3 c4 + value b ≡ value a + field * 4 = omega (arith, w0.0, w1.0, w2.0, w3.0, w4.0) in
    (below_tight (sub a b) out.0, shifted (value (sub a b)) (weighed c0 c1 c2 c3 c4) (value b) (value a) out.1 all)

shifted_twice : (x b a : ℕ) → x + b ≡ a + field * 2 → (x + b) % field ≡ a % field
shifted_twice x b a f = omega arith

-- a difference that isn't carried is the difference, where what is subtracted is tight
pub difference_loose : (m top : ℕ) (a b : List ℕ) → m + 4503599627370494 ≤ top → top ≤ 2 ^ 54 → AreBelow m a → AreBelow tight b
    → AreBelow top (loose_difference a b) × ((value (loose_difference a b) + value b) % field ≡ value a % field)
unfolding loose_difference
difference_loose m top a b l t h k =
    let w0 = spared 4503599627370458 m top (slice_index a 0) (slice_index b 0) (omega (arith, k.l0)) (omega (arith, l)) (omega (arith, t)) h.l0 in
    let w1 = spared 4503599627370494 m top (slice_index a 1) (slice_index b 1) (omega (arith, k.l1)) l (omega (arith, t)) h.l1 in
    let w2 = spared 4503599627370494 m top (slice_index a 2) (slice_index b 2) (omega (arith, k.l2)) l (omega (arith, t)) h.l2 in
    let w3 = spared 4503599627370494 m top (slice_index a 3) (slice_index b 3) (omega (arith, k.l3)) l (omega (arith, t)) h.l3 in
    let w4 = spared 4503599627370494 m top (slice_index a 4) (slice_index b 4) (omega (arith, k.l4)) l (omega (arith, t)) h.l4 in
    let all : value (loose_difference a b) + value b ≡ value a + field * 2 = spread_difference _ _ _ _ _ _ _ _ _ _ _ _ _ _ _ w0.0 w1.0 w2.0 w3.0 w4.0 in
    (record { l0 = w0.1; l1 = w1.1; l2 = w2.1; l3 = w3.1; l4 = w4.1 }, shifted_twice (value (loose_difference a b)) (value b) (value a) all)
  where
    spread_difference : (a0 a1 a2 a3 a4 b0 b1 b2 b3 b4 c0 c1 c2 c3 c4 : ℕ) → c0 + b0 ≡ 4503599627370458 + a0 → c1 + b1 ≡ 4503599627370494 + a1
        → c2 + b2 ≡ 4503599627370494 + a2 → c3 + b3 ≡ 4503599627370494 + a3 → c4 + b4 ≡ 4503599627370494 + a4
        → weighed c0 c1 c2 c3 c4 + weighed b0 b1 b2 b3 b4 ≡ weighed a0 a1 a2 a3 a4 + field * 2
    spread_difference a0 a1 a2 a3 a4 b0 b1 b2 b3 b4 c0 c1 c2 c3 c4 e0 e1 e2 e3 e4 = omega arith
