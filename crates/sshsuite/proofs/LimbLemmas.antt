-- Numbers of five limbs: the sums of a product, a pass of carries, and one subtraction of the modulus.

use Rattle.std.proofs.Common.{◌≡◌, ℕ, ◌+◌, ◌*◌, ◌/◌, ◌%◌, ◌^◌, ◌<◌, ◌≤◌, List, [], ◌∷◌, lt_of_lt_of_le, mod-eq_of_lt, refl, sym, ap, ◌∙◌, arith}
use Rattle.std.proofs.Math.Nat.{add-mod, add-mul, add-mul-mod_self_left, add-zero, div-add-mod, mul-le-mul_left}
use Rattle.std.specs.Prelude.{slice_index}
use Rattle.sshsuite.specs.FieldValues.{AreBelow}
use Rattle.sshsuite.specs.Limbs.{add64, mul64, reduced_once}

-- the sum of the products at each place
abbrev pub at_places : List ℕ → List ℕ → ℕ
at_places a b = slice_index a 0 * slice_index b 0 + slice_index a 1 * slice_index b 1 + slice_index a 2 * slice_index b 2 + slice_index a 3 * slice_index b 3 + slice_index a 4 * slice_index b 4

-- sums of the products of limbs, of which those beyond the fifth limb count so many times at the lowest
pub record AreFolded (k : ℕ) (a b : List ℕ) (c0 c1 c2 c3 c4 : ℕ) : Type 0 where
  pub p0 : c0 ≡ slice_index a 0 * slice_index b 0 + k * (slice_index a 1 * slice_index b 4) + k * (slice_index a 2 * slice_index b 3) + k * (slice_index a 3 * slice_index b 2) + k * (slice_index a 4 * slice_index b 1)
  pub p1 : c1 ≡ slice_index a 0 * slice_index b 1 + slice_index a 1 * slice_index b 0 + k * (slice_index a 2 * slice_index b 4) + k * (slice_index a 3 * slice_index b 3) + k * (slice_index a 4 * slice_index b 2)
  pub p2 : c2 ≡ slice_index a 0 * slice_index b 2 + slice_index a 1 * slice_index b 1 + slice_index a 2 * slice_index b 0 + k * (slice_index a 3 * slice_index b 4) + k * (slice_index a 4 * slice_index b 3)
  pub p3 : c3 ≡ slice_index a 0 * slice_index b 3 + slice_index a 1 * slice_index b 2 + slice_index a 2 * slice_index b 1 + slice_index a 3 * slice_index b 0 + k * (slice_index a 4 * slice_index b 4)
  pub p4 : c4 ≡ slice_index a 0 * slice_index b 4 + slice_index a 1 * slice_index b 3 + slice_index a 2 * slice_index b 2 + slice_index a 3 * slice_index b 1 + slice_index a 4 * slice_index b 0

-- a sum that is taken modulo 2^64 and isn't more
pub whole64 : (x y : ℕ) → x < 2 ^ 63 → y < 2 ^ 63 → add64 x y ≡ x + y
whole64 x y h k = omega arith

pub moved : (k x y s : ℕ) → s ≡ k * y → x * s ≡ k * (x * y)
moved k x y s e = rw e (omega arith)

-- a product, by bounds of its factors
pub below : (a b m n : ℕ) → a < m → b < n → a * b < m * n
below a b m n h k =
    let first : a * b ≤ a * n = mul-le-mul_left a (omega (arith, k)) in
    let second : n * (a + 1) ≤ n * m = mul-le-mul_left n (omega (arith, h)) in
    omega (arith, first, second, k)

-- limbs below a bound are below a higher one
pub wider : (m n : ℕ) (a : List ℕ) → m ≤ n → AreBelow m a → AreBelow n a
wider m n a h k = record { l0 = omega (arith, k.l0); l1 = omega (arith, k.l1); l2 = omega (arith, k.l2); l3 = omega (arith, k.l3); l4 = omega (arith, k.l4) }

-- so many times a limb is what it is to be where it is below 2^64, and below as many times the limb's bound
pub times_small : (k m n x : ℕ) → 0 < k → k * m ≤ n → n ≤ 2 ^ 64 → x < m → (mul64 x k ≡ k * x) × (mul64 x k < n)
times_small k m n x p l t h =
    let more : k * (x + 1) ≤ k * m = mul-le-mul_left k (omega (arith, h)) in
    let small : k * x < n = omega (arith, p, l, more) in
    let is : mul64 x k ≡ k * x = omega (arith, t, small) in
    (is, omega (arith, is, small))

-- a sum that is taken modulo a number, and one more
modulo : (w s x y : ℕ) → s ≡ y % w → (s + x % w) % w ≡ (y + x) % w
modulo w s x y e = ap (λ (n : ℕ). (n + x % w) % w) e ∙ sym (add-mod y x w)

-- the sum of the products at each place, taken modulo a number that is more than it
module _ (w m n : ℕ) (a b : List ℕ) (room : 5 * (m * n) ≤ w) (h : AreBelow m a) (k : AreBelow n b) where
  pub dotted : (((((slice_index a 0 * slice_index b 0 % w + slice_index a 1 * slice_index b 1 % w) % w + slice_index a 2 * slice_index b 2 % w) % w
      + slice_index a 3 * slice_index b 3 % w) % w + slice_index a 4 * slice_index b 4 % w) % w ≡ at_places a b) × (at_places a b < 5 * (m * n))
  dotted =
      let m0 = below (slice_index a 0) (slice_index b 0) m n h.l0 k.l0 in
      let m1 = below (slice_index a 1) (slice_index b 1) m n h.l1 k.l1 in
      let m2 = below (slice_index a 2) (slice_index b 2) m n h.l2 k.l2 in
      let m3 = below (slice_index a 3) (slice_index b 3) m n h.l3 k.l3 in
      let m4 = below (slice_index a 4) (slice_index b 4) m n h.l4 k.l4 in
      let low : at_places a b < 5 * (m * n) = omega (arith, m0, m1, m2, m3, m4) in
      (modulo w _ _ _ (modulo w _ _ _ (modulo w _ _ _ (modulo w _ _ _ refl))) ∙ mod-eq_of_lt (lt_of_lt_of_le low room), low)

-- by a sum of products that is right for factors below these bounds
module _ (k m n top : ℕ) (dot : List ℕ → List ℕ → ℕ) (is : (a b : List ℕ) → AreBelow m a → AreBelow n b → (dot a b ≡ at_places a b) × (dot a b < top)) where
  pub folded : (a b : List ℕ) (s1 s2 s3 s4 : ℕ) → AreBelow m a → AreBelow n b → s1 ≡ k * slice_index b 1 → s2 ≡ k * slice_index b 2 → s3 ≡ k * slice_index b 3 → s4 ≡ k * slice_index b 4
      → s1 < n → s2 < n → s3 < n → s4 < n
      → AreFolded k a b (dot a (slice_index b 0 ∷ s4 ∷ s3 ∷ s2 ∷ s1 ∷ [])) (dot a (slice_index b 1 ∷ slice_index b 0 ∷ s4 ∷ s3 ∷ s2 ∷ [])) (dot a (slice_index b 2 ∷ slice_index b 1 ∷ slice_index b 0 ∷ s4 ∷ s3 ∷ [])) (dot a (slice_index b 3 ∷ slice_index b 2 ∷ slice_index b 1 ∷ slice_index b 0 ∷ s4 ∷ [])) (dot a (slice_index b 4 ∷ slice_index b 3 ∷ slice_index b 2 ∷ slice_index b 1 ∷ slice_index b 0 ∷ []))
      × AreBelow top (dot a (slice_index b 0 ∷ s4 ∷ s3 ∷ s2 ∷ s1 ∷ []) ∷ dot a (slice_index b 1 ∷ slice_index b 0 ∷ s4 ∷ s3 ∷ s2 ∷ []) ∷ dot a (slice_index b 2 ∷ slice_index b 1 ∷ slice_index b 0 ∷ s4 ∷ s3 ∷ []) ∷ dot a (slice_index b 3 ∷ slice_index b 2 ∷ slice_index b 1 ∷ slice_index b 0 ∷ s4 ∷ []) ∷ dot a (slice_index b 4 ∷ slice_index b 3 ∷ slice_index b 2 ∷ slice_index b 1 ∷ slice_index b 0 ∷ []) ∷ [])
  folded a b s1 s2 s3 s4 h g e1 e2 e3 e4 z1 z2 z3 z4 =
      let f0 = is a (slice_index b 0 ∷ s4 ∷ s3 ∷ s2 ∷ s1 ∷ []) h (record { l0 = g.l0; l1 = z4; l2 = z3; l3 = z2; l4 = z1 }) in
      let f1 = is a (slice_index b 1 ∷ slice_index b 0 ∷ s4 ∷ s3 ∷ s2 ∷ []) h (record { l0 = g.l1; l1 = g.l0; l2 = z4; l3 = z3; l4 = z2 }) in
      let f2 = is a (slice_index b 2 ∷ slice_index b 1 ∷ slice_index b 0 ∷ s4 ∷ s3 ∷ []) h (record { l0 = g.l2; l1 = g.l1; l2 = g.l0; l3 = z4; l4 = z3 }) in
      let f3 = is a (slice_index b 3 ∷ slice_index b 2 ∷ slice_index b 1 ∷ slice_index b 0 ∷ s4 ∷ []) h (record { l0 = g.l3; l1 = g.l2; l2 = g.l1; l3 = g.l0; l4 = z4 }) in
      let f4 = is a (slice_index b 4 ∷ slice_index b 3 ∷ slice_index b 2 ∷ slice_index b 1 ∷ slice_index b 0 ∷ []) h (record { l0 = g.l4; l1 = g.l3; l2 = g.l2; l3 = g.l1; l4 = g.l0 }) in
      let p14 = moved k (slice_index a 1) (slice_index b 4) s4 e4 in
      let p23 = moved k (slice_index a 2) (slice_index b 3) s3 e3 in
      let p24 = moved k (slice_index a 2) (slice_index b 4) s4 e4 in
      let p32 = moved k (slice_index a 3) (slice_index b 2) s2 e2 in
      let p33 = moved k (slice_index a 3) (slice_index b 3) s3 e3 in
      let p34 = moved k (slice_index a 3) (slice_index b 4) s4 e4 in
      let p41 = moved k (slice_index a 4) (slice_index b 1) s1 e1 in
      let p42 = moved k (slice_index a 4) (slice_index b 2) s2 e2 in
      let p43 = moved k (slice_index a 4) (slice_index b 3) s3 e3 in
      let p44 = moved k (slice_index a 4) (slice_index b 4) s4 e4 in (
        record {
          p0 = omega (arith, f0.0, p14, p23, p32, p41);
          p1 = omega (arith, f1.0, p24, p33, p42);
          p2 = omega (arith, f2.0, p34, p43);
          p3 = omega (arith, f3.0, p44);
          p4 = f4.0;
        },
        record { l0 = f0.1; l1 = f1.1; l2 = f2.1; l3 = f3.1; l4 = f4.1 },
      )

-- the number of a list's five limbs
abbrev pub by_limbs : (ℕ → ℕ → ℕ → ℕ → ℕ → ℕ) → List ℕ → ℕ
by_limbs weighed a = weighed (slice_index a 0) (slice_index a 1) (slice_index a 2) (slice_index a 3) (slice_index a 4)

-- limbs of this radix, of which those that are hardly more are below a bound; the radix's fifth power exceeds the modulus by so much
pub record IsRadix (radix excess most span modulus : ℕ) (weighed : ℕ → ℕ → ℕ → ℕ → ℕ → ℕ) : Type 0 where
  pub eight : 8 ≤ most
  pub first : excess < most
  pub rest : (x : ℕ) → x % radix < radix
  pub parted : (x y : ℕ) → x < most → y < most → (x + y ≡ radix * (add64 x y / radix) + add64 x y % radix) × (add64 x y / radix < 8)
  pub times : (n : ℕ) → n < 8 → (mul64 n excess ≡ excess * n) × (mul64 n excess < most)
  pub chain : (l0 l1 l2 l3 l4 first q0 q1 q2 q3 q4 r0 r1 r2 r3 r4 : ℕ) → l0 + first ≡ radix * q0 + r0 → l1 + q0 ≡ radix * q1 + r1 → l2 + q1 ≡ radix * q2 + r2
      → l3 + q2 ≡ radix * q3 + r3 → l4 + q3 ≡ radix * q4 + r4 → weighed l0 l1 l2 l3 l4 + first ≡ weighed r0 r1 r2 r3 r4 + span * q4
  pub lowest : (l0 l1 l2 l3 l4 first : ℕ) → weighed (l0 + first) l1 l2 l3 l4 ≡ weighed l0 l1 l2 l3 l4 + first
  pub beyond : span ≡ modulus + excess
  pub bounded : (l0 l1 l2 l3 l4 : ℕ) → l0 < radix → l1 < radix → l2 < radix → l3 < radix → l4 < radix → weighed l0 l1 l2 l3 l4 < span
  pub settled : (v r s over top : ℕ) → v + excess ≡ r + span * over → r < span → v + excess * over ≡ s + span * top → s < span → v < 2 * modulus → s ≡ v % modulus

module _ (radix excess most span modulus : ℕ) (weighed : ℕ → ℕ → ℕ → ℕ → ℕ → ℕ) (is : IsRadix radix excess most span modulus weighed) where
  -- one pass of carries, of which what is carried out of the highest limb comes back at the lowest
  pub passed : (c0 c1 c2 c3 c4 e1 e2 e3 e4 d0 : ℕ) → e1 ≡ c1 + c0 / radix → e2 ≡ c2 + e1 / radix → e3 ≡ c3 + e2 / radix → e4 ≡ c4 + e3 / radix
      → d0 ≡ c0 % radix + excess * (e4 / radix) → weighed d0 (e1 % radix) (e2 % radix) (e3 % radix) (e4 % radix) % modulus ≡ weighed c0 c1 c2 c3 c4 % modulus
  passed c0 c1 c2 c3 c4 e1 e2 e3 e4 d0 w1 w2 w3 w4 x0 =
      let parts : (x : ℕ) → x ≡ radix * (x / radix) + x % radix = λ x. sym (div-add-mod x radix) in
      let low : ℕ = weighed (c0 % radix) (e1 % radix) (e2 % radix) (e3 % radix) (e4 % radix) in
      let all : weighed c0 c1 c2 c3 c4 + 0 ≡ low + span * (e4 / radix) = is.chain c0 c1 c2 c3 c4 0 (c0 / radix) (e1 / radix) (e2 / radix) (e3 / radix) (e4 / radix)
      (c0 % radix) (e1 % radix) (e2 % radix) (e3 % radix) (e4 % radix)
      (add-zero c0 ∙ parts c0) (sym w1 ∙ parts e1) (sym w2 ∙ parts e2) (sym w3 ∙ parts e3) (sym w4 ∙ parts e4) in
      let first = ap (λ (n : ℕ). weighed n (e1 % radix) (e2 % radix) (e3 % radix) (e4 % radix)) x0 ∙ is.lowest (c0 % radix) (e1 % radix) (e2 % radix) (e3 % radix) (e4 % radix) (excess * (e4 / radix)) in
      let split : span * (e4 / radix) ≡ modulus * (e4 / radix) + excess * (e4 / radix) = ap (λ (n : ℕ). n * (e4 / radix)) is.beyond ∙ add-mul modulus excess (e4 / radix) in
      let whole : weighed c0 c1 c2 c3 c4 ≡ weighed d0 (e1 % radix) (e2 % radix) (e3 % radix) (e4 % radix) + modulus * (e4 / radix) = omega (arith, all, first, split) in
      sym (ap (λ (n : ℕ). n % modulus) whole ∙ add-mul-mod_self_left _ modulus (e4 / radix))

  pub reduced_value : (l : List ℕ) → AreBelow most l → by_limbs weighed l < 2 * modulus
      → AreBelow radix (reduced_once radix excess l) × (by_limbs weighed (reduced_once radix excess l) ≡ by_limbs weighed l % modulus)
  unfolding reduced_once
  reduced_value l h low =
      let l0 : ℕ = slice_index l 0 in
      let l1 : ℕ = slice_index l 1 in
      let l2 : ℕ = slice_index l 2 in
      let l3 : ℕ = slice_index l 3 in
      let l4 : ℕ = slice_index l 4 in
      let o0 : ℕ = add64 l0 excess / radix in
      let s0 = is.parted l0 excess h.l0 is.first in
      let o1 : ℕ = add64 l1 o0 / radix in
      let s1 = is.parted l1 o0 h.l1 (lt_of_lt_of_le s0.1 is.eight) in
      let o2 : ℕ = add64 l2 o1 / radix in
      let s2 = is.parted l2 o1 h.l2 (lt_of_lt_of_le s1.1 is.eight) in
      let o3 : ℕ = add64 l3 o2 / radix in
      let s3 = is.parted l3 o2 h.l3 (lt_of_lt_of_le s2.1 is.eight) in
      let over : ℕ = add64 l4 o3 / radix in
      let s4 = is.parted l4 o3 h.l4 (lt_of_lt_of_le s3.1 is.eight) in
      let times = is.times over s4.1 in
      let m0 : ℕ = add64 l0 (mul64 over excess) in
      let u0 = is.parted l0 (mul64 over excess) h.l0 times.1 in
      let m1 : ℕ = add64 l1 (m0 / radix) in
      let u1 = is.parted l1 (m0 / radix) h.l1 (lt_of_lt_of_le u0.1 is.eight) in
      let m2 : ℕ = add64 l2 (m1 / radix) in
      let u2 = is.parted l2 (m1 / radix) h.l2 (lt_of_lt_of_le u1.1 is.eight) in
      let m3 : ℕ = add64 l3 (m2 / radix) in
      let u3 = is.parted l3 (m2 / radix) h.l3 (lt_of_lt_of_le u2.1 is.eight) in
      let m4 : ℕ = add64 l4 (m3 / radix) in
      let u4 = is.parted l4 (m3 / radix) h.l4 (lt_of_lt_of_le u3.1 is.eight) in
      let once = is.chain l0 l1 l2 l3 l4 excess o0 o1 o2 o3 over _ _ _ _ _ s0.0 s1.0 s2.0 s3.0 s4.0 in
      let twice = is.chain l0 l1 l2 l3 l4 (mul64 over excess) (m0 / radix) (m1 / radix) (m2 / radix) (m3 / radix) (m4 / radix) _ _ _ _ _ u0.0 u1.0 u2.0 u3.0 u4.0 in
      let below : AreBelow radix (reduced_once radix excess l) = record { l0 = is.rest m0; l1 = is.rest m1; l2 = is.rest m2; l3 = is.rest m3; l4 = is.rest m4 } in (
        below,
        is.settled (by_limbs weighed l) _ (by_limbs weighed (reduced_once radix excess l)) over (m4 / radix)
            once (is.bounded _ _ _ _ _ (is.rest _) (is.rest _) (is.rest _) (is.rest _) (is.rest _)) (ap (λ (n : ℕ). by_limbs weighed l + n) (sym times.0) ∙ twice)
            (is.bounded _ _ _ _ _ below.l0 below.l1 below.l2 below.l3 below.l4) low,
      )
