-- Products modulo an odd number, word by word.

use Rattle.std.proofs.Common.{◌≡◌, ℕ, zero, suc, ◌+◌, ◌-◌, ◌*◌, ◌/◌, ◌%◌, ◌^◌, ◌<◌, ◌≤◌, List, length, drop, refl, sym, ap, ◌∙◌, add-one, arith, cond, ltb, inl, inr}
use Rattle.std.proofs.Math.Nat.{add-mul-mod_self_right, mod-add-mod, mod-eq_of_lt}
use Rattle.std.proofs.lemmas.Bool.{cases_lt, le-ltb, lt-ltb}
use Rattle.std.proofs.lemmas.List.{get_or-drop}
use Rattle.std.proofs.lemmas.Nat.{mod-mul-add, mul-le, mul-mod_second}
use Rattle.std.specs.Prelude.{replicate, slice_index}
use Rattle.sshsuite.specs.LongNumbers.{number_of, number_to, weight}
use Rattle.sshsuite.proofs.LongNumberLemmas.{moved, number_all, number_more, number_none, weight_more, weight_none}

-- a number by its lowest word and the rest
pub lowest : (words : List ℕ) (n : ℕ) → slice_index words 0 + 2 ^ 64 * number_to (drop 1 words) n ≡ number_to words (n + 1)
lowest words n = moved words (drop 1 words) n (λ k h. get_or-drop 1 words k 0 ∙ ap (slice_index words) (omega arith))

-- the lowest word becomes zero
vanishes : (a p i m : ℕ) → (p * i + 1) % 2 ^ 64 ≡ 0 → m ≡ a * i % 2 ^ 64 → (a + m * p) % 2 ^ 64 ≡ 0
vanishes a p i m inverse is =
    let k : ℕ = (p * i + 1) / 2 ^ 64 in
    let j : ℕ = a * i / 2 ^ 64 in
    let e : p * i + 1 ≡ 2 ^ 64 * k = omega (arith, inverse) in
    let f : a * i ≡ 2 ^ 64 * j + m = omega (arith, is) in
    let g : a * (p * i + 1) ≡ a * (2 ^ 64 * k) = ap (λ (n : ℕ). a * n) e in
    let h : p * (a * i) ≡ p * (2 ^ 64 * j + m) = ap (λ (n : ℕ). p * n) f in
    multiple (a + m * p) (p * j) (a * k) (omega (arith, g, h))
  where
    multiple : (x y z : ℕ) → x + 2 ^ 64 * y ≡ 2 ^ 64 * z → x % 2 ^ 64 ≡ 0
    multiple x y z e = omega arith

low_zero : (s2 w g s1 m p a s20 p0 u v z w1 : ℕ) → s2 + w * g ≡ s1 + m * p → a + 2 ^ 64 * u ≡ s1 → p0 + 2 ^ 64 * v ≡ p → s20 + 2 ^ 64 * z ≡ s2 → w ≡ 2 ^ 64 * w1
    → s20 < 2 ^ 64 → (a + m * p0) % 2 ^ 64 ≡ 0 → s20 ≡ 0
low_zero s2 w g s1 m p a s20 p0 u v z w1 sum ea ep es ew small none =
    let f : w * g ≡ 2 ^ 64 * (w1 * g) = rw ew (omega arith) in
    let h : m * p ≡ m * p0 + 2 ^ 64 * (m * v) = rw (sym ep) (omega arith) in
    remains s20 (a + m * p0) (z + w1 * g) (u + m * v) small none (omega (arith, sum, ea, es, f, h))
  where
    remains : (s x y q : ℕ) → s < 2 ^ 64 → x % 2 ^ 64 ≡ 0 → s + 2 ^ 64 * y ≡ x + 2 ^ 64 * q → s ≡ 0
    remains s x y q h k e = omega arith

-- what the lowest word of the sum is after both products
pub low_word : (s1 s2 p : List ℕ) (n g a i m : ℕ) → 0 < n → length s1 ≡ n → length s2 ≡ n → length p ≡ n → (slice_index p 0 * i + 1) % 2 ^ 64 ≡ 0 → m ≡ slice_index s1 0 * i % 2 ^ 64
    → slice_index s2 0 < 2 ^ 64 → number_of s2 + weight n * g ≡ number_of s1 + m * number_of p → slice_index s2 0 ≡ 0
low_word s1 s2 p zero g a i m h l1 l2 lp inverse is small sum = absurd (omega arith)
low_word s1 s2 p (suc n) g a i m h l1 l2 lp inverse is small sum =
    let at : suc n ≡ n + 1 = sym (add-one n) in
    let e1 : slice_index s1 0 + 2 ^ 64 * number_to (drop 1 s1) n ≡ number_of s1 = lowest s1 n ∙ sym (number_all s1 (n + 1) (sym at ∙ sym l1)) in
    let e2 : slice_index s2 0 + 2 ^ 64 * number_to (drop 1 s2) n ≡ number_of s2 = lowest s2 n ∙ sym (number_all s2 (n + 1) (sym at ∙ sym l2)) in
    let ep : slice_index p 0 + 2 ^ 64 * number_to (drop 1 p) n ≡ number_of p = lowest p n ∙ sym (number_all p (n + 1) (sym at ∙ sym lp)) in
    low_zero (number_of s2) (weight (suc n)) g (number_of s1) m (number_of p) (slice_index s1 0) (slice_index s2 0) (slice_index p 0) (number_to (drop 1 s1) n) (number_to (drop 1 p) n) (number_to (drop 1 s2) n) (weight n)
    sum e1 ep e2 (ap weight at ∙ weight_more n) small (vanishes (slice_index s1 0) (slice_index p 0) i m inverse is)

-- One step: 2^64 times the new number is the old one, the product, and a multiple of the modulus.
pub stepped : (s w top x b p f g m s1 s2 s3 ab : ℕ) → s1 + w * f ≡ s + x * b → s2 + w * g ≡ s1 + m * p → 2 ^ 64 * s3 ≡ s2 + w * (ab % 2 ^ 64) → ab ≡ top + f + g
    → 2 ^ 64 * (s3 + w * (ab / 2 ^ 64)) ≡ s + w * top + x * b + m * p
stepped s w top x b p f g m s1 s2 s3 ab h1 h2 h3 is =
    let e : w * (ab % 2 ^ 64 + 2 ^ 64 * (ab / 2 ^ 64)) ≡ w * (top + f + g) = ap (λ (n : ℕ). w * n) (whole ab ∙ is) in omega (arith, h1, h2, h3, e)
  where
    whole : (n : ℕ) → n % 2 ^ 64 + 2 ^ 64 * (n / 2 ^ 64) ≡ n
    whole n = omega arith

pub step_below : (t v x b m p : ℕ) → 2 ^ 64 * t ≡ v + x * b + m * p → v < 2 * p → x < 2 ^ 64 → m < 2 ^ 64 → b < p → t < 2 * p
step_below t v x b m p is hv hx hm hb =
    let first : x * b ≤ (2 ^ 64 - 1) * p = mul-le x b (2 ^ 64 - 1) p (omega arith) (omega arith) in
    let second : m * p ≤ (2 ^ 64 - 1) * p = mul-le m p (2 ^ 64 - 1) p (omega arith) (omega arith) in omega (arith, first, second, is)

pub step_remainder : (t v m p : ℕ) → 2 ^ 64 * t ≡ v + m * p → 2 ^ 64 * t % p ≡ v % p
step_remainder t v m p is = ap (λ (n : ℕ). n % p) is ∙ add-mul-mod_self_right v m p

-- a step on lists of words
pub step_is : (s s1 s2 s3 b p : List ℕ) (top x i f g ab low above : ℕ) → 0 < length p → length s ≡ length p → length s1 ≡ length s → length s2 ≡ length s1
    → (slice_index p 0 * i + 1) % 2 ^ 64 ≡ 0 → slice_index s2 0 < 2 ^ 64 → x < 2 ^ 64
    → number_of s1 + weight (length s) * f ≡ number_of s + x * number_of b
    → number_of s2 + weight (length s1) * g ≡ number_of s1 + slice_index s1 0 * i % 2 ^ 64 * number_of p
    → slice_index s2 0 + 2 ^ 64 * number_of s3 ≡ number_of s2 + weight (length s2) * low
    → low ≡ ab % 2 ^ 64 → above ≡ ab / 2 ^ 64 → ab ≡ top + f + g
    → number_of s + weight (length p) * top < 2 * number_of p → number_of b < number_of p
    → (2 ^ 64 * (number_of s3 + weight (length p) * above) % number_of p ≡ (number_of s + weight (length p) * top + x * number_of b) % number_of p)
    × (number_of s3 + weight (length p) * above < 2 * number_of p)
step_is s s1 s2 s3 b p top x i f g ab low above some l0 l1 l2 inverse small hx h1 h2 h3 lows aboves is hs hb =
    let n : ℕ = length p in
    let m : ℕ = slice_index s1 0 * i % 2 ^ 64 in
    let k1 : length s1 ≡ n = l1 ∙ l0 in
    let k2 : length s2 ≡ n = l2 ∙ k1 in
    let g1 : number_of s1 + weight n * f ≡ number_of s + x * number_of b = ap (λ (k : ℕ). number_of s1 + weight k * f) (sym l0) ∙ h1 in
    let g2 : number_of s2 + weight n * g ≡ number_of s1 + m * number_of p = ap (λ (k : ℕ). number_of s2 + weight k * g) (sym k1) ∙ h2 in
    let zero_word : slice_index s2 0 ≡ 0 = low_word s1 s2 p n g (slice_index s1 0) i m some k1 k2 refl inverse refl small g2 in
    let g3 : 2 ^ 64 * number_of s3 ≡ number_of s2 + weight n * (ab % 2 ^ 64) =
    plain (slice_index s2 0) (2 ^ 64 * number_of s3) zero_word ∙ h3 ∙ ap (λ (k : ℕ). number_of s2 + weight k * low) k2 ∙ ap (λ (k : ℕ). number_of s2 + weight n * k) lows in
    let all : 2 ^ 64 * (number_of s3 + weight n * above) ≡ number_of s + weight n * top + x * number_of b + m * number_of p =
    ap (λ (k : ℕ). 2 ^ 64 * (number_of s3 + weight n * k)) aboves ∙ stepped (number_of s) (weight n) top x (number_of b) (number_of p) f g m (number_of s1) (number_of s2) (number_of s3) ab g1 g2 g3 is in (
      step_remainder (number_of s3 + weight n * above) (number_of s + weight n * top + x * number_of b) m (number_of p) all,
      step_below (number_of s3 + weight n * above) (number_of s + weight n * top) x (number_of b) m (number_of p) all hs hx (omega arith) hb,
    )
  where
    plain : (z r : ℕ) → z ≡ 0 → r ≡ z + r
    plain z r e = omega arith

-- The last subtraction.
pub top_small : (t w top p : ℕ) → t + w * top < 2 * p → p < w → top < 2
top_small t w zero p h k = omega arith
top_small t w (suc zero) p h k = omega arith
top_small t w (suc (suc top)) p h k =
    let e : w * suc (suc top) ≡ 2 * w + w * top = omega arith in absurd (omega (arith, e))

-- whether the number with the word above it isn't below the modulus
pub bit_small : (t w top p : ℕ) → t + w * top < 2 * p → p < w → top + 1 - cond (ltb t p) 1 0 < 2
bit_small t w top p h k =
    let s = top_small t w top p h k in
    elim (cases_lt t p) [
      | inl less ↦ rw (lt-ltb t p less) (omega (arith, s))
      | inr more ↦ rw (le-ltb t p more) (none top more s h)
    ]
  where
    none : (n : ℕ) → p ≤ t → n < 2 → t + w * n < 2 * p → n + 1 - 0 < 2
    none zero more s h = omega arith
    none (suc zero) more s h = absurd (omega arith)
    none (suc (suc n)) more s h = absurd (omega arith)

once : (x p y : ℕ) → y < p → y + p ≡ x → y ≡ x % p
once x p y h e = sym (mod-mul-add 1 p y h) ∙ ap (λ (n : ℕ). n % p) (omega (arith, e))

kept : (t w p new borrow : ℕ) → new < w → new + 0 * p ≡ t + w * borrow → new ≡ t
kept t w p new zero hn e = omega arith
kept t w p new (suc borrow) hn e = let f : w * suc borrow ≡ w + w * borrow = omega arith in absurd (omega (arith, f, e, hn))

taken : (t w p new borrow : ℕ) → p < w → new < w → p ≤ t → new + 1 * p ≡ t + w * borrow → new + p ≡ t
taken t w p new zero hp hn more e = omega arith
taken t w p new (suc borrow) hp hn more e = let f : w * suc borrow ≡ w + w * borrow = omega arith in absurd (omega (arith, f, e, hn, more))

taken_above : (t w p new borrow : ℕ) → p < w → new < w → t < p → new + 1 * p ≡ t + w * borrow → new + p ≡ t + w
taken_above t w p new zero hp hn less e = absurd (omega arith)
taken_above t w p new (suc zero) hp hn less e = omega arith
taken_above t w p new (suc (suc borrow)) hp hn less e = let f : w * suc (suc borrow) ≡ 2 * w + w * borrow = omega arith in absurd (omega (arith, f, e, hn, hp))

pub reduced : (t w top p new borrow : ℕ) → p < w → new < w → t + w * top < 2 * p → new + (top + 1 - cond (ltb t p) 1 0) * p ≡ t + w * borrow
    → new ≡ (t + w * top) % p
reduced t w top p new borrow hp hn low e =
    let s = top_small t w top p low hp in
    elim (cases_lt t p) [
      | inl less ↦ below top less s low (rw (lt-ltb t p less) at e)
      | inr more ↦ above top more s low (rw (le-ltb t p more) at e)
    ]
  where
    below : (n : ℕ) → t < p → n < 2 → t + w * n < 2 * p → new + (n + 1 - 1) * p ≡ t + w * borrow → new ≡ (t + w * n) % p
    below zero less s low e =
        let f : new ≡ t = kept t w p new borrow hn e in
        let g : t + w * 0 ≡ t = omega arith in f ∙ (sym (mod-eq_of_lt less) ∙ ap (λ (k : ℕ). k % p) (sym g))
    below (suc zero) less s low e =
        let f = taken_above t w p new borrow hp hn less e in once (t + w * 1) p new (omega (arith, f, low)) (omega (arith, f))
    below (suc (suc n)) less s low e = absurd (omega arith)

    above : (n : ℕ) → p ≤ t → n < 2 → t + w * n < 2 * p → new + (n + 1 - 0) * p ≡ t + w * borrow → new ≡ (t + w * n) % p
    above zero more s low e =
        let f = taken t w p new borrow hp hn more e in once (t + w * 0) p new (omega (arith, f, low)) (omega (arith, f))
    above (suc zero) more s low e = absurd (omega arith)
    above (suc (suc n)) more s low e = absurd (omega arith)

-- The product, word by word.
pub zero_at : (m n : ℕ) → slice_index (replicate m 0) n ≡ 0
zero_at zero n = refl
zero_at (suc m) zero = refl
zero_at (suc m) (suc n) = zero_at m n

pub number_zeros : (m n : ℕ) → number_to (replicate m 0) n ≡ 0
unfolding number_to
number_zeros m zero = refl
number_zeros m (suc n) =
    let e = number_zeros m n in
    let f : slice_index (replicate m 0) n ≡ 0 = zero_at m n in rw (e, f) (omega arith)

pub number_of_zeros : (m : ℕ) → number_of (replicate m 0) ≡ 0
number_of_zeros m = number_all (replicate m 0) (length (replicate m 0)) refl ∙ number_zeros m (length (replicate m 0))

pub record IsMultiplied (a : List ℕ) (b p i out top w : ℕ) : Type 0 where
  pub remainder : weight i * (out + w * top) % p ≡ number_to a i * b % p
  pub below : out + w * top < 2 * p

pub multiplied_none : (a : List ℕ) (b p w : ℕ) → b < p → IsMultiplied a b p 0 0 0 w
multiplied_none a b p w h = record {
  remainder = ap (λ (n : ℕ). n % p) (rw (number_none a, weight_none) (omega arith));
  below = omega arith;
}

further : (w t u a x b p : ℕ) → w * t % p ≡ a * b % p → 2 ^ 64 * u % p ≡ (t + x * b) % p → 2 ^ 64 * w * u % p ≡ (a + w * x) * b % p
further w t u a x b p so is =
    let e : 2 ^ 64 * w * u ≡ w * (2 ^ 64 * u) = omega arith in
    let f : w * (t + x * b) ≡ w * t + w * x * b = omega arith in
    let g : a * b + w * x * b ≡ (a + w * x) * b = omega arith in
    ap (λ (n : ℕ). n % p) e ∙ sym (mul-mod_second w (2 ^ 64 * u) p) ∙ ap (λ (n : ℕ). w * n % p) is ∙ mul-mod_second w (t + x * b) p ∙ ap (λ (n : ℕ). n % p) f
    ∙ sym (mod-add-mod (w * t) p (w * x * b)) ∙ ap (λ (n : ℕ). (n + w * x * b) % p) so ∙ mod-add-mod (a * b) p (w * x * b) ∙ ap (λ (n : ℕ). n % p) g

pub multiplied_more : (a : List ℕ) (b p i out top new above w : ℕ) → IsMultiplied a b p i out top w
    → 2 ^ 64 * (new + w * above) % p ≡ (out + w * top + slice_index a i * b) % p → new + w * above < 2 * p
    → IsMultiplied a b p (i + 1) new above w
multiplied_more a b p i out top new above w so is low = record {
  remainder = rw (weight_more i, number_more a i) (further (weight i) (out + w * top) (new + w * above) (number_to a i) (slice_index a i) b p so.remainder is);
  below = low;
}

pub multiplied_all : (a : List ℕ) (b p i n out top result : ℕ) → i ≡ n → n ≡ length a → IsMultiplied a b p i out top (weight n) → result ≡ (out + weight n * top) % p
    → weight n * result % p ≡ number_of a * b % p
multiplied_all a b p i n out top result same at so is =
    ap (λ (k : ℕ). weight n * k % p) is ∙ mul-mod_second (weight n) (out + weight n * top) p ∙ ap (λ (k : ℕ). weight k * (out + weight n * top) % p) (sym same)
    ∙ so.remainder ∙ ap (λ (k : ℕ). k * b % p) (sym (number_all a i (same ∙ at)))
