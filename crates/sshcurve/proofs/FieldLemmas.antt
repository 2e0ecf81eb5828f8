-- The numbers modulo 2^255 - 19 are a field: inverses, and no zero divisors. Its d isn't a square.

use Rattle.std.proofs.Common.{◌≡◌, ◌≢◌, ℕ, zero, suc, ◌+◌, ◌-◌, ◌*◌, ◌/◌, ◌%◌, ◌^◌, ◌<◌, ◌⊎◌, inl, inr, List, [], ◌∷◌, refl, sym, ap, ap₂, ◌∙◌, arith, mod-lt, ⊎_elim}
use Rattle.std.proofs.Math.Nat.{mod-eq_of_lt, pow-suc}
use Rattle.std.proofs.lemmas.Nat.{mul-mod, mul-mod_second, pow-mod, mul-pow}
use Rattle.std.proofs.lemmas.Bool.{cases_eq}
use Prim.{Unit}
use Rattle.sshcurve.specs.Primes.{IsField}
use Rattle.sshcurve.specs.FieldNumbers.{field, plus, minus, times, power, reciprocal}
use Rattle.sshcurve.specs.Curve.{curve_d}
use Rattle.sshcurve.proofs.PrimeLemmas.{power_by, factor_zero, power_of_power, power_by_is, pow-two}
use Rattle.sshpolynomials.specs.Polynomials.{AreLow}
use Rattle.sshcurve.proofs.Certificates.{prime_field}

abbrev pub is_field : IsField field
is_field = prime_field

-- each of these numbers is below m
abbrev pub AllBelow : ℕ → List ℕ → Type 0
AllBelow m [] = Unit {0}
AllBelow m (x ∷ xs) = (x < m) × AllBelow m xs

pub all_low : (m : ℕ) (xs : List ℕ) → 0 < m → AllBelow m xs → AreLow m xs
all_low m [] k h i = k
all_low m (x ∷ xs) k h zero = h.0
all_low m (x ∷ xs) k h (suc i) = all_low m xs k h.1 i

pub plus_low : (x y : ℕ) → plus x y < field
unfolding plus
plus_low x y = mod-lt (x + y) (omega arith)

pub minus_low : (x y : ℕ) → minus x y < field
unfolding minus
minus_low x y = mod-lt (x + field - y) (omega arith)

pub times_low : (x y : ℕ) → times x y < field
unfolding times
times_low x y = mod-lt (x * y) (omega arith)

pub reciprocal_low : (x : ℕ) → reciprocal x < field
unfolding reciprocal power
reciprocal_low x = mod-lt (x ^ (field - 2)) (omega arith)

-- The same modulo any prime.
module _ (m : ℕ) (is : IsField m) where
  inverse_in : (x : ℕ) → x < m → x ≢ 0 → x * (x ^ (m - 2) % m) % m ≡ 1
  inverse_in x h k =
      let some = is.some in
      let e : m - 1 ≡ suc (m - 2) = omega (arith, some) in
      let f : x * x ^ (m - 2) ≡ x ^ (m - 2) * x = omega arith in
      mul-mod_second x (x ^ (m - 2)) m ∙ ap (λ (n : ℕ). n % m) (f ∙ sym (pow-suc x (m - 2)) ∙ ap (λ (n : ℕ). x ^ n) (sym e)) ∙ is.fermat x (λ (z : x % m ≡ 0). k (sym (mod-eq_of_lt h) ∙ z))

  zero_factor : (x y : ℕ) → x < m → y < m → x * y % m ≡ 0 → (x ≡ 0) ⊎ (y ≡ 0)
  zero_factor x y h k e = ⊎_elim (λ (a : x % m ≡ 0). inl (sym (mod-eq_of_lt h) ∙ a)) (λ (a : y % m ≡ 0). inr (sym (mod-eq_of_lt k) ∙ a)) (factor_zero m is x y e)

  -- d isn't a square if its power (m - 1) / 2 is -1 (Euler)
  not_square : (k d a b : ℕ) → m < 2 ^ k → 2 < m → (m - 1) / 2 * 2 ≡ m - 1 → power_by k m d ((m - 1) / 2) % m ≡ m - 1 → a * a % m ≡ d * (b * b % m) % m → b % m ≢ 0 → ⊥
  not_square k d a b fits big even is_minus e hb =
      let h : ℕ = (m - 1) / 2 in
      let twice : (x : ℕ) → (x * x) ^ h ≡ x ^ (m - 1) = λ x. ap (λ (n : ℕ). n ^ h) (sym (pow-two x)) ∙ power_of_power x 2 h ∙ ap (λ (n : ℕ). x ^ n) (omega (arith, even)) in
      let left : (a * a) ^ h % m ≡ a ^ (m - 1) % m = ap (λ (n : ℕ). n % m) (twice a) in
      let dm : d ^ h % m ≡ m - 1 = sym (power_by_is k m d h (omega (arith, fits, even))) ∙ is_minus in
      let bm : b ^ (m - 1) % m ≡ 1 = is.fermat b hb in
      let right : (d * (b * b)) ^ h % m ≡ m - 1 =
      ap (λ (n : ℕ). n % m) (mul-pow d (b * b) h ∙ ap (λ (n : ℕ). d ^ h * n) (twice b)) ∙ mul-mod (d ^ h) (b ^ (m - 1)) m ∙ ap₂ (λ (x y : ℕ). x * y % m) dm bm ∙ ap (λ (n : ℕ). n % m) (omega arith) ∙ mod-eq_of_lt (omega (arith, big)) in
      let same : (a * a) ^ h % m ≡ (d * (b * b)) ^ h % m =
      sym (pow-mod (a * a) h m) ∙ ap (λ (n : ℕ). n ^ h % m) (e ∙ mul-mod_second d (b * b) m) ∙ pow-mod (d * (b * b)) h m in
      let all : a ^ (m - 1) % m ≡ m - 1 = sym left ∙ same ∙ right in
      ⊎_elim (λ (z : a % m ≡ 0).
      let p : a ^ (m - 1) % m ≡ 0 ^ (m - 1) % m = sym (pow-mod a (m - 1) m) ∙ ap (λ (n : ℕ). n ^ (m - 1) % m) z in
      let q : 0 ^ (m - 1) ≡ 0 = ap (λ (n : ℕ). 0 ^ n) (successor (m - 1) (omega (arith, big))) ∙ pow-suc 0 (m - 1 - 1) ∙ omega arith in
      let r : a ^ (m - 1) % m ≡ 0 = p ∙ ap (λ (n : ℕ). n % m) q ∙ mod-eq_of_lt (omega (arith, big)) in
      omega (arith, all, r, big))
      (λ (z : a % m ≢ 0). let p = is.fermat a z in omega (arith, all, p, big))
      (cases_eq (a % m) 0)
    where
      successor : (k : ℕ) → 0 < k → k ≡ suc (k - 1)
      successor k h = omega arith

pub inverse : (x : ℕ) → x < field → x ≢ 0 → times x (reciprocal x) ≡ 1
unfolding times reciprocal power
inverse x h k = inverse_in field is_field x h k

pub times_zero : (x y : ℕ) → x < field → y < field → times x y ≡ 0 → (x ≡ 0) ⊎ (y ≡ 0)
unfolding times
times_zero x y h k e = zero_factor field is_field x y h k e

pub times_nonzero : (x y : ℕ) → x < field → y < field → x ≢ 0 → y ≢ 0 → times x y ≢ 0
times_nonzero x y h k a b e = ⊎_elim a b (times_zero x y h k e)

d_is_no_square : power_by 255 field curve_d ((field - 1) / 2) % field ≡ field - 1
unfolding curve_d
d_is_no_square = refl

-- d isn't a quotient of squares
pub d_not_square : (a b : ℕ) → b < field → times a a ≡ times curve_d (times b b) → b ≡ 0
unfolding times
d_not_square a b low e =
    ⊎_elim (λ (z : b ≡ 0). z) (λ (z : b ≢ 0).
    absurd (not_square field is_field 255 curve_d a b (omega arith) (omega arith) refl d_is_no_square e (λ (k : b % field ≡ 0). z (sym (mod-eq_of_lt low) ∙ k))))
    (cases_eq b 0)
