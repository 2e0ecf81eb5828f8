-- A number n with a certificate is a prime (Pratt): some g has the order n - 1 modulo n, which powers of g by the prime factors of n - 1 show.

use Rattle.std.proofs.Common.{◌≡◌, ◌≢◌, ℕ, zero, suc, ◌+◌, ◌-◌, ◌*◌, ◌/◌, ◌%◌, ◌^◌, ◌<◌, ◌≤◌, ◌⊎◌, inl, inr, cond, eqb, ltb, not, true, false, Bool, List, [], ◌∷◌, refl, sym, ap, ap₂, ◌∙◌, arith, eqb-true, ltb-true, add-one, mod-lt, ⊎_elim}
use Rattle.std.proofs.Math.Nat.{mod-mod, mod-eq_of_lt, div-add-mod, pow-suc, pow-zero, eq-zero-or-pos, zero-mod, mul-mod_right, eq_of_mul-eq-mul_left, mul-div_cancel_left, eq-or-lt_of_le, div-le_self}
use Rattle.std.proofs.lemmas.Nat.{mul-mod, mul-mod_first, mul-mod_second, pow-add, pow-mod, mul-pow}
use Rattle.std.proofs.lemmas.Bool.{and_parts, cases_Bool, cases_eq, cases_lt, eqb-false}
use Prim.{Unit, tt}
use Rattle.sshcurve.specs.Primes.{IsField}
use Rattle.std.specs.Prelude.{if◌then◌else◌, ◌&&◌}
use Rattle.sshcurve.proofs.PigeonLemmas.{surjective}

-- the power of g modulo m, for an exponent below 2^k, by squaring
abbrev pub power_by : ℕ → ℕ → ℕ → ℕ → ℕ
power_by zero m g e = 1
power_by (suc k) m g e = let r = power_by k m (g * g % m) (e / 2) in if eqb (e % 2) 1 then g * r % m else r

-- the product of some numbers
abbrev pub product_of : List ℕ → ℕ
product_of [] = 1
product_of (q ∷ qs) = q * product_of qs

-- no power (n - 1) / q of g is 1 modulo n, for each of these q
abbrev pub none_is_one : ℕ → ℕ → ℕ → List ℕ → Bool
none_is_one k n g [] = true
none_is_one k n g (q ∷ qs) = not (eqb (power_by k n g ((n - 1) / q) % n) 1) && none_is_one k n g qs

-- The certificate of n holds: n is below 2^k, the product of the q is n - 1, the power n - 1 of g is 1 modulo n, and no power (n - 1) / q is.
abbrev pub is_generated : ℕ → ℕ → ℕ → List ℕ → Bool
is_generated k n g qs = ltb 1 n && (ltb n (2 ^ k) && (eqb (product_of qs) (n - 1) && (eqb (power_by k n g (n - 1) % n) 1 && none_is_one k n g qs)))

-- Powers.
pub power_of_power : (g a b : ℕ) → (g ^ a) ^ b ≡ g ^ (a * b)
power_of_power g a zero = let e : a * 0 ≡ 0 = omega arith in pow-zero (g ^ a) ∙ sym (ap (λ (k : ℕ). g ^ k) e ∙ pow-zero g)
power_of_power g a (suc b) =
    let e : a * suc b ≡ a * b + a = omega arith in
    pow-suc (g ^ a) b ∙ ap (λ (k : ℕ). k * g ^ a) (power_of_power g a b) ∙ sym (ap (λ (k : ℕ). g ^ k) e ∙ pow-add g (a * b) a)

pub pow-two : (g : ℕ) → g ^ 2 ≡ g * g
pow-two g = pow-suc g 1 ∙ ap (λ (k : ℕ). k * g) (pow-suc g 0 ∙ ap (λ (k : ℕ). k * g) (pow-zero g)) ∙ omega arith

pow-more : (g k : ℕ) → g * g ^ k ≡ g ^ (k + 1)
pow-more g k = omega (arith, pow-suc g k, ap (λ (n : ℕ). g ^ n) (add-one k))

pub one-pow : (k : ℕ) → 1 ^ k ≡ 1
one-pow zero = pow-zero 1
one-pow (suc k) = pow-suc 1 k ∙ ap (λ (n : ℕ). n * 1) (one-pow k)

-- a power of what is 1 is 1
pub power_of_one : (m x k : ℕ) → 1 < m → x % m ≡ 1 → x ^ k % m ≡ 1
power_of_one m x k h e = sym (pow-mod x k m) ∙ ap (λ (n : ℕ). n ^ k % m) e ∙ ap (λ (n : ℕ). n % m) (one-pow k) ∙ mod-eq_of_lt h

pub power_by_is : (k m g e : ℕ) → e < 2 ^ k → power_by k m g e % m ≡ g ^ e % m
power_by_is zero m g e h =
    let z : e ≡ 0 = omega (arith, pow-zero 2) in
    sym (ap (λ (n : ℕ). g ^ n % m) z ∙ ap (λ (n : ℕ). n % m) (pow-zero g))
power_by_is (suc k) m g e h =
    let half : e / 2 < 2 ^ k = omega (arith, pow-suc 2 k) in
    let r : ℕ = power_by k m (g * g % m) (e / 2) in
    let rest : r % m ≡ g ^ (2 * (e / 2)) % m =
    power_by_is k m (g * g % m) (e / 2) half ∙ pow-mod (g * g) (e / 2) m ∙ ap (λ (n : ℕ). n ^ (e / 2) % m) (sym (pow-two g)) ∙ ap (λ (n : ℕ). n % m) (power_of_power g 2 (e / 2)) in
    ⊎_elim (λ (odd : eqb (e % 2) 1 ≡ true).
    let o = eqb-true (e % 2) 1 odd in
    let f : 2 * (e / 2) + 1 ≡ e = omega (arith, o) in
    ap (λ (b : Bool). cond b (g * r % m) r % m) odd ∙ mod-mod (g * r) m ∙ sym (mul-mod_second g r m) ∙ ap (λ (n : ℕ). g * n % m) rest ∙ mul-mod_second g (g ^ (2 * (e / 2))) m
    ∙ ap (λ (n : ℕ). n % m) (pow-more g (2 * (e / 2))) ∙ ap (λ (n : ℕ). g ^ n % m) f)
    (λ (even : eqb (e % 2) 1 ≡ false).
    let o = eqb-false (e % 2) 1 even in
    let f : 2 * (e / 2) ≡ e = omega (arith, o) in
    ap (λ (b : Bool). cond b (g * r % m) r % m) even ∙ rest ∙ ap (λ (n : ℕ). g ^ n % m) f)
    (cases_Bool (eqb (e % 2) 1))

-- Modulo a prime.
module _ (q : ℕ) (is_field : IsField q) where
  no_zero_product : (a b : ℕ) → a * b % q ≡ 0 → a % q ≢ 0 → b % q ≢ 0 → ⊥
  no_zero_product a b e ha hb =
      let n : ℕ = q - 1 in
      let one_a = is_field.fermat a ha in
      let one_b = is_field.fermat b hb in
      let some = is_field.some in
      let all : (a * b) ^ n % q ≡ 1 = ap (λ (k : ℕ). k % q) (mul-pow a b n) ∙ mul-mod (a ^ n) (b ^ n) q ∙ ap₂ (λ (x y : ℕ). x * y % q) one_a one_b ∙ mod-eq_of_lt some in
      let none : (a * b) ^ n % q ≡ 0 = sym (pow-mod (a * b) n q) ∙ ap (λ (k : ℕ). k ^ n % q) e ∙ zero_power n q (omega arith) in
      omega (arith, all, none)
    where
      zero_power : (k m : ℕ) → 0 < k → 0 ^ k % m ≡ 0
      zero_power zero m h = absurd (omega arith)
      zero_power (suc k) m h = ap (λ (x : ℕ). x % m) (pow-suc 0 k ∙ omega arith) ∙ zero-mod m

  -- a product is 0 only if a factor is
  pub factor_zero : (a b : ℕ) → a * b % q ≡ 0 → (a % q ≡ 0) ⊎ (b % q ≡ 0)
  factor_zero a b e =
      ⊎_elim inl (λ (ha : a % q ≢ 0). ⊎_elim inr (λ (hb : b % q ≢ 0). absurd (no_zero_product a b e ha hb)) (cases_eq (b % q) 0)) (cases_eq (a % q) 0)

-- each of these numbers is a prime
abbrev pub AreFields : List ℕ → Type 0
AreFields [] = Unit {0}
AreFields (q ∷ qs) = IsField q × AreFields qs

-- one of these numbers divides j
abbrev SomeDivides : ℕ → List ℕ → Type 0
SomeDivides j [] = ⊥
SomeDivides j (q ∷ qs) = (j % q ≡ 0) ⊎ SomeDivides j qs

divisor_times : (n q : ℕ) → n % q ≡ 0 → n ≡ q * (n / q)
divisor_times n q e = omega (arith, div-add-mod n q, e)

-- if a product of primes is j k, then j is 1, or one of the primes divides it
some_divides : (qs : List ℕ) → AreFields qs → (j k : ℕ) → 1 < j → product_of qs ≡ j * k → SomeDivides j qs
some_divides [] fs j zero h e = absurd (omega (arith, e))
some_divides [] fs j (suc k) h e = absurd (let f : j * suc k ≡ j * k + j = omega arith in omega (arith, e, f))
some_divides (q ∷ qs) fs j k h e =
    let some = fs.0.some in
    let none : j * k % q ≡ 0 = ap (λ (n : ℕ). n % q) (sym e) ∙ mul-mod_right q (product_of qs) in
    ⊎_elim inl (λ (b : k % q ≡ 0).
    let c = divisor_times k q b in
    let f : q * product_of qs ≡ q * (j * (k / q)) = e ∙ ap (λ (n : ℕ). j * n) c ∙ omega arith in
    inr (some_divides qs fs.1 j (k / q) h (eq_of_mul-eq-mul_left q (omega (arith, some)) (product_of qs) (j * (k / q)) f)))
    (factor_zero q fs.0 j k none)

-- The powers of a number g, whose power n - 1 is 1 modulo n.
module _ (n g : ℕ) (some : 1 < n) (one : g ^ (n - 1) % n ≡ 1) where
  one_power_added : (a b : ℕ) → g ^ a % n ≡ 1 → g ^ (a + b) % n ≡ g ^ b % n
  one_power_added a b e =
      ap (λ (x : ℕ). x % n) (pow-add g a b) ∙ sym (mul-mod_first (g ^ a) (g ^ b) n) ∙ ap (λ (x : ℕ). x * g ^ b % n) e ∙ ap (λ (x : ℕ). x % n) (omega arith)

  multiple_one : (k j : ℕ) → g ^ k % n ≡ 1 → g ^ (k * j) % n ≡ 1
  multiple_one k j e = ap (λ (x : ℕ). x % n) (sym (power_of_power g k j)) ∙ power_of_one n (g ^ k) j some e

  -- no power (n - 1) / q of g is 1
  abbrev NoneOne : List ℕ → Type 0
  NoneOne [] = Unit {0}
  NoneOne (q ∷ qs) = (g ^ ((n - 1) / q) % n ≢ 1) × NoneOne qs

  not_divided : (qs : List ℕ) → AreFields qs → NoneOne qs → (j k : ℕ) → j * k ≡ n - 1 → g ^ k % n ≡ 1 → SomeDivides j qs → ⊥
  not_divided [] fs ns j k e h d = d
  not_divided (q ∷ qs) fs ns j k e h (inl d) =
      let c = divisor_times j q d in
      let more = fs.0.some in
      let f : n - 1 ≡ q * (k * (j / q)) = sym e ∙ ap (λ (x : ℕ). x * k) c ∙ omega arith in
      let i : (n - 1) / q ≡ k * (j / q) = ap (λ (x : ℕ). x / q) f ∙ mul-div_cancel_left (k * (j / q)) (omega (arith, more)) in
      ns.0 (ap (λ (x : ℕ). g ^ x % n) i ∙ multiple_one k (j / q) h)
  not_divided (q ∷ qs) fs ns j k e h (inr d) = not_divided qs fs.1 ns.1 j k e h d

  module _ (qs : List ℕ) (fs : AreFields qs) (ns : NoneOne qs) (all : product_of qs ≡ n - 1) where
    no_less : (fuel k : ℕ) → k ≤ fuel → 0 < k → k < n - 1 → g ^ k % n ≡ 1 → ⊥
    no_less zero k a h l e = absurd (omega arith)
    no_less (suc fuel) k a h l e =
        let j : ℕ = (n - 1) / k in
        let r : ℕ = (n - 1) % k in
        let parts : k * j + r ≡ n - 1 = div-add-mod (n - 1) k in
        ⊎_elim (λ (z : r ≡ 0).
        let f : j * k ≡ n - 1 = omega (arith, parts, z) in
        not_divided qs fs ns j k f e (some_divides qs fs j k (proper j k f l) (all ∙ sym f)))
        (λ (p : 0 < r).
        no_less fuel r (let b : r < k = mod-lt (n - 1) h in omega (arith, b)) p (let b : r < k = mod-lt (n - 1) h in omega (arith, b, l))
        (sym (one_power_added (k * j) r (multiple_one k j e)) ∙ ap (λ (x : ℕ). g ^ x % n) parts ∙ one))
        (eq-zero-or-pos r)
      where
        proper : (j k : ℕ) → j * k ≡ n - 1 → k < n - 1 → 1 < j
        proper zero k f l = absurd (omega (arith, f, l))
        proper (suc zero) k f l = absurd (omega (arith, f, l))
        proper (suc (suc j)) k f l = omega arith

    -- powers below n - 1 have inverses
    inverse_power : (i : ℕ) → i ≤ n - 1 → g ^ (n - 1 - i) * g ^ i % n ≡ 1
    inverse_power i h =
        let e : n - 1 - i + i ≡ n - 1 = omega arith in
        ap (λ (x : ℕ). x % n) (sym (pow-add g (n - 1 - i) i)) ∙ ap (λ (x : ℕ). g ^ x % n) e ∙ one

    some_power : (i : ℕ) → i ≤ n - 1 → g ^ i % n ≢ 0
    some_power i h e =
        let a : g ^ (n - 1 - i) * g ^ i % n ≡ 0 = sym (mul-mod_second (g ^ (n - 1 - i)) (g ^ i) n) ∙ ap (λ (x : ℕ). g ^ (n - 1 - i) * x % n) e ∙ ap (λ (x : ℕ). x % n) (omega arith) ∙ zero-mod n in
        let b = inverse_power i h in
        omega (arith, a, b)

    not_before : (i j : ℕ) → i < j → j < n - 1 → g ^ i % n ≡ g ^ j % n → ⊥
    not_before i j h l e =
        let u : ℕ = g ^ (n - 1 - i) in
        let a : u * g ^ j % n ≡ 1 = sym (mul-mod_second u (g ^ j) n) ∙ ap (λ (x : ℕ). u * x % n) (sym e) ∙ mul-mod_second u (g ^ i) n ∙ inverse_power i (omega arith) in
        let f : n - 1 - i + j ≡ n - 1 + (j - i) = omega arith in
        let b : u * g ^ j % n ≡ g ^ (j - i) % n = ap (λ (x : ℕ). x % n) (sym (pow-add g (n - 1 - i) j)) ∙ ap (λ (x : ℕ). g ^ x % n) f ∙ one_power_added (n - 1) (j - i) one in
        no_less (j - i) (j - i) (omega arith) (omega arith) (omega arith) (sym b ∙ a)

    apart : (i j : ℕ) → i < n - 1 → j < n - 1 → g ^ i % n ≡ g ^ j % n → i ≡ j
    apart i j h l e =
        ⊎_elim (λ (b : i < j). absurd (not_before i j b l e)) (λ (b : j ≤ i).
        ⊎_elim (λ (c : j ≡ i). sym c) (λ (c : j < i). absurd (not_before j i c h (sym e))) (eq-or-lt_of_le b))
        (cases_lt i j)

    pub pratt : IsField n
    pratt = record { some = some; fermat = fermat }
      where
        value : ℕ → ℕ
        value i = g ^ i % n - 1

        low : (i : ℕ) → i < n - 1 → g ^ i % n - 1 < n - 1
        low i h = let a = some_power i (omega arith) in let b : g ^ i % n < n = mod-lt (g ^ i) (omega arith) in omega (arith, a, b)

        different : (i j : ℕ) → i < n - 1 → j < n - 1 → g ^ i % n - 1 ≡ g ^ j % n - 1 → i ≡ j
        different i j h l e = apart i j h l (let a = some_power i (omega arith) in let b = some_power j (omega arith) in omega (arith, a, b, e))

        fermat : (w : ℕ) → w % n ≢ 0 → w ^ (n - 1) % n ≡ 1
        fermat w h =
            let b : w % n < n = mod-lt w (omega arith) in
            let some_i = surjective (n - 1) (λ (i : ℕ). g ^ i % n - 1) low different (w % n - 1) (omega (arith, b, h)) in
            let i : ℕ = some_i.0 in
            let c = some_power i (omega (arith, some_i.1)) in
            let same : g ^ i % n ≡ w % n = omega (arith, c, h, some_i.2) in
            let f : i * (n - 1) ≡ (n - 1) * i = omega arith in
            sym (pow-mod w (n - 1) n) ∙ ap (λ (x : ℕ). x ^ (n - 1) % n) (sym same) ∙ pow-mod (g ^ i) (n - 1) n
            ∙ ap (λ (x : ℕ). x % n) (power_of_power g i (n - 1) ∙ ap (λ (x : ℕ). g ^ x) f) ∙ multiple_one (n - 1) i one

nones_are : (k n g : ℕ) (some : 1 < n) (one : g ^ (n - 1) % n ≡ 1) (qs : List ℕ) → n < 2 ^ k → none_is_one k n g qs ≡ true → NoneOne n g some one qs
nones_are k n g some one [] h e = tt
nones_are k n g some one (q ∷ qs) h e =
    let parts = and_parts (not (eqb (power_by k n g ((n - 1) / q) % n) 1)) (none_is_one k n g qs) e in (
      λ (f : g ^ ((n - 1) / q) % n ≡ 1). eqb-false (power_by k n g ((n - 1) / q) % n) 1 (not_true _ parts.0)
          (power_by_is k n g ((n - 1) / q) (let b = div-le_self (n - 1) q in omega (arith, b, h)) ∙ f),
      nones_are k n g some one qs h parts.1,
    )
  where
    not_true : (b : Bool) → not b ≡ true → b ≡ false
    not_true true e = sym e
    not_true false e = refl

-- a number with a certificate is a prime
pub certified : (k n g : ℕ) (qs : List ℕ) → AreFields qs → is_generated k n g qs ≡ true → IsField n
certified k n g qs fs is =
    let a = and_parts (ltb 1 n) _ is in
    let b = and_parts (ltb n (2 ^ k)) _ a.1 in
    let c = and_parts (eqb (product_of qs) (n - 1)) _ b.1 in
    let d = and_parts (eqb (power_by k n g (n - 1) % n) 1) _ c.1 in
    let some : 1 < n = ltb-true 1 n a.0 in
    let fits : n < 2 ^ k = ltb-true n (2 ^ k) b.0 in
    let one : g ^ (n - 1) % n ≡ 1 = sym (power_by_is k n g (n - 1) (omega (arith, fits, some))) ∙ eqb-true (power_by k n g (n - 1) % n) 1 d.0 in
    pratt n g some one qs fs (nones_are k n g some one qs fits d.1) (eqb-true (product_of qs) (n - 1) c.0)
