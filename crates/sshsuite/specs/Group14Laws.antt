-- Shares and shared secrets of diffie-hellman-group14-sha256 are bodies of mpints of positive numbers.

use Rattle.std.proofs.Common.{◌≡◌, ℕ, zero, suc, ◌+◌, ◌-◌, ◌*◌, ◌/◌, ◌%◌, ◌^◌, ◌<◌, ◌≤◌, Bool, true, false, List, [], ◌∷◌, length, refl, sym, ap, ◌∙◌, arith, cond, eqb, leb, ltb, inl, inr}
use Rattle.std.proofs.Math.Nat.{div-add-mod, div-one, mod-eq_of_lt, pow-suc, pow-zero}
use Rattle.std.proofs.lemmas.Bool.{and_parts, cases_lt, cond_both, eqb-false, eqb-true, leb-false, leb-true, ltb-true}
use Rattle.std.proofs.lemmas.Nat.{div_below, mod-mul-add, mod_below, mul-mod_first}
use Rattle.std.specs.Int.{byte_at, bytes_high_first}
use Rattle.std.specs.Prelude.{Option, None, Some}
use Rattle.sshwire.specs.ByteLaws.{bytes_cons, bytes_dropped, bytes_none}
use Rattle.sshwire.specs.Types.{IsBytes}
use Rattle.sshpacket.specs.Suite.{IsNumberBody, IsPositiveBody}
use Rattle.sshsuite.specs.CounterModeLaws.{bytes_high as bytes_of}
use Rattle.sshsuite.specs.Group14.{bytes_high, generator, group14_share, group14_shared, is_within, number_body, peer_number, power, prime, secret_body, secret_with}
use Rattle.sshsuite.specs.MpintBody.{mpint_body}
use Rattle.sshcurve.specs.Scalar.{number_in}

-- Bodies.
low_positive : (b : ℕ) (bytes : List ℕ) → (b ≡ 0 → ⊥) → b < 128 → length bytes ≤ 255 → IsPositiveBody (b ∷ bytes)
low_positive b bytes some h short = record { some = omega arith; sign = h; shortest = λ e. absurd (some e); short = omega arith }

high_positive : (b : ℕ) (bytes : List ℕ) → 128 ≤ b → length bytes ≤ 255 → IsPositiveBody (0 ∷ b ∷ bytes)
high_positive b bytes h short = record { some = omega arith; sign = omega arith; shortest = λ e. (omega arith, h); short = omega arith }

pub body_number : (bytes : List ℕ) → length bytes ≤ 256 → IsNumberBody (mpint_body bytes)
body_number [] short = inl refl
body_number (b ∷ bytes) short =
    cond_both (eqb b 0) (mpint_body bytes) (cond (leb 128 b) (0 ∷ b ∷ bytes) (b ∷ bytes)) (λ (xs : List ℕ). IsNumberBody xs)
    (λ _. body_number bytes (omega arith))
    (λ e. inr (cond_both (leb 128 b) (0 ∷ b ∷ bytes) (b ∷ bytes) (λ (xs : List ℕ). IsPositiveBody xs)
    (λ h. high_positive b bytes (leb-true 128 b h) (omega arith))
    (λ h. low_positive b bytes (eqb-false b 0 e) (leb-false 128 b h) (omega arith))))

pub body_bytes : (bytes : List ℕ) → IsBytes bytes → IsBytes (mpint_body bytes)
body_bytes [] h = bytes_none
body_bytes (b ∷ bytes) h =
    cond_both (eqb b 0) (mpint_body bytes) (cond (leb 128 b) (0 ∷ b ∷ bytes) (b ∷ bytes)) (λ (xs : List ℕ). IsBytes xs)
    (λ _. body_bytes bytes (bytes_dropped 1 (b ∷ bytes) h))
    (λ _. cond_both (leb 128 b) (0 ∷ b ∷ bytes) (b ∷ bytes) (λ (xs : List ℕ). IsBytes xs)
    (λ _. bytes_cons 0 (b ∷ bytes) (omega arith) h)
    (λ _. h))

pub length_high : (k n : ℕ) → length (bytes_high_first k n) ≡ k
length_high zero n = refl
length_high (suc k) n = ap (λ (m : ℕ). suc m) (length_high k n)

pub byte_is : (k n : ℕ) → byte_at k n ≡ n / 256 ^ k % 256
byte_is zero n = ap (λ (d : ℕ). d % 256) (sym (div-one n)) ∙ ap (λ (d : ℕ). n / d % 256) (sym (pow-zero 256))
byte_is (suc k) n = refl

pub some_power : (k : ℕ) → 0 < 256 ^ k
some_power zero = let e = pow-zero 256 in omega (arith, e)
some_power (suc k) = let e = pow-suc 256 k in let h = some_power k in omega (arith, e, h)

-- a body without a byte is of zero
none_zero : (k n : ℕ) → n < 256 ^ k → mpint_body (bytes_high_first k n) ≡ [] → n ≡ 0
none_zero zero n h e = let one = pow-zero 256 in omega (arith, h, one)
none_zero (suc k) n h e =
    let w : ℕ = 256 ^ k in
    let b : ℕ = byte_at k n in
    let bytes : List ℕ = bytes_high_first k n in
    let more : 256 ^ suc k ≡ 256 ^ k * 256 = pow-suc 256 k in
    let top : n / w < 256 = div_below n w 256 (some_power k) (omega (arith, h, more)) in
    let both : (b ≡ 0) × (mpint_body bytes ≡ []) = without b bytes e in
    let high : n / w ≡ 0 = let f = byte_is k n in omega (arith, f, both.0, top) in
    let low : n < w = under n w (some_power k) high in none_zero k n low both.1
  where
    some_byte : (b : ℕ) (bytes : List ℕ) → cond (leb 128 b) (0 ∷ b ∷ bytes) (b ∷ bytes) ≡ [] → ⊥
    some_byte b bytes e = cond_both (leb 128 b) (0 ∷ b ∷ bytes) (b ∷ bytes) (λ (xs : List ℕ). xs ≡ [] → ⊥) (λ _. λ f. cc) (λ _. λ f. cc) e

    without : (b : ℕ) (bytes : List ℕ) → cond (eqb b 0) (mpint_body bytes) (cond (leb 128 b) (0 ∷ b ∷ bytes) (b ∷ bytes)) ≡ [] → (b ≡ 0) × (mpint_body bytes ≡ [])
    without b bytes e =
        cond_both (eqb b 0) (mpint_body bytes) (cond (leb 128 b) (0 ∷ b ∷ bytes) (b ∷ bytes)) (λ (xs : List ℕ). xs ≡ [] → (b ≡ 0) × (mpint_body bytes ≡ []))
        (λ is. λ f. (eqb-true b 0 is, f)) (λ _. λ f. absurd (some_byte b bytes f)) e

    under : (n w : ℕ) → 0 < w → n / w ≡ 0 → n < w
    under n w h e =
        let parts = div-add-mod n w in
        let rest = mod_below n w h in
        let none : w * (n / w) ≡ 0 = rw e (omega arith) in omega (arith, parts, rest, none)

pub prime_short : prime < 256 ^ 256
unfolding prime
prime_short = omega arith

pub number_positive : (n : ℕ) → 0 < n → n < prime → IsPositiveBody (number_body n)
unfolding number_body bytes_high
number_positive n some h =
    let short = prime_short in
    let long = length_high 256 n in
    positive (mpint_body (bytes_high_first 256 n)) (body_number (bytes_high_first 256 n) (omega (arith, long)))
    (λ e. let none = none_zero 256 n (omega (arith, h, short)) e in omega (arith, none, some))
  where
    positive : (body : List ℕ) → IsNumberBody body → (body ≡ [] → ⊥) → IsPositiveBody body
    positive body is some = elim is [
      | inl none ↦ absurd (some none)
      | inr found ↦ found
    ]

pub number_bytes : (n : ℕ) → IsBytes (number_body n)
unfolding number_body bytes_high
number_bytes n = body_bytes (bytes_high_first 256 n) (bytes_of 256 n)

-- Powers of two modulo an odd number.
prime_odd : prime ≡ 2 * (prime / 2) + 1
unfolding prime
prime_odd = refl

prime_some : 1 < prime
unfolding prime
prime_some = omega arith

doubled : (y p h : ℕ) → p ≡ 2 * h + 1 → 0 < y → y < p → 0 < y * 2 % p
doubled y p h odd some low =
    elim (cases_lt (y * 2) p) [
      | inl less ↦ (let e = mod-eq_of_lt less in omega (arith, e, some))
      | inr more ↦ (
          let rest : y * 2 ≡ 1 * p + (y * 2 - p) = omega (arith, more) in
          let e : y * 2 % p ≡ y * 2 - p = ap (λ (n : ℕ). n % p) rest ∙ mod-mul-add 1 p (y * 2 - p) (omega (arith, low, more)) in omega (arith, e, odd, more)
          )
    ]

power_of_two : (k : ℕ) → 0 < 2 ^ k % prime
power_of_two zero =
    let one = prime_some in
    let e : 2 ^ 0 % prime ≡ 1 = ap (λ (n : ℕ). n % prime) (pow-zero 2) ∙ mod-eq_of_lt one in omega (arith, e)
power_of_two (suc k) =
    let one = prime_some in
    let e : 2 ^ suc k % prime ≡ 2 ^ k % prime * 2 % prime = ap (λ (n : ℕ). n % prime) (pow-suc 2 k) ∙ sym (mul-mod_first (2 ^ k) 2 prime) in
    let step = doubled (2 ^ k % prime) prime (prime / 2) prime_odd (power_of_two k) (mod_below (2 ^ k) prime (omega (arith, one))) in omega (arith, e, step)

-- Shares.
pub group14_share_fits : (random : List ℕ) → IsPositiveBody (group14_share random)
unfolding group14_share power
group14_share_fits random =
    let one = prime_some in
    number_positive (2 ^ number_in random % prime) (power_of_two (number_in random)) (mod_below (2 ^ number_in random) prime (omega (arith, one)))

pub group14_share_bytes : (random : List ℕ) → IsBytes (group14_share random)
unfolding group14_share
group14_share_bytes random = number_bytes (power generator random)

-- Shared secrets.
within_is : (n : ℕ) → is_within n ≡ true → (0 < n) × (n < prime)
within_is n e =
    let low = ltb-true 1 n (and_parts (ltb 1 n) (ltb n (prime - 1)) e).0 in
    let high = ltb-true n (prime - 1) (and_parts (ltb 1 n) (ltb n (prime - 1)) e).1 in (omega (arith, low), omega (arith, high))

pub bytes_by : (xs ys : List ℕ) → xs ≡ ys → IsBytes xs → IsBytes ys
bytes_by xs ys e h = rw e at h

secret_given : (k : ℕ) (b : Bool) (body : List ℕ) → is_within k ≡ b → cond b (Some (number_body k)) None ≡ Some body → IsPositiveBody body × IsBytes body
secret_given k true body is e =
    let within = within_is k is in
    let same : number_body k ≡ body = some_body (number_body k) body e in
    (by_positive (number_body k) body same (number_positive k within.0 within.1), bytes_by (number_body k) body same (number_bytes k))
  where
    some_body : (xs ys : List ℕ) → ◌≡◌ {A = Option (List ℕ)} (Some xs) (Some ys) → xs ≡ ys
    some_body xs ys e = cc

    by_positive : (xs ys : List ℕ) → xs ≡ ys → IsPositiveBody xs → IsPositiveBody ys
    by_positive xs ys e h = rw e at h
secret_given k false body is e = cc

with_given : (random : List ℕ) (o : Option ℕ) (body : List ℕ) → secret_with random o ≡ Some body → IsPositiveBody body × IsBytes body
unfolding secret_with secret_body
with_given random None body e = cc
with_given random (Some y) body e = secret_given (power y random) (is_within (power y random)) body refl e

pub group14_shared_given : (random peer body : List ℕ) → group14_shared random peer ≡ Some body → IsPositiveBody body × IsBytes body
unfolding group14_shared
group14_shared_given random peer body e = with_given random (peer_number peer) body e
