-- Keys and signatures by RSA.

use Rattle.std.proofs.Common.{◌≡◌, ℕ, suc, [], ◌∷◌, ◌+◌, ◌%◌, ◌^◌, ◌<◌, ◌≤◌, List, length, arith, refl, Bool, true, false, cond, eqb, inl, inr, leb}
use Rattle.std.proofs.lemmas.Bool.{and_parts, cases_lt, cond_both, eqb-true, leb-true}
use Rattle.std.specs.Prelude.{◌&&◌, Option, None, Some, slice_index}
use Rattle.sshsuite.specs.Group14.{number_high}
use Rattle.sshsuite.specs.Rsa.{digits, is_exponent, is_modulus}
use Rattle.sshsuite.proofs.ByteNumberLemmas.{high_below, more_bytes}

pub four_below : (bytes : List ℕ) → length bytes ≤ 4 → ((k : ℕ) → slice_index bytes k < 256) → number_high bytes < 2 ^ 64
four_below bytes short h =
    let low = high_below bytes h in
    let more : 256 ^ length bytes ≤ 256 ^ 4 = more_bytes (length bytes) 4 short in omega (arith, low, more)

-- A modulus has 256 bytes or more.
pub room_for : (bytes : List ℕ) (n info : ℕ) → n ≡ number_high bytes → 2 ^ 2047 ≤ n → info ≤ 83 → ((k : ℕ) → slice_index bytes k < 256) → info + 3 ≤ length bytes
room_for bytes n info same long short h =
    elim (cases_lt (length bytes) 86) [
      | inl less ↦ (
          let low = high_below bytes h in
          let more : 256 ^ length bytes ≤ 256 ^ 86 = more_bytes (length bytes) 86 (omega (arith, less)) in absurd (omega (arith, same, long, low, more))
          )
      | inr more ↦ omega (arith, more, short)
    ]

-- What is known of a modulus and of an exponent that were read.
given : (b : Bool) (m n : ℕ) → ◌≡◌ {A = Option ℕ} (Some m) (cond b (Some n) None) → (b ≡ true) × (m ≡ n)
given true m n e = (refl, some_same m n e)
  where
    some_same : (x y : ℕ) → ◌≡◌ {A = Option ℕ} (Some x) (Some y) → x ≡ y
    some_same x y e = cc
given false m n e = absurd (none_some m e)
  where
    none_some : (x : ℕ) → ◌≡◌ {A = Option ℕ} (Some x) None → ⊥
    none_some x e = cc

pub modulus_odd : (digits : List ℕ) (m : ℕ) → ◌≡◌ {A = Option ℕ} (Some m) (cond (is_modulus digits) (Some (number_high digits)) None) → m % 2 ≡ 1
unfolding is_modulus
modulus_odd digits m e =
    let n : ℕ = number_high digits in
    let is = given (is_modulus digits) m n e in
    rw is.1 (eqb-true (n % 2) 1 (and_parts (leb (2 ^ 2047) n) (eqb (n % 2) 1) (and_parts (leb (length digits) 1024) (leb (2 ^ 2047) n && eqb (n % 2) 1) is.0).1).1)

pub modulus_long : (digits : List ℕ) (m : ℕ) → ◌≡◌ {A = Option ℕ} (Some m) (cond (is_modulus digits) (Some (number_high digits)) None) → 2 ^ 2047 ≤ m
unfolding is_modulus
modulus_long digits m e =
    let n : ℕ = number_high digits in
    let is = given (is_modulus digits) m n e in
    rw is.1 (leb-true (2 ^ 2047) n (and_parts (leb (2 ^ 2047) n) (eqb (n % 2) 1) (and_parts (leb (length digits) 1024) (leb (2 ^ 2047) n && eqb (n % 2) 1) is.0).1).0)

pub modulus_short : (digits : List ℕ) (m : ℕ) → ◌≡◌ {A = Option ℕ} (Some m) (cond (is_modulus digits) (Some (number_high digits)) None) → length digits ≤ 1024
unfolding is_modulus
modulus_short digits m e =
    let n : ℕ = number_high digits in
    let is = given (is_modulus digits) m n e in leb-true (length digits) 1024 (and_parts (leb (length digits) 1024) (leb (2 ^ 2047) n && eqb (n % 2) 1) is.0).0

pub exponent_some : (digits : List ℕ) (m : ℕ) → ◌≡◌ {A = Option ℕ} (Some m) (cond (is_exponent digits) (Some (number_high digits)) None) → 0 < m
unfolding is_exponent
exponent_some digits m e =
    let n : ℕ = number_high digits in
    let is = given (is_exponent digits) m n e in
    let low = leb-true 3 n (and_parts (leb 3 n) (eqb (n % 2) 1) (and_parts (leb (length digits) 3) (leb 3 n && eqb (n % 2) 1) is.0).1).0 in omega (arith, low, is.1)

exponent_small : (digits : List ℕ) (m : ℕ) → ◌≡◌ {A = Option ℕ} (Some m) (cond (is_exponent digits) (Some (number_high digits)) None) → ((k : ℕ) → slice_index digits k < 256) → m < 2 ^ 32
unfolding is_exponent
exponent_small digits m e h =
    let n : ℕ = number_high digits in
    let is = given (is_exponent digits) m n e in
    let short = leb-true (length digits) 3 (and_parts (leb (length digits) 3) (leb 3 n && eqb (n % 2) 1) is.0).0 in
    let low = high_below digits h in
    let more : 256 ^ length digits ≤ 256 ^ 3 = more_bytes (length digits) 3 short in omega (arith, low, more, is.1)

digits_bytes : (body : List ℕ) → ((k : ℕ) → slice_index body k < 256) → (k : ℕ) → slice_index (digits body) k < 256
unfolding digits
digits_bytes [] h k = h k
digits_bytes (b ∷ bytes) h k = cond_both (eqb b 0) bytes (b ∷ bytes) (λ (xs : List ℕ). slice_index xs k < 256) (λ _. h (suc k)) (λ _. h k)

pub exponent_below : (body found : List ℕ) (m : ℕ) → found ≡ digits body → ((k : ℕ) → slice_index body k < 256)
    → ◌≡◌ {A = Option ℕ} (Some m) (cond (is_exponent found) (Some (number_high found)) None) → m < 2 ^ 32
exponent_below body found m same h e = exponent_small found m e (λ k. rw same (digits_bytes body h k))
