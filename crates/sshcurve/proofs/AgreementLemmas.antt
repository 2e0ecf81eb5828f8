-- X25519 agrees: each of two clamped scalars with the other's public number gives one secret, and it isn't 0.

use Rattle.std.proofs.Common.{◌≡◌, ◌≢◌, ℕ, zero, suc, ◌+◌, ◌-◌, ◌*◌, ◌/◌, ◌%◌, ◌^◌, ◌<◌, ◌≤◌, List, length, refl, sym, ap, ◌∙◌, arith, ⊎_elim, slice_index, slice_set, get_or-set_same, get_or-set_other, length-set, mul_comm}
use Rattle.std.proofs.Math.Nat.{mod-eq_of_lt, pow-suc, pow-zero}
use Rattle.sshcurve.specs.Bits.{bit_at}
use Rattle.sshcurve.specs.Scalar.{order}
use Rattle.sshcurve.specs.FieldNumbers.{field, plus, minus, times, reciprocal}
use Rattle.sshcurve.specs.X25519Numbers.{clamped, x25519_number}
use Rattle.sshcurve.specs.Curve.{Affine, multiple}
use Rattle.sshcurve.proofs.PrimeLemmas.{factor_zero}
use Rattle.sshcurve.proofs.FieldLemmas.{minus_low, plus_low, times_nonzero, reciprocal_low, inverse}
use Rattle.sshcurve.proofs.MultipleLemmas.{multiple_on, multiple_product}
use Rattle.sshcurve.specs.Represents.{base}
use Rattle.sshcurve.proofs.CoordinateLemmas.{base_on, bit_below_2}
use Rattle.sshcurve.proofs.OrderLemmas.{multiple_y, multiple_y_minus, order_field}
use Rattle.sshcurve.proofs.StepLemmas.{one_plus_nonzero, one_minus_nonzero}
use Rattle.sshcurve.proofs.LadderLemmas.{IsU, bits_to, own_u, u_of, x25519_is}

base_u : IsU 9 base
unfolding base times plus minus
base_u = record {
  on = base_on;
  u_low = omega arith;
  u_is = refl;
  not_one = λ (e : 46316835694926478169428394003475163141307993866256225615783033603165251855960 ≡ 1). omega (arith, e);
  not_minus_one = λ (e : 46316835694926478169428394003475163141307993866256225615783033603165251855960 ≡ 57896044618658097711785492504343953926634992332820282019728792003956564819948). omega (arith, e);
}

-- the number of a scalar's 255 bits
abbrev pub scalar_number : List ℕ → ℕ
scalar_number scalar = bits_to scalar 255

pub public_is : (b : List ℕ) → scalar_number b % order ≢ 0 → x25519_number b 9 ≡ u_of (multiple (scalar_number b) base)
public_is b h = x25519_is 9 base base_u b (multiple_y (scalar_number b) h)

product_nonzero : (a b : List ℕ) → scalar_number a % order ≢ 0 → scalar_number b % order ≢ 0 → scalar_number a * scalar_number b % order ≢ 0
product_nonzero a b ha hb e = ⊎_elim ha hb (factor_zero order order_field (scalar_number a) (scalar_number b) e)

pub shared_is : (a b : List ℕ) → scalar_number a % order ≢ 0 → scalar_number b % order ≢ 0
    → x25519_number a (x25519_number b 9) ≡ u_of (multiple (scalar_number a * scalar_number b) base)
shared_is a b ha hb =
    let p : Affine = multiple (scalar_number b) base in
    let product : multiple (scalar_number a * scalar_number b) base ≡ multiple (scalar_number a) p = multiple_product (scalar_number a) (scalar_number b) base base_on in
    let not_one = multiple_y (scalar_number a * scalar_number b) (product_nonzero a b ha hb) in
    ap (x25519_number a) (public_is b hb)
    ∙ x25519_is (u_of p) p (own_u p (multiple_on (scalar_number b) base base_on) (multiple_y (scalar_number b) hb) (multiple_y_minus (scalar_number b) hb)) a
    (λ (e : (multiple (scalar_number a) p).y ≡ 1). not_one (ap (λ (q : Affine). q.y) product ∙ e))
    ∙ ap u_of (sym product)

pub public_numbers_agree : (a b : List ℕ) → scalar_number a % order ≢ 0 → scalar_number b % order ≢ 0 → x25519_number a (x25519_number b 9) ≡ x25519_number b (x25519_number a 9)
public_numbers_agree a b ha hb =
    shared_is a b ha hb ∙ ap (λ (n : ℕ). u_of (multiple n base)) (mul_comm (scalar_number a) (scalar_number b)) ∙ sym (shared_is b a hb ha)

reciprocal_nonzero : (x : ℕ) → x < field → x ≢ 0 → reciprocal x ≢ 0
unfolding times
reciprocal_nonzero x low some e =
    let one : times x 0 ≡ 1 = ap (times x) (sym e) ∙ inverse x low some in
    let zero_is : x * 0 ≡ 0 = omega arith in
    let none : times x 0 ≡ 0 = ap (λ (n : ℕ). n % field) zero_is in
    omega (arith, one, none)

-- and the secret isn't 0
pub shared_nonzero : (a b : List ℕ) → scalar_number a % order ≢ 0 → scalar_number b % order ≢ 0 → x25519_number a (x25519_number b 9) ≢ 0
unfolding u_of
shared_nonzero a b ha hb e =
    let n : ℕ = scalar_number a * scalar_number b in
    let h = product_nonzero a b ha hb in
    let p : Affine = multiple n base in
    let hp = multiple_on n base base_on in
    times_nonzero (plus 1 p.y) (reciprocal (minus 1 p.y)) (plus_low 1 p.y) (reciprocal_low (minus 1 p.y)) (one_plus_nonzero p.y hp.y_low (multiple_y_minus n h))
    (reciprocal_nonzero (minus 1 p.y) (minus_low 1 p.y) (one_minus_nonzero p.y hp.y_low (multiple_y n h))) (sym (shared_is a b ha hb) ∙ e)

-- A clamped scalar is eight times a number from 2^251 up to 2^252, and so no multiple of the order.
module _ (bytes : List ℕ) (long : length bytes ≡ 32) where
  abbrev low_byte : ℕ
  low_byte = slice_index bytes 0 - slice_index bytes 0 % 8

  abbrev lowered : List ℕ
  lowered = slice_set bytes 0 low_byte

  first_byte : slice_index (clamped bytes) 0 ≡ low_byte
  unfolding clamped
  first_byte = get_or-set_other lowered 31 0 _ 0 (λ (e : 0 ≡ 31). omega (arith, e)) ∙ get_or-set_same bytes 0 low_byte 0 (omega (arith, long))

  last_byte : slice_index (clamped bytes) 31 ≡ slice_index lowered 31 % 64 + 64
  unfolding clamped
  last_byte = get_or-set_same lowered 31 _ 0 (omega (arith, long, length-set bytes 0 low_byte))

  bit_0 : bit_at (clamped bytes) 0 ≡ 0
  unfolding bit_at
  bit_0 = ap (λ (n : ℕ). n / 2 ^ 0 % 2) first_byte ∙ omega arith

  bit_1 : bit_at (clamped bytes) 1 ≡ 0
  unfolding bit_at
  bit_1 = ap (λ (n : ℕ). n / 2 ^ 1 % 2) first_byte ∙ omega arith

  bit_2 : bit_at (clamped bytes) 2 ≡ 0
  unfolding bit_at
  bit_2 = ap (λ (n : ℕ). n / 2 ^ 2 % 2) first_byte ∙ omega arith

  bit_254 : bit_at (clamped bytes) 254 ≡ 1
  unfolding bit_at
  bit_254 = ap (λ (n : ℕ). n / 2 ^ 6 % 2) last_byte ∙ omega arith

-- the highest bit of a clamped scalar is 0
pub bit_255 : (bytes : List ℕ) → length bytes ≡ 32 → bit_at (clamped bytes) 255 ≡ 0
unfolding bit_at
bit_255 bytes long = ap (λ (n : ℕ). n / 2 ^ 7 % 2) (last_byte bytes long) ∙ omega arith

bits_below : (s : List ℕ) (n : ℕ) → bits_to s n < 2 ^ n
unfolding bits_to
bits_below s zero = omega (arith, pow-zero 2)
bits_below s (suc n) = let h = bits_below s n in let b = bit_below_2 s (254 - n) in omega (arith, h, b, pow-suc 2 n)

bits_from : (s : List ℕ) (n : ℕ) → bit_at s 254 ≡ 1 → 2 ^ n ≤ bits_to s (suc n)
unfolding bits_to
bits_from s zero h = omega (arith, h, pow-zero 2)
bits_from s (suc n) h = let k = bits_from s n h in omega (arith, k, pow-suc 2 n)

pub clamped_nonzero : (bytes : List ℕ) → length bytes ≡ 32 → scalar_number (clamped bytes) % order ≢ 0
unfolding bits_to
clamped_nonzero bytes long e =
    let s : List ℕ = clamped bytes in
    let m : ℕ = bits_to s 252 in
    let below : m < 2 ^ 252 = bits_below s 252 in
    let from : 2 ^ 251 ≤ m = bits_from s 251 (bit_254 bytes long) in
    let is : bits_to s 255 ≡ m * 8 = omega (arith, bit_0 bytes long, bit_1 bytes long, bit_2 bytes long) in
    ⊎_elim (λ (k : m % order ≡ 0). let same : m % order ≡ m = mod-eq_of_lt (omega (arith, below)) in omega (arith, k, same, from)) (λ (k : 8 % order ≡ 0). omega (arith, k))
    (factor_zero order order_field m 8 (ap (λ (n : ℕ). n % order) (sym is) ∙ e))

-- The law of two ends: each scalar times the other's public number is one number, and it isn't 0.
pub x25519_agrees : (a b : List ℕ) → length a ≡ 32 → length b ≡ 32 → x25519_number (clamped a) (x25519_number (clamped b) 9) ≡ x25519_number (clamped b) (x25519_number (clamped a) 9)
x25519_agrees a b ha hb = public_numbers_agree (clamped a) (clamped b) (clamped_nonzero a ha) (clamped_nonzero b hb)

pub x25519_present : (a b : List ℕ) → length a ≡ 32 → length b ≡ 32 → x25519_number (clamped a) (x25519_number (clamped b) 9) ≢ 0
x25519_present a b ha hb = shared_nonzero (clamped a) (clamped b) (clamped_nonzero a ha) (clamped_nonzero b hb)
