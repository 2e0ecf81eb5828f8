-- Numbers modulo the order of the group of edwards25519, as two halves of 128 bits, and steps of loops over the bits of such.

use Rattle.std.proofs.Common.{◌≡◌, ◌<◌, add-one, ap₂, arith}
use Rattle.std.specs.Prelude.{ℕ, ◌+◌, ◌-◌, ◌*◌, ◌/◌, ◌%◌, ◌^◌, List, length}
use Rattle.sshcurve.specs.Bits.{bit_at}
use Rattle.sshcurve.specs.Scalar.{bytes_of_halves, encode_scalar, number_to, order}
use Rattle.sshsuite.specs.declared.scalar.Scalar.{Scalar}

-- the number of two halves
abbrev pub number : Scalar → ℕ
number a = a.high * 2 ^ 128 + a.low

pub encode_halves : (high low : ℕ) → low < 2 ^ 128 → encode_scalar (high * 2 ^ 128 + low) ≡ bytes_of_halves low high
unfolding encode_scalar
encode_halves high low h =
    let rest : (high * 2 ^ 128 + low) % 2 ^ 128 ≡ low = omega arith in
    let quotient : (high * 2 ^ 128 + low) / 2 ^ 128 ≡ high = omega arith in
    ap₂ bytes_of_halves rest quotient

-- steps of the loop
pub times_none : (bytes : List ℕ) (b : ℕ) → 0 ≡ number_to bytes 0 * b % order
unfolding number_to
times_none bytes b = omega arith

pub times_more : (bytes : List ℕ) (b n : ℕ)
    → (2 * (number_to bytes n * b % order) + bit_at bytes (8 * length bytes - 1 - n) * b) % order ≡ number_to bytes (n + 1) * b % order
unfolding number_to
times_more bytes b n = rw (add-one n) (step (number_to bytes n * b) (bit_at bytes (8 * length bytes - 1 - n) * b) ((2 * number_to bytes n + bit_at bytes (8 * length bytes - 1 - n)) * b) (omega arith))
  where
    step : (x y z : ℕ) → z ≡ 2 * x + y → (2 * (x % order) + y) % order ≡ z % order
    step x y z e = omega arith

pub from_none : (bytes : List ℕ) → 0 ≡ number_to bytes 0 % order
unfolding number_to
from_none bytes = omega arith

pub from_more : (bytes : List ℕ) (n : ℕ)
    → (2 * (number_to bytes n % order) + bit_at bytes (8 * length bytes - 1 - n)) % order ≡ number_to bytes (n + 1) % order
unfolding number_to
from_more bytes n = rw (add-one n) (step (number_to bytes n) (bit_at bytes (8 * length bytes - 1 - n)))
  where
    step : (x y : ℕ) → (2 * (x % order) + y) % order ≡ (2 * x + y) % order
    step x y = omega arith
