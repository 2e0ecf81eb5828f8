-- X25519 in numbers modulo 2^255 - 19, as RFC 7748 section 5 defines it.

use Rattle.std.proofs.Common.{ℕ, zero, suc, ◌-◌, List}
use Rattle.std.specs.Prelude.{◌+◌, ◌%◌, ◌==◌, if◌then◌else◌, slice_index, slice_set}
use Rattle.sshcurve.specs.Bits.{bit_at}
use Rattle.sshcurve.specs.FieldNumbers.{minus, plus, reciprocal, times}

-- the variables x_2, z_2, x_3 and z_3 of the Montgomery ladder (RFC 7748 section 5)
pub record Ladder : Type 0 where
  pub x2 : ℕ
  pub z2 : ℕ
  pub x3 : ℕ
  pub z3 : ℕ

-- the variables after a cswap whose bit is 1 (RFC 7748 section 5)
abbrev pub exchanged : Ladder → Ladder
exchanged s = record { x2 = s.x3; z2 = s.z3; x3 = s.x2; z3 = s.z2 }

-- The ladder's step, between its two cswap: (x_2 : z_2) is doubled, and (x_3 : z_3) is the sum of both, whose difference has the
-- u-coordinate x1 (RFC 7748 section 5).
unfoldable pub step : Ladder → ℕ → Ladder
step s x1 =
    let a = plus s.x2 s.z2 in
    let aa = times a a in
    let b = minus s.x2 s.z2 in
    let bb = times b b in
    let e = minus aa bb in
    let c = plus s.x3 s.z3 in
    let d = minus s.x3 s.z3 in
    let da = times d a in
    let cb = times c b in
    record {
      x2 = times aa bb;
      z2 = times e (plus aa (times 121665 e));
      x3 = times (plus da cb) (plus da cb);
      z3 = times x1 (times (minus da cb) (minus da cb));
    }

-- the variables after the n highest of the scalar's 255 bits, where the step of a bit that is 1 stands between two swaps (RFC 7748 section 5)
unfoldable pub climb : List ℕ → ℕ → ℕ → Ladder
climb scalar x1 zero = record { x2 = 1; z2 = 0; x3 = x1; z3 = 1 }
climb scalar x1 (suc n) =
    if bit_at scalar (254 - n) == 1 then exchanged (step (exchanged (climb scalar x1 n)) x1) else step (climb scalar x1 n) x1

-- X25519 of a clamped scalar and a u-coordinate: x_2 * z_2^(p - 2), after all 255 bits (RFC 7748 section 5)
unfoldable pub x25519_number : List ℕ → ℕ → ℕ
x25519_number scalar u = let s = climb scalar u 255 in times s.x2 (reciprocal s.z2)

-- decodeScalar25519, as bytes: the three lowest bits and the highest are cleared, and bit 254 is set (RFC 7748 section 5)
unfoldable pub clamped : List ℕ → List ℕ
clamped bytes =
    let low = slice_set bytes 0 (slice_index bytes 0 - slice_index bytes 0 % 8) in
    slice_set low 31 (slice_index low 31 % 64 + 64)
