-- The function X25519 (RFC 7748 section 5), in the order of its steps.

use Rattle.std.proofs.Common.{◌≡◌, add-one, refl}
use Rattle.std.specs.Prelude.{ℕ, zero, suc, ◌+◌, ◌-◌, ◌^◌, ◌==◌, ◌&&◌, nat_lt, List, ◌∷◌, slice_index, if◌then◌else◌, Option, None, Some, replicate}
use Rattle.sshcurve.specs.Bits.{bit_at}
use Rattle.sshcurve.specs.X25519Numbers.{clamped}
use Rattle.sshsuite.specs.FieldElement.{decode, encode, inverse, loose_difference, loose_sum, mul, none, one, scaled, squared}
use Rattle.sshsuite.specs.declared.curve25519.LadderState.{LadderState}

-- the two points in the other order
abbrev pub swapped : LadderState → LadderState
swapped r = record { x2 = r.x3; z2 = r.z3; x3 = r.x2; z3 = r.z2 }

-- the same points, in the other order where the bit is 1
abbrev pub turned : LadderState → ℕ → LadderState
turned r bit = if bit == 1 then swapped r else r

-- (486662 - 2) / 4
abbrev pub a24 : ℕ
a24 = 121665

-- the number of an element, where it is below 2^32
unfoldable pub small_of : List ℕ → Option ℕ
small_of x =
    if slice_index x 1 == 0 && (slice_index x 2 == 0 && (slice_index x 3 == 0 && (slice_index x 4 == 0 && nat_lt (slice_index x 0) (2 ^ 32)))) then Some (slice_index x 0)
    else None

-- the product by the coordinate, which is by its number where that is small
unfoldable pub times_first : List ℕ → Option ℕ → List ℕ → List ℕ
times_first x1 None a = mul x1 a
times_first x1 (Some n) a = scaled a n

-- the first point doubled, and the sum of both, whose difference has this coordinate
unfoldable pub ladder_step : LadderState → List ℕ → Option ℕ → LadderState
ladder_step r x1 small =
    let a = loose_sum r.x2 r.z2 in
    let b = loose_difference r.x2 r.z2 in
    let aa = squared a in
    let bb = squared b in
    let e = loose_difference aa bb in
    let da = mul (loose_difference r.x3 r.z3) a in
    let cb = mul b (loose_sum r.x3 r.z3) in
    record {
      x2 = mul aa bb;
      z2 = mul e (loose_sum aa (scaled e a24));
      x3 = squared (loose_sum da cb);
      z3 = times_first x1 small (squared (loose_difference da cb));
    }

-- one bit of the ladder: a step on the points, in the other order where the bit is 1
unfoldable pub ladder_bit : LadderState → List ℕ → ℕ → LadderState
ladder_bit r x1 bit = turned (ladder_step (turned r bit) x1 (small_of x1)) bit

-- the state of the Montgomery ladder before its first step, by the u-coordinate of the point (RFC 7748 section 5)
unfoldable pub ladder_start : List ℕ → LadderState
ladder_start x1 = record { x2 = one; z2 = none; x3 = x1; z3 = one }

-- the ladder after so many bits, the highest first
unfoldable pub ladder : List ℕ → List ℕ → ℕ → LadderState
ladder scalar x1 zero = ladder_start x1
ladder scalar x1 (suc n) = ladder_bit (ladder scalar x1 n) x1 (bit_at scalar (254 - n))

-- the first point's coordinate x / z as bytes
unfoldable pub affine : LadderState → List ℕ
affine r = encode (mul r.x2 (inverse r.z2))

-- the multiple of the point by the scalar
unfoldable pub x25519 : List ℕ → List ℕ → List ℕ
x25519 scalar point = affine (ladder (clamped scalar) (decode point) 255)

-- the u-coordinate of the base point, 9, as 32 bytes (RFC 7748 section 4.1)
abbrev pub base_point : List ℕ
base_point = 9 ∷ replicate 31 0

-- steps of the loop
pub ladder_none : (scalar x1 : List ℕ) → ladder scalar x1 0 ≡ ladder_start x1
unfolding ladder
ladder_none scalar x1 = refl

pub ladder_more : (scalar x1 : List ℕ) (n : ℕ) → ladder scalar x1 (n + 1) ≡ ladder_bit (ladder scalar x1 n) x1 (bit_at scalar (254 - n))
unfolding ladder
ladder_more scalar x1 n = rw (add-one n) refl
