-- Points of edwards25519 in extended homogeneous coordinates modulo 2^255 - 19, as RFC 8032 section 5.1 defines them.

use Rattle.std.proofs.Common.{ℕ, zero, suc, ◌+◌, ◌-◌, ◌*◌, List}
use Rattle.std.specs.Prelude.{◌%◌, ◌==◌, if◌then◌else◌, slice_index, slice_set}
use Rattle.sshcurve.specs.FieldBytes.{bytes_of_number}
use Rattle.sshcurve.specs.Bits.{bit_at}
use Rattle.sshcurve.specs.FieldNumbers.{minus, plus, reciprocal, times}

-- extended homogeneous coordinates (X, Y, Z, T): the point is (X / Z, Y / Z), and T is X Y / Z (RFC 8032 section 5.1.4)
pub record Coordinates : Type 0 where
  pub x : ℕ
  pub y : ℕ
  pub z : ℕ
  pub t : ℕ

-- d, which is -121665/121666 modulo p (RFC 8032 section 5.1)
abbrev pub d_number : ℕ
d_number = 37095705934669439343138083508754565189542113879843219016388785533085940283555

-- 2 d modulo p (RFC 8032 section 5.1.4)
abbrev pub twice_d_number : ℕ
twice_d_number = 16295367250680780974490674513165176452449235426866156013048779062215315747161

-- the neutral point (0, 1) (RFC 8032 section 5.1.4)
abbrev pub neutral_numbers : Coordinates
neutral_numbers = record { x = 0; y = 1; z = 1; t = 0 }

-- the base point B (RFC 8032 section 5.1)
abbrev pub base_numbers : Coordinates
base_numbers = record {
  x = 15112221349535400772501151409588531511454012693041857206046113283949847762202;
  y = 46316835694926478169428394003475163141307993866256225615783033603165251855960;
  z = 1;
  t = 46827403850823179245072216630277197565144205554125654976674165829533817101731;
}

-- the last step of a sum, by its four factors: x = e f, y = g h, z = f g, t = e h (RFC 8032 section 5.1.4)
unfoldable pub of_factors : ℕ → ℕ → ℕ → ℕ → Coordinates
of_factors e f g h = record { x = times e f; y = times g h; z = times f g; t = times e h }

-- the sum of two points (RFC 8032 section 5.1.4)
unfoldable pub added : Coordinates → Coordinates → Coordinates
added p q =
    let a = times (minus p.y p.x) (minus q.y q.x) in
    let b = times (plus p.y p.x) (plus q.y q.x) in
    let c = times (times p.t twice_d_number) q.t in
    let zz = times p.z q.z in
    let d = plus zz zz in
    of_factors (minus b a) (minus d c) (plus d c) (plus b a)

-- twice a point (RFC 8032 section 5.1.4)
unfoldable pub doubled : Coordinates → Coordinates
doubled p =
    let a = times p.x p.x in
    let b = times p.y p.y in
    let zz = times p.z p.z in
    let c = plus zz zz in
    let h = plus a b in
    let e = minus h (times (plus p.x p.y) (plus p.x p.y)) in
    let g = minus a b in
    of_factors e (plus c g) g h

-- the opposite point (-x, y): X and T change their sign (for the equation of RFC 8032 section 5.1.7)
unfoldable pub opposite : Coordinates → Coordinates
opposite p = record { x = minus 0 p.x; y = p.y; z = p.z; t = minus 0 p.t }

-- [m]P for the number m of the n highest of bits 255 to 0, by doubling and adding with the formulas of RFC 8032 section 5.1.4
unfoldable pub multiple_to : List ℕ → Coordinates → ℕ → Coordinates
multiple_to bytes p zero = neutral_numbers
multiple_to bytes p (suc n) =
    if bit_at bytes (255 - n) == 1 then added (doubled (multiple_to bytes p n)) p else doubled (multiple_to bytes p n)

-- [n]P for the number n of 32 bytes, little-endian: by doubling and adding from the highest bit on, with the formulas of RFC 8032 section
-- 5.1.4
unfoldable pub multiple : List ℕ → Coordinates → Coordinates
multiple bytes p = multiple_to bytes p 256

-- [256]P: eight times doubled
unfoldable pub times_256 : Coordinates → Coordinates
times_256 p = doubled (doubled (doubled (doubled (doubled (doubled (doubled (doubled p)))))))

-- [256^i]B for the base point B, with the Z that doubling gives
unfoldable pub base_at : ℕ → Coordinates
base_at zero = base_numbers
base_at (suc i) = times_256 (base_at i)

-- A sum, to which a point is added for each of the first n bytes whose bit j is 1: [256^i]B for byte i. Bit 0 is the lowest.
unfoldable pub row_to : List ℕ → ℕ → Coordinates → ℕ → Coordinates
row_to bytes j sum zero = sum
row_to bytes j sum (suc n) = let before = row_to bytes j sum n in if bit_at bytes (8 * n + j) == 1 then added before (base_at n) else before

-- The sum for the k highest bits of each of 32 bytes, the highest bit first. Before the points of a bit are added, the sum is doubled.
unfoldable pub rows_to : List ℕ → ℕ → Coordinates
rows_to bytes zero = neutral_numbers
rows_to bytes (suc k) = row_to bytes (7 - k) (doubled (rows_to bytes k)) 32

-- [n]B for the number n of 32 bytes, little-endian, by rows of bits: bit j of byte i counts 2^j times 256^i. The point [256^i]B is added for
-- it, and the sum is then doubled j times.
unfoldable pub base_multiple : List ℕ → Coordinates
base_multiple bytes = rows_to bytes 8

-- the bytes of y, with the lowest bit of x as their highest (RFC 8032 section 5.1.2)
unfoldable pub with_sign : List ℕ → List ℕ → List ℕ
with_sign x y = slice_set y 31 (slice_index y 31 % 128 + slice_index x 0 % 2 * 128)

-- the encoding of a point: 32 bytes of y, little-endian, with the lowest bit of x as their highest (RFC 8032 section 5.1.2)
unfoldable pub bytes_of_point : Coordinates → List ℕ
bytes_of_point p = with_sign (bytes_of_number (times p.x (reciprocal p.z))) (bytes_of_number (times p.y (reciprocal p.z)))
