-- Decoding of a point in numbers modulo p = 2^255 - 19, as RFC 8032 section 5.1.3 defines it.

use Rattle.std.proofs.Common.{ℕ, ◌/◌, ◌%◌, ◌^◌, List}
use Rattle.std.specs.Prelude.{◌==◌, ◌&&◌, if◌then◌else◌, nat_lt, Option, None, Some, slice_index}
use Rattle.sshcurve.specs.Bits.{number_of_32}
use Rattle.sshcurve.specs.EdwardsNumbers.{Coordinates, d_number}
use Rattle.sshcurve.specs.FieldNumbers.{minus, plus, power, times}
use Rattle.sshcurve.specs.FieldNumbers.{field}

-- 2^((p - 1) / 4) modulo p, a square root of -1 (RFC 8032 section 5.1.3, step 3)
abbrev pub root_number : ℕ
root_number = 19681161376707505956807079304988542015446066515923890162744021073123829784752

-- the root for the candidate x: x if v x^2 is u, x times the root of -1 if v x^2 is -u, and else none (RFC 8032 section 5.1.3, step 3)
unfoldable pub root_of : ℕ → ℕ → ℕ → Option ℕ
root_of u v x =
    if times v (times x x) == u then Some x
    else if times v (times x x) == minus 0 u then Some (times x root_number)
    else None

-- a square root of u / v, if there is one: the candidate is u v^3 (u v^7)^((p - 5) / 8) (RFC 8032 section 5.1.3, steps 2 and 3)
unfoldable pub root_of_quotient : ℕ → ℕ → Option ℕ
root_of_quotient u v =
    let cube = times (times v v) v in
    let seventh = times (times cube cube) v in
    root_of u v (times (times u cube) (power (times u seventh) 7237005577332262213973186563042994240829374041602535252466099000494570602493))

-- the point of y and whichever of x and -x has this lowest bit; none if x is 0 and the bit is 1 (RFC 8032 section 5.1.3, step 4)
unfoldable pub with_x : ℕ → ℕ → ℕ → Option Coordinates
with_x x y odd =
    if odd == 1 && (x == 0) then None
    else (let x = if x % 2 == odd then x else minus 0 x in Some (record { x = x; y = y; z = 1; t = times x y }))

-- the same with the root that was found for x, and none without a root (RFC 8032 section 5.1.3, steps 3 and 4)
unfoldable pub with_root : Option ℕ → ℕ → ℕ → Option Coordinates
with_root None y odd = None
with_root (Some x) y odd = with_x x y odd

-- The point that 32 bytes encode, if there is one: the highest bit is the lowest of x, the others are y, which is below p, and x is a root
-- of (y^2 - 1) / (d y^2 + 1) (RFC 8032 section 5.1.3).
unfoldable pub point_in : List ℕ → Option Coordinates
point_in bytes =
    let y = number_of_32 bytes % 2 ^ 255 in
    let yy = times y y in
    if nat_lt y field then with_root (root_of_quotient (minus yy 1) (plus (times d_number yy) 1)) y (slice_index bytes 31 / 128)
    else None
