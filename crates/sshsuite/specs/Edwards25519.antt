-- Points of edwards25519 in extended coordinates, in the order of the steps of RFC 8032 section 5.1.

use Rattle.std.proofs.Common.{◌≡◌, add-one, refl}
use Rattle.std.specs.Prelude.{ℕ, zero, suc, ◌+◌, ◌-◌, ◌*◌, ◌/◌, ◌%◌, ◌^◌, ◌<◌, ◌==◌, ◌&&◌, nat_lt, Bool, List, [], ◌∷◌, slice_index, slice_index_or, slice_range, if◌then◌else◌, Option, None, Some, replicate}
use Rattle.std.specs.Str.{bytes_eq}
use Rattle.sshcurve.specs.Bits.{bit_at, number_of_32}
use Rattle.sshcurve.specs.EdwardsNumbers.{with_sign}
use Rattle.sshsuite.specs.FieldElement.{add, decode, encode, inverse, loose_difference, loose_sum, mul, none, one, root_power, squared, sub}
use Rattle.sshsuite.specs.declared.edwards25519.Factors.{Factors}
use Rattle.sshsuite.specs.declared.edwards25519.Point.{Point}
use Rattle.sshsuite.specs.declared.edwards25519.Summand.{Summand}
use Rattle.sshsuite.specs.declared.edwards25519.TheConstants.{BASE_MULTIPLES}

-- the constant d of the curve, as five limbs (RFC 8032 section 5.1)
abbrev pub d : List ℕ
d = 929955233495203 ∷ 466365720129213 ∷ 1662059464998953 ∷ 2033849074728123 ∷ 1442794654840575 ∷ []

-- twice d, as five limbs
abbrev pub twice_d : List ℕ
twice_d = 1859910466990425 ∷ 932731440258426 ∷ 1072319116312658 ∷ 1815898335770999 ∷ 633789495995903 ∷ []

-- a square root of -1
abbrev pub root : List ℕ
root = 1718705420411056 ∷ 234908883556509 ∷ 2233514472574048 ∷ 2117202627021982 ∷ 765476049583133 ∷ []

-- the neutral element
abbrev pub neutral_factors : Factors
neutral_factors = record { e = none; f = one; g = one; h = one }

-- the point of factors of its coordinates
unfoldable pub point_of_factors : Factors → Point
point_of_factors s = record { x = mul s.e s.f; y = mul s.g s.h; z = mul s.g s.f; t = mul s.e s.h }

-- the sum of two points (RFC 8032 section 5.1.4)
unfoldable pub add_points : Point → Point → Point
add_points p q =
    let a = mul (sub p.y p.x) (sub q.y q.x) in
    let b = mul (add p.y p.x) (add q.y q.x) in
    let c = mul (mul p.t twice_d) q.t in
    let zz = mul p.z q.z in
    let dd = add zz zz in
    point_of_factors (record { e = sub b a; f = sub dd c; g = add dd c; h = add b a })

-- the limbs are those of 1
unfoldable pub is_one : List ℕ → Bool
is_one a = slice_index a 0 == 1 && (slice_index a 1 == 0 && (slice_index a 2 == 0 && (slice_index a 3 == 0 && slice_index a 4 == 0)))

-- what of a point goes into sums with it
unfoldable pub summand_of : Point → Summand
summand_of p = record { plus = add p.y p.x; minus = sub p.y p.x; z = p.z; t = mul p.t twice_d; is_affine = is_one p.z }

-- the product of an element and the z of a summand, which isn't made where that is 1
unfoldable pub times_z : List ℕ → Summand → List ℕ
times_z z q = if q.is_affine then z else mul z q.z

-- the sum of a point and a summand
unfoldable pub add_summand : Factors → Summand → Factors
add_summand s q =
    let p = point_of_factors s in
    let a = mul (loose_difference p.y p.x) q.minus in
    let b = mul (loose_sum p.y p.x) q.plus in
    let c = mul p.t q.t in
    let zz = times_z p.z q in
    let dd = loose_sum zz zz in
    record { e = loose_difference b a; f = loose_difference dd c; g = loose_sum dd c; h = loose_sum b a }

-- twice a point
unfoldable pub double : Factors → Factors
double s =
    let x = mul s.e s.f in
    let y = mul s.g s.h in
    let z = mul s.g s.f in
    let a = squared x in
    let b = squared y in
    let zz = squared z in
    let h = loose_sum a b in
    let g = loose_difference a b in
    record { e = loose_difference h (squared (loose_sum x y)); f = loose_sum (loose_sum zz zz) g; g = g; h = h }

-- the opposite of a point: x and t change their sign
unfoldable pub negate : Point → Point
negate p = record { x = sub none p.x; y = p.y; z = p.z; t = sub none p.t }

-- the first, and the second where the bit is 1
unfoldable pub add_where : Factors → Summand → ℕ → Factors
add_where sum q bit = if bit == 1 then add_summand sum q else sum

-- the multiply of the point by the first bits of the number, the highest first
unfoldable pub multiply_to : List ℕ → Summand → ℕ → Factors
multiply_to bytes q zero = neutral_factors
multiply_to bytes q (suc n) = add_where (double (multiply_to bytes q n)) q (bit_at bytes (255 - n))

-- the point times the number of these bytes, by limbs
unfoldable pub multiply : List ℕ → Point → Point
multiply bytes p = point_of_factors (multiply_to bytes (summand_of p) 256)

-- the coordinate on a line of the table of the base point's multiples
unfoldable pub table_element : ℕ → List ℕ
table_element line = decode (slice_range BASE_MULTIPLES.now (32 * line) (32 * line + 32))

-- the point of four lines of the table: 256^i times the base point
unfoldable pub table_point : ℕ → Point
table_point i = record { x = table_element (4 * i); y = table_element (4 * i + 1); z = table_element (4 * i + 2); t = table_element (4 * i + 3) }

-- the summands are those of the table's points
abbrev pub AreOfTable : List Summand → Type 0
AreOfTable summands = (k : ℕ) → k < 32 → (past : Summand) → slice_index_or summands k past ≡ summand_of (table_point k)

-- the sum, to which the table's point of each of the first bytes is added whose bit j is 1
unfoldable pub add_row_to : List ℕ → ℕ → Factors → ℕ → Factors
add_row_to bytes j sum zero = sum
add_row_to bytes j sum (suc n) = add_where (add_row_to bytes j sum n) (summand_of (table_point n)) (bit_at bytes (8 * n + j))

-- the same for the first bits of all bytes, the highest first: before each the sum is doubled
unfoldable pub add_rows_to : List ℕ → ℕ → Factors
add_rows_to bytes zero = neutral_factors
add_rows_to bytes (suc k) = add_row_to bytes (7 - k) (double (add_rows_to bytes k)) 32

-- the base point times the number of these bytes, by limbs
unfoldable pub multiply_base : List ℕ → Point
multiply_base bytes = point_of_factors (add_rows_to bytes 8)

-- the 32 bytes of a point: y, with the lowest bit of x as the highest (RFC 8032 section 5.1.2)
unfoldable pub encode_point : Point → List ℕ
encode_point p = let through_z = inverse p.z in with_sign (encode (mul p.x through_z)) (encode (mul p.y through_z))

-- a square root of the one through the other, where it is this one or this one times the root of -1
unfoldable pub root_by : List ℕ → List ℕ → List ℕ → Option (List ℕ)
root_by u v x =
    let found = encode (mul v (squared x)) in
    if bytes_eq found (encode u) then Some x
    else if bytes_eq found (encode (sub none u)) then Some (mul x root)
    else None

-- a square root of u / v, if it has one (RFC 8032 section 5.1.3)
unfoldable pub square_root_of_ratio : List ℕ → List ℕ → Option (List ℕ)
square_root_of_ratio u v =
    let cube = mul (squared v) v in
    let seventh = mul (squared cube) v in
    root_by u v (mul (mul u cube) (root_power (mul u seventh)))

-- the point with this x or its opposite, whose lowest bit is this, and this y
unfoldable pub point_with : List ℕ → List ℕ → ℕ → Option Point
point_with x y odd =
    let own = encode x in
    if odd == 1 && bytes_eq own (replicate 32 0) then None
    else (let x = if slice_index own 0 % 2 == odd then x else sub none x in Some (record { x = x; y = y; z = one; t = mul x y }))

-- the point with this x or its opposite, by the lowest bit, and this y; none without x (RFC 8032 section 5.1.3)
unfoldable pub point_from : Option (List ℕ) → List ℕ → ℕ → Option Point
point_from None y odd = None
point_from (Some x) y odd = point_with x y odd

-- y, which is what 32 bytes are without their highest bit, is below 2^255 - 19
unfoldable pub is_canonical : List ℕ → Bool
is_canonical bytes = nat_lt (number_of_32 bytes % 2 ^ 255) (2 ^ 255 - 19)

-- the point of 32 bytes
unfoldable pub decode_point : List ℕ → Option Point
decode_point bytes =
    let y = decode bytes in
    let yy = squared y in
    if is_canonical bytes then point_from (square_root_of_ratio (sub yy one) (add (mul d yy) one)) y (slice_index bytes 31 / 128)
    else None

-- steps of the loops
pub multiply_none : (bytes : List ℕ) (q : Summand) → multiply_to bytes q 0 ≡ neutral_factors
unfolding multiply_to
multiply_none bytes q = refl

pub multiply_more : (bytes : List ℕ) (q : Summand) (n : ℕ) → multiply_to bytes q (n + 1) ≡ add_where (double (multiply_to bytes q n)) q (bit_at bytes (255 - n))
unfolding multiply_to
multiply_more bytes q n = rw (add-one n) refl

pub add_row_none : (bytes : List ℕ) (j : ℕ) (sum : Factors) → add_row_to bytes j sum 0 ≡ sum
unfolding add_row_to
add_row_none bytes j sum = refl

pub add_row_more : (bytes : List ℕ) (j : ℕ) (sum : Factors) (n : ℕ)
    → add_row_to bytes j sum (n + 1) ≡ add_where (add_row_to bytes j sum n) (summand_of (table_point n)) (bit_at bytes (8 * n + j))
unfolding add_row_to
add_row_more bytes j sum n = rw (add-one n) refl

pub add_rows_none : (bytes : List ℕ) → add_rows_to bytes 0 ≡ neutral_factors
unfolding add_rows_to
add_rows_none bytes = refl

pub add_rows_more : (bytes : List ℕ) (k : ℕ) → add_rows_to bytes (k + 1) ≡ add_row_to bytes (7 - k) (double (add_rows_to bytes k)) 32
unfolding add_rows_to
add_rows_more bytes k = rw (add-one k) refl
