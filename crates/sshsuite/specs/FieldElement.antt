-- The field of 2^255 - 19 elements, by limbs, as the code has it: sums of two limbs' products are taken modulo 2^128, and
-- products of a limb and a small number modulo 2^64.

use Rattle.std.proofs.Common.{◌≡◌, add-one, refl}
use Rattle.std.specs.Prelude.{ℕ, zero, suc, ◌+◌, ◌-◌, ◌*◌, ◌/◌, ◌%◌, ◌^◌, List, [], ◌∷◌, slice_index, bit_or}
use Rattle.sshcurve.specs.Bits.{bytes_of_words, word_at}
use Rattle.sshsuite.specs.Limbs.{add64, add128, mul64, mul128, reduced_once}

-- the sum of the products at each place
unfoldable pub dot : List ℕ → List ℕ → ℕ
dot a b =
    add128 (add128 (add128 (add128 (mul128 (slice_index a 0) (slice_index b 0)) (mul128 (slice_index a 1) (slice_index b 1)))
    (mul128 (slice_index a 2) (slice_index b 2))) (mul128 (slice_index a 3) (slice_index b 3))) (mul128 (slice_index a 4) (slice_index b 4))

-- what is carried out of a sum
abbrev pub above : ℕ → ℕ
above c = c / 2 ^ 51 % 2 ^ 64

-- the sum at a place, with what is carried out of the one before it
abbrev pub with_carry : ℕ → ℕ → ℕ
with_carry c before = add128 c (above before)

-- the limbs of five sums, each with what is carried out of the one before it
unfoldable pub limbs_of : List ℕ → List ℕ
limbs_of sums =
    let d0 = add64 (slice_index sums 0 % 2 ^ 51) (mul64 (above (slice_index sums 4)) 19) in
    d0 % 2 ^ 51 ∷ add64 (slice_index sums 1 % 2 ^ 51) (d0 / 2 ^ 51) ∷ slice_index sums 2 % 2 ^ 51 ∷ slice_index sums 3 % 2 ^ 51 ∷ slice_index sums 4 % 2 ^ 51 ∷ []

-- the limbs of five sums
unfoldable pub carried : List ℕ → List ℕ
carried sums =
    let c0 = slice_index sums 0 in
    let c1 = with_carry (slice_index sums 1) c0 in
    let c2 = with_carry (slice_index sums 2) c1 in
    let c3 = with_carry (slice_index sums 3) c2 in
    let c4 = with_carry (slice_index sums 4) c3 in
    limbs_of (c0 ∷ c1 ∷ c2 ∷ c3 ∷ c4 ∷ [])

-- the limbs of five sums that are hardly more than limbs, by one pass of carries
unfoldable pub carried_once : List ℕ → List ℕ
carried_once sums =
    let c0 = slice_index sums 0 in
    let c1 = add64 (slice_index sums 1) (c0 / 2 ^ 51) in
    let c2 = add64 (slice_index sums 2) (c1 / 2 ^ 51) in
    let c3 = add64 (slice_index sums 3) (c2 / 2 ^ 51) in
    let c4 = add64 (slice_index sums 4) (c3 / 2 ^ 51) in
    add64 (c0 % 2 ^ 51) (mul64 (c4 / 2 ^ 51) 19) ∷ c1 % 2 ^ 51 ∷ c2 % 2 ^ 51 ∷ c3 % 2 ^ 51 ∷ c4 % 2 ^ 51 ∷ []

-- the sum, limb by limb: it isn't carried
unfoldable pub loose_sum : List ℕ → List ℕ → List ℕ
loose_sum a b =
    add64 (slice_index a 0) (slice_index b 0) ∷ add64 (slice_index a 1) (slice_index b 1) ∷ add64 (slice_index a 2) (slice_index b 2)
    ∷ add64 (slice_index a 3) (slice_index b 3) ∷ add64 (slice_index a 4) (slice_index b 4) ∷ []

-- the sum of two elements of the field, by limbs
unfoldable pub add : List ℕ → List ℕ → List ℕ
add a b = carried_once (loose_sum a b)

-- a limb more than any, less a limb
unfoldable pub less : ℕ → ℕ → ℕ → ℕ
less spare a b = (add64 spare a + 2 ^ 64 - b) % 2 ^ 64

-- the difference, limb by limb, and twice the field's size: it isn't carried
unfoldable pub loose_difference : List ℕ → List ℕ → List ℕ
loose_difference a b =
    less 4503599627370458 (slice_index a 0) (slice_index b 0) ∷ less 4503599627370494 (slice_index a 1) (slice_index b 1)
    ∷ less 4503599627370494 (slice_index a 2) (slice_index b 2) ∷ less 4503599627370494 (slice_index a 3) (slice_index b 3)
    ∷ less 4503599627370494 (slice_index a 4) (slice_index b 4) ∷ []

-- the difference of two elements of the field, by limbs; four times the modulus is added, so that no limb is negative
unfoldable pub sub : List ℕ → List ℕ → List ℕ
sub a b =
    carried_once (less 9007199254740916 (slice_index a 0) (slice_index b 0) ∷ less 9007199254740988 (slice_index a 1) (slice_index b 1)
    ∷ less 9007199254740988 (slice_index a 2) (slice_index b 2) ∷ less 9007199254740988 (slice_index a 3) (slice_index b 3)
    ∷ less 9007199254740988 (slice_index a 4) (slice_index b 4) ∷ [])

-- what goes beyond the fifth limb counts nineteen times at the lowest
unfoldable pub mul : List ℕ → List ℕ → List ℕ
mul a b =
    let a0 = slice_index a 0 in
    let a1 = slice_index a 1 in
    let a2 = slice_index a 2 in
    let a3 = slice_index a 3 in
    let a4 = slice_index a 4 in
    let b0 = slice_index b 0 in
    let b1 = slice_index b 1 in
    let b2 = slice_index b 2 in
    let b3 = slice_index b 3 in
    let b4 = slice_index b 4 in
    let s1 = mul64 b1 19 in
    let s2 = mul64 b2 19 in
    let s3 = mul64 b3 19 in
    let s4 = mul64 b4 19 in
    carried (dot (a3 ∷ a2 ∷ a1 ∷ a0 ∷ a4 ∷ []) (s2 ∷ s3 ∷ s4 ∷ b0 ∷ s1 ∷ []) ∷ dot (a4 ∷ a3 ∷ a2 ∷ a1 ∷ a0 ∷ []) (s2 ∷ s3 ∷ s4 ∷ b0 ∷ b1 ∷ [])
    ∷ dot (a0 ∷ a4 ∷ a3 ∷ a2 ∷ a1 ∷ []) (b2 ∷ s3 ∷ s4 ∷ b0 ∷ b1 ∷ []) ∷ dot (a1 ∷ a0 ∷ a4 ∷ a3 ∷ a2 ∷ []) (b2 ∷ b3 ∷ s4 ∷ b0 ∷ b1 ∷ [])
    ∷ dot (a2 ∷ a1 ∷ a0 ∷ a4 ∷ a3 ∷ []) (b2 ∷ b3 ∷ b4 ∷ b0 ∷ b1 ∷ []) ∷ [])

-- the sum of three products
unfoldable pub three : ℕ → ℕ → ℕ → ℕ → ℕ → ℕ → ℕ
three x0 y0 x1 y1 x2 y2 = add128 (add128 (mul128 x0 y0) (mul128 x1 y1)) (mul128 x2 y2)

-- the product of an element and itself: each product of two limbs is made once, and counts twice
unfoldable pub squared : List ℕ → List ℕ
squared a =
    let a0 = slice_index a 0 in
    let a1 = slice_index a 1 in
    let a2 = slice_index a 2 in
    let a3 = slice_index a 3 in
    let a4 = slice_index a 4 in
    let t0 = mul64 a0 2 in
    let t1 = mul64 a1 2 in
    let t2 = mul64 a2 2 in
    let s3 = mul64 a3 19 in
    let s4 = mul64 a4 19 in
    let r4 = mul64 a4 38 in
    carried (three t2 s3 a0 a0 a1 r4 ∷ three a3 s3 a2 r4 t0 a1 ∷ three a3 r4 t0 a2 a1 a1 ∷ three a4 s4 t0 a3 t1 a2 ∷ three a2 a2 t0 a4 t1 a3 ∷ [])

-- so many times the element
unfoldable pub scaled : List ℕ → ℕ → List ℕ
scaled a n =
    carried (mul128 (slice_index a 0) n ∷ mul128 (slice_index a 1) n ∷ mul128 (slice_index a 2) n ∷ mul128 (slice_index a 3) n ∷ mul128 (slice_index a 4) n ∷ [])

-- squared so many times
unfoldable pub squares : List ℕ → ℕ → List ℕ
squares a zero = a
squares a (suc n) = squared (squares a n)

-- the power eleven
unfoldable pub eleventh : List ℕ → List ℕ
eleventh a = let two = squared a in mul (mul (squares two 2) a) two

-- the power 2^50 - 1
unfoldable pub to_50 : List ℕ → List ℕ
to_50 a =
    let two = squared a in
    let nine = mul (squares two 2) a in
    let eleven = mul nine two in
    let to_5 = mul (squared eleven) nine in
    let to_10 = mul (squares to_5 5) to_5 in
    let to_20 = mul (squares to_10 10) to_10 in
    let to_40 = mul (squares to_20 20) to_20 in
    mul (squares to_40 10) to_10

-- the power 2^250 - 1
unfoldable pub to_250 : List ℕ → List ℕ
to_250 a =
    let to_100 = mul (squares (to_50 a) 50) (to_50 a) in
    let to_200 = mul (squares to_100 100) to_100 in
    mul (squares to_200 50) (to_50 a)

-- the power 2^255 - 21: one through the element
unfoldable pub inverse : List ℕ → List ℕ
inverse a = mul (squares (to_250 a) 5) (eleventh a)

-- the power 2^252 - 3
unfoldable pub root_power : List ℕ → List ℕ
root_power a = mul (squares (to_250 a) 2) a

-- the element of 32 bytes
unfoldable pub decode : List ℕ → List ℕ
decode bytes =
    let w0 = word_at bytes 0 in
    let w1 = word_at bytes 8 in
    let w2 = word_at bytes 16 in
    let w3 = word_at bytes 24 in
    w0 % 2 ^ 51 ∷ bit_or (w0 / 2 ^ 51) (w1 * 2 ^ 13 % 2 ^ 64) % 2 ^ 51 ∷ bit_or (w1 / 2 ^ 38) (w2 * 2 ^ 26 % 2 ^ 64) % 2 ^ 51
    ∷ bit_or (w2 / 2 ^ 25) (w3 * 2 ^ 39 % 2 ^ 64) % 2 ^ 51 ∷ w3 / 2 ^ 12 % 2 ^ 51 ∷ []

-- the limbs less the field's size where they are more
unfoldable pub canonical : List ℕ → List ℕ
canonical a = reduced_once (2 ^ 51) 19 a

-- four words of five limbs
unfoldable pub packed : List ℕ → List ℕ
packed l =
    bit_or (slice_index l 0) (slice_index l 1 * 2 ^ 51 % 2 ^ 64) ∷ bit_or (slice_index l 1 / 2 ^ 13) (slice_index l 2 * 2 ^ 38 % 2 ^ 64)
    ∷ bit_or (slice_index l 2 / 2 ^ 26) (slice_index l 3 * 2 ^ 25 % 2 ^ 64) ∷ bit_or (slice_index l 3 / 2 ^ 39) (slice_index l 4 * 2 ^ 12 % 2 ^ 64) ∷ []

-- zero, as five limbs
abbrev pub none : List ℕ
none = 0 ∷ 0 ∷ 0 ∷ 0 ∷ 0 ∷ []

-- one, as five limbs
abbrev pub one : List ℕ
one = 1 ∷ 0 ∷ 0 ∷ 0 ∷ 0 ∷ []

-- the 32 bytes of an element below the field's size
unfoldable pub encode : List ℕ → List ℕ
encode a = bytes_of_words (packed (canonical (add a none)))

-- steps of the loop
pub squares_none : (a : List ℕ) → squares a 0 ≡ a
unfolding squares
squares_none a = refl

pub squares_more : (a : List ℕ) (n : ℕ) → squares a (n + 1) ≡ squared (squares a n)
unfolding squares
squares_more a n = rw (add-one n) refl
