-- The code computes multiples of the base point, by the points of its table, as in numbers.

use Rattle.std.proofs.Common.{◌≡◌, ℕ, zero, suc, ◌+◌, ◌-◌, ◌*◌, ◌%◌, ◌^◌, ◌<◌, ◌≤◌, Bool, true, List, refl, arith, eqb, ltb}
use Rattle.std.proofs.lemmas.Bool.{and_parts, eqb-true, ltb-true}
use Rattle.std.specs.Prelude.{◌&&◌, slice_index}
use Rattle.sshcurve.specs.Bits.{bit_at, word_at}
use Rattle.sshsuite.specs.Edwards25519.{add_row_to, add_rows_to, add_summand, add_where, multiply_base, summand_of, table_element, table_point}
use Rattle.sshsuite.specs.FieldElement.{decode}
use Rattle.sshsuite.specs.declared.edwards25519.Factors.{Factors}
use Rattle.sshcurve.specs.EdwardsNumbers.{Coordinates, added, base_at, base_multiple, doubled, of_factors, row_to, rows_to, times_256}
use Rattle.sshsuite.specs.PointNumbers.{HasCoordinates}
use Rattle.sshsuite.specs.FieldValues.{HasNumber, value}
use Rattle.sshcurve.specs.FieldNumbers.{minus, plus, times, field}
use Rattle.sshsuite.proofs.EdwardsLemmas.{AreFactors, add_is, double_is, either, neutral_is, point_is, summand_is}
use Rattle.sshsuite.proofs.TestLemmas.{all_below, at_each}

-- the limbs are below 2^52, and of this number: a test
has_number : List ℕ → ℕ → Bool
has_number a n =
    ltb (slice_index a 0) (2 ^ 52) && (ltb (slice_index a 1) (2 ^ 52) && (ltb (slice_index a 2) (2 ^ 52) && (ltb (slice_index a 3) (2 ^ 52)
    && (ltb (slice_index a 4) (2 ^ 52) && eqb (value a % field) n))))

number_by_test : (a : List ℕ) (n : ℕ) → has_number a n ≡ true → HasNumber a n
unfolding has_number
number_by_test a n e =
    let b1 : Bool = ltb (slice_index a 1) (2 ^ 52) in
    let b2 : Bool = ltb (slice_index a 2) (2 ^ 52) in
    let b3 : Bool = ltb (slice_index a 3) (2 ^ 52) in
    let b4 : Bool = ltb (slice_index a 4) (2 ^ 52) in
    let same : Bool = eqb (value a % field) n in
    let e0 = and_parts (ltb (slice_index a 0) (2 ^ 52)) (b1 && (b2 && (b3 && (b4 && same)))) e in
    let e1 = and_parts b1 (b2 && (b3 && (b4 && same))) e0.1 in
    let e2 = and_parts b2 (b3 && (b4 && same)) e1.1 in
    let e3 = and_parts b3 (b4 && same) e2.1 in
    let e4 = and_parts b4 same e3.1 in
    record {
      below = record {
        l0 = ltb-true (slice_index a 0) (2 ^ 52) e0.0;
        l1 = ltb-true (slice_index a 1) (2 ^ 52) e1.0;
        l2 = ltb-true (slice_index a 2) (2 ^ 52) e2.0;
        l3 = ltb-true (slice_index a 3) (2 ^ 52) e3.0;
        l4 = ltb-true (slice_index a 4) (2 ^ 52) e4.0;
      };
      number = eqb-true (value a % field) n e4.1;
    }

-- a point of the table has its coordinates: a test
is_multiple : ℕ → Bool
is_multiple i =
    let n = base_at i in
    has_number (table_element (4 * i)) n.x && (has_number (table_element (4 * i + 1)) n.y
    && (has_number (table_element (4 * i + 2)) n.z && has_number (table_element (4 * i + 3)) n.t))

-- each of the table's points has: seen by computing
are_multiples : all_below 32 is_multiple ≡ true
unfolding is_multiple has_number table_element decode word_at base_at times_256 doubled of_factors times plus minus
are_multiples = refl

pub table_is : (i : ℕ) → i < 32 → HasCoordinates (table_point i) (base_at i)
unfolding is_multiple table_point
table_is i h =
    let n : Coordinates = base_at i in
    let bx : Bool = has_number (table_element (4 * i)) n.x in
    let by : Bool = has_number (table_element (4 * i + 1)) n.y in
    let bz : Bool = has_number (table_element (4 * i + 2)) n.z in
    let bt : Bool = has_number (table_element (4 * i + 3)) n.t in
    let e0 = and_parts bx (by && (bz && bt)) (at_each 32 is_multiple are_multiples i h) in
    let e1 = and_parts by (bz && bt) e0.1 in
    let e2 = and_parts bz bt e1.1 in
    record { x = number_by_test _ _ e0.0; y = number_by_test _ _ e1.0; z = number_by_test _ _ e2.0; t = number_by_test _ _ e2.1 }

row_is : (bytes : List ℕ) (j n : ℕ) (s : Factors) (m : Coordinates) → n ≤ 32 → AreFactors s m → AreFactors (add_row_to bytes j s n) (row_to bytes j m n)
unfolding add_row_to add_where row_to
row_is bytes j zero s m low h = h
row_is bytes j (suc n) s m low h =
    let t : Factors = add_row_to bytes j s n in
    let before : Coordinates = row_to bytes j m n in
    let k : AreFactors t before = row_is bytes j n s m (omega arith) h in
    let q = summand_is (table_point n) (base_at n) (table_is n (omega arith)) in
    either (eqb (bit_at bytes (8 * n + j)) 1) (add_summand t (summand_of (table_point n))) t (added before (base_at n)) before (add_is _ _ _ _ k q) k

rows_are : (bytes : List ℕ) (k : ℕ) → AreFactors (add_rows_to bytes k) (rows_to bytes k)
unfolding add_rows_to rows_to
rows_are bytes zero = neutral_is
rows_are bytes (suc k) = row_is bytes (7 - k) 32 _ _ (omega arith) (double_is (add_rows_to bytes k) (rows_to bytes k) (rows_are bytes k))

pub base_multiple_is : (bytes : List ℕ) → HasCoordinates (multiply_base bytes) (base_multiple bytes)
unfolding multiply_base base_multiple
base_multiple_is bytes = point_is _ _ (rows_are bytes 8)
