-- The code computes with points of numbers.

use Rattle.std.proofs.Common.{◌≡◌, ℕ, zero, suc, ◌+◌, ◌-◌, ◌*◌, ◌%◌, inl, inr, Bool, true, false, List, refl, sym, subst, ap, ap₂, ◌∙◌, arith, cond, eqb}
use Rattle.std.proofs.lemmas.Bool.{and_parts, cases_Bool, eqb-true}
use Rattle.std.specs.Prelude.{◌&&◌, slice_index}
use Rattle.sshcurve.specs.Bits.{bit_at}
use Rattle.sshsuite.specs.Edwards25519.{add_points, add_row_more, add_row_to, add_summand, add_where, double, encode_point, is_one, multiply, multiply_to, negate, neutral_factors, point_of_factors, summand_of, table_point, times_z, twice_d}
use Rattle.sshcurve.specs.EdwardsNumbers.{with_sign, Coordinates, added, bytes_of_point, doubled, multiple, multiple_to, neutral_numbers, of_factors, opposite, twice_d_number}
use Rattle.sshsuite.specs.FieldElement.{mul, none, one}
use Rattle.sshsuite.specs.declared.edwards25519.Factors.{Factors}
use Rattle.sshsuite.specs.declared.edwards25519.Point.{Point}
use Rattle.sshsuite.specs.declared.edwards25519.Summand.{Summand}
use Rattle.sshsuite.proofs.FieldNumberLemmas.{HasLoose, HasTight, add_number, difference_half, difference_number, encode_number, exchange, half_loose, inverse_number, loose_number, mul_number, mul_tight, none_number, none_tight, one_tight, products, square_tight, sub_number, sum_half, sum_number, tight_by, tight_half, tight_loose, tight_number}
use Rattle.sshsuite.specs.PointNumbers.{HasCoordinates}
use Rattle.sshsuite.specs.FieldValues.{HasNumber, value}
use Rattle.sshcurve.specs.FieldNumbers.{minus, plus, times, field}

twice_d_is : HasNumber twice_d twice_d_number
twice_d_is = record { below = record { l0 = omega arith; l1 = omega arith; l2 = omega arith; l3 = omega arith; l4 = omega arith }; number = refl }

-- the products of factors, which are loose, are those coordinates
pub record AreFactors (s : Factors) (n : Coordinates) : Type 0 where
  pub x : HasTight (mul s.e s.f) n.x
  pub y : HasTight (mul s.g s.h) n.y
  pub z : HasTight (mul s.g s.f) n.z
  pub t : HasTight (mul s.e s.h) n.t

factors_are : (e f g h : List ℕ) (i j k l : ℕ) → HasLoose e i → HasLoose f j → HasLoose g k → HasLoose h l
    → AreFactors (record { e = e; f = f; g = g; h = h }) (of_factors i j k l)
unfolding of_factors
factors_are e f g h i j k l he hf hg hh =
    record { x = mul_tight e f i j he hf; y = mul_tight g h k l hg hh; z = tight_by (mul g f) (times k j) (times j k) (exchange k j) (mul_tight g f k j hg hf); t = mul_tight e h i l he hh }

pub point_is : (s : Factors) (n : Coordinates) → AreFactors s n → HasCoordinates (point_of_factors s) n
unfolding point_of_factors
point_is s n h = record { x = tight_number _ _ h.x; y = tight_number _ _ h.y; z = tight_number _ _ h.z; t = tight_number _ _ h.t }

pub neutral_is : AreFactors neutral_factors neutral_numbers
unfolding times
neutral_is =
    let as_none = tight_loose none 0 none_tight in
    let as_one = tight_loose one 1 one_tight in
    record { x = mul_tight none one 0 1 as_none as_one; y = mul_tight one one 1 1 as_one as_one; z = mul_tight one one 1 1 as_one as_one; t = mul_tight none one 0 1 as_none as_one }

pub sum_is : (p q : Point) (m n : Coordinates) → HasCoordinates p m → HasCoordinates q n → HasCoordinates (add_points p q) (added m n)
unfolding add_points added
sum_is p q m n h k =
    let a = mul_number _ _ _ _ (sub_number p.y p.x m.y m.x h.y h.x) (sub_number q.y q.x n.y n.x k.y k.x) in
    let b = mul_number _ _ _ _ (add_number p.y p.x m.y m.x h.y h.x) (add_number q.y q.x n.y n.x k.y k.x) in
    let c = mul_number _ _ _ _ (mul_number p.t twice_d m.t twice_d_number h.t twice_d_is) k.t in
    let zz = mul_number p.z q.z m.z n.z h.z k.z in
    let d = add_number _ _ _ _ zz zz in
    point_is _ _ (factors_are _ _ _ _ _ _ _ _ (loose_number _ _ (sub_number _ _ _ _ b a)) (loose_number _ _ (sub_number _ _ _ _ d c))
    (loose_number _ _ (add_number _ _ _ _ d c)) (loose_number _ _ (add_number _ _ _ _ b a)))

pub double_is : (s : Factors) (m : Coordinates) → AreFactors s m → AreFactors (double s) (doubled m)
unfolding double doubled
double_is s m h =
    let a = square_tight _ _ (tight_loose _ _ h.x) in
    let b = square_tight _ _ (tight_loose _ _ h.y) in
    let zz = square_tight _ _ (tight_loose _ _ h.z) in
    let c = sum_half _ _ _ _ zz zz in
    let hh = sum_half _ _ _ _ a b in
    let g = difference_half _ _ _ _ a b in
    let both = square_tight _ _ (half_loose _ _ (sum_half _ _ _ _ h.x h.y)) in
    factors_are _ _ _ _ _ _ _ _ (difference_number _ _ _ _ hh both) (sum_number _ _ _ _ c g) (half_loose _ _ g) (half_loose _ _ hh)

-- what is kept of a point has its numbers
pub record IsSummand (q : Summand) (n : Coordinates) : Type 0 where
  pub sum : HasLoose q.plus (plus n.y n.x)
  pub difference : HasLoose q.minus (minus n.y n.x)
  pub z : HasLoose q.z n.z
  pub t : HasLoose q.t (times n.t twice_d_number)
  pub one : q.is_affine ≡ true → n.z ≡ 1

one_is : (a : List ℕ) (n : ℕ) → HasNumber a n → is_one a ≡ true → n ≡ 1
unfolding is_one
one_is a n h e =
    let b4 : Bool = eqb (slice_index a 4) 0 in
    let b3 : Bool = eqb (slice_index a 3) 0 in
    let b2 : Bool = eqb (slice_index a 2) 0 in
    let b1 : Bool = eqb (slice_index a 1) 0 in
    let e0 = and_parts (eqb (slice_index a 0) 1) (b1 && (b2 && (b3 && b4))) e in
    let e1 = and_parts b1 (b2 && (b3 && b4)) e0.1 in
    let e2 = and_parts b2 (b3 && b4) e1.1 in
    let e3 = and_parts b3 b4 e2.1 in
    let l0 : slice_index a 0 ≡ 1 = eqb-true (slice_index a 0) 1 e0.0 in
    let l1 : slice_index a 1 ≡ 0 = eqb-true (slice_index a 1) 0 e1.0 in
    let l2 : slice_index a 2 ≡ 0 = eqb-true (slice_index a 2) 0 e2.0 in
    let l3 : slice_index a 3 ≡ 0 = eqb-true (slice_index a 3) 0 e3.0 in
    let l4 : slice_index a 4 ≡ 0 = eqb-true (slice_index a 4) 0 e3.1 in
    let all : value a ≡ 1 = omega (arith, l0, l1, l2, l3, l4) in
    sym h.number ∙ ap (λ (k : ℕ). k % field) all

pub summand_is : (p : Point) (m : Coordinates) → HasCoordinates p m → IsSummand (summand_of p) m
unfolding summand_of
summand_is p m h = record {
  sum = loose_number _ _ (add_number p.y p.x m.y m.x h.y h.x);
  difference = loose_number _ _ (sub_number p.y p.x m.y m.x h.y h.x);
  z = loose_number _ _ h.z;
  t = loose_number _ _ (mul_number p.t twice_d m.t twice_d_number h.t twice_d_is);
  one = one_is p.z m.z h.z;
}

-- products in another order
reordered : (x y z : ℕ) → times x (times y z) ≡ times (times x z) y
unfolding times
reordered x y z =
    let left : x * (y * z % field) % field ≡ x * (y * z) % field = products x (y * z % field) (x % field) (y * z % field) refl (twice (y * z)) ∙ sym (products x (y * z) (x % field) (y * z % field) refl refl) in
    let right : x * z % field * y % field ≡ x * z * y % field = products (x * z % field) y (x * z % field) (y % field) (twice (x * z)) refl ∙ sym (products (x * z) y (x * z % field) (y % field) refl refl) in
    left ∙ (ap (λ (n : ℕ). n % field) (order x y z) ∙ sym right)
  where
    twice : (n : ℕ) → n % field % field ≡ n % field
    twice n = omega arith

    order : (x y z : ℕ) → x * (y * z) ≡ x * z * y
    order x y z = omega arith

-- a number below 2^255 - 19 is its own product by 1
times_one : (x n : ℕ) → n % field ≡ x → x ≡ times x 1
unfolding times
times_one x n h = omega arith

z_is : (z : List ℕ) (q : Summand) (x : ℕ) (n : Coordinates) → HasTight z x → IsSummand q n → HasTight (times_z z q) (times x n.z)
unfolding times_z
z_is z q x n h k =
    elim (cases_Bool q.is_affine) [
      | inl is ↦ subst (λ (b : Bool). HasTight (cond b z (mul z q.z)) (times x n.z)) (sym is) (tight_by z x (times x n.z) (times_one x (value z) h.number ∙ ap (times x) (sym (k.one is))) h)
      | inr isnt ↦ subst (λ (b : Bool). HasTight (cond b z (mul z q.z)) (times x n.z)) (sym isnt) (mul_tight _ _ _ _ (tight_loose _ _ h) k.z)
    ]

pub add_is : (s : Factors) (q : Summand) (m n : Coordinates) → AreFactors s m → IsSummand q n → AreFactors (add_summand s q) (added m n)
unfolding add_summand added point_of_factors
add_is s q m n h k =
    let a = mul_tight _ _ _ _ (half_loose _ _ (difference_half _ _ m.y m.x h.y h.x)) k.difference in
    let b = mul_tight _ _ _ _ (half_loose _ _ (sum_half _ _ m.y m.x h.y h.x)) k.sum in
    let c = tight_by _ _ _ (reordered m.t n.t twice_d_number) (mul_tight _ _ m.t _ (tight_loose _ _ h.t) k.t) in
    let zz = z_is _ q m.z n h.z k in
    let d = sum_half _ _ _ _ zz zz in
    factors_are _ _ _ _ _ _ _ _ (half_loose _ _ (difference_half _ _ _ _ b a)) (difference_number _ _ _ _ d c)
    (sum_number _ _ _ _ d (tight_half _ _ c)) (half_loose _ _ (sum_half _ _ _ _ b a))

pub opposite_is : (p : Point) (m : Coordinates) → HasCoordinates p m → HasCoordinates (negate p) (opposite m)
unfolding negate opposite
opposite_is p m h = record { x = sub_number none p.x 0 m.x none_number h.x; y = h.y; z = h.z; t = sub_number none p.t 0 m.t none_number h.t }

pub either : (b : Bool) (s r : Factors) (m n : Coordinates) → AreFactors s m → AreFactors r n → AreFactors (cond b s r) (cond b m n)
either true s r m n h k = h
either false s r m n h k = k

-- a step of the loop over a row
pub row_step : (bytes : List ℕ) (j n bit : ℕ) (sum before after : Factors) (q : Summand) → after ≡ add_where before q bit → bit ≡ bit_at bytes (8 * n + j)
    → before ≡ add_row_to bytes j sum n → q ≡ summand_of (table_point n) → after ≡ add_row_to bytes j sum (n + 1)
row_step bytes j n bit sum before after q e b s t =
    e ∙ (ap₂ (λ (s : Factors) (k : ℕ). add_where s q k) s b ∙ (ap (λ (q : Summand). add_where (add_row_to bytes j sum n) q (bit_at bytes (8 * n + j))) t ∙ sym (add_row_more bytes j sum n)))

multiple_to_is : (bytes : List ℕ) (q : Summand) (m : Coordinates) (n : ℕ) → IsSummand q m → AreFactors (multiply_to bytes q n) (multiple_to bytes m n)
unfolding multiply_to multiple_to add_where
multiple_to_is bytes q m zero h = neutral_is
multiple_to_is bytes q m (suc n) h =
    let s : Factors = multiply_to bytes q n in
    let t : Coordinates = multiple_to bytes m n in
    let k : AreFactors (double s) (doubled t) = double_is s t (multiple_to_is bytes q m n h) in
    either (eqb (bit_at bytes (255 - n)) 1) (add_summand (double s) q) (double s) (added (doubled t) m) (doubled t) (add_is (double s) q (doubled t) m k h) k

pub multiple_is : (bytes : List ℕ) (p : Point) (m : Coordinates) → HasCoordinates p m → HasCoordinates (multiply bytes p) (multiple bytes m)
unfolding multiply multiple
multiple_is bytes p m h = point_is _ _ (multiple_to_is bytes (summand_of p) m 256 (summand_is p m h))

pub bytes_are : (p : Point) (m : Coordinates) → HasCoordinates p m → encode_point p ≡ bytes_of_point m
unfolding encode_point bytes_of_point
bytes_are p m h =
    let z = inverse_number p.z m.z h.z in
    ap₂ with_sign (encode_number _ _ (mul_number p.x _ m.x _ h.x z)) (encode_number _ _ (mul_number p.y _ m.y _ h.y z))
