-- Verification accepts exactly the valid signatures: those of RFC 8032's equation [S]B = R + [k]A (section 5.1.7).

use Rattle.std.proofs.Common.{◌≡◌, ℕ, ◌%◌, ◌<◌, Bool, true, ◌&&◌, List, length, take, drop, refl, sym, ap, ◌∙◌, arith, Option, Some, None, lt-ltb, ltb-true, mod-lt, length-drop}
use Rattle.std.proofs.lemmas.Bool.{and_parts, false≢true}
use Rattle.std.proofs.lemmas.Slice.Eq.{bytes_eq-Decides}
use Rattle.std.specs.Prelude.{nat_lt}
use Rattle.std.specs.Str.{bytes_eq}
use Rattle.sshcurve.specs.Bits.{number_of_32}
use Rattle.sshcurve.specs.Scalar.{encode_scalar, number_in, order}
use Rattle.sshcurve.specs.Curve.{Affine, OnCurve, sum, opposite, multiple}
use Rattle.sshcurve.specs.EdwardsNumbers as numbers
use Rattle.sshcurve.specs.EdwardsNumbers.{Coordinates, added, base_numbers, bytes_of_point}
use Rattle.sshcurve.specs.Represents.{Represents, base}
use Rattle.sshcurve.specs.DecodingNumbers.{point_in}
use Rattle.sshcurve.specs.Ed25519Numbers.{hash_of, is_right, is_signed}
use Rattle.sshcurve.specs.Verification.{IsValid, encoded}
use Rattle.sshcurve.proofs.GroupLemmas.{opposite_on, sum_commutes, sum_on}
use Rattle.sshcurve.proofs.AssociativityLemmas.{sum_associates}
use Rattle.sshcurve.proofs.MultipleLemmas.{multiple_on, sum_neutral_right}
use Rattle.sshcurve.proofs.CoordinateLemmas.{base_on, base_represents, by_point, opposite_represents, sum_represents}
use Rattle.sshcurve.proofs.ScalarLemmas.{number_of_scalar}
use Rattle.sshcurve.proofs.DecodingLemmas.{bytes_are}
use Rattle.sshcurve.proofs.DecodedLemmas.{read_point}
use Rattle.sshcurve.proofs.SignatureLemmas.{length_scalar, opposite_multiples, product_represents}

-- p + [k](-a) + [k]a is p, and so the other way round
module _ (k : ℕ) (p a : Affine) (hp : OnCurve p) (ha : OnCurve a) where
  abbrev ka : Affine
  ka = multiple k a

  abbrev minus_ka : Affine
  minus_ka = multiple k (opposite a)

  on_ka : OnCurve ka
  on_ka = multiple_on k a ha

  on_minus : OnCurve minus_ka
  on_minus = multiple_on k (opposite a) (opposite_on a ha)

  added_back : sum (sum p minus_ka) ka ≡ p
  added_back =
      sum_associates p minus_ka ka hp on_minus on_ka
      ∙ ap (sum p) (sum_commutes minus_ka ka on_minus on_ka ∙ opposite_multiples k a ha) ∙ sum_neutral_right p hp

  taken_off : sum (sum p ka) minus_ka ≡ p
  taken_off = sum_associates p ka minus_ka hp on_ka on_minus ∙ ap (sum p) (opposite_multiples k a ha) ∙ sum_neutral_right p hp

module _ (key input point answer : List ℕ) (long : length answer ≡ 32) where
  abbrev challenge : ℕ
  challenge = number_in (hash_of point key input) % order

  abbrev s : ℕ
  s = number_in answer

  -- what verification compares with R
  abbrev computed : Coordinates → Coordinates
  computed c = added (numbers.multiple answer base_numbers) (numbers.multiple (encode_scalar challenge) (numbers.opposite c))

  module _ (c : Coordinates) (a : Affine) (on : OnCurve a) (represents : Represents c a) where
    abbrev difference : Affine
    difference = sum (multiple s base) (multiple challenge (opposite a))

    on_difference : OnCurve difference
    on_difference = sum_on _ _ (multiple_on s base base_on) (multiple_on challenge (opposite a) (opposite_on a on))

    computed_is : bytes_of_point (computed c) ≡ encoded difference
    computed_is =
        let low : challenge < order = mod-lt (number_in (hash_of point key input)) (omega arith) in
        let on_minus = opposite_on a on in
        let first = product_represents answer base_numbers base long base_on base_represents in
        let second = by_point _ _ _ (ap (λ (m : ℕ). multiple m (opposite a)) (number_of_scalar challenge (omega (arith, low))))
        (product_represents (encode_scalar challenge) (numbers.opposite c) (opposite a) (length_scalar challenge) on_minus (opposite_represents c a on represents)) in
        bytes_are (computed c) difference on_difference
        (sum_represents _ _ (multiple s base) (multiple challenge (opposite a)) (multiple_on s base base_on) (multiple_on challenge (opposite a) on_minus) first second)

module _ (key input signature : List ℕ) (long : length signature ≡ 64) where
  abbrev point : List ℕ
  point = take 32 signature

  abbrev answer : List ℕ
  answer = drop 32 signature

  long_answer : length answer ≡ 32
  long_answer = omega (arith, long, length-drop 32 signature)

  -- by what the key decodes to
  accepted : (o : Option Coordinates) → point_in key ≡ o → is_right o key input point answer ≡ true → IsValid key input signature
  unfolding is_right
  accepted None k h = absurd (false≢true h)
  accepted (Some c) k h =
      let parts = and_parts (nat_lt (number_of_32 answer) order) _ h in
      let same = (bytes_eq-Decides (bytes_of_point (computed key input point answer long_answer c)) point).0 parts.1 in
      let read = read_point key c k in
      record {
        a = read.p;
        r = difference key input point answer long_answer c read.p read.on read.represents;
        key_is = record { on = read.on; coordinates = c; decoded = k; represents = read.represents };
        on = on_difference key input point answer long_answer c read.p read.on read.represents;
        r_is = sym same ∙ computed_is key input point answer long_answer c read.p read.on read.represents;
        low = ltb-true (number_of_32 answer) order parts.0;
        equation = sym (added_back (challenge key input point answer long_answer) (multiple (number_in answer) base) read.p (multiple_on (number_in answer) base base_on) read.on);
      }

-- What verification accepts is valid.
pub accepted_is_valid : (key input signature : List ℕ) → length signature ≡ 64 → is_signed key input signature ≡ true → IsValid key input signature
unfolding is_signed
accepted_is_valid key input signature long e = accepted key input signature long (point_in key) refl e

-- What is valid, verification accepts.
pub valid_is_accepted : (key input signature : List ℕ) → length signature ≡ 64 → IsValid key input signature → is_signed key input signature ≡ true
unfolding is_signed is_right
valid_is_accepted key input signature long v =
    let point : List ℕ = take 32 signature in
    let answer : List ℕ = drop 32 signature in
    let long_answer : length answer ≡ 32 = omega (arith, long, length-drop 32 signature) in
    let c : Coordinates = v.key_is.coordinates in
    let kk : ℕ = challenge key input point answer long_answer in
    let same : sum (multiple (number_in answer) base) (multiple kk (opposite v.a)) ≡ v.r =
    ap (λ (p : Affine). sum p (multiple kk (opposite v.a))) v.equation ∙ taken_off kk v.r v.a v.on v.key_is.on in
    let bytes : bytes_of_point (computed key input point answer long_answer c) ≡ point =
    computed_is key input point answer long_answer c v.a v.key_is.on v.key_is.represents ∙ ap encoded same ∙ sym v.r_is in
    ap (λ (o : Option Coordinates). is_right o key input point answer) v.key_is.decoded
    ∙ ap (λ (b : Bool). b && bytes_eq (bytes_of_point (computed key input point answer long_answer c)) point) (lt-ltb (number_of_32 answer) order v.low)
    ∙ (bytes_eq-Decides _ _).1 bytes
