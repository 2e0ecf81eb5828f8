-- The code reads points of numbers.

use Rattle.std.proofs.Common.{◌≡◌, ℕ, ◌+◌, ◌*◌, ◌/◌, ◌%◌, ◌^◌, ◌<◌, Bool, true, false, List, refl, sym, ap, ap₂, ◌∙◌, arith, cond, eqb, ltb}
use Rattle.std.proofs.lemmas.Bool.{eq-eqb, eqb-true, ltb-true}
use Rattle.std.proofs.lemmas.Nat.{from_le_bytes-to_le_bytes_8}
use Rattle.std.proofs.lemmas.Slice.Eq.{bytes_eq-Decides}
use Rattle.std.specs.Int.{w64, from_le_bytes, to_le_bytes}
use Rattle.std.specs.Prelude.{◌&&◌, Option, None, Some, replicate, slice_index}
use Rattle.std.specs.Str.{bytes_eq}
use Rattle.sshcurve.specs.Bits.{bytes_of_words, number_of_32, word_at}
use Rattle.sshsuite.specs.Edwards25519.{d, decode_point, is_canonical, point_from, point_with, root, root_by, square_root_of_ratio}
use Rattle.sshsuite.specs.FieldElement.{decode, encode, mul, none, squared, sub}
use Rattle.sshsuite.specs.declared.edwards25519.Point.{Point}
use Rattle.sshsuite.proofs.WordLemmas.{AreWords}
use Rattle.sshsuite.proofs.FieldNumberLemmas.{add_number, decode_number, encode_number, mul_number, none_number, one_number, root_power_number, square_number, sub_number}
use Rattle.sshsuite.specs.PointNumbers.{AreAlike}
use Rattle.sshcurve.specs.DecodingNumbers.{point_in, root_number, root_of, root_of_quotient, with_root, with_x}
use Rattle.sshcurve.specs.EdwardsNumbers.{Coordinates, d_number}
use Rattle.sshcurve.specs.FieldBytes.{bytes_of_number}
use Rattle.sshsuite.specs.FieldValues.{HasNumber, value}
use Rattle.sshcurve.specs.FieldNumbers.{minus, times, field}
use Rattle.sshsuite.proofs.TestLemmas.{by_both}

-- Bytes of numbers are as the numbers.
number_back : (n : ℕ) → n < 2 ^ 256 → number_of_32 (bytes_of_number n) ≡ n
unfolding number_of_32 word_at bytes_of_number bytes_of_words
number_back n h =
    let e0 : from_le_bytes w64 (to_le_bytes w64 (n % 2 ^ 64)) ≡ n % 2 ^ 64 = from_le_bytes-to_le_bytes_8 (n % 2 ^ 64) (omega arith) in
    let e1 : from_le_bytes w64 (to_le_bytes w64 (n / 2 ^ 64 % 2 ^ 64)) ≡ n / 2 ^ 64 % 2 ^ 64 = from_le_bytes-to_le_bytes_8 (n / 2 ^ 64 % 2 ^ 64) (omega arith) in
    let e2 : from_le_bytes w64 (to_le_bytes w64 (n / 2 ^ 128 % 2 ^ 64)) ≡ n / 2 ^ 128 % 2 ^ 64 = from_le_bytes-to_le_bytes_8 (n / 2 ^ 128 % 2 ^ 64) (omega arith) in
    let e3 : from_le_bytes w64 (to_le_bytes w64 (n / 2 ^ 192)) ≡ n / 2 ^ 192 = from_le_bytes-to_le_bytes_8 (n / 2 ^ 192) (omega arith) in
    ap₂ ◌+◌ (ap₂ ◌+◌ (ap₂ ◌+◌ e0 (ap (λ (k : ℕ). 2 ^ 64 * k) e1)) (ap (λ (k : ℕ). 2 ^ 128 * k) e2)) (ap (λ (k : ℕ). 2 ^ 192 * k) e3)
    ∙ together n
  where
    together : (n : ℕ) → n % 2 ^ 64 + 2 ^ 64 * (n / 2 ^ 64 % 2 ^ 64) + 2 ^ 128 * (n / 2 ^ 128 % 2 ^ 64) + 2 ^ 192 * (n / 2 ^ 192) ≡ n
    together n = omega arith

pub same_number : (m n : ℕ) → m < 2 ^ 256 → n < 2 ^ 256 → bytes_eq (bytes_of_number m) (bytes_of_number n) ≡ eqb m n
same_number m n h k =
    by_both (bytes_eq (bytes_of_number m) (bytes_of_number n)) (eqb m n)
    (λ e. let is : bytes_of_number m ≡ bytes_of_number n = (bytes_eq-Decides (bytes_of_number m) (bytes_of_number n)).0 e in
    eq-eqb m n (sym (number_back m h) ∙ (ap number_of_32 is ∙ number_back n k)))
    (λ e. (bytes_eq-Decides (bytes_of_number m) (bytes_of_number n)).1 (ap bytes_of_number (eqb-true m n e)))

number_low : (a : List ℕ) (n : ℕ) → HasNumber a n → n < 2 ^ 256
number_low a n h = small (value a) n h.number
  where
    small : (v n : ℕ) → v % field ≡ n → n < 2 ^ 256
    small v n e = omega arith

same_element : (a b : List ℕ) (m n : ℕ) → HasNumber a m → HasNumber b n → bytes_eq (encode a) (encode b) ≡ eqb m n
same_element a b m n h k = ap₂ bytes_eq (encode_number a m h) (encode_number b n k) ∙ same_number m n (number_low a m h) (number_low b n k)

pub zeros : replicate 32 0 ≡ bytes_of_number 0
unfolding bytes_of_number bytes_of_words
zeros = refl

zero_element : (a : List ℕ) (n : ℕ) → HasNumber a n → bytes_eq (encode a) (replicate 32 0) ≡ eqb n 0
zero_element a n h =
    ap₂ bytes_eq (encode_number a n h) zeros ∙ same_number n 0 (number_low a n h) (omega arith)

lowest_bit : (n : ℕ) → slice_index (bytes_of_number n) 0 % 2 ≡ n % 2
unfolding bytes_of_number bytes_of_words
lowest_bit n = omega arith

odd_element : (a : List ℕ) (n : ℕ) → HasNumber a n → slice_index (encode a) 0 % 2 ≡ n % 2
odd_element a n h = ap (λ (xs : List ℕ). slice_index xs 0 % 2) (encode_number a n h) ∙ lowest_bit n

-- Choices are alike where their tests are.
number_choice : (b c : Bool) (a e : List ℕ) (m n : ℕ) → b ≡ c → HasNumber a m → HasNumber e n → HasNumber (cond b a e) (cond c m n)
number_choice true true a e m n is h k = h
number_choice false false a e m n is h k = k
number_choice true false a e m n is h k = cc
number_choice false true a e m n is h k = cc

abbrev AreRoots : Option (List ℕ) → Option ℕ → Type 0
AreRoots None None = Unit {0}
AreRoots (Some a) (Some n) = HasNumber a n
AreRoots None (Some n) = ⊥
AreRoots (Some a) None = ⊥

root_choice : (b c : Bool) (o p : Option (List ℕ)) (r s : Option ℕ) → b ≡ c → AreRoots o r → AreRoots p s → AreRoots (cond b o p) (cond c r s)
root_choice true true o p r s is h k = h
root_choice false false o p r s is h k = k
root_choice true false o p r s is h k = cc
root_choice false true o p r s is h k = cc

point_choice : (b c : Bool) (o : Option Point) (r : Option Coordinates) → b ≡ c → AreAlike o r → AreAlike (cond b None o) (cond c None r)
point_choice true true o r is h = tt
point_choice false false o r is h = h
point_choice true false o r is h = cc
point_choice false true o r is h = cc

point_if : (b : Bool) (o : Option Point) (r : Option Coordinates) → (b ≡ true → AreAlike o r) → AreAlike (cond b o None) (cond b r None)
point_if true o r f = f refl
point_if false o r f = tt

root_is : HasNumber root root_number
root_is = record { below = record { l0 = omega arith; l1 = omega arith; l2 = omega arith; l3 = omega arith; l4 = omega arith }; number = refl }

d_is : HasNumber d d_number
d_is = record { below = record { l0 = omega arith; l1 = omega arith; l2 = omega arith; l3 = omega arith; l4 = omega arith }; number = refl }

root_by_is : (u v x : List ℕ) (m n k : ℕ) → HasNumber u m → HasNumber v n → HasNumber x k → AreRoots (root_by u v x) (root_of m n k)
unfolding root_by root_of
root_by_is u v x m n k hu hv hx =
    let found = mul_number v (squared x) n (times k k) hv (square_number x k hx) in
    root_choice (bytes_eq (encode (mul v (squared x))) (encode u)) (eqb (times n (times k k)) m)
    (Some x) (cond (bytes_eq (encode (mul v (squared x))) (encode (sub none u))) (Some (mul x root)) None)
    (Some k) (cond (eqb (times n (times k k)) (minus 0 m)) (Some (times k root_number)) None)
    (same_element (mul v (squared x)) u (times n (times k k)) m found hu) hx
    (root_choice (bytes_eq (encode (mul v (squared x))) (encode (sub none u))) (eqb (times n (times k k)) (minus 0 m))
    (Some (mul x root)) None (Some (times k root_number)) None
    (same_element (mul v (squared x)) (sub none u) (times n (times k k)) (minus 0 m) found (sub_number none u 0 m none_number hu))
    (mul_number x root k root_number hx root_is) tt)

quotient_is : (u v : List ℕ) (m n : ℕ) → HasNumber u m → HasNumber v n → AreRoots (square_root_of_ratio u v) (root_of_quotient m n)
unfolding square_root_of_ratio root_of_quotient
quotient_is u v m n hu hv =
    let cube = mul_number _ _ _ _ (square_number v n hv) hv in
    let seventh = mul_number _ _ _ _ (square_number _ _ cube) hv in
    root_by_is u v _ m n _ hu hv (mul_number _ _ _ _ (mul_number _ _ _ _ hu cube) (root_power_number _ _ (mul_number _ _ _ _ hu seventh)))

with_x_is : (x y : List ℕ) (m n odd : ℕ) → HasNumber x m → HasNumber y n → AreAlike (point_with x y odd) (with_x m n odd)
unfolding point_with with_x
with_x_is x y m n odd hx hy =
    let own : HasNumber (cond (eqb (slice_index (encode x) 0 % 2) odd) x (sub none x)) (cond (eqb (m % 2) odd) m (minus 0 m))
    = number_choice (eqb (slice_index (encode x) 0 % 2) odd) (eqb (m % 2) odd) x (sub none x) m (minus 0 m)
    (ap (λ (b : ℕ). eqb b odd) (odd_element x m hx)) hx (sub_number none x 0 m none_number hx) in
    point_choice (eqb odd 1 && bytes_eq (encode x) (replicate 32 0)) (eqb odd 1 && eqb m 0) (Some _) (Some _)
    (ap (λ (b : Bool). eqb odd 1 && b) (zero_element x m hx))
    (record { x = own; y = hy; z = one_number; t = mul_number _ _ _ _ own hy })

with_root_is : (o : Option (List ℕ)) (r : Option ℕ) (y : List ℕ) (n odd : ℕ) → AreRoots o r → HasNumber y n → AreAlike (point_from o y odd) (with_root r n odd)
unfolding point_from with_root
with_root_is None None y n odd h k = tt
with_root_is (Some x) (Some m) y n odd h k = with_x_is x y m n odd h k
with_root_is None (Some m) y n odd h k = absurd h
with_root_is (Some x) None y n odd h k = absurd h

pub point_in_is : (bytes : List ℕ) → AreWords bytes → AreAlike (decode_point bytes) (point_in bytes)
unfolding decode_point point_in is_canonical
point_in_is bytes are =
    let n : ℕ = number_of_32 bytes % 2 ^ 255 in
    point_if (ltb n field) _ _ (λ e.
    let y : HasNumber (decode bytes) n = least (decode bytes) n (ltb-true n field e) (decode_number bytes are) in
    let yy = square_number (decode bytes) n y in
    with_root_is _ _ (decode bytes) n (slice_index bytes 31 / 128)
    (quotient_is _ _ _ _ (sub_number _ _ _ _ yy one_number) (add_number _ _ _ _ (mul_number _ _ _ _ d_is yy) one_number)) y)
  where
    least : (a : List ℕ) (n : ℕ) → n < field → HasNumber a (n % field) → HasNumber a n
    least a n low h = let is : n % field ≡ n = omega arith in record { below = h.below; number = h.number ∙ is }
