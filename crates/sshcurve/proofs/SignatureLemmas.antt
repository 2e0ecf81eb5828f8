-- A signature of Ed25519 is valid for the public key of its private key (RFC 8032 sections 5.1.5 to 5.1.7).

use Rattle.std.proofs.Common.{◌≡◌, ℕ, zero, suc, ◌+◌, ◌*◌, ◌/◌, ◌%◌, ◌^◌, ◌<◌, Bool, true, ◌&&◌, List, [], ◌∷◌, ◌++◌, length, take, drop, refl, sym, ap, ap₂, ◌∙◌, arith, Some, lt-ltb, length-set, length-take-le, mod-lt, mul_comm, take_all, ◌≤◌}
use lib.Seq.{drop-append_seam, take-append-le}
use Rattle.std.proofs.lemmas.Slice.Eq.{bytes_eq-Decides}
use Rattle.std.specs.Int.{w64, bytes_low_first, from_le_bytes}
use Rattle.std.specs.Prelude.{nat_lt}
use Rattle.std.specs.Str.{bytes_eq}
use Rattle.sha2.specs.Sha512.{sha512}
use Rattle.sha2.proofs.Facts512.{length-sha512}
use Rattle.sshcurve.specs.Bits.{bytes_of_words, number_of_32, word_at}
use Rattle.sshcurve.specs.Scalar.{bytes_of_halves, encode_scalar, number_in, order}
use Rattle.sshcurve.specs.FieldBytes.{bytes_of_number}
use Rattle.sshcurve.specs.X25519Numbers.{clamped}
use Rattle.sshcurve.specs.Curve.{Affine, OnCurve, sum, neutral, opposite, multiple}
use Rattle.sshcurve.specs.EdwardsNumbers as numbers
use Rattle.sshcurve.specs.EdwardsNumbers.{Coordinates, added, base_numbers, bytes_of_point, with_sign}
use Rattle.sshcurve.specs.DecodingNumbers.{point_in}
use Rattle.sshcurve.specs.Ed25519Numbers.{hash_of, prefix_of, secret_scalar, is_right, is_signed, key_of, signed, times_base}
use Rattle.sshcurve.proofs.GroupLemmas.{neutral_on, opposite_on, sum_commutes, sum_neutral, sum_on, sum_opposite}
use Rattle.sshcurve.proofs.AssociativityLemmas.{sum_associates}
use Rattle.sshcurve.proofs.MultipleLemmas.{multiple_neutral, multiple_on, multiple_product, multiple_sum, sum_neutral_right}
use Rattle.sshcurve.specs.Represents.{Represents, base}
use Rattle.sshcurve.proofs.CoordinateLemmas.{base_on, base_represents, by_point, multiple_represents, number_of_256_bits, opposite_represents, sum_represents}
use Rattle.sshcurve.proofs.OrderLemmas.{multiple_modulo}
use Rattle.sshcurve.proofs.ScalarLemmas.{byte_is, number_of_scalar, split_byte}
use Rattle.sshcurve.proofs.DecodingLemmas.{bytes_are, found_point, found_represents, point_read}

-- the multiple of a sum is the sum of multiples
sum_exchanges : (a b c k : Affine) → OnCurve a → OnCurve b → OnCurve c → OnCurve k → sum (sum a b) (sum c k) ≡ sum (sum a c) (sum b k)
sum_exchanges a b c k ha hb hc hk =
    sum_associates a b (sum c k) ha hb (sum_on c k hc hk)
    ∙ ap (sum a) (sym (sum_associates b c k hb hc hk) ∙ ap (λ (p : Affine). sum p k) (sum_commutes b c hb hc) ∙ sum_associates c b k hc hb hk)
    ∙ sym (sum_associates a c (sum b k) ha hc (sum_on b k hb hk))

pub multiple_of_sum : (n : ℕ) (p q : Affine) → OnCurve p → OnCurve q → multiple n (sum p q) ≡ sum (multiple n p) (multiple n q)
unfolding multiple
multiple_of_sum zero p q hp hq = sym (sum_neutral neutral neutral_on)
multiple_of_sum (suc n) p q hp hq =
    ap (λ (k : Affine). sum k (sum p q)) (multiple_of_sum n p q hp hq) ∙ sum_exchanges (multiple n p) (multiple n q) p q (multiple_on n p hp) (multiple_on n q hq) hp hq

pub opposite_multiples : (n : ℕ) (p : Affine) → OnCurve p → sum (multiple n p) (multiple n (opposite p)) ≡ neutral
opposite_multiples n p hp =
    let hn = opposite_on p hp in
    sym (multiple_of_sum n p (opposite p) hp hn) ∙ ap (multiple n) (sum_commutes p (opposite p) hp hn ∙ sum_opposite p hp) ∙ multiple_neutral n

-- [S]B - [k]A is R, where S is r + k times the secret number, modulo the order
verified_sum : (secret k r : ℕ) → sum (multiple ((secret * k + r) % order) base) (multiple k (opposite (multiple secret base))) ≡ multiple r base
verified_sum secret k r =
    let a : Affine = multiple secret base in
    let ha = multiple_on secret base base_on in
    let ka : Affine = multiple k a in
    let hka = multiple_on k a ha in
    let kn : Affine = multiple k (opposite a) in
    let hkn = multiple_on k (opposite a) (opposite_on a ha) in
    let rb : Affine = multiple r base in
    let hr = multiple_on r base base_on in
    let first : multiple ((secret * k + r) % order) base ≡ sum rb ka =
    sym (multiple_modulo (secret * k + r)) ∙ multiple_sum (secret * k) r base base_on
    ∙ ap (λ (p : Affine). sum p rb) (ap (λ (n : ℕ). multiple n base) (mul_comm secret k) ∙ multiple_product k secret base base_on) ∙ sum_commutes ka rb hka hr in
    ap (λ (p : Affine). sum p kn) first ∙ sum_associates rb ka kn hr hka hkn ∙ ap (sum rb) (opposite_multiples k a ha) ∙ sum_neutral_right rb hr

-- Bytes of scalars.
word_value : (i n : ℕ) → from_le_bytes w64 (bytes_low_first i 8 n) ≡ n / 256 ^ i % 2 ^ 64
word_value i n =
    let j : ℕ = suc i in
    let s0 = split_byte n i (256 ^ 7) (omega arith) in
    let s1 = split_byte n (suc i) (256 ^ 6) (omega arith) in
    let s2 = split_byte n (suc (suc i)) (256 ^ 5) (omega arith) in
    let s3 = split_byte n (suc (suc (suc i))) (256 ^ 4) (omega arith) in
    let s4 = split_byte n (suc (suc (suc (suc i)))) (256 ^ 3) (omega arith) in
    let s5 = split_byte n (suc (suc (suc (suc (suc i))))) (256 ^ 2) (omega arith) in
    let s6 = split_byte n (suc (suc (suc (suc (suc (suc i)))))) 256 (omega arith) in
    ap (λ (b : ℕ). from_le_bytes w64 (b ∷ bytes_low_first (suc i) 7 n)) (byte_is i n) ∙ omega (arith, s0, s1, s2, s3, s4, s5, s6)

number_of_32_scalar : (n : ℕ) → n < 2 ^ 256 → number_of_32 (encode_scalar n) ≡ n
unfolding number_of_32 word_at encode_scalar bytes_of_halves
number_of_32_scalar n h =
    let low : ℕ = n % 2 ^ 128 in
    let high : ℕ = n / 2 ^ 128 in
    let w0 = word_value 0 low in
    let w1 = word_value 8 low in
    let w2 = word_value 0 high in
    let w3 = word_value 8 high in
    ap₂ (λ (a b : ℕ). a + 2 ^ 64 * b + 2 ^ 128 * from_le_bytes w64 (bytes_low_first 0 8 high) + 2 ^ 192 * from_le_bytes w64 (bytes_low_first 8 8 high)) w0 w1
    ∙ ap₂ (λ (a b : ℕ). low / 256 ^ 0 % 2 ^ 64 + 2 ^ 64 * (low / 256 ^ 8 % 2 ^ 64) + 2 ^ 128 * a + 2 ^ 192 * b) w2 w3 ∙ omega arith

pub length_scalar : (n : ℕ) → length (encode_scalar n) ≡ 32
unfolding encode_scalar bytes_of_halves
length_scalar n = refl

pub length_sign : (x y : ℕ) → length (with_sign (bytes_of_number x) (bytes_of_number y)) ≡ 32
unfolding with_sign bytes_of_number bytes_of_words
length_sign x y = refl

pub length_clamped : (bytes : List ℕ) → length bytes ≡ 32 → length (clamped bytes) ≡ 32
unfolding clamped
length_clamped bytes long = length-set _ 31 _ ∙ length-set bytes 0 _ ∙ long

length_taken : (n : ℕ) (xs : List ℕ) → n ≤ length xs → length (take n xs) ≡ n
length_taken n xs h = length-take-le n xs h

pub length_secret : (private_key : List ℕ) → length (secret_scalar private_key) ≡ 32
unfolding secret_scalar
length_secret private_key =
    let long = length-sha512 private_key in
    length_clamped (take 32 (sha512 private_key)) (length_taken 32 (sha512 private_key) (omega (arith, long)))

-- both parts of a signature
take_front : (n : ℕ) (xs ys : List ℕ) → length xs ≡ n → take n (xs ++ ys) ≡ xs
take_front n xs ys e = take-append-le n xs ys (omega (arith, e)) ∙ take_all n xs (omega (arith, e))

drop_front : (n : ℕ) (xs ys : List ℕ) → length xs ≡ n → drop n (xs ++ ys) ≡ ys
drop_front n xs ys e = ap (λ (k : ℕ). drop k (xs ++ ys)) (sym e) ∙ drop-append_seam xs ys

-- a multiple by the number of 32 bytes
pub product_represents : (bytes : List ℕ) (c : Coordinates) (p : Affine) → length bytes ≡ 32 → OnCurve p → Represents c p → Represents (numbers.multiple bytes c) (multiple (number_in bytes) p)
unfolding numbers.multiple
product_represents bytes c p long hp hc = by_point _ _ _ (ap (λ (m : ℕ). multiple m p) (number_of_256_bits bytes long)) (multiple_represents bytes c p hp hc 256)

-- the encoding of a base point's multiple
pub times_base_is : (bytes : List ℕ) → length bytes ≡ 32 → times_base bytes ≡ with_sign (bytes_of_number (multiple (number_in bytes) base).x) (bytes_of_number (multiple (number_in bytes) base).y)
unfolding times_base
times_base_is bytes long = bytes_are (numbers.multiple bytes base_numbers) (multiple (number_in bytes) base) (multiple_on (number_in bytes) base base_on) (product_represents bytes base_numbers base long base_on base_represents)

pub length_times_base : (bytes : List ℕ) → length bytes ≡ 32 → length (times_base bytes) ≡ 32
length_times_base bytes long = ap length (times_base_is bytes long) ∙ length_sign _ _

module _ (secret : List ℕ) (long : length secret ≡ 32) (k r : ℕ) (k_low : k < order) (r_low : r < order) where
  abbrev n : ℕ
  n = number_in secret

  abbrev s : ℕ
  s = (n * k + r) % order

  abbrev key_point : Affine
  key_point = multiple n base

  on_key : OnCurve key_point
  on_key = multiple_on n base base_on

  s_low : s < order
  s_low = mod-lt (n * k + r) (omega arith)

  -- what verification computes
  abbrev computed : Coordinates
  computed = added (numbers.multiple (encode_scalar s) base_numbers) (numbers.multiple (encode_scalar k) (numbers.opposite (found_point key_point.x key_point.y)))

  computed_represents : Represents computed (multiple r base)
  computed_represents =
      let minus_key = opposite_represents _ key_point on_key (found_represents key_point on_key) in
      let on_minus = opposite_on key_point on_key in
      let first = by_point _ _ _ (ap (λ (m : ℕ). multiple m base) (number_of_scalar s (omega (arith, s_low)))) (product_represents (encode_scalar s) base_numbers base (length_scalar s) base_on base_represents) in
      let second = by_point _ _ _ (ap (λ (m : ℕ). multiple m (opposite key_point)) (number_of_scalar k (omega (arith, k_low)))) (product_represents (encode_scalar k) _ (opposite key_point) (length_scalar k) on_minus minus_key) in
      by_point _ _ _ (verified_sum n k r) (sum_represents _ _ (multiple s base) (multiple k (opposite key_point)) (multiple_on s base base_on) (multiple_on k (opposite key_point) on_minus) first second)

  point_is : bytes_of_point computed ≡ times_base (encode_scalar r)
  point_is =
      bytes_are _ (multiple r base) (multiple_on r base base_on) computed_represents
      ∙ ap (λ (m : ℕ). with_sign (bytes_of_number (multiple m base).x) (bytes_of_number (multiple m base).y)) (sym (number_of_scalar r (omega (arith, r_low))))
      ∙ sym (times_base_is (encode_scalar r) (length_scalar r))

  key_read : point_in (times_base secret) ≡ Some (found_point key_point.x key_point.y)
  key_read = ap point_in (times_base_is secret long) ∙ point_read key_point on_key

  -- the signature is right, where k is the challenge
  pub signature_is_right : (input : List ℕ) → number_in (hash_of (times_base (encode_scalar r)) (times_base secret) input) % order ≡ k
      → is_right (point_in (times_base secret)) (times_base secret) input (times_base (encode_scalar r)) (encode_scalar s) ≡ true
  unfolding is_right
  signature_is_right input e =
      ap (λ o. is_right o (times_base secret) input (times_base (encode_scalar r)) (encode_scalar s)) key_read
      ∙ ap (λ (m : ℕ). nat_lt (number_of_32 (encode_scalar s)) order && bytes_eq (bytes_of_point (added (numbers.multiple (encode_scalar s) base_numbers) (numbers.multiple (encode_scalar m) (numbers.opposite (found_point key_point.x key_point.y))))) (times_base (encode_scalar r))) e
      ∙ ap (λ (m : ℕ). nat_lt m order && bytes_eq (bytes_of_point computed) (times_base (encode_scalar r))) (number_of_32_scalar s (omega (arith, s_low)))
      ∙ ap (λ (b : Bool). b && bytes_eq (bytes_of_point computed) (times_base (encode_scalar r))) (lt-ltb s order s_low)
      ∙ (bytes_eq-Decides _ _).1 point_is

-- A signature is valid for the public key of its private key.
pub signature_verifies : (private_key input : List ℕ) → is_signed (key_of private_key) input (signed private_key input) ≡ true
unfolding is_signed signed key_of
signature_verifies private_key input =
    let secret : List ℕ = secret_scalar private_key in
    let r : ℕ = number_in (hash_of (prefix_of private_key) input []) % order in
    let point : List ℕ = times_base (encode_scalar r) in
    let key : List ℕ = times_base secret in
    let k : ℕ = number_in (hash_of point key input) % order in
    let s : List ℕ = encode_scalar ((number_in secret * k + r) % order) in
    let long = length_times_base (encode_scalar r) (length_scalar r) in
    ap₂ (λ (a b : List ℕ). is_right (point_in key) key input a b) (take_front 32 point s long) (drop_front 32 point s long)
    ∙ signature_is_right secret (length_secret private_key) k r (mod-lt _ (omega arith)) (mod-lt _ (omega arith)) input refl
