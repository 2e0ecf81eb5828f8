-- The modulus check of an encapsulation key: encoding what was decoded gives the same bytes.

use Rattle.std.proofs.Common.{◌≡◌, ℕ, zero, suc, ◌+◌, ◌*◌, ◌/◌, ◌%◌, ◌-◌, ◌<◌, inl, inr, true, List, ◌++◌, length, take, drop, refl, sym, ap, ap₂, ◌∙◌, arith, eqb, map, append_assoc, subst}
use Rattle.std.proofs.Math.Logic.{◌↔◌}
use Rattle.std.proofs.Math.Nat.{mod-eq_of_lt}
use Rattle.std.proofs.lemmas.Bool.{and_from, and_parts, cases_Bool, cases_lt, eqb-false, eqb-true, eq-eqb, lt-ltb, ltb-true}
use Rattle.std.proofs.lemmas.List.{drop_at, get_or-drop, get_or-take, get_or_past, length-drop, length-map, length-take, take-append-drop, take_at}
use Rattle.std.specs.Prelude.{slice_index}
use Rattle.sshkeccak.specs.Repeated.{repeated}
use Rattle.sshmlkem.proofs.BitLemmas.{each_at}
use Rattle.sshmlkem.proofs.CodingLemmas.{AreShort, decode_12_is, encode_12_is, first_12_is, second_12_is}
use Rattle.sshmlkem.proofs.EncodingLemmas.{decoded_encoded, encoded_decoded, map_unchanged, reduced_low, regrouped_long}
use Rattle.sshmlkem.specs.Bits.{byte_decode, byte_encode, number_at, regrouped}
use Rattle.sshmlkem.specs.Codec.{are_reduced, decode_12, encode_12, first_12, is_reduced_too, second_12}
use Rattle.sshmlkem.specs.Kem.{is_key}
use Rattle.sshmlkem.specs.KemBytes.{IsBytes, encoded_12}
use Rattle.sshmlkem.specs.Pke.{decode_vector, encode_vector}

-- both numbers of three bytes are below q
record AreLow (bytes : List ℕ) (i : ℕ) : Type 0 where
  pub first : first_12 (slice_index bytes (3 * i)) (slice_index bytes (3 * i + 1)) < 3329
  pub second : second_12 (slice_index bytes (3 * i + 1)) (slice_index bytes (3 * i + 2)) < 3329

abbrev AllLow : List ℕ → ℕ → Type 0
AllLow bytes n = (i : ℕ) → i < n → AreLow bytes i

below : (i n : ℕ) → i < suc n → (i ≡ n → ⊥) → i < n
below i n h off = omega arith

low_of_check : (bytes : List ℕ) (n : ℕ) → repeated (is_reduced_too bytes) true n ≡ true → AllLow bytes n
unfolding repeated is_reduced_too
low_of_check bytes zero e i h = absurd (omega (arith, h))
low_of_check bytes (suc n) e i h =
    let parts = and_parts (repeated (is_reduced_too bytes) true n) _ e in
    let own = and_parts _ _ parts.1 in
    elim (cases_Bool (eqb i n)) [
      | inl d ↦ let is : i ≡ n = eqb-true i n d in rw is (record { first = ltb-true _ 3329 own.0; second = ltb-true _ 3329 own.1 })
      | inr d ↦ low_of_check bytes n parts.0 i (below i n h (eqb-false i n d))
    ]

check_of_low : (bytes : List ℕ) (n : ℕ) → AllLow bytes n → repeated (is_reduced_too bytes) true n ≡ true
unfolding repeated is_reduced_too
check_of_low bytes zero low = refl
check_of_low bytes (suc n) low =
    let own = low n (omega arith) in
    and_from (repeated (is_reduced_too bytes) true n) _ (check_of_low bytes n (λ i h. low i (omega (arith, h))))
    (and_from _ _ (lt-ltb _ 3329 own.first) (lt-ltb _ 3329 own.second))

-- one polynomial's bytes
number_low : (p : List ℕ) → IsBytes p → AllLow p 128 → (k : ℕ) → k < 256 → number_at 8 p (12 * k) 12 < 3329
number_low p are low k h =
    let own = low (k / 2) (omega (arith, h)) in
    elim (cases_Bool (eqb (k % 2) 0)) [
      | inl e ↦
          let even : k % 2 ≡ 0 = eqb-true (k % 2) 0 e in
          let is = first_12_is p are (k / 2) (12 * k) (omega (arith, even)) in
          let first = own.first in
          omega (arith, is, first)
      | inr e ↦
          let odd : k % 2 ≡ 1 = odd_of (k % 2) (omega arith) (eqb-false (k % 2) 0 e) in
          let is = second_12_is p are (k / 2) (12 * k) (omega (arith, odd)) in
          let second = own.second in
          omega (arith, is, second)
    ]
  where
    odd_of : (n : ℕ) → n < 2 → (n ≡ 0 → ⊥) → n ≡ 1
    odd_of n h off = omega arith

decoded_at : (p : List ℕ) (k : ℕ) → k < 256 → slice_index (byte_decode 12 p) k ≡ number_at 8 p (12 * k) 12
unfolding byte_decode regrouped
decoded_at p k h = each_at 256 (λ (k : ℕ). number_at 8 p (12 * k) 12) k h

decoded_long : (p : List ℕ) → length (byte_decode 12 p) ≡ 256
unfolding byte_decode
decoded_long p = regrouped_long 8 12 256 p

decode_long : (p : List ℕ) → IsBytes p → length (decode_12 p) ≡ 256
decode_long p are = ap length (decode_12_is p are) ∙ (length_map ∙ decoded_long p)
  where
    length_map : length (map (λ (n : ℕ). n % 3329) (byte_decode 12 p)) ≡ length (byte_decode 12 p)
    length_map = length-map (byte_decode 12 p) (λ (n : ℕ). n % 3329)

short_of : (p : List ℕ) → IsBytes p → AreShort (decode_12 p)
short_of p are i =
    let is : slice_index (decode_12 p) i ≡ slice_index (map (λ (n : ℕ). n % 3329) (byte_decode 12 p)) i = ap (λ (f : List ℕ). slice_index f i) (decode_12_is p are) in
    let low = reduced_low (byte_decode 12 p) i in
    omega (arith, is, low)

low_at : (p : List ℕ) → IsBytes p → (i : ℕ) → slice_index (decode_12 p) i < 3329
low_at p are i =
    let is : slice_index (decode_12 p) i ≡ slice_index (map (λ (n : ℕ). n % 3329) (byte_decode 12 p)) i = ap (λ (f : List ℕ). slice_index f i) (decode_12_is p are) in
    let low = reduced_low (byte_decode 12 p) i in
    omega (arith, is, low)

same_of_low : (p : List ℕ) → IsBytes p → length p ≡ 384 → AllLow p 128 → encode_12 (decode_12 p) ≡ p
same_of_low p are long low =
    let unchanged = map_unchanged (λ (n : ℕ). n % 3329) (byte_decode 12 p) (λ i less.
    let in' : i < 256 = let size = decoded_long p in omega (arith, less, size) in
    let is = decoded_at p i in' in
    let small = number_low p are low i in' in
    mod-eq_of_lt (omega (arith, is, small))) in
    encode_12_is (decode_12 p) (short_of p are) ∙ (ap (byte_encode 12) (decode_12_is p are ∙ unchanged) ∙ encoded_decoded 12 p (omega arith) long are)

low_of_same : (p : List ℕ) → IsBytes p → encode_12 (decode_12 p) ≡ p → AllLow p 128
low_of_same p are same i h =
    let f : List ℕ = decode_12 p in
    let spelled : byte_encode 12 f ≡ p = sym (encode_12_is f (short_of p are)) ∙ same in
    let back : byte_decode 12 p ≡ f = ap (byte_decode 12) (sym spelled) ∙ decoded_encoded 12 f (omega arith) (decode_long p are) (short_of p are) in
    let first = first_12_is p are i (12 * (2 * i)) (omega arith) ∙ (sym (decoded_at p (2 * i) (omega (arith, h))) ∙ ap (λ (g : List ℕ). slice_index g (2 * i)) back) in
    let second = second_12_is p are i (12 * (2 * i + 1)) (omega arith) ∙ (sym (decoded_at p (2 * i + 1) (omega (arith, h))) ∙ ap (λ (g : List ℕ). slice_index g (2 * i + 1)) back) in
    let low_first = low_at p are (2 * i) in
    let low_second = low_at p are (2 * i + 1) in
    record { first = omega (arith, first, low_first); second = omega (arith, second, low_second) }

-- a part of bytes
record IsPart (bytes : List ℕ) (from : ℕ) (p : List ℕ) : Type 0 where
  pub long : length p ≡ 384
  pub at : (k : ℕ) → k < 384 → slice_index p k ≡ slice_index bytes (from + k)
  pub are : IsBytes p

part_low : (bytes p : List ℕ) (from third : ℕ) → from ≡ 3 * third → IsPart bytes from p → ((i : ℕ) → i < 128 → AreLow bytes (third + i)) → AllLow p 128
part_low bytes p from third e is low i h =
    let own = low i h in
    let a : slice_index p (3 * i) ≡ slice_index bytes (3 * (third + i)) = is.at (3 * i) (omega (arith, h)) ∙ ap (slice_index bytes) (omega (arith, e)) in
    let b : slice_index p (3 * i + 1) ≡ slice_index bytes (3 * (third + i) + 1) = is.at (3 * i + 1) (omega (arith, h)) ∙ ap (slice_index bytes) (omega (arith, e)) in
    let c : slice_index p (3 * i + 2) ≡ slice_index bytes (3 * (third + i) + 2) = is.at (3 * i + 2) (omega (arith, h)) ∙ ap (slice_index bytes) (omega (arith, e)) in
    record { first = rw (a, b) own.first; second = rw (b, c) own.second }

low_part : (bytes p : List ℕ) (from third : ℕ) → from ≡ 3 * third → IsPart bytes from p → AllLow p 128 → (i : ℕ) → i < 128 → AreLow bytes (third + i)
low_part bytes p from third e is low i h =
    let own = low i h in
    let a : slice_index bytes (3 * (third + i)) ≡ slice_index p (3 * i) = sym (is.at (3 * i) (omega (arith, h)) ∙ ap (slice_index bytes) (omega (arith, e))) in
    let b : slice_index bytes (3 * (third + i) + 1) ≡ slice_index p (3 * i + 1) = sym (is.at (3 * i + 1) (omega (arith, h)) ∙ ap (slice_index bytes) (omega (arith, e))) in
    let c : slice_index bytes (3 * (third + i) + 2) ≡ slice_index p (3 * i + 2) = sym (is.at (3 * i + 2) (omega (arith, h)) ∙ ap (slice_index bytes) (omega (arith, e))) in
    record { first = rw (a, b) own.first; second = rw (b, c) own.second }

bytes_of_taken : (n : ℕ) (xs : List ℕ) → IsBytes xs → IsBytes (take n xs)
bytes_of_taken n xs are i =
    elim (cases_lt i n) [
      | inl h ↦ let is = get_or-take n xs i 0 h in let low = are i in omega (arith, is, low)
      | inr h ↦
          let long = length-take n xs in
          let none : slice_index (take n xs) i ≡ 0 = get_or_past (take n xs) i 0 (omega (arith, long, h)) in
          omega (arith, none)
    ]

bytes_of_dropped : (n : ℕ) (xs : List ℕ) → IsBytes xs → IsBytes (drop n xs)
bytes_of_dropped n xs are i = let is = get_or-drop n xs i 0 in let low = are (n + i) in omega (arith, is, low)

module _ (bytes : List ℕ) (are : IsBytes bytes) (long : length bytes ≡ 1152) where
  first : List ℕ
  first = take 384 bytes

  second : List ℕ
  second = take 384 (drop 384 bytes)

  third : List ℕ
  third = drop 384 (drop 384 bytes)

  first_is : IsPart bytes 0 first
  unfolding first
  first_is = record {
    long = let cut = length-take 384 bytes in omega (arith, cut, long);
    at = λ k h. get_or-take 384 bytes k 0 h ∙ ap (slice_index bytes) (omega arith);
    are = bytes_of_taken 384 bytes are;
  }

  second_is : IsPart bytes 384 second
  unfolding second
  second_is = record {
    long = let cut = length-take 384 (drop 384 bytes) in let rest = length-drop 384 bytes in omega (arith, cut, rest, long);
    at = λ k h. get_or-take 384 (drop 384 bytes) k 0 h ∙ get_or-drop 384 bytes k 0;
    are = bytes_of_taken 384 (drop 384 bytes) (bytes_of_dropped 384 bytes are);
  }

  third_is : IsPart bytes 768 third
  unfolding third
  third_is = record {
    long = let cut = length-drop 384 (drop 384 bytes) in let rest = length-drop 384 bytes in omega (arith, cut, rest, long);
    at = λ k h. get_or-drop 384 (drop 384 bytes) k 0 ∙ (get_or-drop 384 bytes (384 + k) 0 ∙ ap (slice_index bytes) (omega arith));
    are = bytes_of_dropped 384 (drop 384 bytes) (bytes_of_dropped 384 bytes are);
  }

  whole : (first ++ second) ++ third ≡ bytes
  unfolding first second third
  whole = append_assoc (take 384 bytes) (take 384 (drop 384 bytes)) (drop 384 (drop 384 bytes))
      ∙ (ap (λ (xs : List ℕ). take 384 bytes ++ xs) (take-append-drop 384 (drop 384 bytes)) ∙ take-append-drop 384 bytes)

  again : List ℕ → List ℕ
  again p = encode_12 (decode_12 p)

  encoded_again : encode_vector (decode_vector bytes) ≡ (again first ++ again second) ++ again third
  unfolding encode_vector decode_vector again first second third
  encoded_again = refl

  pub same_of_reduced : are_reduced bytes ≡ true → encode_vector (decode_vector bytes) ≡ bytes
  unfolding are_reduced again
  same_of_reduced e =
      let low : AllLow bytes 384 = low_of_check bytes 384 e in
      let a = same_of_low first first_is.are first_is.long (part_low bytes first 0 0 (omega arith) first_is (λ i h. low (0 + i) (omega (arith, h)))) in
      let b = same_of_low second second_is.are second_is.long (part_low bytes second 384 128 (omega arith) second_is (λ i h. low (128 + i) (omega (arith, h)))) in
      let c = same_of_low third third_is.are third_is.long (part_low bytes third 768 256 (omega arith) third_is (λ i h. low (256 + i) (omega (arith, h)))) in
      encoded_again ∙ (ap₂ ◌++◌ (ap₂ ◌++◌ a b) c ∙ whole)

  pub reduced_of_same : encode_vector (decode_vector bytes) ≡ bytes → are_reduced bytes ≡ true
  unfolding are_reduced again first second third
  reduced_of_same e =
      let split : (again first ++ again second) ++ again third ≡ bytes = sym encoded_again ∙ e in
      let a_long : length (again first) ≡ 384 = let made = encoded_12 (decode_12 first) in made.long in
      let b_long : length (again second) ≡ 384 = let made = encoded_12 (decode_12 second) in made.long in
      let right : again first ++ (again second ++ again third) ≡ bytes = sym (append_assoc (again first) (again second) (again third)) ∙ split in
      let a : again first ≡ first = sym (take_at (again first) (again second ++ again third) 384 a_long) ∙ ap (take 384) right in
      let rest : again second ++ again third ≡ drop 384 bytes = sym (drop_at (again first) (again second ++ again third) 384 a_long) ∙ ap (drop 384) right in
      let b : again second ≡ second = sym (take_at (again second) (again third) 384 b_long) ∙ ap (take 384) rest in
      let c : again third ≡ third = sym (drop_at (again second) (again third) 384 b_long) ∙ ap (drop 384) rest in
      check_of_low bytes 384 (all_low (low_part bytes first 0 0 (omega arith) first_is (low_of_same first first_is.are a))
      (low_part bytes second 384 128 (omega arith) second_is (low_of_same second second_is.are b))
      (low_part bytes third 768 256 (omega arith) third_is (low_of_same third third_is.are c)))
    where
      moved : (i j : ℕ) → i ≡ j → AreLow bytes i → AreLow bytes j
      moved i j e low = subst (AreLow bytes) e low

      all_low : ((i : ℕ) → i < 128 → AreLow bytes (0 + i)) → ((i : ℕ) → i < 128 → AreLow bytes (128 + i)) → ((i : ℕ) → i < 128 → AreLow bytes (256 + i)) → AllLow bytes 384
      all_low a b c i h =
          elim (cases_lt i 128) [
            | inl x ↦ moved (0 + i) i (omega arith) (a i x)
            | inr x ↦
                elim (cases_lt i 256) [
                  | inl y ↦ moved (128 + (i - 128)) i (omega (arith, x)) (b (i - 128) (omega (arith, x, y)))
                  | inr y ↦ moved (256 + (i - 256)) i (omega (arith, y)) (c (i - 256) (omega (arith, y, h)))
                ]
          ]

-- keys
pub key_is : (bytes : List ℕ) → IsBytes bytes
    → (is_key bytes ≡ true) ↔ ((length bytes ≡ 1184) × (encode_vector (decode_vector (take 1152 bytes)) ≡ take 1152 bytes))
unfolding is_key
key_is bytes are = (
  (λ e.
      let parts = and_parts (eqb (length bytes) 1184) (are_reduced (take 1152 bytes)) e in
      let long : length bytes ≡ 1184 = eqb-true (length bytes) 1184 parts.0 in
      (long, same_of_reduced (take 1152 bytes) (bytes_of_taken 1152 bytes are) (front_long long) parts.1)),
  (λ p. and_from (eqb (length bytes) 1184) (are_reduced (take 1152 bytes)) (eq-eqb (length bytes) 1184 p.0)
      (reduced_of_same (take 1152 bytes) (bytes_of_taken 1152 bytes are) (front_long p.0) p.1)),
)
  where
    front_long : length bytes ≡ 1184 → length (take 1152 bytes) ≡ 1152
    front_long long = let cut = length-take 1152 bytes in omega (arith, cut, long)
