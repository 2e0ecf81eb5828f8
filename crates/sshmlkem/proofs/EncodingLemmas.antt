-- Decoding undoes encoding, and encoding undoes decoding.

use Rattle.std.proofs.Common.{◌≡◌, ℕ, ◌*◌, ◌%◌, ◌^◌, ◌<◌, inl, inr, List, length, sym, ap, ◌∙◌, arith, map}
use Rattle.std.proofs.lemmas.Bool.{cases_lt}
use Rattle.std.proofs.lemmas.List.{ext_get_or, get_or-map, get_or_past, length-map}
use Rattle.std.specs.Prelude.{slice_index}
use Rattle.sshmlkem.proofs.BitLemmas.{each_at, each_long, number_below, regrouped_back}
use Rattle.sshmlkem.proofs.CodingLemmas.{AreShort, decode_1_is, decode_10_is, decode_12_is, decode_4_is, encode_1_is, encode_10_is, encode_12_is, encode_4_is}
use Rattle.sshmlkem.specs.Bits.{byte_decode, byte_encode, each, number_at, regrouped}
use Rattle.sshmlkem.specs.Codec.{compressed, decode_1, decode_10, decode_12, decode_4, decompressed, encode_1, encode_10, encode_12, encode_4}
use Rattle.sshmlkem.specs.KemBytes.{IsBytes}

-- the encodings of FIPS 203
pub regrouped_long : (v w m : ℕ) (xs : List ℕ) → length (regrouped v w m xs) ≡ m
unfolding regrouped
regrouped_long v w m xs = each_long m _

pub regrouped_low : (v w m : ℕ) (xs : List ℕ) (i : ℕ) → 0 < 2 ^ w → slice_index (regrouped v w m xs) i < 2 ^ w
unfolding regrouped
regrouped_low v w m xs i some =
    elim (cases_lt i m) [
      | inl h ↦ let is = each_at m (λ k. number_at v xs (w * k) w) i h in let low = number_below v xs (w * i) w in omega (arith, is, low)
      | inr h ↦
          let long = each_long m (λ k. number_at v xs (w * k) w) in
          let none : slice_index (each m (λ k. number_at v xs (w * k) w)) i ≡ 0 = get_or_past (each m (λ k. number_at v xs (w * k) w)) i 0 (omega (arith, long, h)) in
          omega (arith, none, some)
    ]

pub encoded_bytes : (d : ℕ) (f : List ℕ) → IsBytes (byte_encode d f)
unfolding byte_encode
encoded_bytes d f = λ i. regrouped_low d 8 (32 * d) f i (omega arith)

pub decoded_encoded : (d : ℕ) (f : List ℕ) → 0 < d → length f ≡ 256 → ((i : ℕ) → slice_index f i < 2 ^ d) → byte_decode d (byte_encode d f) ≡ f
unfolding byte_encode byte_decode
decoded_encoded d f some long low = regrouped_back d 8 (32 * d) 256 f some (omega arith) (omega arith) long low

pub encoded_decoded : (d : ℕ) (bytes : List ℕ) → 0 < d → length bytes ≡ 32 * d → IsBytes bytes → byte_encode d (byte_decode d bytes) ≡ bytes
unfolding byte_encode byte_decode
encoded_decoded d bytes some long are = regrouped_back 8 d 256 (32 * d) bytes (omega arith) some (omega arith) long are

-- lists that are changed number by number
map_twice : (g h : ℕ → ℕ) (xs : List ℕ) → map g (map h xs) ≡ map (λ n. g (h n)) xs
map_twice g h xs =
    let inner = length-map xs h in
    let outer = length-map (map h xs) g in
    let own = length-map xs (λ n. g (h n)) in
    ext_get_or 0 (map g (map h xs)) (map (λ n. g (h n)) xs) (outer ∙ (inner ∙ sym own))
    (λ i less. get_or-map g (map h xs) i 0 0 (omega (arith, less, outer)) ∙ (ap g (get_or-map h xs i 0 0 (omega (arith, less, outer, inner)))
    ∙ sym (get_or-map (λ n. g (h n)) xs i 0 0 (omega (arith, less, outer, inner)))))

pub map_unchanged : (g : ℕ → ℕ) (xs : List ℕ) → ((i : ℕ) → i < length xs → g (slice_index xs i) ≡ slice_index xs i) → map g xs ≡ xs
map_unchanged g xs h =
    let own = length-map xs g in
    ext_get_or 0 (map g xs) xs own (λ i less. get_or-map g xs i 0 0 (omega (arith, less, own)) ∙ h i (omega (arith, less, own)))

pub map_low : (g : ℕ → ℕ) (top : ℕ) → ((n : ℕ) → g n < top) → (xs : List ℕ) (i : ℕ) → slice_index (map g xs) i < top
map_low g top low xs i =
    let own = length-map xs g in
    elim (cases_lt i (length xs)) [
      | inl h ↦ let is = get_or-map g xs i 0 0 h in let small = low (slice_index xs i) in omega (arith, is, small)
      | inr h ↦ let none : slice_index (map g xs) i ≡ 0 = get_or_past (map g xs) i 0 (omega (arith, h, own)) in let some = low 0 in omega (arith, none, some)
    ]

-- 12 bits
pub reduced_low : (xs : List ℕ) (i : ℕ) → slice_index (map (λ (n : ℕ). n % 3329) xs) i < 3329
reduced_low xs i = map_low (λ (n : ℕ). n % 3329) 3329 (λ n. omega arith) xs i

pub decode_of_encode_12 : (f : List ℕ) → length f ≡ 256 → ((i : ℕ) → slice_index f i < 3329) → decode_12 (encode_12 f) ≡ f
decode_of_encode_12 f long low =
    let short : AreShort f = λ i. let small = low i in omega (arith, small) in
    ap decode_12 (encode_12_is f short)
    ∙ (decode_12_is (byte_encode 12 f) (encoded_bytes 12 f)
    ∙ (ap (map (λ (n : ℕ). n % 3329)) (decoded_encoded 12 f (omega arith) long short)
    ∙ map_unchanged (λ (n : ℕ). n % 3329) f (λ i less. let small = low i in omega (arith, small))))

-- compressed numbers
compressed_low_10 : (n : ℕ) → compressed 10 n < 1024
unfolding compressed
compressed_low_10 n = omega arith

compressed_low_4 : (n : ℕ) → compressed 4 n < 16
unfolding compressed
compressed_low_4 n = omega arith

pub compressed_low_1 : (n : ℕ) → compressed 1 n < 2
unfolding compressed
compressed_low_1 n = omega arith

pub compressed_again_10 : (n : ℕ) → n < 1024 → compressed 10 (decompressed 10 n) ≡ n
unfolding compressed decompressed
compressed_again_10 n h = omega (arith, h)

pub compressed_again_4 : (n : ℕ) → n < 16 → compressed 4 (decompressed 4 n) ≡ n
unfolding compressed decompressed
compressed_again_4 n h = omega (arith, h)

pub compressed_again_1 : (n : ℕ) → n < 2 → compressed 1 (decompressed 1 n) ≡ n
unfolding compressed decompressed
compressed_again_1 n h = omega (arith, h)

-- by any width
by_width : (d : ℕ) (f : List ℕ) → 0 < d → length f ≡ 256 → ((n : ℕ) → compressed d n < 2 ^ d)
    → map (decompressed d) (byte_decode d (byte_encode d (map (compressed d) f))) ≡ map (λ n. decompressed d (compressed d n)) f
by_width d f some long low =
    ap (map (decompressed d)) (decoded_encoded d (map (compressed d) f) some (length-map f (compressed d) ∙ long) (map_low (compressed d) (2 ^ d) low f))
    ∙ map_twice (decompressed d) (compressed d) f

back_by_width : (d : ℕ) (bytes : List ℕ) → 0 < d → 0 < 2 ^ d → length bytes ≡ 32 * d → IsBytes bytes → ((n : ℕ) → n < 2 ^ d → compressed d (decompressed d n) ≡ n)
    → byte_encode d (map (compressed d) (map (decompressed d) (byte_decode d bytes))) ≡ bytes
unfolding byte_decode
back_by_width d bytes some room long are again =
    let xs : List ℕ = byte_decode d bytes in
    ap (byte_encode d) (map_twice (compressed d) (decompressed d) xs
    ∙ map_unchanged (λ n. compressed d (decompressed d n)) xs (λ i less. again (slice_index xs i) (regrouped_low 8 d 256 bytes i room)))
    ∙ encoded_decoded d bytes some long are

decoded_length : (d : ℕ) (bytes : List ℕ) → length (map (decompressed d) (byte_decode d bytes)) ≡ 256
unfolding byte_decode
decoded_length d bytes = length-map (byte_decode d bytes) (decompressed d) ∙ regrouped_long 8 d 256 bytes

pub decode_of_encode_10 : (f : List ℕ) → length f ≡ 256 → decode_10 (encode_10 f) ≡ map (λ n. decompressed 10 (compressed 10 n)) f
decode_of_encode_10 f long =
    ap decode_10 (encode_10_is f long) ∙ (decode_10_is _ (encoded_bytes 10 _) ∙ by_width 10 f (omega arith) long compressed_low_10)

pub decode_of_encode_4 : (f : List ℕ) → length f ≡ 256 → decode_4 (encode_4 f) ≡ map (λ n. decompressed 4 (compressed 4 n)) f
decode_of_encode_4 f long =
    ap decode_4 (encode_4_is f long) ∙ (decode_4_is _ (encoded_bytes 4 _) ∙ by_width 4 f (omega arith) long compressed_low_4)

pub decode_of_encode_1 : (f : List ℕ) → length f ≡ 256 → decode_1 (encode_1 f) ≡ map (λ n. decompressed 1 (compressed 1 n)) f
decode_of_encode_1 f long =
    ap decode_1 (encode_1_is f long) ∙ (decode_1_is _ ∙ by_width 1 f (omega arith) long compressed_low_1)

pub encode_of_decode_10 : (bytes : List ℕ) → IsBytes bytes → length bytes ≡ 320 → encode_10 (decode_10 bytes) ≡ bytes
encode_of_decode_10 bytes are long =
    ap encode_10 (decode_10_is bytes are)
    ∙ (encode_10_is _ (decoded_length 10 bytes) ∙ back_by_width 10 bytes (omega arith) (omega arith) long are compressed_again_10)

pub encode_of_decode_4 : (bytes : List ℕ) → IsBytes bytes → length bytes ≡ 128 → encode_4 (decode_4 bytes) ≡ bytes
encode_of_decode_4 bytes are long =
    ap encode_4 (decode_4_is bytes are)
    ∙ (encode_4_is _ (decoded_length 4 bytes) ∙ back_by_width 4 bytes (omega arith) (omega arith) long are compressed_again_4)

pub encode_of_decode_1 : (bytes : List ℕ) → IsBytes bytes → length bytes ≡ 32 → encode_1 (decode_1 bytes) ≡ bytes
encode_of_decode_1 bytes are long =
    ap encode_1 (decode_1_is bytes)
    ∙ (encode_1_is _ (decoded_length 1 bytes) ∙ back_by_width 1 bytes (omega arith) (omega arith) long are compressed_again_1)
