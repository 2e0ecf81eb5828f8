-- What the code makes of numbers and bytes is FIPS 203's, bit by bit.

use Rattle.std.proofs.Common.{◌≡◌, ℕ, zero, suc, ◌+◌, ◌*◌, ◌/◌, ◌%◌, ◌^◌, ◌<◌, List, [], ◌∷◌, length, refl, sym, ap, ◌∙◌, arith, map}
use Rattle.std.proofs.Math.Nat.{one-mul}
use Rattle.std.proofs.lemmas.List.{get_or-map, length-map, length-replicate}
use Rattle.std.specs.Prelude.{slice_index, slice_set, replicate}
use Rattle.sshmlkem.proofs.BitLemmas.{bit_at, each_at, each_is, each_long, number_of_two, number_within}
use Rattle.sshmlkem.proofs.TableLemmas.{filled}
use Rattle.sshmlkem.specs.Bits.{bit_of, byte_decode, byte_encode, each, number_at, regrouped}
use Rattle.sshmlkem.specs.Codec.{byte_of_bits, compressed, decode_1, decode_10, decode_12, decode_4, decompressed, encode_1, encode_10, encode_12, encode_4, first_12, second_12, with_decoded_10, with_decoded_12, with_decoded_4, with_encoded_1, with_encoded_10, with_encoded_12, with_encoded_4, with_number}
use Rattle.sshmlkem.specs.KemBytes.{IsBytes}

abbrev pub AreShort : List ℕ → Type 0
AreShort f = (i : ℕ) → slice_index f i < 4096

-- numbers of a list, changed one by one
mapped : (h : ℕ → ℕ) (f : List ℕ) → length f ≡ 256 → (i : ℕ) → i < 256 → slice_index (map h f) i ≡ h (slice_index f i)
mapped h f long i less = get_or-map h f i 0 0 (omega (arith, long, less))

pub each_mapped : (h : ℕ → ℕ) (n : ℕ) (g : ℕ → ℕ) → map h (each n g) ≡ each n (λ k. h (g k))
each_mapped h n g =
    let own = each_long n g in
    each_is n (λ k. h (g k)) (map h (each n g)) (length-map (each n g) h ∙ own)
    (λ k less. get_or-map h (each n g) k 0 0 (omega (arith, less, own)) ∙ ap h (each_at n g k less))

compressed_below_10 : (n : ℕ) → compressed 10 n < 1024
unfolding compressed
compressed_below_10 n = omega arith

-- numbers of 12 bits
bytes_of_12 : List ℕ → ℕ → List ℕ
bytes_of_12 f i = slice_index f (2 * i) % 256 ∷ (slice_index f (2 * i) / 256 + slice_index f (2 * i + 1) % 16 * 16) % 256 ∷ slice_index f (2 * i + 1) / 16 % 256 ∷ []

bytes_of_12_are : (f : List ℕ) → AreShort f → (i j : ℕ) → i < 128 → j < 3 → slice_index (bytes_of_12 f i) j ≡ number_at 12 f (8 * (3 * i + j)) 8
unfolding bytes_of_12
bytes_of_12_are f short i zero h k = let e = number_within 12 f (2 * i) 0 (8 * (3 * i + 0)) 8 (omega arith) (omega arith) in omega (arith, e)
bytes_of_12_are f short i (suc zero) h k =
    let e = number_of_two 12 f (2 * i) 8 (2 * i + 1) 0 (8 * (3 * i + 1)) 4 4 (omega arith) (omega arith) (omega arith) (omega arith) in
    let low = short (2 * i) in
    omega (arith, e, low)
bytes_of_12_are f short i (suc (suc zero)) h k =
    let e = number_within 12 f (2 * i + 1) 4 (8 * (3 * i + 2)) 8 (omega arith) (omega arith) in omega (arith, e)
bytes_of_12_are f short i (suc (suc (suc j))) h k = absurd (omega (arith, k))

pub encode_12_is : (f : List ℕ) → AreShort f → encode_12 f ≡ byte_encode 12 f
unfolding encode_12 with_encoded_12 bytes_of_12 byte_encode regrouped
encode_12_is f short =
    filled 3 (bytes_of_12 f) (with_encoded_12 f) (record { long = λ i. refl; is = λ xs i. refl }) (replicate 384 0) 128 384 _ (omega arith) refl
    (length-replicate {A = ℕ} 384 0) (bytes_of_12_are f short)

numbers_of_12 : List ℕ → ℕ → List ℕ
numbers_of_12 bytes i =
    first_12 (slice_index bytes (3 * i)) (slice_index bytes (3 * i + 1)) % 3329
    ∷ second_12 (slice_index bytes (3 * i + 1)) (slice_index bytes (3 * i + 2)) % 3329 ∷ []

pub first_12_is : (bytes : List ℕ) → IsBytes bytes → (i n : ℕ) → n ≡ 24 * i
    → first_12 (slice_index bytes (3 * i)) (slice_index bytes (3 * i + 1)) ≡ number_at 8 bytes n 12
unfolding first_12
first_12_is bytes are i n at =
    let e = number_of_two 8 bytes (3 * i) 0 (3 * i + 1) 0 n 8 4 (omega (arith, at)) (omega arith) (omega (arith, at)) (omega arith) in
    let low = are (3 * i) in
    omega (arith, e, low)

pub second_12_is : (bytes : List ℕ) → IsBytes bytes → (i n : ℕ) → n ≡ 24 * i + 12
    → second_12 (slice_index bytes (3 * i + 1)) (slice_index bytes (3 * i + 2)) ≡ number_at 8 bytes n 12
unfolding second_12
second_12_is bytes are i n at =
    let e = number_of_two 8 bytes (3 * i + 1) 4 (3 * i + 2) 0 n 4 8 (omega (arith, at)) (omega arith) (omega (arith, at)) (omega arith) in
    let low = are (3 * i + 1) in
    let high = are (3 * i + 2) in
    omega (arith, e, low, high)

numbers_of_12_are : (bytes : List ℕ) → IsBytes bytes → (i j : ℕ) → i < 128 → j < 2
    → slice_index (numbers_of_12 bytes i) j ≡ number_at 8 bytes (12 * (2 * i + j)) 12 % 3329
unfolding numbers_of_12
numbers_of_12_are bytes are i zero h k = ap (λ (x : ℕ). x % 3329) (first_12_is bytes are i (12 * (2 * i + 0)) (omega arith))
numbers_of_12_are bytes are i (suc zero) h k = ap (λ (x : ℕ). x % 3329) (second_12_is bytes are i (12 * (2 * i + 1)) (omega arith))
numbers_of_12_are bytes are i (suc (suc j)) h k = absurd (omega (arith, k))

pub decode_12_is : (bytes : List ℕ) → IsBytes bytes → decode_12 bytes ≡ map (λ (n : ℕ). n % 3329) (byte_decode 12 bytes)
unfolding decode_12 with_decoded_12 numbers_of_12 byte_decode regrouped
decode_12_is bytes are =
    filled 2 (numbers_of_12 bytes) (with_decoded_12 bytes) (record { long = λ i. refl; is = λ xs i. refl }) (replicate 256 0) 128 256
    (λ (k : ℕ). number_at 8 bytes (12 * k) 12 % 3329) (omega arith) refl (length-replicate {A = ℕ} 256 0) (numbers_of_12_are bytes are)
    ∙ sym (each_mapped (λ (n : ℕ). n % 3329) 256 (λ k. number_at 8 bytes (12 * k) 12))

-- numbers of 10 bits
bytes_of_10 : List ℕ → ℕ → List ℕ
bytes_of_10 f i =
    let a = compressed 10 (slice_index f (4 * i)) in
    let b = compressed 10 (slice_index f (4 * i + 1)) in
    let c = compressed 10 (slice_index f (4 * i + 2)) in
    let d = compressed 10 (slice_index f (4 * i + 3)) in
    a % 256 ∷ (a / 256 + b % 64 * 4) % 256 ∷ (b / 64 + c % 16 * 16) % 256 ∷ (c / 16 + d % 4 * 64) % 256 ∷ d / 4 % 256 ∷ []

bytes_of_10_are : (f : List ℕ) → length f ≡ 256 → (i j : ℕ) → i < 64 → j < 5
    → slice_index (bytes_of_10 f i) j ≡ number_at 10 (map (compressed 10) f) (8 * (5 * i + j)) 8
unfolding bytes_of_10
bytes_of_10_are f long i zero h k =
    let g : List ℕ = map (compressed 10) f in
    let a = mapped (compressed 10) f long (4 * i) (omega (arith, h)) in
    let e = number_within 10 g (4 * i) 0 (8 * (5 * i + 0)) 8 (omega arith) (omega arith) in
    omega (arith, e, a)
bytes_of_10_are f long i (suc zero) h k =
    let g : List ℕ = map (compressed 10) f in
    let a = mapped (compressed 10) f long (4 * i) (omega (arith, h)) in
    let b = mapped (compressed 10) f long (4 * i + 1) (omega (arith, h)) in
    let low = compressed_below_10 (slice_index f (4 * i)) in
    let e = number_of_two 10 g (4 * i) 8 (4 * i + 1) 0 (8 * (5 * i + 1)) 2 6 (omega arith) (omega arith) (omega arith) (omega arith) in
    omega (arith, e, a, b, low)
bytes_of_10_are f long i (suc (suc zero)) h k =
    let g : List ℕ = map (compressed 10) f in
    let b = mapped (compressed 10) f long (4 * i + 1) (omega (arith, h)) in
    let c = mapped (compressed 10) f long (4 * i + 2) (omega (arith, h)) in
    let low = compressed_below_10 (slice_index f (4 * i + 1)) in
    let e = number_of_two 10 g (4 * i + 1) 6 (4 * i + 2) 0 (8 * (5 * i + 2)) 4 4 (omega arith) (omega arith) (omega arith) (omega arith) in
    omega (arith, e, b, c, low)
bytes_of_10_are f long i (suc (suc (suc zero))) h k =
    let g : List ℕ = map (compressed 10) f in
    let c = mapped (compressed 10) f long (4 * i + 2) (omega (arith, h)) in
    let d = mapped (compressed 10) f long (4 * i + 3) (omega (arith, h)) in
    let low = compressed_below_10 (slice_index f (4 * i + 2)) in
    let e = number_of_two 10 g (4 * i + 2) 4 (4 * i + 3) 0 (8 * (5 * i + 3)) 6 2 (omega arith) (omega arith) (omega arith) (omega arith) in
    omega (arith, e, c, d, low)
bytes_of_10_are f long i (suc (suc (suc (suc zero)))) h k =
    let g : List ℕ = map (compressed 10) f in
    let d = mapped (compressed 10) f long (4 * i + 3) (omega (arith, h)) in
    let e = number_within 10 g (4 * i + 3) 2 (8 * (5 * i + 4)) 8 (omega arith) (omega arith) in
    omega (arith, e, d)
bytes_of_10_are f long i (suc (suc (suc (suc (suc j))))) h k = absurd (omega (arith, k))

pub encode_10_is : (f : List ℕ) → length f ≡ 256 → encode_10 f ≡ byte_encode 10 (map (compressed 10) f)
unfolding encode_10 with_encoded_10 bytes_of_10 byte_encode regrouped
encode_10_is f long =
    filled 5 (bytes_of_10 f) (with_encoded_10 f) (record { long = λ i. refl; is = λ xs i. refl }) (replicate 320 0) 64 320 _ (omega arith) refl
    (length-replicate {A = ℕ} 320 0) (bytes_of_10_are f long)

numbers_of_10 : List ℕ → ℕ → List ℕ
numbers_of_10 bytes i =
    let a = slice_index bytes (5 * i) in
    let b = slice_index bytes (5 * i + 1) in
    let c = slice_index bytes (5 * i + 2) in
    let d = slice_index bytes (5 * i + 3) in
    let e = slice_index bytes (5 * i + 4) in
    decompressed 10 (a + b % 4 * 256) ∷ decompressed 10 (b / 4 + c % 16 * 64) ∷ decompressed 10 (c / 16 + d % 64 * 16) ∷ decompressed 10 (d / 64 + e * 4) ∷ []

numbers_of_10_are : (bytes : List ℕ) → IsBytes bytes → (i j : ℕ) → i < 64 → j < 4
    → slice_index (numbers_of_10 bytes i) j ≡ decompressed 10 (number_at 8 bytes (10 * (4 * i + j)) 10)
unfolding numbers_of_10
numbers_of_10_are bytes are i zero h k =
    let e = number_of_two 8 bytes (5 * i) 0 (5 * i + 1) 0 (10 * (4 * i + 0)) 8 2 (omega arith) (omega arith) (omega arith) (omega arith) in
    let low = are (5 * i) in
    ap (decompressed 10) (omega (arith, e, low))
numbers_of_10_are bytes are i (suc zero) h k =
    let e = number_of_two 8 bytes (5 * i + 1) 2 (5 * i + 2) 0 (10 * (4 * i + 1)) 6 4 (omega arith) (omega arith) (omega arith) (omega arith) in
    let low = are (5 * i + 1) in
    ap (decompressed 10) (omega (arith, e, low))
numbers_of_10_are bytes are i (suc (suc zero)) h k =
    let e = number_of_two 8 bytes (5 * i + 2) 4 (5 * i + 3) 0 (10 * (4 * i + 2)) 4 6 (omega arith) (omega arith) (omega arith) (omega arith) in
    let low = are (5 * i + 2) in
    ap (decompressed 10) (omega (arith, e, low))
numbers_of_10_are bytes are i (suc (suc (suc zero))) h k =
    let e = number_of_two 8 bytes (5 * i + 3) 6 (5 * i + 4) 0 (10 * (4 * i + 3)) 2 8 (omega arith) (omega arith) (omega arith) (omega arith) in
    let low = are (5 * i + 3) in
    let high = are (5 * i + 4) in
    ap (decompressed 10) (omega (arith, e, low, high))
numbers_of_10_are bytes are i (suc (suc (suc (suc j)))) h k = absurd (omega (arith, k))

pub decode_10_is : (bytes : List ℕ) → IsBytes bytes → decode_10 bytes ≡ map (decompressed 10) (byte_decode 10 bytes)
unfolding decode_10 with_decoded_10 numbers_of_10 byte_decode regrouped
decode_10_is bytes are =
    filled 4 (numbers_of_10 bytes) (with_decoded_10 bytes) (record { long = λ i. refl; is = λ xs i. refl }) (replicate 256 0) 64 256
    (λ (k : ℕ). decompressed 10 (number_at 8 bytes (10 * k) 10)) (omega arith) refl (length-replicate {A = ℕ} 256 0) (numbers_of_10_are bytes are)
    ∙ sym (each_mapped (decompressed 10) 256 (λ k. number_at 8 bytes (10 * k) 10))

-- numbers of 4 bits
bytes_of_4 : List ℕ → ℕ → List ℕ
bytes_of_4 f i = (compressed 4 (slice_index f (2 * i)) % 16 + compressed 4 (slice_index f (2 * i + 1)) % 16 * 16) % 256 ∷ []

bytes_of_4_are : (f : List ℕ) → length f ≡ 256 → (i j : ℕ) → i < 128 → j < 1
    → slice_index (bytes_of_4 f i) j ≡ number_at 4 (map (compressed 4) f) (8 * (1 * i + j)) 8
unfolding bytes_of_4
bytes_of_4_are f long i zero h k =
    let g : List ℕ = map (compressed 4) f in
    let a = mapped (compressed 4) f long (2 * i) (omega (arith, h)) in
    let b = mapped (compressed 4) f long (2 * i + 1) (omega (arith, h)) in
    let e = number_of_two 4 g (2 * i) 0 (2 * i + 1) 0 (8 * (1 * i + 0)) 4 4 (omega arith) (omega arith) (omega arith) (omega arith) in
    omega (arith, e, a, b)
bytes_of_4_are f long i (suc j) h k = absurd (omega (arith, k))

pub encode_4_is : (f : List ℕ) → length f ≡ 256 → encode_4 f ≡ byte_encode 4 (map (compressed 4) f)
unfolding encode_4 with_encoded_4 bytes_of_4 byte_encode regrouped
encode_4_is f long =
    filled 1 (bytes_of_4 f) (with_encoded_4 f) (record { long = λ i. refl; is = λ xs i. ap (λ (k : ℕ). slice_set xs k (slice_index (bytes_of_4 f i) 0)) (sym (one-mul i)) }) (replicate 128 0) 128 128 _ (omega arith) refl
    (length-replicate {A = ℕ} 128 0) (bytes_of_4_are f long)

numbers_of_4 : List ℕ → ℕ → List ℕ
numbers_of_4 bytes i = decompressed 4 (slice_index bytes i % 16) ∷ decompressed 4 (slice_index bytes i / 16) ∷ []

numbers_of_4_are : (bytes : List ℕ) → IsBytes bytes → (i j : ℕ) → i < 128 → j < 2
    → slice_index (numbers_of_4 bytes i) j ≡ decompressed 4 (number_at 8 bytes (4 * (2 * i + j)) 4)
unfolding numbers_of_4
numbers_of_4_are bytes are i zero h k =
    let e = number_within 8 bytes i 0 (4 * (2 * i + 0)) 4 (omega arith) (omega arith) in
    ap (decompressed 4) (omega (arith, e))
numbers_of_4_are bytes are i (suc zero) h k =
    let e = number_within 8 bytes i 4 (4 * (2 * i + 1)) 4 (omega arith) (omega arith) in
    let low = are i in
    ap (decompressed 4) (omega (arith, e, low))
numbers_of_4_are bytes are i (suc (suc j)) h k = absurd (omega (arith, k))

pub decode_4_is : (bytes : List ℕ) → IsBytes bytes → decode_4 bytes ≡ map (decompressed 4) (byte_decode 4 bytes)
unfolding decode_4 with_decoded_4 numbers_of_4 byte_decode regrouped
decode_4_is bytes are =
    filled 2 (numbers_of_4 bytes) (with_decoded_4 bytes) (record { long = λ i. refl; is = λ xs i. refl }) (replicate 256 0) 128 256
    (λ (k : ℕ). decompressed 4 (number_at 8 bytes (4 * k) 4)) (omega arith) refl (length-replicate {A = ℕ} 256 0) (numbers_of_4_are bytes are)
    ∙ sym (each_mapped (decompressed 4) 256 (λ k. number_at 8 bytes (4 * k) 4))

-- numbers of one bit
bytes_of_1 : List ℕ → ℕ → List ℕ
bytes_of_1 f i = byte_of_bits f i ∷ []

bit_of_1 : (f : List ℕ) → length f ≡ 256 → (k n : ℕ) → k < 256 → n ≡ k → bit_of 1 (map (compressed 1) f) n ≡ compressed 1 (slice_index f k)
unfolding compressed
bit_of_1 f long k n h e =
    let is = mapped (compressed 1) f long k h in
    let bit = bit_at 1 (map (compressed 1) f) k 0 n (omega (arith, e)) (omega arith) in
    bit ∙ (ap (λ (x : ℕ). x / 2 ^ 0 % 2) is ∙ omega arith)

bytes_of_1_are : (f : List ℕ) → length f ≡ 256 → (i j : ℕ) → i < 32 → j < 1
    → slice_index (bytes_of_1 f i) j ≡ number_at 1 (map (compressed 1) f) (8 * (1 * i + j)) 8
unfolding bytes_of_1 byte_of_bits number_at
bytes_of_1_are f long i zero h k =
    let n : ℕ = 8 * (1 * i + 0) in
    let a = bit_of_1 f long (8 * i) (n + 0) (omega (arith, h)) (omega arith) in
    let b = bit_of_1 f long (8 * i + 1) (n + 1) (omega (arith, h)) (omega arith) in
    let c = bit_of_1 f long (8 * i + 2) (n + 2) (omega (arith, h)) (omega arith) in
    let d = bit_of_1 f long (8 * i + 3) (n + 3) (omega (arith, h)) (omega arith) in
    let a' = bit_of_1 f long (8 * i + 4) (n + 4) (omega (arith, h)) (omega arith) in
    let b' = bit_of_1 f long (8 * i + 5) (n + 5) (omega (arith, h)) (omega arith) in
    let c' = bit_of_1 f long (8 * i + 6) (n + 6) (omega (arith, h)) (omega arith) in
    let d' = bit_of_1 f long (8 * i + 7) (n + 7) (omega (arith, h)) (omega arith) in
    omega (arith, a, b, c, d, a', b', c', d')
bytes_of_1_are f long i (suc j) h k = absurd (omega (arith, k))

pub encode_1_is : (f : List ℕ) → length f ≡ 256 → encode_1 f ≡ byte_encode 1 (map (compressed 1) f)
unfolding encode_1 with_encoded_1 bytes_of_1 byte_encode regrouped
encode_1_is f long =
    filled 1 (bytes_of_1 f) (with_encoded_1 f) (record { long = λ i. refl; is = λ xs i. ap (λ (k : ℕ). slice_set xs k (slice_index (bytes_of_1 f i) 0)) (sym (one-mul i)) }) (replicate 32 0) 32 32 _ (omega arith) refl
    (length-replicate {A = ℕ} 32 0) (bytes_of_1_are f long)

numbers_of_1 : List ℕ → ℕ → List ℕ
numbers_of_1 bytes i = decompressed 1 (slice_index bytes (i / 8) / 2 ^ (i % 8) % 2) ∷ []

numbers_of_1_are : (bytes : List ℕ) → (i j : ℕ) → i < 256 → j < 1 → slice_index (numbers_of_1 bytes i) j ≡ decompressed 1 (number_at 8 bytes (1 * (1 * i + j)) 1)
unfolding numbers_of_1 number_at bit_of
numbers_of_1_are bytes i zero h k =
    let same : 1 * (1 * i + 0) + 0 ≡ i = omega arith in
    ap (decompressed 1) (rw same (omega arith))
numbers_of_1_are bytes i (suc j) h k = absurd (omega (arith, k))

pub decode_1_is : (bytes : List ℕ) → decode_1 bytes ≡ map (decompressed 1) (byte_decode 1 bytes)
unfolding decode_1 with_number numbers_of_1 byte_decode regrouped
decode_1_is bytes =
    filled 1 (numbers_of_1 bytes) (with_number bytes) (record { long = λ i. refl; is = λ xs i. ap (λ (k : ℕ). slice_set xs k (slice_index (numbers_of_1 bytes i) 0)) (sym (one-mul i)) }) (replicate 256 0) 256 256
    (λ (k : ℕ). decompressed 1 (number_at 8 bytes (1 * k) 1)) (omega arith) refl (length-replicate {A = ℕ} 256 0) (numbers_of_1_are bytes)
    ∙ sym (each_mapped (decompressed 1) 256 (λ k. number_at 8 bytes (1 * k) 1))
