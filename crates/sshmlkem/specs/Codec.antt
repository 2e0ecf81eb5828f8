-- ByteEncode and ByteDecode (FIPS 203 algorithms 5 and 6) by groups of whole bytes, together with compression (section 4.2.1): what the code
-- computes. `Bits.antt` has both algorithms bit by bit, and the law of byte encoding says that these are the same.

use Rattle.std.specs.Prelude.{ℕ, ◌+◌, ◌-◌, ◌*◌, ◌/◌, ◌%◌, ◌^◌, ◌&&◌, nat_lt, Bool, true, List, replicate, slice_index, slice_set}
use Rattle.sshkeccak.specs.Repeated.{repeated}

-- Compress_d: a number modulo q to the nearest of 2^d steps, of two the upper (formula 4.7)
unfoldable pub compressed : ℕ → ℕ → ℕ
compressed d n = (n * 2 ^ d + 1664) / 3329 % 2 ^ d

-- Decompress_d: the number modulo q that is nearest to n of 2^d steps, of two the upper (formula 4.8)
unfoldable pub decompressed : ℕ → ℕ → ℕ
decompressed d n = (n * 3329 + 2 ^ (d - 1)) / 2 ^ d % 3329

-- the bytes 3 i to 3 i + 2, which have the numbers 2 i and 2 i + 1
unfoldable pub with_encoded_12 : List ℕ → List ℕ → ℕ → List ℕ
with_encoded_12 f bytes i =
    let a = slice_index f (2 * i) in
    let b = slice_index f (2 * i + 1) in
    slice_set (slice_set (slice_set bytes (3 * i) (a % 256)) (3 * i + 1) ((a / 256 + b % 16 * 16) % 256)) (3 * i + 2) (b / 16 % 256)

-- ByteEncode_12: 256 numbers below 2^12 as 384 bytes (algorithm 5)
unfoldable pub encode_12 : List ℕ → List ℕ
encode_12 f = repeated (with_encoded_12 f) (replicate 384 0) 128

-- the first number of 12 bits in three bytes, of which a is the first and b the middle one (FIPS 203 algorithm 7, line 6)
unfoldable pub first_12 : ℕ → ℕ → ℕ
first_12 a b = a + b % 16 * 256

-- the second number of 12 bits in three bytes, of which b is the middle one and c the last (FIPS 203 algorithm 7, line 7)
unfoldable pub second_12 : ℕ → ℕ → ℕ
second_12 b c = b / 16 + c * 16

-- the numbers 2 i and 2 i + 1, of the bytes 3 i to 3 i + 2
unfoldable pub with_decoded_12 : List ℕ → List ℕ → ℕ → List ℕ
with_decoded_12 bytes f i =
    let a = slice_index bytes (3 * i) in
    let b = slice_index bytes (3 * i + 1) in
    let c = slice_index bytes (3 * i + 2) in
    slice_set (slice_set f (2 * i) (first_12 a b % 3329)) (2 * i + 1) (second_12 b c % 3329)

-- ByteDecode_12: 384 bytes as 256 numbers modulo q (algorithm 6)
unfoldable pub decode_12 : List ℕ → List ℕ
decode_12 bytes = repeated (with_decoded_12 bytes) (replicate 256 0) 128

-- that the numbers before 2 i are below q, and so are the numbers 2 i and 2 i + 1
unfoldable pub is_reduced_too : List ℕ → Bool → ℕ → Bool
is_reduced_too bytes all i =
    let a = slice_index bytes (3 * i) in
    let b = slice_index bytes (3 * i + 1) in
    let c = slice_index bytes (3 * i + 2) in
    all && (nat_lt (first_12 a b) 3329 && nat_lt (second_12 b c) 3329)

-- the modulus check: all 768 numbers of 12 bits in 1152 bytes are below q (section 7.2)
unfoldable pub are_reduced : List ℕ → Bool
are_reduced bytes = repeated (is_reduced_too bytes) true 384

-- the bytes 5 i to 5 i + 4, which have the compressed numbers 4 i to 4 i + 3
unfoldable pub with_encoded_10 : List ℕ → List ℕ → ℕ → List ℕ
with_encoded_10 f bytes i =
    let a = compressed 10 (slice_index f (4 * i)) in
    let b = compressed 10 (slice_index f (4 * i + 1)) in
    let c = compressed 10 (slice_index f (4 * i + 2)) in
    let d = compressed 10 (slice_index f (4 * i + 3)) in
    slice_set (slice_set (slice_set (slice_set (slice_set bytes (5 * i) (a % 256)) (5 * i + 1) ((a / 256 + b % 64 * 4) % 256))
    (5 * i + 2) ((b / 64 + c % 16 * 16) % 256)) (5 * i + 3) ((c / 16 + d % 4 * 64) % 256)) (5 * i + 4) (d / 4 % 256)

-- ByteEncode_10 of Compress_10: 256 numbers modulo q as 320 bytes (algorithm 5)
unfoldable pub encode_10 : List ℕ → List ℕ
encode_10 f = repeated (with_encoded_10 f) (replicate 320 0) 64

-- the decompressed numbers 4 i to 4 i + 3, of the bytes 5 i to 5 i + 4
unfoldable pub with_decoded_10 : List ℕ → List ℕ → ℕ → List ℕ
with_decoded_10 bytes f i =
    let a = slice_index bytes (5 * i) in
    let b = slice_index bytes (5 * i + 1) in
    let c = slice_index bytes (5 * i + 2) in
    let d = slice_index bytes (5 * i + 3) in
    let e = slice_index bytes (5 * i + 4) in
    slice_set (slice_set (slice_set (slice_set f (4 * i) (decompressed 10 (a + b % 4 * 256)))
    (4 * i + 1) (decompressed 10 (b / 4 + c % 16 * 64)))
    (4 * i + 2) (decompressed 10 (c / 16 + d % 64 * 16)))
    (4 * i + 3) (decompressed 10 (d / 64 + e * 4))

-- Decompress_10 of ByteDecode_10: 320 bytes as 256 numbers modulo q (algorithm 6)
unfoldable pub decode_10 : List ℕ → List ℕ
decode_10 bytes = repeated (with_decoded_10 bytes) (replicate 256 0) 64

-- byte i, which has the compressed numbers 2 i and 2 i + 1
unfoldable pub with_encoded_4 : List ℕ → List ℕ → ℕ → List ℕ
with_encoded_4 f bytes i =
    let a = compressed 4 (slice_index f (2 * i)) in
    let b = compressed 4 (slice_index f (2 * i + 1)) in
    slice_set bytes i ((a % 16 + b % 16 * 16) % 256)

-- ByteEncode_4 of Compress_4: 256 numbers modulo q as 128 bytes (algorithm 5)
unfoldable pub encode_4 : List ℕ → List ℕ
encode_4 f = repeated (with_encoded_4 f) (replicate 128 0) 128

-- the decompressed numbers 2 i and 2 i + 1, of byte i
unfoldable pub with_decoded_4 : List ℕ → List ℕ → ℕ → List ℕ
with_decoded_4 bytes f i =
    let a = slice_index bytes i in
    slice_set (slice_set f (2 * i) (decompressed 4 (a % 16))) (2 * i + 1) (decompressed 4 (a / 16))

-- Decompress_4 of ByteDecode_4: 128 bytes as 256 numbers modulo q (algorithm 6)
unfoldable pub decode_4 : List ℕ → List ℕ
decode_4 bytes = repeated (with_decoded_4 bytes) (replicate 256 0) 128

-- the byte of the compressed numbers 8 i to 8 i + 7
unfoldable pub byte_of_bits : List ℕ → ℕ → ℕ
byte_of_bits f i =
    compressed 1 (slice_index f (8 * i)) + compressed 1 (slice_index f (8 * i + 1)) * 2 + compressed 1 (slice_index f (8 * i + 2)) * 4
    + compressed 1 (slice_index f (8 * i + 3)) * 8 + compressed 1 (slice_index f (8 * i + 4)) * 16 + compressed 1 (slice_index f (8 * i + 5)) * 32
    + compressed 1 (slice_index f (8 * i + 6)) * 64 + compressed 1 (slice_index f (8 * i + 7)) * 128

-- the bytes after step i of the loop: byte i is that of eight numbers of one bit
unfoldable pub with_encoded_1 : List ℕ → List ℕ → ℕ → List ℕ
with_encoded_1 f bytes i = slice_set bytes i (byte_of_bits f i)

-- ByteEncode_1 of Compress_1: 256 numbers modulo q as 32 bytes (algorithm 5)
unfoldable pub encode_1 : List ℕ → List ℕ
encode_1 f = repeated (with_encoded_1 f) (replicate 32 0) 32

-- the decompressed number i, of bit i of the bytes
unfoldable pub with_number : List ℕ → List ℕ → ℕ → List ℕ
with_number bytes f i = slice_set f i (decompressed 1 (slice_index bytes (i / 8) / 2 ^ (i % 8) % 2))

-- Decompress_1 of ByteDecode_1: 32 bytes as 256 numbers modulo q (algorithm 6)
unfoldable pub decode_1 : List ℕ → List ℕ
decode_1 bytes = repeated (with_number bytes) (replicate 256 0) 256
