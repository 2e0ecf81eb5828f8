-- Bits, words and numbers of little-endian bytes (RFC 7748 section 5). A byte past the end counts 0.

use Rattle.std.specs.Prelude.{ℕ, ◌+◌, ◌*◌, ◌/◌, ◌%◌, ◌^◌, List, [], ◌∷◌, ◌++◌, slice_index}
use Rattle.std.specs.Int.{w64, from_le_bytes, to_le_bytes}

-- the 64-bit word of the eight bytes from a place on, little-endian (RFC 7748 section 5)
unfoldable pub word_at : List ℕ → ℕ → ℕ
word_at bytes i =
    from_le_bytes w64 (slice_index bytes i ∷ slice_index bytes (i + 1) ∷ slice_index bytes (i + 2) ∷ slice_index bytes (i + 3)
    ∷ slice_index bytes (i + 4) ∷ slice_index bytes (i + 5) ∷ slice_index bytes (i + 6) ∷ slice_index bytes (i + 7) ∷ [])

-- bit i, counted from the lowest bit of the first byte (RFC 7748 section 5)
unfoldable pub bit_at : List ℕ → ℕ → ℕ
bit_at bytes i = slice_index bytes (i / 8) / 2 ^ (i % 8) % 2

-- the 32 bytes of four 64-bit words, little-endian (RFC 7748 section 5)
unfoldable pub bytes_of_words : List ℕ → List ℕ
bytes_of_words words =
    to_le_bytes w64 (slice_index words 0) ++ to_le_bytes w64 (slice_index words 1)
    ++ to_le_bytes w64 (slice_index words 2) ++ to_le_bytes w64 (slice_index words 3)

-- the number of 32 bytes, little-endian (RFC 7748 section 5, decodeLittleEndian)
unfoldable pub number_of_32 : List ℕ → ℕ
number_of_32 bytes = word_at bytes 0 + 2 ^ 64 * word_at bytes 8 + 2 ^ 128 * word_at bytes 16 + 2 ^ 192 * word_at bytes 24
