-- AES by bits that stand apart, as the code has it.

use Rattle.std.proofs.Common.{◌≡◌, add-one, refl}
use Rattle.std.specs.Prelude.{ℕ, zero, suc, ◌+◌, ◌-◌, ◌*◌, ◌/◌, ◌%◌, ◌^◌, List, [], ◌∷◌, length, slice_index, bit_and, bit_xor}
use Rattle.sshsuite.specs.Aes.{shift_rows, turned_words}
use Rattle.sshsuite.specs.SBox.{circuit}

-- of each number, the lowest bit of each byte
unfoldable pub planes : ℕ → List ℕ
planes a =
    bit_and a 0x01010101010101010101010101010101 ∷ bit_and (a / 2 ^ 1) 0x01010101010101010101010101010101
    ∷ bit_and (a / 2 ^ 2) 0x01010101010101010101010101010101 ∷ bit_and (a / 2 ^ 3) 0x01010101010101010101010101010101
    ∷ bit_and (a / 2 ^ 4) 0x01010101010101010101010101010101 ∷ bit_and (a / 2 ^ 5) 0x01010101010101010101010101010101
    ∷ bit_and (a / 2 ^ 6) 0x01010101010101010101010101010101 ∷ bit_and (a / 2 ^ 7) 0x01010101010101010101010101010101 ∷ []

-- the bytes of bits that stand apart
unfoldable pub joined : List ℕ → ℕ
joined p =
    bit_xor (bit_xor (bit_xor (bit_xor (bit_xor (bit_xor (bit_xor (slice_index p 0) (slice_index p 1 * 2 ^ 1 % 2 ^ 128))
    (slice_index p 2 * 2 ^ 2 % 2 ^ 128)) (slice_index p 3 * 2 ^ 3 % 2 ^ 128)) (slice_index p 4 * 2 ^ 4 % 2 ^ 128))
    (slice_index p 5 * 2 ^ 5 % 2 ^ 128)) (slice_index p 6 * 2 ^ 6 % 2 ^ 128)) (slice_index p 7 * 2 ^ 7 % 2 ^ 128)

-- of eight numbers the bit with this number of each byte, those of the first number lowest
unfoldable pub gathered : List ℕ → ℕ → ℕ
gathered b k =
    joined (bit_and (slice_index b 0 / 2 ^ k) 0x01010101010101010101010101010101 ∷ bit_and (slice_index b 1 / 2 ^ k) 0x01010101010101010101010101010101 ∷ bit_and (slice_index b 2 / 2 ^ k) 0x01010101010101010101010101010101 ∷ bit_and (slice_index b 3 / 2 ^ k) 0x01010101010101010101010101010101 ∷ bit_and (slice_index b 4 / 2 ^ k) 0x01010101010101010101010101010101 ∷ bit_and (slice_index b 5 / 2 ^ k) 0x01010101010101010101010101010101 ∷ bit_and (slice_index b 6 / 2 ^ k) 0x01010101010101010101010101010101 ∷ bit_and (slice_index b 7 / 2 ^ k) 0x01010101010101010101010101010101 ∷ [])

-- of eight blocks their planes, and of planes their blocks
unfoldable pub exchanged : List ℕ → List ℕ
exchanged b = gathered b 0 ∷ gathered b 1 ∷ gathered b 2 ∷ gathered b 3 ∷ gathered b 4 ∷ gathered b 5 ∷ gathered b 6 ∷ gathered b 7 ∷ []

-- a bit of a round key, of each byte for eight blocks
unfoldable pub spread : ℕ → ℕ → ℕ
spread key k = bit_and (key / 2 ^ k) 0x01010101010101010101010101010101 * 0xff % 2 ^ 128

-- a round key for eight blocks, as its eight planes
unfoldable pub key_planes : ℕ → List ℕ
key_planes key = spread key 0 ∷ spread key 1 ∷ spread key 2 ∷ spread key 3 ∷ spread key 4 ∷ spread key 5 ∷ spread key 6 ∷ spread key 7 ∷ []

-- planes XOR planes
unfoldable pub keyed : List ℕ → List ℕ → List ℕ
keyed p k = bit_xor (slice_index p 0) (slice_index k 0) ∷ bit_xor (slice_index p 1) (slice_index k 1) ∷ bit_xor (slice_index p 2) (slice_index k 2) ∷ bit_xor (slice_index p 3) (slice_index k 3) ∷ bit_xor (slice_index p 4) (slice_index k 4) ∷ bit_xor (slice_index p 5) (slice_index k 5) ∷ bit_xor (slice_index p 6) (slice_index k 6) ∷ bit_xor (slice_index p 7) (slice_index k 7) ∷ []

-- the S-box of all bytes
unfoldable pub images : List ℕ → List ℕ
images p =
    let q = circuit p in
    bit_xor (slice_index q 0) 0xffffffffffffffffffffffffffffffff ∷ bit_xor (slice_index q 1) 0xffffffffffffffffffffffffffffffff ∷ slice_index q 2 ∷ slice_index q 3 ∷ slice_index q 4 ∷ bit_xor (slice_index q 5) 0xffffffffffffffffffffffffffffffff ∷ bit_xor (slice_index q 6) 0xffffffffffffffffffffffffffffffff ∷ slice_index q 7 ∷ []

-- ShiftRows of all planes (FIPS 197 section 5.1.2)
unfoldable pub shifted_planes : List ℕ → List ℕ
shifted_planes p = shift_rows (slice_index p 0) ∷ shift_rows (slice_index p 1) ∷ shift_rows (slice_index p 2) ∷ shift_rows (slice_index p 3) ∷ shift_rows (slice_index p 4) ∷ shift_rows (slice_index p 5) ∷ shift_rows (slice_index p 6) ∷ shift_rows (slice_index p 7) ∷ []

-- a plane below and a plane of sums, and the plane of the doubled sums
unfoldable pub mixed_plane : ℕ → ℕ → ℕ → ℕ
mixed_plane b u doubled = bit_xor (bit_xor doubled b) (turned_words (turned_words u))

-- each plane with its bytes turned within a column by one place
unfoldable pub turned_planes : List ℕ → List ℕ
turned_planes p = turned_words (slice_index p 0) ∷ turned_words (slice_index p 1) ∷ turned_words (slice_index p 2) ∷ turned_words (slice_index p 3) ∷ turned_words (slice_index p 4) ∷ turned_words (slice_index p 5) ∷ turned_words (slice_index p 6) ∷ turned_words (slice_index p 7) ∷ []

-- MixColumns of all planes (FIPS 197 section 5.1.3)
unfoldable pub mixed_planes : List ℕ → List ℕ
mixed_planes p =
    let b = turned_planes p in
    let u = keyed p b in
    mixed_plane (slice_index b 0) (slice_index u 0) (slice_index u 7) ∷ mixed_plane (slice_index b 1) (slice_index u 1) (bit_xor (slice_index u 0) (slice_index u 7)) ∷ mixed_plane (slice_index b 2) (slice_index u 2) (slice_index u 1) ∷ mixed_plane (slice_index b 3) (slice_index u 3) (bit_xor (slice_index u 2) (slice_index u 7)) ∷ mixed_plane (slice_index b 4) (slice_index u 4) (bit_xor (slice_index u 3) (slice_index u 7)) ∷ mixed_plane (slice_index b 5) (slice_index u 5) (slice_index u 4) ∷ mixed_plane (slice_index b 6) (slice_index u 6) (slice_index u 5) ∷ mixed_plane (slice_index b 7) (slice_index u 7) (slice_index u 6) ∷ []

-- the planes of eight blocks after so many rounds
unfoldable pub planes_after : List ℕ → List ℕ → ℕ → List ℕ
planes_after keys blocks zero = keyed (exchanged blocks) (key_planes (slice_index keys 0))
planes_after keys blocks (suc n) = keyed (mixed_planes (shifted_planes (images (planes_after keys blocks n)))) (key_planes (slice_index keys (suc n)))

pub planes_none : (keys blocks : List ℕ) → planes_after keys blocks 0 ≡ keyed (exchanged blocks) (key_planes (slice_index keys 0))
unfolding planes_after
planes_none keys blocks = refl

pub planes_more : (keys blocks : List ℕ) (n : ℕ)
    → planes_after keys blocks (n + 1) ≡ keyed (mixed_planes (shifted_planes (images (planes_after keys blocks n)))) (key_planes (slice_index keys (n + 1)))
unfolding planes_after
planes_more keys blocks n = rw (add-one n) refl

-- eight blocks encrypted by their round keys, one more than there are rounds
unfoldable pub eight_ciphers : List ℕ → List ℕ → List ℕ
eight_ciphers keys blocks =
    exchanged (keyed (shifted_planes (images (planes_after keys blocks (length keys - 2)))) (key_planes (slice_index keys (length keys - 1))))
