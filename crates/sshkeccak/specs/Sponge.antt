-- The sponge construction over Keccak-f[1600] (FIPS 202 section 4), for inputs and outputs of whole bytes. A lane is 8 bytes, the lowest first,
-- and a block is as many lanes as the rate has.

use Rattle.std.specs.Prelude.{ℕ, ◌+◌, ◌-◌, ◌*◌, ◌/◌, ◌%◌, ◌^◌, List, [], ◌∷◌, ◌++◌, length, drop, take, replicate, slice_index, slice_set, bit_xor}
use Rattle.std.specs.Int.{w64, from_le_bytes}
use Rattle.sshkeccak.specs.Keccak.{keccak}
use Rattle.sshkeccak.specs.Repeated.{repeated}

-- the lane that eight bytes spell, from byte i on (sections 3.1.2 and B.1)
unfoldable pub lane_at : List ℕ → ℕ → ℕ
lane_at bytes i =
    from_le_bytes w64 (slice_index bytes i ∷ slice_index bytes (i + 1) ∷ slice_index bytes (i + 2) ∷ slice_index bytes (i + 3)
    ∷ slice_index bytes (i + 4) ∷ slice_index bytes (i + 5) ∷ slice_index bytes (i + 6) ∷ slice_index bytes (i + 7) ∷ [])

-- the state with lane i of a block added, which begins at byte `at`
unfoldable pub joined : List ℕ → ℕ → List ℕ → ℕ → List ℕ
joined bytes at a i = slice_set a i (bit_xor (slice_index a i) (lane_at bytes (at + 8 * i)))

-- the state that has absorbed a block (algorithm 8, step 6)
unfoldable pub absorbed : List ℕ → List ℕ → ℕ → ℕ → List ℕ
absorbed a bytes at lanes = keccak (repeated (joined bytes at) a lanes)

-- the state that has absorbed block i of the input
unfoldable pub absorbed_next : List ℕ → ℕ → List ℕ → ℕ → List ℕ
absorbed_next input lanes a i = absorbed a input (8 * lanes * i) lanes

-- the bytes, followed by zeros up to 200 bytes
unfoldable pub filled_up : List ℕ → List ℕ
filled_up bytes = bytes ++ replicate (200 - length bytes) 0

-- the last block of a padded input: the rest of the input; the byte `suffix`, which is the suffix of the function and the first bit of pad10*1;
-- zeros; and the last bit of pad10*1, which is the highest of the block (sections 5.1 and B.2)
unfoldable pub last_block : List ℕ → ℕ → ℕ → List ℕ
last_block rest rate suffix =
    let filled = slice_set (filled_up rest) (length rest) suffix in
    slice_set filled (rate - 1) (bit_xor (slice_index filled (rate - 1)) 0x80)

-- the state that has absorbed a whole input; `suffix` is the byte after it (algorithm 8, steps 1 to 6)
unfoldable pub sponge : ℕ → ℕ → List ℕ → List ℕ
sponge lanes suffix input =
    let rate = 8 * lanes in
    let whole = length input / rate in
    absorbed (repeated (absorbed_next input lanes) (replicate 25 0) whole) (last_block (drop (rate * whole) input) rate suffix) 0 lanes

-- byte i of a state (sections 3.1.3 and B.1)
unfoldable pub with_byte : List ℕ → List ℕ → ℕ → List ℕ
with_byte a bytes i = slice_set bytes i (slice_index a (i / 8) / 2 ^ (8 * (i % 8)) % 256)

-- all 200 bytes of a state
unfoldable pub bytes_of : List ℕ → List ℕ
bytes_of a = repeated (with_byte a) (replicate 200 0) 200

-- SHA3-256: capacity 512, suffix 01 (section 6.1)
unfoldable pub sha3_256 : List ℕ → List ℕ
sha3_256 input = take 32 (bytes_of (sponge 17 0x06 input))

-- SHA3-512: capacity 1024, suffix 01 (section 6.1)
unfoldable pub sha3_512 : List ℕ → List ℕ
sha3_512 input = take 64 (bytes_of (sponge 9 0x06 input))

-- the first 32 bytes of SHAKE256: capacity 512, suffix 1111 (FIPS 202 section 6.2)
unfoldable pub shake256_32 : List ℕ → List ℕ
shake256_32 input = take 32 (bytes_of (sponge 17 0x1f input))

-- the first 96 bytes of SHAKE256 (FIPS 202 section 6.2)
unfoldable pub shake256_96 : List ℕ → List ℕ
shake256_96 input = take 96 (bytes_of (sponge 17 0x1f input))

-- the first 128 bytes of SHAKE256 (FIPS 202 section 6.2)
unfoldable pub shake256_128 : List ℕ → List ℕ
shake256_128 input = take 128 (bytes_of (sponge 17 0x1f input))

-- SHAKE128: capacity 256, suffix 1111 (section 6.2). The state that holds its first 168 bytes
unfoldable pub shake128_start : List ℕ → List ℕ
shake128_start input = sponge 21 0x1f input

-- the state that holds the next 168 bytes (algorithm 8, step 10)
unfoldable pub shake128_next : List ℕ → List ℕ
shake128_next a = keccak a

-- the 168 bytes that a state holds (algorithm 8, step 8)
unfoldable pub shake128_block : List ℕ → List ℕ
shake128_block a = take 168 (bytes_of a)
