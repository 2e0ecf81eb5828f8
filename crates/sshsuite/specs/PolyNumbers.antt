-- Poly1305 as RFC 8439 section 2.5 tells it, in numbers modulo 2^130 - 5.

use Rattle.std.proofs.Common.{ℕ, zero, suc, ◌+◌, ◌-◌, ◌*◌, ◌/◌, ◌%◌, ◌^◌, List, ◌∷◌, ◌++◌, length}
use Rattle.std.specs.Int.{w128, to_le_bytes}
use Rattle.std.specs.Prelude.{◌==◌, bit_and, if◌then◌else◌, replicate}
use Rattle.sshcurve.specs.Bits.{word_at}
use Rattle.sshsuite.specs.Poly1305.{block_at}

-- 2^130 - 5
abbrev pub modulus : ℕ
modulus = 1361129467683753853853498429727072845819

-- the number of 16 bytes, the lowest first
unfoldable pub number_of_16 : List ℕ → ℕ
number_of_16 bytes = word_at bytes 0 + 2 ^ 64 * word_at bytes 8

-- r: the first half of the key, of which some bits are left out
unfoldable pub r_number : List ℕ → ℕ
r_number key = bit_and (word_at key 0) 0x0ffffffc0fffffff + 2 ^ 64 * bit_and (word_at key 8) 0x0ffffffc0ffffffc

-- s: the second half of the key
unfoldable pub s_number : List ℕ → ℕ
s_number key = word_at key 16 + 2 ^ 64 * word_at key 24

-- a block with the byte 1 after it
unfoldable pub block_number : List ℕ → ℕ
block_number block =
    if length block == 16 then number_of_16 block + 2 ^ 128
    else number_of_16 (block ++ 1 ∷ replicate (15 - length block) 0)

-- the accumulator after so many blocks
unfoldable pub accumulator : List ℕ → ℕ → ℕ → ℕ
accumulator input r zero = 0
accumulator input r (suc n) = (accumulator input r n + block_number (block_at input n)) * r % modulus

-- the tag of the input by a key that is used once
unfoldable pub mac : List ℕ → List ℕ → List ℕ
mac key input = to_le_bytes w128 ((accumulator input (r_number key) ((length input + 15) / 16) + s_number key) % 2 ^ 128)
