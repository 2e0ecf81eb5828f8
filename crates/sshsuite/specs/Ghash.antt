-- GHASH as the code has it, which is SP 800-38D's: a block is a number of 128 bits, whose bit 0 is the highest.

use Rattle.std.proofs.Common.{◌≡◌, add-one, refl}
use Rattle.std.specs.Prelude.{ℕ, zero, suc, ◌+◌, ◌-◌, ◌*◌, ◌/◌, ◌%◌, ◌^◌, ◌==◌, List, length, take, drop, min, bit_xor, if◌then◌else◌}
use Rattle.sshsuite.specs.Aes.{number_at}
use Rattle.sshsuite.specs.Sealing.{filled_up}

-- a block times x: what is shifted out comes back as the reduction
unfoldable pub shifted : ℕ → ℕ
shifted v = if v % 2 == 1 then bit_xor (v / 2 ^ 1) (0xe1 * 2 ^ 120) else v / 2 ^ 1

-- a block times x, so many times
unfoldable pub shifted_by : ℕ → ℕ → ℕ
shifted_by v zero = v
shifted_by v (suc n) = shifted (shifted_by v n)

-- the sum of the products with the first bits of a block
unfoldable pub times_to : ℕ → ℕ → ℕ → ℕ
times_to x y zero = 0
times_to x y (suc n) = if x / 2 ^ (127 - n) % 2 == 1 then bit_xor (times_to x y n) (shifted_by y n) else times_to x y n

-- the product of two blocks
unfoldable pub times : ℕ → ℕ → ℕ
times x y = times_to x y 128

pub shifted_none : (v : ℕ) → shifted_by v 0 ≡ v
unfolding shifted_by
shifted_none v = refl

pub shifted_more : (v n : ℕ) → shifted_by v (n + 1) ≡ shifted (shifted_by v n)
unfolding shifted_by
shifted_more v n = rw (add-one n) refl

pub times_none : (x y : ℕ) → times_to x y 0 ≡ 0
unfolding times_to
times_none x y = refl

pub times_more : (x y n : ℕ) → times_to x y (n + 1) ≡ (if x / 2 ^ (127 - n) % 2 == 1 then bit_xor (times_to x y n) (shifted_by y n) else times_to x y n)
unfolding times_to
times_more x y n = rw (add-one n) refl

-- the block with this number, with zeros after the last bytes
unfoldable pub padded_block : List ℕ → ℕ → ℕ
padded_block input i = number_at (filled_up (take (min (16 * i + 16) (length input) - 16 * i) (drop (16 * i) input))) 0

-- the sum so far and so many blocks, each times the key
unfoldable pub hash_to : ℕ → ℕ → List ℕ → ℕ → ℕ
hash_to key sum input zero = sum
hash_to key sum input (suc n) = times (bit_xor (hash_to key sum input n) (padded_block input n)) key

pub hash_none : (key sum : ℕ) (input : List ℕ) → hash_to key sum input 0 ≡ sum
unfolding hash_to
hash_none key sum input = refl

pub hash_more : (key sum : ℕ) (input : List ℕ) (n : ℕ) → hash_to key sum input (n + 1) ≡ times (bit_xor (hash_to key sum input n) (padded_block input n)) key
unfolding hash_to
hash_more key sum input n = rw (add-one n) refl

-- the sum so far and all blocks
unfoldable pub hashed : ℕ → ℕ → List ℕ → ℕ
hashed key sum input = hash_to key sum input ((length input + 15) / 16)

-- the hash of the additional data and of the sealed bytes, each filled up to blocks, and of their lengths in bits
unfoldable pub ghash : ℕ → List ℕ → List ℕ → ℕ
ghash key additional sealed =
    times (bit_xor (hashed key (hashed key 0 additional) sealed) (length additional * 8 * 2 ^ 64 + length sealed * 8)) key
