-- Poly1305 as the code has it, in five limbs of 26 bits.

use Rattle.std.proofs.Common.{◌≡◌, add-one, refl}
use Rattle.std.specs.Prelude.{ℕ, zero, suc, ◌+◌, ◌-◌, ◌*◌, ◌/◌, ◌%◌, ◌^◌, ◌==◌, List, [], ◌∷◌, ◌++◌, length, take, drop, slice_index, bit_and, bit_or, if◌then◌else◌, replicate, min}
use Rattle.std.specs.Int.{w128, to_le_bytes}
use Rattle.sshcurve.specs.Bits.{word_at}
use Rattle.sshsuite.specs.Limbs.{add64, mul64, reduced_once}

-- the limbs of two words, and of what stands above them
unfoldable pub limbs_of : ℕ → ℕ → ℕ → List ℕ
limbs_of low high above =
    low % 2 ^ 26 ∷ low / 2 ^ 26 % 2 ^ 26 ∷ bit_or (low / 2 ^ 52) (high * 2 ^ 12 % 2 ^ 64) % 2 ^ 26 ∷ high / 2 ^ 14 % 2 ^ 26
    ∷ bit_or (high / 2 ^ 40) above ∷ []

-- the sum of the products of the limbs at each place
unfoldable pub dot : List ℕ → List ℕ → ℕ
dot a b =
    add64 (add64 (add64 (add64 (mul64 (slice_index a 0) (slice_index b 0)) (mul64 (slice_index a 1) (slice_index b 1)))
    (mul64 (slice_index a 2) (slice_index b 2))) (mul64 (slice_index a 3) (slice_index b 3))) (mul64 (slice_index a 4) (slice_index b 4))

-- five sums as limbs of 26 bits, carried once: what the highest has too much comes back five times at the lowest
unfoldable pub carried : List ℕ → List ℕ
carried sums =
    let c0 = slice_index sums 0 in
    let c1 = add64 (slice_index sums 1) (c0 / 2 ^ 26) in
    let c2 = add64 (slice_index sums 2) (c1 / 2 ^ 26) in
    let c3 = add64 (slice_index sums 3) (c2 / 2 ^ 26) in
    let c4 = add64 (slice_index sums 4) (c3 / 2 ^ 26) in
    let d0 = add64 (c0 % 2 ^ 26) (mul64 (c4 / 2 ^ 26) 5) in
    d0 % 2 ^ 26 ∷ add64 (c1 % 2 ^ 26) (d0 / 2 ^ 26) ∷ c2 % 2 ^ 26 ∷ c3 % 2 ^ 26 ∷ c4 % 2 ^ 26 ∷ []

-- the product of two numbers of five limbs, as five limbs, modulo 2^130 - 5
unfoldable pub mul : List ℕ → List ℕ → List ℕ
mul a b =
    let b0 = slice_index b 0 in
    let b1 = slice_index b 1 in
    let b2 = slice_index b 2 in
    let b3 = slice_index b 3 in
    let b4 = slice_index b 4 in
    let s1 = mul64 b1 5 in
    let s2 = mul64 b2 5 in
    let s3 = mul64 b3 5 in
    let s4 = mul64 b4 5 in
    carried (dot a (b0 ∷ s4 ∷ s3 ∷ s2 ∷ s1 ∷ []) ∷ dot a (b1 ∷ b0 ∷ s4 ∷ s3 ∷ s2 ∷ []) ∷ dot a (b2 ∷ b1 ∷ b0 ∷ s4 ∷ s3 ∷ [])
    ∷ dot a (b3 ∷ b2 ∷ b1 ∷ b0 ∷ s4 ∷ []) ∷ dot a (b4 ∷ b3 ∷ b2 ∷ b1 ∷ b0 ∷ []) ∷ [])

-- the sum of two numbers of five limbs, limb by limb
unfoldable pub add : List ℕ → List ℕ → List ℕ
add a b =
    add64 (slice_index a 0) (slice_index b 0) ∷ add64 (slice_index a 1) (slice_index b 1) ∷ add64 (slice_index a 2) (slice_index b 2)
    ∷ add64 (slice_index a 3) (slice_index b 3) ∷ add64 (slice_index a 4) (slice_index b 4) ∷ []

-- the factor of a key
unfoldable pub clamped_r : List ℕ → List ℕ
clamped_r key = limbs_of (bit_and (word_at key 0) 0x0ffffffc0fffffff) (bit_and (word_at key 8) 0x0ffffffc0ffffffc) 0

-- a block with the byte 1 after it, which is what stands above 16 bytes, and zeros after fewer
unfoldable pub block_limbs : List ℕ → List ℕ
block_limbs block =
    if length block == 16 then limbs_of (word_at block 0) (word_at block 8) (2 ^ 24)
    else (let padded = block ++ 1 ∷ replicate (15 - length block) 0 in limbs_of (word_at padded 0) (word_at padded 8) 0)

-- the sum so far and a block, times the factor
unfoldable pub accumulated : List ℕ → List ℕ → List ℕ → List ℕ
accumulated sum factor block = mul (add sum (block_limbs block)) factor

-- the block with this number of the input
unfoldable pub block_at : List ℕ → ℕ → List ℕ
block_at input i = take (min (16 * i + 16) (length input) - 16 * i) (drop (16 * i) input)

-- the sum of so many blocks
unfoldable pub sum_to : List ℕ → List ℕ → ℕ → List ℕ
sum_to input factor zero = 0 ∷ 0 ∷ 0 ∷ 0 ∷ 0 ∷ []
sum_to input factor (suc n) = accumulated (sum_to input factor n) factor (block_at input n)

pub sum_none : (input factor : List ℕ) → sum_to input factor 0 ≡ 0 ∷ 0 ∷ 0 ∷ 0 ∷ 0 ∷ []
unfolding sum_to
sum_none input factor = refl

pub sum_more : (input factor : List ℕ) (n : ℕ) → sum_to input factor (n + 1) ≡ accumulated (sum_to input factor n) factor (block_at input n)
unfolding sum_to
sum_more input factor n = rw (add-one n) refl

-- the limbs less 2^130 - 5 where they are more
unfoldable pub canonical : List ℕ → List ℕ
canonical h = reduced_once (2 ^ 26) 5 h

-- the number below 2^128 of five limbs
unfoldable pub packed : List ℕ → ℕ
packed l =
    bit_or (bit_or (bit_or (bit_or (slice_index l 0) (slice_index l 1 * 2 ^ 26 % 2 ^ 128)) (slice_index l 2 * 2 ^ 52 % 2 ^ 128))
    (slice_index l 3 * 2 ^ 78 % 2 ^ 128)) (slice_index l 4 * 2 ^ 104 % 2 ^ 128)

-- the number s: the second half of the key (RFC 8439 section 2.5)
unfoldable pub s_of : List ℕ → ℕ
s_of key = bit_or (word_at key 16) (word_at key 24 * 2 ^ 64 % 2 ^ 128)

-- the tag of the input by a key that is used once
unfoldable pub tag_of : List ℕ → List ℕ → List ℕ
tag_of key input =
    let sum = sum_to input (clamped_r key) ((length input + 15) / 16) in
    to_le_bytes w128 ((packed (canonical (carried (carried sum))) + s_of key) % 2 ^ 128)
