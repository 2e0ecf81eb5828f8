-- Words of 64 and 128 bits, and numbers of five limbs that are such words.

use Rattle.std.specs.Prelude.{ℕ, ◌+◌, ◌*◌, ◌/◌, ◌%◌, ◌^◌, List, [], ◌∷◌, slice_index}

-- the sum as a word of 64 bits: modulo 2^64
abbrev pub add64 : ℕ → ℕ → ℕ
add64 x y = (x + y) % 2 ^ 64

-- the product as a word of 64 bits: modulo 2^64
abbrev pub mul64 : ℕ → ℕ → ℕ
mul64 x y = x * y % 2 ^ 64

-- the sum as a word of 128 bits: modulo 2^128
abbrev pub add128 : ℕ → ℕ → ℕ
add128 x y = (x + y) % 2 ^ 128

-- the product as a word of 128 bits: modulo 2^128
abbrev pub mul128 : ℕ → ℕ → ℕ
mul128 x y = x * y % 2 ^ 128

-- the limbs of this radix less the modulus where they are more, which the fifth power of the radix exceeds by so much
unfoldable pub reduced_once : ℕ → ℕ → List ℕ → List ℕ
reduced_once radix excess a =
    let a0 = slice_index a 0 in
    let a1 = slice_index a 1 in
    let a2 = slice_index a 2 in
    let a3 = slice_index a 3 in
    let a4 = slice_index a 4 in
    let o0 = add64 a0 excess / radix in
    let o1 = add64 a1 o0 / radix in
    let o2 = add64 a2 o1 / radix in
    let o3 = add64 a3 o2 / radix in
    let over = add64 a4 o3 / radix in
    let l0 = add64 a0 (mul64 over excess) in
    let l1 = add64 a1 (l0 / radix) in
    let l2 = add64 a2 (l1 / radix) in
    let l3 = add64 a3 (l2 / radix) in
    let l4 = add64 a4 (l3 / radix) in
    l0 % radix ∷ l1 % radix ∷ l2 % radix ∷ l3 % radix ∷ l4 % radix ∷ []
