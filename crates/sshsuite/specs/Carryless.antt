-- The product of polynomials over GF(2), each a number whose bit k is the factor of the kth power.

use Rattle.std.specs.Prelude.{ℕ, zero, suc, ◌-◌, ◌*◌, ◌/◌, ◌%◌, ◌^◌, List, [], ◌∷◌, bit_and, bit_xor}

-- the sum of the products with the first powers, from the 127th down
unfoldable pub carryless_to : ℕ → ℕ → ℕ → ℕ
carryless_to x y zero = 0
carryless_to x y (suc n) = bit_xor (carryless_to x y n) (x / 2 ^ (127 - n) % 2 * (y * 2 ^ (127 - n)))

-- the product with a polynomial of at most 128 factors
unfoldable pub carryless : ℕ → ℕ → ℕ
carryless x y = carryless_to x y 128

-- the places of each fifth bit of a word
abbrev pub each_fifth : ℕ
each_fifth = 0x1084210842108421

-- each fifth bit of a word, from the lowest on, from the one above it on, and so on
unfoldable pub fifths : ℕ → List ℕ
fifths x =
    bit_and x each_fifth
    ∷ bit_and (x / 2 ^ 1) each_fifth
    ∷ bit_and (x / 2 ^ 2) each_fifth
    ∷ bit_and (x / 2 ^ 3) each_fifth
    ∷ bit_and (x / 2 ^ 4) each_fifth
    ∷ []
