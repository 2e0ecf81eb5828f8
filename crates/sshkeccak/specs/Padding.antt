-- The sponge as FIPS 202 section 4 defines it: a padded input, of which block after block is absorbed. All is in whole bytes.

use Rattle.std.specs.Prelude.{ℕ, ◌-◌, ◌*◌, ◌/◌, ◌%◌, ◌==◌, if◌then◌else◌, List, [], ◌∷◌, ◌++◌, length, replicate, bit_xor}
use Rattle.sshkeccak.specs.Repeated.{repeated}
use Rattle.sshkeccak.specs.Sponge.{absorbed_next}

-- what follows an input of n bytes: the suffix of the function and pad10*1, up to a whole block of `rate` bytes (section 5.1, algorithm 9). In
-- bytes that is `suffix`, which has the suffix bits and the first 1 of pad10*1; zeros; and 0x80, which has its last 1. Where one byte is left,
-- it has both (section B.2, table 6)
unfoldable pub padding : ℕ → ℕ → ℕ → List ℕ
padding rate suffix n =
    let left = rate - n % rate in
    if left == 1 then bit_xor suffix 0x80 ∷ [] else suffix ∷ (replicate (left - 2) 0 ++ 0x80 ∷ [])

-- the padded input P (section 4, algorithm 8, step 1)
unfoldable pub padded : ℕ → ℕ → List ℕ → List ℕ
padded rate suffix input = input ++ padding rate suffix (length input)

-- the state after each block of P is added to it and the state is permuted (algorithm 8, steps 2 to 6)
unfoldable pub absorbed_blocks : ℕ → List ℕ → List ℕ
absorbed_blocks lanes p = repeated (absorbed_next p lanes) (replicate 25 0) (length p / (8 * lanes))
