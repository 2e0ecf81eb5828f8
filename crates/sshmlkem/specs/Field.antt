-- Numbers modulo q = 3329 (FIPS 203 section 2.3).

use Rattle.std.specs.Prelude.{ℕ, ◌+◌, ◌-◌, ◌*◌, ◌%◌}

-- the sum modulo q
unfoldable pub sum : ℕ → ℕ → ℕ
sum a b = (a + b) % 3329

-- the difference modulo q, of two numbers of 16 bits: 66580 is 20 q, which is above the second
unfoldable pub difference : ℕ → ℕ → ℕ
difference a b = (a + 66580 - b) % 3329

-- the product modulo q, of a number and one below 2^12
unfoldable pub product : ℕ → ℕ → ℕ
product a b = a * (b % 4096) % 3329
