-- The tables of the transform, as FIPS 203 section 4.3 defines them.

use Rattle.std.specs.Prelude.{ℕ, zero, suc, ◌+◌, ◌*◌, ◌/◌, ◌%◌}

-- BitRev7: the seven bits of a number in the reverse order
abbrev pub bit_rev : ℕ → ℕ
bit_rev i = i % 2 * 64 + i / 2 % 2 * 32 + i / 4 % 2 * 16 + i / 8 % 2 * 8 + i / 16 % 2 * 4 + i / 32 % 2 * 2 + i / 64 % 2

-- 17 to the power n, modulo q
unfoldable pub power : ℕ → ℕ
power zero = 1
power (suc n) = power n * 17 % 3329

-- entry i of the first table
abbrev pub zeta_at : ℕ → ℕ
zeta_at i = power (bit_rev i)

-- entry i of the second table
abbrev pub gamma_at : ℕ → ℕ
gamma_at i = power (2 * bit_rev i + 1)
