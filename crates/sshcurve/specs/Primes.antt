-- Primes.

use Rattle.std.specs.Prelude.{◌≡◌, ◌≢◌, ℕ, ◌-◌, ◌%◌, ◌^◌, ◌<◌}

-- m is a prime, by Fermat's theorem: the power m - 1 of each number that isn't 0 modulo m is 1 modulo m. So its power m - 2 is its inverse.
pub record IsField (m : ℕ) : Type 0 where
  pub some : 1 < m
  pub fermat : (w : ℕ) → w % m ≢ 0 → w ^ (m - 1) % m ≡ 1
