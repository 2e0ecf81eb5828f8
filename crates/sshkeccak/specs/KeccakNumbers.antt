-- The tables of Keccak-f[1600], as FIPS 202 computes them.

use Rattle.std.specs.Prelude.{ℕ, zero, suc, ◌+◌, ◌-◌, ◌*◌, ◌/◌, ◌%◌, ◌^◌, nat_lt, bit_xor, if◌then◌else◌, slice_index}
use Rattle.sshkeccak.specs.Keccak.{offsets}

-- the register R of algorithm 5 after one more step (section 3.2.5, step 3): its bit R[0] is the lowest
abbrev pub stepped : ℕ → ℕ
stepped r = if nat_lt r 128 then 2 * r else bit_xor (2 * r - 256) 0x71

-- the register after t steps
unfoldable pub register : ℕ → ℕ
register zero = 1
register (suc t) = stepped (register t)

-- the constant of a round with its bits 2^k - 1 for k below j: each is bit rc(k + 7 round) (algorithm 6, steps 2 and 3)
unfoldable pub constant_to : ℕ → ℕ → ℕ
constant_to round zero = 0
constant_to round (suc j) = constant_to round j + register (j + 7 * round) % 2 * 2 ^ (2 ^ j - 1)

-- the constant of a round, whose bits are those for j = 0 to 6
abbrev pub constant_of : ℕ → ℕ
constant_of round = constant_to round 7

-- the column and the row after t steps of algorithm 2 (section 3.2.2, step 3)
unfoldable pub walked : ℕ → ℕ × ℕ
walked zero = (1, 0)
walked (suc t) = let place = walked t in (place.1, (2 * place.0 + 3 * place.1) % 5)

-- by how many bits the lane there is rotated (algorithm 2, step 3a)
abbrev pub offset_at : ℕ → ℕ
offset_at t = (t + 1) * (t + 2) / 2 % 64

-- by how many bits the table rotates that lane
abbrev pub offset_found : ℕ → ℕ
offset_found t = slice_index offsets ((walked t).0 + 5 * (walked t).1)
