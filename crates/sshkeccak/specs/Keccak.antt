-- Keccak-f[1600] (FIPS 202 section 3). A state is a list of 25 lanes, which are numbers below 2^64: the lane in column x and row y has the index
-- x + 5 y.

use Rattle.std.proofs.Common.{◌≡◌, add-one, refl}
use Rattle.std.specs.Prelude.{ℕ, zero, suc, ◌+◌, ◌*◌, ◌/◌, ◌%◌, List, [], ◌∷◌, slice_index, slice_set, bit_and, bit_xor}
use Rattle.std.specs.Int.{w64, rotate_left, bit_not}

-- f i, f (i + 1) and on, n of them
abbrev pub each_from : ℕ → ℕ → (ℕ → ℕ) → List ℕ
each_from i zero f = []
each_from i (suc n) f = f i ∷ each_from (i + 1) n f

-- the parity of column x (section 3.2.1, algorithm 1, step 1)
unfoldable pub parity : List ℕ → ℕ → ℕ
parity a x = bit_xor (bit_xor (bit_xor (bit_xor (slice_index a x) (slice_index a (x + 5))) (slice_index a (x + 10))) (slice_index a (x + 15))) (slice_index a (x + 20))

-- what theta adds to column x (algorithm 1, step 2)
unfoldable pub added : List ℕ → ℕ → ℕ
added a x = bit_xor (parity a ((x + 4) % 5)) (rotate_left w64 (parity a ((x + 1) % 5)) 1)

-- theta (algorithm 1)
unfoldable pub theta : List ℕ → List ℕ
theta a = each_from 0 25 (λ i. bit_xor (slice_index a i) (added a (i % 5)))

-- by how many bits rho rotates each lane: table 2 of section 3.2.2, modulo 64
abbrev pub offsets : List ℕ
offsets =
    0 ∷ 1 ∷ 62 ∷ 28 ∷ 27
    ∷ 36 ∷ 44 ∷ 6 ∷ 55 ∷ 20
    ∷ 3 ∷ 10 ∷ 43 ∷ 25 ∷ 39
    ∷ 41 ∷ 45 ∷ 15 ∷ 21 ∷ 8
    ∷ 18 ∷ 2 ∷ 61 ∷ 56 ∷ 14 ∷ []

-- rho (section 3.2.2, algorithm 2)
unfoldable pub rho : List ℕ → List ℕ
rho a = each_from 0 25 (λ i. rotate_left w64 (slice_index a i) (slice_index offsets i))

-- pi: the lane in column x and row y becomes that of column x + 3 y and row x (section 3.2.3, algorithm 3)
unfoldable pub pi : List ℕ → List ℕ
pi a = each_from 0 25 (λ i. slice_index a ((i % 5 + 3 * (i / 5)) % 5 + 5 * (i % 5)))

-- a lane of chi, of three lanes that follow one another in a row (section 3.2.4, algorithm 4, step 1)
unfoldable pub mixed : ℕ → ℕ → ℕ → ℕ
mixed a b c = bit_xor a (bit_and (bit_not w64 b) c)

-- chi (algorithm 4)
unfoldable pub chi : List ℕ → List ℕ
chi a = each_from 0 25 (λ i. mixed (slice_index a i) (slice_index a ((i % 5 + 1) % 5 + 5 * (i / 5))) (slice_index a ((i % 5 + 2) % 5 + 5 * (i / 5))))

-- a round, of which iota adds the constant to lane 0 (section 3.2.5, algorithm 6; section 3.3)
unfoldable pub round : List ℕ → ℕ → List ℕ
round a constant = let next = chi (pi (rho (theta a))) in slice_set next 0 (bit_xor (slice_index next 0) constant)

-- the constants of the 24 rounds (section 3.2.5, algorithm 5)
abbrev pub constants : List ℕ
constants =
    0x0000000000000001 ∷ 0x0000000000008082 ∷ 0x800000000000808a ∷ 0x8000000080008000
    ∷ 0x000000000000808b ∷ 0x0000000080000001 ∷ 0x8000000080008081 ∷ 0x8000000000008009
    ∷ 0x000000000000008a ∷ 0x0000000000000088 ∷ 0x0000000080008009 ∷ 0x000000008000000a
    ∷ 0x000000008000808b ∷ 0x800000000000008b ∷ 0x8000000000008089 ∷ 0x8000000000008003
    ∷ 0x8000000000008002 ∷ 0x8000000000000080 ∷ 0x000000000000800a ∷ 0x800000008000000a
    ∷ 0x8000000080008081 ∷ 0x8000000000008080 ∷ 0x0000000080000001 ∷ 0x8000000080008008 ∷ []

-- the state after n rounds (section 3.3, algorithm 7)
unfoldable pub after_rounds : List ℕ → ℕ → List ℕ
after_rounds a zero = a
after_rounds a (suc n) = round (after_rounds a n) (slice_index constants n)

-- steps of the loop
pub rounds_none : (a : List ℕ) → after_rounds a 0 ≡ a
unfolding after_rounds
rounds_none a = refl

pub rounds_more : (a : List ℕ) (n : ℕ) → after_rounds a (n + 1) ≡ round (after_rounds a n) (slice_index constants n)
unfolding after_rounds
rounds_more a n = rw (add-one n) refl

-- Keccak-f[1600]: 24 rounds (section 3.4)
unfoldable pub keccak : List ℕ → List ℕ
keccak a = after_rounds a 24
