-- What is drawn from bytes, apart from how: SampleNTT as a filter of its stream, and SamplePolyCBD by bits (FIPS 203 section 4.2.2).

use Rattle.std.specs.List.{filter}
use Rattle.std.specs.Prelude.{ℕ, zero, suc, ◌+◌, ◌-◌, ◌*◌, ◌%◌, nat_lt, List, [], ◌∷◌, ◌++◌, length, replicate, take}
use Rattle.sshkeccak.specs.Sponge.{shake128_block, shake128_next}
use Rattle.sshmlkem.specs.Bits.{bit_of, each}
use Rattle.sshmlkem.specs.Codec.{first_12, second_12}

-- the state of SHAKE128 that holds block n of its output
unfoldable pub state_of : List ℕ → ℕ → List ℕ
state_of start zero = start
state_of start (suc n) = shake128_next (state_of start n)

-- the first n blocks of an output of SHAKE128, which have 168 bytes each
unfoldable pub stream : List ℕ → ℕ → List ℕ
stream start zero = []
stream start (suc n) = stream start n ++ shake128_block (state_of start n)

-- the candidates of a stream: two numbers of 12 bits in each three bytes (algorithm 7, lines 5 to 7)
unfoldable pub candidates : List ℕ → List ℕ
candidates (a ∷ b ∷ c ∷ bytes) = first_12 a b ∷ second_12 b c ∷ candidates bytes
candidates bytes = []

-- the candidates that are below q, in their order (algorithm 7, lines 8 to 15)
unfoldable pub accepted_of : List ℕ → List ℕ
accepted_of bytes = filter (λ n. nat_lt n 3329) (candidates bytes)

-- the first 256 numbers of a list, followed by zeros where it has fewer
unfoldable pub first_256 : List ℕ → List ℕ
first_256 numbers = take 256 numbers ++ replicate (256 - length numbers) 0

-- number i of SamplePolyCBD, where eta is 2: the sum of two bits less the sum of the next two, modulo q (algorithm 8, lines 3 to 5)
unfoldable pub binomial_at : List ℕ → ℕ → ℕ
binomial_at bytes i = (bit_of 8 bytes (4 * i) + bit_of 8 bytes (4 * i + 1) + 3329 - (bit_of 8 bytes (4 * i + 2) + bit_of 8 bytes (4 * i + 3))) % 3329

-- SamplePolyCBD (algorithm 8)
unfoldable pub binomial : List ℕ → List ℕ
binomial bytes = each 256 (binomial_at bytes)
