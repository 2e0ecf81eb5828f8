-- Numbers that are drawn from bytes (FIPS 203 section 4.2.2).

use Rattle.std.specs.Prelude.{ℕ, ◌+◌, ◌-◌, ◌*◌, ◌/◌, ◌%◌, ◌&&◌, nat_lt, List, [], ◌∷◌, ◌++◌, replicate, slice_index, slice_set, if◌then◌else◌}
use Rattle.sshkeccak.specs.Repeated.{repeated}
use Rattle.sshkeccak.specs.Sponge.{shake128_block, shake128_next, shake128_start, shake256_128}
use Rattle.sshmlkem.specs.Codec.{first_12, second_12}
use Rattle.sshmlkem.specs.declared.sample.Taken.{Taken}

-- takes a number that is below q, where there is room (algorithm 7, lines 8 to 11 and 12 to 15)
unfoldable pub offered : Taken → ℕ → Taken
offered t n = if nat_lt n 3329 && nat_lt t.count 256 then record { numbers = slice_set t.numbers t.count n; count = t.count + 1; state = t.state } else t

-- takes both numbers of 12 bits in three bytes (algorithm 7, lines 5 to 15)
unfoldable pub offered_three : List ℕ → Taken → ℕ → Taken
offered_three block t i =
    let a = slice_index block (3 * i) in
    let b = slice_index block (3 * i + 1) in
    let c = slice_index block (3 * i + 2) in
    offered (offered t (first_12 a b)) (second_12 b c)

-- takes those of a block of 168 bytes
unfoldable pub offered_block : Taken → List ℕ → Taken
offered_block t block = repeated (offered_three block) t 56

-- the state in which no number is taken yet
abbrev pub nothing_taken : List ℕ → Taken
nothing_taken start = record { numbers = replicate 256 0; count = 0; state = start }

-- takes those of SHAKE128's next block
unfoldable pub drawn : Taken → Taken
drawn t =
    let next = shake128_next t.state in
    offered_block (record { numbers = t.numbers; count = t.count; state = next }) (shake128_block next)

-- takes the numbers of one block more, until there are 256 (algorithm 7, line 4)
unfoldable pub drawn_next : Taken → ℕ → Taken
drawn_next t i = if nat_lt t.count 256 then drawn t else t

-- algorithm 7, of the state of SHAKE128 after its input: it ends after five blocks, which are 280 steps (appendix B), and has zeros for numbers
-- that it then lacks
unfoldable pub accepted_data : List ℕ → List ℕ
accepted_data start = (repeated drawn_next (offered_block (nothing_taken start) (shake128_block start)) 4).numbers

-- SampleNTT of a seed and two bytes (algorithm 7): an entry of the matrix. It reads five blocks of SHAKE128 at most, and puts zeros for the
-- numbers that it lacks then.
unfoldable pub sample_ntt : List ℕ → ℕ → ℕ → List ℕ
sample_ntt seed column row = accepted_data (shake128_start (seed ++ column ∷ row ∷ []))

-- the sum of the first two of four bits less the sum of the others (algorithm 8, lines 3 to 5)
unfoldable pub centred : ℕ → ℕ
centred bits = (bits % 2 + bits / 2 % 2 + 3329 - (bits / 4 % 2 + bits / 8 % 2)) % 3329

-- the numbers 2 i and 2 i + 1, of byte i
unfoldable pub with_two : List ℕ → List ℕ → ℕ → List ℕ
with_two bytes f i = slice_set (slice_set f (2 * i) (centred (slice_index bytes i % 16))) (2 * i + 1) (centred (slice_index bytes i / 16))

-- SamplePolyCBD of 128 bytes, where eta is 2 (algorithm 8)
unfoldable pub sample_cbd : List ℕ → List ℕ
sample_cbd bytes = repeated (with_two bytes) (replicate 256 0) 128

-- that of PRF: 128 bytes of SHAKE256 (section 4.1)
unfoldable pub noise : List ℕ → ℕ → List ℕ
noise seed n = sample_cbd (shake256_128 (seed ++ n ∷ []))
