-- NTT and its inverse by the nested loops of FIPS 203 algorithms 9 and 10 (section 4.3). `Ntt.antt` has one loop for each `len`, as the code
-- does; the law of the transform says that both are the same.

use Rattle.std.specs.List.{fold, range_with_len}
use Rattle.std.specs.Prelude.{ℕ, ◌+◌, ◌-◌, ◌*◌, ◌/◌, List, [], ◌∷◌, map, slice_index, slice_set}
use Rattle.sshmlkem.specs.Bits.{each}
use Rattle.sshmlkem.specs.NttNumbers.{zeta_at}
use Rattle.sshmlkem.specs.Ring.{minus, plus, times}

-- the polynomial and the counter i while the loops run
pub record Progress : Type 0 where
  pub numbers : List ℕ
  pub i : ℕ

-- the values of `start`: 0, 2 len, 4 len and on, below 256 (line 4 of both algorithms)
unfoldable pub starts : ℕ → List ℕ
starts len = each (128 / len) (λ n. n * (2 * len))

-- numbers j and j + len, transformed (algorithm 9, lines 8 to 10)
unfoldable pub forward_numbers : ℕ → ℕ → List ℕ → ℕ → List ℕ
forward_numbers len zeta f j =
    let t = times zeta (slice_index f (j + len)) in
    let g = slice_set f (j + len) (minus (slice_index f j) t) in
    slice_set g j (plus (slice_index g j) t)

-- the numbers from `start` on, j from start to start + len - 1 (algorithm 9, lines 5 to 11)
unfoldable pub forward_block : ℕ → Progress → ℕ → Progress
forward_block len p start =
    record { numbers = fold (forward_numbers len (zeta_at p.i)) p.numbers (range_with_len start len); i = p.i + 1 }

-- the loop over `start` (algorithm 9, lines 4 to 12)
unfoldable pub forward_blocks : Progress → ℕ → Progress
forward_blocks p len = fold (forward_block len) p (starts len)

-- NTT (algorithm 9): i counts up from 1, and `len` is halved from 128 to 2
unfoldable pub ntt_by_loops : List ℕ → List ℕ
ntt_by_loops f = (fold forward_blocks (record { numbers = f; i = 1 }) (128 ∷ 64 ∷ 32 ∷ 16 ∷ 8 ∷ 4 ∷ 2 ∷ [])).numbers

-- numbers j and j + len, transformed back (algorithm 10, lines 8 to 10)
unfoldable pub backward_numbers : ℕ → ℕ → List ℕ → ℕ → List ℕ
backward_numbers len zeta f j =
    let t = slice_index f j in
    let g = slice_set f j (plus t (slice_index f (j + len))) in
    slice_set g (j + len) (times zeta (minus (slice_index g (j + len)) t))

-- the numbers from `start` on, j from start to start + len - 1 (algorithm 10, lines 5 to 11)
unfoldable pub backward_block : ℕ → Progress → ℕ → Progress
backward_block len p start =
    record { numbers = fold (backward_numbers len (zeta_at p.i)) p.numbers (range_with_len start len); i = p.i - 1 }

-- the loop over `start` (algorithm 10, lines 4 to 12)
unfoldable pub backward_blocks : Progress → ℕ → Progress
backward_blocks p len = fold (backward_block len) p (starts len)

-- the inverse of NTT (algorithm 10): i counts down from 127, `len` is doubled from 2 to 128, and at the end each number is multiplied by 3303
unfoldable pub inverse_ntt_by_loops : List ℕ → List ℕ
inverse_ntt_by_loops f =
    map (λ n. times n 3303) (fold backward_blocks (record { numbers = f; i = 127 }) (2 ∷ 4 ∷ 8 ∷ 16 ∷ 32 ∷ 64 ∷ 128 ∷ [])).numbers
