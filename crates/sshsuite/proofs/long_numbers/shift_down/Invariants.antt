use Rattle.std.proofs.Common.{◌≡◌, ℕ, ◌+◌, ◌<◌, ◌≤◌}
use Rattle.std.specs.Prelude.{slice_index}
use Rattle.sshsuite.proofs.long_numbers.shift_down.Given as goal

abbrev pub invariant-loop-i : goal.invariant-loop-i
invariant-loop-i l =
    ((k : ℕ) → k < l.i → slice_index l.words k ≡ slice_index l.initial.words (k + 1))
    × ((k : ℕ) → l.i ≤ k → slice_index l.words k ≡ slice_index l.initial.words k)
