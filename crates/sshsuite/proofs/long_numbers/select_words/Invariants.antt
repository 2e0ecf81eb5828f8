use Rattle.std.proofs.Common.{◌≡◌, ℕ, ◌<◌, ◌≤◌, cond, eqb}
use Rattle.std.specs.Prelude.{slice_index}
use Rattle.sshsuite.proofs.long_numbers.select_words.Given as goal

abbrev pub invariant-loop-i : goal.invariant-loop-i
invariant-loop-i l =
    ((k : ℕ) → k < l.i → slice_index l.words k ≡ cond (eqb l.bit 1) (slice_index l.other k) (slice_index l.initial.words k))
    × ((k : ℕ) → l.i ≤ k → slice_index l.words k ≡ slice_index l.initial.words k)
