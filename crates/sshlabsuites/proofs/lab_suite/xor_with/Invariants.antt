use Rattle.std.proofs.Common.{◌≡◌, ◌<◌, ◌≤◌, ℕ}
use Rattle.std.specs.Prelude.{bit_xor, slice_index}
use Rattle.sshlabsuites.proofs.lab_suite.xor_with.Given as goal

abbrev pub invariant-loop-i : goal.invariant-loop-i
invariant-loop-i l =
    ((k : ℕ) → k < l.i → slice_index l.bytes k ≡ bit_xor (slice_index l.initial.bytes k) (slice_index l.mask k))
    × ((k : ℕ) → l.i ≤ k → slice_index l.bytes k ≡ slice_index l.initial.bytes k)
