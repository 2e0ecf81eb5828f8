use Rattle.std.proofs.Common.{◌≡◌, ℕ, ◌<◌, length}
use Rattle.std.specs.Prelude.{slice_index_or}
use Rattle.sshsuite.specs.Edwards25519.{summand_of, table_point}
use Rattle.sshsuite.specs.declared.edwards25519.Summand.{Summand}
use Rattle.sshsuite.proofs.edwards25519.table_summands.Given as goal

abbrev pub invariant-loop-i : goal.invariant-loop-i
invariant-loop-i l =
    (length l.summands ≡ 32) × ((k : ℕ) → k < l.i → (past : Summand) → slice_index_or l.summands k past ≡ summand_of (table_point k))
