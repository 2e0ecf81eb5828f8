use Rattle.std.proofs.Common.{◌≡◌}
use Rattle.sshsuite.specs.Edwards25519.{add_rows_to}
use Rattle.sshsuite.proofs.edwards25519.multiply_base_public.Given as goal

abbrev pub invariant-loop-k : goal.invariant-loop-k
invariant-loop-k l = l.sum ≡ add_rows_to l.bytes l.k
