use Rattle.std.proofs.Common.{◌≡◌}
use Rattle.sshsuite.specs.Edwards25519.{add_row_to}
use Rattle.sshsuite.proofs.edwards25519.add_row_public.Given as goal

abbrev pub invariant-loop-k : goal.invariant-loop-k
invariant-loop-k l = l.all ≡ add_row_to l.bytes l.j l.fn.sum l.k
