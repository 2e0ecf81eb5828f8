use Rattle.std.proofs.Common.{◌≡◌}
use Rattle.sshsuite.specs.Edwards25519.{multiply_to}
use Rattle.sshsuite.proofs.edwards25519.multiply_public.Given as goal

abbrev pub invariant-loop-i : goal.invariant-loop-i
invariant-loop-i l = l.sum ≡ multiply_to l.bytes l.q l.i
