use Rattle.std.proofs.Common.{◌≡◌}
use Rattle.sshsuite.specs.Ghash.{hash_to}
use Rattle.sshsuite.proofs.ghash.hashed.Given as goal

abbrev pub invariant-loop-i : goal.invariant-loop-i
invariant-loop-i l = l.sum ≡ hash_to l.key l.fn.sum l.input l.i
