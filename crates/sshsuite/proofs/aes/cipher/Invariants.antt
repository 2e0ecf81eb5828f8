use Rattle.std.proofs.Common.{◌≡◌}
use Rattle.sshsuite.specs.Aes.{after_rounds}
use Rattle.sshsuite.proofs.aes.cipher.Given as goal

abbrev pub invariant-loop-i : goal.invariant-loop-i
invariant-loop-i l = l.state ≡ after_rounds l.keys l.block l.i
