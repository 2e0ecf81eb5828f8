use Rattle.std.proofs.Common.{◌≡◌}
use Rattle.sshsuite.specs.SlicedAes.{planes_after}
use Rattle.sshsuite.proofs.sliced_aes.eight_ciphers.Given as goal

abbrev pub invariant-loop-i : goal.invariant-loop-i
invariant-loop-i l = l.state ≡ planes_after l.keys l.fn.blocks l.i
