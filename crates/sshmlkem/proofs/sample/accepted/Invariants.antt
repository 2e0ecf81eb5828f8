use Rattle.std.proofs.Common.{◌≡◌}
use Rattle.sshmlkem.specs.Sample.{drawn_next, nothing_taken, offered_block}
use Rattle.sshkeccak.specs.Repeated.{repeated}
use Rattle.sshkeccak.specs.Sponge.{shake128_block}
use Rattle.sshmlkem.proofs.sample.accepted.Given as goal

abbrev pub invariant-loop-i : goal.invariant-loop-i
invariant-loop-i l = l.t ≡ repeated drawn_next (offered_block (nothing_taken l.fn.start) (shake128_block l.fn.start)) l.i
