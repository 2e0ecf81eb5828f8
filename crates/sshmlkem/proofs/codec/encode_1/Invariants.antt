use Rattle.std.proofs.Common.{◌≡◌}
use Rattle.std.specs.Prelude.{replicate}
use Rattle.sshmlkem.specs.Codec.{with_encoded_1}
use Rattle.sshkeccak.specs.Repeated.{repeated}
use Rattle.sshmlkem.proofs.codec.encode_1.Given as goal

abbrev pub invariant-loop-i : goal.invariant-loop-i
invariant-loop-i l = l.bytes ≡ repeated (with_encoded_1 l.f) (replicate 32 0) l.i
