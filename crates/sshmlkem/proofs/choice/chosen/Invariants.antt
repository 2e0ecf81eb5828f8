use Rattle.std.proofs.Common.{◌≡◌}
use Rattle.std.specs.Prelude.{replicate}
use Rattle.sshmlkem.proofs.ChoiceLemmas.{with_choice}
use Rattle.sshkeccak.specs.Repeated.{repeated}
use Rattle.sshmlkem.proofs.choice.chosen.Given as goal

abbrev pub invariant-loop-i : goal.invariant-loop-i
invariant-loop-i l = l.bytes ≡ repeated (with_choice l.bit l.a l.b) (replicate 32 0) l.i
