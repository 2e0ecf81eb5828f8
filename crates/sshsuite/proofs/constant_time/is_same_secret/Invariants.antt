use Rattle.sshsuite.proofs.SecretLemmas.{Told}
use Rattle.sshsuite.proofs.constant_time.is_same_secret.Given as goal

abbrev pub invariant-loop-i : goal.invariant-loop-i
invariant-loop-i l = Told l.stored l.presented l.i l.difference
