use Rattle.std.proofs.Common.{◌≡◌, map, take}
use Rattle.sshcore.specs.ConfigView.{attempt_data}
use Rattle.rezdolin.specs.Inputs.{attempt_by}
use Rattle.rezdolin.proofs.parts.plan_of.Given as goal

abbrev pub invariant-loop-attempt : goal.invariant-loop-attempt
invariant-loop-attempt l = map attempt_data l.plan.items ≡ map attempt_by (take l.attempt-index l.attempts)
