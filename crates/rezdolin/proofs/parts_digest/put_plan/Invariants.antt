use Rattle.std.proofs.Common.{length, take}
use Rattle.sshcore.specs.RecordText.{Adds, number_text}
use Rattle.rezdolin.specs.PartsText.{each_text, attempt_text}
use Rattle.rezdolin.proofs.parts_digest.put_plan.Given as goal

abbrev pub invariant-loop-attempt : goal.invariant-loop-attempt
invariant-loop-attempt l = Adds (λ rest. number_text (length l.plan) (each_text attempt_text (take l.attempt-index l.plan) rest)) l.fn.out.items l.out.items
