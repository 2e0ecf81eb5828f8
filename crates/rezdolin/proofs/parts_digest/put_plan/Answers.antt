use Rattle.std.proofs.Common.{length}
use Rattle.sshcore.specs.RecordText.{number_text}
use Rattle.rezdolin.specs.PartsText.{attempt_text}
use Rattle.rezdolin.proofs.PartsLemmas.{each_step}
use Rattle.rezdolin.proofs.parts_digest.put_plan.Goals as goal

pub loop-attempt-preserved : goal.loop-attempt-preserved
loop-attempt-preserved c =
    each_step (number_text (length c.args.plan.now)) attempt_text c.args.plan.now c.loop-attempt.attempt-index _ c.args.out.now.items c.loop-attempt.out.items c.put_attempt.new.out.items
    c.loop-attempt-test.true c.loop-attempt.invariant c.in_ok-put_attempt.ensures
