use Rattle.std.proofs.Common.{length}
use Rattle.sshcore.specs.RecordText.{number_text}
use Rattle.rezdolin.specs.PartsText.{user_text}
use Rattle.rezdolin.proofs.PartsLemmas.{each_step}
use Rattle.rezdolin.proofs.parts_digest.put_users.Goals as goal

pub loop-user-preserved : goal.loop-user-preserved
loop-user-preserved c =
    each_step (number_text (length c.args.users.now)) user_text c.args.users.now c.loop-user.user-index _ c.args.out.now.items c.loop-user.out.items c.put_user.new.out.items
    c.loop-user-test.true c.loop-user.invariant c.in_ok-put_user.ensures
