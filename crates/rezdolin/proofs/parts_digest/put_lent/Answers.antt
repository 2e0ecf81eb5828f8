use Rattle.std.proofs.Common.{length}
use Rattle.sshcore.specs.RecordText.{number_text}
use Rattle.rezdolin.specs.PartsText.{key_text}
use Rattle.rezdolin.proofs.PartsLemmas.{each_step}
use Rattle.rezdolin.proofs.parts_digest.put_lent.Goals as goal

pub loop-bytes-preserved : goal.loop-bytes-preserved
loop-bytes-preserved c =
    each_step (number_text (length c.args.list.now)) key_text c.args.list.now c.loop-bytes.bytes-index _ c.args.out.now.items c.loop-bytes.out.items c.put_bytes.new.out.items
    c.loop-bytes-test.true c.loop-bytes.invariant c.in_ok-put_bytes.ensures
