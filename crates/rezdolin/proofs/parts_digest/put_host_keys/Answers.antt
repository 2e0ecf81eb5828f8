use Rattle.std.proofs.Common.{length}
use Rattle.sshcore.specs.RecordText.{number_text}
use Rattle.rezdolin.specs.PartsText.{host_key_text}
use Rattle.rezdolin.proofs.PartsLemmas.{each_step}
use Rattle.rezdolin.proofs.parts_digest.put_host_keys.Goals as goal

pub loop-key-preserved : goal.loop-key-preserved
loop-key-preserved c =
    each_step (number_text (length c.args.keys.now)) host_key_text c.args.keys.now c.loop-key.key-index _ c.args.out.now.items c.loop-key.out.items c.put_host_key.new.out.items
    c.loop-key-test.true c.loop-key.invariant c.in_ok-put_host_key.ensures
