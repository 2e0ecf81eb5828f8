use Rattle.std.proofs.Common.{◌+◌, arith}
use Rattle.std.proofs.lemmas.Grind.{common_steps}
use Rattle.sshlab.proofs.StreamLemmas.{appends_further, rest_further}
use Rattle.sshlab.proofs.streams.write_all.Goals as goal

pub loop-rest-preserved : goal.loop-rest-preserved
loop-rest-preserved g c =
    let w = c.loop-rest.invariant.written in
    record {
      open_still = grind (arith, common_steps, c.in_ok-count.ensures.failed);
      written = (w.0 + c.in_ok-count.count, rest_further _ _ _ _ w.1, appends_further _ _ _ _ _ _ _ w.1 w.2 c.in_ok-count.ensures.bytes);
    }
