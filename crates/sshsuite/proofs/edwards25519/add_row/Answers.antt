use Rattle.sshsuite.proofs.EdwardsLemmas.{row_step}
use Rattle.sshsuite.proofs.edwards25519.add_row.Goals as goal

pub loop-i-preserved : goal.loop-i-preserved
loop-i-preserved c =
    row_step _ _ _ _ _ _ _ _ c.add_where-next.ensures c.bit_at.ensures.value c.loop-i.invariant (c.requires.summands c.loop-i.i c.loop-i-test.true _)
