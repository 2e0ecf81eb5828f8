use Rattle.sshsuite.proofs.EdwardsLemmas.{row_step}
use Rattle.sshsuite.proofs.edwards25519.add_row_public.Goals as goal

pub loop-k-preserved : goal.loop-k-preserved
loop-k-preserved c =
    row_step _ _ _ _ _ _ _ _ c.add_where_public-next.ensures c.bit_at.ensures.value c.loop-k.invariant (c.requires.summands c.loop-k.k c.loop-k-test.true _)
