use Rattle.std.proofs.Common.{◌≢◌, ◌<◌, ap, length, arith, below_more, get_or-set_other, get_or-set_same, length-set, ◌∙◌}
use Rattle.sshsuite.specs.Edwards25519.{summand_of}
use Rattle.sshsuite.proofs.edwards25519.table_summands.Goals as goal

pub loop-i-preserved : goal.loop-i-preserved
loop-i-preserved c =
    let made = c.summand_of.ensures ∙ ap summand_of c.table_point-in-loop-i.ensures in
    let long = length-set c.loop-i.summands c.loop-i.i c.summand_of.result ∙ c.loop-i.invariant.0 in (
      long,
      below_more _ _
          (λ k h past. let ne : k ≢ c.loop-i.i = omega arith in get_or-set_other c.loop-i.summands c.loop-i.i k c.summand_of.result past ne ∙ c.loop-i.invariant.1 k h past)
          (λ past. let lt : c.loop-i.i < length c.loop-i.summands = omega (arith, c.loop-i.invariant.0) in get_or-set_same c.loop-i.summands c.loop-i.i c.summand_of.result past lt ∙ made),
    )
