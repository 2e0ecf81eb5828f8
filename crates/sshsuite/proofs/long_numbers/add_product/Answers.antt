use Rattle.std.proofs.Common.{arith}
use Rattle.sshsuite.proofs.LongNumberLemmas.{added_all, added_more, added_none}
use Rattle.sshsuite.proofs.long_numbers.add_product.Goals as goal

pub loop-i-init : goal.loop-i-init
loop-i-init c = added_none c.args.sum.now c.args.number.now c.args.times

pub loop-i-preserved : goal.loop-i-preserved
loop-i-preserved c =
    rw (c.low.ensures, c.high-carry.ensures)
    (added_more c.loop-i.sum c.args.sum.now c.args.number.now c.args.times c.loop-i.carry c.loop-i.i c.product_sum-next.result (omega arith) c.loop-i.invariant c.product_sum-next.ensures)

pub returns : goal.returns
returns c = added_all c.loop-i.sum c.args.sum.now c.args.number.now c.args.times c.loop-i.i c.loop-i.carry c.loop-i.auto.sum c.requires (omega arith) c.loop-i.invariant
