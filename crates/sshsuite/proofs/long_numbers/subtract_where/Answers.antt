use Rattle.std.proofs.Common.{◌<◌, ◌^◌, arith, rules}
use Rattle.std.specs.Prelude.{slice_index}
use Rattle.sshsuite.proofs.LongNumberLemmas.{less_all, less_more, less_none}
use Rattle.sshsuite.proofs.long_numbers.subtract_where.Goals as goal

pub loop-i-init : goal.loop-i-init
loop-i-init c = less_none c.args.rest.now c.args.number.now c.args.bit

pub loop-i-preserved : goal.loop-i-preserved
loop-i-preserved c =
    let other : slice_index c.args.number.now c.loop-i.i < 2 ^ 64 = search rules in
    let whole : slice_index c.loop-i.rest c.loop-i.i < 2 ^ 64 = search rules in
    rw (c.low.ensures, c.high-borrow.ensures)
    (less_more c.loop-i.rest c.args.rest.now c.args.number.now c.args.bit c.loop-i.i c.loop-i.borrow c.word_difference-next.result (omega arith) whole other c.requires.bit c.loop-i.invariant (rw c.select.ensures at c.word_difference-next.ensures))

pub returns : goal.returns
returns c = less_all c.loop-i.rest c.args.rest.now c.args.number.now c.args.bit c.loop-i.i c.loop-i.borrow c.loop-i.auto.rest c.requires.long (omega arith) c.loop-i.invariant
