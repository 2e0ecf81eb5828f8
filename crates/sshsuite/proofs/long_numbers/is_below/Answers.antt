use Rattle.std.proofs.Common.{◌<◌, ◌^◌, arith, rules}
use Rattle.std.specs.Prelude.{slice_index}
use Rattle.sshsuite.proofs.LongNumberLemmas.{below_all, below_more, below_none}
use Rattle.sshsuite.proofs.long_numbers.is_below.Goals as goal

pub loop-i-init : goal.loop-i-init
loop-i-init c = below_none c.args.a.now c.args.b.now

pub loop-i-preserved : goal.loop-i-preserved
loop-i-preserved c =
    let first : slice_index c.args.a.now c.loop-i.i < 2 ^ 64 = search rules in
    let second : slice_index c.args.b.now c.loop-i.i < 2 ^ 64 = search rules in
    rw c.high-borrow.ensures
    (below_more c.args.a.now c.args.b.now c.loop-i.i c.loop-i.borrow c.word_difference.result first second c.loop-i.invariant c.word_difference.ensures)

pub returns : goal.returns
returns c = below_all c.args.a.now c.args.b.now c.loop-i.i c.loop-i.borrow (omega arith) c.requires c.loop-i.invariant
