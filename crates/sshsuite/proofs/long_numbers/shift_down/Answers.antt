use Rattle.std.proofs.Common.{◌-◌, length, arith}
use Rattle.sshsuite.proofs.LongNumberLemmas.{moved_all}
use Rattle.sshsuite.proofs.long_numbers.shift_down.Goals as goal

pub returns : goal.returns
returns c =
    moved_all c.args.words.now c.loop-i.words (length c.args.words.now - 1) c.args.last c.loop-i.auto.words (omega arith)
    (λ k h. c.loop-i.invariant.0 k (omega arith))
