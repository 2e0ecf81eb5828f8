use Rattle.std.proofs.Common.{◌≡◌, ◌-◌, ◌*◌, drop}
use Rattle.std.specs.Int.{bytes_high_first}
use Rattle.sshsuite.specs.LongNumbers.{number_to}
use Rattle.sshsuite.proofs.group14.bytes_high.Given as goal

abbrev pub invariant-loop-i : goal.invariant-loop-i
invariant-loop-i l = drop (256 - 8 * l.i) l.bytes ≡ bytes_high_first (8 * l.i) (number_to l.number l.i)
