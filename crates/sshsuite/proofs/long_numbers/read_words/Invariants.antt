use Rattle.std.proofs.Common.{◌≡◌, ◌-◌, ◌*◌, drop, length}
use Rattle.sshsuite.specs.Group14.{number_high}
use Rattle.sshsuite.specs.LongNumbers.{number_to}
use Rattle.sshsuite.proofs.long_numbers.read_words.Given as goal

abbrev pub invariant-loop-i : goal.invariant-loop-i
invariant-loop-i l = (length l.words ≡ l.count) × (number_to l.words l.i ≡ number_high (drop (8 * l.count - 8 * l.i) l.bytes))
