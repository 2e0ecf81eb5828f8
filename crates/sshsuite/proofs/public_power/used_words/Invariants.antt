use Rattle.std.proofs.Common.{◌<◌, ◌≤◌}
use Rattle.sshsuite.specs.LongNumbers.{number_to, weight}
use Rattle.sshsuite.proofs.public_power.used_words.Given as goal

abbrev pub invariant-loop-i : goal.invariant-loop-i
invariant-loop-i l = (l.used ≤ l.i) × (number_to l.number l.i < weight l.used) × (number_to l.number l.i < weight l.i)
