use Rattle.std.proofs.Common.{◌≡◌, ◌++◌, drop}
use Rattle.sshwire.specs.TypeReadings.{ends_from, parts}
use Rattle.sshwire.proofs.name_list.ends_of.Given as goal

abbrev pub invariant-loop-i : goal.invariant-loop-i
invariant-loop-i l = l.ends.items ++ ends_from l.i (parts (drop l.i l.body)) ≡ ends_from 0 (parts l.body)
