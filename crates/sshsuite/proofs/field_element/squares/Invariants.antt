use Rattle.std.proofs.Common.{◌≡◌}
use Rattle.sshsuite.specs.FieldElement.{squares}
use Rattle.sshsuite.proofs.field_element.squares.Given as goal

abbrev pub invariant-loop-i : goal.invariant-loop-i
invariant-loop-i l = l.power ≡ squares l.fn.a l._i
