use Rattle.sshneg.specs.ExchangeView.{key_material_data}
use Rattle.sshneg.specs.GrowingKeys.{Grows}
use Rattle.sshneg.proofs.derivations.grow.Given as goal

abbrev pub invariant-loop : goal.invariant-loop
invariant-loop g l = Grows (g.S.Suite.meaning l.suite) (key_material_data l.material) l.fn.first.items l.len l.counter l.bytes.items
