use Rattle.std.specs.Prelude.{◌≡◌, ◌&&◌, false, take}
use Rattle.std.specs.List.{list_any}
use Rattle.sshneg.specs.Choice.{serves}
use Rattle.sshneg.specs.ChoiceReadings.{is_in}
use Rattle.sshneg.proofs.choice.first_able.Given as goal

abbrev pub invariant-loop-position : goal.invariant-loop-position
invariant-loop-position g l =
    list_any (λ name. is_in l.server name && serves l.need ((g.S.Suite.meaning l.suite).can name)) (take l.position l.names) ≡ false
