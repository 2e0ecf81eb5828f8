use Rattle.std.specs.Prelude.{◌≡◌, ◌&&◌, false, not, take}
use Rattle.std.specs.List.{list_any}
use Rattle.sshneg.specs.Choice.{serves}
use Rattle.sshneg.specs.ChoiceReadings.{is_in}
use Rattle.sshneg.specs.Markers.{is_marker}
use Rattle.sshneg.proofs.choice.first_usable.Given as goal

abbrev pub invariant-loop-position : goal.invariant-loop-position
invariant-loop-position g l =
    list_any (λ name. not (is_marker name) && (is_in l.server name && serves ((g.S.Suite.meaning l.suite).need name) l.common))
    (take l.position l.names) ≡ false
