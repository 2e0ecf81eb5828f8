use Rattle.std.specs.Prelude.{◌≡◌, ◌&&◌, take}
use Rattle.std.specs.List.{list_any}
use Rattle.sshneg.specs.ChoiceReadings.{is_in}
use Rattle.sshneg.proofs.choice.common_capability.Given as goal

abbrev pub invariant-loop-position : goal.invariant-loop-position
invariant-loop-position g l =
    (l.common.signature ≡ list_any (λ name. is_in l.server name && ((g.S.Suite.meaning l.suite).can name).signature) (take l.position l.names))
    × (l.common.encryption ≡ list_any (λ name. is_in l.server name && ((g.S.Suite.meaning l.suite).can name).encryption) (take l.position l.names))
