use Rattle.std.proofs.Common.{◌≡◌, drop, map, string_bytes}
use Rattle.sshcore.specs.SuiteFit.{named_in, suite_refusal}
use Rattle.sshcore.proofs.config_suite_judge.unknown_name.Given as goal

abbrev pub invariant-loop-name : goal.invariant-loop-name
invariant-loop-name g l =
    suite_refusal (g.S.Suite.meaning l.suite) (g.S.Inventory.inventory l.suite) (named_in l.list (map string_bytes (drop l.name-index l.names)))
    ≡ suite_refusal (g.S.Suite.meaning l.suite) (g.S.Inventory.inventory l.suite) (named_in l.list (map string_bytes l.names))
