use Rattle.std.proofs.Common.{◌≡◌, drop, map}
use Rattle.sshcore.specs.ConfigView.{host_key_data}
use Rattle.sshcore.specs.SuiteFit.{host_keys_asked, suite_refusal}
use Rattle.sshcore.proofs.config_suite_judge.unheld_host_key.Given as goal

abbrev pub invariant-loop-position : goal.invariant-loop-position
invariant-loop-position g l =
    suite_refusal (g.S.Suite.meaning l.suite) (g.S.Inventory.inventory l.suite) (host_keys_asked l.position (map host_key_data (drop l.position l.keys)))
    ≡ suite_refusal (g.S.Suite.meaning l.suite) (g.S.Inventory.inventory l.suite) (host_keys_asked 0 (map host_key_data l.keys))
