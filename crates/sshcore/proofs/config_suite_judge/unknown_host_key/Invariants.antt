use Rattle.std.proofs.Common.{◌≡◌, drop, map}
use Rattle.sshcore.specs.declared.config_suite_fault.AlgorithmList.TheVariants as algorithms
use Rattle.sshcore.specs.ConfigParts.{key_algorithms}
use Rattle.sshcore.specs.ConfigView.{host_key_data}
use Rattle.sshcore.specs.SuiteFit.{named_in, suite_refusal}
use Rattle.sshcore.proofs.config_suite_judge.unknown_host_key.Given as goal

abbrev pub invariant-loop-key : goal.invariant-loop-key
invariant-loop-key g l =
    suite_refusal (g.S.Suite.meaning l.suite) (g.S.Inventory.inventory l.suite) (named_in algorithms.HostKey (key_algorithms (map host_key_data (drop l.key-index l.keys))))
    ≡ suite_refusal (g.S.Suite.meaning l.suite) (g.S.Inventory.inventory l.suite) (named_in algorithms.HostKey (key_algorithms (map host_key_data l.keys)))
