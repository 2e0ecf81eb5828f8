use Rattle.std.proofs.Common.{◌≡◌, drop, map}
use Rattle.sshcore.specs.ConfigView.{attempt_data}
use Rattle.sshcore.specs.SuiteFit.{plan_asked, suite_refusal}
use Rattle.sshcore.proofs.config_suite_judge.unheld_attempt.Given as goal

abbrev pub invariant-loop-position : goal.invariant-loop-position
invariant-loop-position g l =
    suite_refusal (g.S.Suite.meaning l.suite) (g.S.Inventory.inventory l.suite) (plan_asked l.position (map attempt_data (drop l.position l.plan)))
    ≡ suite_refusal (g.S.Suite.meaning l.suite) (g.S.Inventory.inventory l.suite) (plan_asked 0 (map attempt_data l.plan))
