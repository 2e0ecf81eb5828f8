use Rattle.std.proofs.Common.{arith}
use Rattle.sshcore.specs.ConfigRules.{IsAttempt}
use Rattle.sshcore.specs.ConfigView.{attempt_data}
use Rattle.sshcore.proofs.SuiteFitLemmas.{item_of}
use Rattle.sshcore.proofs.config_suite_judge.unheld_attempt.Goals as goal

pub unheld_key-fault-requires-clause-named : goal.unheld_key-fault-requires-clause-named
unheld_key-fault-requires-clause-named g c =
    (item_of IsAttempt attempt_data c.args.plan.now c.loop-position.position c.index-plan-position.result (omega arith) c.requires).named

pub unheld_key-fault-requires-clause-short : goal.unheld_key-fault-requires-clause-short
unheld_key-fault-requires-clause-short g c =
    (item_of IsAttempt attempt_data c.args.plan.now c.loop-position.position c.index-plan-position.result (omega arith) c.requires).key
