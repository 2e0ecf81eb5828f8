use Rattle.std.proofs.Common.{◌-◌, length, map, subst, sym}
use Rattle.std.specs.List.{AllByRecursion}
use Rattle.sshcore.specs.ConfigRules.{IsAttempt}
use Rattle.sshcore.specs.ConfigView.{attempt_data}
use Rattle.sshcore.proofs.PausedLemmas.{all_from, last_are}
use Rattle.sshcore.proofs.asking_paused.last_of.Goals as goal

pub returns-clause-last : goal.returns-clause-last
returns-clause-last c = last_are attempt_data c.args.plan.now c.saturating_sub.result c.args.left c.saturating_sub.ensures

pub returns-clause-accepted : goal.returns-clause-accepted
returns-clause-accepted c =
    subst (λ xs. AllByRecursion IsAttempt xs) (sym (last_are attempt_data c.args.plan.now c.saturating_sub.result c.args.left c.saturating_sub.ensures))
    (all_from IsAttempt (length (map attempt_data c.args.plan.now) - c.args.left) (map attempt_data c.args.plan.now) c.requires.accepted)
