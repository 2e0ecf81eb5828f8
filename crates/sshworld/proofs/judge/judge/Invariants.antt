use Rattle.std.proofs.Common.{◌≤◌, ◌+◌, drop, map}
use Rattle.std.specs.List.{AllByRecursion}
use Rattle.sshcore.specs.ConfigRules.{IsAttempt}
use Rattle.sshcore.specs.ConfigView.{attempt_data}
use Rattle.sshworld.specs.Verdicts.{verdict}
use Rattle.sshworld.proofs.JudgeLemmas.{Left}
use Rattle.sshworld.proofs.judge.judge.Given as goal

-- what is left of the plan has the verdict of the whole, after the requests made
abbrev pub invariant-loop-attempt : goal.invariant-loop-attempt
invariant-loop-attempt g l = record {
  count : l.progress.requests ≤ l.attempt-index + l.attempt-index;
  accepted : AllByRecursion IsAttempt (map attempt_data (drop l.attempt-index l.attempt-items));
  left : Left (g.S.Suite.meaning l.suite) (g.D.Decisions.policy l.decisions) l.server
      (verdict (g.S.Suite.meaning l.suite) (g.D.Decisions.policy l.decisions) l.client l.server)
      l.progress (map attempt_data (drop l.attempt-index l.attempt-items));
}
