use Rattle.sshworld.proofs.VerdictLemmas.{offered_verdict, only}
use Rattle.sshworld.proofs.law.verdict_law.Goals as goal

pub returns-clause-only : goal.returns-clause-only
returns-clause-only c = only

pub returns-clause-offered : goal.returns-clause-offered
returns-clause-offered c = offered_verdict
