use Rattle.sshworld.proofs.course_laws.course_law.Goals as goal
use Rattle.sshworld.proofs.FollowsLemmas.{both_keep}

pub returns-clause-keeps : goal.returns-clause-keeps
returns-clause-keeps c = both_keep
