use Rattle.sshcurve.proofs.GroupLemmas.{sum_commutes, sum_neutral, sum_on, sum_opposite}
use Rattle.sshcurve.proofs.AssociativityLemmas.{sum_associates}
use Rattle.sshcurve.proofs.group_law.Goals as goal

pub returns-clause-closed : goal.returns-clause-closed
returns-clause-closed c = sum_on

pub returns-clause-commutes : goal.returns-clause-commutes
returns-clause-commutes c = sum_commutes

pub returns-clause-associates : goal.returns-clause-associates
returns-clause-associates c = sum_associates

pub returns-clause-neutral : goal.returns-clause-neutral
returns-clause-neutral c = sum_neutral

pub returns-clause-opposite : goal.returns-clause-opposite
returns-clause-opposite c = sum_opposite
