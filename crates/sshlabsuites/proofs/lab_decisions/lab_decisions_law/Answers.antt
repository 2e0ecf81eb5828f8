use Rattle.sshlabsuites.proofs.DecisionLaws.{admits, distrusts}
use Rattle.sshlabsuites.proofs.lab_decisions.lab_decisions_law.Goals as goal

pub returns-clause-host_key : goal.returns-clause-host_key
returns-clause-host_key c = distrusts

pub returns-clause-user : goal.returns-clause-user
returns-clause-user c = admits
