use Rattle.std.proofs.Common.{refl}
use Rattle.sshlabsuites.specs.LabDecisionsData.{lab_policy}
use Rattle.sshlabsuites.proofs.lab_decisions.LabDecisionsDecisions.signature.Goals as goal

pub returns : goal.returns
unfolding lab_policy
returns c = refl
