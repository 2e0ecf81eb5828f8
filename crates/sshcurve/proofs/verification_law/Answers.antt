use Rattle.sshcurve.proofs.NumberLemmas.{same_number}
use Rattle.sshcurve.proofs.VerificationLemmas.{accepted_is_valid, valid_is_accepted}
use Rattle.sshcurve.proofs.verification_law.Goals as goal

pub returns-clause-valid : goal.returns-clause-valid
returns-clause-valid c = accepted_is_valid

pub returns-clause-accepted : goal.returns-clause-accepted
returns-clause-accepted c = valid_is_accepted

pub returns-clause-number : goal.returns-clause-number
returns-clause-number c = same_number
