use Rattle.sshsuite.proofs.RsaLawLemmas.{nothing_else, verified_by}
use Rattle.sshsuite.proofs.laws.rsa_law.Goals as goal

pub returns-clause-verified : goal.returns-clause-verified
returns-clause-verified c = verified_by

pub returns-clause-nothing_else : goal.returns-clause-nothing_else
returns-clause-nothing_else c = nothing_else
