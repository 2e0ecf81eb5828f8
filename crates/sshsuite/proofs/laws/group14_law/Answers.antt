use Rattle.sshsuite.proofs.AgreementLemmas.{read_of_body, shared_agree}
use Rattle.sshsuite.proofs.laws.group14_law.Goals as goal

pub returns-clause-read : goal.returns-clause-read
returns-clause-read c = read_of_body

pub returns-clause-agreed : goal.returns-clause-agreed
returns-clause-agreed c = shared_agree
