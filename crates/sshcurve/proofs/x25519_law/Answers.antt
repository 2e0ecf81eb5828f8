use Rattle.sshcurve.proofs.AgreementLemmas.{x25519_agrees, x25519_present}
use Rattle.sshcurve.proofs.TableLemmas.{public_by_table}
use Rattle.sshcurve.proofs.x25519_law.Goals as goal

pub returns-clause-agreed : goal.returns-clause-agreed
returns-clause-agreed c = x25519_agrees

pub returns-clause-present : goal.returns-clause-present
returns-clause-present c = x25519_present

pub returns-clause-by_table : goal.returns-clause-by_table
returns-clause-by_table c = public_by_table
