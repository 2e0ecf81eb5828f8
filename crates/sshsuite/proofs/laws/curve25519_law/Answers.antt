use Rattle.sshsuite.proofs.CurveAgreementLemmas.{agrees}
use Rattle.sshsuite.proofs.laws.curve25519_law.Goals as goal

pub returns : goal.returns
returns c = record { agrees = agrees c.x25519_law.ensures }
