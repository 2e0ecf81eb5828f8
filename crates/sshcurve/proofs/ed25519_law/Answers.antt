use Rattle.sshcurve.proofs.SignatureLemmas.{signature_verifies}
use Rattle.sshcurve.proofs.ed25519_law.Goals as goal

pub returns : goal.returns
returns c = signature_verifies
