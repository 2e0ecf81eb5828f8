use Rattle.sshsuite.proofs.OwnSignatureLemmas.{signs}
use Rattle.sshsuite.proofs.laws.signature_law.Goals as goal

pub returns : goal.returns
returns c = record { signs = signs c.ed25519_law.ensures.key c.ed25519_law.ensures.signed c.ed25519_law.ensures.verified }
