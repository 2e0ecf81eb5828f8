use Rattle.sshpromises.proofs.CompatibleLemmas.{compatible}
use Rattle.sshpromises.proofs.Group14Lemmas.{group14_agrees}
use Rattle.sshpromises.proofs.deployed.compatible_law.Goals as goal

pub returns : goal.returns
returns c = compatible c.curve25519_law.ensures.agrees c.hybrid_law.ensures.agrees (group14_agrees c.group14_law.ensures.read c.group14_law.ensures.agreed) c.signature_law.ensures.signs
