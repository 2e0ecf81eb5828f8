use Rattle.sshsuite.proofs.PolyLemmas.{mac_is}
use Rattle.sshsuite.proofs.laws.poly1305_law.Goals as goal

pub returns : goal.returns
returns c = mac_is
