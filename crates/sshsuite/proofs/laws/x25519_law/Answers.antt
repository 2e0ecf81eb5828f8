use Rattle.sshsuite.proofs.WordLemmas.{are_words}
use Rattle.sshsuite.proofs.X25519Lemmas.{x25519_is}
use Rattle.sshsuite.proofs.laws.x25519_law.Goals as goal

pub returns : goal.returns
returns c = λ scalar point h. x25519_is scalar point (are_words point h)
