use Rattle.sshsuite.proofs.WordLemmas.{are_words}
use Rattle.sshsuite.proofs.Ed25519Lemmas.{is_signed_is, key_is, signed_is}
use Rattle.sshsuite.proofs.laws.ed25519_law.Goals as goal

pub returns-clause-key : goal.returns-clause-key
returns-clause-key c = key_is

pub returns-clause-signed : goal.returns-clause-signed
returns-clause-signed c = signed_is

pub returns-clause-verified : goal.returns-clause-verified
returns-clause-verified c = λ key input found h. is_signed_is key input found (are_words key h)
