use Rattle.std.proofs.Common.{ap, refl}
use Rattle.sshsuite.specs.Deployed.{wrapped}
use Rattle.sshsuite.proofs.DeployedLemmas.{share_is, shared_is}
use Rattle.sshsuite.proofs.Ed25519Lemmas.{key_is, signed_is}
use Rattle.sshsuite.proofs.laws.deployed_law.Goals as goal

pub returns-clause-share : goal.returns-clause-share
returns-clause-share c = share_is

pub returns-clause-shared : goal.returns-clause-shared
returns-clause-shared c = shared_is

pub returns-clause-key : goal.returns-clause-key
returns-clause-key c = λ alg secret held. rw held (ap wrapped (key_is secret))

pub returns-clause-elsewhere : goal.returns-clause-elsewhere
returns-clause-elsewhere c = λ alg secret off. rw off refl

pub returns-clause-signature : goal.returns-clause-signature
returns-clause-signature c = λ alg secret input. ap wrapped (signed_is secret input)
