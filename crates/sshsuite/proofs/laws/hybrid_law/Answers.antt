use Rattle.sshsuite.proofs.CurveAgreementLemmas.{meets}
use Rattle.sshsuite.proofs.HybridAgreementLemmas.{hybrid_agrees}
use Rattle.sshsuite.proofs.HybridLemmas.{both_agree}
use Rattle.sshsuite.proofs.HybridNoiseLemmas.{decrypts_exactly, decrypts_small}
use Rattle.sshsuite.proofs.laws.hybrid_law.Goals as goal

pub returns-clause-agrees : goal.returns-clause-agrees
returns-clause-agrees c = λ kex client server is small. hybrid_agrees c.x25519_law.ensures c.key_law.ensures.generated both_agree kex client server is (decrypts_small client server c.decryption_law.ensures.decrypts small)

pub returns-clause-decrypts : goal.returns-clause-decrypts
returns-clause-decrypts c = hybrid_agrees c.x25519_law.ensures c.key_law.ensures.generated both_agree

pub returns-clause-exact : goal.returns-clause-exact
returns-clause-exact c = λ client server. decrypts_exactly client server c.decryption_law.ensures.exact

pub returns-clause-answered : goal.returns-clause-answered
returns-clause-answered c = λ client server response decrypts. both_agree client server response decrypts (meets c.x25519_law.ensures client server)
