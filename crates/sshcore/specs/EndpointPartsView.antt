-- What a request proves, without where it lies in memory.

use Rattle.sshcore.specs.declared.decisions.Proof.{Proof}
use Rattle.sshcore.specs.declared.decisions.Proof.TheVariants as proof
use Rattle.sshcore.specs.EndpointParts.{KeyProof, NoProof, PasswordProof, ProofData}

-- the twin of a `Proof`: nothing, a password, or a key
abbrev pub proof_data : Proof → ProofData
proof_data proof.None = NoProof
proof_data (proof.Password password) = PasswordProof password.now
proof_data (proof.Key algorithm blob) = KeyProof algorithm.now blob.now
