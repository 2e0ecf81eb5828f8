-- What decisions hold, without where it lies in memory.

use Rattle.std.specs.Prelude.{string_bytes}
use Rattle.sshcore.specs.EndpointParts.{KeyProof, NoProof, PasswordProof, ProofData}
use Rattle.sshlabsuites.specs.declared.lab_decisions.Allowed.{Allowed}
use Rattle.sshlabsuites.specs.declared.lab_decisions.OwnProof.{OwnProof}
use Rattle.sshlabsuites.specs.declared.lab_decisions.OwnProof.TheVariants as own
use Rattle.sshlabsuites.specs.LabDecisionsData.{AllowedData}

-- the twin of a proof that is held
abbrev pub own_proof_data : OwnProof → ProofData
own_proof_data own.None = NoProof
own_proof_data (own.Password password) = PasswordProof password.items
own_proof_data (own.Key algorithm blob) = KeyProof (string_bytes algorithm) blob.items

-- the twin of a user that is allowed
abbrev pub allowed_data : Allowed → AllowedData
allowed_data allowed = record { user = string_bytes allowed.user; proof = own_proof_data allowed.proof }
