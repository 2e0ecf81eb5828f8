-- The decisions of a lab endpoint.

use Rattle.std.specs.Prelude.{ℕ, ◌==◌, ◌&&◌, Bool, true, false, not, List, None}
use Rattle.std.specs.List.{list_any}
use Rattle.std.specs.Str.{bytes_eq}
use Rattle.sshcore.specs.ConfigParts.{ByKey, ByNothing, ByPassword, CredentialData}
use Rattle.sshcore.specs.EndpointParts.{DecisionsData, KeyProof, NoProof, PasswordProof, ProofData}
use Rattle.sshlabsuites.specs.Lab.{lab_blob}

-- a user, and by what the user is accepted
pub record AllowedData : Type 0 where
  pub user : List ℕ
  pub proof : ProofData

-- the algorithms whose host keys aren't trusted, who is accepted by what, and the numbers of the requests that are never accepted
pub record LabDecisionsData : Type 0 where
  pub distrusted : List (List ℕ)
  pub allowed : List AllowedData
  pub denied : List ℕ

-- what a request proves that was made so; a key is known by the blob that the lab suite makes of the private key (RFC 4252 sections 5.2, 7
-- and 8)
abbrev pub proof_by : CredentialData → ProofData
proof_by ByNothing = NoProof
proof_by (ByPassword password) = PasswordProof password
proof_by (ByKey algorithm secret ask) = KeyProof algorithm (lab_blob algorithm secret)

-- two proofs are the same
abbrev pub is_proof : ProofData → ProofData → Bool
is_proof NoProof NoProof = true
is_proof (PasswordProof password) (PasswordProof other) = bytes_eq password other
is_proof (KeyProof algorithm blob) (KeyProof other_algorithm other) = bytes_eq algorithm other_algorithm && bytes_eq blob other
is_proof _ _ = false

-- user and proof are these
abbrev pub accepts : AllowedData → List ℕ → ProofData → Bool
accepts allowance user proof = bytes_eq allowance.user user && is_proof allowance.proof proof

-- A host key is trusted unless its algorithm is distrusted. A request is accepted where it is allowed so, unless its number is
-- denied.
unfoldable pub lab_policy : LabDecisionsData → DecisionsData
lab_policy rules = record {
  host_key = λ algorithm blob. not (list_any (λ name. bytes_eq name algorithm) rules.distrusted);
  user = λ number user service proof.
      list_any (λ allowance. accepts allowance user proof) rules.allowed && not (list_any (λ denied. denied == number) rules.denied);
  signature = λ number algorithm blob input. None;
}
