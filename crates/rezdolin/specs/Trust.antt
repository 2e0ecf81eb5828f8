-- Whom an endpoint trusts, by what a program has put in.

use Rattle.std.specs.Prelude.{ℕ, ◌==◌, ◌&&◌, Bool, true, nat_le, List, None, length}
use Rattle.std.specs.Borrow.{Bor}
use Rattle.std.specs.List.{list_any}
use Rattle.std.specs.Str.{bytes_eq}
use Rattle.sshcore.specs.declared.config_parts.TheConstants.{PASSWORD_LIMIT}
use Rattle.sshcore.specs.EndpointParts.{DecisionsData, KeyProof, NoProof, PasswordProof, ProofData}
use Rattle.rezdolin.specs.declared.inputs.TheConstants.{METHOD_NONE, METHOD_PASSWORD, METHOD_PUBLICKEY}
use Rattle.rezdolin.specs.declared.inputs.UserInput.{UserInput}

-- the key is one of these
abbrev pub is_trusted : List (Bor (List ℕ)) → List ℕ → Bool
is_trusted keys blob = list_any (λ key. bytes_eq key.now blob) keys

-- the proof is the one of an entry: none, its password or its key
abbrev pub proves : UserInput → ProofData → Bool
proves entry NoProof = entry.method == METHOD_NONE
proves entry (PasswordProof password) = entry.method == METHOD_PASSWORD && bytes_eq entry.proof.now password
proves entry (KeyProof algorithm blob) = entry.method == METHOD_PUBLICKEY && bytes_eq entry.proof.now blob

-- an entry has this user and this proof
abbrev pub is_entry_of : UserInput → List ℕ → ProofData → Bool
is_entry_of entry user proof = bytes_eq entry.user.now user && proves entry proof

-- a proof is looked at: a password has at most as many bytes as one of a plan (C6)
abbrev pub is_looked_at : ProofData → Bool
is_looked_at NoProof = true
is_looked_at (PasswordProof password) = nat_le (length password) PASSWORD_LIMIT
is_looked_at (KeyProof algorithm blob) = true

-- the proof is looked at, and one of the entries has this user and this proof
abbrev pub accepts : List UserInput → List ℕ → ProofData → Bool
accepts users user proof = is_looked_at proof && list_any (λ entry. is_entry_of entry user proof) users

-- A host key is trusted if it is in the list. A user is accepted by an entry with this user and what the request proves. No signature is
-- made.
abbrev pub trust_policy : List (Bor (List ℕ)) → List UserInput → DecisionsData
trust_policy keys users = record {
  host_key = λ algorithm blob. is_trusted keys blob;
  user = λ number user service proof. accepts users user proof;
  signature = λ number algorithm blob input. None;
}
