-- Whom an endpoint of this program trusts.

use Rattle.std.specs.Prelude.{ℕ, ◌&&◌, Bool, false, true, List, Option, None, Some, length, nat_le, not, option_map, string_bytes, Vec}
use Rattle.std.specs.Option.{is_none}
use Rattle.std.specs.List.{list_any}
use Rattle.std.specs.Str.{bytes_eq}
use Rattle.sshcore.specs.declared.config_parts.TheConstants.{PASSWORD_LIMIT}
use Rattle.sshcore.specs.EndpointParts.{DecisionsData, KeyProof, NoProof, PasswordProof, ProofData}
use Rattle.sshauth.specs.declared.trust.Trust.{Trust}

-- the blob is one of the keys
abbrev pub has_key : {Z : Type 0} → List (Vec ℕ Z) → List ℕ → Bool
has_key keys blob = list_any (λ key. bytes_eq key.items blob) keys

-- the blob is one of the keys that are trusted, and none of those that are revoked
abbrev pub is_trusted : Trust → List ℕ → Bool
is_trusted trust blob = has_key trust.keys.items blob && not (has_key trust.revoked.items blob)

-- whether a person may be asked about a host key: no line is the host's, and this key isn't revoked
abbrev pub leaves_open : Trust → List ℕ → Bool
leaves_open trust blob = is_none trust.known && not (has_key trust.revoked.items blob)

-- there is a password, and it is this one, of at most 1024 bytes
abbrev pub is_own : Option (List ℕ) → List ℕ → Bool
is_own None bytes = false
is_own (Some own) bytes = nat_le (length bytes) PASSWORD_LIMIT && bytes_eq own bytes

-- the proof is the password or one of the keys
abbrev pub proves : Trust → ProofData → Bool
proves trust NoProof = false
proves trust (PasswordProof password) = is_own (option_map (λ v. v.items) trust.password) password
proves trust (KeyProof algorithm blob) = is_trusted trust blob

-- a request is accepted of the one user, by the password or by one of the keys
abbrev pub accepts : Trust → List ℕ → ProofData → Bool
accepts trust user proof = bytes_eq (string_bytes trust.user) user && proves trust proof

-- a host key is trusted that is one of the keys, and isn't revoked; one user is accepted, by the password or by one of the keys; no
-- signature is made
abbrev pub trust_policy : Trust → DecisionsData
trust_policy trust = record {
  host_key = λ algorithm blob. is_trusted trust blob;
  user = λ number user service proof. accepts trust user proof;
  signature = λ number algorithm blob input. None;
}

-- any host key will do, no user is accepted, and no signature is made
abbrev pub any_host_policy : {A : Type 0} → A → DecisionsData
any_host_policy looking = record {
  host_key = λ algorithm blob. true;
  user = λ number user service proof. false;
  signature = λ number algorithm blob input. None;
}
