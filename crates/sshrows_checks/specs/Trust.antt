-- Whom an endpoint trusts that a check is played to.

use Rattle.std.specs.Prelude.{ℕ, Bool, false, List}
use Rattle.std.specs.Str.{bytes_eq}
use Rattle.sshcore.specs.EndpointParts.{KeyProof, NoProof, PasswordProof, ProofData}

-- the proof is this password or this key
abbrev pub proves : List ℕ → List ℕ → ProofData → Bool
proves password key NoProof = false
proves password key (PasswordProof shown) = bytes_eq password shown
proves password key (KeyProof algorithm blob) = bytes_eq key blob
