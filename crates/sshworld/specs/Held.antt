-- The requests of a client whose suite holds its private keys.

use Rattle.std.specs.Prelude.{◌≡◌, ℕ, true, false, List}
use Rattle.sshmsg.specs.MessageData.{MethodData, NoMethod, Password, PublicKey, PublicKeyQuery, UserauthRequest}
use Rattle.sshmsg.specs.Written.{written_message}
use Rattle.sshneg.specs.Derivations.{signed_text}
use Rattle.sshpacket.specs.Suite.{SuiteData}
use Rattle.sshcore.specs.ConfigParts.{AttemptData, ByKey, ByNothing, ByPassword, CredentialData}

-- The suite holds the key of an attempt, if it has one (RFC 4252 section 7).
abbrev pub IsHeld : SuiteData → CredentialData → Type 0
IsHeld m ByNothing = Unit {0}
IsHeld m (ByPassword password) = Unit {0}
IsHeld m (ByKey algorithm secret ask) = m.holds algorithm secret ≡ true

-- The method of a request with its fields: `none`, a password, a query whether a key would do, or the key with the suite's signature of
-- the session identifier and the request (RFC 4252 sections 5.2, 8 and 7).
abbrev pub held_method : SuiteData → List ℕ → List ℕ → List ℕ → CredentialData → MethodData
held_method m session user service ByNothing = NoMethod
held_method m session user service (ByPassword password) = Password password
held_method m session user service (ByKey algorithm secret true) = PublicKeyQuery algorithm (m.blob algorithm secret)
held_method m session user service (ByKey algorithm secret false) =
    PublicKey algorithm (m.blob algorithm secret) (m.sign algorithm secret (signed_text session user service algorithm (m.blob algorithm secret)))

-- the request of an attempt in this session (RFC 4252 section 5)
abbrev pub held_request : SuiteData → List ℕ → AttemptData → List ℕ
held_request m session a = written_message (UserauthRequest a.user a.service (held_method m session a.user a.service a.proving))
