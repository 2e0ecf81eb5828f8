-- What a client sends to be authenticated, and how that ends: RFC 4252 sections 5 to 8.

use Rattle.std.specs.Prelude.{◌&&◌, ℕ, Bool, true, false, if◌then◌else◌, List, [], ◌∷◌, length, Option, None, Some}
use Rattle.std.specs.Str.{bytes_eq}
use Rattle.sshmsg.specs.declared.numbers.TheConstants.{SSH_MSG_USERAUTH_PK_OK, SSH_MSG_USERAUTH_SUCCESS}
use Rattle.sshmsg.specs.MessageData.{MethodData, NoMethod, Password, PublicKey, PublicKeyQuery, UserauthRequest}
use Rattle.sshmsg.specs.Written.{written_message}
use Rattle.sshneg.specs.Derivations.{signed_text}
use Rattle.sshpacket.specs.Suite.{SuiteData}
use Rattle.sshcore.specs.declared.end.Fault.TheVariants as fault
use Rattle.sshcore.specs.ConfigParts.{AttemptData, ByKey, ByNothing, ByPassword, CredentialData}
use Rattle.sshcore.specs.EndData.{AgreedData, Authenticated, Reply, fails, goes}
use Rattle.sshcore.specs.KnownBefore.{Known}
use Rattle.sshcore.specs.Plan.{confirmed, next_after}
use Rattle.sshcore.specs.Step.{AtOnce, Step, signed_step}

-- a key with a signature; without one the attempt is made by `none` (profile)
abbrev pub signed_method : List ℕ → List ℕ → Option (List ℕ) → MethodData
signed_method algorithm key None = NoMethod
signed_method algorithm key (Some signature) = PublicKey algorithm key signature

-- The method of a request with its fields: `none`, a password, a query whether a key would do, or the key with the signature that was made
-- of the session identifier and the request, if one was (RFC 4252 sections 5.2, 8 and 7).
abbrev pub method_with : SuiteData → Option (List ℕ) → CredentialData → MethodData
method_with m signature ByNothing = NoMethod
method_with m signature (ByPassword password) = Password password
method_with m signature (ByKey algorithm secret true) = PublicKeyQuery algorithm (m.blob algorithm secret)
method_with m signature (ByKey algorithm secret false) = signed_method algorithm (m.blob algorithm secret) signature

-- whether it was asked if this key would do
abbrev pub is_asked : SuiteData → CredentialData → List ℕ → List ℕ → Bool
is_asked m ByNothing algorithm key = false
is_asked m (ByPassword password) algorithm key = false
is_asked m (ByKey own secret ask) algorithm key = ask && (bytes_eq algorithm own && bytes_eq key (m.blob own secret))

-- the request of an attempt, with the signature that was made for it, if one was (RFC 4252 section 5)
abbrev pub request_with : SuiteData → Option (List ℕ) → AttemptData → List ℕ
request_with m signature a = written_message (UserauthRequest a.user a.service (method_with m signature a.proving))

-- the signature of an attempt's request by a private key that the suite holds, where it has one (RFC 4252 section 7)
abbrev pub own_signature : SuiteData → List ℕ → AttemptData → CredentialData → Option (List ℕ)
own_signature m session a (ByKey algorithm secret false) =
    Some (m.sign algorithm secret (signed_text session a.user a.service algorithm (m.blob algorithm secret)))
own_signature m session a _ = None

-- the request of an attempt that asks nobody
abbrev pub own_request : SuiteData → List ℕ → AttemptData → List ℕ
own_request m session a = request_with m (own_signature m session a a.proving) a

-- An attempt in this session is made by its request, after which so many are left. By a key, and where no query comes first, the session
-- identifier and the request are signed (RFC 4252 section 7) (the number is profile).
abbrev pub credential_step : SuiteData → ℕ → List ℕ → AttemptData → CredentialData → Step
credential_step m number session a (ByKey algorithm secret false) =
    signed_step m number algorithm secret (signed_text session a.user a.service algorithm (m.blob algorithm secret)) (λ signature. goes (request_with m signature a ∷ []))
credential_step m number session a _ = AtOnce (goes (request_with m None a ∷ []))

-- the first of the attempts that are left is made (F14 is profile)
abbrev pub attempt_step : SuiteData → List ℕ → List AttemptData → Step
attempt_step m session [] = AtOnce (fails fault.NoMoreMethods)
attempt_step m session (a ∷ later) = credential_step m (length later) session a a.proving

-- FAILURE: the next attempt whose method it lists; whether the request succeeded as one of several is ignored (profile)
abbrev pub failure_step : SuiteData → Known → List (List ℕ) → Step
failure_step m known listed = attempt_step m known.session (next_after listed known.left)

-- whether the first of these attempts has made a query, of this key
abbrev pub answers_query : SuiteData → List ℕ → List ℕ → List AttemptData → Bool
answers_query m algorithm key [] = false
answers_query m algorithm key (a ∷ later) = is_asked m a.proving algorithm key

-- PK_OK: it has to be of the key that the query had, and then the attempt itself is made; where no query waits, it is unexpected (F6 is
-- profile)
abbrev pub pk_ok_step : SuiteData → Known → List ℕ → List ℕ → Step
pk_ok_step m known algorithm key =
    if answers_query m algorithm key known.left then attempt_step m known.session (confirmed known.left)
    else AtOnce (fails (fault.Unexpected SSH_MSG_USERAUTH_PK_OK))

-- what is agreed once this user is authenticated for this service
abbrev pub agreed_by : Known → List ℕ → List ℕ → AgreedData
agreed_by known user service =
    record { algorithms = known.algorithms; strict = known.strict; session = known.session; user = user; service = service }

-- SUCCESS: by the attempts that are left, of which the first is the one that was made; where none was, it answers no request and
-- is unexpected (F6 is profile)
abbrev pub success_by : Known → List AttemptData → Reply
success_by known [] = fails (fault.Unexpected SSH_MSG_USERAUTH_SUCCESS)
success_by known (a ∷ later) = record { answers = []; end = Authenticated (agreed_by known a.user a.service) }

-- what a client answers to SUCCESS, by the attempts that are left of its plan (RFC 4252 section 5.1)
abbrev pub success_reply : Known → Reply
success_reply known = success_by known known.left
