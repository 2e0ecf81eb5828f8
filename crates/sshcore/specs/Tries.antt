-- What a request of authentication proves, and what it comes to: RFC 4252 sections 5 to 8.

use Rattle.std.specs.Prelude.{ℕ, ◌+◌, ◌&&◌, Bool, false, if◌then◌else◌, List, [], ◌∷◌, codes, Option, None, Some, Result, Ok}
use Rattle.sshwire.specs.TypeReadings.{is_name}
use Rattle.sshwire.specs.declared.share_form.ShareForm.TheVariants.{Mpint}
use Rattle.sshmsg.specs.declared.fault.MsgFault.{MsgFault}
use Rattle.sshmsg.specs.declared.numbers.TheConstants.{SSH_MSG_USERAUTH_REQUEST}
use Rattle.sshmsg.specs.MessageData.{MessageData, MethodData, NoMethod, Password, PublicKey, UserauthRequest, method_name}
use Rattle.sshmsg.specs.Messages.{message_in}
use Rattle.sshneg.specs.declared.side.Side.{Side}
use Rattle.sshneg.specs.ChoiceReadings.{is_in}
use Rattle.sshneg.specs.Derivations.{signed_text}
use Rattle.sshpacket.specs.Places.{flat_places}
use Rattle.sshpacket.specs.Stream.{Units}
use Rattle.sshpacket.specs.Suite.{SuiteData}
use Rattle.sshcore.specs.declared.phase_table.Phase.TheVariants as phase
use Rattle.sshcore.specs.Before.{count_kept, kept, stood}
use Rattle.sshcore.specs.Exchange.{session_at}
use Rattle.sshcore.specs.EndpointParts.{ConfigData, DecisionsData, KeyProof, NoProof, PasswordProof, ProofData, Setup, UserKeyData}
use Rattle.sshcore.specs.Phases.{leaving}
use Rattle.sshcore.specs.CompletedMethods.{Tried}

-- An algorithm of users' keys is supported: it is a name, and the suite signs with it (RFC 4252 section 7) (that the algorithm is a name is
-- profile).
abbrev pub is_supported : SuiteData → List ℕ → Bool
is_supported m algorithm = is_name algorithm && (m.can algorithm).signature

-- What a signature proves: that the user's side has the private key, if the algorithm is supported and the signature of the session
-- identifier and the request is the key's (RFC 4252 section 7).
abbrev pub signed_proof : SuiteData → List ℕ → List ℕ → List ℕ → List ℕ → List ℕ → List ℕ → Option ProofData
signed_proof m session user service algorithm key signature =
    if is_supported m algorithm && m.verify algorithm key (signed_text session user service algorithm key) signature
    then Some (KeyProof algorithm key) else None

-- What a request proves of its user, if its method may be used and its proof holds: `none` always (RFC 4252 section 5.2), a
-- password and a signature where the method is listed (sections 8 and 7). A query, a change of the password and any other method
-- prove nothing.
unfoldable pub proof_in : SuiteData → ConfigData → List ℕ → List ℕ → List ℕ → MethodData → Option ProofData
proof_in m config session user service NoMethod = Some NoProof
proof_in m config session user service (Password password) =
    if is_in config.methods (codes "password") then Some (PasswordProof password) else None
proof_in m config session user service (PublicKey algorithm key signature) =
    if is_in config.methods (codes "publickey") then signed_proof m session user service algorithm key signature else None
proof_in m config session user service _ = None

-- the request of this number is successful: it proves something, and the decision on that is yes
abbrev pub is_decided : DecisionsData → ℕ → List ℕ → List ℕ → Option ProofData → Bool
is_decided d request user service None = false
is_decided d request user service (Some proof) = d.user request user service proof

-- the request of this number in this session is successful (RFC 4252 section 5)
abbrev pub is_successful_at : SuiteData → DecisionsData → ConfigData → List ℕ → ℕ → List ℕ → List ℕ → MethodData → Bool
is_successful_at m d config session request user service method = is_decided d request user service (proof_in m config session user service method)

-- what came of a request by this method: its user and service, and the method where it was successful
abbrev pub tried_with : List ℕ → List ℕ → MethodData → Bool → Tried
tried_with user service method successful = record { user = user; service = service; successful = if successful then Some (method_name method) else None }

-- what came of a message: of a USERAUTH_REQUEST what it tried, of any other nothing
abbrev pub tried_by : SuiteData → DecisionsData → ConfigData → List ℕ → ℕ → Result MessageData MsgFault → List Tried
tried_by m d config session request (Ok (UserauthRequest user service method)) =
    tried_with user service method (is_successful_at m d config session request user service method) ∷ []
tried_by m d config session request _ = []

-- what came of a payload, read as a message
unfoldable pub tried_in : SuiteData → DecisionsData → ConfigData → List ℕ → ℕ → List ℕ → List Tried
tried_in m d config session request payload = tried_by m d config session request (message_in Mpint payload)

-- the session identifier, once it is known (RFC 4253 section 7.2)
abbrev pub session_known : SuiteData → Side → ConfigData → List ℕ → Units → List ℕ
session_known m role config version before = if stood role config.offer (leaving role phase.Exchange) before then session_at m role config version before else []

-- What the requests of these payloads came to, in order: each with its number from 1.
abbrev pub tried_place : Setup → List ℕ → Units → List ℕ → List Tried
tried_place setup version before payload =
    if kept setup.role setup.config.offer SSH_MSG_USERAUTH_REQUEST before payload
    then tried_in setup.suite setup.decisions setup.config (session_known setup.suite setup.role setup.config version before) (count_kept setup.role setup.config.offer SSH_MSG_USERAUTH_REQUEST before + 1) payload
    else []

-- what all requests among these payloads came to, in order, each with its number from 1
unfoldable pub tried_at : Setup → List ℕ → Units → List Tried
tried_at setup version before = flat_places (tried_place setup version) [] before

-- The key of a signed request, whose algorithm is a name.
abbrev pub key_of : MethodData → List UserKeyData
key_of (PublicKey algorithm key signature) = if is_name algorithm then record { algorithm = algorithm; blob = key } ∷ [] else []
key_of _ = []

-- The key by which a request was successful, if it was by one.
abbrev pub successful_key_by : SuiteData → DecisionsData → ConfigData → List ℕ → ℕ → Result MessageData MsgFault → List UserKeyData
successful_key_by m d config session request (Ok (UserauthRequest user service method)) =
    if is_successful_at m d config session request user service method then key_of method else []
successful_key_by m d config session request _ = []

-- the key by which the request in this payload was successful, if there is one
unfoldable pub successful_key_in : SuiteData → DecisionsData → ConfigData → List ℕ → ℕ → List ℕ → List UserKeyData
successful_key_in m d config session request payload = successful_key_by m d config session request (message_in Mpint payload)

-- The keys by which the requests of these payloads were successful, in order.
abbrev pub successful_key_place : Setup → List ℕ → Units → List ℕ → List UserKeyData
successful_key_place setup version before payload =
    if kept setup.role setup.config.offer SSH_MSG_USERAUTH_REQUEST before payload
    then successful_key_in setup.suite setup.decisions setup.config (session_known setup.suite setup.role setup.config version before) (count_kept setup.role setup.config.offer SSH_MSG_USERAUTH_REQUEST before + 1) payload
    else []

-- the keys by which the requests among these payloads were successful, in order (RFC 4252 section 7)
unfoldable pub successful_keys_at : Setup → List ℕ → Units → List UserKeyData
successful_keys_at setup version before = flat_places (successful_key_place setup version) [] before

-- the last of these, or this one where there are none
abbrev pub last_key : Option UserKeyData → List UserKeyData → Option UserKeyData
last_key key [] = key
last_key key (k ∷ later) = last_key (Some k) later
