-- What an endpoint does in authentication: what it keeps after a request and after a FAILURE, and what fits its messages.

use Rattle.std.specs.Prelude.{◌≡◌, ◌==◌, ◌||◌, ℕ, ◌+◌, ◌≤◌, Bool, true, false, if◌then◌else◌, List, [], length}
use Rattle.sshwire.specs.TypeReadings.{is_name}
use Rattle.sshwire.specs.declared.limits.TheConstants.{NAME_LIMIT, PAYLOAD_LIMIT}
use Rattle.sshmsg.specs.declared.numbers.TheConstants.{SSH_MSG_USERAUTH_PK_OK, SSH_MSG_USERAUTH_REQUEST, SSH_MSG_USERAUTH_SUCCESS}
use Rattle.sshmsg.specs.MessageData.{MethodData, PublicKey, PublicKeyQuery, method_name}
use Rattle.sshmsg.specs.Lengths.{method_length}
use Rattle.sshpacket.specs.declared.limits.TheConstants.{BLOB_LIMIT, PACKET_LIMIT}
use Rattle.sshcore.specs.declared.config_parts.TheConstants.{USER_LIMIT}
use Rattle.sshcore.specs.EndData.{Reply}
use Rattle.sshcore.specs.EndpointParts.{ConfigData}
use Rattle.sshcore.specs.Requests.{is_last_try, query_reply, tried_reply}
use Rattle.sshcore.specs.StateData.{Carried}
use Rattle.sshcore.specs.KnownBefore.{Known}
use Rattle.sshcore.specs.Plan.{confirmed, next_after}
use Rattle.sshcore.specs.CompletedMethods.{Tried, completed_after_one}
use Rattle.sshcore.specs.Table.{within}
use Rattle.sshcore.specs.Tries.{key_of, last_key}

-- a request is counted
abbrev pub one_request : Known → Known
one_request known = record known { request = known.request + 1; first = false }

-- what is known after a request, which is counted, and may complete a method (RFC 4252 section 5)
abbrev pub counted_request : Known → Tried → Known
counted_request known t = record known { request = known.request + 1; completed = completed_after_one known.completed t; first = false }

-- what is carried along after a request by this method, which was successful or not: its key, if it has one (RFC 4252 section 7)
abbrev pub tried_key : Carried → MethodData → Bool → Carried
tried_key c method successful = record c { user_key = last_key c.user_key (if successful then key_of method else []) }

-- what is known after a PK_OK: the next attempt is confirmed (RFC 4252 section 7)
abbrev pub confirmed_attempt : Known → Known
confirmed_attempt known = record known { left = confirmed known.left; first = false }

-- what is known after a FAILURE that lists these methods (RFC 4252 section 5.1)
abbrev pub failed_attempt : Known → List (List ℕ) → Known
failed_attempt known listed = record known { left = next_after listed known.left; first = false }

-- a request by this method claims something, if it is no query
abbrev pub claims : MethodData → Bool
claims (PublicKeyQuery algorithm key) = false
claims _ = true

-- what a request is answered once it is decided whether what it claims is accepted: a query as one, any other as it was tried
abbrev pub claimed_reply : ConfigData → Known → List ℕ → List ℕ → MethodData → Bool → Reply
claimed_reply config known user service (PublicKeyQuery algorithm key) allowed = query_reply config algorithm key allowed
claimed_reply config known user service method allowed = tried_reply config known user service method allowed

-- the algorithm of a signed request is a name
abbrev pub HasName : MethodData → Type 0
HasName (PublicKey algorithm key signature) = is_name algorithm ≡ true
HasName _ = Unit {0}

-- a query that is answered isn't the last try, and its key is short; the algorithm of a signed request is a name
abbrev pub FitsClaim : ConfigData → Known → MethodData → Type 0
FitsClaim config known (PublicKeyQuery algorithm key) = (is_last_try config known ≡ false) × (length algorithm ≤ NAME_LIMIT) × (length key ≤ BLOB_LIMIT)
FitsClaim config known method = HasName method

-- key and signature of a signed request that was read are no longer than a packet
abbrev pub FitsMethod : MethodData → Type 0
FitsMethod (PublicKey algorithm key signature) = (length key ≤ PACKET_LIMIT) × (length signature ≤ PACKET_LIMIT)
FitsMethod _ = Unit {0}

-- a request by this method fits a payload, whoever the user is and whatever the service (RFC 4253 section 6.1)
abbrev pub FitsRequest : MethodData → Type 0
FitsRequest method = USER_LIMIT + NAME_LIMIT + length (method_name method) + method_length method + 13 ≤ PAYLOAD_LIMIT

-- the number of a message of authentication that is answered
abbrev pub IsOfRequests : ℕ → Type 0
IsOfRequests n = (within SSH_MSG_USERAUTH_REQUEST SSH_MSG_USERAUTH_SUCCESS n || n == SSH_MSG_USERAUTH_PK_OK) ≡ true
