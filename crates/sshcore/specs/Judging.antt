-- What an endpoint takes a packet for before it does anything, and what it keeps of one that asks.

use Rattle.std.specs.Prelude.{◌≡◌, ◌≤◌, ℕ, Bool, true, false, List, length, drop, string_bytes, Option, None, Some, Ok}
use Rattle.sshwire.specs.TypeReadings.{is_name}
use Rattle.sshwire.specs.declared.limits.TheConstants.{NAME_LIMIT}
use Rattle.sshmsg.specs.declared.numbers.TheConstants.{SSH_MSG_KEXDH_INIT, SSH_MSG_KEXDH_REPLY}
use Rattle.sshmsg.specs.MessageData.{MessageData, MethodData, NoMethod, Password, PublicKey, PublicKeyQuery, ServiceAccept, UserauthFailure, UserauthPkOk, UserauthRequest}
use Rattle.sshmsg.specs.Messages.{Spells}
use Rattle.sshmsg.specs.Numbers.{message_number, number_of}
use Rattle.sshmsg.specs.View.{message_data}
use Rattle.sshneg.specs.declared.side.Side.{Side}
use Rattle.sshpacket.specs.declared.limits.TheConstants.{BLOB_LIMIT, PACKET_LIMIT}
use Rattle.sshpacket.specs.Suite.{SuiteData}
use Rattle.sshcore.specs.declared.judging.Judged.{Judged}
use Rattle.sshcore.specs.declared.judging.Judged.TheVariants as judged
use Rattle.sshcore.specs.declared.pending.Claim.{Claim}
use Rattle.sshcore.specs.declared.pending.Claim.TheVariants as claim
use Rattle.sshcore.specs.declared.pending.Pending.{Pending}
use Rattle.sshcore.specs.declared.pending.Pending.TheVariants as pending
use Rattle.sshcore.specs.declared.phase_table.Disposition.{Disposition}
use Rattle.sshcore.specs.declared.phase_table.Disposition.TheVariants as disposition
use Rattle.sshcore.specs.Attempts.{answers_query}
use Rattle.sshcore.specs.ConfigParts.{AttemptData}
use Rattle.sshcore.specs.EndData.{by_input, fails}
use Rattle.sshcore.specs.EndData as ends
use Rattle.sshcore.specs.EndpointParts.{ConfigData, DecisionsData, setup_with}
use Rattle.sshcore.specs.Exchange.{host_key_read, secret_of, share_read}
use Rattle.sshcore.specs.IgnoredLimit.{overspends}
use Rattle.sshcore.specs.KnownBefore.{Known}
use Rattle.sshcore.specs.Plan.{is_waiting, next_after}
use Rattle.sshcore.specs.QuestionAt.{question_at}
use Rattle.sshcore.specs.Prepared.{IsPrepared}
use Rattle.sshcore.specs.QuestionsView.{pending_question}
use Rattle.sshcore.specs.Replies.{disposition_reply}
use Rattle.sshcore.specs.Requests.{is_last_try}
use Rattle.sshcore.specs.StateData.{StateData}
use Rattle.sshcore.specs.Step.{asked_in}
use Rattle.sshcore.specs.Table.{disposition_by}
use Rattle.sshcore.specs.Work.{reply_step, step}

-- the line of the phase table by which an endpoint that keeps this takes a payload
abbrev pub line_of : Side → StateData → List ℕ → Disposition
line_of role kept payload = disposition_by role kept.phase kept.known.strict kept.guess (is_waiting kept.known.left) (message_number payload)

-- what is kept of the server's answer, at a client
abbrev pub KeepsReply : List ℕ → List ℕ → List ℕ → Pending → Type 0
KeepsReply host_key share signature (pending.Reply algorithm own_host_key own_share own_signature) =
    (own_host_key.items ≡ host_key) × (own_share.items ≡ share) × (own_signature.items ≡ signature)
KeepsReply host_key share signature _ = ⊥

-- What is kept of a client's share, where the suite doesn't hold the host key: what a server has made of its answer.
abbrev pub KeepsShare : SuiteData → Side → ConfigData → Known → List ℕ → Pending → Type 0
KeepsShare m role config known share (pending.Init algorithm prepared) =
    IsPrepared m role config known share prepared × (m.holds known.algorithms.host_key (secret_of config.host_keys known.algorithms.host_key) ≡ false)
KeepsShare m role config known share _ = ⊥

-- What is kept of the method of a request, or of a query, which isn't the last try and whose key is short. Of a signature nothing is kept.
abbrev pub KeepsMethod : ConfigData → Known → MethodData → Claim → Type 0
KeepsMethod config known method claim.None = method ≡ NoMethod
KeepsMethod config known method (claim.Password password) = method ≡ Password password.items
KeepsMethod config known method (claim.Query algorithm blob) =
    (method ≡ PublicKeyQuery (string_bytes algorithm) blob.items) × (is_last_try config known ≡ false) × (length (string_bytes algorithm) ≤ NAME_LIMIT) × (length blob.items ≤ BLOB_LIMIT)
KeepsMethod config known method (claim.Key algorithm blob) = (signature : List ℕ) × (method ≡ PublicKey (string_bytes algorithm) blob.items signature) × (is_name (string_bytes algorithm) ≡ true)

-- what is kept of a request
abbrev pub KeepsRequest : ConfigData → Known → List ℕ → List ℕ → MethodData → Pending → Type 0
KeepsRequest config known user service request (pending.Request number own_user own_service claim) =
    (string_bytes own_user ≡ user) × (string_bytes own_service ≡ service) × KeepsMethod config known request claim
KeepsRequest config known user service request _ = ⊥

-- what is kept of an attempt that is to be made: how many are skipped before it, and whether its query was confirmed
abbrev pub FitsAttempt : ℕ → Bool → Pending → Type 0
FitsAttempt skipped confirms (pending.Attempt own_skipped own_confirms number algorithm blob input) =
    (own_skipped ≡ skipped) × (own_confirms ≡ confirms) × (length (string_bytes algorithm) ≤ NAME_LIMIT) × (length blob.items ≤ BLOB_LIMIT)
FitsAttempt skipped confirms _ = ⊥

-- these attempts are made next, of those that were left
abbrev pub SkipsTo : List AttemptData → List AttemptData → Pending → Type 0
SkipsTo next left p = (skipped : ℕ) × (next ≡ drop skipped left) × FitsAttempt skipped false p

-- the server's answer of an exchange, by what is kept of it
pub record IsReplyKept (m : SuiteData) (role : Side) (config : ConfigData) (known : Known) (message : MessageData) (host_key share signature : List ℕ) : Type 0 where
  pub number : number_of message ≡ SSH_MSG_KEXDH_REPLY
  pub share_is : share_read (Ok message) ≡ share
  pub host_key_is : host_key_read (Ok message) ≡ host_key
  pub step_is : step m role config known message ≡ reply_step m role config known message signature
  pub short_share : length share ≤ PACKET_LIMIT
  pub short_host_key : length host_key ≤ PACKET_LIMIT
  pub short_signature : length signature ≤ PACKET_LIMIT

-- The message by which an attempt is made: the service is accepted, the last request failed, which may skip some, or a query's key would do.
pub data IsMadeAfter (m : SuiteData) (known : Known) (message : MessageData) (skipped : ℕ) (confirms : Bool) : Type 0 where
  Accepted : (service : List ℕ) → message ≡ ServiceAccept service → skipped ≡ 0 → confirms ≡ false → IsMadeAfter m known message skipped confirms
  Failed : (listed : List (List ℕ)) (partial : Bool) → message ≡ UserauthFailure listed partial → next_after listed known.left ≡ drop skipped known.left → confirms ≡ false
      → IsMadeAfter m known message skipped confirms
  Confirmed : (algorithm key : List ℕ) → message ≡ UserauthPkOk algorithm key → answers_query m algorithm key known.left ≡ true → skipped ≡ 0 → confirms ≡ true
      → IsMadeAfter m known message skipped confirms

-- What an endpoint keeps of a message that asks is what its answer needs: of the server's answer, host key, share and signature; of a
-- client's share, the answer to it; of a request, what it claims; of a message that makes an attempt, which.
abbrev pub FitsPending : SuiteData → Side → ConfigData → Known → MessageData → Pending → Type 0
FitsPending m role config known message (pending.Reply algorithm host_key share signature) = IsReplyKept m role config known message host_key.items share.items signature.items
FitsPending m role config known message (pending.Init algorithm prepared) =
    (share : List ℕ) × (number_of message ≡ SSH_MSG_KEXDH_INIT) × (share_read (Ok message) ≡ share) × KeepsShare m role config known share (pending.Init algorithm prepared)
FitsPending m role config known message (pending.Request number user service claim) =
    (method : MethodData) × (message ≡ UserauthRequest (string_bytes user) (string_bytes service) method) × KeepsMethod config known method claim
FitsPending m role config known message (pending.Attempt skipped confirms number algorithm blob input) =
    IsMadeAfter m known message skipped confirms × (length (string_bytes algorithm) ≤ NAME_LIMIT) × (length blob.items ≤ BLOB_LIMIT)

-- A message of this line is read, and is within what may still come that says nothing.
pub record ReadsMessage (role : Side) (kept : StateData) (payload : List ℕ) (message : MessageData) : Type 0 where
  pub reads : line_of role kept payload ≡ disposition.Reads
  pub within : overspends kept.known.allowance payload ≡ false
  pub spelled : Spells kept.known.shares message payload

-- The message of this payload is read and asks; this is what its answer needs.
pub record IsPending (m : SuiteData) (role : Side) (config : ConfigData) (kept : StateData) (payload : List ℕ) (message : MessageData) (p : Pending) : Type 0 where
  pub read : ReadsMessage role kept payload message
  pub asks : asked_in (step m role config kept.known message) ≡ Some (pending_question p)
  pub fits : FitsPending m role config kept.known message p

-- the message of this payload is read and asks nothing
pub record IsCalm (m : SuiteData) (role : Side) (config : ConfigData) (kept : StateData) (payload : List ℕ) (message : MessageData) : Type 0 where
  pub read : ReadsMessage role kept payload message
  pub calm : asked_in (step m role config kept.known message) ≡ None

-- An endpoint that keeps this takes the payload for what it is: for the packet of a wrong guess, for one by which it fails, which asks
-- nothing, for one that it doesn't know, for a message that asks nothing, or for one that asks.
abbrev pub IsJudged : SuiteData → Side → ConfigData → StateData → List ℕ → Judged → Type 0
IsJudged m role config kept payload judged.Drops = line_of role kept payload ≡ disposition.Drops
IsJudged m role config kept payload (judged.Fails fault) =
    (by_input (ends.Failed fault) ≡ true)
    × ((d : DecisionsData) (packet : ℕ) → disposition_reply (setup_with m d role config) kept.known packet (line_of role kept payload) payload ≡ fails fault)
    × (question_at m role config kept payload ≡ None)
IsJudged m role config kept payload judged.Unknown = (line_of role kept payload ≡ disposition.Unknown) × (overspends kept.known.allowance payload ≡ false)
IsJudged m role config kept payload (judged.Reads message) = IsCalm m role config kept payload (message_data message)
IsJudged m role config kept payload (judged.Asks message p) = IsPending m role config kept payload (message_data message) p

-- it asks nothing
abbrev pub is_at_once : Judged → Bool
is_at_once (judged.Asks message p) = false
is_at_once _ = true

-- it isn't read as a message
abbrev pub is_unread : Judged → Bool
is_unread (judged.Reads message) = false
is_unread (judged.Asks message p) = false
is_unread _ = true

-- what it asks, if it does
abbrev pub pending_in : Judged → Option Pending
pending_in (judged.Asks message p) = Some p
pending_in _ = None
