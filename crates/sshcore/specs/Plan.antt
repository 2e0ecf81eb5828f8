-- What a client's plan still has, by the answers that it received: RFC 4252 sections 5, 5.1 and 7.

use Rattle.std.specs.Prelude.{◌==◌, ◌||◌, if◌then◌else◌, ℕ, Bool, false, List, [], ◌∷◌, codes, drop, Result, Ok, true}
use Rattle.sshwire.specs.declared.share_form.ShareForm.TheVariants.{Mpint}
use Rattle.sshmsg.specs.declared.fault.MsgFault.{MsgFault}
use Rattle.sshmsg.specs.declared.numbers.TheConstants.{SSH_MSG_USERAUTH_FAILURE, SSH_MSG_USERAUTH_PK_OK}
use Rattle.sshmsg.specs.MessageData.{MessageData, UserauthFailure}
use Rattle.sshmsg.specs.Messages.{message_in}
use Rattle.sshmsg.specs.Numbers.{message_number}
use Rattle.sshneg.specs.ChoiceReadings.{is_in}
use Rattle.sshpacket.specs.Stream.{Units}
use Rattle.sshcore.specs.ConfigParts.{AttemptData, ByKey, ByNothing, ByPassword, CredentialData}

-- the name of the method by which an attempt is made (RFC 4252 sections 5.2, 7 and 8)
abbrev pub proving_name : CredentialData → List ℕ
proving_name ByNothing = codes "none"
proving_name (ByPassword password) = codes "password"
proving_name (ByKey algorithm secret ask) = codes "publickey"

-- the attempt asks first whether its key would do (RFC 4252 section 7)
abbrev pub asks : CredentialData → Bool
asks ByNothing = false
asks (ByPassword password) = false
asks (ByKey algorithm secret ask) = ask

-- the credential of an attempt after its query: it doesn't ask again
abbrev pub unasked : CredentialData → CredentialData
unasked ByNothing = ByNothing
unasked (ByPassword password) = ByPassword password
unasked (ByKey algorithm secret ask) = ByKey algorithm secret false

-- the attempt after its query: the request itself, with a signature (RFC 4252 section 7)
abbrev pub after_query : AttemptData → AttemptData
after_query a = record a { proving = unasked a.proving }

-- The attempts from the next one on whose method is listed; those that are skipped aren't made later (profile).
unfoldable pub next_listed : List (List ℕ) → List AttemptData → List AttemptData
next_listed listed [] = []
next_listed listed (a ∷ later) = if is_in listed (proving_name a.proving) then a ∷ later else next_listed listed later

-- the methods that a FAILURE lists (RFC 4252 section 5.1)
abbrev pub listed_by : Result MessageData MsgFault → List (List ℕ)
listed_by (Ok (UserauthFailure listed partial)) = listed
listed_by _ = []

-- the methods that a payload lists, if it is a FAILURE (RFC 4252 section 5.1)
unfoldable pub listed_in : List ℕ → List (List ℕ)
listed_in payload = listed_by (message_in Mpint payload)

-- After the attempt that was made, which is the first: the attempts from the next one on whose method is listed.
abbrev pub next_after : List (List ℕ) → List AttemptData → List AttemptData
next_after listed attempts = next_listed listed (drop 1 attempts)

-- After a PK_OK: the attempt of the query is made itself.
abbrev pub confirmed : List AttemptData → List AttemptData
confirmed [] = []
confirmed (a ∷ later) = after_query a ∷ later

-- how the first attempt is made: itself, if its query was confirmed
abbrev pub first_made : Bool → AttemptData → AttemptData
first_made true a = after_query a
first_made false a = a

-- a query waits for its answer: the attempt that was made last, which is the first, asks
abbrev pub is_waiting : List AttemptData → Bool
is_waiting [] = false
is_waiting (a ∷ later) = asks a.proving

-- an answer to a request that ends no authentication: FAILURE or PK_OK
abbrev pub is_answer : ℕ → Bool
is_answer n = n == SSH_MSG_USERAUTH_FAILURE || n == SSH_MSG_USERAUTH_PK_OK

-- what is left of attempts after an answer to the first
abbrev pub left_after_one : List AttemptData → List ℕ → List AttemptData
left_after_one attempts answer = if message_number answer == SSH_MSG_USERAUTH_PK_OK then confirmed attempts else next_after (listed_in answer) attempts

-- what is left of a plan after these answers: from the attempt on that was made last
unfoldable pub left_after : List AttemptData → Units → List AttemptData
left_after plan [] = plan
left_after plan (answer ∷ later) = left_after (left_after_one plan answer) later
