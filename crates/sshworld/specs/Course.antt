-- The course of a client and a server: which payloads each sends in answer to what it receives, if all that is sent is received.
-- What a side receives are units, counted from 0: unit 0 is the other's version line, and the units after it are the other's
-- payloads. What a side sends are groups of payloads: the first group stands after its own version line, before it receives
-- anything, and group i answers unit i, perhaps by nothing.

use Rattle.std.specs.Prelude.{◌+◌, ◌==◌, ◌++◌, ℕ, zero, suc, List, [], ◌∷◌, length, map, if◌then◌else◌, nat_lt, Result, Ok, Err}
use Rattle.sshmsg.specs.declared.numbers.TheConstants.{SSH_DISCONNECT_HOST_KEY_NOT_VERIFIABLE, SSH_DISCONNECT_KEY_EXCHANGE_FAILED, SSH_DISCONNECT_NO_MORE_AUTH_METHODS_AVAILABLE, SSH_DISCONNECT_SERVICE_NOT_AVAILABLE}
use Rattle.sshneg.specs.declared.choice.NoCommon.{NoCommon}
use Rattle.sshneg.specs.ChoiceReadings.{choice}
use Rattle.sshneg.specs.Fields.{AlgorithmsData}
use Rattle.sshpacket.specs.Stream.{Units}
use Rattle.sshpacket.specs.Suite.{SuiteData}
use Rattle.sshcore.specs.ConfigParts.{ClientData, ServerData, client_offer, server_offer}
use Rattle.sshcore.specs.EndData.{EndData}
use Rattle.sshcore.specs.EndpointParts.{DecisionsData}
use Rattle.sshworld.specs.Agreement.{host_key_of_server}
use Rattle.sshworld.specs.Guesses.{Guess, NoGuess, RightGuess, WrongGuess}
use Rattle.sshworld.specs.Outcome.{BothEnds}
use Rattle.sshworld.specs.Verdicts.{Exhausted, How, Limit, Success, Unknown, Verdict, verdict}
use Rattle.sshworld.specs.Wording.{Wording}

-- One side's part of a course: its first group, the group that answers each unit, how many units it receives, and its end, which
-- the last of them brings.
pub record Part : Type 0 where
  pub first : Units
  pub group : ℕ → Units
  pub receives : ℕ
  pub final : EndData

-- what answers the first n units
abbrev pub answers_to : (ℕ → Units) → ℕ → Units
answers_to group zero = []
answers_to group (suc n) = answers_to group n ++ group n

-- The payloads that a side has sent when it has received n units.
abbrev pub sent_after : Part → ℕ → Units
sent_after part n = part.first ++ answers_to part.group n

-- the group for unit n: one of these groups, or of those that come after them
abbrev pub group_at : List Units → (ℕ → Units) → ℕ → Units
group_at [] after n = after n
group_at (group ∷ groups) after zero = group
group_at (group ∷ groups) after (suc n) = group_at groups after n

-- every unit is answered by the empty group
abbrev pub nothing : ℕ → Units
nothing n = []

-- The KEXDH_INIT that is sent right after the client's KEXINIT, as a guess (RFC 4253 section 7).
abbrev pub guessed : Wording → Guess → Units
guessed w NoGuess = []
guessed w RightGuess = w.init ∷ []
guessed w WrongGuess = w.guess ∷ []

-- the client's first group is its KEXINIT, and its guess where it sends one (RFC 4253 section 7.1)
abbrev pub client_first : Wording → Guess → Units
client_first w guess = w.client_offer ∷ guessed w guess

-- the server's first group is its KEXINIT (RFC 4253 section 7.1)
abbrev pub server_first : Wording → Units
server_first w = w.server_offer ∷ []

-- The KEXDH_INIT that answers the server's KEXINIT: it is sent unless the guess was right (RFC 4253 section 7).
abbrev pub init_anew : Wording → Guess → Units
init_anew w NoGuess = w.init ∷ []
init_anew w RightGuess = []
init_anew w WrongGuess = w.init ∷ []

-- The packet of a wrong guess is dropped: the group that answers it is empty (RFC 4253 section 7).
abbrev pub unanswered : Guess → List Units
unanswered NoGuess = []
unanswered RightGuess = []
unanswered WrongGuess = [] ∷ []

-- Where no algorithm is common, each side receives the other's version line and KEXINIT, and answers the KEXINIT by a DISCONNECT
-- (RFC 4253 section 7.1).
abbrev pub no_choice_groups : Wording → List Units
no_choice_groups w = [] ∷ (w.disconnect SSH_DISCONNECT_KEY_EXCHANGE_FAILED ∷ []) ∷ []

-- the client's part where no algorithm is common: it receives the server's version line and KEXINIT (RFC 4253 section 7.1)
abbrev pub client_no_choice : Wording → Guess → EndData → Part
client_no_choice w guess end = record { first = client_first w guess; group = group_at (no_choice_groups w) nothing; receives = 2; final = end }

-- the server's part where no algorithm is common: it receives the client's version line and KEXINIT (RFC 4253 section 7.1)
abbrev pub server_no_choice : Wording → EndData → Part
server_no_choice w end = record { first = server_first w; group = group_at (no_choice_groups w) nothing; receives = 2; final = end }

-- Where the client doesn't trust the host key, it receives the server's version line, KEXINIT and KEXDH_REPLY, and answers the
-- KEXDH_REPLY by a DISCONNECT (RFC 4253 section 8).
abbrev pub client_no_trust : Wording → Guess → EndData → Part
client_no_trust w guess end = record {
  first = client_first w guess;
  group = group_at ([] ∷ init_anew w guess ∷ (w.disconnect SSH_DISCONNECT_HOST_KEY_NOT_VERIFIABLE ∷ []) ∷ []) nothing;
  receives = 3;
  final = end;
}

-- The server receives the version line, KEXINIT, a wrong guess, KEXDH_INIT and that DISCONNECT. It answers the KEXDH_INIT by
-- KEXDH_REPLY and NEWKEYS (RFC 4253 section 8).
abbrev pub server_no_trust : Wording → Guess → EndData → Part
server_no_trust w guess end = record {
  first = server_first w;
  group = group_at ([] ∷ [] ∷ unanswered guess ++ (w.reply ∷ w.new_keys ∷ []) ∷ []) nothing;
  receives = 4 + length (unanswered guess);
  final = end;
}

-- What the client sends after the last answer: a DISCONNECT, where it has no more to offer.
abbrev pub client_last : Wording → How → Units
client_last w Unknown = []
client_last w (Success attempt) = []
client_last w Limit = []
client_last w Exhausted = w.disconnect SSH_DISCONNECT_NO_MORE_AUTH_METHODS_AVAILABLE ∷ []

-- What it sends after i requests that were answered: the next request, if one is made (RFC 4252 section 5).
abbrev pub client_next : Wording → Verdict → ℕ → Units
client_next w v i = if nat_lt i v.requests then w.request i ∷ [] else (if i == v.requests then client_last w v.how else [])

-- The server's answer to the last request, after i others (RFC 4252 section 5): SUCCESS, or a DISCONNECT where the service is
-- unknown or it grants no more requests; or FAILURE, and the client has no more to offer.
abbrev pub server_last : Wording → ℕ → How → Units
server_last w i Unknown = w.disconnect SSH_DISCONNECT_SERVICE_NOT_AVAILABLE ∷ []
server_last w i (Success attempt) = w.success ∷ []
server_last w i Limit = w.disconnect SSH_DISCONNECT_NO_MORE_AUTH_METHODS_AVAILABLE ∷ []
server_last w i Exhausted = w.refusal i ∷ []

-- Its answer to the request after i others: FAILURE (RFC 4252 section 5.1), if it isn't the last.
abbrev pub server_next : Wording → Verdict → ℕ → Units
server_next w v i = if nat_lt (i + 1) v.requests then w.refusal i ∷ [] else (if i + 1 == v.requests then server_last w i v.how else [])

-- Where requests are made, the client answers the version line by nothing; KEXINIT by KEXDH_INIT, unless its guess was right;
-- KEXDH_REPLY by NEWKEYS and SERVICE_REQUEST (RFC 4253 sections 7.3 and 10); NEWKEYS by nothing; SERVICE_ACCEPT by the first
-- request; and a BANNER by nothing. After these each FAILURE is answered by the next request.
abbrev pub client_early : Wording → Guess → Verdict → List Units
client_early w guess v =
    [] ∷ init_anew w guess ∷ (w.new_keys ∷ w.service_request ∷ []) ∷ [] ∷ client_next w v 0 ∷ map (λ banner. []) w.banner

-- The server answers the version line, KEXINIT and a wrong guess by nothing; KEXDH_INIT by KEXDH_REPLY and NEWKEYS; NEWKEYS by
-- nothing; and SERVICE_REQUEST by SERVICE_ACCEPT and the BANNER, if it has one (RFC 4252 section 5.4). After these each request
-- is answered (RFC 4253 sections 7.3 and 10, RFC 4252 section 5.4).
abbrev pub server_early : Wording → Guess → List Units
server_early w guess = [] ∷ [] ∷ unanswered guess ++ (w.reply ∷ w.new_keys ∷ []) ∷ [] ∷ (w.service_accept ∷ w.banner) ∷ []

-- How many units the client receives where algorithms are common and the host key is trusted. Where no request is made, it is up to
-- SERVICE_ACCEPT; else up to the answer to the last one, with the BANNER (RFC 4253 section 10, RFC 4252 section 5).
abbrev pub client_receives : Wording → ℕ → ℕ
client_receives w zero = 5
client_receives w (suc n) = 5 + length w.banner + suc n

-- How many payloads the server receives after the last request: the client's DISCONNECT, where it has no more to offer.
abbrev pub received_last : How → ℕ
received_last Unknown = 0
received_last (Success attempt) = 0
received_last Limit = 0
received_last Exhausted = 1

-- the client's part where it makes requests (RFC 4252 section 5)
abbrev pub client_requests : Wording → Guess → Verdict → EndData → Part
client_requests w guess v end = record {
  first = client_first w guess;
  group = group_at (client_early w guess v) (λ i. client_next w v (i + 1));
  receives = client_receives w v.requests;
  final = end;
}

-- The server receives the version line, KEXINIT, a wrong guess, KEXDH_INIT, NEWKEYS, SERVICE_REQUEST, all requests, and a
-- DISCONNECT if the client has no more to offer (RFC 4252 section 5).
abbrev pub server_requests : Wording → Guess → Verdict → EndData → Part
server_requests w guess v end = record {
  first = server_first w;
  group = group_at (server_early w guess) (server_next w v);
  receives = 5 + length (unanswered guess) + v.requests + received_last v.how;
  final = end;
}

-- How a course goes: no algorithm is common; or the client doesn't trust the host key; or requests are made, with this verdict.
pub data Way : Type 0 where
  NoChoice : Way
  NoTrust : Way
  Requests : Verdict → Way

-- the client's part of a course that goes this way and ends so
abbrev pub client_part : Wording → Guess → Way → BothEnds → Part
client_part w guess NoChoice ends = client_no_choice w guess ends.client
client_part w guess NoTrust ends = client_no_trust w guess ends.client
client_part w guess (Requests v) ends = client_requests w guess v ends.client

-- the server's part of a course that goes this way and ends so
abbrev pub server_part : Wording → Guess → Way → BothEnds → Part
server_part w guess NoChoice ends = server_no_choice w ends.server
server_part w guess NoTrust ends = server_no_trust w guess ends.server
server_part w guess (Requests v) ends = server_requests w guess v ends.server

-- The way by the choice of algorithms, and then by whether the client trusts the server's host key (RFC 4253 sections 7.1 and 8).
abbrev pub way_by : SuiteData → DecisionsData → ClientData → ServerData → Result AlgorithmsData NoCommon → Way
way_by m d client server (Err field) = NoChoice
way_by m d client server (Ok algorithms) =
    if d.host_key algorithms.host_key (host_key_of_server m server algorithms.host_key) then Requests (verdict m d client server)
    else NoTrust

-- The way of two configs (RFC 4253 sections 7.1 and 8).
abbrev pub way_of : SuiteData → DecisionsData → ClientData → ServerData → Way
way_of m d client server = way_by m d client server (choice m (client_offer client) (server_offer server))
