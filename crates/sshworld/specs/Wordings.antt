-- The payloads that two configs send each other in their course.

use Rattle.std.specs.Prelude.{ℕ, ◌+◌, Bool, true, false, if◌then◌else◌, List, [], length, take, Option, None, Some, Result, Ok, Err, slice_get}
use Rattle.sshmsg.specs.MessageData.{Disconnect, KexInit, MessageData, NewKeys, ServiceAccept, ServiceRequest, UserauthFailure, UserauthPkOk, UserauthSuccess}
use Rattle.sshmsg.specs.Written.{written_message}
use Rattle.sshneg.specs.declared.choice.NoCommon.{NoCommon}
use Rattle.sshneg.specs.ChoiceReadings.{choice}
use Rattle.sshneg.specs.Fields.{AlgorithmsData}
use Rattle.sshpacket.specs.Suite.{SuiteData}
use Rattle.sshcore.specs.ConfigParts.{AttemptData, ByKey, ByNothing, ByPassword, ClientData, CredentialData, ServerData, client_offer, server_offer}
use Rattle.sshcore.specs.Exchange.{chosen_or, secret_of}
use Rattle.sshcore.specs.EndpointParts.{DecisionsData, config_of_client}
use Rattle.sshcore.specs.Work.{banner_by, guessed_method, init_for, reply_in, userauth}
use Rattle.sshworld.specs.Agreement.{answer_of_server, host_key_of_server, session_between}
use Rattle.sshworld.specs.Held.{held_request}
use Rattle.sshworld.specs.Judging.{is_proved}
use Rattle.sshworld.specs.Offered.{offered}
use Rattle.sshworld.specs.Wording.{Wording}

-- The method for which the client makes its share: the chosen one; where there is no choice, the one that it guesses (RFC 4253
-- section 7).
abbrev pub method_used : ClientData → Result AlgorithmsData NoCommon → List ℕ
method_used client (Ok algorithms) = algorithms.kex
method_used client (Err field) = guessed_method (config_of_client client)

-- The server's signature of the exchange hash (RFC 4253 section 8).
abbrev pub signature_of_server : SuiteData → ClientData → ServerData → AlgorithmsData → List ℕ
signature_of_server m client server algorithms =
    m.sign algorithms.host_key (secret_of server.host_keys algorithms.host_key) (session_between m client server algorithms)

-- The server's answer to the client's share, in the form of the chosen method (RFC 4253 section 8, RFC 5656 section 4).
abbrev pub reply_of_server : SuiteData → ClientData → ServerData → AlgorithmsData → List ℕ
reply_of_server m client server algorithms =
    written_message (reply_in (m.share_form algorithms.kex) (host_key_of_server m server algorithms.host_key)
    (answer_of_server m client server algorithms.kex).share (signature_of_server m client server algorithms))

-- The request of an attempt, where there is one (RFC 4252 section 5).
abbrev pub request_or : SuiteData → List ℕ → Option AttemptData → List ℕ
request_or m session (Some attempt) = held_request m session attempt
request_or m session None = []

-- What answers a request that ends nothing, by whether its method may be used and the decision on it is yes: PK_OK to a query whose
-- key would do (RFC 4252 section 7), else FAILURE, which tells partial success where the request is successful (section 5.1).
abbrev pub answer_by : SuiteData → List (List ℕ) → Bool → CredentialData → MessageData
answer_by m methods proved ByNothing = UserauthFailure methods proved
answer_by m methods proved (ByPassword password) = UserauthFailure methods proved
answer_by m methods proved (ByKey algorithm secret false) = UserauthFailure methods proved
answer_by m methods proved (ByKey algorithm secret true) =
    if proved then UserauthPkOk algorithm (m.blob algorithm secret) else UserauthFailure methods false

-- the server's answer to this attempt's request after those made, if it ends nothing
abbrev pub answer_to : SuiteData → DecisionsData → ServerData → List AttemptData → AttemptData → MessageData
answer_to m d server made attempt = answer_by m server.methods (is_proved m d server (length made + 1) attempt) attempt.proving

-- the server's answer to the next request as a payload; no byte where none is made
abbrev pub answer_or : SuiteData → DecisionsData → ServerData → List AttemptData → Option AttemptData → List ℕ
answer_or m d server made (Some attempt) = written_message (answer_to m d server made attempt)
answer_or m d server made None = []

-- The payloads of a course with these algorithms, in which the client makes its share for this method (RFC 4253 sections 7 to 10, RFC 4252
-- sections 5, 5.1 and 5.4).
abbrev pub wording_with : SuiteData → DecisionsData → ClientData → ServerData → List ℕ → AlgorithmsData → Wording
wording_with m d client server kex algorithms = record {
  client_offer = written_message (KexInit (client_offer client));
  server_offer = written_message (KexInit (server_offer server));
  guess = init_for m (config_of_client client) (guessed_method (config_of_client client));
  init = init_for m (config_of_client client) kex;
  reply = reply_of_server m client server algorithms;
  new_keys = written_message NewKeys;
  service_request = written_message (ServiceRequest userauth);
  service_accept = written_message (ServiceAccept userauth);
  banner = banner_by server.banner;
  request = λ i. request_or m (session_between m client server algorithms) (slice_get (offered m d server client.plan) i);
  refusal = λ i. answer_or m d server (take i (offered m d server client.plan)) (slice_get (offered m d server client.plan) i);
  success = written_message UserauthSuccess;
  disconnect = λ reason. written_message (Disconnect reason [] []);
}

-- The payloads of a course with this choice of algorithms.
abbrev pub wording_by : SuiteData → DecisionsData → ClientData → ServerData → Result AlgorithmsData NoCommon → Wording
wording_by m d client server r = wording_with m d client server (method_used client r) (chosen_or r)

-- The payloads of the course of two configs.
abbrev pub wording_of : SuiteData → DecisionsData → ClientData → ServerData → Wording
wording_of m d client server = wording_by m d client server (choice m (client_offer client) (server_offer server))
