-- What comes of a client and a server: a choice over their two configs, where both use one suite of algorithms and whoever
-- runs them decides as the policy says. It knows no message but the two KEXINITs that are hashed, and no packet, buffer, phase
-- or order of events. Throughout, m is what the suite answers, and d what is decided.

use Rattle.std.specs.Prelude.{if◌then◌else◌, Result, Ok, Err}
use Rattle.sshmsg.specs.declared.numbers.TheConstants.{SSH_DISCONNECT_HOST_KEY_NOT_VERIFIABLE, SSH_DISCONNECT_NO_MORE_AUTH_METHODS_AVAILABLE, SSH_DISCONNECT_SERVICE_NOT_AVAILABLE}
use Rattle.sshneg.specs.declared.choice.NoCommon.{NoCommon}
use Rattle.sshneg.specs.ChoiceReadings.{choice}
use Rattle.sshneg.specs.Fields.{AlgorithmsData}
use Rattle.sshpacket.specs.Suite.{SuiteData}
use Rattle.sshcore.specs.declared.end.Fault.TheVariants as fault
use Rattle.sshcore.specs.ConfigParts.{ClientData, ServerData, client_offer, server_offer}
use Rattle.sshcore.specs.EndData.{AgreedData, Authenticated, Closed, EndData, Failed}
use Rattle.sshcore.specs.EndpointParts.{DecisionsData}
use Rattle.sshworld.specs.Agreement.{agreed, host_key_of_server}
use Rattle.sshworld.specs.Verdicts.{Exhausted, How, Limit, Success, Unknown, verdict}

-- the client's end and the server's
pub record BothEnds : Type 0 where
  pub client : EndData
  pub server : EndData

-- What can come of two configs: a field has no algorithm in common; the client doesn't trust the server's host key; a request
-- is for a service that the server doesn't have; the user is accepted; the server grants no more requests; or the client has no
-- more to offer.
pub data Case : Type 0 where
  NothingCommon : NoCommon → Case
  HostKeyRefused : Case
  ServiceUnknown : Case
  UserAccepted : AgreedData → Case
  TriesUsedUp : Case
  NoneLeft : Case

-- How both end in each case: the side that finds a failure has failed by it, and the other is closed by its DISCONNECT, with
-- this reason (RFC 4253 section 11.1). That nothing is common both find (which failure has which reason is profile).
abbrev pub ends_of_case : Case → BothEnds
ends_of_case (NothingCommon field) = record { client = Failed (fault.NoCommon field); server = Failed (fault.NoCommon field) }
ends_of_case HostKeyRefused = record { client = Failed fault.HostKey; server = Closed SSH_DISCONNECT_HOST_KEY_NOT_VERIFIABLE }
ends_of_case ServiceUnknown = record { client = Closed SSH_DISCONNECT_SERVICE_NOT_AVAILABLE; server = Failed fault.Service }
ends_of_case (UserAccepted a) = record { client = Authenticated a; server = Authenticated a }
ends_of_case TriesUsedUp = record { client = Closed SSH_DISCONNECT_NO_MORE_AUTH_METHODS_AVAILABLE; server = Failed fault.TooManyTries }
ends_of_case NoneLeft = record { client = Failed fault.NoMoreMethods; server = Closed SSH_DISCONNECT_NO_MORE_AUTH_METHODS_AVAILABLE }

-- The case by how the requests of authentication end, with these algorithms (RFC 4252 section 5).
abbrev pub case_of_how : SuiteData → ClientData → ServerData → AlgorithmsData → How → Case
case_of_how m client server algorithms Unknown = ServiceUnknown
case_of_how m client server algorithms (Success attempt) = UserAccepted (agreed m client server algorithms attempt)
case_of_how m client server algorithms Limit = TriesUsedUp
case_of_how m client server algorithms Exhausted = NoneLeft

-- The case by the choice of algorithms: the first field without a choice, if there is one (RFC 4253 section 7.1); else the
-- client decides on the server's host key (section 8); else the requests decide.
abbrev pub case_of_choice : SuiteData → DecisionsData → ClientData → ServerData → Result AlgorithmsData NoCommon → Case
case_of_choice m d client server (Err field) = NothingCommon field
case_of_choice m d client server (Ok algorithms) =
    if d.host_key algorithms.host_key (host_key_of_server m server algorithms.host_key)
    then case_of_how m client server algorithms (verdict m d client server).how
    else HostKeyRefused

-- The case of two configs: the algorithms are chosen by what their KEXINITs offer (RFC 4253 section 7.1).
abbrev pub case_of : SuiteData → DecisionsData → ClientData → ServerData → Case
case_of m d client server = case_of_choice m d client server (choice m (client_offer client) (server_offer server))

-- The outcome of two configs.
unfoldable pub outcome : SuiteData → DecisionsData → ClientData → ServerData → BothEnds
outcome m d client server = ends_of_case (case_of m d client server)
