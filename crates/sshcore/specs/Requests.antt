-- What a server answers to a request of authentication: RFC 4252 sections 5 to 8. The order of the checks is profile.

use Rattle.std.specs.Prelude.{ℕ, ◌&&◌, Bool, false, true, nat_le, if◌then◌else◌, List, [], ◌∷◌, codes, length, Option, None, Some}
use Rattle.sshmsg.specs.MessageData.{MessageData, MethodData, PublicKey, PublicKeyQuery, UserauthFailure, UserauthPkOk, UserauthSuccess}
use Rattle.sshmsg.specs.Written.{written_message}
use Rattle.sshneg.specs.ChoiceReadings.{is_in}
use Rattle.sshpacket.specs.declared.limits.TheConstants.{BLOB_LIMIT}
use Rattle.sshpacket.specs.Suite.{SuiteData}
use Rattle.sshcore.specs.declared.end.Fault.TheVariants as fault
use Rattle.sshcore.specs.Attempts.{agreed_by}
use Rattle.sshcore.specs.EndData.{Authenticated, Reply, fails, goes}
use Rattle.sshcore.specs.KnownBefore.{Known}
use Rattle.sshcore.specs.EndpointParts.{ConfigData, DecisionsData, KeyProof, ProofData}
use Rattle.sshcore.specs.Questions.{UserQuestion, is_yes}
use Rattle.sshcore.specs.Step.{AtOnce, Asks, Step}
use Rattle.sshcore.specs.CompletedMethods.{completed_after_one, is_complete}
use Rattle.sshcore.specs.Tries.{is_successful_at, is_supported, proof_in, tried_with}

-- the request is successful
abbrev pub is_successful : SuiteData → DecisionsData → ConfigData → Known → List ℕ → List ℕ → MethodData → Bool
is_successful m d config known user service method = is_successful_at m d config known.session known.request user service method

-- A request is the last that the server grants: none has a greater number. That every request counts, and that the last one ends the
-- session, is profile (RFC 4252 section 4).
abbrev pub is_last_try : ConfigData → Known → Bool
is_last_try config known = nat_le config.tries known.request

-- a request that isn't the last that the server grants is answered by this message
abbrev pub more_reply : ConfigData → Known → MessageData → Reply
more_reply config known answer = if is_last_try config known then fails fault.TooManyTries else goes (written_message answer ∷ [])

-- The key of a query is asked about: its method is listed, its algorithm is supported, and the key isn't longer than one that a suite
-- answers (profile).
abbrev pub may_do : SuiteData → ConfigData → List ℕ → List ℕ → Bool
may_do m config algorithm key = is_in config.methods (codes "publickey") && (is_supported m algorithm && nat_le (length key) BLOB_LIMIT)

-- a query is answered by PK_OK with the same algorithm and key if the key would do, else by FAILURE with FALSE (RFC 4252 section 7)
abbrev pub query_answer : ConfigData → List ℕ → List ℕ → Bool → MessageData
query_answer config algorithm key would = if would then UserauthPkOk algorithm key else UserauthFailure config.methods false

-- what is sent to a query
abbrev pub query_reply : ConfigData → List ℕ → List ℕ → Bool → Reply
query_reply config algorithm key would = goes (written_message (query_answer config algorithm key would) ∷ [])

-- A query asks whether its key would do, for the number of the request. At the last try it fails, and asks nothing (profile).
abbrev pub query_step : SuiteData → ConfigData → Known → List ℕ → List ℕ → List ℕ → List ℕ → Step
query_step m config known user service algorithm key =
    if is_last_try config known then AtOnce (fails fault.TooManyTries)
    else if may_do m config algorithm key then Asks (UserQuestion known.request user service (KeyProof algorithm key) false) (λ answer. query_reply config algorithm key (is_yes answer))
    else AtOnce (query_reply config algorithm key false)

-- After a request all required methods are completed (RFC 4252 section 5.1; that they are so in an unbroken run of requests for
-- one user and one service is profile).
abbrev pub completes : ConfigData → Known → List ℕ → List ℕ → MethodData → Bool → Bool
completes config known user service method successful = is_complete config.required (completed_after_one known.completed (tried_with user service method successful))

-- every other request: SUCCESS where it is successful and all required methods are completed after it; else FAILURE, which tells
-- partial success where it is successful
abbrev pub tried_reply : ConfigData → Known → List ℕ → List ℕ → MethodData → Bool → Reply
tried_reply config known user service method successful =
    if successful && completes config known user service method successful
    then record { answers = written_message UserauthSuccess ∷ []; end = Authenticated (agreed_by known user service) }
    else more_reply config known (UserauthFailure config.methods successful)

-- the request is signed by a key
abbrev pub is_signed : MethodData → Bool
is_signed (PublicKey algorithm key signature) = true
is_signed _ = false

-- Any other request is asked about if it proves something. One that proves nothing asks nobody, so neither does one whose signature is
-- wrong: it is answered as a request that was tried in vain (RFC 4252 sections 5, 5.1 and 7; that the signature comes first is profile).
abbrev pub claim_step : ConfigData → Known → List ℕ → List ℕ → MethodData → Option ProofData → Step
claim_step config known user service method None = AtOnce (tried_reply config known user service method false)
claim_step config known user service method (Some proof) =
    Asks (UserQuestion known.request user service proof (is_signed method)) (λ answer. tried_reply config known user service method (is_yes answer))

-- a request by this method, for a service that the server has (RFC 4252 sections 5, 5.1 and 7)
abbrev pub method_step : SuiteData → ConfigData → Known → List ℕ → List ℕ → MethodData → Step
method_step m config known user service (PublicKeyQuery algorithm key) = query_step m config known user service algorithm key
method_step m config known user service method = claim_step config known user service method (proof_in m config known.session user service method)

-- What a server does at a USERAUTH_REQUEST (RFC 4252 sections 5, 5.1 and 7). If it doesn't have the service, it fails, as F12. Otherwise it
-- answers by the method: a query's answer, SUCCESS, F13 at the last try, or FAILURE.
unfoldable pub request_step : SuiteData → ConfigData → Known → List ℕ → List ℕ → MethodData → Step
request_step m config known user service method =
    if is_in config.services service then method_step m config known user service method else AtOnce (fails fault.Service)
