-- Which request that a client offers to a server ends authentication, and how: RFC 4252 sections 5 and 5.1.

use Rattle.std.specs.Prelude.{ℕ, ◌+◌, ◌&&◌, ◌==◌, Bool, not, if◌then◌else◌, List, [], ◌∷◌, ◌++◌, length, Option, None, Some}
use Rattle.sshneg.specs.ChoiceReadings.{is_in}
use Rattle.sshpacket.specs.Places.{flat_places}
use Rattle.sshpacket.specs.Suite.{SuiteData}
use Rattle.sshcore.specs.ConfigParts.{AttemptData, ClientData, ServerData}
use Rattle.sshcore.specs.EndpointParts.{DecisionsData}
use Rattle.sshcore.specs.Plan.{proving_name}
use Rattle.sshcore.specs.CompletedMethods.{Tried, are_completed}
use Rattle.sshworld.specs.Judging.{is_successful}
use Rattle.sshworld.specs.Offered.{offered}

-- What a request after those made came to: for whom and for which service it was, and the method for which it was successful, if it
-- was.
abbrev pub tried_by : SuiteData → DecisionsData → ServerData → List AttemptData → AttemptData → Tried
tried_by m d server made attempt = record {
  user = attempt.user;
  service = attempt.service;
  successful = if is_successful m d server (length made + 1) attempt then Some (proving_name attempt.proving) else None;
}

-- what each of these came to
abbrev pub tried_of : SuiteData → DecisionsData → ServerData → List AttemptData → List Tried
tried_of m d server requests = flat_places (λ made attempt. tried_by m d server made attempt ∷ []) [] requests

-- A request after those made is accepted: it is successful; and for all required methods requests were successful in the unbroken
-- run of requests for its user and its service that it ends.
abbrev pub is_accepted : SuiteData → DecisionsData → ServerData → List AttemptData → AttemptData → Bool
is_accepted m d server made attempt =
    is_successful m d server (length made + 1) attempt && are_completed server.required attempt.user attempt.service (tried_of m d server (made ++ attempt ∷ []))

-- How requests of authentication end: at one for a service that the server doesn't have; at one that is accepted; at the
-- last that the server grants; or at none of them, and the client has no more to offer.
pub data How : Type 0 where
  Unknown : How
  Success : AttemptData → How
  Limit : How
  Exhausted : How

-- How a request after those made ends them, if it does: first its service is judged, then whether it is accepted, then
-- whether it is the last that the server grants (the order is profile).
abbrev pub ends_by : SuiteData → DecisionsData → ServerData → List AttemptData → AttemptData → Option How
ends_by m d server made attempt =
    if not (is_in server.services attempt.service) then Some Unknown
    else if is_accepted m d server made attempt then Some (Success attempt)
    else if length made + 1 == server.tries then Some Limit
    else None

-- how many requests are made, and how they end
pub record Verdict : Type 0 where
  pub requests : ℕ
  pub how : How

module _ {R : Type 0} where
  -- The verdict at a request after those made: it is the last one if it ends them, else what comes later decides.
  abbrev pub verdict_here : List R → Option How → Verdict → Verdict
  verdict_here made (Some how) later = record { requests = length made + 1; how = how }
  verdict_here made None later = later

  -- The verdict on what is left of requests, after those made, by how each ends those before it, if it does: the first that
  -- ends them is the last that is made.
  abbrev pub verdict_after : (List R → R → Option How) → List R → List R → Verdict
  verdict_after ends made [] = record { requests = length made; how = Exhausted }
  verdict_after ends made (request ∷ later) =
      verdict_here made (ends made request) (verdict_after ends (made ++ request ∷ []) later)

-- The verdict on what a client offers to a server.
unfoldable pub verdict : SuiteData → DecisionsData → ClientData → ServerData → Verdict
verdict m d client server = verdict_after (ends_by m d server) [] (offered m d server client.plan)
