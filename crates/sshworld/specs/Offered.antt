-- Which requests a client offers to a server, to be authenticated: RFC 4252 sections 5, 5.1 and 7. A request is an attempt of the
-- plan, or its query, which is an attempt that asks.

use Rattle.std.specs.Prelude.{ℕ, ◌+◌, ◌&&◌, Bool, true, if◌then◌else◌, List, [], ◌∷◌, ◌++◌, length}
use Rattle.sshneg.specs.ChoiceReadings.{is_in}
use Rattle.sshpacket.specs.Suite.{SuiteData}
use Rattle.sshcore.specs.ConfigParts.{AttemptData, ServerData}
use Rattle.sshcore.specs.EndpointParts.{DecisionsData}
use Rattle.sshcore.specs.Plan.{after_query, asks, proving_name}
use Rattle.sshworld.specs.Judging.{is_proved}

-- An attempt of the plan is made, after the requests that were made before: the first one whatever its method, and each later one
-- whose method the server lists in its FAILURE (RFC 4252 section 5.1).
abbrev pub is_made : List (List ℕ) → List AttemptData → AttemptData → Bool
is_made methods [] attempt = true
is_made methods (first ∷ before) attempt = is_in methods (proving_name attempt.proving)

-- The server answers a query after the requests made by PK_OK (RFC 4252 section 7).
abbrev pub is_confirmed : SuiteData → DecisionsData → ServerData → List AttemptData → AttemptData → Bool
is_confirmed m d server made attempt = asks attempt.proving && is_proved m d server (length made + 1) attempt

-- The requests of an attempt that is made: itself; or where it asks, its query, and itself after a PK_OK.
abbrev pub requests_for : SuiteData → DecisionsData → ServerData → List AttemptData → AttemptData → List AttemptData
requests_for m d server made attempt =
    if is_confirmed m d server made attempt then attempt ∷ after_query attempt ∷ [] else attempt ∷ []

-- The requests of what is left of a plan, after those that were made before, for as long as the server refuses them. An attempt
-- that is skipped isn't made later (profile).
abbrev pub offered_after : SuiteData → DecisionsData → ServerData → List AttemptData → List AttemptData → List AttemptData
offered_after m d server made [] = []
offered_after m d server made (attempt ∷ later) =
    if is_made server.methods made attempt
    then requests_for m d server made attempt ++ offered_after m d server (made ++ requests_for m d server made attempt) later
    else offered_after m d server made later

-- The requests that a client with this plan offers to a server, in the order of the plan.
abbrev pub offered : SuiteData → DecisionsData → ServerData → List AttemptData → List AttemptData
offered m d server plan = offered_after m d server [] plan

-- how many there are at the most: two for each attempt that asks, and one for each other
abbrev pub most_requests : List AttemptData → ℕ
most_requests [] = 0
most_requests (attempt ∷ later) = if asks attempt.proving then 2 + most_requests later else 1 + most_requests later
