-- How the requests of a plan end, and what is kept of them, without where the attempts lie in memory.

use Rattle.std.specs.Prelude.{◌≡◌, Bool, List, [], ◌∷◌, ◌++◌, length, Option, None, Some, if◌then◌else◌}
use Rattle.sshpacket.specs.Suite.{SuiteData}
use Rattle.sshcore.specs.ConfigParts.{AttemptData, ServerData}
use Rattle.sshcore.specs.ConfigView.{attempt_data}
use Rattle.sshcore.specs.EndpointParts.{DecisionsData}
use Rattle.sshcore.specs.Plan.{after_query, proving_name}
use Rattle.sshcore.specs.CompletedMethods.{CompletedMethodsData, Tried, completed_after, none_completed}
use Rattle.sshworld.specs.declared.judge.Judged.{Judged}
use Rattle.sshworld.specs.declared.judge.Judged.TheVariants as judged
use Rattle.sshworld.specs.declared.progress.Progress.{Progress}
use Rattle.sshworld.specs.Verdicts.{Exhausted, How, Limit, Success, Unknown, tried_of}

-- A request that is accepted is no query, so it is the attempt itself.
abbrev pub how_of : Judged → How
how_of judged.Unknown = Unknown
how_of (judged.Success attempt) = Success (after_query (attempt_data attempt.now))
how_of judged.Limit = Limit
how_of judged.Exhausted = Exhausted

-- the first of two ends, if it is one
abbrev pub first_end : Option How → Option How → Option How
first_end (Some how) later = Some how
first_end None later = later

module _ {R : Type 0} where
  -- How these requests, which come after those made, end those before them, if one does: the first one that does.
  abbrev pub ends_among : (List R → R → Option How) → List R → List R → Option How
  ends_among ends made [] = None
  ends_among ends made (request ∷ later) = first_end (ends made request) (ends_among ends (made ++ request ∷ []) later)

-- the methods that are completed
abbrev pub progress_completed : Progress → CompletedMethodsData
progress_completed p = record { user = p.user.now; service = p.service.now; password = p.password; publickey = p.publickey }

-- what a request of this attempt came to
abbrev pub tried_as : AttemptData → Bool → Tried
tried_as attempt successful = record {
  user = attempt.user;
  service = attempt.service;
  successful = if successful then Some (proving_name attempt.proving) else None;
}

-- These requests were made, and came to what is kept.
pub record IsSoFar (m : SuiteData) (d : DecisionsData) (server : ServerData) (made : List AttemptData) (p : Progress) : Type 0 where
  pub counted : p.requests ≡ length made
  pub completed : progress_completed p ≡ completed_after none_completed (tried_of m d server made)

-- Where none of these requests ends those made, all of them are made now.
abbrev pub IsAfter : SuiteData → DecisionsData → ServerData → List AttemptData → List AttemptData → Option Judged → Progress → Type 0
IsAfter m d server made requests judged p = judged ≡ None → IsSoFar m d server (made ++ requests) p
