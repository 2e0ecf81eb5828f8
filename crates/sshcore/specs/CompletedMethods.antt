-- Which methods requests of authentication complete, where a server requires more than one method: RFC 4252 sections 5 and 5.1.

use Rattle.std.specs.Prelude.{◌≡◌, ◌&&◌, ◌||◌, ◌++◌, ℕ, Bool, true, false, if◌then◌else◌, List, [], ◌∷◌, codes, Option, None, Some}
use Rattle.std.specs.List.{list_all, list_any}
use Rattle.std.specs.Str.{bytes_eq}

-- What a request came to: for which user and service it was, and the method for which it was successful, if it was.
pub record Tried : Type 0 where
  pub user : List ℕ
  pub service : List ℕ
  pub successful : Option (List ℕ)

-- a request was for this user and this service
abbrev pub is_for : List ℕ → List ℕ → Tried → Bool
is_for user service t = bytes_eq user t.user && bytes_eq service t.service

-- this is the method by which a request was successful
abbrev pub is_method : List ℕ → Option (List ℕ) → Bool
is_method method None = false
is_method method (Some successful) = bytes_eq method successful

-- the request was successful, and by this method
abbrev pub is_successful_for : List ℕ → Tried → Bool
is_successful_for method t = is_method method t.successful

-- The unbroken run of requests for this user and service that ends these: the longest end of the list that has no other (profile).
abbrev pub run_of : List ℕ → List ℕ → List Tried → List Tried
run_of user service [] = []
run_of user service (t ∷ later) = if list_all (is_for user service) (t ∷ later) then t ∷ later else run_of user service later

-- These requests end in this run: all of the run are for this user and service, and it is all of the requests, or the one before it is for
-- others (profile).
pub data IsRun (user service : List ℕ) (tried run : List Tried) : Type 0 where
  FromFront : list_all (is_for user service) run ≡ true → tried ≡ run → IsRun user service tried run
  FromBreak : (before : List Tried) (other : Tried) → list_all (is_for user service) run ≡ true → is_for user service other ≡ false
      → tried ≡ (before ++ other ∷ []) ++ run → IsRun user service tried run

-- for each of these methods a request of the run was successful (RFC 4252 section 5.1)
abbrev pub are_completed : List (List ℕ) → List ℕ → List ℕ → List Tried → Bool
are_completed methods user service tried = list_all (λ method. list_any (is_successful_for method) (run_of user service tried)) methods

-- What a server keeps of it: for whom and for which service the last successful request was, and which of the methods that can be
-- required are completed.
pub record CompletedMethodsData : Type 0 where
  pub user : List ℕ
  pub service : List ℕ
  pub password : Bool
  pub publickey : Bool

-- what a server has before any request: no user, no service, no method
abbrev pub none_completed : CompletedMethodsData
none_completed = record { user = []; service = []; password = false; publickey = false }

-- A request for another user or service empties it (profile).
abbrev pub kept_completed : CompletedMethodsData → Tried → CompletedMethodsData
kept_completed r t = if is_for r.user r.service t then r else record r { password = false; publickey = false }

-- A successful request adds its method.
abbrev pub successful_completed : CompletedMethodsData → Tried → Option (List ℕ) → CompletedMethodsData
successful_completed r t None = r
successful_completed r t (Some method) = record {
  user = t.user;
  service = t.service;
  password = r.password || bytes_eq method (codes "password");
  publickey = r.publickey || bytes_eq method (codes "publickey");
}

-- what is completed after this request
abbrev pub completed_after_one : CompletedMethodsData → Tried → CompletedMethodsData
completed_after_one r t = successful_completed (kept_completed r t) t t.successful

-- what is completed after these requests, in order
abbrev pub completed_after : CompletedMethodsData → List Tried → CompletedMethodsData
completed_after r [] = r
completed_after r (t ∷ later) = completed_after (completed_after_one r t) later

-- this method is completed
abbrev pub has_completed : CompletedMethodsData → List ℕ → Bool
has_completed r method = (bytes_eq method (codes "password") && r.password) || (bytes_eq method (codes "publickey") && r.publickey)

-- all of these methods are completed (RFC 4252 section 5.1)
abbrev pub is_complete : List (List ℕ) → CompletedMethodsData → Bool
is_complete required r = list_all (has_completed r) required
