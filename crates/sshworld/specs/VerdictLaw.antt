-- What a verdict says: which request is the least that ends those made before it, by how each does, if it does.

use Rattle.std.specs.Prelude.{◌≡◌, ◌+◌, ◌≤◌, ℕ, List, [], ◌∷◌, ◌++◌, length, Option, None, Some}
use Rattle.sshpacket.specs.Places.{EachPlace}
use Rattle.sshworld.specs.Verdicts.{Exhausted, How, Verdict}

module _ {R : Type 0} (ends : List R → R → Option How) where
  -- no request ends those before it
  abbrev pub NoneEnds : List R → Type 0
  NoneEnds requests = EachPlace (λ made request. ends made request ≡ None) [] requests

  -- One of them ends those before it, so, and no earlier one does: it is the last that is made.
  pub record EndsAt (requests : List R) (v : Verdict) : Type 0 where
    pub before : List R
    pub last : R
    pub later : List R
    pub parts : requests ≡ before ++ last ∷ later
    pub number : v.requests ≡ length before + 1
    pub none_before : NoneEnds before
    pub how : ends before last ≡ Some v.how

  -- None of them does: all are made, and none is left.
  pub record EndsWithout (requests : List R) (v : Verdict) : Type 0 where
    pub number : v.requests ≡ length requests
    pub none : NoneEnds requests
    pub how : v.how ≡ Exhausted

  -- This is the verdict on these requests.
  pub data IsVerdict (requests : List R) (v : Verdict) : Type 0 where
    AtOne : EndsAt requests v → IsVerdict requests v
    AtNone : EndsWithout requests v → IsVerdict requests v

-- How many of the offered requests are made (RFC 4252 section 5). No more than are offered. If none is made, none is offered, and the
-- client has no more to offer. If the client has no more to offer in the end, all are made.
pub record IsCounted (offered : ℕ) (v : Verdict) : Type 0 where
  pub most : v.requests ≤ offered
  pub none_offered : v.requests ≡ 0 → offered ≡ 0
  pub none_left : v.requests ≡ 0 → v.how ≡ Exhausted
  pub all_made : v.how ≡ Exhausted → v.requests ≡ offered
