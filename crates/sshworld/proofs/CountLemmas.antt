-- How many requests are offered and made.

use Rattle.std.proofs.Common.{◌≡◌, ◌∙◌, ℕ, suc, ◌+◌, ◌≤◌, ◌==◌, Bool, true, false, cond, not, List, [], ◌∷◌, ◌++◌, length, length-append, None, Some, refl, sym, ap, arith, if◌then◌else◌}
use Rattle.std.specs.List.{AllByRecursion}
use Rattle.std.specs.Prelude.{◌&&◌}
use Rattle.sshneg.specs.ChoiceReadings.{is_in}
use Rattle.sshpacket.specs.Suite.{SuiteData}
use Rattle.sshcore.specs.ConfigParts.{AttemptData, ClientData, ServerData}
use Rattle.sshcore.specs.EndpointParts.{DecisionsData}
use Rattle.sshcore.specs.Plan.{after_query, asks}
use Rattle.sshworld.specs.Judging.{is_proved}
use Rattle.sshworld.specs.Offered.{is_made, most_requests, offered, offered_after, requests_for}
use Rattle.sshworld.specs.VerdictLaw.{AtNone, AtOne, IsCounted, IsVerdict}
use Rattle.sshworld.specs.Verdicts.{Exhausted, Limit, Success, Unknown, Verdict, ends_by, is_accepted, verdict, verdict_after}
use Rattle.sshworld.proofs.VerdictLemmas.{is_verdict}

-- no more requests are offered than the attempts of the plan have
offered_few : (m : SuiteData) (d : DecisionsData) (s : ServerData) (made plan : List AttemptData) → length (offered_after m d s made plan) ≤ most_requests plan
offered_few m d s made [] = omega arith
offered_few m d s made (a ∷ later) = by (is_made s.methods made a) (offered_few m d s (made ++ requests_for m d s made a) later) (offered_few m d s made later)
  where
    few : (asking proved : Bool) (n k : ℕ) → n ≤ k → length (if asking && proved then a ∷ after_query a ∷ [] else a ∷ []) + n ≤ (if asking then 2 + k else 1 + k)
    few true true n k h = omega (arith, h)
    few true false n k h = omega (arith, h)
    few false proved n k h = omega (arith, h)

    skipped : (asking : Bool) (n k : ℕ) → n ≤ k → n ≤ (if asking then 2 + k else 1 + k)
    skipped true n k h = omega (arith, h)
    skipped false n k h = omega (arith, h)

    by : (is : Bool) → length (offered_after m d s (made ++ requests_for m d s made a) later) ≤ most_requests later → length (offered_after m d s made later) ≤ most_requests later
        → length (if is then requests_for m d s made a ++ offered_after m d s (made ++ requests_for m d s made a) later else offered_after m d s made later) ≤ most_requests (a ∷ later)
    by true n p =
        let l = length-append (requests_for m d s made a) (offered_after m d s (made ++ requests_for m d s made a) later) in
        omega (arith, l, few (asks a.proving) (is_proved m d s (length made + 1) a) (length (offered_after m d s (made ++ requests_for m d s made a) later)) (most_requests later) n)
    by false n p = skipped (asks a.proving) (length (offered_after m d s made later)) (most_requests later) p

pub few_offered : (m : SuiteData) (d : DecisionsData) (s : ServerData) (plan : List AttemptData) → length (offered m d s plan) ≤ most_requests plan
few_offered m d s plan = offered_few m d s [] plan

-- at most two for each attempt, and one where none asks
pub most_twice : (plan : List AttemptData) → most_requests plan ≤ length plan + length plan
most_twice [] = omega arith
most_twice (a ∷ later) = by (asks a.proving) (most_twice later)
  where
    by : (asking : Bool) → most_requests later ≤ length later + length later → (if asking then 2 + most_requests later else 1 + most_requests later) ≤ suc (length later) + suc (length later)
    by true h = omega (arith, h)
    by false h = omega (arith, h)

pub most_once : (plan : List AttemptData) → AllByRecursion (λ (a : AttemptData). asks a.proving ≡ false) plan → most_requests plan ≡ length plan
most_once [] all = refl
most_once (a ∷ later) all = ap (λ (b : Bool). if b then 2 + most_requests later else 1 + most_requests later) all.0 ∙ (let more : most_requests later ≡ length later = most_once later all.1 in omega (arith, more))

-- no request ends so that the client has no more to offer
pub none_exhausts : (m : SuiteData) (d : DecisionsData) (s : ServerData) (made : List AttemptData) (r : AttemptData) → ends_by m d s made r ≡ Some Exhausted → ⊥
none_exhausts m d s made r e = by (not (is_in s.services r.service)) (is_accepted m d s made r) (length made + 1 == s.tries) e
  where
    by : (x y z : Bool) → cond x (Some Unknown) (cond y (Some (Success r)) (cond z (Some Limit) None)) ≡ Some Exhausted → ⊥
    by true y z e = cc (e)
    by false true z e = cc (e)
    by false false true e = cc (e)
    by false false false e = cc (e)

-- a request that ends them by success is the one that succeeds
pub success_of : (m : SuiteData) (d : DecisionsData) (s : ServerData) (made : List AttemptData) (r q : AttemptData) → ends_by m d s made r ≡ Some (Success q) → q ≡ r
success_of m d s made r q e = by (not (is_in s.services r.service)) (is_accepted m d s made r) (length made + 1 == s.tries) e
  where
    by : (x y z : Bool) → cond x (Some Unknown) (cond y (Some (Success r)) (cond z (Some Limit) None)) ≡ Some (Success q) → q ≡ r
    by true y z e = absurd (cc (e))
    by false true z e = cc (e)
    by false false true e = absurd (cc (e))
    by false false false e = absurd (cc (e))

counted_by : (m : SuiteData) (d : DecisionsData) (s : ServerData) (requests : List AttemptData) (v : Verdict) → IsVerdict (ends_by m d s) requests v → IsCounted (length requests) v
counted_by m d s requests v (AtOne e) =
    let parts : length requests ≡ length e.before + suc (length e.later) = ap length e.parts ∙ length-append e.before (e.last ∷ e.later) in
    record {
      most = omega (arith, parts, e.number);
      none_offered = λ z. absurd (omega (arith, z, e.number));
      none_left = λ z. absurd (omega (arith, z, e.number));
      all_made = λ x. absurd (none_exhausts m d s e.before e.last (e.how ∙ ap Some x));
    }
counted_by m d s requests v (AtNone e) = record {
  most = omega (arith, e.number);
  none_offered = λ z. sym e.number ∙ z;
  none_left = λ z. e.how;
  all_made = λ x. e.number;
}

pub counted : (m : SuiteData) (d : DecisionsData) (s : ServerData) (requests : List AttemptData) → IsCounted (length requests) (verdict_after (ends_by m d s) [] requests)
counted m d s requests = counted_by m d s requests (verdict_after (ends_by m d s) [] requests) (is_verdict (ends_by m d s) requests)

-- so it is of what a client offers to a server
pub counted_offered : (m : SuiteData) (d : DecisionsData) (c : ClientData) (s : ServerData) → IsCounted (length (offered m d s c.plan)) (verdict m d c s)
unfolding verdict
counted_offered m d c s = counted m d s (offered m d s c.plan)

pub few_requests : (m : SuiteData) (d : DecisionsData) (c : ClientData) (s : ServerData) → (verdict m d c s).requests ≤ most_requests c.plan
few_requests m d c s = omega (arith, (counted_offered m d c s).most, few_offered m d s c.plan)
