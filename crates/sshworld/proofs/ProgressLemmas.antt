-- What is kept of the requests judged so far is what they came to.

use Rattle.std.proofs.Common.{◌≡◌, ◌∙◌, ℕ, ◌+◌, ◌==◌, ◌&&◌, Bool, true, false, not, if◌then◌else◌, List, [], ◌∷◌, ◌++◌, length, length-append, append_assoc, subst, None, Some, refl, sym, ap}
use Rattle.std.specs.List.{AllByRecursion}
use Rattle.std.proofs.lemmas.Bool.{and_parts, eq-eqb, ne_eqb}
use Rattle.sshneg.specs.ChoiceReadings.{is_in}
use Rattle.sshpacket.specs.Suite.{SuiteData}
use Rattle.sshpacket.proofs.Places.{flat-push}
use Rattle.sshcore.specs.ConfigParts.{AttemptData, ByKey, ByNothing, ByPassword, CredentialData, ServerData}
use Rattle.sshcore.specs.ConfigRules.{IsListed}
use Rattle.sshcore.specs.EndpointParts.{DecisionsData}
use Rattle.sshcore.specs.Plan.{after_query, asks, proving_name, unasked}
use Rattle.sshcore.specs.CompletedMethods.{Tried, are_completed, completed_after, completed_after_one, is_complete, none_completed}
use Rattle.sshcore.proofs.PlanLemmas.{completed_push}
use Rattle.sshcore.proofs.CompletedMethodsLemmas.{complete_is}
use Rattle.sshworld.specs.JudgedView.{IsSoFar, progress_completed, tried_as}
use Rattle.sshworld.specs.Judging.{is_proved, is_successful, is_usable, proved_by}
use Rattle.sshworld.specs.Offered.{is_confirmed, requests_for}
use Rattle.sshworld.specs.Verdicts.{Limit, Success, Unknown, ends_by, is_accepted, tried_by, tried_of}
use Rattle.sshworld.specs.declared.progress.Progress.{Progress}

-- the attempt itself is by the method of its query
named_itself : (p : CredentialData) → proving_name (unasked p) ≡ proving_name p
named_itself ByNothing = refl
named_itself (ByPassword password) = refl
named_itself (ByKey algorithm secret ask) = refl

-- what asks nothing is the attempt itself
is_itself : (p : CredentialData) → not (asks p) ≡ true → unasked p ≡ p
is_itself ByNothing h = refl
is_itself (ByPassword password) h = refl
is_itself (ByKey algorithm secret true) h = absurd (cc (h))
is_itself (ByKey algorithm secret false) h = refl

module _ (m : SuiteData) (d : DecisionsData) (s : ServerData) (required : AllByRecursion IsListed s.required) (old new : Progress) (x : AttemptData) (successful : Bool)
    (counted : new.requests ≡ old.requests + 1) (completed : progress_completed new ≡ completed_after_one (progress_completed old) (tried_as x successful))
    (made : List AttemptData) (r : AttemptData) (so_far : IsSoFar m d s made old) (same : after_query r ≡ after_query x) (is : successful ≡ is_successful m d s (length made + 1) r) where
  abbrev before : List Tried
  before = tried_of m d s made

  abbrev this : Tried
  this = tried_by m d s made r

  abbrev done : Bool
  done = successful && is_complete s.required (progress_completed new)

  name_is : proving_name x.proving ≡ proving_name r.proving
  name_is = sym (named_itself x.proving) ∙ (ap (λ (a : AttemptData). proving_name a.proving) (sym same) ∙ named_itself r.proving)

  this_is : tried_as x successful ≡ this
  this_is =
      ap (λ u. record { user = u; service = x.service; successful = if successful then Some (proving_name x.proving) else None }) (ap (λ (a : AttemptData). a.user) (sym same))
      ∙ (ap (λ v. record { user = r.user; service = v; successful = if successful then Some (proving_name x.proving) else None }) (ap (λ (a : AttemptData). a.service) (sym same))
      ∙ (ap (λ n. record { user = r.user; service = r.service; successful = if successful then Some n else None }) name_is
      ∙ ap (λ b. record { user = r.user; service = r.service; successful = if b then Some (proving_name r.proving) else None }) is))

  now_is : tried_of m d s (made ++ r ∷ []) ≡ before ++ this ∷ []
  now_is = flat-push (λ b a. tried_by m d s b a ∷ []) [] made r

  kept_is : progress_completed new ≡ completed_after_one (completed_after none_completed before) this
  kept_is = completed ∙ (ap (λ g. completed_after_one g (tried_as x successful)) so_far.completed ∙ ap (completed_after_one (completed_after none_completed before)) this_is)

  number_is : new.requests ≡ length made + 1
  number_is = counted ∙ ap (λ (n : ℕ). n + 1) so_far.counted

  -- with this request all are made
  pub one_more : IsSoFar m d s (made ++ r ∷ []) new
  one_more = record {
    counted = number_is ∙ sym (length-append made (r ∷ []));
    completed = kept_is ∙ (sym (completed_push none_completed before (this ∷ [])) ∙ ap (completed_after none_completed) (sym now_is));
  }

  complete : successful ≡ true → is_complete s.required (progress_completed new) ≡ are_completed s.required r.user r.service (tried_of m d s (made ++ r ∷ []))
  complete e =
      let by_name : this.successful ≡ Some (proving_name r.proving) = ap (λ (b : Bool). if b then Some (proving_name r.proving) else None) (sym is ∙ e) in
      ap (is_complete s.required) kept_is
      ∙ (complete_is before this (proving_name r.proving) by_name s.required required ∙ ap (are_completed s.required r.user r.service) (sym now_is))

  accepted_user : is_accepted m d s made r ≡ done
  accepted_user = by successful refl
    where
      by : (b : Bool) → successful ≡ b → is_accepted m d s made r ≡ (b && is_complete s.required (progress_completed new))
      by true e = ap (λ (b : Bool). b && are_completed s.required r.user r.service (tried_of m d s (made ++ r ∷ []))) (sym is ∙ e) ∙ sym (complete e)
      by false e = ap (λ (b : Bool). b && are_completed s.required r.user r.service (tried_of m d s (made ++ r ∷ []))) (sym is ∙ e)

  -- a successful request is no query
  request_is : successful ≡ true → r ≡ after_query x
  request_is e =
      let asks_not : not (asks r.proving) ≡ true = (and_parts (not (asks r.proving)) (is_proved m d s (length made + 1) r) (sym is ∙ e)).0 in
      ap (λ (p : CredentialData). record r { proving = p }) (sym (is_itself r.proving asks_not)) ∙ same

  module _ (has : is_in s.services x.service ≡ true) where
    -- how it ends those before it, of a service that the server has
    ends : ends_by m d s made r ≡ (if done then Some (Success r) else if new.requests == s.tries then Some Limit else None)
    ends =
        ap (λ (b : Bool). if not b then Some Unknown else if is_accepted m d s made r then Some (Success r) else if length made + 1 == s.tries then Some Limit else None)
        (ap (λ (a : AttemptData). is_in s.services a.service) same ∙ has)
        ∙ (ap (λ (b : Bool). if b then Some (Success r) else if length made + 1 == s.tries then Some Limit else None) accepted_user
        ∙ ap (λ (n : ℕ). if done then Some (Success r) else if n == s.tries then Some Limit else None) (sym number_is))

    pub at_success : successful ≡ true → is_complete s.required (progress_completed new) ≡ true → Some (Success (after_query x)) ≡ ends_by m d s made r
    at_success e all =
        let is_done : done ≡ true = rw (e, all) refl in
        sym (ends ∙ (ap (λ (b : Bool). if b then Some (Success r) else if new.requests == s.tries then Some Limit else None) is_done
        ∙ ap (λ (a : AttemptData). Some (Success a)) (request_is e)))

    at_more : done ≡ false → (b : Bool) → (new.requests == s.tries) ≡ b → (if b then Some Limit else None) ≡ ends_by m d s made r
    at_more more b last =
        sym (ends ∙ (ap (λ (b : Bool). if b then Some (Success r) else if new.requests == s.tries then Some Limit else None) more
        ∙ ap (λ (b : Bool). if b then Some Limit else None) last))

    pub at_limit : (tries : ℕ) → tries ≡ s.tries → done ≡ false → new.requests ≡ tries → Some Limit ≡ ends_by m d s made r
    at_limit tries granted more last = at_more more true (let e : new.requests ≡ s.tries = last ∙ granted in eq-eqb new.requests s.tries e)

    pub at_none : (tries : ℕ) → tries ≡ s.tries → done ≡ false → (new.requests ≡ tries → ⊥) → None ≡ ends_by m d s made r
    at_none tries granted more others = at_more more false (ne_eqb new.requests s.tries (λ e. others (e ∙ sym granted)))

-- it isn't done, where it isn't successful or something is missing
pub not_successful : (successful complete : Bool) → successful ≡ false → (successful && complete) ≡ false
not_successful successful complete e = ap (λ (b : Bool). b && complete) e

pub not_complete : (successful complete : Bool) → complete ≡ false → (successful && complete) ≡ false
not_complete true complete e = e
not_complete false complete e = refl

-- the attempt itself is after its query what it was
pub twice_itself : (x : AttemptData) → after_query (after_query x) ≡ after_query x
twice_itself x = ap (λ (p : CredentialData). record x { proving = p }) (by x.proving)
  where
    by : (p : CredentialData) → unasked (unasked p) ≡ unasked p
    by ByNothing = refl
    by (ByPassword password) = refl
    by (ByKey algorithm secret ask) = refl

module _ (m : SuiteData) (d : DecisionsData) (s : ServerData) (made : List AttemptData) (x : AttemptData) where
  -- a query is never successful
  pub successful_query : asks x.proving ≡ true → false ≡ is_successful m d s (length made + 1) x
  successful_query asks_is = sym (ap (λ (b : Bool). not b && is_proved m d s (length made + 1) x) asks_is)

  -- the attempt itself is successful if it is proved
  pub successful_itself : (requests : ℕ) (proved : Bool) → requests ≡ length (made ++ x ∷ []) → proved ≡ is_proved m d s (requests + 1) x
      → proved ≡ is_successful m d s (length (made ++ x ∷ []) + 1) (after_query x)
  successful_itself requests proved counted e = e ∙ (ap (λ (n : ℕ). is_proved m d s (n + 1) x) counted ∙ by (length (made ++ x ∷ []) + 1) x.proving)
    where
      by : (n : ℕ) (p : CredentialData) → (is_usable m s.methods p && d.user n x.user x.service (proved_by m p))
          ≡ (not (asks (unasked p)) && (is_usable m s.methods (unasked p) && d.user n x.user x.service (proved_by m (unasked p))))
      by n ByNothing = refl
      by n (ByPassword password) = refl
      by n (ByKey algorithm secret ask) = refl

  -- where its query is confirmed, the attempt has two requests
  two_requests : is_confirmed m d s made x ≡ true → requests_for m d s made x ≡ x ∷ after_query x ∷ []
  two_requests is = ap (λ (b : Bool). if b then x ∷ after_query x ∷ [] else x ∷ []) is

  pub after_two : (p : Progress) → is_confirmed m d s made x ≡ true → IsSoFar m d s ((made ++ x ∷ []) ++ after_query x ∷ []) p
      → IsSoFar m d s (made ++ requests_for m d s made x) p
  after_two p is after =
      subst (λ (requests : List AttemptData). IsSoFar m d s (made ++ requests) p) (sym (two_requests is))
      (subst (λ (requests : List AttemptData). IsSoFar m d s requests p) (append_assoc made (x ∷ []) (after_query x ∷ [])) after)
