-- The requests that are offered, of what is left of a plan.

use Rattle.std.proofs.Common.{◌≡◌, ◌∙◌, ℕ, zero, suc, ◌+◌, ◌≤◌, Bool, true, false, List, [], ◌∷◌, ◌++◌, length, drop, take, slice_get, None, Some, inl, inr, refl, sym, ap, subst, arith, append_assoc, if◌then◌else◌}
use Rattle.std.specs.Prelude.{◌&&◌}
use Rattle.std.proofs.Math.Seq.{drop-nil}
use Rattle.std.specs.List.{AllByRecursion}
use Rattle.std.proofs.lemmas.Bool.{cases_Bool}
use Rattle.sshneg.specs.ChoiceReadings.{is_in}
use Rattle.sshpacket.specs.Suite.{SuiteData}
use Rattle.sshcore.specs.ConfigParts.{AttemptData, ByKey, ByNothing, ByPassword, CredentialData, ServerData}
use Rattle.sshcore.specs.EndpointParts.{DecisionsData}
use Rattle.sshcore.specs.Plan.{after_query, asks, confirmed, next_after, next_listed, proving_name, unasked}
use Rattle.sshworld.specs.Judging.{is_proved}
use Rattle.sshworld.specs.Offered.{is_confirmed, is_made, offered, offered_after, requests_for}

-- the attempt itself doesn't ask
unasked_asks : (p : CredentialData) → asks (unasked p) ≡ false
unasked_asks ByNothing = refl
unasked_asks (ByPassword password) = refl
unasked_asks (ByKey algorithm secret ask) = refl

module _ (m : SuiteData) (d : DecisionsData) (s : ServerData) where
  -- after a request that is made of an attempt: the attempt itself where its query was confirmed, and the rest of the plan
  abbrev pub after_request : List AttemptData → AttemptData → List AttemptData → List AttemptData
  after_request made x later =
      if is_confirmed m d s made x then after_query x ∷ offered_after m d s (made ++ x ∷ after_query x ∷ []) later
      else offered_after m d s (made ++ x ∷ []) later

  -- The requests of what is left of a plan, after those made, where the first of it is made.
  abbrev pub requests_left : List AttemptData → List AttemptData → List AttemptData
  requests_left made [] = []
  requests_left made (x ∷ later) = x ∷ after_request made x later

  -- the requests of an attempt that is made, and those that follow
  made_now : (made : List AttemptData) (x : AttemptData) (later : List AttemptData)
      → requests_for m d s made x ++ offered_after m d s (made ++ requests_for m d s made x) later ≡ x ∷ after_request made x later
  made_now made x later = by (is_confirmed m d s made x)
    where
      by : (b : Bool) → (if b then x ∷ after_query x ∷ [] else x ∷ []) ++ offered_after m d s (made ++ (if b then x ∷ after_query x ∷ [] else x ∷ [])) later
          ≡ x ∷ (if b then after_query x ∷ offered_after m d s (made ++ x ∷ after_query x ∷ []) later else offered_after m d s (made ++ x ∷ []) later)
      by true = refl
      by false = refl

  -- after a request made, the first whose method is listed is made
  listed_left : (made : List AttemptData) (b : AttemptData) (later : List AttemptData)
      → requests_left (b ∷ made) (next_listed s.methods later) ≡ offered_after m d s (b ∷ made) later
  unfolding next_listed
  listed_left made b [] = refl
  listed_left made b (a ∷ later) = elim (cases_Bool (is_in s.methods (proving_name a.proving))) [
    | inl h ↦ rw h (sym (made_now (b ∷ made) a later))
    | inr h ↦ rw h (listed_left made b later)
  ]

  listed_after : (made : List AttemptData) (x : AttemptData) (later : List AttemptData)
      → requests_left (made ++ x ∷ []) (next_listed s.methods later) ≡ offered_after m d s (made ++ x ∷ []) later
  listed_after [] x later = listed_left [] x later
  listed_after (b ∷ made) x later = listed_left (made ++ x ∷ []) b later

  -- what is left after a FAILURE, where the request wasn't confirmed; and after a PK_OK, where it was
  pub refused_left : (made : List AttemptData) (x : AttemptData) (later : List AttemptData) → is_confirmed m d s made x ≡ false
      → requests_left (made ++ x ∷ []) (next_after s.methods (x ∷ later)) ≡ after_request made x later
  refused_left made x later none = rw none (listed_after made x later)

  pub confirmed_left : (made : List AttemptData) (x : AttemptData) (later : List AttemptData) → is_confirmed m d s made x ≡ true
      → requests_left (made ++ x ∷ []) (confirmed (x ∷ later)) ≡ after_request made x later
  confirmed_left made x later is =
      let none : is_confirmed m d s (made ++ x ∷ []) (after_query x) ≡ false = ap (λ (b : Bool). b && is_proved m d s (length (made ++ x ∷ []) + 1) (after_query x)) (unasked_asks x.proving) in
      rw (is, none) (ap (λ (l : List AttemptData). after_query x ∷ offered_after m d s l later) (append_assoc made (x ∷ []) (after_query x ∷ [])))

  pub offered_is : (plan : List AttemptData) → requests_left [] plan ≡ offered m d s plan
  offered_is [] = refl
  offered_is (a ∷ later) = sym (made_now [] a later)

  -- one place more
  pub take_more : (requests : List AttemptData) (j : ℕ) (x : AttemptData) → slice_get requests j ≡ Some x → take (j + 1) requests ≡ take j requests ++ x ∷ []
  take_more [] j x e = absurd (cc (e))
  take_more (r ∷ requests) zero x e = let same : r ≡ x = cc (e) in rw same refl
  take_more (r ∷ requests) (suc j) x e =
      ap (λ (n : ℕ). take n (r ∷ requests)) (let n : suc j + 1 ≡ suc (j + 1) = omega arith in n) ∙ ap (λ (l : List AttemptData). r ∷ l) (take_more requests j x e)

  drop_more : (requests : List AttemptData) (j : ℕ) (x : AttemptData) → slice_get requests j ≡ Some x → drop j requests ≡ x ∷ drop (j + 1) requests
  drop_more [] j x e = absurd (cc (e))
  drop_more (r ∷ requests) zero x e = let same : r ≡ x = cc (e) in rw same refl
  drop_more (r ∷ requests) (suc j) x e =
      drop_more requests j x e ∙ ap (λ (n : ℕ). x ∷ drop n (r ∷ requests)) (let n : suc (j + 1) ≡ suc j + 1 = omega arith in n)

  -- So many requests were made, and this is left of the plan.
  abbrev pub IsLeft : List AttemptData → List AttemptData → ℕ → Type 0
  IsLeft requests left j = requests_left (take j requests) left ≡ drop j requests

  rest_of : (requests : List AttemptData) (j : ℕ) (x : AttemptData) (later : List AttemptData) → IsLeft requests (x ∷ later) j → slice_get requests j ≡ Some x
      → after_request (take j requests) x later ≡ drop (j + 1) requests
  rest_of requests j x later e at = ap (λ (l : List AttemptData). drop 1 l) (e ∙ drop_more requests j x at)

  pub left_refused : (requests : List AttemptData) (j : ℕ) (x : AttemptData) (later : List AttemptData) → IsLeft requests (x ∷ later) j → slice_get requests j ≡ Some x
      → is_confirmed m d s (take j requests) x ≡ false → IsLeft requests (next_after s.methods (x ∷ later)) (j + 1)
  left_refused requests j x later e at none =
      ap (λ (l : List AttemptData). requests_left l (next_after s.methods (x ∷ later))) (take_more requests j x at)
      ∙ (refused_left (take j requests) x later none ∙ rest_of requests j x later e at)

  pub left_confirmed : (requests : List AttemptData) (j : ℕ) (x : AttemptData) (later : List AttemptData) → IsLeft requests (x ∷ later) j → slice_get requests j ≡ Some x
      → is_confirmed m d s (take j requests) x ≡ true → IsLeft requests (confirmed (x ∷ later)) (j + 1)
  left_confirmed requests j x later e at is =
      ap (λ (l : List AttemptData). requests_left l (confirmed (x ∷ later))) (take_more requests j x at)
      ∙ (confirmed_left (take j requests) x later is ∙ rest_of requests j x later e at)

  get_drop : (xs : List AttemptData) (j : ℕ) → slice_get (drop j xs) 0 ≡ slice_get xs j
  get_drop [] zero = refl
  get_drop [] (suc j) = refl
  get_drop (x ∷ xs) zero = refl
  get_drop (x ∷ xs) (suc j) = get_drop xs j

  -- where request j is offered, it is the first of what is left
  pub left_some : (requests left : List AttemptData) (j : ℕ) (x : AttemptData) → IsLeft requests left j → slice_get requests j ≡ Some x → (later : List AttemptData) × (left ≡ x ∷ later)
  left_some requests [] j x e at = absurd (let none : slice_get requests j ≡ None = sym (get_drop requests j) ∙ ap (λ (l : List AttemptData). slice_get l 0) (sym e) in cc (none, at))
  left_some requests (a ∷ later) j x e at =
      let here : Some a ≡ Some x = ap (λ (l : List AttemptData). slice_get l 0) e ∙ get_drop requests j ∙ at in
      (later, ap (λ (y : AttemptData). y ∷ later) (cc (here)))

  past : (requests : List AttemptData) (j : ℕ) → length requests ≤ j → drop j requests ≡ []
  past [] j h = drop-nil j
  past (x ∷ requests) zero h = absurd (omega (arith, h))
  past (x ∷ requests) (suc j) h = past requests j (omega (arith, h))

  -- where all were made, nothing is left
  pub left_none : (requests left : List AttemptData) (j : ℕ) → IsLeft requests left j → length requests ≤ j → left ≡ []
  left_none requests [] j e h = refl
  left_none requests (a ∷ later) j e h = absurd (let none : a ∷ after_request (take j requests) a later ≡ [] = e ∙ past requests j h in cc (none))

  -- what holds of a plan's attempts, with their queries and without, holds of the requests that are offered
  module _ (Q : AttemptData → Type 0) (itself : (a : AttemptData) → Q a → Q (after_query a)) where
    all_append : (xs ys : List AttemptData) → AllByRecursion Q xs → AllByRecursion Q ys → AllByRecursion Q (xs ++ ys)
    all_append [] ys a b = b
    all_append (x ∷ xs) ys a b = (a.0, all_append xs ys a.1 b)

    all_for : (made : List AttemptData) (a : AttemptData) → Q a → AllByRecursion Q (requests_for m d s made a)
    all_for made a q = by (is_confirmed m d s made a)
      where
        by : (b : Bool) → AllByRecursion Q (if b then a ∷ after_query a ∷ [] else a ∷ [])
        by true = (q, (itself a q, tt))
        by false = (q, tt)

    all_offered : (made plan : List AttemptData) → AllByRecursion Q plan → AllByRecursion Q (offered_after m d s made plan)
    all_offered made [] all = tt
    all_offered made (a ∷ later) all = elim (cases_Bool (is_made s.methods made a)) [
      | inl h ↦ rw h (all_append (requests_for m d s made a) (offered_after m d s (made ++ requests_for m d s made a) later) (all_for made a all.0) (all_offered (made ++ requests_for m d s made a) later all.1))
      | inr h ↦ rw h (all_offered made later all.1)
    ]

    one_of : (xs : List AttemptData) (i : ℕ) (r : AttemptData) → AllByRecursion Q xs → slice_get xs i ≡ Some r → Q r
    one_of [] i r all e = absurd (cc (e))
    one_of (x ∷ xs) zero r all e = subst Q (cc (e)) all.0
    one_of (x ∷ xs) (suc i) r all e = one_of xs i r all.1 e

    pub offered_each : (plan : List AttemptData) → AllByRecursion Q plan → (i : ℕ) (r : AttemptData) → slice_get (offered m d s plan) i ≡ Some r → Q r
    offered_each plan all i r e = one_of (offered m d s plan) i r (all_offered [] plan all) e
