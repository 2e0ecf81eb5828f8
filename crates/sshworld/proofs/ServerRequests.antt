-- The server's part of authentication, by the number of requests made.

use Rattle.std.proofs.Common.{◌≡◌, ◌⊎◌, inl, inr, ℕ, zero, suc, ◌+◌, ◌<◌, ◌≤◌, false, List, [], ◌∷◌, ◌++◌, take, length, length-append, slice_get, Option, None, Some, Ok, refl, sym, ap, ◌∙◌, subst, arith, nat_eq}
use Rattle.std.proofs.lemmas.Bool.{ne_eqb}
use native.Mathlib.Decide.{dec_lt}
use Rattle.sshmsg.specs.Written.{written_message}
use Rattle.sshneg.specs.ChoiceReadings.{choice}
use Rattle.sshneg.specs.Fields.{AlgorithmsData}
use Rattle.sshpacket.specs.Places.{EachPlace}
use Rattle.sshpacket.specs.Stream.{Units}
use Rattle.sshpacket.specs.Suite.{SuiteData}
use Rattle.sshcore.specs.declared.phase_table.Phase.TheVariants as phase
use Rattle.sshcore.specs.ConfigParts.{AttemptData, ByKey, ByNothing, ByPassword, ClientData, CredentialData, ServerData, client_offer, server_offer, version_of}
use Rattle.sshcore.specs.EndData.{EndData, goes}
use Rattle.sshcore.specs.EndpointParts.{DecisionsData, config_of_server, server_setup}
use Rattle.sshcore.specs.Plan.{unasked}
use Rattle.sshcore.specs.CompletedMethods.{CompletedMethodsData, completed_after, completed_after_one, none_completed}
use Rattle.sshcore.specs.Replies.{reply_at}
use Rattle.sshcore.proofs.StepLemmas.{request_reply}
use Rattle.sshcore.specs.Tries.{is_successful_at, tried_with}
use Rattle.sshcore.proofs.PlanLemmas.{completed_push}
use Rattle.sshcore.specs.Standing.{Sits}
use Rattle.sshworld.specs.Agreement.{session_between}
use Rattle.sshworld.specs.Course.{Part, client_last, client_next, received_last, server_early, server_last, server_next, server_requests, unanswered}
use Rattle.sshworld.specs.Follows.{IsAsPart}
use Rattle.sshworld.specs.Guesses.{Guess, NoGuess, RightGuess, WrongGuess}
use Rattle.sshworld.specs.Held.{held_method, held_request}
use Rattle.sshworld.specs.Offered.{offered}
use Rattle.sshworld.specs.Outcome.{case_of_how, ends_of_case}
use Rattle.sshworld.specs.Compatible.{AreCompatible, CanSign}
use Rattle.sshworld.specs.Verdicts.{Exhausted, How, Limit, Success, Unknown, Verdict, ends_by, tried_by, tried_of, verdict}
use Rattle.sshworld.specs.Wording.{Wording}
use Rattle.sshworld.specs.Wordings.{answer_or, answer_to, request_or, wording_with}
use Rattle.sshworld.proofs.CountLemmas.{none_exhausts}
use Rattle.sshworld.proofs.CourseLemmas.{answer_in, answer_last, lt_false, next_in, next_last}
use Rattle.sshworld.proofs.JudgedLemmas.{brings_at, get_in, granted, how_reply, judged, take_length, tried_more, tried_same}
use Rattle.sshworld.proofs.MessageLemmas.{closed, fourteen_read, server_asked_for, server_view}
use Rattle.sshworld.proofs.OfferedLemmas.{offered_each, take_more}
use Rattle.sshworld.proofs.PartLemmas.{as_last, as_open, from, group_after}
use Rattle.sshworld.proofs.Readable.{AreOffersRead, AreSound, IsRead, IsTestedName}

pub server_early_length : (w : Wording) (guess : Guess) → length (server_early w guess) ≡ 5 + length (unanswered guess)
server_early_length w NoGuess = refl
server_early_length w RightGuess = refl
server_early_length w WrongGuess = refl

-- an attempt after its query has what it had
named_itself : (r : AttemptData) → IsTestedName r.proving → IsTestedName (unasked r.proving)
named_itself r h = by r.proving h
  where
    by : (p : CredentialData) → IsTestedName p → IsTestedName (unasked p)
    by ByNothing h = h
    by (ByPassword password) h = h
    by (ByKey algorithm secret ask) h = h

signs_itself : (m : SuiteData) (r : AttemptData) → CanSign m r.proving → CanSign m (unasked r.proving)
signs_itself m r h = by r.proving h
  where
    by : (p : CredentialData) → CanSign m p → CanSign m (unasked p)
    by ByNothing h = h
    by (ByPassword password) h = h
    by (ByKey algorithm secret ask) h = h

module _ (m : SuiteData) (d : DecisionsData) (c : ClientData) (s : ServerData) (compatible : AreCompatible m d c s) (sound : AreSound c s) (offers : AreOffersRead c s)
    (a : AlgorithmsData) (chosen : choice m (client_offer c) (server_offer s) ≡ Ok a) (readable : IsRead m d c s a) (guess : Guess) (end : EndData)
    (final : (how : How) → (verdict m d c s).how ≡ how → end ≡ (ends_of_case (case_of_how m c s a how)).server) where
  abbrev w : Wording
  w = wording_with m d c s a.kex a

  abbrev v : Verdict
  v = verdict m d c s

  abbrev p : Part
  p = server_requests w guess v end

  abbrev Q : Units → List ℕ → Type 0
  Q = IsAsPart (server_setup m d s) p

  -- what is completed after the first j requests
  abbrev completed : ℕ → CompletedMethodsData
  completed j = completed_after none_completed (tried_of m d s (take j (offered m d s c.plan)))

  abbrev sits : Units → ℕ → Type 0
  sits before j = Sits (server_setup m d s) (version_of c.side) before phase.Auth false (server_view m d c s compatible sound offers a chosen readable (session_between m c s a) (j + 1) (completed j))

  abbrev named_at : (j : ℕ) (x : AttemptData) → slice_get (offered m d s c.plan) j ≡ Some x → IsTestedName x.proving
  named_at j x at = offered_each m d s (λ (r : AttemptData). IsTestedName r.proving) named_itself c.plan sound.named j x at

  abbrev signs_at : (j : ℕ) (x : AttemptData) → slice_get (offered m d s c.plan) j ≡ Some x → CanSign m x.proving
  signs_at j x at = offered_each m d s (λ (r : AttemptData). CanSign m r.proving) (signs_itself m) c.plan compatible.plan j x at

  -- one request more
  completed_next : (j : ℕ) (x : AttemptData) (at : slice_get (offered m d s c.plan) j ≡ Some x) → length (take j (offered m d s c.plan)) ≡ j
      → completed_after_one (completed j) (tried_with x.user x.service (held_method m (session_between m c s a) x.user x.service x.proving)
      (is_successful_at m d (config_of_server s) (session_between m c s a) (j + 1) x.user x.service (held_method m (session_between m c s a) x.user x.service x.proving))) ≡ completed (j + 1)
  completed_next j x at made_is =
      let made : List AttemptData = take j (offered m d s c.plan) in
      ap (completed_after_one (completed j)) (tried_same m d c s sound a (session_between m c s a) made (j + 1) x (ap (λ (n : ℕ). n + 1) (sym made_is)) (named_at j x at) (signs_at j x at))
      ∙ (sym (completed_push none_completed (tried_of m d s made) (tried_by m d s made x ∷ []))
      ∙ (ap (completed_after none_completed) (sym (tried_more m d c s sound a (session_between m c s a) made x))
      ∙ ap (λ (l : List AttemptData). completed_after none_completed (tried_of m d s l)) (sym (take_more m d s (offered m d s c.plan) j x at))))

  group_is : (before : Units) (j : ℕ) → length before ≡ 4 + length (unanswered guess) + j → p.group (length (version_of c.side ∷ before)) ≡ server_next w v j
  group_is before j at = group_after (server_early w guess) (server_next w v) j (suc (length before)) (omega (arith, at, server_early_length w guess))

  -- after the last request
  ends_here : (before : Units) (j : ℕ) → j ≡ v.requests → sits before j → length before ≡ 4 + length (unanswered guess) + j → (how : How) → v.how ≡ how
      → EachPlace Q (version_of c.side ∷ before) (client_last w how ++ [])
  ends_here before j all here at Unknown e = tt
  ends_here before j all here at (Success q) e = tt
  ends_here before j all here at Limit e = tt
  ends_here before j all here at Exhausted e = (
    as_last (server_setup m d s) p (version_of c.side ∷ before) (w.disconnect 14) [] _
        (closed (server_setup m d s) (version_of c.side) before phase.Auth false _ 14 fourteen_read here)
        (group_is before j at ∙ rw (lt_false (j + 1) v.requests (omega (arith, all)), let ne : nat_eq (j + 1) v.requests ≡ false = ne_eqb (j + 1) v.requests (λ z. omega (arith, z, all)) in ne) refl)
        (omega (arith, at, all, ap received_last e))
        (final Exhausted e),
    tt,
  )

  -- what tells that request j ends nothing
  refused : (j : ℕ) (x : AttemptData) → slice_get (offered m d s c.plan) j ≡ Some x
      → goes (written_message (answer_to m d s (take j (offered m d s c.plan)) x) ∷ []) ≡ goes (w.refusal j ∷ [])
  refused j x at = ap (λ (o : Option AttemptData). goes (answer_or m d s (take j (offered m d s c.plan)) o ∷ [])) (sym at)

  -- the answer to a request
  answers_here : (before : Units) (j : ℕ) (x : AttemptData) → sits before j → length before ≡ 4 + length (unanswered guess) + j → slice_get (offered m d s c.plan) j ≡ Some x → j < v.requests → v.requests ≤ length (offered m d s c.plan)
      → Q (version_of c.side ∷ before) (held_request m (session_between m c s a) x)
  answers_here before j x here at get more most =
      let made : List AttemptData = take j (offered m d s c.plan) in
      let made_is : length (take j (offered m d s c.plan)) ≡ j = take_length (offered m d s c.plan) j (omega (arith, more, most)) in
      let reply : reply_at (server_setup m d s) (version_of c.side) before (held_request m (session_between m c s a) x) ≡ how_reply m d c s a (take j (offered m d s c.plan)) x (ends_by m d s (take j (offered m d s c.plan)) x) =
      (server_asked_for m d c s compatible sound offers a chosen readable before (j + 1) j (completed j) x get here).0
      ∙ ap (λ (n : ℕ). request_reply m d (config_of_server s) (server_view m d c s compatible sound offers a chosen readable (session_between m c s a) (n + 1) (completed j)) x.user x.service (held_method m (session_between m c s a) x.user x.service x.proving)) (sym made_is)
      ∙ judged m d c s sound a (session_between m c s a) (version_of c.side) _ _ [] _ false s.side.ignored_limit made x (named_at j x get) (signs_at j x get) (readable.short j x get) (omega (arith, made_is, granted m d c s sound.tries most j more)) refl refl in
      let b = brings_at m d c s j x get in
      elim (dec_lt (j + 1) v.requests) [
        | yes less ↦
            as_open (server_setup m d s) p (version_of c.side ∷ before) (held_request m (session_between m c s a) x) (w.refusal j ∷ [])
            (reply ∙ ap (how_reply m d c s a (take j (offered m d s c.plan)) x) (b.before (omega (arith, less))) ∙ refused j x get) (group_is before j at ∙ answer_in w v j less) (omega (arith, at, less))
        | no ge ↦
            let last : j + 1 ≡ v.requests = omega (arith, ge, more) in
            at_last reply last (b.last (omega (arith, last)))
      ]
    where
      by_how : reply_at (server_setup m d s) (version_of c.side) before (held_request m (session_between m c s a) x) ≡ how_reply m d c s a (take j (offered m d s c.plan)) x (ends_by m d s (take j (offered m d s c.plan)) x)
          → j + 1 ≡ v.requests → (how : How) → v.how ≡ how → ends_by m d s (take j (offered m d s c.plan)) x ≡ Some how → Q (version_of c.side ∷ before) (held_request m (session_between m c s a) x)
      by_how reply last Unknown is e =
          as_last (server_setup m d s) p (version_of c.side ∷ before) (held_request m (session_between m c s a) x) (w.disconnect 7 ∷ []) _
          (reply ∙ ap (how_reply m d c s a (take j (offered m d s c.plan)) x) e) (group_is before j at ∙ answer_last w v j last ∙ ap (λ h. server_last w j h) is) (omega (arith, at, last, ap received_last is)) (final Unknown is)
      by_how reply last (Success q) is e =
          as_last (server_setup m d s) p (version_of c.side ∷ before) (held_request m (session_between m c s a) x) (w.success ∷ []) _
          (reply ∙ ap (how_reply m d c s a (take j (offered m d s c.plan)) x) e) (group_is before j at ∙ answer_last w v j last ∙ ap (λ h. server_last w j h) is) (omega (arith, at, last, ap received_last is)) (final (Success q) is)
      by_how reply last Limit is e =
          as_last (server_setup m d s) p (version_of c.side ∷ before) (held_request m (session_between m c s a) x) (w.disconnect 14 ∷ []) _
          (reply ∙ ap (how_reply m d c s a (take j (offered m d s c.plan)) x) e) (group_is before j at ∙ answer_last w v j last ∙ ap (λ h. server_last w j h) is) (omega (arith, at, last, ap received_last is)) (final Limit is)
      by_how reply last Exhausted is e = absurd (none_exhausts m d s (take j (offered m d s c.plan)) x e)

      at_last : reply_at (server_setup m d s) (version_of c.side) before (held_request m (session_between m c s a) x) ≡ how_reply m d c s a (take j (offered m d s c.plan)) x (ends_by m d s (take j (offered m d s c.plan)) x)
          → j + 1 ≡ v.requests → (ends_by m d s (take j (offered m d s c.plan)) x ≡ Some v.how) ⊎ ((ends_by m d s (take j (offered m d s c.plan)) x ≡ None) × (v.how ≡ Exhausted))
          → Q (version_of c.side ∷ before) (held_request m (session_between m c s a) x)
      at_last reply last (inl e) = by_how reply last v.how refl e
      at_last reply last (inr e) =
          as_open (server_setup m d s) p (version_of c.side ∷ before) (held_request m (session_between m c s a) x) (w.refusal j ∷ [])
          (reply ∙ ap (how_reply m d c s a (take j (offered m d s c.plan)) x) e.0 ∙ refused j x get) (group_is before j at ∙ answer_last w v j last ∙ ap (λ h. server_last w j h) e.1) (omega (arith, at, last, ap received_last e.1))

  pub server_loop : (r j : ℕ) → j + r ≡ v.requests → v.requests ≤ length (offered m d s c.plan) → (before : Units) → sits before j → length before ≡ 4 + length (unanswered guess) + j
      → EachPlace Q (version_of c.side ∷ before) (from (client_next w v) j (suc r))
  server_loop zero j sum most before here at =
      let all : j ≡ v.requests = omega (arith, sum) in
      subst (λ (g : Units). EachPlace Q (version_of c.side ∷ before) (g ++ [])) (sym (next_last w v j all)) (ends_here before j all here at v.how refl)
  server_loop (suc r) j sum most before here at =
      let more : j < v.requests = omega (arith, sum) in
      let x = get_in (offered m d s c.plan) j (omega (arith, more, most)) in
      let one : client_next w v j ≡ held_request m (session_between m c s a) x.0 ∷ [] = next_in w v j more ∙ ap (λ (o : Option AttemptData). request_or m (session_between m c s a) o ∷ []) x.1 in
      let made_is : length (take j (offered m d s c.plan)) ≡ j = take_length (offered m d s c.plan) j (omega (arith, more, most)) in
      let next : sits (before ++ held_request m (session_between m c s a) x.0 ∷ []) (suc j) =
      subst (λ (n : ℕ). sits (before ++ held_request m (session_between m c s a) x.0 ∷ []) n) (let e : j + 1 ≡ suc j = omega arith in e)
      (subst (λ (g : CompletedMethodsData). Sits (server_setup m d s) (version_of c.side) (before ++ held_request m (session_between m c s a) x.0 ∷ []) phase.Auth false
      (server_view m d c s compatible sound offers a chosen readable (session_between m c s a) (j + 1 + 1) g)) (completed_next j x.0 x.1 made_is)
      (server_asked_for m d c s compatible sound offers a chosen readable before (j + 1) j (completed j) x.0 x.1 here).1) in
      subst (λ (g : Units). EachPlace Q (version_of c.side ∷ before) (g ++ from (client_next w v) (suc j) (suc r))) (sym one) (
        answers_here before j x.0 here at x.1 more most,
        server_loop r (suc j) (omega (arith, sum)) most (before ++ held_request m (session_between m c s a) x.0 ∷ []) next (omega (arith, at, length-append before (held_request m (session_between m c s a) x.0 ∷ []))),
      )
