-- The client's part of authentication, by the number of requests made.

use Rattle.std.proofs.Common.{◌≡◌, ◌⊎◌, inl, inr, ℕ, zero, suc, ◌+◌, ◌<◌, ◌≤◌, Bool, true, false, if◌then◌else◌, List, [], ◌∷◌, ◌++◌, take, length, length-append, slice_get, Option, None, Some, Ok, refl, sym, ap, ◌∙◌, subst, arith}
use Rattle.sshmsg.specs.MessageData.{MessageData, UserauthFailure, UserauthPkOk}
use Rattle.sshmsg.specs.Written.{written_message}
use Rattle.sshneg.specs.ChoiceReadings.{choice}
use Rattle.sshneg.specs.Fields.{AlgorithmsData}
use Rattle.sshpacket.specs.Places.{EachPlace}
use Rattle.sshpacket.specs.Stream.{Units}
use Rattle.sshpacket.specs.Suite.{SuiteData}
use Rattle.sshcore.specs.declared.phase_table.Phase.TheVariants as phase
use Rattle.sshcore.proofs.StepLemmas.{attempt_reply}
use Rattle.sshcore.specs.ConfigParts.{AttemptData, ByKey, ByNothing, ByPassword, ClientData, CredentialData, ServerData, client_offer, server_offer, version_of}
use Rattle.sshcore.specs.EndData.{Authenticated, EndData}
use Rattle.sshcore.specs.EndpointParts.{DecisionsData, client_setup}
use Rattle.sshcore.specs.Plan.{confirmed, next_after}
use Rattle.sshcore.specs.Replies.{reply_at}
use Rattle.sshcore.specs.Standing.{Sits}
use Rattle.sshworld.specs.Agreement.{agreed, session_between}
use Rattle.sshworld.specs.Course.{Part, client_early, client_last, client_next, client_receives, client_requests, server_last, server_next}
use Rattle.sshworld.specs.Follows.{IsAsPart}
use Rattle.sshworld.specs.Guesses.{Guess}
use Rattle.sshworld.specs.Held.{IsHeld, held_request}
use Rattle.sshworld.specs.Judging.{is_proved}
use Rattle.sshworld.specs.Offered.{is_confirmed, offered}
use Rattle.sshworld.specs.Outcome.{case_of_how, ends_of_case}
use Rattle.sshworld.specs.Compatible.{AreCompatible}
use Rattle.sshworld.specs.Verdicts.{Exhausted, How, Limit, Success, Unknown, Verdict, ends_by, verdict}
use Rattle.sshworld.specs.Wording.{Wording}
use Rattle.sshworld.specs.Wordings.{answer_or, answer_to, request_or, wording_with}
use Rattle.sshworld.proofs.CountLemmas.{counted_offered, success_of}
use Rattle.sshworld.proofs.CourseLemmas.{answer_in, answer_last, early_length, next_in, next_last}
use Rattle.sshworld.proofs.HeldLemmas.{attempt_held, held_itself}
use Rattle.sshworld.proofs.JudgedLemmas.{brings_at, client_strict, get_in}
use Rattle.sshworld.proofs.MessageLemmas.{client_confirmed, client_failed, client_succeeds, client_view, closed, fourteen_read, seven_read}
use Rattle.sshworld.proofs.OfferedLemmas.{IsLeft, offered_each, left_confirmed, left_none, left_refused, left_some}
use Rattle.sshworld.proofs.PartLemmas.{as_last, as_open, from, group_after}
use Rattle.sshworld.proofs.Readable.{AreOffersRead, AreSound, IsRead, ReadsAgain}

pub receives_many : (w : Wording) (n : ℕ) → 0 < n → client_receives w n ≡ 5 + length w.banner + n
receives_many w zero h = absurd (omega (arith, h))
receives_many w (suc n) h = refl

-- the suite holds the key of each request
pub held_at : (m : SuiteData) (d : DecisionsData) (c : ClientData) (s : ServerData) → AreCompatible m d c s → (j : ℕ) (x : AttemptData) → slice_get (offered m d s c.plan) j ≡ Some x → IsHeld m x.proving
held_at m d c s compatible j x at = offered_each m d s (λ (r : AttemptData). IsHeld m r.proving) (held_itself m) c.plan compatible.plan_held j x at

module _ (m : SuiteData) (d : DecisionsData) (c : ClientData) (s : ServerData) (compatible : AreCompatible m d c s) (sound : AreSound c s) (offers : AreOffersRead c s)
    (a : AlgorithmsData) (chosen : choice m (client_offer c) (server_offer s) ≡ Ok a) (readable : IsRead m d c s a) (guess : Guess) (end : EndData)
    (final : (how : How) → (verdict m d c s).how ≡ how → end ≡ (ends_of_case (case_of_how m c s a how)).client) where
  abbrev w : Wording
  w = wording_with m d c s a.kex a

  abbrev v : Verdict
  v = verdict m d c s

  abbrev p : Part
  p = client_requests w guess v end

  abbrev Q : Units → List ℕ → Type 0
  Q = IsAsPart (client_setup m d c) p

  abbrev sits : Units → List AttemptData → Type 0
  sits before left = Sits (client_setup m d c) (version_of s.side) before phase.Auth false (client_view m d c s compatible sound offers a chosen readable (session_between m c s a) left)

  abbrev is_left : List AttemptData → ℕ → Type 0
  is_left left j = IsLeft m d s (offered m d s c.plan) left j

  group_is : (before : Units) (j : ℕ) → length before ≡ 4 + length w.banner + j → p.group (length (version_of s.side ∷ before)) ≡ client_next w v (j + 1)
  group_is before j at = group_after (client_early w guess v) (λ i. client_next w v (i + 1)) j (suc (length before)) (omega (arith, at, early_length w guess v))

  -- What the client does at the answer to request j, which ends nothing: it makes the first attempt of what is left then.
  record Answered (before : Units) (j : ℕ) (payload : List ℕ) : Type 0 where
    left : List AttemptData
    reply : reply_at (client_setup m d c) (version_of s.side) before payload ≡ attempt_reply m d (session_between m c s a) left
    here : sits (before ++ payload ∷ []) left
    rest : is_left left (j + 1)

  module _ (before : Units) (j : ℕ) where
    abbrev made : List AttemptData
    made = take j (offered m d s c.plan)

    by_failure : (x : AttemptData) (later : List AttemptData) (partial : Bool) → ReadsAgain (UserauthFailure s.methods partial) → sits before (x ∷ later) → is_left (x ∷ later) j
        → slice_get (offered m d s c.plan) j ≡ Some x → is_confirmed m d s made x ≡ false → Answered before j (written_message (UserauthFailure s.methods partial))
    by_failure x later partial read here rest at none =
        let f = client_failed m d c s compatible sound offers a chosen readable partial read before (session_between m c s a) (x ∷ later) here in
        record { left = next_after s.methods (x ∷ later); reply = f.0; here = f.1; rest = left_refused m d s (offered m d s c.plan) j x later rest at none }

    by_proving : (user service : List ℕ) (p : CredentialData) (later : List AttemptData) → sits before (record { user = user; service = service; proving = p } ∷ later)
        → is_left (record { user = user; service = service; proving = p } ∷ later) j → slice_get (offered m d s c.plan) j ≡ Some (record { user = user; service = service; proving = p })
        → Answered before j (written_message (answer_to m d s made (record { user = user; service = service; proving = p })))
    by_proving user service ByNothing later here rest at =
        let x : AttemptData = record { user = user; service = service; proving = ByNothing } in
        by_failure x later (is_proved m d s (length made + 1) x) (readable.answers j x at) here rest at refl
    by_proving user service (ByPassword password) later here rest at =
        let x : AttemptData = record { user = user; service = service; proving = ByPassword password } in
        by_failure x later (is_proved m d s (length made + 1) x) (readable.answers j x at) here rest at refl
    by_proving user service (ByKey algorithm secret false) later here rest at =
        let x : AttemptData = record { user = user; service = service; proving = ByKey algorithm secret false } in
        by_failure x later (is_proved m d s (length made + 1) x) (readable.answers j x at) here rest at refl
    by_proving user service (ByKey algorithm secret true) later here rest at = by (is_proved m d s (length made + 1) x) refl
      where
        x : AttemptData
        x = record { user = user; service = service; proving = ByKey algorithm secret true }

        told : Bool → MessageData
        told b = if b then UserauthPkOk algorithm (m.blob algorithm secret) else UserauthFailure s.methods false

        by : (b : Bool) → is_proved m d s (length made + 1) x ≡ b → Answered before j (written_message (told (is_proved m d s (length made + 1) x)))
        by true e =
            let is : told (is_proved m d s (length made + 1) x) ≡ UserauthPkOk algorithm (m.blob algorithm secret) = ap told e in
            let f = client_confirmed m d c s compatible sound offers a chosen readable user service algorithm secret later (subst ReadsAgain is (readable.answers j x at)) before (session_between m c s a) here in
            subst (λ (y : MessageData). Answered before j (written_message y)) (sym is)
            (record { left = confirmed (x ∷ later); reply = f.0; here = f.1; rest = left_confirmed m d s (offered m d s c.plan) j x later rest at e })
        by false e =
            let is : told (is_proved m d s (length made + 1) x) ≡ UserauthFailure s.methods false = ap told e in
            subst (λ (y : MessageData). Answered before j (written_message y)) (sym is)
            (by_failure x later false (subst ReadsAgain is (readable.answers j x at)) here rest at e)

    answered : (left : List AttemptData) (x : AttemptData) → sits before left → is_left left j → slice_get (offered m d s c.plan) j ≡ Some x → Answered before j (w.refusal j)
    answered left x here rest at =
        let l = left_some m d s (offered m d s c.plan) left j x rest at in
        subst (λ (payload : List ℕ). Answered before j payload) (sym (ap (answer_or m d s made) at))
        (by_proving x.user x.service x.proving l.0 (subst (λ (y : List AttemptData). sits before y) l.1 here) (subst (λ (y : List AttemptData). is_left y j) l.1 rest) at)

  success_is : (j : ℕ) (q x : AttemptData) → v.how ≡ Success q
      → (ends_by m d s (take j (offered m d s c.plan)) x ≡ Some v.how) ⊎ ((ends_by m d s (take j (offered m d s c.plan)) x ≡ None) × (v.how ≡ Exhausted)) → q ≡ x
  success_is j q x is (inl e) = success_of m d s (take j (offered m d s c.plan)) x q (e ∙ ap Some is)
  success_is j q x is (inr e) = absurd (let no_how : Success q ≡ Exhausted = sym is ∙ e.1 in cc (no_how))

  -- the last answer
  last_here : (before : Units) (j : ℕ) (left : List AttemptData) → j + 1 ≡ v.requests → sits before left → is_left left j → length before ≡ 4 + length w.banner + j → (how : How) → v.how ≡ how
      → EachPlace Q (version_of s.side ∷ before) (server_last w j how ++ [])
  last_here before j left all here rest at Unknown is = (
    as_last (client_setup m d c) p (version_of s.side ∷ before) (w.disconnect 7) [] _
        (closed (client_setup m d c) (version_of s.side) before phase.Auth false _ 7 seven_read here)
        (group_is before j at ∙ next_last w v (j + 1) all ∙ ap (λ h. client_last w h) is)
        (let n = receives_many w v.requests (omega (arith, all)) in omega (arith, at, all, n)) (final Unknown is),
    tt,
  )
  last_here before j left all here rest at (Success q) is =
      let made = counted_offered m d c s in
      let x = get_in (offered m d s c.plan) j (omega (arith, all, made.most)) in
      let l = left_some m d s (offered m d s c.plan) left j x.0 rest x.1 in
      let b = brings_at m d c s j x.0 x.1 in
      let same : q ≡ x.0 = success_is j q x.0 is (b.last (omega (arith, all))) in
      let strict = client_strict c s sound in (
        as_last (client_setup m d c) p (version_of s.side ∷ before) w.success [] (Authenticated (agreed m c s a q))
            (client_succeeds m d c s compatible sound offers a chosen readable before (session_between m c s a) x.0 l.0 (subst (λ (y : List AttemptData). sits before y) l.1 here)
            ∙ ap (λ (b : Bool). record { answers = []; end = Authenticated (record { algorithms = a; strict = b; session = session_between m c s a; user = x.0.user; service = x.0.service }) }) strict
            ∙ ap (λ (y : AttemptData). record { answers = []; end = Authenticated (agreed m c s a y) }) (sym same))
            (group_is before j at ∙ next_last w v (j + 1) all ∙ ap (λ h. client_last w h) is)
            (let n = receives_many w v.requests (omega (arith, all)) in omega (arith, at, all, n)) (final (Success q) is),
        tt,
      )
  last_here before j left all here rest at Limit is = (
    as_last (client_setup m d c) p (version_of s.side ∷ before) (w.disconnect 14) [] _
        (closed (client_setup m d c) (version_of s.side) before phase.Auth false _ 14 fourteen_read here)
        (group_is before j at ∙ next_last w v (j + 1) all ∙ ap (λ h. client_last w h) is)
        (let n = receives_many w v.requests (omega (arith, all)) in omega (arith, at, all, n)) (final Limit is),
    tt,
  )
  last_here before j left all here rest at Exhausted is =
      let made = counted_offered m d c s in
      let x = get_in (offered m d s c.plan) j (omega (arith, all, made.most)) in
      let f = answered before j left x.0 here rest x.1 in
      let none : f.left ≡ [] = left_none m d s (offered m d s c.plan) f.left (j + 1) f.rest (omega (arith, all, made.all_made is)) in (
        as_last (client_setup m d c) p (version_of s.side ∷ before) (w.refusal j) (w.disconnect 14 ∷ []) _
            (f.reply ∙ ap (λ (l : List AttemptData). attempt_reply m d (session_between m c s a) l) none)
            (group_is before j at ∙ next_last w v (j + 1) all ∙ ap (λ h. client_last w h) is)
            (let n = receives_many w v.requests (omega (arith, all)) in omega (arith, at, all, n)) (final Exhausted is),
        tt,
      )

  pub client_loop : (r j : ℕ) → j + r ≡ v.requests → v.requests ≤ length (offered m d s c.plan) → (before : Units) (left : List AttemptData) → sits before left → is_left left j → length before ≡ 4 + length w.banner + j
      → EachPlace Q (version_of s.side ∷ before) (from (server_next w v) j r)
  client_loop zero j sum most before left here rest at = tt
  client_loop (suc zero) j sum most before left here rest at =
      let all : j + 1 ≡ v.requests = omega (arith, sum) in
      subst (λ (g : Units). EachPlace Q (version_of s.side ∷ before) (g ++ [])) (sym (answer_last w v j all)) (last_here before j left all here rest at v.how refl)
  client_loop (suc (suc r)) j sum most before left here rest at =
      let more : j + 1 < v.requests = omega (arith, sum) in
      let old = get_in (offered m d s c.plan) j (omega (arith, more, most)) in
      let x = get_in (offered m d s c.plan) (j + 1) (omega (arith, more, most)) in
      let f = answered before j left old.0 here rest old.1 in
      let l = left_some m d s (offered m d s c.plan) f.left (j + 1) x.0 f.rest x.1 in
      let one : client_next w v (j + 1) ≡ held_request m (session_between m c s a) x.0 ∷ [] = next_in w v (j + 1) more ∙ ap (λ (o : Option AttemptData). request_or m (session_between m c s a) o ∷ []) x.1 in
      subst (λ (g : Units). EachPlace Q (version_of s.side ∷ before) (g ++ from (server_next w v) (suc j) (suc r))) (sym (answer_in w v j more)) (
        as_open (client_setup m d c) p (version_of s.side ∷ before) (w.refusal j) (held_request m (session_between m c s a) x.0 ∷ [])
            (f.reply ∙ attempt_held m d (session_between m c s a) f.left x.0 l.0 l.1 (held_at m d c s compatible (j + 1) x.0 x.1)) (group_is before j at ∙ one)
            (let n = receives_many w v.requests (omega (arith, more)) in omega (arith, at, more, n)),
        client_loop (suc r) (suc j) (omega (arith, sum)) most (before ++ w.refusal j ∷ []) f.left f.here
            (subst (λ (n : ℕ). is_left f.left n) (let e : j + 1 ≡ suc j = omega arith in e) f.rest)
            (omega (arith, at, length-append before (w.refusal j ∷ []))),
      )
