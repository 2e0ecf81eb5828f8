-- How many requests a server grants.

use Rattle.std.proofs.Common.{◌≡◌, ◌⊎◌, inl, inr, ℕ, ◌+◌, ◌<◌, ◌≤◌, Bool, true, false, List, [], ◌∷◌, ◌++◌, Result, Ok, Err, refl, sym, ap, ◌∙◌, subst, append_assoc, arith}
use Rattle.std.proofs.lemmas.Bool.{and_parts, cases_Bool, eqb-true, leb-false, ne_eqb, true≢false}
use Rattle.std.proofs.lemmas.List.{append-nil}
use Rattle.sshmsg.specs.declared.fault.MsgFault.{MsgFault}
use Rattle.sshmsg.specs.MessageData.{MessageData, MethodData, UserauthRequest}
use Rattle.sshmsg.specs.Messages.{message_in}
use Rattle.sshmsg.specs.Numbers.{message_number, number_of}
use Rattle.sshneg.specs.declared.side.Side.TheVariants.{Server}
use Rattle.sshpacket.specs.Places.{EachPlace}
use Rattle.sshpacket.specs.Stream.{Units}
use Rattle.sshpacket.specs.Suite.{SuiteData}
use Rattle.sshcore.specs.declared.end.Fault.TheVariants as fault
use Rattle.sshcore.specs.declared.phase_table.Disposition.{Disposition}
use Rattle.sshcore.specs.declared.phase_table.Disposition.TheVariants as disposition
use Rattle.sshcore.specs.declared.phase_table.Phase.{Phase}
use Rattle.sshcore.specs.declared.phase_table.Phase.TheVariants as phase
use Rattle.sshcore.specs.Attempts.{agreed_by}
use Rattle.sshcore.specs.Before.{count_kept, expects_guess, kept, strict_at}
use Rattle.sshcore.specs.Counting.{number_in}
use Rattle.sshcore.specs.EndData.{Authenticated, Failed, Open, Reply}
use Rattle.sshcore.specs.KnownBefore.{Known, known_at, waits_at}
use Rattle.sshcore.specs.EndpointParts.{ConfigData, DecisionsData, setup_with}
use Rattle.sshcore.specs.Phases.{phase_at}
use Rattle.sshcore.specs.Replies.{StaysOpen, disposition_at, disposition_reply, end_at, read_reply}
use Rattle.sshcore.specs.Requests.{is_last_try}
use Rattle.sshcore.specs.Table.{disposition_by}
use Rattle.sshcore.proofs.StepLemmas.{request_reply, work_is, worked}
use Rattle.sshcore.proofs.IgnoredLimitLemmas.{allowed_number}
use Rattle.sshcore.proofs.AnswerLemmas.{Elsewhere, IsAnswered, Last, More, Succeeds, answered}
use Rattle.sshcore.proofs.LawsBelow.{Below}
use Rattle.sshcore.proofs.PhaseLemmas.{kept_dropped}
use Rattle.sshcore.proofs.PlanLemmas.{count_push}

-- a line that reads, or that fails the endpoint
abbrev ReadsOrFails : Disposition → Type 0
ReadsOrFails l = (l ≡ disposition.Reads) ⊎ ((l ≡ disposition.Deviates) ⊎ (l ≡ disposition.Unexpected))

-- where no guess is due, a request has such a line
request_disposition : (p : Phase) (strict waits : Bool) → ReadsOrFails (disposition_by Server p strict false waits 50)
unfolding disposition_by
request_disposition phase.KexInit strict waits = inr (inr refl)
request_disposition phase.Exchange true waits = inr (inl refl)
request_disposition phase.Exchange false waits = inr (inr refl)
request_disposition phase.NewKeys true waits = inr (inl refl)
request_disposition phase.NewKeys false waits = inr (inr refl)
request_disposition phase.Service strict waits = inr (inr refl)
request_disposition phase.Auth strict waits = inl refl

module _ (below : Below) (m : SuiteData) (d : DecisionsData) (config : ConfigData) where
  -- a request that leaves the endpoint open isn't the last that is granted
  request_tries : (known : Known) (user service : List ℕ) (method : MethodData) → (request_reply m d config known user service method).end ≡ Open → is_last_try config known ≡ false
  request_tries known user service method is_open = by (answered m d config known user service method)
    where
      by : IsAnswered m d config known user service method (request_reply m d config known user service method) → is_last_try config known ≡ false
      by (Elsewhere has is) = absurd (let shut : Failed fault.Service ≡ Open = ap (λ (r : Reply). r.end) (sym is) ∙ is_open in cc (shut))
      by (Succeeds has successful done is) = absurd (let shut : Authenticated (agreed_by known user service) ≡ Open = ap (λ (r : Reply). r.end) (sym is) ∙ is_open in cc (shut))
      by (Last last is) = absurd (let shut : Failed fault.TooManyTries ≡ Open = ap (λ (r : Reply). r.end) (sym is) ∙ is_open in cc (shut))
      by (More x refusal more is) = more

  work_tries : (known : Known) (c : MessageData) → number_of c ≡ 50 → (worked (setup_with m d Server config) known c).end ≡ Open → is_last_try config known ≡ false
  unfolding worked
  work_tries known (UserauthRequest user service method) n is_open = request_tries known user service method is_open
  work_tries known _ n is_open = absurd (omega (arith, n))

  read_tries : (known : Known) (payload : List ℕ) (r : Result MessageData MsgFault) → message_in known.shares payload ≡ r → message_number payload ≡ 50
      → (read_reply (setup_with m d Server config) known (message_number payload) r).end ≡ Open → is_last_try config known ≡ false
  read_tries known payload (Ok c) e is is_open = work_tries known c (sym (below.numbers known.shares payload c e) ∙ is) (subst (λ (x : Reply). x.end ≡ Open) (work_is (setup_with m d Server config) known c) is_open)
  read_tries known payload (Err f) e is is_open = absurd cc

  disposition_tries : (known : Known) (packet : ℕ) (payload : List ℕ) (l : Disposition) → ReadsOrFails l → message_number payload ≡ 50
      → (disposition_reply (setup_with m d Server config) known packet l payload).end ≡ Open → is_last_try config known ≡ false
  unfolding disposition_reply
  disposition_tries known packet payload disposition.Reads side is is_open =
      let r : Reply = read_reply (setup_with m d Server config) known (message_number payload) (message_in known.shares payload) in
      read_tries known payload (message_in known.shares payload) refl is (subst (λ (x : Reply). x.end ≡ Open) (allowed_number known payload r 50 is refl) is_open)
  disposition_tries known packet payload disposition.Drops (inl e) is is_open = absurd cc
  disposition_tries known packet payload disposition.Drops (inr (inl e)) is is_open = absurd cc
  disposition_tries known packet payload disposition.Drops (inr (inr e)) is is_open = absurd cc
  disposition_tries known packet payload disposition.Deviates side is is_open = absurd cc
  disposition_tries known packet payload disposition.Unknown (inl e) is is_open = absurd cc
  disposition_tries known packet payload disposition.Unknown (inr (inl e)) is is_open = absurd cc
  disposition_tries known packet payload disposition.Unknown (inr (inr e)) is is_open = absurd cc
  disposition_tries known packet payload disposition.Unexpected side is is_open = absurd cc

  module _ (version : List ℕ) (before : Units) (payload : List ℕ) where
    -- a request that counts comes where no guess is due
    none_expected : message_number payload ≡ 50 → kept Server config.offer 50 before payload ≡ true → expects_guess Server config.offer before ≡ false
    none_expected is counts = elim (cases_Bool (expects_guess Server config.offer before)) [
      | inl due ↦ absurd (true≢false (sym counts ∙ kept_dropped Server config.offer before payload 50 due (ne_eqb (message_number payload) 1 (λ q. omega arith))))
      | inr none ↦ none
    ]

    -- and where the endpoint stays open, another one may come
    counted_open : end_at (setup_with m d Server config) (version ∷ before) payload ≡ Open → kept Server config.offer 50 before payload ≡ true
        → count_kept Server config.offer 50 before + 1 < config.tries
    counted_open is_open counts =
        let is : message_number payload ≡ 50 = eqb-true (message_number payload) 50 (and_parts _ _ counts).0 in
        let p = phase_at Server config.offer before in
        let strict = strict_at Server config before in
        let waits = waits_at Server config before in
        let same : disposition_by Server p strict false waits 50 ≡ disposition_at Server config before payload =
        ap (λ b. disposition_by Server p strict b waits 50) (sym (none_expected is counts)) ∙ ap (λ n. disposition_by Server p strict (expects_guess Server config.offer before) waits n) (sym is) in
        leb-false config.tries (count_kept Server config.offer 50 before + 1)
        (disposition_tries (known_at (setup_with m d Server config) version before) (number_in Server config before) payload (disposition_at Server config before payload)
        (subst ReadsOrFails same (request_disposition p strict waits)) is is_open)

    -- one payload more
    count_open : end_at (setup_with m d Server config) (version ∷ before) payload ≡ Open → count_kept Server config.offer 50 before < config.tries
        → count_kept Server config.offer 50 (before ++ payload ∷ []) < config.tries
    count_open is_open few = elim (cases_Bool (kept Server config.offer 50 before payload)) [
      | inl counts ↦
          let same : count_kept Server config.offer 50 (before ++ payload ∷ []) ≡ count_kept Server config.offer 50 before + 1 = count_push Server config.offer before payload 50 ∙ rw counts refl in
          omega (arith, same, counted_open is_open counts)
      | inr none ↦
          let same : count_kept Server config.offer 50 (before ++ payload ∷ []) ≡ count_kept Server config.offer 50 before = count_push Server config.offer before payload 50 ∙ rw none refl in
          omega (arith, same, few)
    ]

  -- after payloads at each of which it stays open
  count_on : (version : List ℕ) (before us : Units) → EachPlace (λ b u. end_at (setup_with m d Server config) b u ≡ Open) (version ∷ before) us
      → count_kept Server config.offer 50 before < config.tries → count_kept Server config.offer 50 (before ++ us) < config.tries
  count_on version before [] each few = subst (λ (l : Units). count_kept Server config.offer 50 l < config.tries) (sym (append-nil before)) few
  count_on version before (u ∷ us) each few =
      subst (λ (l : Units). count_kept Server config.offer 50 l < config.tries) (append_assoc before (u ∷ []) us)
      (count_on version (before ++ u ∷ []) us each.1 (count_open version before u each.0 few))

  none_counted : 1 ≤ config.tries → count_kept Server config.offer 50 [] < config.tries
  unfolding count_kept
  none_counted some = some

  pub granted : (version : List ℕ) (before : Units) → 1 ≤ config.tries → StaysOpen (setup_with m d Server config) (version ∷ before) → count_kept Server config.offer 50 before < config.tries
  granted version before some stays = count_on version [] before stays.1 (none_counted some)
