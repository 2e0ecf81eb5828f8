-- NEWKEYS is sent in answer to the exchange message alone.

use Rattle.std.proofs.Common.{◌≡◌, ◌≢◌, ◌⊎◌, inl, inr, ℕ, ◌==◌, Bool, true, false, cond, List, [], ◌∷◌, ◌++◌, Option, None, Some, Result, Ok, Err, refl, sym, ap, subst, ◌∙◌, arith}
use Rattle.std.specs.Prelude.{◌&&◌, not}
use Rattle.std.specs.Str.{bytes_eq}
use Rattle.std.proofs.lemmas.Bool.{cases_Bool, eq-eqb, eqb-true, true≢false}
use Rattle.sshwire.specs.declared.share_form.ShareForm.{ShareForm}
use Rattle.sshwire.specs.declared.share_form.ShareForm.TheVariants.{Hybrid, Mpint, OctetString}
use Rattle.sshmsg.specs.declared.fault.MsgFault.{MsgFault}
use Rattle.sshmsg.specs.MessageData.{KexEcdhInit, KexEcdhReply, KexInit, KexInitData, KexdhInit, KexdhReply, MessageData, MethodData, ServiceAccept, ServiceRequest, Unimplemented, UserauthFailure, UserauthPkOk, UserauthRequest, UserauthSuccess}
use Rattle.sshmsg.specs.Messages.{message_in}
use Rattle.sshmsg.specs.Numbers.{message_number, number_of}
use Rattle.sshmsg.specs.Written.{written_message}
use Rattle.sshneg.specs.declared.choice.NoCommon.{NoCommon}
use Rattle.sshneg.specs.declared.side.Side.{Side}
use Rattle.sshneg.specs.declared.side.Side.TheVariants.{Client, Server}
use Rattle.sshneg.specs.Fields.{AlgorithmsData}
use Rattle.sshneg.specs.Strictness.{is_right_guess}
use Rattle.sshpacket.specs.Stream.{Units}
use Rattle.sshpacket.specs.Suite.{SuiteData}
use Rattle.sshcore.specs.declared.end.Fault.{Fault}
use Rattle.sshcore.specs.declared.end.Fault.TheVariants as fault
use Rattle.sshcore.specs.declared.phase_table.Disposition.{Disposition}
use Rattle.sshcore.specs.declared.phase_table.Disposition.TheVariants as disposition
use Rattle.sshcore.specs.declared.phase_table.Phase.{Phase}
use Rattle.sshcore.specs.declared.phase_table.Phase.TheVariants as phase
use Rattle.sshcore.specs.Attempts.{answers_query, success_by}
use Rattle.sshcore.specs.Before.{expects_guess, kept, offered, stood, strict_at, strict_towards}
use Rattle.sshcore.specs.ConfigParts.{AttemptData}
use Rattle.sshcore.specs.Counting.{number_in, switched_out}
use Rattle.sshcore.specs.EndData.{Reply, disconnect_by, fails, goes, reason_of}
use Rattle.sshcore.specs.Exchange.{choice_with, own_kexinit}
use Rattle.sshcore.specs.History.{IsReady}
use Rattle.sshcore.specs.KnownBefore.{Known, known_at, waits_at}
use Rattle.sshcore.specs.EndpointParts.{ConfigData, DecisionsData, Setup}
use Rattle.sshcore.specs.Phases.{leaving}
use Rattle.sshcore.specs.Plan.{confirmed, next_after}
use Rattle.sshcore.specs.Replies.{answers_at, disposition_reply, read_reply}
use Rattle.sshcore.specs.Standing.{Tied}
use Rattle.sshcore.specs.Table.{disposition_by}
use Rattle.sshcore.specs.Work.{banner_by, chosen_reply, guess_of, guessed_method, init_for, init_in, kexinit_reply, making, opening, service_reply, userauth}
use Rattle.sshcore.proofs.StepLemmas.{accept_reply, attempt_reply, pk_ok_reply, request_reply, work_is, worked}
use Rattle.sshcore.proofs.IgnoredLimitLemmas.{by_allowance}
use Rattle.sshcore.proofs.AnswerLemmas.{Confirmed, Elsewhere, IsAnswered, IsRefusal, Last, More, Refused, Succeeds, answered}
use Rattle.sshcore.proofs.LawsBelow.{Below}
use Rattle.sshcore.proofs.PhaseLemmas.{kept_free, offered_push, stood_push}
use Rattle.sshcore.proofs.StreamLemmas.{newkeys_anywhere}
use Rattle.sshcore.proofs.StrictSteps.{disposition_is}
use Rattle.sshcore.proofs.TableLemmas.{Closing, Dropped, Leaving, OffGuess, OffPhase, Sees, Staying, Useless, sees}

-- no NEWKEYS is sent
abbrev IsStill : Units → Type 0
IsStill answers = switched_out answers ≡ false

still_none : IsStill []
unfolding switched_out
still_none = refl

still_told : (reason : Option ℕ) → IsStill (disconnect_by reason)
unfolding switched_out written_message
still_told None = refl
still_told (Some reason) = refl

pub still_fails : (f : Fault) → IsStill (fails f).answers
still_fails f = still_told (reason_of f)

pub init_kind : (form : ShareForm) (share : List ℕ) → message_number (written_message (init_in form share)) ≡ 30
unfolding written_message
init_kind Mpint share = refl
init_kind OctetString share = refl
init_kind Hybrid share = refl

still_one : (payload : List ℕ) → message_number payload ≡ 30 → IsStill (payload ∷ [])
unfolding switched_out
still_one payload is = rw is refl

still_cond : (b : Bool) (x y : Reply) → IsStill x.answers → IsStill y.answers → IsStill (cond b x y).answers
still_cond true x y p q = p
still_cond false x y p q = q

still_units : (b : Bool) (x y : Units) → IsStill x → IsStill y → IsStill (cond b x y)
still_units true x y p q = p
still_units false x y p q = q

module _ (m : SuiteData) (config : ConfigData) where
  still_init : (kex : List ℕ) → IsStill (init_for m config kex ∷ [])
  still_init kex = still_one (init_for m config kex) (init_kind (m.share_form kex) (m.share kex config.random))

  still_opening : (role : Side) (peer : KexInitData) (kex : List ℕ) → IsStill (opening m role config peer kex)
  still_opening Server peer kex = still_none
  still_opening Client peer kex =
      still_units (config.offer.first_kex_packet_follows && is_right_guess config.offer peer) [] (init_for m config kex ∷ []) still_none (still_init kex)

  still_chosen : (role : Side) (peer : KexInitData) (r : Result AlgorithmsData NoCommon) → IsStill (chosen_reply m role config peer r).answers
  still_chosen role peer (Ok a) = still_opening role peer a.kex
  still_chosen role peer (Err f) = still_fails (fault.NoCommon f)

  still_kexinit : (role : Side) (known : Known) (peer : KexInitData) → IsStill (kexinit_reply m role config known peer).answers
  unfolding kexinit_reply
  still_kexinit role known peer =
      still_cond (strict_towards role config.strict (Some peer) && not known.first) (fails (fault.Strict 20)) (chosen_reply m role config peer (choice_with m role config.offer (Some peer)))
      (still_fails (fault.Strict 20)) (still_chosen role peer (choice_with m role config.offer (Some peer)))

  still_guess : (role : Side) → IsStill (guess_of m role config)
  still_guess Server = still_none
  still_guess Client = still_units config.offer.first_kex_packet_follows (init_for m config (guessed_method config) ∷ []) [] (still_init (guessed_method config)) still_none

still_banner : (banner : Option (List ℕ)) → IsStill (written_message (ServiceAccept userauth) ∷ banner_by banner)
unfolding switched_out written_message
still_banner None = refl
still_banner (Some text) = refl

still_service : (config : ConfigData) (service : List ℕ) → IsStill (service_reply config service).answers
still_service config service =
    still_cond (bytes_eq service userauth) (goes (written_message (ServiceAccept userauth) ∷ banner_by config.banner)) (fails fault.Service) (still_banner config.banner) (still_fails fault.Service)

-- requests and their answers
still_attempt : (m : SuiteData) (d : DecisionsData) (session : List ℕ) (left : List AttemptData) → IsStill (attempt_reply m d session left).answers
unfolding switched_out written_message
still_attempt m d session [] = still_fails fault.NoMoreMethods
still_attempt m d session (a ∷ later) = refl

still_accept : (m : SuiteData) (d : DecisionsData) (known : Known) (service : List ℕ) → IsStill (accept_reply m d known service).answers
still_accept m d known service =
    still_cond (bytes_eq service userauth) (attempt_reply m d known.session known.left) (fails (fault.Unexpected 6)) (still_attempt m d known.session known.left) (still_fails (fault.Unexpected 6))

still_success : (known : Known) (left : List AttemptData) → IsStill (success_by known left).answers
still_success known [] = still_fails (fault.Unexpected 52)
still_success known (a ∷ later) = still_none

-- the answer to a request
still_refusal : (m : SuiteData) (d : DecisionsData) (config : ConfigData) (known : Known) (user service : List ℕ) (x : MessageData) → IsRefusal m d config known user service x → IsStill (written_message x ∷ [])
unfolding switched_out written_message
still_refusal m d config known user service x (Refused partial is) = rw is refl
still_refusal m d config known user service x (Confirmed algorithm key would is) = rw is refl

still_accepted : IsStill (written_message UserauthSuccess ∷ [])
unfolding switched_out written_message
still_accepted = refl

still_request : (m : SuiteData) (d : DecisionsData) (config : ConfigData) (known : Known) (user service : List ℕ) (method : MethodData) → IsStill (request_reply m d config known user service method).answers
still_request m d config known user service method = by (answered m d config known user service method)
  where
    by : IsAnswered m d config known user service method (request_reply m d config known user service method) → IsStill (request_reply m d config known user service method).answers
    by (Elsewhere has is) = subst (λ (r : Reply). IsStill r.answers) (sym is) (still_fails fault.Service)
    by (Succeeds has successful done is) = subst (λ (r : Reply). IsStill r.answers) (sym is) still_accepted
    by (Last last is) = subst (λ (r : Reply). IsStill r.answers) (sym is) (still_fails fault.TooManyTries)
    by (More x refusal more is) = subst (λ (r : Reply). IsStill r.answers) (sym is) (still_refusal m d config known user service x refusal)

still_confirmed : (m : SuiteData) (d : DecisionsData) (known : Known) (algorithm key : List ℕ) → IsStill (pk_ok_reply m d known algorithm key).answers
still_confirmed m d known algorithm key =
    still_cond (answers_query m algorithm key known.left) (attempt_reply m d known.session (confirmed known.left)) (fails (fault.Unexpected 60))
    (still_attempt m d known.session (confirmed known.left)) (still_fails (fault.Unexpected 60))

-- at this place the exchange message comes
pub record IsExchangePlace (role : Side) (config : ConfigData) (before : Units) (payload : List ℕ) (p : Phase) : Type 0 where
  pub at : p ≡ phase.Exchange
  pub none_due : expects_guess role config.offer before ≡ false
  pub leaves : message_number payload ≡ leaving role phase.Exchange

-- the same of what is kept
pub record IsExchange (role : Side) (payload : List ℕ) (p : Phase) (guess : Bool) : Type 0 where
  pub at : p ≡ phase.Exchange
  pub none_due : guess ≡ false
  pub leaves : message_number payload ≡ leaving role phase.Exchange

module _ (below : Below) (setup : Setup) where
  -- a message that isn't an exchange message is answered without one
  still_work : (known : Known) (c : MessageData) → number_of c ≢ 30 → number_of c ≢ 31 → IsStill (worked setup known c).answers
  unfolding worked
  still_work known (KexInit peer) a b = still_kexinit setup.suite setup.config setup.role known peer
  still_work known (KexdhInit e) a b = absurd (a refl)
  still_work known (KexEcdhInit share) a b = absurd (a refl)
  still_work known (KexdhReply key f signature) a b = absurd (b refl)
  still_work known (KexEcdhReply key share signature) a b = absurd (b refl)
  still_work known (ServiceRequest service) a b = still_service setup.config service
  still_work known (ServiceAccept service) a b = still_accept setup.suite setup.decisions known service
  still_work known (UserauthRequest user service method) a b = still_request setup.suite setup.decisions setup.config known user service method
  still_work known (UserauthFailure listed partial) a b = still_attempt setup.suite setup.decisions known.session (next_after listed known.left)
  still_work known UserauthSuccess a b = still_success known known.left
  still_work known (UserauthPkOk algorithm key) a b = still_confirmed setup.suite setup.decisions known algorithm key
  still_work known _ a b = still_none

  still_read : (known : Known) (packet : ℕ) (payload : List ℕ) → message_number payload ≢ 30 → message_number payload ≢ 31 → IsStill (disposition_reply setup known packet disposition.Reads payload).answers
  unfolding disposition_reply
  still_read known packet payload a b =
      by_allowance (λ (r : Reply). IsStill r.answers) known payload (read_reply setup known (message_number payload) (message_in known.shares payload)) (still_fails fault.TooMuchIgnored) (by (message_in known.shares payload) refl)
    where
      by : (r : Result MessageData MsgFault) → message_in known.shares payload ≡ r → IsStill (read_reply setup known (message_number payload) r).answers
      by (Ok c) e = let is = below.numbers known.shares payload c e in subst (λ (x : Reply). IsStill x.answers) (sym (work_is setup known c)) (still_work known c (λ q. a (is ∙ q)) (λ q. b (is ∙ q)))
      by (Err f) e = still_fails (fault.Malformed (message_number payload))

  still_unknown : (known : Known) (packet : ℕ) (payload : List ℕ) → IsStill (disposition_reply setup known packet disposition.Unknown payload).answers
  unfolding disposition_reply switched_out written_message
  still_unknown known packet payload = by_allowance (λ (r : Reply). IsStill r.answers) known payload (goes (written_message (Unimplemented packet) ∷ [])) (still_fails fault.TooMuchIgnored) refl

  -- a number that leaves a phase and is an exchange message's leaves phase exchange
  from_exchange : (r : Side) (p : Phase) (n : ℕ) → n ≡ leaving r p → (n ≡ 30) ⊎ (n ≡ 31) → p ≡ phase.Exchange
  from_exchange r phase.Exchange n here two = refl
  from_exchange r phase.KexInit n here two = absurd (by r here two)
    where
      by : (r : Side) → n ≡ leaving r phase.KexInit → (n ≡ 30) ⊎ (n ≡ 31) → ⊥
      by Client h (inl e) = absurd (omega arith)
      by Client h (inr e) = absurd (omega arith)
      by Server h (inl e) = absurd (omega arith)
      by Server h (inr e) = absurd (omega arith)
  from_exchange r phase.NewKeys n here two = absurd (by r here two)
    where
      by : (r : Side) → n ≡ leaving r phase.NewKeys → (n ≡ 30) ⊎ (n ≡ 31) → ⊥
      by Client h (inl e) = absurd (omega arith)
      by Client h (inr e) = absurd (omega arith)
      by Server h (inl e) = absurd (omega arith)
      by Server h (inr e) = absurd (omega arith)
  from_exchange r phase.Service n here two = absurd (by r here two)
    where
      by : (r : Side) → n ≡ leaving r phase.Service → (n ≡ 30) ⊎ (n ≡ 31) → ⊥
      by Client h (inl e) = absurd (omega arith)
      by Client h (inr e) = absurd (omega arith)
      by Server h (inl e) = absurd (omega arith)
      by Server h (inr e) = absurd (omega arith)
  from_exchange r phase.Auth n here two = absurd (by r here two)
    where
      by : (r : Side) → n ≡ leaving r phase.Auth → (n ≡ 30) ⊎ (n ≡ 31) → ⊥
      by Client h (inl e) = absurd (omega arith)
      by Client h (inr e) = absurd (omega arith)
      by Server h (inl e) = absurd (omega arith)
      by Server h (inr e) = absurd (omega arith)

  -- the line of a message that is answered with NEWKEYS is the exchange message's
  pub exchange_disposition : (known : Known) (packet : ℕ) (payload : List ℕ) (p : Phase) (strict guess : Bool) (l : Disposition) → Sees setup.role p strict guess (message_number payload) l
      → switched_out (disposition_reply setup known packet l payload).answers ≡ true → IsExchange setup.role payload p guess
  unfolding disposition_reply
  exchange_disposition known packet payload p strict guess l (Closing one is) on = absurd (true≢false (sym (rw is at on) ∙ still_read known packet payload (λ q. omega arith) (λ q. omega arith)))
  exchange_disposition known packet payload p strict guess l (Dropped one due r is) on = absurd (true≢false (sym (rw is at on) ∙ still_none))
  exchange_disposition known packet payload p strict guess l (OffGuess one due r out is) on = absurd (true≢false (sym (rw is at on) ∙ still_fails (fault.Strict (message_number payload))))
  exchange_disposition known packet payload p strict guess l (OffPhase one none r out is) on = absurd (true≢false (sym (rw is at on) ∙ still_fails (fault.Strict (message_number payload))))
  exchange_disposition known packet payload p strict guess l (Useless none off out is) on = absurd (true≢false (sym (rw is at on) ∙ still_fails (fault.Unexpected (message_number payload))))
  exchange_disposition known packet payload p strict guess disposition.Reads (Staying none off out calm e) on = absurd (true≢false (sym on ∙ still_read known packet payload calm.init calm.reply))
  exchange_disposition known packet payload p strict guess disposition.Drops (Staying none off out calm e) on = absurd (e refl)
  exchange_disposition known packet payload p strict guess disposition.Deviates (Staying none off out calm e) on = absurd (true≢false (sym on ∙ still_fails (fault.Strict (message_number payload))))
  exchange_disposition known packet payload p strict guess disposition.Unknown (Staying none off out calm e) on = absurd (true≢false (sym on ∙ still_unknown known packet payload))
  exchange_disposition known packet payload p strict guess disposition.Unexpected (Staying none off out calm e) on = absurd (true≢false (sym on ∙ still_fails (fault.Unexpected (message_number payload))))
  exchange_disposition known packet payload p strict guess l (Leaving none here is) on = elim (cases_Bool (message_number payload == 30)) [
    | inl a ↦ exchanged (inl (eqb-true (message_number payload) 30 a))
    | inr a ↦ elim (cases_Bool (message_number payload == 31)) [
      | inl b ↦ exchanged (inr (eqb-true (message_number payload) 31 b))
      | inr b ↦ absurd (true≢false (sym (rw is at on) ∙ still_read known packet payload (λ q. true≢false (sym (eq-eqb (message_number payload) 30 q) ∙ a)) (λ q. true≢false (sym (eq-eqb (message_number payload) 31 q) ∙ b))))
    ]
  ]
    where
      exchanged : (message_number payload ≡ 30) ⊎ (message_number payload ≡ 31) → IsExchange setup.role payload p guess
      exchanged two =
          let q : p ≡ phase.Exchange = from_exchange setup.role p (message_number payload) here two in
          record { at = q; none_due = none; leaves = here ∙ ap (leaving setup.role) q }

  module _ (version : List ℕ) (before : Units) (payload : List ℕ) where
    ready_after : (p : Phase) → Tied setup.role setup.config.offer before p → expects_guess setup.role setup.config.offer before ≡ false → p ≡ phase.Exchange → message_number payload ≡ leaving setup.role phase.Exchange
        → IsReady setup.role setup.config (before ++ payload ∷ [])
    ready_after phase.Exchange t none e is =
        let begun : offered before ≡ true = t.offer in
        let off : stood setup.role setup.config.offer (leaving setup.role phase.Exchange) before ≡ false = t.exchange in
        let here : kept setup.role setup.config.offer (leaving setup.role phase.Exchange) before payload ≡ true =
        kept_free setup.role setup.config.offer before payload (leaving setup.role phase.Exchange) none ∙ eq-eqb (message_number payload) (leaving setup.role phase.Exchange) is in
        record {
          offer = offered_push before payload ∙ rw begun refl;
          exchange = stood_push setup.role setup.config.offer before payload (leaving setup.role phase.Exchange) ∙ rw (off, here) refl;
        }
    ready_after phase.KexInit t none e is = absurd cc
    ready_after phase.NewKeys t none e is = absurd cc
    ready_after phase.Service t none e is = absurd cc
    ready_after phase.Auth t none e is = absurd cc

    by_disposition : (known : Known) (packet : ℕ) (p : Phase) → Tied setup.role setup.config.offer before p → (l : Disposition)
        → Sees setup.role p (strict_at setup.role setup.config before) (expects_guess setup.role setup.config.offer before) (message_number payload) l
        → switched_out (disposition_reply setup known packet l payload).answers ≡ true → IsExchangePlace setup.role setup.config before payload p
    by_disposition known packet p t l s on =
        let e = exchange_disposition known packet payload p (strict_at setup.role setup.config before) (expects_guess setup.role setup.config.offer before) l s on in
        record { at = e.at; none_due = e.none_due; leaves = e.leaves }

    -- NEWKEYS is answered at the exchange message alone
    pub told_at : (p : Phase) → Tied setup.role setup.config.offer before p → switched_out (answers_at setup (version ∷ before) payload) ≡ true → IsExchangePlace setup.role setup.config before payload p
    told_at p t on =
        by_disposition (known_at setup version before) (number_in setup.role setup.config before) p t
        (disposition_by setup.role p (strict_at setup.role setup.config before) (expects_guess setup.role setup.config.offer before) (waits_at setup.role setup.config before) (message_number payload))
        (sees setup.role p (strict_at setup.role setup.config before) (waits_at setup.role setup.config before) (message_number payload) (expects_guess setup.role setup.config.offer before))
        (ap (λ (l : Disposition). switched_out (disposition_reply setup (known_at setup version before) (number_in setup.role setup.config before) l payload).answers)
        (disposition_is below setup version before payload p t) ∙ on)

    pub keyed : (p : Phase) → Tied setup.role setup.config.offer before p → switched_out (answers_at setup (version ∷ before) payload) ≡ true → IsReady setup.role setup.config (before ++ payload ∷ [])
    keyed p t on =
        let e = told_at p t on in
        ready_after p t e.none_due e.at e.leaves

pub still_making : (m : SuiteData) (role : Side) (config : ConfigData) → IsStill (making m role config)
unfolding switched_out written_message
still_making m role config = newkeys_anywhere (own_kexinit config ∷ []) [] (guess_of m role config) ∙ still_guess m config role
