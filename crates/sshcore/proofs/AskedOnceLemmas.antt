-- What payloads ask, and that it is asked once.

use Rattle.std.proofs.Common.{◌≡◌, ℕ, ◌+◌, ◌-◌, ◌<◌, ◌≤◌, ◌==◌, Bool, true, false, cond, List, [], ◌∷◌, ◌++◌, Option, None, Some, Result, Ok, refl, sym, ap, ◌∙◌, subst, append_assoc, arith}
use Rattle.std.specs.Prelude.{length}
use Rattle.std.specs.List.{AllByRecursion}
use Rattle.std.specs.Str.{bytes_eq}
use Rattle.std.proofs.lemmas.Bool.{and_parts, eq-eqb, true≢false}
use Rattle.std.proofs.lemmas.List.{append-nil}
use Rattle.sshwire.specs.declared.share_form.ShareForm.{ShareForm}
use Rattle.sshwire.specs.declared.share_form.ShareForm.TheVariants.{Mpint}
use Rattle.sshmsg.proofs.NumberLemmas.{reads_alike}
use Rattle.sshmsg.specs.declared.fault.MsgFault.{MsgFault}
use Rattle.sshmsg.specs.MessageData.{KexEcdhInit, KexEcdhReply, KexInitData, KexdhInit, KexdhReply, MessageData, MethodData, NoMethod, OtherMethod, Password, PasswordChange, PublicKey, PublicKeyQuery, ServiceAccept, UserauthFailure, UserauthPkOk, UserauthRequest, UserauthSuccess}
use Rattle.sshmsg.specs.Messages.{message_in}
use Rattle.sshmsg.specs.Numbers.{message_number, number_of}
use Rattle.sshneg.specs.declared.side.Side.{Side}
use Rattle.sshneg.specs.declared.side.Side.TheVariants.{Client, Server}
use Rattle.sshneg.specs.ChoiceReadings.{is_in}
use Rattle.sshneg.specs.ExchangeEnd.{exchange_by}
use Rattle.sshpacket.specs.Places.{EachPlace, flat_places}
use Rattle.sshpacket.specs.Stream.{Units}
use Rattle.sshpacket.specs.Suite.{SuiteData}
use Rattle.sshpacket.proofs.Places.{flat-push, flat-same}
use Rattle.sshcore.specs.declared.phase_table.Disposition.{Disposition}
use Rattle.sshcore.specs.declared.phase_table.Disposition.TheVariants as disposition
use Rattle.sshcore.specs.declared.phase_table.Phase.TheVariants as phase
use Rattle.sshcore.specs.AskedQuestions.{ComesLater, IsAskedOnce, asked, question_after, questions_at}
use Rattle.sshcore.specs.declared.end.Fault.TheVariants as fault
use Rattle.sshcore.specs.Attempts.{answers_query, attempt_step, is_asked, pk_ok_step}
use Rattle.sshcore.specs.Before.{count_kept, expects_guess, kept, stood, strict_at}
use Rattle.sshcore.specs.ConfigParts.{AttemptData, ByKey, ByNothing, ByPassword, CredentialData}
use Rattle.sshcore.specs.EndpointParts.{ConfigData, DecisionsData, KeyProof, ProofData, Setup, setup_with}
use Rattle.sshcore.specs.Exchange.{answer_with, exchange_with, host_key_by}
use Rattle.sshcore.specs.KnownBefore.{Known, known_at, left_at, waits_at}
use Rattle.sshcore.specs.Phases.{leaving, phase_at, phase_by}
use Rattle.sshcore.specs.Plan.{asks, confirmed, is_waiting, left_after_one, listed_by, listed_in, next_after, next_listed, unasked}
use Rattle.sshcore.specs.QuestionAt.{disposition_question, message_question, question_at}
use Rattle.sshcore.specs.Questions.{HostKeyQuestion, QuestionData, SignatureQuestion, UserQuestion, is_yes}
use Rattle.sshcore.specs.CompletedMethods.{CompletedMethodsData}
use Rattle.sshcore.specs.Replies.{disposition_at}
use Rattle.sshcore.specs.Requests.{claim_step, is_last_try, is_signed, may_do, method_step, query_reply, query_step, request_step}
use Rattle.sshcore.specs.Standing.{Sits}
use Rattle.sshcore.specs.StateData.{StateData}
use Rattle.sshcore.specs.Table.{disposition_by}
use Rattle.sshcore.specs.Step.{AtOnce, Asks as AsksFirst, asked_in}
use Rattle.sshcore.specs.Tries.{proof_in}
use Rattle.sshcore.specs.EndData.{fails}
use Rattle.sshcore.specs.Work.{accept_step, init_step, reply_step, step, userauth}
use Rattle.sshcore.proofs.AnsweredLemmas.{Rises, asked_once}
use Rattle.sshcore.proofs.PhaseLemmas.{kept_free, stood_push, tied_phase}
use Rattle.sshcore.proofs.PlanLemmas.{count_push, is_answered, kept_kind, left_answered, left_more, left_stays, unanswered_from}
use Rattle.sshcore.proofs.ReadsLemmas.{IsAt, Reads, accept_read, confirmation_read, failure_read, init_read, reads, reply_read, user_request_read}
use Rattle.sshcore.proofs.SignatureLemmas.{IsOfAttempt, IsOfExchange, attempt_asks, exchange_asks, listed_fewer}

-- a payload begins with the number of its message
abbrev pub Numbered : Type 0
Numbered = (form : ShareForm) (payload : List ℕ) (c : MessageData) → message_in form payload ≡ Ok c → message_number payload ≡ number_of c

-- the question is on a request, and has this number
abbrev IsNumbered : ℕ → QuestionData → Type 0
IsNumbered n (HostKeyQuestion algorithm blob) = ⊥
IsNumbered n (UserQuestion number user service proof signed) = number ≡ n
IsNumbered n (SignatureQuestion number algorithm blob input) = ⊥

-- It is asked by a message of its number: a host key by 31, the next request by 50, the signature of an exchange by 30, and that of an
-- attempt by 6, 51 or 60, which make it.
data IsAsked (known : Known) (payload : List ℕ) (q : QuestionData) : Type 0 where
  ByReply : message_number payload ≡ 31 → (algorithm blob : List ℕ) → q ≡ HostKeyQuestion algorithm blob → IsAsked known payload q
  ByRequest : message_number payload ≡ 50 → IsNumbered known.request q → IsAsked known payload q
  ByInit : message_number payload ≡ 30 → IsOfExchange q → IsAsked known payload q
  ByAccept : message_number payload ≡ 6 → IsOfAttempt known.left q → IsAsked known payload q
  ByFailure : message_number payload ≡ 51 → IsOfAttempt (next_after (listed_in payload) known.left) q → IsAsked known payload q
  ByConfirmation : message_number payload ≡ 60 → is_waiting known.left ≡ true → IsOfAttempt (confirmed known.left) q → IsAsked known payload q

-- a request
numbered : (number : ℕ) (user service : List ℕ) (proof : ProofData) (signed : Bool) (q : QuestionData) → Some (UserQuestion number user service proof signed) ≡ Some q → IsNumbered number q
numbered number user service proof signed q e = let same : UserQuestion number user service proof signed ≡ q = cc in subst (IsNumbered number) same refl

claim_asks : (config : ConfigData) (known : Known) (user service : List ℕ) (method : MethodData) (proof : Option ProofData) (q : QuestionData)
    → asked_in (claim_step config known user service method proof) ≡ Some q → IsNumbered known.request q
claim_asks config known user service method None q e = absurd cc
claim_asks config known user service method (Some proof) q e = numbered known.request user service proof (is_signed method) q e

module _ (m : SuiteData) (role : Side) (config : ConfigData) where
  query_asks : (known : Known) (user service algorithm key : List ℕ) (q : QuestionData) → asked_in (query_step m config known user service algorithm key) ≡ Some q → IsNumbered known.request q
  query_asks known user service algorithm key q e = by_last (is_last_try config known) e
    where
      by_key : (b : Bool) → asked_in (cond b (AsksFirst (UserQuestion known.request user service (KeyProof algorithm key) false) (λ answer. query_reply config algorithm key (is_yes answer))) (AtOnce (query_reply config algorithm key false))) ≡ Some q
          → IsNumbered known.request q
      by_key true is = numbered known.request user service (KeyProof algorithm key) false q is
      by_key false is = absurd cc

      by_last : (b : Bool) → asked_in (cond b (AtOnce (fails fault.TooManyTries)) (cond (may_do m config algorithm key)
          (AsksFirst (UserQuestion known.request user service (KeyProof algorithm key) false) (λ answer. query_reply config algorithm key (is_yes answer))) (AtOnce (query_reply config algorithm key false)))) ≡ Some q → IsNumbered known.request q
      by_last true is = absurd cc
      by_last false is = by_key (may_do m config algorithm key) is

  method_asks : (known : Known) (user service : List ℕ) (method : MethodData) (q : QuestionData) → asked_in (method_step m config known user service method) ≡ Some q → IsNumbered known.request q
  method_asks known user service (PublicKeyQuery algorithm key) q e = query_asks known user service algorithm key q e
  method_asks known user service method q e = claim_asks config known user service method (proof_in m config known.session user service method) q e

  request_asks : (known : Known) (user service : List ℕ) (method : MethodData) (q : QuestionData) → asked_in (request_step m config known user service method) ≡ Some q → IsNumbered known.request q
  unfolding request_step
  request_asks known user service method q e = by (is_in config.services service) e
    where
      by : (b : Bool) → asked_in (cond b (method_step m config known user service method) (AtOnce (fails fault.Service))) ≡ Some q → IsNumbered known.request q
      by true is = method_asks known user service method q is
      by false is = absurd cc

  -- a share
  share_asks : (known : Known) (c : MessageData) (q : QuestionData) → asked_in (init_step m role config known c) ≡ Some q → IsOfExchange q
  unfolding init_step
  share_asks known c q e =
      exchange_asks m config known (exchange_with m role config known.algorithms known.version known.kexinit (Ok c)) (answer_with m role config known.algorithms (Ok c)) q e

  -- where the service is accepted, and where the query was about the key
  accepted_asks : (known : Known) (service : List ℕ) (q : QuestionData) → asked_in (accept_step m known service) ≡ Some q → IsOfAttempt known.left q
  accepted_asks known service q e = by (bytes_eq service userauth) e
    where
      by : (b : Bool) → asked_in (cond b (attempt_step m known.session known.left) (AtOnce (fails (fault.Unexpected 6)))) ≡ Some q → IsOfAttempt known.left q
      by true is = attempt_asks m known.session known.left q is
      by false is = absurd cc

  asked_waits : (algorithm key : List ℕ) (left : List AttemptData) → answers_query m algorithm key left ≡ true → is_waiting left ≡ true
  asked_waits algorithm key [] e = absurd cc
  asked_waits algorithm key (a ∷ later) e = by a.proving e
    where
      by : (c : CredentialData) → is_asked m c algorithm key ≡ true → asks c ≡ true
      by ByNothing is = absurd cc
      by (ByPassword password) is = absurd cc
      by (ByKey own secret ask) is = (and_parts _ _ is).0

  confirmed_asks : (known : Known) (algorithm key : List ℕ) (q : QuestionData) → asked_in (pk_ok_step m known algorithm key) ≡ Some q
      → (is_waiting known.left ≡ true) × IsOfAttempt (confirmed known.left) q
  confirmed_asks known algorithm key q e = by (answers_query m algorithm key known.left) refl e
    where
      by : (b : Bool) → answers_query m algorithm key known.left ≡ b → asked_in (cond b (attempt_step m known.session (confirmed known.left)) (AtOnce (fails (fault.Unexpected 60)))) ≡ Some q
          → (is_waiting known.left ≡ true) × IsOfAttempt (confirmed known.left) q
      by true on is = (asked_waits algorithm key known.left on, attempt_asks m known.session (confirmed known.left) q is)
      by false on is = absurd cc

  module _ (numbers : Numbered) (known : Known) (payload : List ℕ) where
    -- the methods that a FAILURE lists are those that it is read with
    lists : (listed : List (List ℕ)) (partial : Bool) → message_in known.shares payload ≡ Ok (UserauthFailure listed partial) → message_number payload ≡ 51 → listed_in payload ≡ listed
    unfolding listed_in
    lists listed partial e is = ap listed_by (reads_alike Mpint known.shares payload (λ q. omega (arith, q, is)) (λ q. omega (arith, q, is)) ∙ e)

    failure_asks : (listed : List (List ℕ)) (partial : Bool) (q : QuestionData) → message_in known.shares payload ≡ Ok (UserauthFailure listed partial)
        → asked_in (attempt_step m known.session (next_after listed known.left)) ≡ Some q → IsAsked known payload q
    failure_asks listed partial q e is =
        let number : message_number payload ≡ 51 = numbers known.shares payload (UserauthFailure listed partial) e in
        ByFailure number (subst (λ (l : List (List ℕ)). IsOfAttempt (next_after l known.left) q) (sym (lists listed partial e number)) (attempt_asks m known.session (next_after listed known.left) q is))

    message_asks : (r : Result MessageData MsgFault) (q : QuestionData) → message_in known.shares payload ≡ r → message_question m role config known r ≡ Some q → IsAsked known payload q
    unfolding step reply_step exchange_with exchange_by
    message_asks (Ok (KexdhReply key f signature)) q e is =
        ByReply (numbers known.shares payload (KexdhReply key f signature) e) known.algorithms.host_key (host_key_by m role config known.algorithms.host_key (Ok (KexdhReply key f signature))) cc
    message_asks (Ok (KexEcdhReply key share signature)) q e is =
        ByReply (numbers known.shares payload (KexEcdhReply key share signature) e) known.algorithms.host_key (host_key_by m role config known.algorithms.host_key (Ok (KexEcdhReply key share signature))) cc
    message_asks (Ok (KexdhInit share)) q e is = ByInit (numbers known.shares payload (KexdhInit share) e) (share_asks known (KexdhInit share) q is)
    message_asks (Ok (KexEcdhInit share)) q e is = ByInit (numbers known.shares payload (KexEcdhInit share) e) (share_asks known (KexEcdhInit share) q is)
    message_asks (Ok (ServiceAccept service)) q e is = ByAccept (numbers known.shares payload (ServiceAccept service) e) (accepted_asks known service q is)
    message_asks (Ok (UserauthRequest user service method)) q e is =
        ByRequest (numbers known.shares payload (UserauthRequest user service method) e) (request_asks known user service method q is)
    message_asks (Ok (UserauthFailure listed partial)) q e is = failure_asks listed partial q e is
    message_asks (Ok (UserauthPkOk algorithm key)) q e is =
        let two = confirmed_asks known algorithm key q is in
        ByConfirmation (numbers known.shares payload (UserauthPkOk algorithm key) e) two.0 two.1
    message_asks _ q e is = absurd cc

    -- only what is read asks
    disposition_asks : (l : Disposition) (q : QuestionData) → disposition_question m role config known l payload ≡ Some q → (l ≡ disposition.Reads) × IsAsked known payload q
    unfolding disposition_question
    disposition_asks disposition.Reads q e = (refl, message_asks (message_in known.shares payload) q refl e)
    disposition_asks _ q e = absurd cc

exchange_due : (a b c d : Bool) → phase_by a b c d ≡ phase.Exchange → b ≡ false
exchange_due a false c d e = refl
exchange_due false true c d e = absurd cc
exchange_due true true false d e = absurd cc
exchange_due true true true false e = absurd cc
exchange_due true true true true e = absurd cc

service_due : (a b c d : Bool) → phase_by a b c d ≡ phase.Service → d ≡ false
service_due a b c false e = refl
service_due false b c true e = absurd cc
service_due true false c true e = absurd cc
service_due true true false true e = absurd cc
service_due true true true true e = absurd cc

auth_due : (a b c d : Bool) → phase_by a b c d ≡ phase.Auth → d ≡ true
auth_due a b c true e = refl
auth_due false b c false e = absurd cc
auth_due true false c false e = absurd cc
auth_due true true false false e = absurd cc
auth_due true true true false e = absurd cc

leaving_reply : (role : Side) → role ≡ Client → leaving role phase.Exchange ≡ 31
leaving_reply role e = ap (λ (r : Side). leaving r phase.Exchange) e

leaving_init : (role : Side) → role ≡ Server → leaving role phase.Exchange ≡ 30
leaving_init role e = ap (λ (r : Side). leaving r phase.Exchange) e

leaving_accept : (role : Side) → role ≡ Client → leaving role phase.Service ≡ 6
leaving_accept role e = ap (λ (r : Side). leaving r phase.Service) e

-- How many attempts may still ask for their signatures: before the first is made those that are left, then those after it, and it too
-- while its query waits for an answer.
abbrev still_asked : Bool → List AttemptData → ℕ
still_asked false left = length left
still_asked true left = cond (is_waiting left) (length left) (length left - 1)

still_most : (made : Bool) (left : List AttemptData) → still_asked made left ≤ length left
still_most false left = omega arith
still_most true left = by (is_waiting left)
  where
    by : (b : Bool) → cond b (length left) (length left - 1) ≤ length left
    by true = omega arith
    by false = omega arith

still_least : (made : Bool) (left : List AttemptData) → length left - 1 ≤ still_asked made left
still_least false left = omega arith
still_least true left = by (is_waiting left)
  where
    by : (b : Bool) → length left - 1 ≤ cond b (length left) (length left - 1)
    by true = omega arith
    by false = omega arith

waits_no_more : (left : List AttemptData) → is_waiting (confirmed left) ≡ false
waits_no_more [] = refl
waits_no_more (a ∷ later) = by a.proving
  where
    by : (c : CredentialData) → asks (unasked c) ≡ false
    by ByNothing = refl
    by (ByPassword password) = refl
    by (ByKey algorithm secret ask) = refl

length_confirmed : (left : List AttemptData) → length (confirmed left) ≡ length left
length_confirmed [] = refl
length_confirmed (a ∷ later) = refl

after_fewer : (listed : List (List ℕ)) (left : List AttemptData) → length (next_after listed left) ≤ length left - 1
unfolding next_listed
after_fewer listed [] = omega arith
after_fewer listed (a ∷ later) = let fewer : length (next_listed listed later) ≤ length later = listed_fewer listed later in omega (arith, fewer)

-- with one payload more they aren't more
module _ (left : List AttemptData) where
  still_same : (made now : Bool) → (made ≡ true → now ≡ true) → still_asked now left ≤ still_asked made left
  still_same false now on = still_most now left
  still_same true true on = omega arith
  still_same true false on = absurd (true≢false (sym (on refl)))

  still_confirmed : (made now : Bool) → (made ≡ true → now ≡ true) → still_asked now (confirmed left) ≤ still_asked made left
  still_confirmed false now on = let most = still_most now (confirmed left) in let same = length_confirmed left in omega (arith, most, same)
  still_confirmed true true on =
      let same = length_confirmed left in let least : length left - 1 ≤ still_asked true left = still_least true left in
      let here : still_asked true (confirmed left) ≡ length (confirmed left) - 1 = rw (waits_no_more left) refl in
      omega (arith, same, least, here)
  still_confirmed true false on = absurd (true≢false (sym (on refl)))

  still_falls : (payload : List ℕ) (made now : Bool) → (made ≡ true → now ≡ true) → still_asked now (left_after_one left payload) ≤ still_asked made left
  still_falls payload made now on = by (message_number payload == 60)
    where
      by : (b : Bool) → still_asked now (cond b (confirmed left) (next_after (listed_in payload) left)) ≤ still_asked made left
      by true = still_confirmed made now on
      by false =
          let most : still_asked now (next_after (listed_in payload) left) ≤ length (next_after (listed_in payload) left) = still_most now (next_after (listed_in payload) left) in
          let fewer : length (next_after (listed_in payload) left) ≤ length left - 1 = after_fewer (listed_in payload) left in
          let least : length left - 1 ≤ still_asked made left = still_least made left in
          omega (arith, most, fewer, least)

-- After these payloads a signature may be asked for: at a server before the exchange, at a client of attempts that may still ask.
abbrev MaySign : Side → ConfigData → Units → ℕ → Type 0
MaySign Server config before number = stood Server config.offer (leaving Server phase.Exchange) before ≡ false
MaySign Client config before number = number < still_asked (stood Client config.offer (leaving Client phase.Service) before) (left_at Client config before)

-- after these payloads it may be asked: a host key before the exchange, and a request that has a greater number than those that stood
abbrev MayAsk : Side → ConfigData → Units → QuestionData → Type 0
MayAsk role config before (HostKeyQuestion algorithm blob) = stood role config.offer (leaving role phase.Exchange) before ≡ false
MayAsk role config before (UserQuestion number user service proof signed) = count_kept role config.offer 50 before < number
MayAsk role config before (SignatureQuestion number algorithm blob input) = MaySign role config before number

module _ (role : Side) (own : KexInitData) (before : Units) (payload : List ℕ) where
  off_before : stood role own (leaving role phase.Exchange) (before ++ payload ∷ []) ≡ false → stood role own (leaving role phase.Exchange) before ≡ false
  off_before none = by (stood role own (leaving role phase.Exchange) before) refl
    where
      by : (b : Bool) → stood role own (leaving role phase.Exchange) before ≡ b → b ≡ false
      by false e = refl
      by true e = absurd (true≢false (sym (stood_push role own before payload (leaving role phase.Exchange) ∙ rw e refl) ∙ none))

  stood_still : (k : ℕ) → stood role own k before ≡ true → stood role own k (before ++ payload ∷ []) ≡ true
  stood_still k on = stood_push role own before payload k ∙ rw on refl

  stood_now : (k : ℕ) → kept role own k before payload ≡ true → stood role own k (before ++ payload ∷ []) ≡ true
  stood_now k here = stood_push role own before payload k ∙ by (stood role own k before)
    where
      by : (b : Bool) → cond b true (kept role own k before payload) ≡ true
      by true = refl
      by false = here

  count_less : count_kept role own 50 before ≤ count_kept role own 50 (before ++ payload ∷ [])
  count_less = by (kept role own 50 before payload) refl
    where
      by : (b : Bool) → kept role own 50 before payload ≡ b → count_kept role own 50 before ≤ count_kept role own 50 (before ++ payload ∷ [])
      by true e = let same : count_kept role own 50 (before ++ payload ∷ []) ≡ count_kept role own 50 before + 1 = count_push role own before payload 50 ∙ rw e refl in omega (arith, same)
      by false e = let same : count_kept role own 50 (before ++ payload ∷ []) ≡ count_kept role own 50 before = count_push role own before payload 50 ∙ rw e refl in omega (arith, same)

module _ (config : ConfigData) (before : Units) (payload : List ℕ) where
  signs_before : (role : Side) (number : ℕ) → MaySign role config (before ++ payload ∷ []) number → MaySign role config before number
  signs_before Server number may = off_before Server config.offer before payload may
  signs_before Client number may = by (is_answered Client config.offer before payload) refl
    where
      on : stood Client config.offer 6 before ≡ true → stood Client config.offer 6 (before ++ payload ∷ []) ≡ true
      on = stood_still Client config.offer before payload 6

      by : (b : Bool) → is_answered Client config.offer before payload ≡ b
          → number < still_asked (stood Client config.offer 6 before) (left_at Client config before)
      by true e =
          let is : left_at Client config (before ++ payload ∷ []) ≡ left_after_one (left_at Client config before) payload = left_answered Client config before payload e in
          let less : number < still_asked (stood Client config.offer 6 (before ++ payload ∷ [])) (left_after_one (left_at Client config before) payload) =
          subst (λ (l : List AttemptData). number < still_asked (stood Client config.offer 6 (before ++ payload ∷ [])) l) is may in
          let falls = still_falls (left_at Client config before) payload (stood Client config.offer 6 before) (stood Client config.offer 6 (before ++ payload ∷ [])) on in
          omega (arith, less, falls)
      by false e =
          let is : left_at Client config (before ++ payload ∷ []) ≡ left_at Client config before = left_stays Client config before payload e in
          let less : number < still_asked (stood Client config.offer 6 (before ++ payload ∷ [])) (left_at Client config before) =
          subst (λ (l : List AttemptData). number < still_asked (stood Client config.offer 6 (before ++ payload ∷ [])) l) is may in
          let same = still_same (left_at Client config before) (stood Client config.offer 6 before) (stood Client config.offer 6 (before ++ payload ∷ [])) on in
          omega (arith, less, same)

  -- what may be asked after one more might before it
  may_before : (role : Side) (q : QuestionData) → MayAsk role config (before ++ payload ∷ []) q → MayAsk role config before q
  may_before role (HostKeyQuestion algorithm blob) may = off_before role config.offer before payload may
  may_before role (UserQuestion number user service proof signed) may = omega (arith, count_less role config.offer before payload, may)
  may_before role (SignatureQuestion number algorithm blob input) may = signs_before role number may

-- a signature at a server, and at a client
module _ (config : ConfigData) (before : Units) (number : ℕ) where
  server_signs : (role : Side) → role ≡ Server → stood role config.offer (leaving role phase.Exchange) before ≡ false → MaySign role config before number
  server_signs Server is off = off
  server_signs Client is off = absurd cc

  server_signed : (role : Side) → role ≡ Server → MaySign role config before number → stood role config.offer (leaving role phase.Exchange) before ≡ false
  server_signed Server is may = may
  server_signed Client is may = absurd cc

  client_signs : (role : Side) → role ≡ Client → number < still_asked (stood role config.offer (leaving role phase.Service) before) (left_at role config before) → MaySign role config before number
  client_signs Client is less = less
  client_signs Server is less = absurd cc

  client_signed : (role : Side) → role ≡ Client → MaySign role config before number → number < still_asked (stood role config.offer (leaving role phase.Service) before) (left_at role config before)
  client_signed Client is may = may
  client_signed Server is may = absurd cc

module _ (numbers : Numbered) (setup : Setup) (version : List ℕ) where
  module _ (before : Units) (payload : List ℕ) where
    -- a payload that asks leaves what comes later
    abbrev Asks : QuestionData → Type 0
    Asks q = MayAsk setup.role setup.config before q × ((r : QuestionData) → MayAsk setup.role setup.config (before ++ payload ∷ []) r → ComesLater q r)

    place_reads : disposition_at setup.role setup.config before payload ≡ disposition.Reads → Reads setup.role (phase_at setup.role setup.config.offer before) (expects_guess setup.role setup.config.offer before) (message_number payload)
    place_reads e =
        reads setup.role (phase_at setup.role setup.config.offer before) (strict_at setup.role setup.config before) (waits_at setup.role setup.config before) (message_number payload)
        (expects_guess setup.role setup.config.offer before) e

    -- the exchange message, after which none of its kind asks
    exchange_off : phase_at setup.role setup.config.offer before ≡ phase.Exchange → stood setup.role setup.config.offer (leaving setup.role phase.Exchange) before ≡ false
    exchange_off at = exchange_due _ _ _ _ at

    stands_now : (k : ℕ) → expects_guess setup.role setup.config.offer before ≡ false → message_number payload ≡ k → stood setup.role setup.config.offer k (before ++ payload ∷ []) ≡ true
    stands_now k none is = stood_now setup.role setup.config.offer before payload k (kept_free setup.role setup.config.offer before payload k none ∙ eq-eqb (message_number payload) k is)

    host_asks : (algorithm blob : List ℕ) → IsAt setup.role Client (phase_at setup.role setup.config.offer before) phase.Exchange (expects_guess setup.role setup.config.offer before) → message_number payload ≡ 31
        → Asks (HostKeyQuestion algorithm blob)
    host_asks algorithm blob a is = (exchange_off a.phase_is, later)
      where
        on : stood setup.role setup.config.offer (leaving setup.role phase.Exchange) (before ++ payload ∷ []) ≡ true
        on = stands_now (leaving setup.role phase.Exchange) a.none_due (is ∙ sym (leaving_reply setup.role a.side_is))

        later : (r : QuestionData) → MayAsk setup.role setup.config (before ++ payload ∷ []) r → ComesLater (HostKeyQuestion algorithm blob) r
        later (HostKeyQuestion other_algorithm other_blob) may = true≢false (sym on ∙ may)
        later (UserQuestion number user service proof signed) may = tt
        later (SignatureQuestion number other_algorithm other_blob input) may = tt

    init_asks : (q : QuestionData) → IsOfExchange q → IsAt setup.role Server (phase_at setup.role setup.config.offer before) phase.Exchange (expects_guess setup.role setup.config.offer before) → message_number payload ≡ 30
        → Asks q
    init_asks q x a is = subst Asks (sym x.is) (server_signs setup.config before 0 setup.role a.side_is (exchange_off a.phase_is), later)
      where
        on : stood setup.role setup.config.offer (leaving setup.role phase.Exchange) (before ++ payload ∷ []) ≡ true
        on = stands_now (leaving setup.role phase.Exchange) a.none_due (is ∙ sym (leaving_init setup.role a.side_is))

        later : (r : QuestionData) → MayAsk setup.role setup.config (before ++ payload ∷ []) r → ComesLater (SignatureQuestion 0 x.algorithm x.blob x.input) r
        later (HostKeyQuestion other_algorithm other_blob) may = tt
        later (UserQuestion number user service proof signed) may = tt
        later (SignatureQuestion number other_algorithm other_blob input) may =
            absurd (true≢false (sym on ∙ server_signed setup.config (before ++ payload ∷ []) number setup.role a.side_is may))

    -- an attempt that is made at this place, after which so many are left
    attempt_made : (left : List AttemptData) (q : QuestionData) → setup.role ≡ Client → (p : IsOfAttempt left q) → left_at setup.role setup.config (before ++ payload ∷ []) ≡ left
        → stood setup.role setup.config.offer (leaving setup.role phase.Service) (before ++ payload ∷ []) ≡ true
        → p.number < still_asked (stood setup.role setup.config.offer (leaving setup.role phase.Service) before) (left_at setup.role setup.config before) → Asks q
    attempt_made left q side p is on less = subst Asks (sym p.is) (client_signs setup.config before p.number setup.role side less, later)
      where
        bound : still_asked (stood setup.role setup.config.offer (leaving setup.role phase.Service) (before ++ payload ∷ [])) (left_at setup.role setup.config (before ++ payload ∷ [])) ≡ length left - 1
        bound = rw (on, is, p.no_query) refl

        later : (r : QuestionData) → MayAsk setup.role setup.config (before ++ payload ∷ []) r → ComesLater (SignatureQuestion p.number p.algorithm p.blob p.input) r
        later (HostKeyQuestion other_algorithm other_blob) may = tt
        later (UserQuestion number user service proof signed) may = tt
        later (SignatureQuestion number other_algorithm other_blob input) may =
            let lower = client_signed setup.config (before ++ payload ∷ []) number setup.role side may in
            let counts : p.number + 1 ≡ length left = p.counts in
            omega (arith, lower, bound, counts)

    accept_asks : (q : QuestionData) → IsOfAttempt (left_at setup.role setup.config before) q
        → IsAt setup.role Client (phase_at setup.role setup.config.offer before) phase.Service (expects_guess setup.role setup.config.offer before) → message_number payload ≡ 6 → Asks q
    accept_asks q p a is =
        let off : stood setup.role setup.config.offer (leaving setup.role phase.Service) before ≡ false = service_due _ _ _ _ a.phase_is in
        let none : is_answered setup.role setup.config.offer before payload ≡ false =
        unanswered_from setup.role setup.config.offer before payload (kept_kind setup.role setup.config.offer before payload 6 51 (λ e. omega arith) is) (kept_kind setup.role setup.config.offer before payload 6 60 (λ e. omega arith) is) in
        let bound : still_asked (stood setup.role setup.config.offer (leaving setup.role phase.Service) before) (left_at setup.role setup.config before) ≡ length (left_at setup.role setup.config before) = rw off refl in
        let counts : p.number + 1 ≡ length (left_at setup.role setup.config before) = p.counts in
        attempt_made (left_at setup.role setup.config before) q a.side_is p (left_stays setup.role setup.config before payload none)
        (stands_now (leaving setup.role phase.Service) a.none_due (is ∙ sym (leaving_accept setup.role a.side_is))) (omega (arith, bound, counts))

    failed_asks : (q : QuestionData) → IsOfAttempt (next_after (listed_in payload) (left_at setup.role setup.config before)) q
        → IsAt setup.role Client (phase_at setup.role setup.config.offer before) phase.Auth (expects_guess setup.role setup.config.offer before) → message_number payload ≡ 51 → Asks q
    failed_asks q p a is =
        let on : stood setup.role setup.config.offer (leaving setup.role phase.Service) before ≡ true = auth_due _ _ _ _ a.phase_is in
        let least : length (left_at setup.role setup.config before) - 1 ≤ still_asked (stood setup.role setup.config.offer (leaving setup.role phase.Service) before) (left_at setup.role setup.config before) = still_least _ _ in
        let fewer : length (next_after (listed_in payload) (left_at setup.role setup.config before)) ≤ length (left_at setup.role setup.config before) - 1 = after_fewer (listed_in payload) (left_at setup.role setup.config before) in
        let counts : p.number + 1 ≡ length (next_after (listed_in payload) (left_at setup.role setup.config before)) = p.counts in
        attempt_made (next_after (listed_in payload) (left_at setup.role setup.config before)) q a.side_is p (left_more setup.role setup.config before payload a.none_due ∙ rw is refl)
        (stood_still setup.role setup.config.offer before payload (leaving setup.role phase.Service) on) (omega (arith, least, fewer, counts))

    confirmation_asks : (q : QuestionData) → is_waiting (left_at setup.role setup.config before) ≡ true → IsOfAttempt (confirmed (left_at setup.role setup.config before)) q
        → IsAt setup.role Client (phase_at setup.role setup.config.offer before) phase.Auth (expects_guess setup.role setup.config.offer before) → message_number payload ≡ 60 → Asks q
    confirmation_asks q waits p a is =
        let on : stood setup.role setup.config.offer (leaving setup.role phase.Service) before ≡ true = auth_due _ _ _ _ a.phase_is in
        let bound : still_asked (stood setup.role setup.config.offer (leaving setup.role phase.Service) before) (left_at setup.role setup.config before) ≡ length (left_at setup.role setup.config before) = rw (on, waits) refl in
        let same : length (confirmed (left_at setup.role setup.config before)) ≡ length (left_at setup.role setup.config before) = length_confirmed (left_at setup.role setup.config before) in
        let counts : p.number + 1 ≡ length (confirmed (left_at setup.role setup.config before)) = p.counts in
        attempt_made (confirmed (left_at setup.role setup.config before)) q a.side_is p (left_more setup.role setup.config before payload a.none_due ∙ rw is refl)
        (stood_still setup.role setup.config.offer before payload (leaving setup.role phase.Service) on) (omega (arith, bound, same, counts))

    user_asks : (number : ℕ) (user service : List ℕ) (proof : ProofData) (signed : Bool) → expects_guess setup.role setup.config.offer before ≡ false → message_number payload ≡ 50
        → number ≡ count_kept setup.role setup.config.offer 50 before + 1 → Asks (UserQuestion number user service proof signed)
    user_asks number user service proof signed none is same = (omega (arith, same), later)
      where
        more : count_kept setup.role setup.config.offer 50 (before ++ payload ∷ []) ≡ count_kept setup.role setup.config.offer 50 before + 1
        more = count_push setup.role setup.config.offer before payload 50 ∙ rw (kept_free setup.role setup.config.offer before payload 50 none ∙ eq-eqb (message_number payload) 50 is) refl

        later : (r : QuestionData) → MayAsk setup.role setup.config (before ++ payload ∷ []) r → ComesLater (UserQuestion number user service proof signed) r
        later (HostKeyQuestion algorithm blob) may = tt
        later (UserQuestion other_number other_user other_service other_proof other_signed) may = omega (arith, same, more, may)
        later (SignatureQuestion other_number algorithm blob input) may = tt

    place_asks : (q : QuestionData) → question_after setup version before payload ≡ Some q → Asks q
    place_asks q e = by_message q (disposition_asks setup.suite setup.role setup.config numbers (known_at setup version before) payload (disposition_at setup.role setup.config before payload) q e).1
      where
        has : Reads setup.role (phase_at setup.role setup.config.offer before) (expects_guess setup.role setup.config.offer before) (message_number payload)
        has = place_reads (disposition_asks setup.suite setup.role setup.config numbers (known_at setup version before) payload (disposition_at setup.role setup.config before payload) q e).0

        has_number : (n : ℕ) → message_number payload ≡ n → Reads setup.role (phase_at setup.role setup.config.offer before) (expects_guess setup.role setup.config.offer before) n
        has_number n is = subst (Reads setup.role (phase_at setup.role setup.config.offer before) (expects_guess setup.role setup.config.offer before)) is has

        by_message : (q : QuestionData) → IsAsked (known_at setup version before) payload q → Asks q
        by_message q (ByReply is algorithm blob same) =
            subst Asks (sym same) (host_asks algorithm blob (reply_read setup.role _ _ (has_number 31 is)) is)
        by_message (HostKeyQuestion algorithm blob) (ByRequest is number) = absurd number
        by_message (UserQuestion number user service proof signed) (ByRequest is same) =
            user_asks number user service proof signed (user_request_read setup.role _ _ (has_number 50 is)).none_due is same
        by_message (SignatureQuestion number algorithm blob input) (ByRequest is same) = absurd same
        by_message q (ByInit is x) = init_asks q x (init_read setup.role _ _ (has_number 30 is)) is
        by_message q (ByAccept is p) = accept_asks q p (accept_read setup.role _ _ (has_number 6 is)) is
        by_message q (ByFailure is p) = failed_asks q p (failure_read setup.role _ _ (has_number 51 is)) is
        by_message q (ByConfirmation is waits p) = confirmation_asks q waits p (confirmation_read setup.role _ _ (has_number 60 is)) is

  -- the questions of payloads after these, each later than those in front
  abbrev place : Units → List ℕ → List QuestionData
  place before payload = asked (question_after setup version before payload)

  all_before : (before : Units) (payload : List ℕ) (qs : List QuestionData) → AllByRecursion (MayAsk setup.role setup.config (before ++ payload ∷ [])) qs → AllByRecursion (MayAsk setup.role setup.config before) qs
  all_before before payload [] all = tt
  all_before before payload (q ∷ qs) all = (may_before setup.config before payload setup.role q all.0, all_before before payload qs all.1)

  all_later : (before : Units) (q : QuestionData) → ((r : QuestionData) → MayAsk setup.role setup.config before r → ComesLater q r) → (qs : List QuestionData)
      → AllByRecursion (MayAsk setup.role setup.config before) qs → AllByRecursion (ComesLater q) qs
  all_later before q later [] all = tt
  all_later before q later (r ∷ qs) all = (later r all.0, all_later before q later qs all.1)

  rise : (before us : Units) → AllByRecursion (MayAsk setup.role setup.config before) (flat_places place before us) × Rises (flat_places place before us)
  rise before [] = (tt, tt)
  rise before (u ∷ us) = by (question_after setup version before u) refl (rise (before ++ u ∷ []) us)
    where
      by : (o : Option QuestionData) → question_after setup version before u ≡ o
          → AllByRecursion (MayAsk setup.role setup.config (before ++ u ∷ [])) (flat_places place (before ++ u ∷ []) us) × Rises (flat_places place (before ++ u ∷ []) us)
          → AllByRecursion (MayAsk setup.role setup.config before) (asked o ++ flat_places place (before ++ u ∷ []) us) × Rises (asked o ++ flat_places place (before ++ u ∷ []) us)
      by None e rest = (all_before before u _ rest.0, rest.1)
      by (Some q) e rest = let a : Asks before u q = place_asks before u q e in ((a.0, all_before before u _ rest.0), (all_later (before ++ u ∷ []) q a.1 _ rest.0, rest.1))

  may_front : (before more : Units) (q : QuestionData) → MayAsk setup.role setup.config (before ++ more) q → MayAsk setup.role setup.config before q
  may_front before [] q may = subst (λ (us : Units). MayAsk setup.role setup.config us q) (append-nil before) may
  may_front before (u ∷ us) q may =
      may_before setup.config before u setup.role q
      (may_front (before ++ u ∷ []) us q (subst (λ (l : Units). MayAsk setup.role setup.config l q) (sym (append_assoc before (u ∷ []) us)) may))

  pub once : (before : Units) → IsAskedOnce (questions_at setup version before)
  unfolding questions_at
  once before = asked_once (flat_places place [] before) (rise [] before).1

-- what is asked after a payload that asks comes later
pub later : (numbers : Numbered) (setup : Setup) (version other_version : List ℕ) (before more : Units) (payload other_payload : List ℕ) (q r : QuestionData)
    → question_after setup version before payload ≡ Some q → question_after setup other_version ((before ++ payload ∷ []) ++ more) other_payload ≡ Some r → ComesLater q r
later numbers setup version other_version before more payload other_payload q r e f =
    (place_asks numbers setup version before payload q e).1 r
    (may_front numbers setup version (before ++ payload ∷ []) more r (place_asks numbers setup other_version ((before ++ payload ∷ []) ++ more) other_payload r f).0)

module _ (setup : Setup) (version : List ℕ) where
  pub nothing : questions_at setup version [] ≡ []
  unfolding questions_at
  nothing = refl

  pub more : (before : Units) (payload : List ℕ) → questions_at setup version (before ++ payload ∷ []) ≡ questions_at setup version before ++ asked (question_after setup version before payload)
  unfolding questions_at
  more before payload = flat-push (λ b p. asked (question_after setup version b p)) [] before payload

  -- where it stands so
  pub stands : (before : Units) (payload : List ℕ) (old : StateData) → Sits setup version before old.phase old.guess old.known
      → question_at setup.suite setup.role setup.config old payload ≡ question_after setup version before payload
  stands before payload old s =
      let known = old.known in
      let strict : strict_at setup.role setup.config before ≡ old.known.strict = ap (λ (k : Known). k.strict) s.knows in
      let disposition_is : disposition_at setup.role setup.config before payload ≡ disposition_by setup.role old.phase old.known.strict old.guess (is_waiting old.known.left) (message_number payload) =
      ap (λ q. disposition_by setup.role q (strict_at setup.role setup.config before) (expects_guess setup.role setup.config.offer before) (waits_at setup.role setup.config before) (message_number payload)) (tied_phase setup.role setup.config.offer before old.phase s.tied)
      ∙ ap (λ b. disposition_by setup.role old.phase b (expects_guess setup.role setup.config.offer before) (waits_at setup.role setup.config before) (message_number payload)) strict
      ∙ ap (λ b. disposition_by setup.role old.phase old.known.strict b (waits_at setup.role setup.config before) (message_number payload)) s.due
      ∙ ap (λ (k : Known). disposition_by setup.role old.phase old.known.strict old.guess (is_waiting k.left) (message_number payload)) s.knows in
      sym (ap (λ k. disposition_question setup.suite setup.role setup.config k (disposition_at setup.role setup.config before payload) payload) s.knows
      ∙ ap (λ l. disposition_question setup.suite setup.role setup.config old.known l payload) disposition_is)

-- what is asked doesn't depend on the methods that are completed, so on no decision
module _ (m : SuiteData) (role : Side) (config : ConfigData) where
  any_completed_claim : (known : Known) (r : CompletedMethodsData) (user service : List ℕ) (method : MethodData) (o : Option ProofData)
      → asked_in (claim_step config (record known { completed = r }) user service method o) ≡ asked_in (claim_step config known user service method o)
  any_completed_claim known r user service method None = refl
  any_completed_claim known r user service method (Some proof) = refl

  any_completed_method : (known : Known) (r : CompletedMethodsData) (user service : List ℕ) (method : MethodData)
      → asked_in (method_step m config (record known { completed = r }) user service method) ≡ asked_in (method_step m config known user service method)
  any_completed_method known r user service (PublicKeyQuery algorithm key) = refl
  any_completed_method known r user service NoMethod = any_completed_claim known r user service NoMethod (proof_in m config known.session user service NoMethod)
  any_completed_method known r user service (Password password) = any_completed_claim known r user service (Password password) (proof_in m config known.session user service (Password password))
  any_completed_method known r user service (PasswordChange old new) = any_completed_claim known r user service (PasswordChange old new) (proof_in m config known.session user service (PasswordChange old new))
  any_completed_method known r user service (PublicKey algorithm key signature) =
      any_completed_claim known r user service (PublicKey algorithm key signature) (proof_in m config known.session user service (PublicKey algorithm key signature))
  any_completed_method known r user service (OtherMethod name fields) = any_completed_claim known r user service (OtherMethod name fields) (proof_in m config known.session user service (OtherMethod name fields))

  any_completed_request : (known : Known) (r : CompletedMethodsData) (user service : List ℕ) (method : MethodData)
      → asked_in (request_step m config (record known { completed = r }) user service method) ≡ asked_in (request_step m config known user service method)
  unfolding request_step
  any_completed_request known r user service method = by (is_in config.services service) (any_completed_method known r user service method)
    where
      by : (b : Bool) → asked_in (method_step m config (record known { completed = r }) user service method) ≡ asked_in (method_step m config known user service method)
          → asked_in (cond b (method_step m config (record known { completed = r }) user service method) (AtOnce (fails fault.Service))) ≡ asked_in (cond b (method_step m config known user service method) (AtOnce (fails fault.Service)))
      by true e = e
      by false e = refl

  any_completed_message : (known : Known) (r : CompletedMethodsData) (x : Result MessageData MsgFault) → message_question m role config (record known { completed = r }) x ≡ message_question m role config known x
  unfolding step init_step reply_step
  any_completed_message known r (Ok (UserauthRequest user service method)) = any_completed_request known r user service method
  any_completed_message known r (Ok UserauthSuccess) = refl
  any_completed_message known r _ = refl

  any_completed : (known : Known) (r : CompletedMethodsData) (l : Disposition) (payload : List ℕ) → disposition_question m role config (record known { completed = r }) l payload ≡ disposition_question m role config known l payload
  unfolding disposition_question
  any_completed known r disposition.Reads payload = any_completed_message known r (message_in known.shares payload)
  any_completed known r _ payload = refl

  module _ (d e : DecisionsData) (version : List ℕ) where
    same_place : (before : Units) (payload : List ℕ) → question_after (setup_with m d role config) version before payload ≡ question_after (setup_with m e role config) version before payload
    same_place before payload =
        any_completed (known_at (setup_with m e role config) version before) (known_at (setup_with m d role config) version before).completed (disposition_at role config before payload) payload

    each_same : (before us : Units) → EachPlace (λ b u. asked (question_after (setup_with m d role config) version b u) ≡ asked (question_after (setup_with m e role config) version b u)) before us
    each_same before [] = tt
    each_same before (u ∷ us) = (ap asked (same_place before u), each_same (before ++ u ∷ []) us)

    pub same : (before : Units) → questions_at (setup_with m d role config) version before ≡ questions_at (setup_with m e role config) version before
    unfolding questions_at
    same before = flat-same _ _ [] before (each_same [] before)
