-- How the reply to a message ends, and what an endpoint has received that ended authenticated.

use Rattle.std.proofs.Common.{◌≡◌, ℕ, ◌+◌, Bool, true, false, if◌then◌else◌, List, [], ◌∷◌, ◌++◌, Option, None, Some, Result, Ok, Err, refl, sym, ap, ◌∙◌, subst, arith}
use Rattle.std.specs.Prelude.{◌&&◌, not}
use Rattle.std.specs.Str.{bytes_eq}
use Rattle.std.proofs.lemmas.Bool.{not-true, true≢false}
use Rattle.sshwire.specs.declared.share_form.ShareForm.TheVariants.{Mpint}
use Rattle.sshmsg.specs.declared.fault.MsgFault.{MsgFault}
use Rattle.sshmsg.specs.MessageData.{Disconnect, KexEcdhInit, KexEcdhReply, KexInit, KexInitData, KexdhInit, KexdhReply, MessageData, MethodData, NewKeys, ServiceAccept, ServiceRequest, Unimplemented, UserauthFailure, UserauthPkOk, UserauthRequest, UserauthSuccess, method_name}
use Rattle.sshmsg.specs.Messages.{message_in}
use Rattle.sshmsg.specs.Numbers.{message_number}
use Rattle.sshmsg.specs.Written.{written_message}
use Rattle.sshneg.specs.declared.choice.NoCommon.{NoCommon}
use Rattle.sshneg.specs.declared.side.Side.{Side}
use Rattle.sshneg.specs.declared.side.Side.TheVariants.{Server}
use Rattle.sshneg.specs.ChoiceReadings.{is_in}
use Rattle.sshneg.specs.Derivations.{ExchangeData}
use Rattle.sshneg.specs.ExchangeEnd.{exchange_hash}
use Rattle.sshneg.specs.Fields.{AlgorithmsData}
use Rattle.sshpacket.specs.Parse.{Refusal}
use Rattle.sshpacket.specs.Stream.{Units}
use Rattle.sshpacket.specs.Suite.{ResponseData, SuiteData}
use Rattle.sshcore.specs.declared.end.Fault.TheVariants as fault
use Rattle.sshcore.specs.declared.phase_table.Disposition.{Disposition}
use Rattle.sshcore.specs.declared.phase_table.Disposition.TheVariants as disposition
use Rattle.sshcore.specs.declared.phase_table.Phase.{Phase}
use Rattle.sshcore.specs.declared.phase_table.Phase.TheVariants as phase
use Rattle.sshcore.specs.Attempts.{agreed_by, answers_query, success_by}
use Rattle.sshcore.specs.Authenticated.{AcceptsUser, IsAcceptedUser, IsAuthenticated, WasAccepted}
use Rattle.sshcore.specs.Before.{count_kept, expects_guess, kept, stood, strict_at, strict_towards}
use Rattle.sshcore.specs.ConfigParts.{AttemptData}
use Rattle.sshcore.specs.Counting.{number_in}
use Rattle.sshcore.specs.Directions.{payloads_in, version_in}
use Rattle.sshcore.specs.EndData.{AgreedData, Authenticated, Closed, Disconnected, EndData, Failed, Open, Reply, by_owner, fails, goes}
use Rattle.sshcore.specs.Exchange.{answer_with, choice_with, exchange_with, secret_of}
use Rattle.sshcore.specs.KnownBefore.{Known, known_at, waits_at}
use Rattle.sshcore.specs.EndpointParts.{ConfigData, DecisionsData, Setup}
use Rattle.sshcore.specs.Phases.{leaving, past_newkeys, phase_at}
use Rattle.sshcore.specs.Plan.{confirmed, next_after}
use Rattle.sshcore.specs.Replies.{Ends, disposition_reply, end_at, ended, goes_on, read_reply, refusal_reply}
use Rattle.sshcore.specs.CompletedMethods.{CompletedMethodsData, Tried, are_completed, completed_after, completed_after_one, is_complete, none_completed}
use Rattle.sshcore.specs.Requests.{completes, is_successful}
use Rattle.sshcore.specs.Tries.{is_successful_at, session_known, tried_at, tried_in, tried_place, tried_with}
use Rattle.sshcore.specs.Standing.{Tied}
use Rattle.sshcore.specs.Table.{disposition_by}
use Rattle.sshcore.specs.Work.{banner_by, chosen_reply, kexinit_reply, signed_by, signed_reply, userauth, work}
use Rattle.sshcore.proofs.StepLemmas.{answered_by, attempt_reply, init_reply, pk_ok_reply, reply_reply, request_reply, signature_by, work_is, worked}
use Rattle.sshcore.proofs.IgnoredLimitLemmas.{by_allowance}
use Rattle.sshcore.proofs.AnswerLemmas.{Elsewhere, IsAnswered, Last, More, Succeeds, answered}
use Rattle.sshcore.proofs.LawsBelow.{Below}
use Rattle.sshcore.proofs.PhaseLemmas.{kept_free, tied_leaves, tied_phase}
use Rattle.sshcore.proofs.PlanLemmas.{tried_push}
use Rattle.sshcore.proofs.CompletedMethodsLemmas.{complete_sound}
use Rattle.sshcore.proofs.ReadsLemmas.{Reads, reads, success_read, user_request_read}
use Rattle.sshcore.proofs.StrictLaws.{begun_none, past_parts, stands}
use Rattle.sshcore.proofs.StrictSteps.{disposition_is}

-- neither authenticated nor ended by its owner
abbrev is_early : EndData → Bool
is_early (Authenticated a) = false
is_early end = not (by_owner end)

abbrev pub IsEarly : EndData → Type 0
IsEarly end = is_early end ≡ true

-- an early end isn't its owner's
pub early_uncut : (end : EndData) → IsEarly end → by_owner end ≡ false
early_uncut Open h = refl
early_uncut (Authenticated a) h = refl
early_uncut (Failed f) h = not-true (by_owner (Failed f)) h
early_uncut (Closed reason) h = refl
early_uncut (Disconnected reason) h = not-true (by_owner (Disconnected reason)) h

early_cond : (b : Bool) (r o : Reply) → IsEarly r.end → IsEarly o.end → IsEarly (if b then r else o).end
early_cond true r o x y = x
early_cond false r o x y = y

-- How the reply to a message ends: early; or authenticated, by a successful request for a service that the server has, or by a
-- SUCCESS where an attempt was made.
pub data WorkEnds (m : SuiteData) (d : DecisionsData) (config : ConfigData) (known : Known) (c : MessageData) (end : EndData) : Type 0 where
  Early : IsEarly end → WorkEnds m d config known c end
  Requested : (user service : List ℕ) (method : MethodData) → c ≡ UserauthRequest user service method → is_in config.services service ≡ true
      → is_successful m d config known user service method ≡ true → completes config known user service method true ≡ true
      → end ≡ Authenticated (agreed_by known user service) → WorkEnds m d config known c end
  Succeeded : (made : AttemptData) (later : List AttemptData) → c ≡ UserauthSuccess → known.left ≡ made ∷ later
      → end ≡ Authenticated (agreed_by known made.user made.service) → WorkEnds m d config known c end

module _ (setup : Setup) where
  early_chosen : (peer : KexInitData) (r : Result AlgorithmsData NoCommon) → IsEarly (chosen_reply setup.suite setup.role setup.config peer r).end
  early_chosen peer (Ok a) = refl
  early_chosen peer (Err f) = refl

  early_kexinit : (known : Known) (peer : KexInitData) → IsEarly (kexinit_reply setup.suite setup.role setup.config known peer).end
  unfolding kexinit_reply
  early_kexinit known peer =
      early_cond (strict_towards setup.role setup.config.strict (Some peer) && not known.first) (fails (fault.Strict 20)) (chosen_reply setup.suite setup.role setup.config peer (choice_with setup.suite setup.role setup.config.offer (Some peer)))
      refl (early_chosen peer (choice_with setup.suite setup.role setup.config.offer (Some peer)))

  early_hashed : (known : Known) (x : ExchangeData) (found : Option (List ℕ)) → IsEarly (signed_reply setup.config known x found).end
  early_hashed known x None = refl
  early_hashed known x (Some signature) = refl

  early_answered : (known : Known) (x : ExchangeData) (r : Option ResponseData) → IsEarly (answered_by setup.suite setup.decisions setup.config known x r).end
  early_answered known x None = refl
  early_answered known x (Some answer) =
      early_hashed known x (signature_by setup.suite setup.decisions 0 known.algorithms.host_key (secret_of setup.config.host_keys known.algorithms.host_key) (exchange_hash setup.suite known.algorithms.kex x))

  early_init : (known : Known) (c : MessageData) → IsEarly (init_reply setup.suite setup.decisions setup.role setup.config known c).end
  unfolding init_reply
  early_init known c = early_answered known (exchange_with setup.suite setup.role setup.config known.algorithms known.version known.kexinit (Ok c)) (answer_with setup.suite setup.role setup.config known.algorithms (Ok c))

  early_signed : (known : Known) (x : ExchangeData) (signature : List ℕ) (r : Option ResponseData) → IsEarly (signed_by setup.suite known x signature r).end
  early_signed known x signature None = refl
  early_signed known x signature (Some answer) =
      early_cond (setup.suite.verify known.algorithms.host_key x.host_key (exchange_hash setup.suite known.algorithms.kex x) signature)
      (goes (written_message NewKeys ∷ written_message (ServiceRequest userauth) ∷ [])) (fails fault.Signature) refl refl

  early_reply : (known : Known) (c : MessageData) (signature : List ℕ) → IsEarly (reply_reply setup known c signature).end
  unfolding reply_reply
  early_reply known c signature =
      let x = exchange_with setup.suite setup.role setup.config known.algorithms known.version known.kexinit (Ok c) in
      let answer = answer_with setup.suite setup.role setup.config known.algorithms (Ok c) in
      early_cond (setup.decisions.host_key known.algorithms.host_key x.host_key) (signed_by setup.suite known x signature answer) (fails fault.HostKey) (early_signed known x signature answer) refl

  early_attempt : (session : List ℕ) (left : List AttemptData) → IsEarly (attempt_reply setup.suite setup.decisions session left).end
  early_attempt session [] = refl
  early_attempt session (a ∷ later) = refl

  -- a request is answered by whether the service is unknown, the request successful, and the try the last
  request_ends : (known : Known) (user service : List ℕ) (method : MethodData)
      → WorkEnds setup.suite setup.decisions setup.config known (UserauthRequest user service method) (request_reply setup.suite setup.decisions setup.config known user service method).end
  request_ends known user service method = by (answered setup.suite setup.decisions setup.config known user service method)
    where
      by : IsAnswered setup.suite setup.decisions setup.config known user service method (request_reply setup.suite setup.decisions setup.config known user service method)
          → WorkEnds setup.suite setup.decisions setup.config known (UserauthRequest user service method) (request_reply setup.suite setup.decisions setup.config known user service method).end
      by (Elsewhere has is) = Early (ap (λ (r : Reply). is_early r.end) is)
      by (Succeeds has successful done is) = Requested user service method refl has successful done (ap (λ (r : Reply). r.end) is)
      by (Last last is) = Early (ap (λ (r : Reply). is_early r.end) is)
      by (More x refusal more is) = Early (ap (λ (r : Reply). is_early r.end) is)

  success_ends : (known : Known) (left : List AttemptData) → known.left ≡ left → WorkEnds setup.suite setup.decisions setup.config known UserauthSuccess (success_by known left).end
  success_ends known [] e = Early refl
  success_ends known (a ∷ later) e = Succeeded a later refl e refl

  early_confirmed : (known : Known) (algorithm key : List ℕ) → IsEarly (pk_ok_reply setup.suite setup.decisions known algorithm key).end
  early_confirmed known algorithm key =
      early_cond (answers_query setup.suite algorithm key known.left) (attempt_reply setup.suite setup.decisions known.session (confirmed known.left)) (fails (fault.Unexpected 60))
      (early_attempt known.session (confirmed known.left)) refl

  worked_ends : (known : Known) (c : MessageData) → WorkEnds setup.suite setup.decisions setup.config known c (worked setup known c).end
  unfolding worked
  worked_ends known (Disconnect reason description language) = Early refl
  worked_ends known (KexInit peer) = Early (early_kexinit known peer)
  worked_ends known (KexdhInit e) = Early (early_init known (KexdhInit e))
  worked_ends known (KexEcdhInit share) = Early (early_init known (KexEcdhInit share))
  worked_ends known (KexdhReply key f signature) = Early (early_reply known (KexdhReply key f signature) signature)
  worked_ends known (KexEcdhReply key share signature) = Early (early_reply known (KexEcdhReply key share signature) signature)
  worked_ends known (ServiceRequest service) =
      Early (early_cond (bytes_eq service userauth) (goes (written_message (ServiceAccept userauth) ∷ banner_by setup.config.banner)) (fails fault.Service) refl refl)
  worked_ends known (ServiceAccept service) =
      Early (early_cond (bytes_eq service userauth) (attempt_reply setup.suite setup.decisions known.session known.left) (fails (fault.Unexpected 6)) (early_attempt known.session known.left) refl)
  worked_ends known (UserauthRequest user service method) = request_ends known user service method
  worked_ends known (UserauthFailure listed partial) = Early (early_attempt known.session (next_after listed known.left))
  worked_ends known UserauthSuccess = success_ends known known.left refl
  worked_ends known (UserauthPkOk algorithm key) = Early (early_confirmed known algorithm key)
  worked_ends known _ = Early refl

  pub work_ends : (known : Known) (c : MessageData) → WorkEnds setup.suite setup.decisions setup.config known c (work setup known c).end
  work_ends known c = subst (λ (x : Reply). WorkEnds setup.suite setup.decisions setup.config known c x.end) (sym (work_is setup known c)) (worked_ends known c)

-- what is agreed has the user and the service that it was made with
agrees_by : (known : Known) (user service : List ℕ) (a : AgreedData) → agreed_by known user service ≡ a → a ≡ agreed_by known a.user a.service
agrees_by known user service a e = subst (λ (x : AgreedData). x ≡ agreed_by known x.user x.service) e refl

same_agreed : (x y : AgreedData) → Authenticated x ≡ Authenticated y → x ≡ y
same_agreed x y e = cc

-- by what the user that is agreed on is accepted
accepts : (m : SuiteData) (d : DecisionsData) (config : ConfigData) (known : Known) (tried : List Tried) (payload user service : List ℕ) (method : MethodData) (a : AgreedData) → agreed_by known user service ≡ a
    → message_in known.shares payload ≡ Ok (UserauthRequest user service method) → is_in config.services service ≡ true
    → is_successful m d config known user service method ≡ true → are_completed config.required user service (tried ++ tried_with user service method true ∷ []) ≡ true
    → AcceptsUser m d config known tried payload a
accepts m d config known tried payload user service method a e requests has successful completed =
    subst (AcceptsUser m d config known tried payload) e (record { method = method; requests = requests; has_service = has; successful = successful; completed = completed })

was_accepted : (known : Known) (payload : List ℕ) (made : AttemptData) (later : List AttemptData) (a : AgreedData) → agreed_by known made.user made.service ≡ a
    → message_in known.shares payload ≡ Ok UserauthSuccess → known.left ≡ made ∷ later → WasAccepted known payload a
was_accepted known payload made later a e succeeds left =
    subst (WasAccepted known payload) e (record { succeeds = succeeds; made = made; later = later; left_are = left; user_is = refl; service_is = refl })

-- an endpoint that agreed on this at a payload in this phase
record Agrees (setup : Setup) (p : Phase) (guess : Bool) (known : Known) (tried : List Tried) (payload : List ℕ) (a : AgreedData) : Type 0 where
  at : p ≡ phase.Auth
  none_due : guess ≡ false
  leaves : message_number payload ≡ leaving setup.role phase.Auth
  agreed_is : a ≡ agreed_by known a.user a.service
  accepted_user : IsAcceptedUser setup.suite setup.decisions setup.role setup.config known tried payload a

pub none_refused : (r : Option Refusal) (a : AgreedData) → Authenticated a ≡ (refusal_reply r).end → ⊥
none_refused None a e = cc
none_refused (Some r) a e = cc

module _ (below : Below) (setup : Setup) where
  -- a successful request is read at a server, and a SUCCESS at a client
  requested : (p : Phase) (guess : Bool) (known : Known) (tried : List Tried) (payload user service : List ℕ) (method : MethodData) (a : AgreedData) → Reads setup.role p guess (message_number payload)
      → message_in known.shares payload ≡ Ok (UserauthRequest user service method) → is_in setup.config.services service ≡ true → is_successful setup.suite setup.decisions setup.config known user service method ≡ true
      → completes setup.config known user service method true ≡ true → known.completed ≡ completed_after none_completed tried → agreed_by known user service ≡ a → Agrees setup p guess known tried payload a
  requested p guess known tried payload user service method a r requests has successful done kept e =
      let is : message_number payload ≡ 50 = below.numbers known.shares payload (UserauthRequest user service method) requests in
      let at = user_request_read setup.role p guess (subst (Reads setup.role p guess) is r) in
      record {
        at = at.phase_is;
        none_due = at.none_due;
        leaves = is ∙ ap (λ side. leaving side phase.Auth) (sym at.side_is);
        agreed_is = agrees_by known user service a e;
        accepted_user = subst (λ (side : Side). IsAcceptedUser setup.suite setup.decisions side setup.config known tried payload a) (sym at.side_is) (accepts setup.suite setup.decisions setup.config known tried payload user service method a e requests has successful
            (complete_sound tried (tried_with user service method true) (method_name method) refl setup.config.required
            (ap (λ (q : CompletedMethodsData). is_complete setup.config.required (completed_after_one q (tried_with user service method true))) (sym kept) ∙ done)));
      }

  succeeded : (p : Phase) (guess : Bool) (known : Known) (tried : List Tried) (payload : List ℕ) (made : AttemptData) (later : List AttemptData) (a : AgreedData) → Reads setup.role p guess (message_number payload)
      → message_in known.shares payload ≡ Ok UserauthSuccess → known.left ≡ made ∷ later → agreed_by known made.user made.service ≡ a → Agrees setup p guess known tried payload a
  succeeded p guess known tried payload made later a r succeeds left e =
      let is : message_number payload ≡ 52 = below.numbers known.shares payload UserauthSuccess succeeds in
      let at = success_read setup.role p guess (subst (Reads setup.role p guess) is r) in
      record {
        at = at.phase_is;
        none_due = at.none_due;
        leaves = is ∙ ap (λ side. leaving side phase.Auth) (sym at.side_is);
        agreed_is = agrees_by known made.user made.service a e;
        accepted_user = subst (λ (side : Side). IsAcceptedUser setup.suite setup.decisions side setup.config known tried payload a) (sym at.side_is) (was_accepted known payload made later a e succeeds left);
      }

  -- a message that is read
  by_read : (p : Phase) (strict guess waits : Bool) (known : Known) (tried : List Tried) (payload : List ℕ) → known.completed ≡ completed_after none_completed tried → disposition_by setup.role p strict guess waits (message_number payload) ≡ disposition.Reads → (a : AgreedData)
      → (r : Result MessageData MsgFault) → message_in known.shares payload ≡ r → (read_reply setup known (message_number payload) r).end ≡ Authenticated a
      → Agrees setup p guess known tried payload a
  by_read p strict guess waits known tried payload kept reads_it a (Err f) e end = absurd cc
  by_read p strict guess waits known tried payload kept reads_it a (Ok c) e end = by (work_ends setup known c)
    where
      by : WorkEnds setup.suite setup.decisions setup.config known c (work setup known c).end → Agrees setup p guess known tried payload a
      by (Early h) = absurd (true≢false (sym h ∙ ap is_early end))
      by (Requested user service method same has successful done is) = requested p guess known tried payload user service method a (reads setup.role p strict waits (message_number payload) guess reads_it)
          (e ∙ ap Ok same) has successful done kept (same_agreed (agreed_by known user service) a (sym is ∙ end))
      by (Succeeded made later same left is) = succeeded p guess known tried payload made later a (reads setup.role p strict waits (message_number payload) guess reads_it)
          (e ∙ ap Ok same) left (same_agreed (agreed_by known made.user made.service) a (sym is ∙ end))

  by_disposition : (p : Phase) (strict guess waits : Bool) (known : Known) (tried : List Tried) (packet : ℕ) (payload : List ℕ) (l : Disposition) → known.completed ≡ completed_after none_completed tried → disposition_by setup.role p strict guess waits (message_number payload) ≡ l → (a : AgreedData)
      → (disposition_reply setup known packet l payload).end ≡ Authenticated a → Agrees setup p guess known tried payload a
  unfolding disposition_reply
  by_disposition p strict guess waits known tried packet payload disposition.Reads kept is a end =
      by_allowance (λ (r : Reply). r.end ≡ Authenticated a → Agrees setup p guess known tried payload a) known payload (read_reply setup known (message_number payload) (message_in known.shares payload))
      (λ over. absurd cc) (λ within. by_read p strict guess waits known tried payload kept is a (message_in known.shares payload) refl within) end
  by_disposition p strict guess waits known tried packet payload disposition.Drops kept is a end = absurd cc
  by_disposition p strict guess waits known tried packet payload disposition.Deviates kept is a end = absurd cc
  by_disposition p strict guess waits known tried packet payload disposition.Unknown kept is a end =
      by_allowance (λ (r : Reply). r.end ≡ Authenticated a → Agrees setup p guess known tried payload a) known payload (goes (written_message (Unimplemented packet) ∷ []))
      (λ over. absurd cc) (λ within. absurd cc) end
  by_disposition p strict guess waits known tried packet payload disposition.Unexpected kept is a end = absurd cc

  -- at an endpoint that stood open before
  at_last : (version : List ℕ) (before : Units) (payload : List ℕ) (p : Phase) → Tied setup.role setup.config.offer before p → (a : AgreedData)
      → end_at setup (version ∷ before) payload ≡ Authenticated a
      → Agrees setup p (expects_guess setup.role setup.config.offer before) (known_at setup version before) (tried_at setup version before) payload a
  at_last version before payload p t a end =
      let l = disposition_by setup.role p (strict_at setup.role setup.config before) (expects_guess setup.role setup.config.offer before) (waits_at setup.role setup.config before) (message_number payload) in
      by_disposition p (strict_at setup.role setup.config before) (expects_guess setup.role setup.config.offer before) (waits_at setup.role setup.config before) (known_at setup version before) (tried_at setup version before) (number_in setup.role setup.config before) payload l refl refl a
      (ap (λ (l : Disposition). (disposition_reply setup (known_at setup version before) (number_in setup.role setup.config before) l payload).end) (disposition_is below setup version before payload p t) ∙ end)

  pub last_tied : (version : List ℕ) (before : Units) (last : List ℕ) (p : Phase) → Tied setup.role setup.config.offer before p → (a : AgreedData)
      → end_at setup (version ∷ before) last ≡ Authenticated a → Tied setup.role setup.config.offer before phase.Auth
  last_tied version before last p t a end = subst (Tied setup.role setup.config.offer before) (at_last version before last p t a end).at t

  -- the phase stays there the payload
  stays_tied : (version : List ℕ) (before : Units) (last : List ℕ) (p : Phase) → Tied setup.role setup.config.offer before p → (a : AgreedData)
      → end_at setup (version ∷ before) last ≡ Authenticated a → Tied setup.role setup.config.offer (before ++ last ∷ []) phase.Auth
  stays_tied version before last p t a end =
      let at = at_last version before last p t a end in
      tied_leaves setup.role setup.config.offer before last phase.Auth (last_tied version before last p t a end) at.none_due at.leaves

  pub authenticated : (units : Units) (refusal : Option Refusal) (a : AgreedData) → Ends setup units refusal (Authenticated a) → IsAuthenticated setup units a
  authenticated units refusal a (goes_on stays is) = absurd (none_refused refusal a is)
  authenticated units refusal a (ended [] last units_are stays is shut none) = absurd cc
  authenticated units refusal a (ended (version ∷ before) last units_are stays is shut none) =
      let f = stands below setup version [] before phase.KexInit (begun_none below setup) stays.1 in
      let at = at_last version before last f.0 f.1.tied a (sym is) in
      record {
        version = version;
        before = before;
        last = last;
        units_are = units_are;
        in_auth = tied_phase setup.role setup.config.offer before phase.Auth (last_tied version before last f.0 f.1.tied a (sym is));
        stays_in_auth = ap (λ (l : Units). phase_at setup.role setup.config.offer (payloads_in l)) units_are
            ∙ tied_phase setup.role setup.config.offer (before ++ last ∷ []) phase.Auth (stays_tied version before last f.0 f.1.tied a (sym is));
        agrees = at.agreed_is;
        accepted_user = at.accepted_user;
      }

  one_tried : (session : List ℕ) (n : ℕ) (payload user service : List ℕ) (method : MethodData) → message_in Mpint payload ≡ Ok (UserauthRequest user service method)
      → is_successful_at setup.suite setup.decisions setup.config session n user service method ≡ true → tried_in setup.suite setup.decisions setup.config session n payload ≡ tried_with user service method true ∷ []
  unfolding tried_in
  one_tried session n payload user service method read successful = rw (read, successful) refl

  tried_here : (version : List ℕ) (before : Units) (payload : List ℕ) → kept setup.role setup.config.offer 50 before payload ≡ true
      → tried_place setup version before payload ≡ tried_in setup.suite setup.decisions setup.config (session_known setup.suite setup.role setup.config version before) (count_kept setup.role setup.config.offer 50 before + 1) payload
  tried_here version before payload here = rw here refl

  -- at a server, the requests end with the one that is accepted
  tried_last : (version : List ℕ) (before : Units) (last : List ℕ) (p : Phase) → Tied setup.role setup.config.offer before p → (a : AgreedData) → end_at setup (version ∷ before) last ≡ Authenticated a → setup.role ≡ Server
      → (method : MethodData) × (tried_at setup version (before ++ last ∷ []) ≡ tried_at setup version before ++ tried_with a.user a.service method true ∷ [])
  tried_last version before last p t a end server =
      let at = at_last version before last p t a end in
      let known : Known = known_at setup version before in
      let r : AcceptsUser setup.suite setup.decisions setup.config known (tried_at setup version before) last a = subst (λ (side : Side). IsAcceptedUser setup.suite setup.decisions side setup.config known (tried_at setup version before) last a) server at.accepted_user in
      let is : message_number last ≡ 50 = below.numbers known.shares last (UserauthRequest a.user a.service r.method) r.requests in
      let read : message_in Mpint last ≡ Ok (UserauthRequest a.user a.service r.method) = below.alike Mpint known.shares last (λ q. omega (arith, q, is)) (λ q. omega (arith, q, is)) ∙ r.requests in
      let here : kept setup.role setup.config.offer 50 before last ≡ true = kept_free setup.role setup.config.offer before last 50 at.none_due ∙ rw is refl in (
        r.method,
        tried_push setup version before last
            ∙ ap (λ (l : List Tried). tried_at setup version before ++ l) (tried_here version before last here
            ∙ one_tried (session_known setup.suite setup.role setup.config version before) (count_kept setup.role setup.config.offer 50 before + 1) last a.user a.service r.method read r.successful),
      )

  pub ends_tried : (units : Units) (refusal : Option Refusal) (a : AgreedData) → Ends setup units refusal (Authenticated a) → setup.role ≡ Server
      → (tried : List Tried) × (method : MethodData) × (tried_at setup (version_in units) (payloads_in units) ≡ tried ++ tried_with a.user a.service method true ∷ [])
  ends_tried units refusal a (goes_on stays is) server = absurd (none_refused refusal a is)
  ends_tried units refusal a (ended [] last units_are stays is shut none) server = absurd cc
  ends_tried units refusal a (ended (version ∷ before) last units_are stays is shut none) server =
      let f = stands below setup version [] before phase.KexInit (begun_none below setup) stays.1 in
      let x = tried_last version before last f.0 f.1.tied a (sym is) server in
      (tried_at setup version before, x.0, ap (λ (l : Units). tried_at setup (version_in l) (payloads_in l)) units_are ∙ x.1)

-- an endpoint in phase auth has received NEWKEYS
pub auth_switched : (role : Side) (own : KexInitData) (payloads : Units) → phase_at role own payloads ≡ phase.Auth → stood role own 21 payloads ≡ true
auth_switched role own payloads at = (past_parts _ _ _ _ (ap past_newkeys at)).1
