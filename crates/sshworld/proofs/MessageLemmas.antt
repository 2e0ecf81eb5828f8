-- What each side answers to each message of the other's.

use Rattle.std.proofs.Common.{◌≡◌, ◌⊎◌, inl, inr, ℕ, ◌+◌, ◌==◌, ◌&&◌, Bool, true, false, if◌then◌else◌, not, List, [], ◌∷◌, ◌++◌, slice_get, Option, None, Some, Result, Ok, refl, sym, ap, ◌∙◌, subst}
use Rattle.std.specs.Prelude.{codes}
use Rattle.std.specs.Str.{bytes_eq}
use Rattle.std.proofs.lemmas.Bool.{and_from}
use Rattle.std.proofs.lemmas.List.Folds.{list_any-append}
use Rattle.sshwire.specs.declared.share_form.ShareForm.{ShareForm}
use Rattle.sshwire.specs.declared.share_form.ShareForm.TheVariants.{Hybrid, Mpint, OctetString}
use Rattle.sshwire.specs.TypeReadings as readings
use Rattle.sshmsg.specs.MessageData.{Disconnect, KexInit, MessageData, NewKeys, ServiceAccept, ServiceRequest, UserauthBanner, UserauthFailure, UserauthPkOk, UserauthRequest, UserauthSuccess}
use Rattle.sshmsg.specs.MessageData as messages
use Rattle.sshmsg.specs.Messages.{message_in}
use Rattle.sshmsg.specs.Numbers.{message_number, number_of}
use Rattle.sshmsg.specs.Written.{kexinit_payload, written_message}
use Rattle.sshmsg.proofs.NumberLemmas.{message_number_tells}
use Rattle.sshneg.specs.declared.choice.NoCommon.{NoCommon}
use Rattle.sshneg.specs.declared.side.Side.{Side}
use Rattle.sshneg.specs.declared.side.Side.TheVariants.{Client, Server}
use Rattle.sshneg.specs.ChoiceReadings.{choice, is_in}
use Rattle.sshneg.specs.Derivations.{ExchangeData}
use Rattle.sshneg.specs.ExchangeEnd.{answer_by, exchange_by, exchange_hash, offer_by}
use Rattle.sshneg.specs.Fields.{AlgorithmsData}
use Rattle.sshneg.specs.Strictness.{is_right_guess, is_strict}
use Rattle.sshneg.proofs.EndLemmas.{one_answer}
use Rattle.sshpacket.specs.Stream.{Units}
use Rattle.sshpacket.specs.Suite.{ResponseData, SuiteData}
use Rattle.sshcore.specs.declared.end.Fault.TheVariants as fault
use Rattle.sshcore.specs.declared.phase_table.Disposition.TheVariants as disposition
use Rattle.sshcore.specs.declared.phase_table.Phase.{Phase}
use Rattle.sshcore.specs.declared.phase_table.Phase.TheVariants as phase
use Rattle.sshcore.specs.ConfigParts.{AttemptData, ByKey, ClientData, ServerData, client_offer, own_marker, server_offer, version_of}
use Rattle.sshcore.specs.EndData.{Authenticated, Closed, fails, goes}
use Rattle.sshcore.specs.Exchange.{answer_or, answer_with, chosen_or, exchange_with, secret_of, shares_by}
use Rattle.sshcore.specs.KnownBefore.{Known}
use Rattle.sshcore.specs.EndpointParts.{ConfigData, DecisionsData, Setup, client_setup, config_of_client, config_of_server, server_setup}
use Rattle.sshcore.specs.Phases.{leaving}
use Rattle.sshcore.specs.Plan.{is_waiting, next_after}
use Rattle.sshcore.specs.CompletedMethods.{CompletedMethodsData, completed_after_one, none_completed}
use Rattle.sshcore.specs.Replies.{reply_at}
use Rattle.sshcore.specs.Standing.{LeavesNone, Sits, exchange_received}
use Rattle.sshcore.specs.Table.{disposition_by, is_ignorable}
use Rattle.sshcore.specs.Tries.{is_successful_at, tried_with}
use Rattle.sshcore.specs.Work.{asks_by, asks_for_extensions, banner_by, chosen_reply, init_for, init_in, reply_in, signed_by, signed_reply, told_by, userauth}
use Rattle.sshcore.proofs.ExtensionLemmas.{told_unasked}
use Rattle.sshcore.proofs.CompletedMethodsLemmas.{bytes_self}
use Rattle.sshcore.proofs.StepLemmas.{answered_by, attempt_reply, init_reply, reply_reply, request_reply, trusted_by, worked}
use Rattle.sshworld.specs.Agreement.{answer_of_server, exchange_between, host_key_of_server, session_between}
use Rattle.sshworld.specs.Held.{held_method, held_request}
use Rattle.sshworld.specs.Offered.{offered}
use Rattle.sshworld.specs.Compatible.{AreCompatible}
use Rattle.sshworld.specs.Wordings.{reply_of_server, signature_of_server}
use Rattle.sshworld.proofs.HeldLemmas.{signed_held}
use Rattle.sshworld.proofs.Readable.{AreOffersRead, AreSound, IsRead, ReadsAgain}
use Rattle.sshworld.proofs.StepLemmas.{begins, drops, goes_dropped, goes_exchanged, goes_leaving, goes_staying, reads, replies_first}

leaving_line : (waits : Bool) → (role : Side) (p : Phase) (strict : Bool) → disposition_by role p strict false waits (leaving role p) ≡ disposition.Reads
unfolding disposition_by
leaving_line waits Client phase.KexInit strict = refl
leaving_line waits Client phase.Exchange true = refl
leaving_line waits Client phase.Exchange false = refl
leaving_line waits Client phase.NewKeys true = refl
leaving_line waits Client phase.NewKeys false = refl
leaving_line waits Client phase.Service strict = refl
leaving_line waits Client phase.Auth strict = refl
leaving_line waits Server phase.KexInit strict = refl
leaving_line waits Server phase.Exchange true = refl
leaving_line waits Server phase.Exchange false = refl
leaving_line waits Server phase.NewKeys true = refl
leaving_line waits Server phase.NewKeys false = refl
leaving_line waits Server phase.Service strict = refl
leaving_line waits Server phase.Auth strict = refl

-- authentication at a client, and a DISCONNECT anywhere
auth_line : (waits : Bool) → (strict : Bool) (n : ℕ) → (n ≡ 51) ⊎ (n ≡ 53) → disposition_by Client phase.Auth strict false waits n ≡ disposition.Reads
unfolding disposition_by
auth_line waits strict n (inl e) = rw e refl
auth_line waits strict n (inr e) = rw e refl

closing_line : (waits : Bool) → (role : Side) (p : Phase) (strict guess : Bool) → disposition_by role p strict guess waits 1 ≡ disposition.Reads
unfolding disposition_by
closing_line waits role p strict guess = refl

drops_line : (waits : Bool) → (strict : Bool) → disposition_by Server phase.Exchange strict true waits 30 ≡ disposition.Drops
unfolding disposition_by
drops_line waits true = refl
drops_line waits false = refl

-- a PK_OK at a client, while a query waits
confirms_line : (strict : Bool) → disposition_by Client phase.Auth strict false true 60 ≡ disposition.Reads
unfolding disposition_by
confirms_line strict = refl

-- the messages of an exchange, whatever form their shares have
init_number : (f : ShareForm) (e : List ℕ) → number_of (init_in f e) ≡ 30
init_number Mpint e = refl
init_number OctetString e = refl
init_number Hybrid e = refl

reply_number : (f : ShareForm) (k e sign : List ℕ) → number_of (reply_in f k e sign) ≡ 31
reply_number Mpint k e sign = refl
reply_number OctetString k e sign = refl
reply_number Hybrid k e sign = refl

init_begins : (f : ShareForm) (e : List ℕ) → message_number (written_message (init_in f e)) ≡ 30
unfolding written_message
init_begins Mpint e = refl
init_begins OctetString e = refl
init_begins Hybrid e = refl

pub init_kind : (m : SuiteData) (own : ConfigData) (kex : List ℕ) → message_number (init_for m own kex) ≡ 30
init_kind m own kex = init_begins (m.share_form kex) (m.share kex own.random)

work_init : (setup : Setup) (x : Known) (f : ShareForm) (e : List ℕ) → worked setup x (init_in f e) ≡ init_reply setup.suite setup.decisions setup.role setup.config x (init_in f e)
unfolding worked
work_init setup x Mpint e = refl
work_init setup x OctetString e = refl
work_init setup x Hybrid e = refl

work_reply : (setup : Setup) (x : Known) (f : ShareForm) (k e sign : List ℕ)
    → worked setup x (reply_in f k e sign) ≡ reply_reply setup x (reply_in f k e sign) sign
unfolding worked
work_reply setup x Mpint k e sign = refl
work_reply setup x OctetString k e sign = refl
work_reply setup x Hybrid k e sign = refl

init_answer : (m : SuiteData) (role : Side) (config : ConfigData) (a : AlgorithmsData) (f : ShareForm) (e : List ℕ) → answer_with m role config a (Ok (init_in f e)) ≡ answer_by role m a.kex config.random e
init_answer m role config a Mpint e = refl
init_answer m role config a OctetString e = refl
init_answer m role config a Hybrid e = refl

reply_answer : (m : SuiteData) (role : Side) (config : ConfigData) (a : AlgorithmsData) (f : ShareForm) (k e sign : List ℕ) → answer_with m role config a (Ok (reply_in f k e sign)) ≡ answer_by role m a.kex config.random e
reply_answer m role config a Mpint k e sign = refl
reply_answer m role config a OctetString k e sign = refl
reply_answer m role config a Hybrid k e sign = refl

-- what is read without any condition
pub new_keys_read : ReadsAgain NewKeys
unfolding message_in written_message messages.form_of
new_keys_read form = refl

pub success_read : ReadsAgain UserauthSuccess
unfolding message_in written_message messages.form_of
success_read form = refl

pub service_read : ReadsAgain (ServiceRequest userauth)
unfolding message_in written_message messages.form_of readings.string_at readings.uint32_at
service_read form = refl

pub accept_read : ReadsAgain (ServiceAccept userauth)
unfolding message_in written_message messages.form_of readings.string_at readings.uint32_at
accept_read form = refl

abbrev pub IsClosing : ℕ → Type 0
IsClosing reason = ReadsAgain (Disconnect reason [] [])

pub seven_read : IsClosing 7
unfolding message_in written_message messages.form_of readings.string_at readings.uint32_at
seven_read form = refl

pub nine_read : IsClosing 9
unfolding message_in written_message messages.form_of readings.string_at readings.uint32_at
nine_read form = refl

pub fourteen_read : IsClosing 14
unfolding message_in written_message messages.form_of readings.string_at readings.uint32_at
fourteen_read form = refl

stays_53 : LeavesNone Client 53
stays_53 = record { kexinit = refl; exchange = refl; newkeys = refl; service = refl }

stays_60 : LeavesNone Client 60
stays_60 = record { kexinit = refl; exchange = refl; newkeys = refl; service = refl }

stays_51 : LeavesNone Client 51
stays_51 = record { kexinit = refl; exchange = refl; newkeys = refl; service = refl }

-- any role
module _ (setup : Setup) (version : List ℕ) where
  pub closed : (before : Units) (p : Phase) (guess : Bool) (x : Known) (reason : ℕ) → IsClosing reason → Sits setup version before p guess x
      → reply_at setup version before (written_message (Disconnect reason [] [])) ≡ record { answers = []; end = Closed reason }
  unfolding worked
  closed before p guess x reason h s =
      reads setup version before (written_message (Disconnect reason [] [])) p guess x (Disconnect reason [] []) refl s (h x.shares) (closing_line _ setup.role p x.strict guess)

  pub switched : (before : Units) (x : Known) → Sits setup version before phase.NewKeys false x → reply_at setup version before (written_message NewKeys) ≡ goes []
  unfolding worked
  switched before x s = reads setup version before (written_message NewKeys) phase.NewKeys false x NewKeys refl s (new_keys_read x.shares) (leaving_line _ setup.role phase.NewKeys x.strict)

  pub switches : (before : Units) (x : Known) → Sits setup version before phase.NewKeys false x → Sits setup version (before ++ written_message NewKeys ∷ []) phase.Service false (record x { first = false; allowance = setup.config.ignored_limit })
  switches before x s = goes_leaving setup version before (written_message NewKeys) phase.NewKeys x NewKeys s refl (new_keys_read Mpint) refl

-- the client
module _ (m : SuiteData) (d : DecisionsData) (c : ClientData) (s : ServerData) (compatible : AreCompatible m d c s) (sound : AreSound c s) (offers : AreOffersRead c s) where
  -- the first message: the choice
  pub client_first : reply_at (client_setup m d c) (version_of s.side) [] (written_message (KexInit (server_offer s)))
      ≡ chosen_reply m Client (config_of_client c) (server_offer s) (choice m (client_offer c) (server_offer s))
  client_first = replies_first (client_setup m d c) (version_of s.side) (written_message (KexInit (server_offer s))) (server_offer s) (offers.server Mpint)

  pub server_first : reply_at (server_setup m d s) (version_of c.side) [] (written_message (KexInit (client_offer c)))
      ≡ chosen_reply m Server (config_of_server s) (client_offer c) (choice m (client_offer c) (server_offer s))
  server_first = replies_first (server_setup m d s) (version_of c.side) (written_message (KexInit (client_offer c))) (client_offer c) (offers.client Mpint)

  module _ (a : AlgorithmsData) (chosen : choice m (client_offer c) (server_offer s) ≡ Ok a) (readable : IsRead m d c s a) where
    -- the client
    abbrev pub client_known : Option ℕ → Result AlgorithmsData NoCommon → List ℕ → List AttemptData → Known
    client_known allowance r session left = record {
      version = version_of s.side;
      kexinit = written_message (KexInit (server_offer s));
      algorithms = chosen_or r;
      shares = shares_by m r;
      session = session;
      request = 1;
      left = left;
      completed = none_completed;
      strict = is_strict c.side.strict Client (server_offer s);
      first = false;
      allowance = allowance;
    }

    -- up to NEWKEYS, and after it
    abbrev pub client_unswitched : List ℕ → List AttemptData → Known
    client_unswitched session left = client_known None (Ok a) session left

    abbrev pub client_view : List ℕ → List AttemptData → Known
    client_view session left = client_known c.side.ignored_limit (Ok a) session left

    pub client_begins : Sits (client_setup m d c) (version_of s.side) (written_message (KexInit (server_offer s)) ∷ []) phase.Exchange false (client_unswitched [] c.plan)
    client_begins =
        subst (λ (r : Result AlgorithmsData NoCommon). Sits (client_setup m d c) (version_of s.side) (written_message (KexInit (server_offer s)) ∷ []) phase.Exchange false (client_known None r [] c.plan))
        chosen (begins (client_setup m d c) (version_of s.side) (written_message (KexInit (server_offer s))) (server_offer s) (offers.server Mpint))

    abbrev pub reply_payload : List ℕ
    reply_payload = reply_of_server m c s a

    abbrev reply_content : MessageData
    reply_content = reply_in (m.share_form a.kex) (host_key_of_server m s a.host_key) (answer_of_server m c s a.kex).share (signature_of_server m c s a)

    -- the server answers
    responded : m.respond a.kex s.side.random (m.share a.kex c.side.random) ≡ Some (answer_of_server m c s a.kex)
    responded = let g = compatible.exchange a chosen in subst (λ (o : Option ResponseData). o ≡ Some (answer_or o)) (sym g.responds) refl

    -- the client comes to the server's answer
    client_answer : answer_by Client m a.kex c.side.random (answer_of_server m c s a.kex).share ≡ Some (answer_of_server m c s a.kex)
    client_answer =
        let g = compatible.exchange a chosen in
        subst (λ (o : Option ResponseData). answer_by Client m a.kex c.side.random (answer_or o).share ≡ Some (answer_or o)) (sym g.responds) (one_answer m a.kex c.side.random s.side.random g g.answer g.responds)

    -- and both hash the same
    client_same : (f : ShareForm) → exchange_with m Client (config_of_client c) a (version_of s.side) (written_message (KexInit (server_offer s)))
        (Ok (reply_in f (host_key_of_server m s a.host_key) (answer_of_server m c s a.kex).share (signature_of_server m c s a))) ≡ exchange_between m c s a
    unfolding exchange_with exchange_by kexinit_payload written_message
    client_same Mpint = ap (λ (o : Option ResponseData). record (exchange_between m c s a) { server_share = (answer_or o).share; shared = (answer_or o).shared }) client_answer
    client_same OctetString = ap (λ (o : Option ResponseData). record (exchange_between m c s a) { server_share = (answer_or o).share; shared = (answer_or o).shared }) client_answer
    client_same Hybrid = ap (λ (o : Option ResponseData). record (exchange_between m c s a) { server_share = (answer_or o).share; shared = (answer_or o).shared }) client_answer

    pub client_exchanges : Sits (client_setup m d c) (version_of s.side) (written_message (KexInit (server_offer s)) ∷ reply_payload ∷ []) phase.NewKeys false (client_unswitched (session_between m c s a) c.plan)
    unfolding session_between
    client_exchanges =
        subst (λ (x : ExchangeData). Sits (client_setup m d c) (version_of s.side) (written_message (KexInit (server_offer s)) ∷ reply_payload ∷ []) phase.NewKeys false (client_unswitched (exchange_hash m a.kex x) c.plan))
        (client_same (m.share_form a.kex)) (goes_exchanged (client_setup m d c) (version_of s.side) (written_message (KexInit (server_offer s)) ∷ []) reply_payload (client_unswitched [] c.plan) reply_content
        client_begins readable.reply (reply_number (m.share_form a.kex) (host_key_of_server m s a.host_key) (answer_of_server m c s a.kex).share (signature_of_server m c s a)))

    pub reply_begun : message_number reply_payload ≡ 31
    reply_begun = message_number_tells (m.share_form a.kex) reply_payload reply_content readable.reply ∙ reply_number (m.share_form a.kex) (host_key_of_server m s a.host_key) (answer_of_server m c s a.kex).share (signature_of_server m c s a)

    pub client_hashed : exchange_received m Client (config_of_client c) (client_unswitched [] c.plan) reply_payload ≡ exchange_between m c s a
    client_hashed = ap (λ r. exchange_with m Client (config_of_client c) a (version_of s.side) (written_message (KexInit (server_offer s))) r) readable.reply ∙ client_same (m.share_form a.kex)

    -- what a KEXDH_REPLY is answered
    client_replied : reply_at (client_setup m d c) (version_of s.side) (written_message (KexInit (server_offer s)) ∷ []) reply_payload
        ≡ trusted_by m d (client_unswitched [] c.plan) (exchange_between m c s a) (signature_of_server m c s a) (Some (answer_of_server m c s a.kex))
    unfolding reply_reply
    client_replied =
        reads (client_setup m d c) (version_of s.side) (written_message (KexInit (server_offer s)) ∷ []) reply_payload phase.Exchange false (client_unswitched [] c.plan) reply_content
        (ap is_ignorable (reply_number (m.share_form a.kex) (host_key_of_server m s a.host_key) (answer_of_server m c s a.kex).share (signature_of_server m c s a))) client_begins readable.reply
        (ap (λ (n : ℕ). disposition_by Client phase.Exchange (client_unswitched [] c.plan).strict false (is_waiting (client_unswitched [] c.plan).left) n) (reply_number (m.share_form a.kex) (host_key_of_server m s a.host_key) (answer_of_server m c s a.kex).share (signature_of_server m c s a))
        ∙ leaving_line _ Client phase.Exchange (client_unswitched [] c.plan).strict)
        ∙ work_reply (client_setup m d c) (client_unswitched [] c.plan) (m.share_form a.kex) (host_key_of_server m s a.host_key) (answer_of_server m c s a.kex).share (signature_of_server m c s a)
        ∙ ap (λ (x : ExchangeData). trusted_by m d (client_unswitched [] c.plan) x (signature_of_server m c s a) (answer_with m Client (config_of_client c) a (Ok reply_content))) (client_same (m.share_form a.kex))
        ∙ ap (λ (o : Option ResponseData). trusted_by m d (client_unswitched [] c.plan) (exchange_between m c s a) (signature_of_server m c s a) o)
        (reply_answer m Client (config_of_client c) a (m.share_form a.kex) (host_key_of_server m s a.host_key) (answer_of_server m c s a.kex).share (signature_of_server m c s a) ∙ client_answer)

    pub client_trusts : d.host_key a.host_key (host_key_of_server m s a.host_key) ≡ true
        → reply_at (client_setup m d c) (version_of s.side) (written_message (KexInit (server_offer s)) ∷ []) reply_payload ≡ goes (written_message NewKeys ∷ written_message (ServiceRequest userauth) ∷ [])
    unfolding session_between
    client_trusts decided_yes =
        client_replied
        ∙ ap (λ (b : Bool). if b then signed_by m (client_unswitched [] c.plan) (exchange_between m c s a) (signature_of_server m c s a) (Some (answer_of_server m c s a.kex)) else fails fault.HostKey) decided_yes
        ∙ ap (λ (b : Bool). if b then goes (written_message NewKeys ∷ written_message (ServiceRequest userauth) ∷ []) else fails fault.Signature) (compatible.host_key a chosen decided_yes (session_between m c s a))

    pub client_refuses : d.host_key a.host_key (host_key_of_server m s a.host_key) ≡ false
        → reply_at (client_setup m d c) (version_of s.side) (written_message (KexInit (server_offer s)) ∷ []) reply_payload ≡ fails fault.HostKey
    client_refuses decided_no =
        client_replied
        ∙ ap (λ (b : Bool). if b then signed_by m (client_unswitched [] c.plan) (exchange_between m c s a) (signature_of_server m c s a) (Some (answer_of_server m c s a.kex)) else fails fault.HostKey) decided_no

    -- the server
    abbrev pub server_known : Option ℕ → Result AlgorithmsData NoCommon → List ℕ → ℕ → CompletedMethodsData → Known
    server_known allowance r session request completed = record {
      version = version_of c.side;
      kexinit = written_message (KexInit (client_offer c));
      algorithms = chosen_or r;
      shares = shares_by m r;
      session = session;
      request = request;
      left = [];
      completed = completed;
      strict = is_strict s.side.strict Server (client_offer c);
      first = false;
      allowance = allowance;
    }

    -- up to NEWKEYS, and after it
    abbrev pub server_unswitched : List ℕ → ℕ → CompletedMethodsData → Known
    server_unswitched session request completed = server_known None (Ok a) session request completed

    abbrev pub server_view : List ℕ → ℕ → CompletedMethodsData → Known
    server_view session request completed = server_known s.side.ignored_limit (Ok a) session request completed

    pub server_begins : Sits (server_setup m d s) (version_of c.side) (written_message (KexInit (client_offer c)) ∷ []) phase.Exchange (c.guess && not (is_right_guess (client_offer c) (server_offer s))) (server_unswitched [] 1 none_completed)
    server_begins =
        subst (λ (r : Result AlgorithmsData NoCommon). Sits (server_setup m d s) (version_of c.side) (written_message (KexInit (client_offer c)) ∷ []) phase.Exchange (c.guess && not (is_right_guess (client_offer c) (server_offer s))) (server_known None r [] 1 none_completed))
        chosen (begins (server_setup m d s) (version_of c.side) (written_message (KexInit (client_offer c))) (client_offer c) (offers.client Mpint))

    abbrev pub init_payload : List ℕ
    init_payload = init_for m (config_of_client c) a.kex

    server_same : (f : ShareForm) → exchange_with m Server (config_of_server s) a (version_of c.side) (written_message (KexInit (client_offer c))) (Ok (init_in f (m.share a.kex c.side.random))) ≡ exchange_between m c s a
    unfolding exchange_with exchange_by kexinit_payload written_message
    server_same Mpint = refl
    server_same OctetString = refl
    server_same Hybrid = refl

    pub server_exchanges : (before : Units) → Sits (server_setup m d s) (version_of c.side) before phase.Exchange false (server_unswitched [] 1 none_completed)
        → Sits (server_setup m d s) (version_of c.side) (before ++ init_payload ∷ []) phase.NewKeys false (server_unswitched (session_between m c s a) 1 none_completed)
    unfolding session_between
    server_exchanges before sits =
        subst (λ (x : ExchangeData). Sits (server_setup m d s) (version_of c.side) (before ++ init_payload ∷ []) phase.NewKeys false (server_unswitched (exchange_hash m a.kex x) 1 none_completed)) (server_same (m.share_form a.kex))
        (goes_exchanged (server_setup m d s) (version_of c.side) before init_payload (server_unswitched [] 1 none_completed) (init_in (m.share_form a.kex) (m.share a.kex c.side.random)) sits readable.init (init_number (m.share_form a.kex) (m.share a.kex c.side.random)))

    pub init_begun : message_number init_payload ≡ 30
    init_begun = init_kind m (config_of_client c) a.kex

    pub server_hashed : exchange_received m Server (config_of_server s) (server_unswitched [] 1 none_completed) init_payload ≡ exchange_between m c s a
    server_hashed = ap (λ r. exchange_with m Server (config_of_server s) a (version_of c.side) (written_message (KexInit (client_offer c))) r) readable.init ∙ server_same (m.share_form a.kex)

    -- a client doesn't ask for extensions, so none are told
    marker_unasking : (strict : Bool) → is_in (own_marker Client strict) (codes "ext-info-c") ≡ false
    marker_unasking true = refl
    marker_unasking false = refl

    none_told : told_by (config_of_server s) (server_unswitched [] 1 none_completed) ≡ []
    none_told =
        let asks : Bool = asks_for_extensions (written_message (KexInit (client_offer c))) in
        let marked : is_in (client_offer c).kex_algorithms (codes "ext-info-c") ≡ false =
        list_any-append (λ own. bytes_eq (codes "ext-info-c") own) c.side.kex_algorithms (own_marker Client c.side.strict) ∙ rw (sound.client_unasking, marker_unasking c.side.strict) refl in
        sym (told_unasked s.signature_algorithms asks asks refl (ap (λ r. asks_by (offer_by r)) (offers.client Mpint) ∙ marked))

    pub server_answers : (before : Units) → Sits (server_setup m d s) (version_of c.side) before phase.Exchange false (server_unswitched [] 1 none_completed)
        → reply_at (server_setup m d s) (version_of c.side) before init_payload ≡ goes (reply_payload ∷ written_message NewKeys ∷ [])
    unfolding init_reply session_between
    server_answers before sits =
        reads (server_setup m d s) (version_of c.side) before init_payload phase.Exchange false (server_unswitched [] 1 none_completed) (init_in (m.share_form a.kex) (m.share a.kex c.side.random))
        (ap is_ignorable (init_number (m.share_form a.kex) (m.share a.kex c.side.random))) sits readable.init
        (ap (λ (n : ℕ). disposition_by Server phase.Exchange (server_unswitched [] 1 none_completed).strict false (is_waiting (server_unswitched [] 1 none_completed).left) n) (init_number (m.share_form a.kex) (m.share a.kex c.side.random)) ∙ leaving_line _ Server phase.Exchange (server_unswitched [] 1 none_completed).strict)
        ∙ work_init (server_setup m d s) (server_unswitched [] 1 none_completed) (m.share_form a.kex) (m.share a.kex c.side.random)
        ∙ ap (λ (x : ExchangeData). answered_by m d (config_of_server s) (server_unswitched [] 1 none_completed) x (answer_with m Server (config_of_server s) a (Ok (init_in (m.share_form a.kex) (m.share a.kex c.side.random))))) (server_same (m.share_form a.kex))
        ∙ ap (λ (o : Option ResponseData). answered_by m d (config_of_server s) (server_unswitched [] 1 none_completed) (exchange_between m c s a) o) (init_answer m Server (config_of_server s) a (m.share_form a.kex) (m.share a.kex c.side.random) ∙ responded)
        ∙ ap (signed_reply (config_of_server s) (server_unswitched [] 1 none_completed) (exchange_between m c s a)) (signed_held m d 0 a.host_key (secret_of s.host_keys a.host_key) (session_between m c s a) (compatible.host_key_held a chosen))
        ∙ ap (λ (told : Units). goes (reply_payload ∷ written_message NewKeys ∷ told)) none_told

    -- a wrong guess
    pub server_drops : (payload : List ℕ) → message_number payload ≡ 30 → (before : Units) → Sits (server_setup m d s) (version_of c.side) before phase.Exchange true (server_unswitched [] 1 none_completed)
        → (reply_at (server_setup m d s) (version_of c.side) before payload ≡ goes []) × Sits (server_setup m d s) (version_of c.side) (before ++ payload ∷ []) phase.Exchange false (server_unswitched [] 1 none_completed)
    server_drops payload is before sits = (
      drops (server_setup m d s) (version_of c.side) before payload phase.Exchange true (server_unswitched [] 1 none_completed) sits (ap (λ (n : ℕ). disposition_by Server phase.Exchange (server_unswitched [] 1 none_completed).strict true (is_waiting (server_unswitched [] 1 none_completed).left) n) is ∙ drops_line _ (server_unswitched [] 1 none_completed).strict),
      goes_dropped (server_setup m d s) (version_of c.side) before payload phase.Exchange (server_unswitched [] 1 none_completed) sits (ap (λ (n : ℕ). n == 1) is),
    )

    -- AUTHENTICATION: the client
    pub client_accepted : (before : Units) (session : List ℕ) (plan : List AttemptData) → Sits (client_setup m d c) (version_of s.side) before phase.Service false (client_view session plan)
        → (reply_at (client_setup m d c) (version_of s.side) before (written_message (ServiceAccept userauth)) ≡ attempt_reply m d session plan)
        × Sits (client_setup m d c) (version_of s.side) (before ++ written_message (ServiceAccept userauth) ∷ []) phase.Auth false (client_view session plan)
    unfolding worked
    client_accepted before session plan sits = (
      reads (client_setup m d c) (version_of s.side) before (written_message (ServiceAccept userauth)) phase.Service false (client_view session plan) (ServiceAccept userauth) refl sits (accept_read (m.share_form a.kex))
          (leaving_line _ Client phase.Service (client_view session plan).strict),
      goes_leaving (client_setup m d c) (version_of s.side) before (written_message (ServiceAccept userauth)) phase.Service (client_view session plan) (ServiceAccept userauth) sits refl (accept_read Mpint) refl,
    )

    pub client_greeted : (before : Units) (session text : List ℕ) (plan : List AttemptData) → s.banner ≡ Some text → Sits (client_setup m d c) (version_of s.side) before phase.Auth false (client_view session plan)
        → (reply_at (client_setup m d c) (version_of s.side) before (written_message (UserauthBanner text [])) ≡ goes [])
        × Sits (client_setup m d c) (version_of s.side) (before ++ written_message (UserauthBanner text []) ∷ []) phase.Auth false (client_view session plan)
    unfolding worked
    client_greeted before session text plan has sits = (
      reads (client_setup m d c) (version_of s.side) before (written_message (UserauthBanner text [])) phase.Auth false (client_view session plan) (UserauthBanner text []) refl sits (readable.banner text has (m.share_form a.kex))
          (auth_line _ (client_view session plan).strict 53 (inr refl)),
      goes_staying (client_setup m d c) (version_of s.side) before (written_message (UserauthBanner text [])) phase.Auth (client_view session plan) (UserauthBanner text []) refl sits (readable.banner text has Mpint) stays_53,
    )

    pub client_failed : (partial : Bool) → ReadsAgain (UserauthFailure s.methods partial) → (before : Units) (session : List ℕ) (plan : List AttemptData)
        → Sits (client_setup m d c) (version_of s.side) before phase.Auth false (client_view session plan)
        → (reply_at (client_setup m d c) (version_of s.side) before (written_message (UserauthFailure s.methods partial)) ≡ attempt_reply m d session (next_after s.methods plan))
        × Sits (client_setup m d c) (version_of s.side) (before ++ written_message (UserauthFailure s.methods partial) ∷ []) phase.Auth false (client_view session (next_after s.methods plan))
    unfolding worked
    client_failed partial read before session plan sits = (
      reads (client_setup m d c) (version_of s.side) before (written_message (UserauthFailure s.methods partial)) phase.Auth false (client_view session plan) (UserauthFailure s.methods partial) refl sits (read (m.share_form a.kex))
          (auth_line _ (client_view session plan).strict 51 (inl refl)),
      goes_staying (client_setup m d c) (version_of s.side) before (written_message (UserauthFailure s.methods partial)) phase.Auth (client_view session plan) (UserauthFailure s.methods partial) refl sits (read Mpint) stays_51,
    )

    -- PK_OK to a query
    pub client_confirmed : (user service algorithm secret : List ℕ) (later : List AttemptData) → ReadsAgain (UserauthPkOk algorithm (m.blob algorithm secret)) → (before : Units) (session : List ℕ)
        → Sits (client_setup m d c) (version_of s.side) before phase.Auth false (client_view session (record { user = user; service = service; proving = ByKey algorithm secret true } ∷ later))
        → (reply_at (client_setup m d c) (version_of s.side) before (written_message (UserauthPkOk algorithm (m.blob algorithm secret)))
        ≡ attempt_reply m d session (record { user = user; service = service; proving = ByKey algorithm secret false } ∷ later))
        × Sits (client_setup m d c) (version_of s.side) (before ++ written_message (UserauthPkOk algorithm (m.blob algorithm secret)) ∷ []) phase.Auth false
        (client_view session (record { user = user; service = service; proving = ByKey algorithm secret false } ∷ later))
    unfolding worked
    client_confirmed user service algorithm secret later read before session sits =
        let x : AttemptData = record { user = user; service = service; proving = ByKey algorithm secret true } in
        let y : AttemptData = record { user = user; service = service; proving = ByKey algorithm secret false } in (
          reads (client_setup m d c) (version_of s.side) before (written_message (UserauthPkOk algorithm (m.blob algorithm secret))) phase.Auth false (client_view session (x ∷ later)) (UserauthPkOk algorithm (m.blob algorithm secret)) refl sits (read (m.share_form a.kex))
              (confirms_line (client_view session (x ∷ later)).strict)
              ∙ ap (λ (b : Bool). if b then attempt_reply m d session (y ∷ later) else fails (fault.Unexpected 60)) (and_from (bytes_eq algorithm algorithm) (bytes_eq (m.blob algorithm secret) (m.blob algorithm secret)) (bytes_self algorithm) (bytes_self (m.blob algorithm secret))),
          goes_staying (client_setup m d c) (version_of s.side) before (written_message (UserauthPkOk algorithm (m.blob algorithm secret))) phase.Auth (client_view session (x ∷ later)) (UserauthPkOk algorithm (m.blob algorithm secret)) refl sits (read Mpint) stays_60,
        )

    pub client_succeeds : (before : Units) (session : List ℕ) (r : AttemptData) (later : List AttemptData) → Sits (client_setup m d c) (version_of s.side) before phase.Auth false (client_view session (r ∷ later))
        → reply_at (client_setup m d c) (version_of s.side) before (written_message UserauthSuccess)
        ≡ record { answers = []; end = Authenticated (record { algorithms = a; strict = is_strict c.side.strict Client (server_offer s); session = session; user = r.user; service = r.service }) }
    unfolding worked
    client_succeeds before session r later sits =
        reads (client_setup m d c) (version_of s.side) before (written_message UserauthSuccess) phase.Auth false (client_view session (r ∷ later)) UserauthSuccess refl sits (success_read (m.share_form a.kex))
        (leaving_line _ Client phase.Auth (client_view session (r ∷ later)).strict)

    -- the server
    pub server_accepts : (before : Units) (session : List ℕ) (n : ℕ) (g : CompletedMethodsData) → Sits (server_setup m d s) (version_of c.side) before phase.Service false (server_view session n g)
        → (reply_at (server_setup m d s) (version_of c.side) before (written_message (ServiceRequest userauth)) ≡ goes (written_message (ServiceAccept userauth) ∷ banner_by s.banner))
        × Sits (server_setup m d s) (version_of c.side) (before ++ written_message (ServiceRequest userauth) ∷ []) phase.Auth false (server_view session n g)
    unfolding worked
    server_accepts before session n g sits = (
      reads (server_setup m d s) (version_of c.side) before (written_message (ServiceRequest userauth)) phase.Service false (server_view session n g) (ServiceRequest userauth) refl sits (service_read (m.share_form a.kex))
          (leaving_line _ Server phase.Service (server_view session n g).strict),
      goes_leaving (server_setup m d s) (version_of c.side) before (written_message (ServiceRequest userauth)) phase.Service (server_view session n g) (ServiceRequest userauth) sits refl (service_read Mpint) refl,
    )

    pub server_asked_for : (before : Units) (n i : ℕ) (g : CompletedMethodsData) (r : AttemptData) → slice_get (offered m d s c.plan) i ≡ Some r
        → Sits (server_setup m d s) (version_of c.side) before phase.Auth false (server_view (session_between m c s a) n g)
        → (reply_at (server_setup m d s) (version_of c.side) before (held_request m (session_between m c s a) r)
        ≡ request_reply m d (config_of_server s) (server_view (session_between m c s a) n g) r.user r.service (held_method m (session_between m c s a) r.user r.service r.proving))
        × Sits (server_setup m d s) (version_of c.side) (before ++ held_request m (session_between m c s a) r ∷ []) phase.Auth false
        (server_view (session_between m c s a) (n + 1) (completed_after_one g (tried_with r.user r.service (held_method m (session_between m c s a) r.user r.service r.proving)
        (is_successful_at m d (config_of_server s) (session_between m c s a) n r.user r.service (held_method m (session_between m c s a) r.user r.service r.proving)))))
    unfolding worked
    server_asked_for before n i g r at sits = (
      reads (server_setup m d s) (version_of c.side) before (held_request m (session_between m c s a) r) phase.Auth false (server_view (session_between m c s a) n g) (UserauthRequest r.user r.service (held_method m (session_between m c s a) r.user r.service r.proving)) refl
          sits (readable.requests i r at (m.share_form a.kex)) (leaving_line _ Server phase.Auth (server_view (session_between m c s a) n g).strict),
      goes_leaving (server_setup m d s) (version_of c.side) before (held_request m (session_between m c s a) r) phase.Auth (server_view (session_between m c s a) n g) (UserauthRequest r.user r.service (held_method m (session_between m c s a) r.user r.service r.proving))
          sits refl (readable.requests i r at Mpint) refl,
    )
