-- What an endpoint hands over that ended authenticated: both directions have keys.

use Rattle.std.proofs.Common.{◌≡◌, ◌≢◌, ◌⊎◌, inl, inr, ℕ, Bool, true, false, cond, List, [], ◌∷◌, ◌++◌, codes, Option, None, Some, Vec, Global, Result, Ok, Err, refl, sym, ap, ◌∙◌, subst, append_assoc, arith}
use Rattle.std.specs.List.{list_any}
use Rattle.std.proofs.lemmas.Bool.{and_parts, cases_Bool, eq-eqb, eqb-true, true≢false}
use Rattle.std.proofs.lemmas.List.{append-nil}
use Rattle.sshwire.specs.declared.share_form.ShareForm.{ShareForm}
use Rattle.sshwire.specs.declared.share_form.ShareForm.TheVariants.{Hybrid, Mpint, OctetString}
use Rattle.sshwire.specs.LineReaderData.{PeerLineReaderData}
use Rattle.sshmsg.specs.declared.fault.MsgFault.{MsgFault}
use Rattle.sshmsg.specs.MessageData.{KexEcdhInit, KexEcdhReply, KexdhInit, KexdhReply, MessageData, NewKeys, ServiceRequest, method_name}
use Rattle.sshmsg.specs.Messages.{message_in}
use Rattle.sshmsg.specs.Numbers.{message_number, number_of}
use Rattle.sshmsg.specs.Written.{written_message}
use Rattle.sshneg.specs.declared.side.Side.{Side}
use Rattle.sshneg.specs.declared.side.Side.TheVariants.{Client, Server}
use Rattle.sshneg.specs.Derivations.{ExchangeData}
use Rattle.sshneg.specs.ExchangeEnd.{exchange_hash}
use Rattle.sshneg.specs.Markers.{other}
use Rattle.sshpacket.specs.KeysData.{KeysData}
use Rattle.sshpacket.specs.declared.reader.PacketReader.{PacketReader}
use Rattle.sshpacket.specs.Parse.{Refusal}
use Rattle.sshpacket.specs.Places.{EachPlace, after_first, flat_places}
use Rattle.sshpacket.specs.PacketReaderData.{PacketReaderData, packet_reader_data}
use Rattle.sshpacket.specs.Stream.{Units}
use Rattle.sshpacket.specs.Suite.{ResponseData, SuiteData, all_advanced}
use Rattle.sshpacket.specs.Written.{after_all}
use Rattle.sshpacket.proofs.Places.{flat-push}
use Rattle.sshcore.specs.declared.end.Agreed.{Agreed}
use Rattle.sshcore.specs.declared.end.End.{End}
use Rattle.sshcore.specs.declared.end.End.TheVariants as end
use Rattle.sshcore.specs.declared.end.Fault.{Fault}
use Rattle.sshcore.specs.declared.end.Fault.TheVariants as fault
use Rattle.sshcore.specs.declared.input.Input.{Input}
use Rattle.sshcore.specs.declared.input.Input.TheVariants as input
use Rattle.sshcore.specs.declared.session.Accepted.{Accepted}
use Rattle.sshcore.specs.declared.session.Session.{Session}
use Rattle.sshcore.specs.declared.session.UserKey.{UserKey}
use Rattle.sshcore.specs.declared.phase_table.Disposition.{Disposition}
use Rattle.sshcore.specs.declared.phase_table.Phase.{Phase}
use Rattle.sshcore.specs.declared.phase_table.Phase.TheVariants as phase
use Rattle.sshcore.specs.Authenticated.{IsAuthenticated}
use Rattle.sshcore.specs.Before.{expects_guess, kept, stood, strict_at}
use Rattle.sshcore.specs.Counting.{is_newkeys, number_in, number_out, switched_out}
use Rattle.sshcore.specs.Directions.{keys_in, keys_out, payloads_in, sizes_since, version_in}
use Rattle.sshcore.specs.EndData.{AgreedData, Authenticated, EndData, Failed, Open, Reply, agreed_data, end_data, fails, goes}
use Rattle.sshcore.specs.Exchange.{answer_with, exchange_at, exchange_with, keys_at, secret_of}
use Rattle.sshcore.specs.Inputs.{AsReceived, CutOff, EndpointStands, IsInside, Left, StandsSo}
use Rattle.sshcore.specs.StateData.{StateData, user_key_data}
use Rattle.sshcore.specs.KnownBefore.{Known, known_at, waits_at}
use Rattle.sshcore.specs.Output.{Sending}
use Rattle.sshcore.specs.EndpointParts.{ConfigData, DecisionsData, Setup, UserKeyData, setup_with}
use Rattle.sshcore.specs.Phases.{leaving, past_exchange}
use Rattle.sshcore.specs.CompletedMethods.{CompletedMethodsData, Tried, completed_after, is_successful_for, none_completed, run_of}
use Rattle.sshcore.specs.Replies.{Ends, Replies, allowed, answers_at, disposition_reply, end_at, ended, goes_on, read_reply, refusal_reply}
use Rattle.sshcore.specs.Sessions.{AcceptedBy, HasAccepted, IsSession}
use Rattle.sshcore.specs.Standing.{Tied}
use Rattle.sshcore.specs.Table.{disposition_by}
use Rattle.sshcore.specs.Tries.{last_key, successful_keys_at, tried_at, tried_with}
use Rattle.sshcore.specs.Work.{making, reply_in, signed_by, signed_reply, userauth, told_by}
use Rattle.sshcore.proofs.StepLemmas.{answered_by, init_reply, reply_reply, signature_by, trusted_by, work_is, worked}
use Rattle.sshcore.proofs.IgnoredLimitLemmas.{always_allowed, exchange_heeded}
use Rattle.sshcore.proofs.AuthenticatedLemmas.{auth_switched, authenticated, ends_tried, last_tied, none_refused}
use Rattle.sshcore.proofs.LawsBelow.{Below}
use Rattle.sshcore.proofs.PhaseLemmas.{kept_dropped, stood_push, tied_phase}
use Rattle.sshcore.proofs.CompletedMethodsLemmas.{password_now, publickey_now}
use Rattle.sshcore.proofs.StreamLemmas.{switched_append}
use Rattle.sshcore.proofs.StrictLaws.{begun_none, not_open, stands}
use Rattle.sshcore.proofs.StrictStages.{Follows}
use Rattle.sshcore.proofs.StrictSteps.{Fails, Goes, Off, Step, disposition_is, step}
use Rattle.sshcore.proofs.TableLemmas.{Closing, Dropped, Leaving, OffGuess, OffPhase, Sees, Staying, Useless, sees}

-- NEWKEYS is sent
abbrev Switches : Units → Type 0
Switches answers = switched_out answers ≡ true

switches_first : (answers more : Units) → Switches answers → Switches (answers ++ more)
switches_first answers more on = switched_append answers more ∙ rw on refl

switches_last : (answers more : Units) → Switches more → Switches (answers ++ more)
switches_last answers more on = switched_append answers more ∙ rw on (by (switched_out answers))
  where
    by : (b : Bool) → cond b true true ≡ true
    by true = refl
    by false = refl

module _ (m : SuiteData) (d : DecisionsData) (config : ConfigData) (known : Known) (x : ExchangeData) where
  -- an exchange message that leaves the endpoint open is answered by NEWKEYS
  hashed_switches : (found : Option (List ℕ)) → (signed_reply config known x found).end ≡ Open → Switches (signed_reply config known x found).answers
  unfolding switched_out written_message
  hashed_switches None is_open = absurd cc
  hashed_switches (Some found) is_open = by known.shares found
    where
      by : (form : ShareForm) (signature : List ℕ) → Switches (written_message (reply_in form x.host_key x.server_share signature) ∷ written_message NewKeys ∷ told_by config known)
      by Mpint signature = refl
      by OctetString signature = refl
      by Hybrid signature = refl

  answered_switches : (r : Option ResponseData) → (answered_by m d config known x r).end ≡ Open → Switches (answered_by m d config known x r).answers
  answered_switches None is_open = absurd cc
  answered_switches (Some answer) is_open =
      hashed_switches (signature_by m d 0 known.algorithms.host_key (secret_of config.host_keys known.algorithms.host_key) (exchange_hash m known.algorithms.kex x)) is_open

  signed_switches : (signature : List ℕ) (r : Option ResponseData) → (signed_by m known x signature r).end ≡ Open → Switches (signed_by m known x signature r).answers
  unfolding switched_out written_message
  signed_switches signature None is_open = absurd cc
  signed_switches signature (Some answer) is_open = by (m.verify known.algorithms.host_key x.host_key (exchange_hash m known.algorithms.kex x) signature) is_open
    where
      by : (b : Bool) → (cond b (goes (written_message NewKeys ∷ written_message (ServiceRequest userauth) ∷ [])) (fails fault.Signature)).end ≡ Open
          → Switches (cond b (goes (written_message NewKeys ∷ written_message (ServiceRequest userauth) ∷ [])) (fails fault.Signature)).answers
      by true o = refl
      by false o = absurd cc

  trusted_switches : (signature : List ℕ) (r : Option ResponseData) → (trusted_by m d known x signature r).end ≡ Open → Switches (trusted_by m d known x signature r).answers
  trusted_switches signature r is_open = by (d.host_key known.algorithms.host_key x.host_key) is_open
    where
      by : (b : Bool) → (cond b (signed_by m known x signature r) (fails fault.HostKey)).end ≡ Open → Switches (cond b (signed_by m known x signature r) (fails fault.HostKey)).answers
      by true o = signed_switches signature r o
      by false o = absurd cc

failed_open : (f : Fault) → Failed f ≡ Open → ⊥
failed_open f e = cc

module _ (below : Below) (setup : Setup) where
  exchange_switches : (known : Known) (c : MessageData) → (number_of c ≡ 30) ⊎ (number_of c ≡ 31) → (worked setup known c).end ≡ Open → Switches (worked setup known c).answers
  unfolding worked init_reply reply_reply
  exchange_switches known (KexdhInit e) two is_open = answered_switches setup.suite setup.decisions setup.config known (exchange_with setup.suite setup.role setup.config known.algorithms known.version known.kexinit (Ok (KexdhInit e)))
      (answer_with setup.suite setup.role setup.config known.algorithms (Ok (KexdhInit e))) is_open
  exchange_switches known (KexEcdhInit share) two is_open = answered_switches setup.suite setup.decisions setup.config known (exchange_with setup.suite setup.role setup.config known.algorithms known.version known.kexinit (Ok (KexEcdhInit share)))
      (answer_with setup.suite setup.role setup.config known.algorithms (Ok (KexEcdhInit share))) is_open
  exchange_switches known (KexdhReply key f signature) two is_open = trusted_switches setup.suite setup.decisions setup.config known (exchange_with setup.suite setup.role setup.config known.algorithms known.version known.kexinit (Ok (KexdhReply key f signature))) signature
      (answer_with setup.suite setup.role setup.config known.algorithms (Ok (KexdhReply key f signature))) is_open
  exchange_switches known (KexEcdhReply key share signature) two is_open = trusted_switches setup.suite setup.decisions setup.config known (exchange_with setup.suite setup.role setup.config known.algorithms known.version known.kexinit (Ok (KexEcdhReply key share signature))) signature
      (answer_with setup.suite setup.role setup.config known.algorithms (Ok (KexEcdhReply key share signature))) is_open
  exchange_switches known _ (inl e) is_open = absurd (omega (arith, e))
  exchange_switches known _ (inr e) is_open = absurd (omega (arith, e))

  read_switches : (known : Known) (payload : List ℕ) (r : Result MessageData MsgFault) → message_in known.shares payload ≡ r → (message_number payload ≡ 30) ⊎ (message_number payload ≡ 31)
      → (read_reply setup known (message_number payload) r).end ≡ Open → Switches (read_reply setup known (message_number payload) r).answers
  read_switches known payload (Ok c) e two is_open =
      subst (λ (x : Reply). Switches x.answers) (sym (work_is setup known c)) (exchange_switches known c (numbered two) (subst (λ (x : Reply). x.end ≡ Open) (work_is setup known c) is_open))
    where
      numbered : (message_number payload ≡ 30) ⊎ (message_number payload ≡ 31) → (number_of c ≡ 30) ⊎ (number_of c ≡ 31)
      numbered (inl n) = inl (sym (below.numbers known.shares payload c e) ∙ n)
      numbered (inr n) = inr (sym (below.numbers known.shares payload c e) ∙ n)
  read_switches known payload (Err f) e two is_open = absurd cc

  exchange_number : (r : Side) (n : ℕ) → n ≡ leaving r phase.Exchange → (n ≡ 30) ⊎ (n ≡ 31)
  exchange_number Client n e = inr e
  exchange_number Server n e = inl e

  not_closing : (r : Side) (n : ℕ) → n ≡ leaving r phase.Exchange → n ≡ 1 → ⊥
  not_closing Client n e one = omega arith
  not_closing Server n e one = omega arith

  module _ (version : List ℕ) (before : Units) (payload : List ℕ) where
    by_disposition : (known : Known) (packet : ℕ) (p : Phase) (l : Disposition) → Sees setup.role p (strict_at setup.role setup.config before) (expects_guess setup.role setup.config.offer before) (message_number payload) l
        → kept setup.role setup.config.offer (leaving setup.role phase.Exchange) before payload ≡ true → message_number payload ≡ leaving setup.role phase.Exchange
        → (disposition_reply setup known packet l payload).end ≡ Open → Switches (disposition_reply setup known packet l payload).answers
    unfolding disposition_reply
    by_disposition known packet p l (Closing one is) here number is_open = absurd (not_closing setup.role (message_number payload) number one)
    by_disposition known packet p l (Dropped one due r is) here number is_open = absurd (true≢false (sym here ∙ kept_dropped setup.role setup.config.offer before payload (leaving setup.role phase.Exchange) due one))
    by_disposition known packet p l (OffGuess one due r out is) here number is_open = absurd (failed_open (fault.Strict (message_number payload)) (rw is at is_open))
    by_disposition known packet p l (OffPhase one none r out is) here number is_open = absurd (failed_open (fault.Strict (message_number payload)) (rw is at is_open))
    by_disposition known packet p l (Useless none off out is) here number is_open = absurd (failed_open (fault.Unexpected (message_number payload)) (rw is at is_open))
    by_disposition known packet p l (Staying none off out quiet e) here number is_open =
        absurd (true≢false (sym (eq-eqb (message_number payload) (leaving setup.role phase.Exchange) number) ∙ quiet.leaves.exchange))
    by_disposition known packet p l (Leaving none at is) here number is_open =
        let r : Reply = read_reply setup known (message_number payload) (message_in known.shares payload) in
        let same : allowed known payload r ≡ r = always_allowed known payload r (exchange_heeded setup.role (message_number payload) number) in
        rw is (subst (λ (x : Reply). Switches x.answers) (sym same)
        (read_switches known payload (message_in known.shares payload) refl (exchange_number setup.role (message_number payload) number) (subst (λ (x : Reply). x.end ≡ Open) same (rw is at is_open))))

    -- where the exchange message is received, and the endpoint stays open, NEWKEYS is sent
    received_switches : (p : Phase) → Tied setup.role setup.config.offer before p → end_at setup (version ∷ before) payload ≡ Open
        → stood setup.role setup.config.offer (leaving setup.role phase.Exchange) before ≡ false → stood setup.role setup.config.offer (leaving setup.role phase.Exchange) (before ++ payload ∷ []) ≡ true
        → Switches (answers_at setup (version ∷ before) payload)
    received_switches p t is_open off on =
        let k = leaving setup.role phase.Exchange in
        let here : kept setup.role setup.config.offer k before payload ≡ true = sym (stood_push setup.role setup.config.offer before payload k ∙ rw off refl) ∙ on in
        let l = disposition_by setup.role p (strict_at setup.role setup.config before) (expects_guess setup.role setup.config.offer before) (waits_at setup.role setup.config before) (message_number payload) in
        let same = disposition_is below setup version before payload p t in
        let known = known_at setup version before in
        ap (λ (l : Disposition). switched_out (disposition_reply setup known (number_in setup.role setup.config before) l payload).answers) (sym same)
        ∙ by_disposition known (number_in setup.role setup.config before) p l (sees setup.role p (strict_at setup.role setup.config before) (waits_at setup.role setup.config before) (message_number payload) (expects_guess setup.role setup.config.offer before)) here
        (eqb-true (message_number payload) k (and_parts _ _ here).0)
        (ap (λ (l : Disposition). (disposition_reply setup known (number_in setup.role setup.config before) l payload).end) same ∙ is_open)

  -- an endpoint that stays open while the exchange message is received has sent NEWKEYS
  open_switches : (version : List ℕ) (before us : Units) (p : Phase) → Follows setup.role setup.config before p → EachPlace (λ b u. end_at setup b u ≡ Open) (version ∷ before) us
      → stood setup.role setup.config.offer (leaving setup.role phase.Exchange) before ≡ false → stood setup.role setup.config.offer (leaving setup.role phase.Exchange) (before ++ us) ≡ true
      → Switches (flat_places (answers_at setup) (version ∷ before) us)
  open_switches version before [] p f each off on = absurd (true≢false (sym (ap (stood setup.role setup.config.offer (leaving setup.role phase.Exchange)) (sym (append-nil before)) ∙ on) ∙ off))
  open_switches version before (u ∷ us) p f each off on = elim (cases_Bool (stood setup.role setup.config.offer (leaving setup.role phase.Exchange) (before ++ u ∷ []))) [
    | inl now ↦ switches_first (answers_at setup (version ∷ before) u) (flat_places (answers_at setup) (version ∷ (before ++ u ∷ [])) us)
        (received_switches version before u p f.tied each.0 off now)
    | inr still ↦ switches_last (answers_at setup (version ∷ before) u) (flat_places (answers_at setup) (version ∷ (before ++ u ∷ [])) us)
        (later (step below setup version before u p f) (λ q g. open_switches version (before ++ u ∷ []) us q g each.1 still
        (ap (stood setup.role setup.config.offer (leaving setup.role phase.Exchange)) (append_assoc before (u ∷ []) us) ∙ on)))
  ]
    where
      later : Step setup.role setup.config before u (end_at setup (version ∷ before) u) → ((q : Phase) → Follows setup.role setup.config (before ++ u ∷ []) q → Switches (flat_places (answers_at setup) (version ∷ (before ++ u ∷ [])) us))
          → Switches (flat_places (answers_at setup) (version ∷ (before ++ u ∷ [])) us)
      later (Goes q g) next = next q g
      later (Off e) next = absurd (not_open (message_number u) _ e each.0)
      later (Fails shut c) next = absurd (shut each.0)

  none_stood : stood setup.role setup.config.offer (leaving setup.role phase.Exchange) [] ≡ false
  unfolding stood
  none_stood = refl

  -- so has one that ended authenticated
  authenticated_switches : (units : Units) (refusal : Option Refusal) (answers : Units) (a : AgreedData) → Replies setup units refusal answers (Authenticated a) → Switches answers
  authenticated_switches units refusal answers a r = by r.ends
    where
      whole : Switches (flat_places (answers_at setup) [] units) → Switches answers
      whole on = ap switched_out r.in_order ∙ switches_last (making setup.suite setup.role setup.config) (flat_places (answers_at setup) [] units ++ (refusal_reply refusal).answers)
          (switches_first (flat_places (answers_at setup) [] units) (refusal_reply refusal).answers on)

      by : Ends setup units refusal (Authenticated a) → Switches answers
      by (goes_on stays is) = absurd (none_refused refusal a is)
      by (ended [] last units_are stays is shut none) = absurd cc
      by (ended (version ∷ before) last units_are stays is shut none) =
          let f = stands below setup version [] before phase.KexInit (begun_none below setup) stays.1 in
          let tied : Tied setup.role setup.config.offer before phase.Auth = last_tied below setup version before last f.0 f.1.tied a (sym is) in
          whole (ap (λ (l : Units). switched_out (flat_places (answers_at setup) [] l)) units_are
          ∙ ap switched_out (flat-push (answers_at setup) [] (version ∷ before) last)
          ∙ switches_first (flat_places (answers_at setup) [] (version ∷ before)) (answers_at setup (version ∷ before) last)
          (open_switches version [] before phase.KexInit (begun_none below setup) stays.1 none_stood tied.exchange))

-- What an endpoint keeps that ended authenticated: the keys of both directions, and the numbers of the next packets.
pub record HandsOver (m : SuiteData) (role : Side) (config : ConfigData) (units answers : Units) (sizes : List ℕ) (reading : PacketReaderData) (sending : Sending) : Type 0 where
  pub incoming : KeysData
  pub outgoing : KeysData
  pub reads_with : reading.keys ≡ Some incoming
  pub sends_with : sending.keys ≡ Some outgoing
  pub incoming_keys : keys_in m role config (version_in units) (payloads_in units) sizes ≡ Some incoming
  pub incoming_number : reading.seq ≡ number_in role config (payloads_in units)
  pub outgoing_keys : keys_out m role config units answers ≡ Some outgoing
  pub outgoing_number : sending.number ≡ number_out (strict_at role config (payloads_in units)) answers

-- an endpoint that ended authenticated was refused nothing, and isn't open
none_refused_at : (setup : Setup) (units : Units) (refusal : Option Refusal) (a : AgreedData) → Ends setup units refusal (Authenticated a) → refusal ≡ None
none_refused_at setup units refusal a (goes_on stays is) = absurd (none_refused refusal a is)
none_refused_at setup units refusal a (ended before last units_are stays is shut none) = none

authenticated_shut : (end : EndData) (a : AgreedData) → end ≡ Authenticated a → end ≢ Open
authenticated_shut end a is is_open = cc

pub uncut_end : (received_end end : EndData) (a : AgreedData) → StandsSo received_end end → end ≡ Authenticated a → received_end ≡ Authenticated a
uncut_end received_end end a (AsReceived same) is = sym same ∙ is
uncut_end received_end end a (CutOff was_open cut) is = absurd cc
uncut_end received_end end a (Left reason was_open left) is = absurd cc

module _ (below : Below) (setup : Setup) where
  module _ (kept : StateData) (i : Input) (h s : List ℕ) (p : EndpointStands setup kept i h s) (a : AgreedData) (is : kept.end ≡ Authenticated a) where
    replies : Replies setup p.units p.refusal p.answers (Authenticated a)
    replies = subst (Replies setup p.units p.refusal p.answers) (uncut_end p.received_end kept.end a p.ends is) p.history.replies

    ended_so : IsAuthenticated setup p.units a
    ended_so = authenticated below setup p.units p.refusal a replies.ends

    inside : IsInside setup p.units p.answers p.sizes p.rest kept i
    inside = p.inside (inr (a, is))

    -- nothing stands after the bytes that it used
    pub none_left : p.rest ≡ []
    none_left = p.history.last (authenticated_shut p.received_end a (uncut_end p.received_end kept.end a p.ends is)) (none_refused_at setup p.units p.refusal a replies.ends)

  by_packets : (kept : StateData) (reader : PacketReader) (h s : List ℕ) (p : EndpointStands setup kept (input.Packets reader) h s) (a : AgreedData) → kept.end ≡ Authenticated a
      → HandsOver setup.suite setup.role setup.config p.units p.answers p.sizes (packet_reader_data reader) kept.sending
  by_packets kept reader h s p a is =
      let e = ended_so kept (input.Packets reader) h s p a is in
      let inner = inside kept (input.Packets reader) h s p a is in
      let on = authenticated_switches below setup p.units p.refusal p.answers a (replies kept (input.Packets reader) h s p a is) in
      let version = inner.reads.0 in
      let before = inner.reads.1 in
      let units_are : p.units ≡ version ∷ before = inner.reads.2 in
      let reading : packet_reader_data reader ≡ record { keys = keys_in setup.suite setup.role setup.config version before p.sizes; seq = number_in setup.role setup.config before; held = p.rest; fault = None } = inner.reads.3 in
      let incoming : KeysData = all_advanced setup.suite (keys_at setup.suite setup.role setup.config (version_in p.units) (payloads_in p.units) (other setup.role)) (sizes_since setup.role setup.config (payloads_in p.units) p.sizes) in
      let outgoing : KeysData = after_all setup.suite (keys_at setup.suite setup.role setup.config (version_in p.units) (payloads_in p.units) setup.role) (after_first is_newkeys [] p.answers) in
      let in_keys : keys_in setup.suite setup.role setup.config (version_in p.units) (payloads_in p.units) p.sizes ≡ Some incoming =
      rw (auth_switched setup.role setup.config.offer (payloads_in p.units) e.stays_in_auth) refl in
      let out_keys : keys_out setup.suite setup.role setup.config p.units p.answers ≡ Some outgoing = rw on refl in
      record {
        incoming = incoming;
        outgoing = outgoing;
        reads_with = ap (λ (r : PacketReaderData). r.keys) reading ∙ ap (λ (l : Units). keys_in setup.suite setup.role setup.config (version_in l) (payloads_in l) p.sizes) (sym units_are) ∙ in_keys;
        sends_with = inner.speaks.keys ∙ out_keys;
        incoming_keys = in_keys;
        incoming_number = ap (λ (r : PacketReaderData). r.seq) reading ∙ ap (λ (l : Units). number_in setup.role setup.config (payloads_in l)) (sym units_are);
        outgoing_keys = out_keys;
        outgoing_number = inner.speaks.number;
      }

  -- an endpoint that ended authenticated reads packets
  none_by_lines : (kept : StateData) (i : Input) (reader : PeerLineReaderData) → i ≡ input.Lines reader → (h s : List ℕ) (p : EndpointStands setup kept i h s) (a : AgreedData) → kept.end ≡ Authenticated a → ⊥
  none_by_lines kept (input.Lines r) reader same h s p a is =
      let e = ended_so kept (input.Lines r) h s p a is in
      let none : p.units ≡ [] = (inside kept (input.Lines r) h s p a is).reads.0 in
      let some = e.units_are in
      cc
  none_by_lines kept (input.Packets r) reader same h s p a is = cc

  pub packets_at : (kept : StateData) (i : Input) (h s : List ℕ) (p : EndpointStands setup kept i h s) (a : AgreedData) → kept.end ≡ Authenticated a → (reader : PacketReader) × (i ≡ input.Packets reader)
  packets_at kept (input.Lines r) h s p a is = absurd (none_by_lines kept (input.Lines r) r refl h s p a is)
  packets_at kept (input.Packets r) h s p a is = (r, refl)

  pub hands_over : (kept : StateData) (i : Input) (reader : PacketReader) → i ≡ input.Packets reader → (h s : List ℕ) (p : EndpointStands setup kept i h s) (a : AgreedData) → kept.end ≡ Authenticated a
      → HandsOver setup.suite setup.role setup.config p.units p.answers p.sizes (packet_reader_data reader) kept.sending
  hands_over kept (input.Lines r) reader same h s p a is = absurd cc
  hands_over kept (input.Packets r) reader same h s p a is =
      let e : r ≡ reader = cc in
      subst (λ (x : PacketReader). HandsOver setup.suite setup.role setup.config p.units p.answers p.sizes (packet_reader_data x) kept.sending) e (by_packets kept r h s p a is)

-- an end that is authenticated
pub authenticated_at : (e : End) (a : AgreedData) → end_data e ≡ Authenticated a → (agreed : Agreed) × (e ≡ end.Authenticated agreed)
authenticated_at end.Open a is = absurd cc
authenticated_at (end.Authenticated x) a is = (x, refl)
authenticated_at (end.Failed f) a is = absurd cc
authenticated_at (end.Closed reason) a is = absurd cc
authenticated_at (end.Disconnected reason) a is = absurd cc

-- what is handed over besides: both version lines, the host key, and how the user was accepted
pub record HandsOn (setup : Setup) (units : Units) (a : AgreedData) (own_version peer_version host_key : List ℕ) (accepted : Option Accepted) : Type 0 where
  pub own_version_is : own_version ≡ setup.config.version
  pub peer_version_is : peer_version ≡ version_in units
  pub host_key_is : host_key ≡ (exchange_at setup.suite setup.role setup.config (version_in units) (payloads_in units)).host_key
  pub accepted_is : HasAccepted setup.suite setup.decisions setup.role setup.config (version_in units) (payloads_in units) a accepted

-- a key that is there or not
key_there : (b : Bool) (key : Option UserKey) → user_key_data (cond b key None) ≡ cond b (user_key_data key) None
key_there true key = refl
key_there false key = refl

module _ (below : Below) (setup : Setup) (kept : StateData) (i : Input) (h s : List ℕ) (p : EndpointStands setup kept i h s) (a : AgreedData) (is : kept.end ≡ Authenticated a) where
  abbrev tried : List Tried
  tried = tried_at setup (version_in p.units) (payloads_in p.units)

  abbrev keys : List UserKeyData
  keys = successful_keys_at setup (version_in p.units) (payloads_in p.units)

  inner : IsInside setup p.units p.answers p.sizes p.rest kept i
  inner = inside below setup kept i h s p a is

  past : past_exchange kept.phase ≡ true
  past =
      let e = ended_so below setup kept i h s p a is in
      ap past_exchange (sym (tied_phase setup.role setup.config.offer (payloads_in p.units) kept.phase inner.sits.tied) ∙ e.stays_in_auth)

  completed_is : completed_after none_completed tried ≡ kept.known.completed
  completed_is = ap (λ (k : Known). k.completed) inner.sits.knows

  -- at a server
  came_in : setup.role ≡ Server → (key : Option UserKey) → user_key_data key ≡ kept.carried.user_key
      → AcceptedBy tried keys a.user a.service (record { password = kept.known.completed.password; key = cond kept.known.completed.publickey key None })
  came_in server key same =
      let t = ends_tried below setup p.units p.refusal a (replies below setup kept i h s p a is).ends server in
      let by : Tried = tried_with a.user a.service t.1 true in
      record {
        password = sym (ap (λ (r : CompletedMethodsData). r.password) completed_is) ∙ ap (λ (l : List Tried). (completed_after none_completed l).password) t.2
            ∙ password_now t.0 by (method_name t.1) refl ∙ ap (λ (l : List Tried). list_any (is_successful_for (codes "password")) (run_of a.user a.service l)) (sym t.2);
        key = key_there kept.known.completed.publickey key
            ∙ ap (λ (k : Option UserKeyData). cond kept.known.completed.publickey k None) (same ∙ inner.carries.user_key)
            ∙ ap (λ (b : Bool). cond b (last_key None keys) None) (sym (ap (λ (r : CompletedMethodsData). r.publickey) completed_is) ∙ ap (λ (l : List Tried). (completed_after none_completed l).publickey) t.2
            ∙ publickey_now t.0 by (method_name t.1) refl ∙ ap (λ (l : List Tried). list_any (is_successful_for (codes "publickey")) (run_of a.user a.service l)) (sym t.2));
      }

  module _ (accepted : Option Accepted) (key : Option UserKey) (same : user_key_data key ≡ kept.carried.user_key) (at_client : setup.role ≡ Client → accepted ≡ None)
      (at_server : setup.role ≡ Server → accepted ≡ Some (record { password = kept.known.completed.password; key = cond kept.known.completed.publickey key None })) where
    accepted_as : (side : Side) → setup.role ≡ side → HasAccepted setup.suite setup.decisions side setup.config (version_in p.units) (payloads_in p.units) a accepted
    accepted_as Client e = at_client e
    accepted_as Server e =
        let here : Accepted = record { password = kept.known.completed.password; key = cond kept.known.completed.publickey key None } in
        subst (λ (o : Option Accepted). HasAccepted setup.suite setup.decisions Server setup.config (version_in p.units) (payloads_in p.units) a o) (sym (at_server e))
        (subst (λ (r : Side). AcceptedBy (tried_at (setup_with setup.suite setup.decisions r setup.config) (version_in p.units) (payloads_in p.units)) (successful_keys_at (setup_with setup.suite setup.decisions r setup.config) (version_in p.units) (payloads_in p.units)) a.user a.service here) e (came_in e key same))

    pub hands_on : HandsOn setup p.units a kept.carried.own_version kept.known.version kept.carried.host_key accepted
    hands_on = record {
      own_version_is = inner.carries.own_version past;
      peer_version_is = sym (ap (λ (k : Known). k.version) inner.sits.knows);
      host_key_is = inner.carries.host_key past;
      accepted_is = accepted_as setup.role refl;
    }

-- what is made of what is handed over is the session
pub session_is : (setup : Setup) (units answers : Units) (sizes rest : List ℕ) (reading : PacketReaderData) (sending : Sending) → HandsOver setup.suite setup.role setup.config units answers sizes reading sending → rest ≡ []
    → (agreed : Agreed) (a : AgreedData) → Authenticated (agreed_data agreed) ≡ Authenticated a → (own peer host_key : Vec ℕ Global) (accepted : Option Accepted) → HandsOn setup units a own.items peer.items host_key.items accepted
    → (keys : Option KeysData) (number : ℕ) → keys ≡ reading.keys → number ≡ reading.seq → (result : Option Session)
    → ((x y : KeysData) → keys ≡ Some x → sending.keys ≡ Some y → result ≡ Some (record {
      agreed = agreed;
      own_version = own;
      peer_version = peer;
      host_key = host_key;
      accepted = accepted;
      incoming = record { keys = x; sequence_number = number };
      outgoing = record { keys = y; sequence_number = sending.number };
    }))
    → (session : Session) × (result ≡ Some session) × IsSession setup units answers sizes a session × (rest ≡ [])
session_is setup units answers sizes rest reading sending over none agreed a same own peer host_key accepted on keys number keys_are number_is result whole = (
  record {
    agreed = agreed;
    own_version = own;
    peer_version = peer;
    host_key = host_key;
    accepted = accepted;
    incoming = record { keys = over.incoming; sequence_number = number };
    outgoing = record { keys = over.outgoing; sequence_number = sending.number };
  },
  whole over.incoming over.outgoing (keys_are ∙ over.reads_with) over.sends_with,
  record {
    agreed_is = cc;
    own_version = on.own_version_is;
    peer_version = on.peer_version_is;
    host_key = on.host_key_is;
    accepted = on.accepted_is;
    incoming_keys = over.incoming_keys;
    incoming_number = number_is ∙ over.incoming_number;
    outgoing_keys = over.outgoing_keys;
    outgoing_number = over.outgoing_number;
  },
  none,
)
