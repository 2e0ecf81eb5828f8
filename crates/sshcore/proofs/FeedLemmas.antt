-- An endpoint that stands open, and one step of its reader.

use Rattle.std.proofs.Common.{◌≡◌, ◌≢◌, inl, inr, ℕ, ◌+◌, ◌≤◌, ◌==◌, Bool, true, false, cond, List, [], ◌∷◌, ◌++◌, length, take, Option, None, Some, refl, sym, ap, ◌∙◌, subst}
use Rattle.std.proofs.lemmas.Bool.{cases_Bool, true≢false}
use Rattle.sshmsg.specs.Numbers.{message_number}
use Rattle.sshmsg.specs.Written.{written_message}
use Rattle.sshneg.specs.declared.side.Side.{Side}
use Rattle.sshneg.specs.Markers.{other}
use Rattle.sshpacket.specs.KeysData.{KeysData}
use Rattle.sshpacket.specs.declared.fault.PacketFault.{PacketFault}
use Rattle.sshpacket.specs.declared.fault.PacketFault.TheVariants as packet
use Rattle.sshpacket.specs.Parse.{OfPacket, Refusal, refused, unfinished, whole}
use Rattle.sshpacket.specs.Places.{EachPlace, after_first, flat_places, stands}
use Rattle.sshpacket.specs.Stream.{Sent, Units}
use Rattle.sshpacket.specs.Suite.{SuiteData, next_keys}
use Rattle.sshpacket.specs.Written.{after_all}
use Rattle.sshcore.specs.declared.end.Fault.{Fault}
use Rattle.sshcore.specs.declared.input.Input.{Input}
use Rattle.sshcore.specs.declared.phase_table.Phase.{Phase}
use Rattle.sshcore.specs.declared.phase_table.Phase.TheVariants as phase
use Rattle.sshcore.specs.Before.{stood, strict_at}
use Rattle.sshcore.specs.Brings.{Brings, Gives, IsOngoing}
use Rattle.sshcore.specs.Counting.{is_newkeys, number_in, switched_out}
use Rattle.sshcore.specs.Directions.{keys_in, parsers, payloads_in, spells, version_in}
use Rattle.sshcore.specs.EndData.{Authenticated, Disconnected, EndData, Failed, Open, Reply, by_input, disconnect, fails, parting}
use Rattle.sshcore.specs.Exchange.{keys_at, keys_by}
use Rattle.sshcore.specs.History.{AllFit, History, IsReady}
use Rattle.sshcore.specs.Inputs.{AsReceived, CutOff, EndpointStands, GoesOn, IsCarried, IsInput, IsInside, Left, StandsSo, pending_at}
use Rattle.sshcore.specs.StateData.{Carried, StateData, keys_due, keys_left}
use Rattle.sshcore.specs.KnownBefore.{Known}
use Rattle.sshcore.specs.Output.{Sending, Speaks, sending_from, sent_from}
use Rattle.sshcore.specs.EndpointParts.{ConfigData, Setup}
use Rattle.sshcore.specs.Plan.{is_waiting}
use Rattle.sshcore.specs.Phases.{leaving, past_exchange, past_kexinit}
use Rattle.sshcore.specs.Replies.{Ends, answers_at, disposition_reply, end_at, ended, fault_of, goes_on, reply_at}
use Rattle.sshcore.specs.Standing.{Sits, exchange_received}
use Rattle.sshcore.specs.Table.{disposition_by}
use Rattle.sshcore.proofs.LawsBelow.{Below}
use Rattle.sshcore.proofs.HistoryLemmas as history
use Rattle.sshcore.proofs.HistoryLemmas.{Streams, no_refusal}
use Rattle.sshcore.proofs.KeyedLemmas.{IsExchangePlace, still_fails, told_at}
use Rattle.sshcore.proofs.MoveLemmas.{carries_on, form_after, keys_with, number_with, sits_after, turned}
use Rattle.sshcore.proofs.OutputLemmas.{sent_is, sent_quiet, speaks_received}
use Rattle.sshcore.proofs.StandingLemmas as standing
use Rattle.sshcore.proofs.UncutLemmas.{refusal_stays, unit_stays}

-- no NEWKEYS stands among these
none_anywhere : (b c us : Units) → stands is_newkeys b us ≡ false → EachPlace (λ before a. (message_number a == 21) ≡ false) c us
none_anywhere b c [] e = tt
none_anywhere b c (u ∷ us) e = by (message_number u == 21) refl (none_anywhere (b ++ u ∷ []) (c ++ u ∷ []) us) e
  where
    by : (x : Bool) → (message_number u == 21) ≡ x → (stands is_newkeys (b ++ u ∷ []) us ≡ false → EachPlace (λ before a. (message_number a == 21) ≡ false) (c ++ u ∷ []) us)
        → cond x true (stands is_newkeys (b ++ u ∷ []) us) ≡ false → EachPlace (λ before a. (message_number a == 21) ≡ false) c (u ∷ us)
    by true f rest g = absurd (true≢false g)
    by false f rest g = (f, rest g)

pub none_sent : (us : Units) → switched_out us ≡ false → EachPlace (λ before a. (message_number a == 21) ≡ false) [] us
unfolding switched_out
none_sent us e = none_anywhere [] [] us e

-- an endpoint that has failed isn't open, nor is its session ongoing
pub failed_over : (f : Fault) (e : EndData) → e ≡ Failed f → IsOngoing e → ⊥
failed_over f e is (inl o) = absurd cc
failed_over f e is (inr a) = let same : e ≡ Authenticated a.0 = a.1 in absurd cc

-- nor is one that its owner told to disconnect
pub left_over : (reason : ℕ) (e : EndData) → e ≡ Disconnected reason → IsOngoing e → ⊥
left_over reason e is (inl o) = absurd cc
left_over reason e is (inr a) = let same : e ≡ Authenticated a.0 = a.1 in absurd cc

-- a refused packet comes of what is received, unless memory ran out
pub by_packet : (f : PacketFault) → f ≢ packet.Memory → by_input (Failed (fault_of (OfPacket f))) ≡ true
by_packet packet.Length had = refl
by_packet packet.Padding had = refl
by_packet packet.Empty had = refl
by_packet packet.Mac had = refl
by_packet packet.Memory had = absurd (had refl)

-- an endpoint that is open has come to that by what it received, and nothing of it was refused
pub received_open : (received_end end : EndData) → StandsSo received_end end → end ≡ Open → received_end ≡ Open
received_open received_end end (AsReceived e) o = sym e ∙ o
received_open received_end end (CutOff h e) o = absurd cc
received_open received_end end (Left reason h e) o = absurd cc

pub none_refused : (setup : Setup) (units : Units) (r : Option Refusal) (end : EndData) → end ≡ Open → Ends setup units r end → r ≡ None
none_refused setup units r end o (goes_on stays e) = no_refusal r (sym e ∙ o)
none_refused setup units r end o (ended before last is stays e shut none) = none

-- before the exchange was received nothing is sealed
clear_by : (b : Bool) (k : KeysData) → b ≡ false → cond b (Some k) None ≡ None
clear_by b k e = rw e refl

pub clear_before : (m : SuiteData) (role : Side) (config : ConfigData) (units answers : Units) (p : Phase) (o : Sending)
    → stood role config.offer (leaving role phase.Exchange) (payloads_in units) ≡ past_exchange p → Speaks m role config units answers o
    → (switched_out answers ≡ true → IsReady role config (payloads_in units)) → past_exchange p ≡ false → o.keys ≡ None
clear_before m role config units answers p o exchange speaks keyed not_past = elim (cases_Bool (switched_out answers)) [
  | inl on ↦ absurd (true≢false (sym (keyed on).exchange ∙ exchange ∙ not_past))
  | inr off ↦ speaks.keys ∙ clear_by (switched_out answers) (after_all m (keys_at m role config (version_in units) (payloads_in units) role) (after_first is_newkeys [] answers)) off
]

clear_at : (setup : Setup) (version : List ℕ) (before : Units) (payload : List ℕ) (last : StateData)
    → Sits setup version (before ++ payload ∷ []) last.phase last.guess last.known → {units_after : Units} → units_after ≡ version ∷ (before ++ payload ∷ [])
    → (answers : Units) → Speaks setup.suite setup.role setup.config units_after answers last.sending → (switched_out answers ≡ true → IsReady setup.role setup.config (payloads_in units_after))
    → past_exchange last.phase ≡ false → last.sending.keys ≡ None
clear_at setup version before payload last s {units_after} is answers speaks keyed not_past =
    clear_before setup.suite setup.role setup.config units_after answers last.phase last.sending
    (ap (λ (us : Units). stood setup.role setup.config.offer (leaving setup.role phase.Exchange) (payloads_in us)) is ∙ s.tied.exchange) speaks keyed not_past

-- a DISCONNECT is no NEWKEYS
quiet_parting : (reason : ℕ) (description : List ℕ) → (message_number (parting reason description) == 21) ≡ false
unfolding written_message
quiet_parting reason description = refl

-- the law of streams on what is sent after what was sent
abbrev pub SentMore : Type 0
SentMore = (spelled : Units → List ℕ → List ℕ) (stream : List ℕ) (us more : Units) → Sent spelled stream us → Sent spelled (stream ++ flat_places spelled us more) (us ++ more)

-- Its owner tells an endpoint that stands open to disconnect.
module _ (setup : Setup) (kept : StateData) (i : Input) (h s : List ℕ) (is : kept.end ≡ Open) (a : EndpointStands setup kept i h s) where
  -- it has received and sent the same before that
  pub stands_left : (new : StateData) (reason : ℕ) → new.end ≡ Disconnected reason → EndpointStands setup new i h s
  stands_left new reason ends = record {
    units = a.units;
    sizes = a.sizes;
    rest = a.rest;
    refusal = a.refusal;
    answers = a.answers;
    received_end = a.received_end;
    history = a.history;
    ends = Left reason (received_open a.received_end kept.end a.ends is) ends;
    inside = λ o. absurd (left_over reason new.end ends o);
  }

  -- and the DISCONNECT is spelled after what it had sent
  pub sent_last : SentMore → (reason : ℕ) (description : List ℕ) (strict : Bool) (next : KeysData)
      → Sent (spells setup.suite setup.role setup.config a.units) (s ++ sent_from setup.suite setup.config.seed strict next kept.sending (parting reason description ∷ [])) (setup.config.version ∷ (a.answers ++ parting reason description ∷ []))
  sent_last more reason description strict next =
      let spoken = sent_quiet setup.suite setup.role setup.config a.units strict next a.answers (parting reason description ∷ []) kept.sending (quiet_parting reason description, tt) (a.inside (inl is)).speaks in
      subst (λ (l : List ℕ). Sent (spells setup.suite setup.role setup.config a.units) (s ++ l) (setup.config.version ∷ (a.answers ++ parting reason description ∷ []))) (sym spoken.0)
      (more (spells setup.suite setup.role setup.config a.units) s (setup.config.version ∷ a.answers) (parting reason description ∷ []) a.history.sent)

module _ (below : Below) (streams : Streams) (setup : Setup) (kept : StateData) (i : Input) (h s : List ℕ) (is : kept.end ≡ Open) (a : EndpointStands setup kept i h s) where
  received_is : a.received_end ≡ Open
  received_is = received_open a.received_end kept.end a.ends is

  none : a.refusal ≡ None
  none = none_refused setup a.units a.refusal a.received_end received_is a.history.replies.ends

  pub open_history : History setup a.units a.sizes a.rest None a.answers Open h s
  open_history = subst (λ (r : Option Refusal). History setup a.units a.sizes a.rest r a.answers Open h s) none
      (subst (λ (e : EndData). History setup a.units a.sizes a.rest a.refusal a.answers e h s) received_is a.history)

  pub within : IsInside setup a.units a.answers a.sizes a.rest kept i
  within = a.inside (inl is)

  -- more bytes of an unfinished unit
  pub stands_part : (j : Input) (piece : List ℕ) → parsers setup.suite setup.role setup.config a.units a.sizes (a.rest ++ piece) ≡ unfinished → IsInput setup.suite setup.role setup.config a.units a.sizes (a.rest ++ piece) j
      → EndpointStands setup kept j (h ++ piece) s
  stands_part j piece e reads = record {
    units = a.units;
    sizes = a.sizes;
    rest = a.rest ++ piece;
    refusal = None;
    answers = a.answers;
    received_end = Open;
    history = history.part below streams setup a.units a.sizes a.rest a.answers h s open_history piece e;
    ends = AsReceived is;
    inside = λ o. record { sits = within.sits; form = within.form; reads = reads; carries = within.carries; speaks = within.speaks };
  }

  -- the bytes are refused
  pub stands_refused : (new : StateData) (j : Input) (piece : List ℕ) (used : ℕ) (r : Refusal) (before after : List ℕ) (strict : Bool) (next : KeysData) → used ≤ length piece
      → parsers setup.suite setup.role setup.config a.units a.sizes (a.rest ++ piece) ≡ refused r (length a.rest + used) → Gives setup.suite setup.config.seed strict next kept new before after (fails (fault_of r))
      → GoesOn setup new j h s (take used piece) before after
  stands_refused new j piece used r before after strict next low e gives =
      let sent = sent_quiet setup.suite setup.role setup.config a.units strict next a.answers (disconnect (fault_of r)) kept.sending (none_sent (disconnect (fault_of r)) (still_fails (fault_of r))) within.speaks in record {
        added = flat_places (spells setup.suite setup.role setup.config a.units) (setup.config.version ∷ a.answers) (disconnect (fault_of r));
        appended = gives.output ∙ ap (λ (l : List ℕ). before ++ l) sent.0;
        stands = record {
          units = a.units;
          sizes = a.sizes;
          rest = a.rest ++ take used piece;
          refusal = Some r;
          answers = a.answers ++ disconnect (fault_of r);
          received_end = Failed (fault_of r);
          history = history.refusal below streams setup a.units a.sizes a.rest a.answers h s open_history piece used r low e gives.fits;
          ends = AsReceived gives.ends;
          inside = λ o. absurd (failed_over (fault_of r) new.end gives.ends o);
        };
        uncut = refusal_stays r new.end gives.ends;
      }

  -- a packet, with its answers
  module _ (version : List ℕ) (before_units : Units) (units_are : a.units ≡ version ∷ before_units) (new last : StateData) (j : Input) (piece payload : List ℕ) (used packet : ℕ) (before after : List ℕ)
      (low : used ≤ length piece) (read : parsers setup.suite setup.role setup.config a.units a.sizes (a.rest ++ piece) ≡ whole payload (length a.rest + used))
      (number : packet ≡ number_in setup.role setup.config before_units)
      (brings : Brings setup kept new packet payload before after)
      (same_end : last.end ≡ new.end) (same_phase : last.phase ≡ new.phase) (same_guess : last.guess ≡ new.guess) (same_known : last.known ≡ new.known) (same_sending : last.sending ≡ new.sending)
      (left : last.carried ≡ record new.carried { pending = keys_left new.phase new.carried.pending })
      (reads : keys_in setup.suite setup.role setup.config version (before_units ++ payload ∷ []) (a.sizes ++ (length a.rest + used) ∷ []) ≡ keys_with (keys_due new.phase new.carried.pending) (next_keys setup.suite (keys_in setup.suite setup.role setup.config version before_units a.sizes) (length a.rest + used))
      → number_in setup.role setup.config (before_units ++ payload ∷ []) ≡ number_with (keys_due new.phase new.carried.pending) new.known.strict (number_in setup.role setup.config before_units)
      → IsInput setup.suite setup.role setup.config (a.units ++ payload ∷ []) (a.sizes ++ (length a.rest + used) ∷ []) [] j) where
    abbrev size : ℕ
    size = length a.rest + used

    abbrev more : Units
    more = answers_at setup a.units payload

    sits : Sits setup version before_units kept.phase kept.guess kept.known
    sits = subst (λ (us : Units). Sits setup (version_in us) (payloads_in us) kept.phase kept.guess kept.known) units_are within.sits

    abbrev reply : Reply
    reply = disposition_reply setup kept.known packet (disposition_by setup.role kept.phase kept.known.strict kept.guess (is_waiting kept.known.left) (message_number payload)) payload

    reply_is : reply ≡ reply_at setup version before_units payload
    reply_is = ap (λ n. disposition_reply setup kept.known n (disposition_by setup.role kept.phase kept.known.strict kept.guess (is_waiting kept.known.left) (message_number payload)) payload) number
        ∙ sym (standing.replies setup version before_units payload kept.phase kept.guess kept.known sits)

    answers_are : reply.answers ≡ more
    answers_are = ap (λ (r : Reply). r.answers) reply_is ∙ ap (λ (us : Units). answers_at setup us payload) (sym units_are)

    end_is : reply.end ≡ end_at setup a.units payload
    end_is = ap (λ (r : Reply). r.end) reply_is ∙ ap (λ (us : Units). end_at setup us payload) (sym units_are)

    abbrev units_after : Units
    units_after = a.units ++ payload ∷ []

    units_after_is : units_after ≡ version ∷ (before_units ++ payload ∷ [])
    units_after_is = ap (λ (us : Units). us ++ payload ∷ []) units_are

    done : History setup units_after (a.sizes ++ size ∷ []) [] None (a.answers ++ more) (end_at setup a.units payload) (h ++ take used piece)
        (s ++ flat_places (spells setup.suite setup.role setup.config units_after) (setup.config.version ∷ a.answers) more)
    done = history.unit below streams setup a.units a.sizes a.rest a.answers h s open_history piece payload used low read (subst (λ (us : Units). AllFit us) answers_are brings.gives.fits)

    speaks_on : Speaks setup.suite setup.role setup.config units_after a.answers kept.sending
    speaks_on = speaks_received setup.suite setup.role setup.config a.units (payload ∷ []) a.answers kept.sending a.history.keyed within.speaks

    abbrev next : KeysData
    next = keys_by setup.suite kept.known.algorithms (exchange_received setup.suite setup.role setup.config kept.known payload) setup.role

    abbrev Spoken : Type 0
    Spoken = (sent_from setup.suite setup.config.seed kept.known.strict next kept.sending more ≡ flat_places (spells setup.suite setup.role setup.config units_after) (setup.config.version ∷ a.answers) more)
        × Speaks setup.suite setup.role setup.config units_after (a.answers ++ more) (sending_from setup.suite kept.known.strict next kept.sending more)

    told : switched_out more ≡ true → IsExchangePlace setup.role setup.config before_units payload kept.phase
    told on = told_at below setup version before_units payload kept.phase sits.tied (ap switched_out (ap (λ (us : Units). answers_at setup us payload) (sym units_are)) ∙ on)

    exchange_told : IsExchangePlace setup.role setup.config before_units payload kept.phase → Spoken
    exchange_told e =
        let s0 : Sits setup version before_units phase.Exchange false kept.known =
        subst (λ (g : Bool). Sits setup version before_units phase.Exchange g kept.known) (sym sits.due ∙ e.none_due)
        (subst (λ (p : Phase). Sits setup version before_units p kept.guess kept.known) e.at sits) in
        let t0 = standing.exchanges setup version before_units payload kept.known s0 e.leaves in
        let strict_is : kept.known.strict ≡ strict_at setup.role setup.config (payloads_in units_after) =
        sym (ap (λ (k : Known). k.strict) t0.knows) ∙ ap (λ (us : Units). strict_at setup.role setup.config (payloads_in us)) (sym units_after_is) in
        let keys_are : next ≡ keys_at setup.suite setup.role setup.config (version_in units_after) (payloads_in units_after) setup.role =
        sym (standing.makes_keys setup version before_units payload kept.known s0 e.leaves setup.role)
        ∙ ap (λ (us : Units). keys_at setup.suite setup.role setup.config (version_in us) (payloads_in us) setup.role) (sym units_after_is) in
        sent_is setup.suite setup.role setup.config units_after kept.known.strict next a.answers more kept.sending strict_is keys_are speaks_on

    spoken : Spoken
    spoken = elim (cases_Bool (switched_out more)) [
      | inl on ↦ exchange_told (told on)
      | inr off ↦ sent_quiet setup.suite setup.role setup.config units_after kept.known.strict next a.answers more kept.sending (none_sent more off) speaks_on
    ]

    end_new : last.end ≡ end_at setup a.units payload
    end_new = same_end ∙ brings.gives.ends ∙ end_is

    inside_new : IsOngoing last.end → IsInside setup units_after (a.answers ++ more) (a.sizes ++ size ∷ []) [] last j
    inside_new ongoing =
        let moves = brings.moves (subst IsOngoing same_end ongoing) in
        let s1 : Sits setup version (before_units ++ payload ∷ []) new.phase new.guess new.known = sits_after below setup version before_units a.sizes payload size kept new sits moves in
        let s2 : Sits setup version (before_units ++ payload ∷ []) last.phase last.guess last.known =
        subst (λ (k : Known). Sits setup version (before_units ++ payload ∷ []) last.phase last.guess k) (sym same_known)
        (subst (λ (g : Bool). Sits setup version (before_units ++ payload ∷ []) last.phase g new.known) (sym same_guess)
        (subst (λ (p : Phase). Sits setup version (before_units ++ payload ∷ []) p new.guess new.known) (sym same_phase) s1)) in
        let carried : IsCarried setup version before_units kept.phase kept.carried =
        subst (λ (us : Units). IsCarried setup (version_in us) (payloads_in us) kept.phase kept.carried) units_are within.carries in
        let t = turned below setup version before_units a.sizes payload size kept new sits carried.pending moves in
        let on = carries_on below setup version before_units a.sizes payload size kept new sits carried moves in
        let carries : IsCarried setup version (before_units ++ payload ∷ []) last.phase last.carried = record {
          pending = ap (λ (x : Carried). x.pending) left ∙ t.left ∙ ap (λ (p : Phase). pending_at p (keys_at setup.suite setup.role setup.config version (before_units ++ payload ∷ []) (other setup.role))) (sym same_phase);
          own_version = λ past. ap (λ (x : Carried). x.own_version) left ∙ on.own_version (ap past_exchange (sym same_phase) ∙ past);
          host_key = λ past. ap (λ (x : Carried). x.host_key) left ∙ on.host_key (ap past_exchange (sym same_phase) ∙ past);
          user_key = ap (λ (x : Carried). x.user_key) left ∙ on.user_key;
        } in
        let speaks : Speaks setup.suite setup.role setup.config units_after (a.answers ++ more) last.sending =
        subst (λ (o : Sending). Speaks setup.suite setup.role setup.config units_after (a.answers ++ more) o)
        (sym (same_sending ∙ brings.gives.sends ∙ ap (λ (us : Units). sending_from setup.suite kept.known.strict next kept.sending us) answers_are)) spoken.1 in
        record {
          sits = subst (λ (us : Units). Sits setup (version_in us) (payloads_in us) last.phase last.guess last.known) (sym units_after_is) s2;
          form = record {
            form = λ past. form_new (form_after below setup version before_units a.sizes payload size kept new sits carried.pending within.form.form moves) past;
            clear = λ not_past. clear_at setup version before_units payload last s2 units_after_is (a.answers ++ more) speaks done.keyed not_past;
          };
          reads = reads t.keys t.number;
          carries = subst (λ (us : Units). IsCarried setup (version_in us) (payloads_in us) last.phase last.carried) (sym units_after_is) carries;
          speaks = speaks;
        }
      where
        form_new : (past_kexinit new.phase ≡ true → new.known.shares ≡ setup.suite.share_form new.known.algorithms.kex) → past_kexinit last.phase ≡ true → last.known.shares ≡ setup.suite.share_form last.known.algorithms.kex
        form_new form past =
            ap (λ (k : Known). k.shares) same_known ∙ form (ap past_kexinit (sym same_phase) ∙ past) ∙ ap (λ (k : Known). setup.suite.share_form k.algorithms.kex) (sym same_known)

    pub stands_unit : GoesOn setup last j h s (take used piece) before after
    stands_unit = record {
      added = flat_places (spells setup.suite setup.role setup.config units_after) (setup.config.version ∷ a.answers) more;
      appended = brings.gives.output ∙ ap (λ (us : Units). before ++ sent_from setup.suite setup.config.seed kept.known.strict next kept.sending us) answers_are ∙ ap (λ (l : List ℕ). before ++ l) spoken.0;
      stands = record {
        units = units_after;
        sizes = a.sizes ++ size ∷ [];
        rest = [];
        refusal = None;
        answers = a.answers ++ more;
        received_end = end_at setup a.units payload;
        history = done;
        ends = AsReceived end_new;
        inside = inside_new;
      };
      uncut = unit_stays setup a.units payload last.end end_new;
    }
