-- Where an endpoint stands after a payload, by how the payload moves what it keeps.

use Rattle.std.proofs.Common.{◌≡◌, inl, inr, ℕ, ◌+◌, ◌==◌, Bool, true, false, cond, List, [], ◌∷◌, ◌++◌, Option, None, Some, refl, sym, ap, ◌∙◌, subst}
use Rattle.std.specs.Prelude.{◌%◌, ◌^◌}
use Rattle.std.proofs.lemmas.Bool.{true≢false}
use Rattle.sshmsg.specs.MessageData.{KexInit}
use Rattle.sshmsg.specs.Numbers.{message_number}
use Rattle.sshwire.specs.declared.share_form.ShareForm.TheVariants.{Mpint}
use Rattle.sshneg.specs.declared.side.Side.{Side}
use Rattle.sshneg.specs.declared.side.Side.TheVariants.{Client, Server}
use Rattle.sshneg.specs.Derivations.{ExchangeData}
use Rattle.sshneg.specs.Fields.{AlgorithmsData}
use Rattle.sshneg.specs.Markers.{other}
use Rattle.sshpacket.specs.KeysData.{KeysData}
use Rattle.sshpacket.specs.Stream.{Units}
use Rattle.sshpacket.specs.Suite.{SuiteData, advanced, all_advanced, next_keys}
use Rattle.sshcore.specs.declared.phase_table.Phase.{Phase}
use Rattle.sshcore.specs.declared.phase_table.Phase.TheVariants as phase
use Rattle.sshcore.specs.Before.{kept, stood, wrong_guess}
use Rattle.sshcore.specs.Brings.{Drops, Exchanges, Leaves, Moves, Offers, StandsAt, Stays, received_one}
use Rattle.sshcore.specs.Counting.{number_in}
use Rattle.sshcore.specs.Directions.{keys_in, sizes_since}
use Rattle.sshcore.specs.Exchange.{exchange_at, keys_at}
use Rattle.sshcore.specs.Inputs.{IsCarried, pending_at}
use Rattle.sshcore.specs.StateData.{Carried, StateData, keys_due, keys_left}
use Rattle.sshcore.specs.KnownBefore.{Known}
use Rattle.sshcore.specs.EndpointParts.{Setup, UserKeyData}
use Rattle.sshcore.specs.Phases.{leaving, next_phase, past_exchange, past_kexinit, past_newkeys}
use Rattle.sshcore.specs.Standing.{Sits, after_exchange, after_offer, after_payload}
use Rattle.sshcore.proofs.LawsBelow.{Below}
use Rattle.sshcore.proofs.CountingLemmas.{sizes_off, sizes_on}
use Rattle.sshcore.proofs.GuessLemmas.{read_offer}
use Rattle.sshcore.specs.Tries.{last_key, successful_key_in}
use Rattle.sshcore.proofs.PhaseLemmas.{kept_dropped, kept_free}
use Rattle.sshcore.proofs.PlanLemmas.{key_more, key_stays, last_successful_key}
use Rattle.sshcore.proofs.StandingLemmas as standing

-- the number of the next packet that is received, by the keys that are set and strictness
abbrev pub number_with : Option KeysData → Bool → ℕ → ℕ
number_with None strict n = (n + 1) % 2 ^ 32
number_with (Some keys) strict n = cond strict 0 ((n + 1) % 2 ^ 32)

-- and the keys
abbrev pub keys_with : Option KeysData → Option KeysData → Option KeysData
keys_with None keys = keys
keys_with (Some set) keys = Some set

exchange_number : (role : Side) (n : ℕ) → n ≡ leaving role phase.Exchange → (n == 21) ≡ false
exchange_number Client n e = rw e refl
exchange_number Server n e = rw e refl

exchange_request : (role : Side) (n : ℕ) → n ≡ leaving role phase.Exchange → (n == 50) ≡ false
exchange_request Client n e = rw e refl
exchange_request Server n e = rw e refl

-- the keys after one packet more, after others
pub advanced_push : (m : SuiteData) (ns : List ℕ) (keys : KeysData) (n : ℕ) → all_advanced m keys (ns ++ n ∷ []) ≡ advanced m (all_advanced m keys ns) n
unfolding all_advanced
advanced_push m [] keys n = refl
advanced_push m (k ∷ ks) keys n = advanced_push m ks (advanced m keys k) n

module _ (below : Below) (setup : Setup) (version : List ℕ) (before : Units) (sizes : List ℕ) (payload : List ℕ) (size : ℕ) where
  -- the keys of what is received from the peer: before, and after the payload
  abbrev pub keys_so_far : KeysData
  keys_so_far = keys_at setup.suite setup.role setup.config version before (other setup.role)

  abbrev pub keys_after : KeysData
  keys_after = keys_at setup.suite setup.role setup.config version (before ++ payload ∷ []) (other setup.role)

  as_known : (us : Units) (p q : Phase) (b c : Bool) (k l : Known) → p ≡ q → b ≡ c → k ≡ l → Sits setup version us p b k → Sits setup version us q c l
  as_known us p q b c k l e f g s =
      subst (λ (x : Known). Sits setup version us q c x) g (subst (λ (x : Bool). Sits setup version us q x k) f (subst (λ (x : Phase). Sits setup version us x b k) e s))

  stands_new : (new : StateData) (p : Phase) (b : Bool) (k : Known) → StandsAt new p b k → Sits setup version (before ++ payload ∷ []) p b k
      → Sits setup version (before ++ payload ∷ []) new.phase new.guess new.known
  stands_new new p b k st s = as_known (before ++ payload ∷ []) p new.phase b new.guess k new.known (sym st.phase_is) (sym st.guess_is) (sym st.known_is) s

  keys_in_at : (us : Units) (ns : List ℕ) (p : Phase) (b : Bool) (k : Known) → Sits setup version us p b k
      → keys_in setup.suite setup.role setup.config version us ns
      ≡ cond (past_newkeys p) (Some (all_advanced setup.suite (keys_at setup.suite setup.role setup.config version us (other setup.role)) (sizes_since setup.role setup.config us ns))) None
  keys_in_at us ns p b k s = rw (s.tied.newkeys) refl

  -- after the key switch they go on, and at it they are the exchange's
  abbrev sizes_after : List ℕ
  sizes_after = sizes_since setup.role setup.config (before ++ payload ∷ []) (sizes ++ size ∷ [])

  goes_on : stood setup.role setup.config.offer 21 before ≡ true → keys_after ≡ keys_so_far
      → ◌≡◌ {A = Option KeysData} (Some (all_advanced setup.suite keys_after sizes_after)) (Some (advanced setup.suite (all_advanced setup.suite keys_so_far (sizes_since setup.role setup.config before sizes)) size))
  goes_on on same =
      ap Some (ap (λ (k : KeysData). all_advanced setup.suite k sizes_after) same
      ∙ (ap (λ (ns : List ℕ). all_advanced setup.suite keys_so_far ns) (sizes_on setup.role setup.config before payload sizes size on)
      ∙ advanced_push setup.suite (sizes_since setup.role setup.config before sizes) keys_so_far size))

  begins_on : stood setup.role setup.config.offer 21 before ≡ false → keys_after ≡ keys_so_far → ◌≡◌ {A = Option KeysData} (Some (all_advanced setup.suite keys_after sizes_after)) (Some keys_so_far)
  unfolding all_advanced
  begins_on off same =
      ap Some (ap (λ (k : KeysData). all_advanced setup.suite k sizes_after) same
      ∙ ap (λ (ns : List ℕ). all_advanced setup.suite keys_so_far ns) (sizes_off setup.role setup.config before payload (sizes ++ size ∷ []) off))

  module _ (old new : StateData) (s : Sits setup version before old.phase old.guess old.known) where
    pub sits_after : Moves setup payload old new → Sits setup version (before ++ payload ∷ []) new.phase new.guess new.known
    sits_after (Offers peer at none is same form st) =
        stands_new new phase.Exchange (wrong_guess setup.role setup.config.offer (Some peer)) (after_offer setup.suite setup.role setup.config old.known payload peer) st
        (standing.offers setup version before payload below peer old.known (as_known before old.phase phase.KexInit old.guess false old.known old.known at none refl s) is)
    sits_after (Drops due one same st) =
        stands_new new old.phase false (received_one old.known) st
        (standing.drops setup version before payload old.phase old.known (as_known before old.phase old.phase old.guess true old.known old.known refl due refl s) one)
    sits_after (Exchanges at none is same st) =
        stands_new new phase.NewKeys false (after_exchange setup.suite setup.role setup.config old.known payload) st
        (standing.exchanges setup version before payload old.known (as_known before old.phase phase.Exchange old.guess false old.known old.known at none refl s) is)
    sits_after (Leaves none past is same st) =
        stands_new new (next_phase old.phase) false (after_payload setup.suite setup.decisions setup.config old.known payload) st
        (standing.leaves setup version before payload old.phase old.known (as_known before old.phase old.phase old.guess false old.known old.known refl none refl s) past is)
    sits_after (Stays none calm same st) =
        stands_new new old.phase false (after_payload setup.suite setup.decisions setup.config old.known payload) st
        (standing.stays setup version before payload old.phase old.known (as_known before old.phase old.phase old.guess false old.known old.known refl none refl s) calm)

  -- what is set after a payload, and what is left
  pub record Turned (q : Phase) (pending : Option KeysData) (strict : Bool) : Type 0 where
    pub left : keys_left q pending ≡ pending_at q keys_after
    pub keys : keys_in setup.suite setup.role setup.config version (before ++ payload ∷ []) (sizes ++ size ∷ []) ≡ keys_with (keys_due q pending) (next_keys setup.suite (keys_in setup.suite setup.role setup.config version before sizes) size)
    pub number : number_in setup.role setup.config (before ++ payload ∷ []) ≡ number_with (keys_due q pending) strict (number_in setup.role setup.config before)

  turned_as : (q r : Phase) (x y : Option KeysData) (b c : Bool) → r ≡ q → y ≡ x → c ≡ b → Turned q x b → Turned r y c
  turned_as q r x y b c e f g t =
      subst (λ (z : Bool). Turned r y z) (sym g) (subst (λ (z : Option KeysData). Turned r z b) (sym f) (subst (λ (z : Phase). Turned z x b) (sym e) t))

  -- a payload that is no NEWKEYS, and stays in the phase
  calm_turn : (p : Phase) (guess b : Bool) (known next : Known) (strict : Bool) → Sits setup version before p guess known → Sits setup version (before ++ payload ∷ []) p b next
      → (kept setup.role setup.config.offer 21 before payload ≡ false) → Turned p (pending_at p keys_so_far) strict
  calm_turn phase.KexInit guess b known next strict s t none = record {
    left = refl;
    keys = keys_in_at (before ++ payload ∷ []) (sizes ++ size ∷ []) phase.KexInit b next t ∙ sym (ap (λ (k : Option KeysData). next_keys setup.suite k size) (keys_in_at before sizes phase.KexInit guess known s));
    number = standing.counts_on setup version before payload phase.KexInit guess known s (inr none);
  }
  calm_turn phase.Exchange guess b known next strict s t none = record {
    left = refl;
    keys = keys_in_at (before ++ payload ∷ []) (sizes ++ size ∷ []) phase.Exchange b next t ∙ sym (ap (λ (k : Option KeysData). next_keys setup.suite k size) (keys_in_at before sizes phase.Exchange guess known s));
    number = standing.counts_on setup version before payload phase.Exchange guess known s (inr none);
  }
  calm_turn phase.NewKeys guess b known next strict s t none = record {
    left = ap Some (sym (standing.keeps_keys setup version before payload phase.NewKeys guess known s refl (other setup.role)));
    keys = keys_in_at (before ++ payload ∷ []) (sizes ++ size ∷ []) phase.NewKeys b next t ∙ sym (ap (λ (k : Option KeysData). next_keys setup.suite k size) (keys_in_at before sizes phase.NewKeys guess known s));
    number = standing.counts_on setup version before payload phase.NewKeys guess known s (inr none);
  }
  calm_turn phase.Service guess b known next strict s t none = record {
    left = refl;
    keys = keys_in_at (before ++ payload ∷ []) (sizes ++ size ∷ []) phase.Service b next t
        ∙ goes_on s.tied.newkeys (standing.keeps_keys setup version before payload phase.Service guess known s refl (other setup.role)) ∙ sym (ap (λ (k : Option KeysData). next_keys setup.suite k size) (keys_in_at before sizes phase.Service guess known s));
    number = standing.counts_on setup version before payload phase.Service guess known s (inr none);
  }
  calm_turn phase.Auth guess b known next strict s t none = record {
    left = refl;
    keys = keys_in_at (before ++ payload ∷ []) (sizes ++ size ∷ []) phase.Auth b next t
        ∙ goes_on s.tied.newkeys (standing.keeps_keys setup version before payload phase.Auth guess known s refl (other setup.role)) ∙ sym (ap (λ (k : Option KeysData). next_keys setup.suite k size) (keys_in_at before sizes phase.Auth guess known s));
    number = standing.counts_on setup version before payload phase.Auth guess known s (inr none);
  }

  -- a message that leaves a phase after the exchange
  leaving_turn : (p : Phase) (b : Bool) (known next : Known) → Sits setup version before p false known → Sits setup version (before ++ payload ∷ []) (next_phase p) b next
      → past_exchange p ≡ true → message_number payload ≡ leaving setup.role p → Turned (next_phase p) (pending_at p keys_so_far) known.strict
  leaving_turn phase.KexInit b known next s t past is = absurd (true≢false (sym past))
  leaving_turn phase.Exchange b known next s t past is = absurd (true≢false (sym past))
  leaving_turn phase.NewKeys b known next s t past is = record {
    left = refl;
    keys = keys_in_at (before ++ payload ∷ []) (sizes ++ size ∷ []) phase.Service b next t ∙ begins_on s.tied.newkeys (standing.keeps_keys setup version before payload phase.NewKeys false known s refl (other setup.role));
    number = standing.counts_anew setup version before payload known s (newkeys_kind setup.role (message_number payload) is);
  }
    where
      newkeys_kind : (role : Side) (n : ℕ) → n ≡ leaving role phase.NewKeys → n ≡ 21
      newkeys_kind Client n e = e
      newkeys_kind Server n e = e
  leaving_turn phase.Service b known next s t past is = record {
    left = refl;
    keys = keys_in_at (before ++ payload ∷ []) (sizes ++ size ∷ []) phase.Auth b next t
        ∙ goes_on s.tied.newkeys (standing.keeps_keys setup version before payload phase.Service false known s refl (other setup.role)) ∙ sym (ap (λ (k : Option KeysData). next_keys setup.suite k size) (keys_in_at before sizes phase.Service false known s));
    number = standing.counts_on setup version before payload phase.Service false known s (inl refl);
  }
  leaving_turn phase.Auth b known next s t past is = record {
    left = refl;
    keys = keys_in_at (before ++ payload ∷ []) (sizes ++ size ∷ []) phase.Auth b next t
        ∙ goes_on s.tied.newkeys (standing.keeps_keys setup version before payload phase.Auth false known s refl (other setup.role)) ∙ sym (ap (λ (k : Option KeysData). next_keys setup.suite k size) (keys_in_at before sizes phase.Auth false known s));
    number = standing.counts_on setup version before payload phase.Auth false known s (inl refl);
  }

  as_old : (old new : StateData) (k : Known) → (past_kexinit old.phase ≡ true → old.known.shares ≡ setup.suite.share_form old.known.algorithms.kex) → new.known ≡ k
      → k.shares ≡ old.known.shares → k.algorithms ≡ old.known.algorithms → past_kexinit old.phase ≡ true → new.known.shares ≡ setup.suite.share_form new.known.algorithms.kex
  as_old old new k form e f g past =
      ap (λ (x : Known). x.shares) e ∙ f ∙ form past ∙ ap (λ (a : AlgorithmsData). setup.suite.share_form a.kex) (sym g) ∙ ap (λ (x : Known). setup.suite.share_form x.algorithms.kex) (sym e)

  module _ (old new : StateData) (s : Sits setup version before old.phase old.guess old.known) (pending : old.carried.pending ≡ pending_at old.phase keys_so_far) where
    pub turned : Moves setup payload old new → Turned new.phase new.carried.pending new.known.strict
    turned (Offers peer at none is same form st) =
        let s0 : Sits setup version before phase.KexInit false old.known = as_known before old.phase phase.KexInit old.guess false old.known old.known at none refl s in
        let t0 : Sits setup version (before ++ payload ∷ []) phase.Exchange (wrong_guess setup.role setup.config.offer (Some peer)) (after_offer setup.suite setup.role setup.config old.known payload peer) =
        standing.offers setup version before payload below peer old.known s0 is in
        let twenty : message_number payload ≡ 20 = below.numbers Mpint payload (KexInit peer) (read_offer payload peer is) in
        let unkept : kept setup.role setup.config.offer 21 before payload ≡ false = kept_free setup.role setup.config.offer before payload 21 s0.due ∙ rw twenty refl in
        turned_as phase.Exchange new.phase None new.carried.pending new.known.strict new.known.strict st.phase_is (ap (λ (c : Carried). c.pending) same ∙ pending ∙ ap (λ (p : Phase). pending_at p keys_so_far) at) refl (record {
          left = refl;
          keys = keys_in_at (before ++ payload ∷ []) (sizes ++ size ∷ []) phase.Exchange (wrong_guess setup.role setup.config.offer (Some peer)) (after_offer setup.suite setup.role setup.config old.known payload peer) t0
              ∙ sym (ap (λ (k : Option KeysData). next_keys setup.suite k size) (keys_in_at before sizes phase.KexInit false old.known s0));
          number = standing.counts_on setup version before payload phase.KexInit false old.known s0 (inr unkept);
        })
    turned (Drops due one same st) =
        let s0 : Sits setup version before old.phase true old.known = as_known before old.phase old.phase old.guess true old.known old.known refl due refl s in
        let t0 : Sits setup version (before ++ payload ∷ []) old.phase false (received_one old.known) = standing.drops setup version before payload old.phase old.known s0 one in
        turned_as old.phase new.phase (pending_at old.phase keys_so_far) new.carried.pending new.known.strict new.known.strict st.phase_is (ap (λ (c : Carried). c.pending) same ∙ pending) refl
        (calm_turn old.phase true false old.known (received_one old.known) new.known.strict s0 t0 (kept_dropped setup.role setup.config.offer before payload 21 s0.due one))
    turned (Exchanges at none is same st) =
        let s0 : Sits setup version before phase.Exchange false old.known = as_known before old.phase phase.Exchange old.guess false old.known old.known at none refl s in
        let t0 : Sits setup version (before ++ payload ∷ []) phase.NewKeys false (after_exchange setup.suite setup.role setup.config old.known payload) =
        standing.exchanges setup version before payload old.known s0 is in
        let unkept : kept setup.role setup.config.offer 21 before payload ≡ false = kept_free setup.role setup.config.offer before payload 21 s0.due ∙ exchange_number setup.role (message_number payload) is in
        turned_as phase.NewKeys new.phase (Some keys_after) new.carried.pending new.known.strict new.known.strict st.phase_is
        (ap (λ (c : Carried). c.pending) same ∙ ap Some (sym (standing.makes_keys setup version before payload old.known s0 is (other setup.role)))) refl (record {
          left = refl;
          keys = keys_in_at (before ++ payload ∷ []) (sizes ++ size ∷ []) phase.NewKeys false (after_exchange setup.suite setup.role setup.config old.known payload) t0 ∙ sym (ap (λ (k : Option KeysData). next_keys setup.suite k size) (keys_in_at before sizes phase.Exchange false old.known s0));
          number = standing.counts_on setup version before payload phase.Exchange false old.known s0 (inr unkept);
        })
    turned (Leaves none past is same st) =
        let s0 : Sits setup version before old.phase false old.known = as_known before old.phase old.phase old.guess false old.known old.known refl none refl s in
        let t0 : Sits setup version (before ++ payload ∷ []) (next_phase old.phase) false (after_payload setup.suite setup.decisions setup.config old.known payload) = standing.leaves setup version before payload old.phase old.known s0 past is in
        turned_as (next_phase old.phase) new.phase (pending_at old.phase keys_so_far) new.carried.pending old.known.strict new.known.strict st.phase_is (ap (λ (c : Carried). c.pending) same ∙ pending) (ap (λ (k : Known). k.strict) st.known_is)
        (leaving_turn old.phase false old.known (after_payload setup.suite setup.decisions setup.config old.known payload) s0 t0 past is)
    turned (Stays none calm same st) =
        let s0 : Sits setup version before old.phase false old.known = as_known before old.phase old.phase old.guess false old.known old.known refl none refl s in
        let t0 : Sits setup version (before ++ payload ∷ []) old.phase false (after_payload setup.suite setup.decisions setup.config old.known payload) = standing.stays setup version before payload old.phase old.known s0 calm in
        turned_as old.phase new.phase (pending_at old.phase keys_so_far) new.carried.pending new.known.strict new.known.strict st.phase_is (ap (λ (c : Carried). c.pending) same ∙ pending) refl
        (calm_turn old.phase false false old.known (after_payload setup.suite setup.decisions setup.config old.known payload) new.known.strict s0 t0 (kept_free setup.role setup.config.offer before payload 21 s0.due ∙ calm.newkeys))

    -- the form of shares stays that of the method
    pub form_after : (past_kexinit old.phase ≡ true → old.known.shares ≡ setup.suite.share_form old.known.algorithms.kex) → Moves setup payload old new
        → past_kexinit new.phase ≡ true → new.known.shares ≡ setup.suite.share_form new.known.algorithms.kex
    form_after form (Offers peer at none is same has st) past = has
    form_after form (Drops due one same st) past = as_old old new (received_one old.known) form st.known_is refl refl (ap past_kexinit (sym st.phase_is) ∙ past)
    form_after form (Exchanges at none is same st) past = as_old old new (after_exchange setup.suite setup.role setup.config old.known payload) form st.known_is refl refl (ap past_kexinit at)
    form_after form (Leaves none gone is same st) past = as_old old new (after_payload setup.suite setup.decisions setup.config old.known payload) form st.known_is refl refl (standing.past_past old.phase gone)
    form_after form (Stays none calm same st) past = as_old old new (after_payload setup.suite setup.decisions setup.config old.known payload) form st.known_is refl refl (ap past_kexinit (sym st.phase_is) ∙ past)

  -- what is carried along after a payload, the keys of what is received apart
  pub record CarriesOn (q : Phase) (carried : Carried) : Type 0 where
    pub own_version : past_exchange q ≡ true → carried.own_version ≡ setup.config.version
    pub host_key : past_exchange q ≡ true → carried.host_key ≡ (exchange_at setup.suite setup.role setup.config version (before ++ payload ∷ [])).host_key
    pub user_key : carried.user_key ≡ last_successful_key setup version (before ++ payload ∷ [])

  module _ (old new : StateData) (s : Sits setup version before old.phase old.guess old.known) (c : IsCarried setup version before old.phase old.carried) where
    -- a payload that is no request
    quiet_key : (key : Option UserKeyData) → key ≡ old.carried.user_key → kept setup.role setup.config.offer 50 before payload ≡ false → key ≡ last_successful_key setup version (before ++ payload ∷ [])
    quiet_key key same none = same ∙ c.user_key ∙ sym (key_stays setup version before payload none)

    -- one that may be one
    tried_on : (known : Known) → Sits setup version before old.phase false known
        → cond (message_number payload == 50) (last_key old.carried.user_key (successful_key_in setup.suite setup.decisions setup.config known.session known.request payload)) old.carried.user_key ≡ last_successful_key setup version (before ++ payload ∷ [])
    tried_on known t =
        ap (λ (x : Option UserKeyData). cond (message_number payload == 50) (last_key x (successful_key_in setup.suite setup.decisions setup.config known.session known.request payload)) x) c.user_key
        ∙ ap (λ (k : Known). cond (message_number payload == 50) (last_key (last_successful_key setup version before) (successful_key_in setup.suite setup.decisions setup.config k.session k.request payload)) (last_successful_key setup version before)) (sym t.knows)
        ∙ sym (key_more setup version before payload t.due)

    -- past the exchange its host key stays
    same_host : past_exchange old.phase ≡ true → old.carried.host_key ≡ (exchange_at setup.suite setup.role setup.config version (before ++ payload ∷ [])).host_key
    same_host past = c.host_key past ∙ ap (λ (x : ExchangeData). x.host_key) (sym (standing.keeps_exchange setup version before payload old.phase old.guess old.known s past))

    pub carries_on : Moves setup payload old new → CarriesOn new.phase new.carried
    carries_on (Offers peer at none is same form st) =
        let s0 : Sits setup version before phase.KexInit false old.known = as_known before old.phase phase.KexInit old.guess false old.known old.known at none refl s in
        let twenty : message_number payload ≡ 20 = below.numbers Mpint payload (KexInit peer) (read_offer payload peer is) in
        record {
          own_version = λ past. absurd (true≢false (sym past ∙ ap past_exchange st.phase_is));
          host_key = λ past. absurd (true≢false (sym past ∙ ap past_exchange st.phase_is));
          user_key = quiet_key new.carried.user_key (ap (λ (x : Carried). x.user_key) same) (kept_free setup.role setup.config.offer before payload 50 s0.due ∙ rw twenty refl);
        }
    carries_on (Drops due one same st) =
        let s0 : Sits setup version before old.phase true old.known = as_known before old.phase old.phase old.guess true old.known old.known refl due refl s in
        let gone : past_exchange new.phase ≡ true → past_exchange old.phase ≡ true = λ past. ap past_exchange (sym st.phase_is) ∙ past in
        record {
          own_version = λ past. ap (λ (x : Carried). x.own_version) same ∙ c.own_version (gone past);
          host_key = λ past. ap (λ (x : Carried). x.host_key) same ∙ same_host (gone past);
          user_key = quiet_key new.carried.user_key (ap (λ (x : Carried). x.user_key) same) (kept_dropped setup.role setup.config.offer before payload 50 s0.due one);
        }
    carries_on (Exchanges at none is same st) =
        let s0 : Sits setup version before phase.Exchange false old.known = as_known before old.phase phase.Exchange old.guess false old.known old.known at none refl s in
        record {
          own_version = λ past. ap (λ (x : Carried). x.own_version) same;
          host_key = λ past. ap (λ (x : Carried). x.host_key) same ∙ ap (λ (x : ExchangeData). x.host_key) (sym (standing.makes_exchange setup version before payload old.known s0 is));
          user_key = quiet_key new.carried.user_key (ap (λ (x : Carried). x.user_key) same) (kept_free setup.role setup.config.offer before payload 50 s0.due ∙ exchange_request setup.role (message_number payload) is);
        }
    carries_on (Leaves none past is same st) =
        let s0 : Sits setup version before old.phase false old.known = as_known before old.phase old.phase old.guess false old.known old.known refl none refl s in
        record {
          own_version = λ _. ap (λ (x : Carried). x.own_version) same ∙ c.own_version past;
          host_key = λ _. ap (λ (x : Carried). x.host_key) same ∙ same_host past;
          user_key = ap (λ (x : Carried). x.user_key) same ∙ tried_on old.known s0;
        }
    carries_on (Stays none calm same st) =
        let s0 : Sits setup version before old.phase false old.known = as_known before old.phase old.phase old.guess false old.known old.known refl none refl s in
        let gone : past_exchange new.phase ≡ true → past_exchange old.phase ≡ true = λ past. ap past_exchange (sym st.phase_is) ∙ past in
        record {
          own_version = λ past. ap (λ (x : Carried). x.own_version) same ∙ c.own_version (gone past);
          host_key = λ past. ap (λ (x : Carried). x.host_key) same ∙ same_host (gone past);
          user_key = ap (λ (x : Carried). x.user_key) same ∙ tried_on old.known s0;
        }
