-- What an endpoint keeps stays of use with its suite and its config.

use Rattle.std.proofs.Common.{◌≡◌, ◌⊎◌, inl, inr, ℕ, zero, suc, ◌+◌, ◌-◌, ◌==◌, Bool, true, false, cond, List, [], ◌∷◌, ◌++◌, drop, length, Option, None, refl, sym, ap, ◌∙◌, subst, arith}
use Rattle.std.specs.Prelude.{not}
use Rattle.std.proofs.lemmas.Bool.{cases_Bool, eq-eqb, true≢false}
use Rattle.std.proofs.lemmas.List.{drop-drop, length-drop}
use Rattle.sshmsg.specs.declared.numbers.TheConstants.{SSH_MSG_USERAUTH_PK_OK}
use Rattle.sshmsg.specs.Numbers.{message_number}
use Rattle.sshwire.specs.declared.line_form.LineForm.{LineForm}
use Rattle.sshneg.specs.ChoiceReadings.{is_in}
use Rattle.sshneg.specs.Fields.{AlgorithmsData}
use Rattle.sshneg.specs.declared.side.Side.{Side}
use Rattle.sshpacket.specs.declared.reader.PacketReader.{PacketReader}
use Rattle.sshpacket.specs.KeysData.{KeysData}
use Rattle.sshpacket.specs.Places.{EachPlace}
use Rattle.sshpacket.specs.Stream.{Units}
use Rattle.sshpacket.specs.Suite.{SuiteData}
use Rattle.sshcore.specs.declared.input.Input.{Input}
use Rattle.sshcore.specs.declared.input.Input.TheVariants as input
use Rattle.sshcore.specs.declared.phase_table.Disposition.{Disposition}
use Rattle.sshcore.specs.declared.phase_table.Phase.{Phase}
use Rattle.sshcore.specs.declared.phase_table.Phase.TheVariants as phase
use Rattle.sshcore.specs.Brings.{Brings, Drops, Exchanges, Gives, IsOngoing, Leaves, Moves, Offers, Stays, received_one}
use Rattle.sshcore.specs.ConfigParts.{AttemptData, ByKey, ByNothing, ByPassword, CredentialData}
use Rattle.sshcore.specs.Counting.{switched_out}
use Rattle.sshcore.specs.EndData.{goes}
use Rattle.sshcore.specs.EndpointParts.{ConfigData, Setup}
use Rattle.sshcore.specs.Inputs.{Begins, CanRead}
use Rattle.sshcore.specs.Keeping.{FitsConfig, IsRest, StillFits}
use Rattle.sshcore.specs.KnownBefore.{Known}
use Rattle.sshcore.specs.Output.{Sending, after_sending, keys_after, sending_from}
use Rattle.sshcore.specs.Phases.{leaving, next_phase, past_exchange, past_kexinit}
use Rattle.sshcore.specs.Plan.{asks, confirmed, is_answer, is_waiting, left_after_one, listed_in, next_after, next_listed, proving_name, unasked}
use Rattle.sshcore.specs.Replies.{disposition_reply}
use Rattle.sshcore.specs.Standing.{after_exchange, after_offer, after_payload}
use Rattle.sshcore.specs.StateData.{StateData, begun, left_of}
use Rattle.sshcore.specs.Table.{disposition_by}
use Rattle.sshcore.specs.Unread.{IsTurned, Turns}
use Rattle.sshcore.specs.Work.{making}
use Rattle.sshcore.proofs.LawsBelow.{Below}
use Rattle.sshcore.proofs.FeedLemmas.{none_sent}
use Rattle.sshcore.proofs.KeyedLemmas.{exchange_disposition, still_making}
use Rattle.sshcore.proofs.OutputLemmas.{after_quiet}
use Rattle.sshcore.proofs.StandingLemmas.{past_past}
use Rattle.sshcore.proofs.TableLemmas.{sees}

-- an attempt that is confirmed is no other once it is confirmed again
twice_unasked : (p : CredentialData) → unasked (unasked p) ≡ unasked p
twice_unasked ByNothing = refl
twice_unasked (ByPassword password) = refl
twice_unasked (ByKey algorithm secret ask) = refl

twice_confirmed : (xs : List AttemptData) → confirmed (confirmed xs) ≡ confirmed xs
twice_confirmed [] = refl
twice_confirmed (a ∷ later) = ap (λ (p : CredentialData). record a { proving = p } ∷ later) (twice_unasked a.proving)

later_confirmed : (xs : List AttemptData) → drop 1 (confirmed xs) ≡ drop 1 xs
later_confirmed [] = refl
later_confirmed (a ∷ later) = refl

-- attempts from the first one on whose method is listed are those from a place on
listed_place : (listed : List (List ℕ)) (xs : List AttemptData) → (k : ℕ) × (next_listed listed xs ≡ drop k xs)
unfolding next_listed
listed_place listed [] = (0, refl)
listed_place listed (a ∷ later) = elim (cases_Bool (is_in listed (proving_name a.proving))) [
  | inl here ↦ (0, rw here refl)
  | inr off ↦ let r = listed_place listed later in (suc r.0, rw off r.1)
]

-- a rest of a plan stays one
module _ (plan : List AttemptData) where
  rest_confirmed : (left : List AttemptData) → IsRest plan left → IsRest plan (confirmed left)
  rest_confirmed left r = record { from = r.from; is = inr (by r.is) }
    where
      by : (left ≡ drop r.from plan) ⊎ (left ≡ confirmed (drop r.from plan)) → confirmed left ≡ confirmed (drop r.from plan)
      by (inl e) = ap confirmed e
      by (inr e) = ap confirmed e ∙ twice_confirmed (drop r.from plan)

  rest_later : (left : List AttemptData) → (r : IsRest plan left) → drop 1 left ≡ drop (r.from + 1) plan
  rest_later left r = by r.is
    where
      by : (left ≡ drop r.from plan) ⊎ (left ≡ confirmed (drop r.from plan)) → drop 1 left ≡ drop (r.from + 1) plan
      by (inl e) = ap (drop 1) e ∙ drop-drop 1 r.from plan
      by (inr e) = ap (drop 1) e ∙ later_confirmed (drop r.from plan) ∙ drop-drop 1 r.from plan

  rest_next : (listed : List (List ℕ)) (left : List AttemptData) → IsRest plan left → IsRest plan (next_after listed left)
  rest_next listed left r =
      let p = listed_place listed (drop 1 left) in
      record { from = (r.from + 1) + p.0; is = inl (p.1 ∙ ap (drop p.0) (rest_later left r) ∙ drop-drop p.0 (r.from + 1) plan) }

  rest_cond : (b : Bool) (x y : List AttemptData) → IsRest plan x → IsRest plan y → IsRest plan (cond b x y)
  rest_cond true x y p q = p
  rest_cond false x y p q = q

  rest_one : (left : List AttemptData) (answer : List ℕ) → IsRest plan left → IsRest plan (left_after_one left answer)
  rest_one left answer r =
      rest_cond (message_number answer == SSH_MSG_USERAUTH_PK_OK) (confirmed left) (next_after (listed_in answer) left) (rest_confirmed left r) (rest_next (listed_in answer) left r)

  rest_begun : IsRest plan plan
  rest_begun = record { from = 0; is = inl refl }

-- what is sent in clear is so where no NEWKEYS is sent
quiet_keys : (m : SuiteData) (strict : Bool) (next : KeysData) (before us : Units) (o : Sending) → o.keys ≡ None → EachPlace (λ (b : Units) (a : List ℕ). (message_number a == 21) ≡ false) before us
    → (sending_from m strict next o us).keys ≡ None
unfolding sending_from
quiet_keys m strict next before [] o clear e = clear
quiet_keys m strict next before (a ∷ us) o clear (none, rest) =
    quiet_keys m strict next (before ++ a ∷ []) us (after_sending m strict next o a)
    (ap (λ (p : Sending). p.keys) (after_quiet m strict next o a none) ∙ ap (λ (k : Option KeysData). keys_after m k a) clear) rest

still_by : (b : Bool) → (b ≡ true → ⊥) → b ≡ false
still_by true never = absurd (never refl)
still_by false never = refl

next_past : (p : Phase) → past_exchange p ≡ true → past_exchange (next_phase p) ≡ true
next_past phase.KexInit e = absurd (true≢false (sym e))
next_past phase.Exchange e = absurd (true≢false (sym e))
next_past phase.NewKeys e = refl
next_past phase.Service e = refl
next_past phase.Auth e = refl

-- What a payload moves.
module _ (setup : Setup) (payload : List ℕ) (old new : StateData) where
  shares_as : (k : Known) → (past_kexinit old.phase ≡ true → old.known.shares ≡ setup.suite.share_form old.known.algorithms.kex) → new.known ≡ k
      → k.shares ≡ old.known.shares → k.algorithms ≡ old.known.algorithms → past_kexinit old.phase ≡ true → new.known.shares ≡ setup.suite.share_form new.known.algorithms.kex
  shares_as k form e f g past =
      ap (λ (x : Known). x.shares) e ∙ f ∙ form past ∙ ap (λ (a : AlgorithmsData). setup.suite.share_form a.kex) (sym g) ∙ ap (λ (x : Known). setup.suite.share_form x.algorithms.kex) (sym e)

  -- the form of shares stays that of the method
  shares_after : (past_kexinit old.phase ≡ true → old.known.shares ≡ setup.suite.share_form old.known.algorithms.kex) → Moves setup payload old new
      → past_kexinit new.phase ≡ true → new.known.shares ≡ setup.suite.share_form new.known.algorithms.kex
  shares_after form (Offers peer at none is same has st) past = has
  shares_after form (Drops due one same st) past = shares_as (received_one old.known) form st.known_is refl refl (ap past_kexinit (sym st.phase_is) ∙ past)
  shares_after form (Exchanges at none is same st) past = shares_as (after_exchange setup.suite setup.role setup.config old.known payload) form st.known_is refl refl (ap past_kexinit at)
  shares_after form (Leaves none gone is same st) past = shares_as (after_payload setup.suite setup.decisions setup.config old.known payload) form st.known_is refl refl (past_past old.phase gone)
  shares_after form (Stays none calm same st) past = shares_as (after_payload setup.suite setup.decisions setup.config old.known payload) form st.known_is refl refl (ap past_kexinit (sym st.phase_is) ∙ past)

  -- what is left of the plan stays a rest of it
  as_rest : (k : Known) → new.known ≡ k → IsRest setup.config.plan k.left → IsRest setup.config.plan new.known.left
  as_rest k e r = subst (λ (x : Known). IsRest setup.config.plan x.left) (sym e) r

  rest_after : IsRest setup.config.plan old.known.left → Moves setup payload old new → IsRest setup.config.plan new.known.left
  rest_after r (Offers peer at none is same has st) = as_rest (after_offer setup.suite setup.role setup.config old.known payload peer) st.known_is r
  rest_after r (Drops due one same st) = as_rest (received_one old.known) st.known_is r
  rest_after r (Exchanges at none is same st) = as_rest (after_exchange setup.suite setup.role setup.config old.known payload) st.known_is r
  rest_after r (Leaves none gone is same st) = as_rest (after_payload setup.suite setup.decisions setup.config old.known payload) st.known_is
      (rest_cond setup.config.plan (is_answer (message_number payload)) (left_after_one old.known.left payload) old.known.left (rest_one setup.config.plan old.known.left payload r) r)
  rest_after r (Stays none calm same st) = as_rest (after_payload setup.suite setup.decisions setup.config old.known payload) st.known_is
      (rest_cond setup.config.plan (is_answer (message_number payload)) (left_after_one old.known.left payload) old.known.left (rest_one setup.config.plan old.known.left payload r) r)

-- What a packet brings.
module _ (below : Below) (setup : Setup) (payload : List ℕ) (old new : StateData) (packet : ℕ) (before after : List ℕ) where
  abbrev line : Disposition
  line = disposition_by setup.role old.phase old.known.strict old.guess (is_waiting old.known.left) (message_number payload)

  abbrev answers : Units
  answers = (disposition_reply setup old.known packet line payload).answers

  -- before the exchange is past it was so before, and no NEWKEYS is sent
  early : Moves setup payload old new → past_exchange new.phase ≡ false → (past_exchange old.phase ≡ false) × (switched_out answers ≡ true → ⊥)
  early (Offers peer at none is same has st) not_past = (
    ap past_exchange at,
    λ on.
        let e = exchange_disposition below setup old.known packet payload old.phase old.known.strict old.guess line (sees setup.role old.phase old.known.strict (is_waiting old.known.left) (message_number payload) old.guess) on in
        let bad : phase.KexInit ≡ phase.Exchange = sym at ∙ e.at in absurd cc,
  )
  early (Drops due one same st) not_past = (
    ap past_exchange (sym st.phase_is) ∙ not_past,
    λ on.
        let e = exchange_disposition below setup old.known packet payload old.phase old.known.strict old.guess line (sees setup.role old.phase old.known.strict (is_waiting old.known.left) (message_number payload) old.guess) on in
        true≢false (sym due ∙ e.none_due),
  )
  early (Exchanges at none is same st) not_past = absurd (true≢false (sym (ap past_exchange st.phase_is) ∙ not_past))
  early (Leaves none gone is same st) not_past = absurd (true≢false (sym (ap past_exchange st.phase_is ∙ next_past old.phase gone) ∙ not_past))
  early (Stays none calm same st) not_past = (
    ap past_exchange (sym st.phase_is) ∙ not_past,
    λ on.
        let e = exchange_disposition below setup old.known packet payload old.phase old.known.strict old.guess line (sees setup.role old.phase old.known.strict (is_waiting old.known.left) (message_number payload) old.guess) on in
        true≢false (sym (eq-eqb (message_number payload) (leaving setup.role phase.Exchange) e.leaves) ∙ calm.exchange),
  )

  pub fits_after : (FitsConfig setup.suite setup.config old → Brings setup old new packet payload before after) → StillFits setup.suite setup.config old new
  fits_after brings fits ongoing =
      let works = brings fits in
      let moves = works.moves ongoing in
      record {
        form = record {
          form = shares_after setup payload old new fits.form.form moves;
          clear = λ not_past.
              let e = early moves not_past in
              ap (λ (o : Sending). o.keys) works.gives.sends
              ∙ quiet_keys setup.suite old.known.strict _ [] answers old.sending (fits.form.clear e.0) (none_sent answers (still_by (switched_out answers) e.1));
        };
        rest = rest_after setup payload old new fits.rest moves;
      }

-- What no packet brings.
module _ (m : SuiteData) (config : ConfigData) where
  -- nothing but what is carried along changes, what is sent with, and how it stands
  fits_as : (old new : StateData) → new.phase ≡ old.phase → new.known ≡ old.known → new.sending ≡ old.sending → FitsConfig m config old → FitsConfig m config new
  fits_as old new same_phase same_known same_sending f = record {
    form = record {
      form = λ past. ap (λ (k : Known). k.shares) same_known ∙ f.form.form (ap past_kexinit (sym same_phase) ∙ past) ∙ ap (λ (k : Known). m.share_form k.algorithms.kex) (sym same_known);
      clear = λ not_past. ap (λ (o : Sending). o.keys) same_sending ∙ f.form.clear (ap past_exchange (sym same_phase) ∙ not_past);
    };
    rest = subst (λ (k : Known). IsRest config.plan k.left) (sym same_known) f.rest;
  }

  pub fits_turned : (old new last : StateData) (p q : PacketReader) → Turns new last p q → StillFits m config old new → StillFits m config old last
  fits_turned old new last p q turns still fits ongoing =
      fits_as new last (ap (λ (k : StateData). k.phase) turns.left) (ap (λ (k : StateData). k.known) turns.left) (ap (λ (k : StateData). k.sending) turns.left)
      (still fits (subst IsOngoing (ap (λ (k : StateData). k.end) turns.left) ongoing))

  pub fits_input : (old new last : StateData) (j k : Input) → IsTurned new last j k → StillFits m config old new → StillFits m config old last
  fits_input old new last (input.Packets p) (input.Packets q) turned still = fits_turned old new last p q turned still
  fits_input old new last (input.Packets p) (input.Lines q) turned still = absurd turned
  fits_input old new last (input.Lines p) k turned still = absurd turned

-- What is kept before any byte.
pub begun_fits : (m : SuiteData) (role : Side) (config : ConfigData) (new : StateData) (before after : List ℕ) (strict : Bool) (next : KeysData) → new ≡ record (begun config) { sending = new.sending }
    → Gives m config.seed strict next (begun config) new before after (goes (making m role config)) → FitsConfig m config new
begun_fits m role config new before after strict next is gives =
    let keys : new.sending.keys ≡ None =
    ap (λ (o : Sending). o.keys) gives.sends ∙ quiet_keys m strict next [] (making m role config) (record { keys = None; number = 0 }) refl (none_sent (making m role config) (still_making m role config)) in
    subst (λ (k : StateData). FitsConfig m config k) (sym is) (record {
      form = record { form = λ past. absurd (true≢false (sym past)); clear = λ not_past. keys };
      rest = rest_begun config.plan;
    })

-- lines may be read then
pub begins_reading : (m : SuiteData) (role : Side) (form : LineForm) (i : Input) → Begins role form i → CanRead m i
begins_reading m role form (input.Lines reader) b = b.2
begins_reading m role form (input.Packets reader) b = absurd b

-- What is kept of a rest of a plan, once it is paused: how many attempts it has, and whether the first was confirmed.
drop_none : {X : Type 0} (k : ℕ) → ◌≡◌ {A = List X} (drop k []) []
drop_none zero = refl
drop_none (suc k) = refl

drop_back : {X : Type 0} (n : ℕ) (xs : List X) → drop (length xs - (length xs - n)) xs ≡ drop n xs
drop_back zero xs = let none : length xs - (length xs - 0) ≡ 0 = omega arith in ap (λ (k : ℕ). drop k xs) none
drop_back (suc n) [] = drop_none (0 - (0 - suc n))
drop_back (suc n) (x ∷ xs) =
    let one : length (x ∷ xs) ≡ suc (length xs) = refl in
    let more : length (x ∷ xs) - (length (x ∷ xs) - suc n) ≡ suc (length xs - (length xs - n)) = omega (arith, one) in
    ap (λ (k : ℕ). drop k (x ∷ xs)) more ∙ drop_back n xs

length_confirmed : (xs : List AttemptData) → length (confirmed xs) ≡ length xs
length_confirmed [] = refl
length_confirmed (a ∷ later) = refl

pub length_left : (b : Bool) (xs : List AttemptData) → length (left_of b xs) ≡ length xs
length_left true xs = length_confirmed xs
length_left false xs = refl

confirmed_calm : (xs : List AttemptData) → is_waiting (confirmed xs) ≡ false
confirmed_calm [] = refl
confirmed_calm (a ∷ later) = by a.proving
  where
    by : (p : CredentialData) → asks (unasked p) ≡ false
    by ByNothing = refl
    by (ByPassword password) = refl
    by (ByKey algorithm secret ask) = refl

-- one that doesn't wait may as well be confirmed
made_alike : (xs : List AttemptData) → left_of (not (is_waiting xs)) xs ≡ xs
made_alike [] = refl
made_alike (a ∷ later) = by a.proving
  where
    by : (p : CredentialData) → left_of (not (asks p)) (record a { proving = p } ∷ later) ≡ record a { proving = p } ∷ later
    by ByNothing = refl
    by (ByPassword password) = refl
    by (ByKey algorithm secret true) = refl
    by (ByKey algorithm secret false) = refl

pub rest_back : (plan left : List AttemptData) → IsRest plan left → left_of (not (is_waiting left)) (drop (length plan - length left) plan) ≡ left
rest_back plan left r = by r.is
  where
    last_is : length left ≡ length (drop r.from plan) → drop (length plan - length left) plan ≡ drop r.from plan
    last_is same = ap (λ (n : ℕ). drop (length plan - n) plan) (same ∙ length-drop r.from plan) ∙ drop_back r.from plan

    by : (left ≡ drop r.from plan) ⊎ (left ≡ confirmed (drop r.from plan)) → left_of (not (is_waiting left)) (drop (length plan - length left) plan) ≡ left
    by (inl e) = ap (left_of (not (is_waiting left))) (last_is (ap length e) ∙ sym e) ∙ made_alike left
    by (inr e) =
        ap (λ (w : Bool). left_of (not w) (drop (length plan - length left) plan)) (ap is_waiting e ∙ confirmed_calm (drop r.from plan))
        ∙ ap confirmed (last_is (ap length e ∙ length_confirmed (drop r.from plan))) ∙ sym e
