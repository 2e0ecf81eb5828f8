-- Where an endpoint stands between two payloads, and what the next one does to it.

use Rattle.std.proofs.Common.{◌≡◌, ◌⊎◌, inl, inr, ℕ, ◌+◌, ◌==◌, Bool, true, false, cond, List, [], ◌∷◌, ◌++◌, Some, refl, sym, ap, ◌∙◌}
use Rattle.std.specs.Prelude.{◌%◌, ◌^◌}
use Rattle.std.proofs.lemmas.Bool.{eq-eqb, true≢false}
use Rattle.sshwire.specs.declared.share_form.ShareForm.TheVariants.{Mpint}
use Rattle.sshmsg.specs.MessageData.{KexInit, KexInitData}
use Rattle.sshmsg.specs.Numbers.{message_number}
use Rattle.sshneg.specs.declared.side.Side.{Side}
use Rattle.sshneg.specs.declared.side.Side.TheVariants.{Client, Server}
use Rattle.sshneg.specs.ExchangeEnd.{offer_in}
use Rattle.sshpacket.specs.Stream.{Units}
use Rattle.sshcore.specs.declared.phase_table.Phase.{Phase}
use Rattle.sshcore.specs.declared.phase_table.Phase.TheVariants as phase
use Rattle.sshcore.specs.Before.{expects_guess, kept, offered, strict_at, stood, wrong_guess}
use Rattle.sshcore.specs.Counting.{number_in}
use Rattle.sshcore.specs.Exchange.{exchange_at, keys_at, keys_by}
use Rattle.sshcore.specs.KnownBefore.{Known, waits_at}
use Rattle.sshcore.specs.EndpointParts.{Setup}
use Rattle.sshcore.specs.Plan.{is_waiting}
use Rattle.sshcore.specs.Phases.{leaving, next_phase, past_exchange, past_kexinit, past_newkeys}
use Rattle.sshcore.specs.Replies.{disposition_at, disposition_reply, reply_at}
use Rattle.sshcore.specs.Standing.{LeavesNone, Sits, Tied, after_exchange, after_offer, after_payload, exchange_received, nothing_known}
use Rattle.sshcore.specs.Table.{disposition_by}
use Rattle.sshcore.proofs.LawsBelow.{Below}
use Rattle.sshcore.proofs.CountingLemmas.{number_more, number_switched}
use Rattle.sshcore.proofs.GuessLemmas.{first_guess, no_guess, none_due, read_offer}
use Rattle.sshcore.proofs.KnownLemmas.{exchange_is, exchange_stays, keys_are, keys_stay, kexinit_none, kexinit_stays, known_after, known_dropped, known_exchanged, known_none, known_offered}
use Rattle.sshcore.proofs.PhaseLemmas.{guess_offered, kept_dropped, kept_free, tied_dropped, tied_leaves, tied_none, tied_phase, tied_stays}
use Rattle.sshcore.proofs.StrictLemmas.{leaving_kexinit}

nothing_offered : offered [] ≡ false
unfolding offered
nothing_offered = refl

pub past_past : (p : Phase) → past_exchange p ≡ true → past_kexinit p ≡ true
past_past phase.KexInit e = absurd (true≢false (sym e))
past_past phase.Exchange e = refl
past_past phase.NewKeys e = refl
past_past phase.Service e = refl
past_past phase.Auth e = refl

switched_past : (p : Phase) → past_newkeys p ≡ true → past_kexinit p ≡ true
switched_past phase.KexInit e = absurd (true≢false (sym e))
switched_past phase.Exchange e = absurd (true≢false (sym e))
switched_past phase.NewKeys e = absurd (true≢false (sym e))
switched_past phase.Service e = refl
switched_past phase.Auth e = refl

-- what leaves a phase after the exchange is the first NEWKEYS, or none
service_number : (role : Side) (n : ℕ) → n ≡ leaving role phase.Service → (n == 21) ≡ false
service_number Client n e = rw e refl
service_number Server n e = rw e refl

auth_number : (role : Side) (n : ℕ) → n ≡ leaving role phase.Auth → (n == 21) ≡ false
auth_number Client n e = rw e refl
auth_number Server n e = rw e refl

first_newkeys : (setup : Setup) (before : Units) (n : ℕ) (p : Phase) → Tied setup.role setup.config.offer before p → past_exchange p ≡ true → n ≡ leaving setup.role p
    → ((n == 21) ≡ false) ⊎ (stood setup.role setup.config.offer 21 before ≡ false)
first_newkeys setup before n phase.KexInit t past is = absurd (true≢false (sym past))
first_newkeys setup before n phase.Exchange t past is = absurd (true≢false (sym past))
first_newkeys setup before n phase.NewKeys t past is = inr t.newkeys
first_newkeys setup before n phase.Service t past is = inl (service_number setup.role n is)
first_newkeys setup before n phase.Auth t past is = inl (auth_number setup.role n is)

module _ (setup : Setup) (version : List ℕ) where
  pub begins : Sits setup version [] phase.KexInit false (nothing_known setup.config version)
  begins = record {
    tied = tied_none setup.role setup.config.offer;
    due = none_due setup.role setup.config.offer [] nothing_offered;
    knows = known_none setup version;
  }

  module _ (before : Units) (payload : List ℕ) where
    pub replies : (p : Phase) (guess : Bool) (known : Known) → Sits setup version before p guess known
        → reply_at setup version before payload
        ≡ disposition_reply setup known (number_in setup.role setup.config before) (disposition_by setup.role p known.strict guess (is_waiting known.left) (message_number payload)) payload
    replies p guess known s =
        let strict : strict_at setup.role setup.config before ≡ known.strict = ap (λ (k : Known). k.strict) s.knows in
        let line : disposition_at setup.role setup.config before payload ≡ disposition_by setup.role p known.strict guess (is_waiting known.left) (message_number payload) =
        ap (λ q. disposition_by setup.role q (strict_at setup.role setup.config before) (expects_guess setup.role setup.config.offer before) (waits_at setup.role setup.config before) (message_number payload)) (tied_phase setup.role setup.config.offer before p s.tied)
        ∙ ap (λ b. disposition_by setup.role p b (expects_guess setup.role setup.config.offer before) (waits_at setup.role setup.config before) (message_number payload)) strict
        ∙ ap (λ b. disposition_by setup.role p known.strict b (waits_at setup.role setup.config before) (message_number payload)) s.due
        ∙ ap (λ (k : Known). disposition_by setup.role p known.strict guess (is_waiting k.left) (message_number payload)) s.knows in
        ap (λ k. disposition_reply setup k (number_in setup.role setup.config before) (disposition_at setup.role setup.config before payload) payload) s.knows
        ∙ ap (λ l. disposition_reply setup known (number_in setup.role setup.config before) l payload) line

    pub offers : Below → (peer : KexInitData) (known : Known) → Sits setup version before phase.KexInit false known → offer_in payload ≡ Some peer
        → Sits setup version (before ++ payload ∷ []) phase.Exchange (wrong_guess setup.role setup.config.offer (Some peer)) (after_offer setup.suite setup.role setup.config known payload peer)
    offers below peer known s offered_is =
        let is : message_number payload ≡ 20 = below.numbers Mpint payload (KexInit peer) (read_offer payload peer offered_is) in
        let tied : Tied setup.role setup.config.offer (before ++ payload ∷ []) phase.Exchange = tied_leaves setup.role setup.config.offer before payload phase.KexInit s.tied s.due (is ∙ sym (leaving_kexinit setup.role)) in
        record {
          tied = tied;
          due = first_guess setup.role setup.config.offer before payload s.tied.offer is ∙ ap (λ o. wrong_guess setup.role setup.config.offer o) offered_is;
          knows = known_offered setup version before payload peer s.tied.offer is offered_is s.tied.exchange tied.exchange
              ∙ ap (λ (k : Known). after_offer setup.suite setup.role setup.config k payload peer) s.knows;
        }

    pub drops : (p : Phase) (known : Known) → Sits setup version before p true known → (message_number payload == 1) ≡ false
        → Sits setup version (before ++ payload ∷ []) p false (record known { first = false })
    drops p known s one =
        let is : offered before ≡ true = guess_offered setup.role setup.config.offer before payload s.due in
        let none : (k : ℕ) → kept setup.role setup.config.offer k before payload ≡ false = λ k. kept_dropped setup.role setup.config.offer before payload k s.due one in
        record {
          tied = tied_dropped setup.role setup.config.offer before payload p s.tied s.due one;
          due = no_guess setup.role setup.config.offer before payload is;
          knows = known_dropped setup version before payload (kexinit_stays before payload is) (side p s.tied is (none (leaving setup.role phase.Exchange))) none
              ∙ ap (λ (k : Known). record k { first = false }) s.knows;
        }
      where
        by_bool : (b : Bool) → stood setup.role setup.config.offer (leaving setup.role phase.Exchange) before ≡ b → offered before ≡ true → kept setup.role setup.config.offer (leaving setup.role phase.Exchange) before payload ≡ false
            → ((offered before ≡ true) × (stood setup.role setup.config.offer (leaving setup.role phase.Exchange) before ≡ true))
            ⊎ ((stood setup.role setup.config.offer (leaving setup.role phase.Exchange) before ≡ false) × (kept setup.role setup.config.offer (leaving setup.role phase.Exchange) before payload ≡ false))
        by_bool true e is none = inl (is, e)
        by_bool false e is none = inr (e, none)

        side : (p : Phase) → Tied setup.role setup.config.offer before p → offered before ≡ true → kept setup.role setup.config.offer (leaving setup.role phase.Exchange) before payload ≡ false
            → ((offered before ≡ true) × (stood setup.role setup.config.offer (leaving setup.role phase.Exchange) before ≡ true))
            ⊎ ((stood setup.role setup.config.offer (leaving setup.role phase.Exchange) before ≡ false) × (kept setup.role setup.config.offer (leaving setup.role phase.Exchange) before payload ≡ false))
        side p t is none = by_bool (past_exchange p) t.exchange is none

    pub exchanges : (known : Known) → Sits setup version before phase.Exchange false known → message_number payload ≡ leaving setup.role phase.Exchange
        → Sits setup version (before ++ payload ∷ []) phase.NewKeys false (after_exchange setup.suite setup.role setup.config known payload)
    exchanges known s is =
        let here : kept setup.role setup.config.offer (leaving setup.role phase.Exchange) before payload ≡ true = kept_free setup.role setup.config.offer before payload (leaving setup.role phase.Exchange) s.due ∙ eq-eqb (message_number payload) (leaving setup.role phase.Exchange) is in
        record {
          tied = tied_leaves setup.role setup.config.offer before payload phase.Exchange s.tied s.due is;
          due = no_guess setup.role setup.config.offer before payload s.tied.offer;
          knows = known_exchanged setup version before payload s.tied.offer s.tied.exchange here
              ∙ ap (λ (k : Known). after_exchange setup.suite setup.role setup.config k payload) s.knows;
        }

    pub leaves : (p : Phase) (known : Known) → Sits setup version before p false known → past_exchange p ≡ true → message_number payload ≡ leaving setup.role p
        → Sits setup version (before ++ payload ∷ []) (next_phase p) false (after_payload setup.suite setup.decisions setup.config known payload)
    leaves p known s past is =
        let begun : offered before ≡ true = s.tied.offer ∙ past_past p past in
        record {
          tied = tied_leaves setup.role setup.config.offer before payload p s.tied s.due is;
          due = no_guess setup.role setup.config.offer before payload begun;
          knows = known_after setup version before payload (kexinit_stays before payload begun) (inl (begun, s.tied.exchange ∙ past)) s.due (first_newkeys setup before (message_number payload) p s.tied past is)
              ∙ ap (λ (k : Known). after_payload setup.suite setup.decisions setup.config k payload) s.knows;
        }

    pub stays : (p : Phase) (known : Known) → Sits setup version before p false known → LeavesNone setup.role (message_number payload)
        → Sits setup version (before ++ payload ∷ []) p false (after_payload setup.suite setup.decisions setup.config known payload)
    stays p known s l =
        let tied : Tied setup.role setup.config.offer (before ++ payload ∷ []) p = tied_stays setup.role setup.config.offer before payload p s.tied s.due l in
        let none : kept setup.role setup.config.offer (leaving setup.role phase.Exchange) before payload ≡ false = kept_free setup.role setup.config.offer before payload (leaving setup.role phase.Exchange) s.due ∙ l.exchange in
        by p s tied none (past_exchange p) refl
      where
        by : (p : Phase) → Sits setup version before p false known → Tied setup.role setup.config.offer (before ++ payload ∷ []) p
            → kept setup.role setup.config.offer (leaving setup.role phase.Exchange) before payload ≡ false → (b : Bool) → past_exchange p ≡ b
            → Sits setup version (before ++ payload ∷ []) p false (after_payload setup.suite setup.decisions setup.config known payload)
        by p s tied none true past =
            let begun : offered before ≡ true = s.tied.offer ∙ past_past p past in
            record {
              tied = tied;
              due = no_guess setup.role setup.config.offer before payload begun;
              knows = known_after setup version before payload (kexinit_stays before payload begun) (inl (begun, s.tied.exchange ∙ past)) s.due (inl l.newkeys)
                  ∙ ap (λ (k : Known). after_payload setup.suite setup.decisions setup.config k payload) s.knows;
            }
        by p s tied none false past = by_offer (past_kexinit p) refl
          where
            by_offer : (b : Bool) → past_kexinit p ≡ b → Sits setup version (before ++ payload ∷ []) p false (after_payload setup.suite setup.decisions setup.config known payload)
            by_offer true begun = record {
              tied = tied;
              due = no_guess setup.role setup.config.offer before payload (s.tied.offer ∙ begun);
              knows = known_after setup version before payload (kexinit_stays before payload (s.tied.offer ∙ begun)) (inr (s.tied.exchange ∙ past, none)) s.due (inl l.newkeys)
                  ∙ ap (λ (k : Known). after_payload setup.suite setup.decisions setup.config k payload) s.knows;
            }
            by_offer false not_begun = record {
              tied = tied;
              due = none_due setup.role setup.config.offer (before ++ payload ∷ []) (tied.offer ∙ not_begun);
              knows = known_after setup version before payload (kexinit_none before payload (s.tied.offer ∙ not_begun) l.kexinit) (inr (s.tied.exchange ∙ past, none)) s.due (inl l.newkeys)
                  ∙ ap (λ (k : Known). after_payload setup.suite setup.decisions setup.config k payload) s.knows;
            }

    -- keys
    pub makes_keys : (known : Known) → Sits setup version before phase.Exchange false known → message_number payload ≡ leaving setup.role phase.Exchange → (sender : Side)
        → keys_at setup.suite setup.role setup.config version (before ++ payload ∷ []) sender ≡ keys_by setup.suite known.algorithms (exchange_received setup.suite setup.role setup.config known payload) sender
    makes_keys known s is sender =
        let here : kept setup.role setup.config.offer (leaving setup.role phase.Exchange) before payload ≡ true = kept_free setup.role setup.config.offer before payload (leaving setup.role phase.Exchange) s.due ∙ eq-eqb (message_number payload) (leaving setup.role phase.Exchange) is in
        keys_are setup.suite setup.role setup.config version before payload s.tied.offer s.tied.exchange here setup.decisions sender
        ∙ ap (λ (k : Known). keys_by setup.suite k.algorithms (exchange_received setup.suite setup.role setup.config k payload) sender) s.knows

    pub makes_exchange : (known : Known) → Sits setup version before phase.Exchange false known → message_number payload ≡ leaving setup.role phase.Exchange
        → exchange_at setup.suite setup.role setup.config version (before ++ payload ∷ []) ≡ exchange_received setup.suite setup.role setup.config known payload
    makes_exchange known s is =
        let here : kept setup.role setup.config.offer (leaving setup.role phase.Exchange) before payload ≡ true = kept_free setup.role setup.config.offer before payload (leaving setup.role phase.Exchange) s.due ∙ eq-eqb (message_number payload) (leaving setup.role phase.Exchange) is in
        exchange_is setup.suite setup.role setup.config version before payload s.tied.offer s.tied.exchange here setup.decisions ∙ ap (λ (k : Known). exchange_received setup.suite setup.role setup.config k payload) s.knows

    pub keeps_exchange : (p : Phase) (guess : Bool) (known : Known) → Sits setup version before p guess known → past_exchange p ≡ true
        → exchange_at setup.suite setup.role setup.config version (before ++ payload ∷ []) ≡ exchange_at setup.suite setup.role setup.config version before
    keeps_exchange p guess known s past = exchange_stays setup.suite setup.role setup.config version before payload (s.tied.offer ∙ past_past p past) (s.tied.exchange ∙ past)

    pub keeps_keys : (p : Phase) (guess : Bool) (known : Known) → Sits setup version before p guess known → past_exchange p ≡ true → (sender : Side)
        → keys_at setup.suite setup.role setup.config version (before ++ payload ∷ []) sender ≡ keys_at setup.suite setup.role setup.config version before sender
    keeps_keys p guess known s past sender = keys_stay setup.suite setup.role setup.config version before payload (s.tied.offer ∙ past_past p past) (s.tied.exchange ∙ past) sender

    -- numbers
    pub counts_anew : (known : Known) → Sits setup version before phase.NewKeys false known → message_number payload ≡ 21
        → number_in setup.role setup.config (before ++ payload ∷ []) ≡ cond known.strict 0 ((number_in setup.role setup.config before + 1) % 2 ^ 32)
    counts_anew known s is =
        let here : kept setup.role setup.config.offer 21 before payload ≡ true = kept_free setup.role setup.config.offer before payload 21 s.due ∙ eq-eqb (message_number payload) 21 is in
        number_switched setup.role setup.config before payload s.tied.offer s.tied.newkeys here
        ∙ ap (λ (k : Known). cond k.strict 0 ((number_in setup.role setup.config before + 1) % 2 ^ 32)) s.knows

    pub counts_on : (p : Phase) (guess : Bool) (known : Known) → Sits setup version before p guess known
        → (past_newkeys p ≡ true) ⊎ (kept setup.role setup.config.offer 21 before payload ≡ false) → number_in setup.role setup.config (before ++ payload ∷ []) ≡ (number_in setup.role setup.config before + 1) % 2 ^ 32
    counts_on p guess known s side = by (past_newkeys p) refl side
      where
        by : (b : Bool) → past_newkeys p ≡ b → (past_newkeys p ≡ true) ⊎ (kept setup.role setup.config.offer 21 before payload ≡ false)
            → number_in setup.role setup.config (before ++ payload ∷ []) ≡ (number_in setup.role setup.config before + 1) % 2 ^ 32
        by true past side = number_more setup.role setup.config before payload (inl (s.tied.offer ∙ switched_past p past, s.tied.newkeys ∙ past))
        by false past (inl on) = absurd (true≢false (sym on ∙ past))
        by false past (inr none) = number_more setup.role setup.config before payload (inr (s.tied.newkeys ∙ past, none))
