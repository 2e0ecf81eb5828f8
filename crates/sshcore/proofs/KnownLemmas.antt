-- What is known, with one payload more.

use Rattle.std.proofs.Common.{◌≡◌, ◌≢◌, ◌⊎◌, inl, inr, ℕ, ◌+◌, ◌==◌, Bool, true, false, cond, List, [], ◌∷◌, ◌++◌, length, length-append, Option, Some, refl, sym, ap, ◌∙◌, arith}
use Rattle.std.proofs.lemmas.Bool.{and_parts, eqb-true, ne_eqb, true≢false}
use Rattle.sshwire.specs.declared.share_form.ShareForm.{ShareForm}
use Rattle.sshmsg.specs.MessageData.{KexInitData}
use Rattle.sshmsg.specs.Messages.{message_in}
use Rattle.sshmsg.specs.Numbers.{message_number}
use Rattle.sshneg.specs.declared.side.Side.{Side}
use Rattle.sshneg.specs.Derivations.{ExchangeData}
use Rattle.sshneg.specs.ExchangeEnd.{exchange_hash, offer_in}
use Rattle.sshneg.specs.Fields.{AlgorithmsData}
use Rattle.sshpacket.specs.KeysData.{KeysData}
use Rattle.sshpacket.specs.Stream.{Units}
use Rattle.sshpacket.specs.Suite.{SuiteData}
use Rattle.sshpacket.proofs.Places.{first-push}
use Rattle.sshcore.specs.declared.phase_table.Phase.TheVariants as phase
use Rattle.sshcore.specs.IgnoredLimit.{allowance_at}
use Rattle.sshcore.specs.Before.{all_kept, count_kept, expects_guess, first_kept, kept, kexinit, offered, stood, strict_towards}
use Rattle.sshcore.specs.ConfigParts.{AttemptData}
use Rattle.sshcore.specs.Exchange.{algorithms_at, choice_with, chosen_or, exchange_at, exchange_message, exchange_with, keys_at, keys_by, session_at, shares_by}
use Rattle.sshcore.specs.KnownBefore.{Known, known_at, left_at}
use Rattle.sshcore.specs.EndpointParts.{ConfigData, DecisionsData, Setup, setup_with}
use Rattle.sshcore.specs.Phases.{leaving}
use Rattle.sshcore.specs.Plan.{left_after}
use Rattle.sshcore.specs.CompletedMethods.{CompletedMethodsData, completed_after, none_completed}
use Rattle.sshcore.specs.Tries.{tried_at}
use Rattle.sshcore.specs.Standing.{after_exchange, after_offer, after_payload, exchange_received, nothing_known}
use Rattle.sshcore.specs.Table.{is_ignorable}
use Rattle.sshcore.proofs.IgnoredLimitLemmas.{allowance_dropped, allowance_more, allowance_stays, exchange_heeded}
use Rattle.sshcore.proofs.GuessLemmas.{first_kexinit, none_stood}
use Rattle.sshcore.proofs.PhaseLemmas.{kexinit_push, stood_push}
use Rattle.sshcore.proofs.PlanLemmas.{completed_more, completed_stays, kept_exchange, kept_kind, left_more, left_stays, requests_more, requests_stay, unanswered_exchange, unanswered_from}

abbrev known_with : List ℕ → List ℕ → AlgorithmsData → ShareForm → List ℕ → ℕ → List AttemptData → CompletedMethodsData → Bool → Bool → Option ℕ → Known
known_with v k a f s r l g t i w = record { version = v; kexinit = k; algorithms = a; shares = f; session = s; request = r; left = l; completed = g; strict = t; first = i; allowance = w }

known_same : (v k k' : List ℕ) (a a' : AlgorithmsData) (f f' : ShareForm) (s s' : List ℕ) (r r' : ℕ) (l l' : List AttemptData) (g g' : CompletedMethodsData) (t t' i i' : Bool) (w w' : Option ℕ)
    → k ≡ k' → a ≡ a' → f ≡ f' → s ≡ s' → r ≡ r' → l ≡ l' → g ≡ g' → t ≡ t' → i ≡ i' → w ≡ w' → known_with v k a f s r l g t i w ≡ known_with v k' a' f' s' r' l' g' t' i' w'
known_same v k k' a a' f f' s s' r r' l l' g g' t t' i i' w w' ek ea ef es er el eg et ei ew = cc

pub kexinit_stays : (before : Units) (payload : List ℕ) → offered before ≡ true → kexinit (before ++ payload ∷ []) ≡ kexinit before
kexinit_stays before payload is = kexinit_push before payload ∙ rw is refl

pub kexinit_none : (before : Units) (payload : List ℕ) → offered before ≡ false → (message_number payload == 20) ≡ false → kexinit (before ++ payload ∷ []) ≡ kexinit before
kexinit_none before payload none other = kexinit_push before payload ∙ rw (none, other) (sym (none_stood before none))

some_stood : (before : Units) → offered before ≡ true → (length before == 0) ≡ false
unfolding offered
some_stood [] e = absurd (true≢false (sym e))
some_stood (u ∷ us) e = ne_eqb (length (u ∷ us)) 0 (λ q. omega (arith, q))

one_more : (before : Units) (payload : List ℕ) → (length (before ++ payload ∷ []) == 0) ≡ false
one_more before payload = ne_eqb (length (before ++ payload ∷ [])) 0 (λ e. let more : length (before ++ payload ∷ []) ≡ length before + 1 = length-append before (payload ∷ []) in omega arith)

module _ (m : SuiteData) (role : Side) (config : ConfigData) (version : List ℕ) where
  abbrev algorithms_of : List ℕ → AlgorithmsData
  algorithms_of k = chosen_or (choice_with m role config.offer (offer_in k))

  abbrev shares_data : List ℕ → ShareForm
  shares_data k = shares_by m (choice_with m role config.offer (offer_in k))

  abbrev pub exchange_by_payloads : List ℕ → List ℕ → ExchangeData
  exchange_by_payloads k message = exchange_with m role config (algorithms_of k) version k (message_in (shares_data k) message)

  abbrev session_by_payloads : List ℕ → List ℕ → List ℕ
  session_by_payloads k message = exchange_hash m (algorithms_of k).kex (exchange_by_payloads k message)

  abbrev pub keys_by_payloads : Side → List ℕ → List ℕ → KeysData
  keys_by_payloads sender k message = keys_by m (algorithms_of k) (exchange_by_payloads k message) sender

  message_push : (before : Units) (payload : List ℕ) → exchange_message role config (before ++ payload ∷ [])
      ≡ cond (stood role config.offer (leaving role phase.Exchange) before) (exchange_message role config before)
      (cond (kept role config.offer (leaving role phase.Exchange) before payload) payload [])
  unfolding first_kept stood
  message_push before payload = first-push [] (kept role config.offer (leaving role phase.Exchange)) [] before payload

  -- once the exchange message has stood, nothing of the exchange changes
  module _ (before : Units) (payload : List ℕ) (is : offered before ≡ true) (on : stood role config.offer (leaving role phase.Exchange) before ≡ true) where
    message_stays : exchange_message role config (before ++ payload ∷ []) ≡ exchange_message role config before
    message_stays = message_push before payload ∙ rw on refl

    session_stays : session_at m role config version (before ++ payload ∷ []) ≡ session_at m role config version before
    session_stays =
        ap (λ (k : List ℕ). session_by_payloads k (exchange_message role config (before ++ payload ∷ []))) (kexinit_stays before payload is)
        ∙ ap (λ (l : List ℕ). session_by_payloads (kexinit before) l) message_stays

    pub exchange_stays : exchange_at m role config version (before ++ payload ∷ []) ≡ exchange_at m role config version before
    exchange_stays =
        ap (λ (k : List ℕ). exchange_by_payloads k (exchange_message role config (before ++ payload ∷ []))) (kexinit_stays before payload is)
        ∙ ap (λ (l : List ℕ). exchange_by_payloads (kexinit before) l) message_stays

    pub keys_stay : (sender : Side) → keys_at m role config version (before ++ payload ∷ []) sender ≡ keys_at m role config version before sender
    keys_stay sender =
        ap (λ (k : List ℕ). keys_by_payloads sender k (exchange_message role config (before ++ payload ∷ []))) (kexinit_stays before payload is)
        ∙ ap (λ (l : List ℕ). keys_by_payloads sender (kexinit before) l) message_stays

  -- and the exchange message gives it
  module _ (before : Units) (payload : List ℕ) (is : offered before ≡ true) (none : stood role config.offer (leaving role phase.Exchange) before ≡ false)
      (here : kept role config.offer (leaving role phase.Exchange) before payload ≡ true) where
    message_is : exchange_message role config (before ++ payload ∷ []) ≡ payload
    message_is = message_push before payload ∙ rw (none, here) refl

    session_is : session_at m role config version (before ++ payload ∷ []) ≡ session_by_payloads (kexinit before) payload
    session_is =
        ap (λ (k : List ℕ). session_by_payloads k (exchange_message role config (before ++ payload ∷ []))) (kexinit_stays before payload is)
        ∙ ap (λ (l : List ℕ). session_by_payloads (kexinit before) l) message_is

    pub exchange_is : (d : DecisionsData) → exchange_at m role config version (before ++ payload ∷ []) ≡ exchange_received m role config (known_at (setup_with m d role config) version before) payload
    exchange_is d =
        ap (λ (k : List ℕ). exchange_by_payloads k (exchange_message role config (before ++ payload ∷ []))) (kexinit_stays before payload is)
        ∙ ap (λ (l : List ℕ). exchange_by_payloads (kexinit before) l) message_is

    pub keys_are : (d : DecisionsData) (sender : Side) → keys_at m role config version (before ++ payload ∷ []) sender
        ≡ keys_by m (algorithms_at m role config before) (exchange_received m role config (known_at (setup_with m d role config) version before) payload) sender
    keys_are d sender =
        ap (λ (k : List ℕ). keys_by_payloads sender k (exchange_message role config (before ++ payload ∷ []))) (kexinit_stays before payload is)
        ∙ ap (λ (l : List ℕ). keys_by_payloads sender (kexinit before) l) message_is

    stood_on : stood role config.offer (leaving role phase.Exchange) (before ++ payload ∷ []) ≡ true
    stood_on = stood_push role config.offer before payload (leaving role phase.Exchange) ∙ rw (none, here) refl

  -- a payload that is neither the first KEXINIT nor the first exchange message
  module _ (before : Units) (payload : List ℕ)
      (same : kexinit (before ++ payload ∷ []) ≡ kexinit before)
      (side : ((offered before ≡ true) × (stood role config.offer (leaving role phase.Exchange) before ≡ true))
      ⊎ ((stood role config.offer (leaving role phase.Exchange) before ≡ false) × (kept role config.offer (leaving role phase.Exchange) before payload ≡ false))) where
    session_kept : cond (stood role config.offer (leaving role phase.Exchange) (before ++ payload ∷ [])) (session_at m role config version (before ++ payload ∷ [])) []
        ≡ cond (stood role config.offer (leaving role phase.Exchange) before) (session_at m role config version before) []
    session_kept = by side
      where
        by : ((offered before ≡ true) × (stood role config.offer (leaving role phase.Exchange) before ≡ true))
            ⊎ ((stood role config.offer (leaving role phase.Exchange) before ≡ false) × (kept role config.offer (leaving role phase.Exchange) before payload ≡ false))
            → cond (stood role config.offer (leaving role phase.Exchange) (before ++ payload ∷ [])) (session_at m role config version (before ++ payload ∷ [])) []
            ≡ cond (stood role config.offer (leaving role phase.Exchange) before) (session_at m role config version before) []
        by (inl t) =
            let on : stood role config.offer (leaving role phase.Exchange) before ≡ true = t.1 in
            let now : stood role config.offer (leaving role phase.Exchange) (before ++ payload ∷ []) ≡ true = stood_push role config.offer before payload (leaving role phase.Exchange) ∙ rw on refl in
            rw (on, now) (session_stays before payload t.0 on)
        by (inr t) =
            let off : stood role config.offer (leaving role phase.Exchange) before ≡ false = t.0 in
            let not_kept : kept role config.offer (leaving role phase.Exchange) before payload ≡ false = t.1 in
            let now : stood role config.offer (leaving role phase.Exchange) (before ++ payload ∷ []) ≡ false = stood_push role config.offer before payload (leaving role phase.Exchange) ∙ rw (off, not_kept) refl in
            rw (off, now) refl

-- what is known
module _ (setup : Setup) (version : List ℕ) where
  module _ (before : Units) (payload : List ℕ) (is : offered before ≡ true) (none : stood setup.role setup.config.offer (leaving setup.role phase.Exchange) before ≡ false)
      (here : kept setup.role setup.config.offer (leaving setup.role phase.Exchange) before payload ≡ true) where
    pub known_exchanged : known_at setup version (before ++ payload ∷ []) ≡ after_exchange setup.suite setup.role setup.config (known_at setup version before) payload
    known_exchanged =
        let k : kexinit (before ++ payload ∷ []) ≡ kexinit before = kexinit_stays before payload is in
        known_same version _ _ _ _ _ _ _ _ _ _ _ _ _ _ _ _ _ _ _ _ k (ap (algorithms_of setup.suite setup.role setup.config version) k) (ap (shares_data setup.suite setup.role setup.config version) k)
        (rw (stood_on setup.suite setup.role setup.config version before payload is none here) (session_is setup.suite setup.role setup.config version before payload is none here))
        (ap (λ (n : ℕ). n + 1) (requests_stay setup.role setup.config.offer before payload (kept_exchange setup.role setup.config.offer before payload 50 (λ q. omega arith) (λ q. omega arith) here)))
        (left_stays setup.role setup.config before payload (unanswered_exchange setup.role setup.config.offer before payload here))
        (completed_stays setup version before payload (kept_exchange setup.role setup.config.offer before payload 50 (λ q. omega arith) (λ q. omega arith) here))
        (ap (λ (x : List ℕ). strict_towards setup.role setup.config.strict (offer_in x)) k) (one_more before payload ∙ sym (some_stood before is))
        (allowance_stays setup.role setup.config before payload (kept_exchange setup.role setup.config.offer before payload 21 (λ q. omega arith) (λ q. omega arith) here)
        (exchange_heeded setup.role (message_number payload) (eqb-true (message_number payload) (leaving setup.role phase.Exchange) (and_parts _ _ here).0)))

  module _ (before : Units) (payload : List ℕ)
      (same : kexinit (before ++ payload ∷ []) ≡ kexinit before)
      (side : ((offered before ≡ true) × (stood setup.role setup.config.offer (leaving setup.role phase.Exchange) before ≡ true))
      ⊎ ((stood setup.role setup.config.offer (leaving setup.role phase.Exchange) before ≡ false) × (kept setup.role setup.config.offer (leaving setup.role phase.Exchange) before payload ≡ false))) where
    pub known_kept : (request : ℕ) (left : List AttemptData) (completed : CompletedMethodsData) (allowance : Option ℕ) → count_kept setup.role setup.config.offer 50 (before ++ payload ∷ []) + 1 ≡ request
        → left_at setup.role setup.config (before ++ payload ∷ []) ≡ left
        → completed_after none_completed (tried_at setup version (before ++ payload ∷ [])) ≡ completed
        → allowance_at setup.role setup.config (before ++ payload ∷ []) ≡ allowance
        → known_at setup version (before ++ payload ∷ []) ≡ record (known_at setup version before) { request = request; left = left; completed = completed; first = false; allowance = allowance }
    known_kept request left completed allowance er el eg ew =
        known_same version _ _ _ _ _ _ _ _ _ _ _ _ _ _ _ _ _ _ _ _ same (ap (algorithms_of setup.suite setup.role setup.config version) same) (ap (shares_data setup.suite setup.role setup.config version) same) (session_kept setup.suite setup.role setup.config version before payload same side) er el eg
        (ap (λ (x : List ℕ). strict_towards setup.role setup.config.strict (offer_in x)) same) (one_more before payload) ew

    -- one that is dropped, and one that isn't
    pub known_dropped : ((k : ℕ) → kept setup.role setup.config.offer k before payload ≡ false)
        → known_at setup version (before ++ payload ∷ []) ≡ record (known_at setup version before) { first = false }
    known_dropped none =
        known_kept _ _ _ _ (ap (λ (n : ℕ). n + 1) (requests_stay setup.role setup.config.offer before payload (none 50))) (left_stays setup.role setup.config before payload (unanswered_from setup.role setup.config.offer before payload (none 51) (none 60)))
        (completed_stays setup version before payload (none 50)) (allowance_dropped setup.role setup.config before payload none)

    pub known_after : expects_guess setup.role setup.config.offer before ≡ false → ((message_number payload == 21) ≡ false) ⊎ (stood setup.role setup.config.offer 21 before ≡ false)
        → known_at setup version (before ++ payload ∷ []) ≡ after_payload setup.suite setup.decisions setup.config (known_at setup version before) payload
    known_after none first =
        known_kept _ _ _ _ (requests_more setup.role setup.config.offer before payload none) (left_more setup.role setup.config before payload none) (completed_more setup version before payload none)
        (allowance_more setup.role setup.config before payload none first)

  pub known_none : known_at setup version [] ≡ nothing_known setup.config version
  unfolding kexinit stood message_in all_kept count_kept left_after tried_at
  known_none = refl

  -- the first KEXINIT
  pub known_offered : (before : Units) (payload : List ℕ) (peer : KexInitData) → offered before ≡ false → message_number payload ≡ 20 → offer_in payload ≡ Some peer
      → stood setup.role setup.config.offer (leaving setup.role phase.Exchange) before ≡ false → stood setup.role setup.config.offer (leaving setup.role phase.Exchange) (before ++ payload ∷ []) ≡ false
      → known_at setup version (before ++ payload ∷ []) ≡ after_offer setup.suite setup.role setup.config (known_at setup version before) payload peer
  known_offered before payload peer none is offers off now =
      let k : kexinit (before ++ payload ∷ []) ≡ payload = first_kexinit before payload none is in
      let not_kept : (n : ℕ) → 20 ≢ n → kept setup.role setup.config.offer n before payload ≡ false = λ n other. kept_kind setup.role setup.config.offer before payload 20 n other is in
      known_same version _ _ _ _ _ _ _ _ _ _ _ _ _ _ _ _ _ _ _ _ k
      (ap (algorithms_of setup.suite setup.role setup.config version) k ∙ ap (λ o. chosen_or (choice_with setup.suite setup.role setup.config.offer o)) offers)
      (ap (shares_data setup.suite setup.role setup.config version) k ∙ ap (λ o. shares_by setup.suite (choice_with setup.suite setup.role setup.config.offer o)) offers) (rw (off, now) refl)
      (ap (λ (n : ℕ). n + 1) (requests_stay setup.role setup.config.offer before payload (not_kept 50 (λ q. omega arith))))
      (left_stays setup.role setup.config before payload (unanswered_from setup.role setup.config.offer before payload (not_kept 51 (λ q. omega arith)) (not_kept 60 (λ q. omega arith))))
      (completed_stays setup version before payload (not_kept 50 (λ q. omega arith)))
      (ap (λ (x : List ℕ). strict_towards setup.role setup.config.strict (offer_in x)) k ∙ ap (λ o. strict_towards setup.role setup.config.strict o) offers) (one_more before payload)
      (allowance_stays setup.role setup.config before payload (not_kept 21 (λ q. omega arith)) (ap is_ignorable is))
