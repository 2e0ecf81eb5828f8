-- How much may still come that says nothing, with one payload more; and what is answered within it.

use Rattle.std.proofs.Common.{◌≡◌, ◌⊎◌, inl, inr, ℕ, ◌+◌, ◌==◌, Bool, true, false, cond, List, [], ◌∷◌, ◌++◌, Option, None, Some, refl, sym, ap, ◌∙◌, arith}
use Rattle.std.specs.Prelude.{◌&&◌, not, sum}
use Rattle.std.proofs.lemmas.Bool.{cases_Bool, eq-eqb, true≢false}
use Rattle.std.proofs.lemmas.List.{append-nil, append_assoc}
use Rattle.std.proofs.lemmas.List.Sums.{sum_by_push}
use Rattle.sshmsg.specs.MessageData.{KexInitData}
use Rattle.sshmsg.specs.Numbers.{message_number}
use Rattle.sshneg.specs.declared.side.Side.{Side}
use Rattle.sshneg.specs.declared.side.Side.TheVariants.{Client, Server}
use Rattle.sshpacket.specs.Places.{flat_places}
use Rattle.sshpacket.specs.Stream.{Units}
use Rattle.sshpacket.proofs.Places.{flat-push, prefix-append, stands-prefix}
use Rattle.sshcore.specs.declared.end.Fault.TheVariants as fault
use Rattle.sshcore.specs.declared.phase_table.Phase.TheVariants as phase
use Rattle.sshcore.specs.IgnoredLimit.{allowance_after, allowance_at, cost, costs, counts, less, overspends}
use Rattle.sshcore.specs.Before.{dropped, expects_guess, kept, stood}
use Rattle.sshcore.specs.EndData.{Reply, fails}
use Rattle.sshcore.specs.EndpointParts.{ConfigData}
use Rattle.sshcore.specs.KnownBefore.{Known}
use Rattle.sshcore.specs.Phases.{leaving}
use Rattle.sshcore.specs.Replies.{allowed}
use Rattle.sshcore.specs.Table.{is_ignorable}
use Rattle.sshcore.proofs.PhaseLemmas.{kept_free, stood_push}

and_false : (x : Bool) → (x && false) ≡ false
and_false true = refl
and_false false = refl

-- what holds of the failure and of the reply holds of what is answered
pub by_allowance : (P : Reply → Type 0) (known : Known) (payload : List ℕ) (r : Reply) → P (fails fault.TooMuchIgnored) → P r → P (allowed known payload r)
by_allowance P known payload r too_much within = by (overspends known.allowance payload)
  where
    by : (b : Bool) → P (cond b (fails fault.TooMuchIgnored) r)
    by true = too_much
    by false = within

-- what says something is answered so, whatever is allowed
pub always_allowed : (known : Known) (payload : List ℕ) (r : Reply) → is_ignorable (message_number payload) ≡ false → allowed known payload r ≡ r
always_allowed known payload r heeded = rw heeded refl

pub allowed_number : (known : Known) (payload : List ℕ) (r : Reply) (n : ℕ) → message_number payload ≡ n → is_ignorable n ≡ false → allowed known payload r ≡ r
allowed_number known payload r n is heeded = always_allowed known payload r (ap is_ignorable is ∙ heeded)

-- the exchange message says something
pub exchange_heeded : (role : Side) (n : ℕ) → n ≡ leaving role phase.Exchange → is_ignorable n ≡ false
exchange_heeded Client n e = rw e refl
exchange_heeded Server n e = rw e refl

less_more : (limit : Option ℕ) (spent more : ℕ) → less limit (spent + more) ≡ less (less limit spent) more
less_more None spent more = refl
less_more (Some n) spent more = ap Some (omega arith)

less_nothing : (limit : Option ℕ) → less limit 0 ≡ limit
less_nothing None = refl
less_nothing (Some n) = ap Some (omega arith)

module _ (role : Side) (own : KexInitData) where
  costs_push : (before : Units) (payload : List ℕ) → costs role own (before ++ payload ∷ []) ≡ costs role own before ++ cond (counts role own before payload) (cost payload ∷ []) []
  unfolding costs
  costs_push before payload = flat-push (λ b u. cond (counts role own b u) (cost u ∷ []) []) [] before payload

  -- nothing counts before NEWKEYS
  none_before : (before us : Units) → stood role own 21 (before ++ us) ≡ false → stood role own 21 before ≡ false
  unfolding stood
  none_before before us none = elim (cases_Bool (stood role own 21 before)) [
    | inl on ↦ absurd (true≢false (sym (stands-prefix (kept role own 21) before (before ++ us) (prefix-append before us) on) ∙ none))
    | inr off ↦ off
  ]

  places_none : (before us : Units) → stood role own 21 (before ++ us) ≡ false → flat_places (λ b u. cond (counts role own b u) (cost u ∷ []) []) before us ≡ []
  places_none before [] none = refl
  places_none before (u ∷ us) none =
      rw (none_before before (u ∷ us) none) (places_none (before ++ u ∷ []) us (ap (stood role own 21) (append_assoc before (u ∷ []) us) ∙ none))

  costs_none : (before : Units) → stood role own 21 before ≡ false → costs role own before ≡ []
  unfolding costs
  costs_none before none = places_none [] before none

module _ (role : Side) (config : ConfigData) (before : Units) (payload : List ℕ) where
  abbrev by_parts : Bool → List ℕ → Option ℕ
  by_parts switched xs = cond switched (less config.ignored_limit (sum xs)) None

  -- what doesn't count and is no NEWKEYS
  uncounted : kept role config.offer 21 before payload ≡ false → counts role config.offer before payload ≡ false
      → allowance_at role config (before ++ payload ∷ []) ≡ allowance_at role config before
  uncounted other none = ap (λ (b : Bool). by_parts b (costs role config.offer (before ++ payload ∷ []))) stood_same ∙ ap (λ (xs : List ℕ). by_parts (stood role config.offer 21 before) xs) costs_same
    where
      costs_same : costs role config.offer (before ++ payload ∷ []) ≡ costs role config.offer before
      costs_same = costs_push role config.offer before payload ∙ rw none (append-nil (costs role config.offer before))

      by : (b : Bool) → cond b true false ≡ b
      by true = refl
      by false = refl

      stood_same : stood role config.offer 21 (before ++ payload ∷ []) ≡ stood role config.offer 21 before
      stood_same = stood_push role config.offer before payload 21 ∙ rw other (by (stood role config.offer 21 before))

  -- a payload that is dropped, and one that says something
  pub allowance_dropped : ((k : ℕ) → kept role config.offer k before payload ≡ false)
      → allowance_at role config (before ++ payload ∷ []) ≡ allowance_at role config before
  allowance_dropped none = uncounted (none 21)
      (ap (λ (b : Bool). stood role config.offer 21 before && (is_ignorable (message_number payload) && not b)) due
      ∙ ap (λ (b : Bool). stood role config.offer 21 before && b) (and_false (is_ignorable (message_number payload))) ∙ and_false (stood role config.offer 21 before))
    where
      by : (same is : Bool) → same ≡ true → (same && not is) ≡ false → is ≡ true
      by true true e f = refl
      by true false e f = absurd (true≢false f)
      by false is e f = absurd (true≢false (sym e))

      due : dropped role config.offer before payload ≡ true
      due = by (message_number payload == message_number payload) (dropped role config.offer before payload) (eq-eqb (message_number payload) (message_number payload) refl) (none (message_number payload))

  pub allowance_stays : kept role config.offer 21 before payload ≡ false → is_ignorable (message_number payload) ≡ false
      → allowance_at role config (before ++ payload ∷ []) ≡ allowance_at role config before
  allowance_stays other heeded = uncounted other
      (ap (λ (b : Bool). stood role config.offer 21 before && (b && not (dropped role config.offer before payload))) heeded ∙ and_false (stood role config.offer 21 before))

  -- any payload that isn't dropped, of which the first NEWKEYS alone leaves the phase
  pub allowance_more : expects_guess role config.offer before ≡ false → ((message_number payload == 21) ≡ false) ⊎ (stood role config.offer 21 before ≡ false)
      → allowance_at role config (before ++ payload ∷ []) ≡ cond (message_number payload == 21) config.ignored_limit (allowance_after (allowance_at role config before) payload)
  allowance_more none first = elim (cases_Bool (message_number payload == 21)) [
    | inl is ↦ rw is (switches is first)
    | inr other ↦ rw other (elim (cases_Bool (is_ignorable (message_number payload))) [
      | inl heeded ↦ rw heeded (spends other heeded)
      | inr heeded ↦ rw heeded (allowance_stays (kept_free role config.offer before payload 21 none ∙ other) heeded)
    ])
  ]
    where
      switches : (message_number payload == 21) ≡ true → ((message_number payload == 21) ≡ false) ⊎ (stood role config.offer 21 before ≡ false) → allowance_at role config (before ++ payload ∷ []) ≡ config.ignored_limit
      switches is (inl other) = absurd (true≢false (sym is ∙ other))
      switches is (inr off) =
          let now : stood role config.offer 21 (before ++ payload ∷ []) ≡ true = stood_push role config.offer before payload 21 ∙ rw (off, kept_free role config.offer before payload 21 none, is) refl in
          let nothing : costs role config.offer (before ++ payload ∷ []) ≡ [] = costs_push role config.offer before payload ∙ rw off (append-nil (costs role config.offer before) ∙ costs_none role config.offer before off) in
          ap (λ (b : Bool). by_parts b (costs role config.offer (before ++ payload ∷ []))) now ∙ ap (λ (xs : List ℕ). by_parts true xs) nothing ∙ less_nothing config.ignored_limit

      spends : (message_number payload == 21) ≡ false → is_ignorable (message_number payload) ≡ true → allowance_at role config (before ++ payload ∷ []) ≡ less (allowance_at role config before) (cost payload)
      spends other heeded =
          let unkept : kept role config.offer 21 before payload ≡ false = kept_free role config.offer before payload 21 none ∙ other in
          elim (cases_Bool (stood role config.offer 21 before)) [
            | inl on ↦
                let now : stood role config.offer 21 (before ++ payload ∷ []) ≡ true = stood_push role config.offer before payload 21 ∙ rw on refl in
                let more : costs role config.offer (before ++ payload ∷ []) ≡ costs role config.offer before ++ cost payload ∷ [] = costs_push role config.offer before payload ∙ rw (on, heeded, none) refl in
                rw on (ap (λ (b : Bool). by_parts b (costs role config.offer (before ++ payload ∷ []))) now ∙ ap (λ (xs : List ℕ). by_parts true xs) more
                ∙ ap (less config.ignored_limit) (sum_by_push (λ (n : ℕ). n) (costs role config.offer before) (cost payload)) ∙ less_more config.ignored_limit (sum (costs role config.offer before)) (cost payload))
            | inr off ↦
                let now : stood role config.offer 21 (before ++ payload ∷ []) ≡ false = stood_push role config.offer before payload 21 ∙ rw (off, unkept) refl in
                rw (off, now) refl
          ]
