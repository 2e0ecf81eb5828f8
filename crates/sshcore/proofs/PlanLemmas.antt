-- What is known of requests and of the plan, with one payload more.

use Rattle.std.proofs.Common.{◌≡◌, ◌≢◌, ℕ, ◌+◌, ◌==◌, Bool, true, false, cond, List, [], ◌∷◌, ◌++◌, Option, None, Some, refl, sym, ap, ◌∙◌, arith}
use Rattle.std.specs.Prelude.{◌&&◌, ◌||◌, not}
use Rattle.std.proofs.lemmas.Bool.{and_parts, eqb-true, ne_eqb}
use Rattle.std.proofs.lemmas.List.{append-nil}
use Rattle.sshmsg.specs.MessageData.{KexInitData}
use Rattle.sshmsg.specs.Numbers.{message_number}
use Rattle.sshneg.specs.declared.side.Side.{Side}
use Rattle.sshneg.specs.declared.side.Side.TheVariants.{Client, Server}
use Rattle.sshpacket.specs.Stream.{Units}
use Rattle.sshpacket.proofs.Places.{count-push, flat-push}
use Rattle.sshcore.specs.declared.phase_table.Phase.TheVariants as phase
use Rattle.sshcore.specs.Before.{all_kept, count_kept, dropped, expects_guess, kept}
use Rattle.sshcore.specs.ConfigParts.{AttemptData}
use Rattle.sshcore.specs.KnownBefore.{left_at}
use Rattle.sshcore.specs.EndpointParts.{ConfigData, Setup, UserKeyData}
use Rattle.sshcore.specs.Phases.{leaving}
use Rattle.sshcore.specs.Plan.{is_answer, left_after, left_after_one}
use Rattle.sshcore.specs.CompletedMethods.{CompletedMethodsData, Tried, completed_after, completed_after_one, none_completed}
use Rattle.sshcore.specs.Tries.{last_key, session_known, successful_key_in, successful_key_place, successful_keys_at, tried_at, tried_in, tried_place}
use Rattle.sshcore.proofs.PhaseLemmas.{and_true, kept_free}

left_push : (plan : List AttemptData) (us : Units) (u : List ℕ) → left_after plan (us ++ u ∷ []) ≡ left_after_one (left_after plan us) u
unfolding left_after
left_push plan [] u = refl
left_push plan (v ∷ us) u = left_push (left_after_one plan v) us u

module _ (role : Side) (own : KexInitData) (before : Units) (payload : List ℕ) where
  pub count_push : (k : ℕ) → count_kept role own k (before ++ payload ∷ []) ≡ cond (kept role own k before payload) (count_kept role own k before + 1) (count_kept role own k before)
  unfolding count_kept
  count_push k = count-push (kept role own k) [] before payload

  all_push : (test : ℕ → Bool) → all_kept role own test (before ++ payload ∷ [])
      ≡ all_kept role own test before ++ cond (test (message_number payload) && not (dropped role own before payload)) (payload ∷ []) []
  unfolding all_kept
  all_push test = flat-push (λ b u. cond (test (message_number u) && not (dropped role own b u)) (u ∷ []) []) [] before payload

  -- a message of another number
  pub kept_kind : (k j : ℕ) → k ≢ j → message_number payload ≡ k → kept role own j before payload ≡ false
  kept_kind k j other same = let none : (message_number payload == j) ≡ false = ne_eqb (message_number payload) j (λ e. other (sym same ∙ e)) in rw none refl

  pub kept_exchange : (j : ℕ) → j ≢ 30 → j ≢ 31 → kept role own (leaving role phase.Exchange) before payload ≡ true → kept role own j before payload ≡ false
  kept_exchange j init reply is = kept_kind (leaving role phase.Exchange) j (by role) (eqb-true (message_number payload) (leaving role phase.Exchange) (and_parts _ _ is).0)
    where
      by : (r : Side) → leaving r phase.Exchange ≢ j
      by Client = λ e. reply (sym e)
      by Server = λ e. init (sym e)

  -- a payload that isn't counted
  pub requests_stay : kept role own 50 before payload ≡ false → count_kept role own 50 (before ++ payload ∷ []) ≡ count_kept role own 50 before
  requests_stay none = count_push 50 ∙ rw none refl

  -- no answer is a message that isn't a FAILURE and isn't a PK_OK
  abbrev pub is_answered : Bool
  is_answered = is_answer (message_number payload) && not (dropped role own before payload)

  pub unanswered_from : kept role own 51 before payload ≡ false → kept role own 60 before payload ≡ false → is_answered ≡ false
  unanswered_from a b = by (message_number payload == 51) (message_number payload == 60) (not (dropped role own before payload)) a b
    where
      by : (x y z : Bool) → (x && z) ≡ false → (y && z) ≡ false → ((x || y) && z) ≡ false
      by true y z a b = a
      by false y z a b = b

  pub unanswered_exchange : kept role own (leaving role phase.Exchange) before payload ≡ true → is_answered ≡ false
  unanswered_exchange is =
      unanswered_from (kept_exchange 51 (λ q. omega arith) (λ q. omega arith) is) (kept_exchange 60 (λ q. omega arith) (λ q. omega arith) is)

  -- and one that may be
  pub requests_more : expects_guess role own before ≡ false
      → count_kept role own 50 (before ++ payload ∷ []) + 1 ≡ cond (message_number payload == 50) (count_kept role own 50 before + 1 + 1) (count_kept role own 50 before + 1)
  requests_more none = ap (λ (n : ℕ). n + 1) (count_push 50 ∙ rw (kept_free role own before payload 50 none) refl) ∙ by (message_number payload == 50)
    where
      by : (b : Bool) → cond b (count_kept role own 50 before + 1) (count_kept role own 50 before) + 1 ≡ cond b (count_kept role own 50 before + 1 + 1) (count_kept role own 50 before + 1)
      by true = refl
      by false = refl

-- what is left of the plan
module _ (role : Side) (config : ConfigData) (before : Units) (payload : List ℕ) where
  pub left_stays : is_answered role config.offer before payload ≡ false → left_at role config (before ++ payload ∷ []) ≡ left_at role config before
  left_stays none = ap (left_after config.plan) (all_push role config.offer before payload is_answer ∙ rw none (append-nil (all_kept role config.offer is_answer before)))

  pub left_answered : is_answered role config.offer before payload ≡ true → left_at role config (before ++ payload ∷ []) ≡ left_after_one (left_at role config before) payload
  left_answered on =
      ap (left_after config.plan) (all_push role config.offer before payload is_answer ∙ ap (λ (b : Bool). all_kept role config.offer is_answer before ++ cond b (payload ∷ []) []) on)
      ∙ left_push config.plan (all_kept role config.offer is_answer before) payload

  pub left_more : expects_guess role config.offer before ≡ false
      → left_at role config (before ++ payload ∷ []) ≡ cond (is_answer (message_number payload)) (left_after_one (left_at role config before) payload) (left_at role config before)
  left_more none =
      ap (left_after config.plan) (all_push role config.offer before payload is_answer ∙ ap (λ (b : Bool). all_kept role config.offer is_answer before ++ cond b (payload ∷ []) []) free)
      ∙ by (is_answer (message_number payload))
    where
      free : is_answered role config.offer before payload ≡ is_answer (message_number payload)
      free = rw none (and_true (is_answer (message_number payload)))

      by : (b : Bool) → left_after config.plan (all_kept role config.offer is_answer before ++ cond b (payload ∷ []) [])
          ≡ cond b (left_after_one (left_at role config before) payload) (left_at role config before)
      by true = left_push config.plan (all_kept role config.offer is_answer before) payload
      by false = ap (left_after config.plan) (append-nil (all_kept role config.offer is_answer before))

-- what is completed
pub completed_push : (r : CompletedMethodsData) (xs ys : List Tried) → completed_after r (xs ++ ys) ≡ completed_after (completed_after r xs) ys
completed_push r [] ys = refl
completed_push r (x ∷ xs) ys = completed_push (completed_after_one r x) xs ys

module _ (setup : Setup) (version : List ℕ) (before : Units) (payload : List ℕ) where
  pub tried_push : tried_at setup version (before ++ payload ∷ []) ≡ tried_at setup version before ++ tried_place setup version before payload
  unfolding tried_at
  tried_push = flat-push (tried_place setup version) [] before payload

  completed_so : completed_after none_completed (tried_at setup version (before ++ payload ∷ []))
      ≡ completed_after (completed_after none_completed (tried_at setup version before)) (tried_place setup version before payload)
  completed_so = ap (completed_after none_completed) tried_push ∙ completed_push none_completed (tried_at setup version before) (tried_place setup version before payload)

  pub completed_stays : kept setup.role setup.config.offer 50 before payload ≡ false
      → completed_after none_completed (tried_at setup version (before ++ payload ∷ [])) ≡ completed_after none_completed (tried_at setup version before)
  completed_stays none = completed_so ∙ rw none refl

  pub completed_more : expects_guess setup.role setup.config.offer before ≡ false
      → completed_after none_completed (tried_at setup version (before ++ payload ∷ []))
      ≡ cond (message_number payload == 50) (completed_after (completed_after none_completed (tried_at setup version before))
      (tried_in setup.suite setup.decisions setup.config (session_known setup.suite setup.role setup.config version before) (count_kept setup.role setup.config.offer 50 before + 1) payload))
      (completed_after none_completed (tried_at setup version before))
  completed_more none = completed_so ∙ rw (kept_free setup.role setup.config.offer before payload 50 none) (by (message_number payload == 50))
    where
      by : (b : Bool) → completed_after (completed_after none_completed (tried_at setup version before))
          (cond b (tried_in setup.suite setup.decisions setup.config (session_known setup.suite setup.role setup.config version before) (count_kept setup.role setup.config.offer 50 before + 1) payload) [])
          ≡ cond b (completed_after (completed_after none_completed (tried_at setup version before))
          (tried_in setup.suite setup.decisions setup.config (session_known setup.suite setup.role setup.config version before) (count_kept setup.role setup.config.offer 50 before + 1) payload))
          (completed_after none_completed (tried_at setup version before))
      by true = refl
      by false = refl

-- the key of the last request that was successful by one
last_push : (key : Option UserKeyData) (xs ys : List UserKeyData) → last_key key (xs ++ ys) ≡ last_key (last_key key xs) ys
last_push key [] ys = refl
last_push key (x ∷ xs) ys = last_push (Some x) xs ys

module _ (setup : Setup) (version : List ℕ) where
  abbrev pub last_successful_key : Units → Option UserKeyData
  last_successful_key before = last_key None (successful_keys_at setup version before)

  pub no_successful_key : last_successful_key [] ≡ None
  unfolding successful_keys_at
  no_successful_key = refl

  module _ (before : Units) (payload : List ℕ) where
    keys_push : successful_keys_at setup version (before ++ payload ∷ []) ≡ successful_keys_at setup version before ++ successful_key_place setup version before payload
    unfolding successful_keys_at
    keys_push = flat-push (successful_key_place setup version) [] before payload

    last_so : last_successful_key (before ++ payload ∷ []) ≡ last_key (last_successful_key before) (successful_key_place setup version before payload)
    last_so = ap (last_key None) keys_push ∙ last_push None (successful_keys_at setup version before) (successful_key_place setup version before payload)

    pub key_stays : kept setup.role setup.config.offer 50 before payload ≡ false → last_successful_key (before ++ payload ∷ []) ≡ last_successful_key before
    key_stays none = last_so ∙ rw none refl

    pub key_more : expects_guess setup.role setup.config.offer before ≡ false → last_successful_key (before ++ payload ∷ [])
        ≡ cond (message_number payload == 50) (last_key (last_successful_key before) (successful_key_in setup.suite setup.decisions setup.config (session_known setup.suite setup.role setup.config version before) (count_kept setup.role setup.config.offer 50 before + 1) payload)) (last_successful_key before)
    key_more none = last_so ∙ rw (kept_free setup.role setup.config.offer before payload 50 none) (by (message_number payload == 50))
      where
        by : (b : Bool) → last_key (last_successful_key before) (cond b (successful_key_in setup.suite setup.decisions setup.config (session_known setup.suite setup.role setup.config version before) (count_kept setup.role setup.config.offer 50 before + 1) payload) [])
            ≡ cond b (last_key (last_successful_key before) (successful_key_in setup.suite setup.decisions setup.config (session_known setup.suite setup.role setup.config version before) (count_kept setup.role setup.config.offer 50 before + 1) payload)) (last_successful_key before)
        by true = refl
        by false = refl
