-- The attempts of a client's plan: which is made next, and that those that are left are accepted ones.

use Rattle.std.proofs.Common.{◌≡◌, Bor, ℕ, zero, suc, subst, ◌+◌, ◌≤◌, Bool, true, false, cond, ltb, ◌-◌, ◌==◌, List, [], ◌∷◌, drop, take, length, map, Option, None, Some, inl, inr, refl, sym, ap, ◌∙◌, arith}
use Rattle.std.specs.Prelude.{◌&&◌, ◌||◌}
use Rattle.std.specs.List.{AllByRecursion, position_or_len, slice_get}
use Rattle.std.specs.Option.{option_copied}
use Rattle.std.proofs.lemmas.Bool.{cases_Bool, ltb-false, ne_eqb}
use Rattle.std.proofs.lemmas.List.{take_rest}
use Rattle.sshmsg.specs.MessageData.{MethodData, UserauthRequest}
use Rattle.sshmsg.specs.Numbers.{message_number}
use Rattle.sshmsg.specs.Written.{written_message}
use Rattle.sshneg.specs.ChoiceReadings.{is_in}
use Rattle.sshpacket.specs.Suite.{SuiteData}
use Rattle.sshcore.specs.declared.config_parts.Attempt as attempt_parts
use Rattle.sshcore.specs.Attempts.{answers_query, is_asked, own_request, success_by}
use Rattle.sshcore.specs.ConfigParts.{AttemptData, ByKey, ByNothing, ByPassword, CredentialData}
use Rattle.sshcore.specs.ConfigRules.{IsAttempt}
use Rattle.sshcore.specs.ConfigView.{attempt_data, credential_data}
use Rattle.sshcore.specs.MadePayloads.{IsMade}
use Rattle.sshcore.specs.StateData.{left_of}
use Rattle.sshcore.specs.KnownBefore.{Known}
use Rattle.sshcore.specs.Plan.{after_query, confirmed, first_made, next_after, next_listed, proving_name, unasked}

-- whether the method of an attempt is listed
abbrev pub is_listed : List (List ℕ) → attempt_parts.Attempt → Bool
is_listed listed a = is_in listed (proving_name (credential_data a.credential))

-- a number more, as the next one
one_more : (n : ℕ) → 1 + n ≡ suc n
one_more n = omega arith

-- the attempts from the first one on whose method is listed
listed_from : (listed : List (List ℕ)) (attempts : List attempt_parts.Attempt)
    → map attempt_data (drop (position_or_len (is_listed listed) attempts) attempts) ≡ next_listed listed (map attempt_data attempts)
unfolding next_listed
listed_from listed [] = refl
listed_from listed (a ∷ later) = elim (cases_Bool (is_listed listed a)) [
  | inl here ↦ rw here refl
  | inr off ↦ rw (off, one_more (position_or_len (is_listed listed) later)) (listed_from listed later)
]

-- none is listed
listed_none : (listed : List (List ℕ)) (attempts : List attempt_parts.Attempt) → length attempts ≤ position_or_len (is_listed listed) attempts
    → ◌≡◌ {A = List AttemptData} [] (next_listed listed (map attempt_data attempts))
unfolding next_listed
listed_none listed [] far = refl
listed_none listed (a ∷ later) far = elim (cases_Bool (is_listed listed a)) [
  | inl here ↦ let none : suc (length later) ≤ 0 = rw here at far in absurd (omega arith)
  | inr off ↦
      let more : suc (length later) ≤ 1 + position_or_len (is_listed listed) later = rw off at far in
      rw off (listed_none listed later (omega (arith, more)))
]

-- what an answer tells of the place that it was made of
some_place : (b : Bool) (p place : ℕ) → cond b (Some p) None ≡ Some place → p ≡ place
some_place true p place e = cc
some_place false p place e = absurd cc

no_place : (b : Bool) (p : ℕ) → cond b (Some p) None ≡ None → b ≡ false
no_place true p e = absurd cc
no_place false p e = refl

module _ (listed : List (List ℕ)) (attempts : List attempt_parts.Attempt) (found : Option ℕ)
    (finds : found ≡ cond (ltb (position_or_len (is_listed listed) attempts) (length attempts)) (Some (position_or_len (is_listed listed) attempts)) None) where
  -- the attempts from the first one on whose method is listed
  pub listed_at : (place : ℕ) → found ≡ Some place → map attempt_data (take (length attempts - place) (drop place attempts)) ≡ next_listed listed (map attempt_data attempts)
  listed_at place is =
      let at : position_or_len (is_listed listed) attempts ≡ place = some_place _ _ place (sym finds ∙ is) in
      ap (map attempt_data) (take_rest attempts place) ∙ ap (λ (k : ℕ). map attempt_data (drop k attempts)) (sym at) ∙ listed_from listed attempts

  -- none is
  pub listed_nowhere : found ≡ None → ◌≡◌ {A = List AttemptData} [] (next_listed listed (map attempt_data attempts))
  listed_nowhere is = listed_none listed attempts (ltb-false _ _ (no_place _ (position_or_len (is_listed listed) attempts) (sym finds ∙ is)))

-- nothing stands after no attempts
pub none_after : (listed : List (List ℕ)) (attempts : List attempt_parts.Attempt) → length attempts ≡ 0
    → map attempt_data attempts ≡ next_listed listed (drop 1 (map attempt_data attempts))
unfolding next_listed
none_after listed [] e = refl
none_after listed (a ∷ later) e = absurd cc

-- the attempts that are left are accepted ones
left_accepted : (listed : List (List ℕ)) (attempts : List AttemptData) → AllByRecursion IsAttempt attempts → AllByRecursion IsAttempt (next_listed listed attempts)
unfolding next_listed
left_accepted listed [] all = tt
left_accepted listed (a ∷ later) (is, all) = elim (cases_Bool (is_in listed (proving_name a.proving))) [
  | inl here ↦ rw here (is, all)
  | inr off ↦ rw off (left_accepted listed later all)
]

after_accepted : (attempts : List AttemptData) → AllByRecursion IsAttempt attempts → AllByRecursion IsAttempt (drop 1 attempts)
after_accepted [] all = tt
after_accepted (a ∷ later) (is, all) = all

pub next_accepted : (listed : List (List ℕ)) (attempts left : List AttemptData) → AllByRecursion IsAttempt attempts → left ≡ next_listed listed (drop 1 attempts)
    → AllByRecursion IsAttempt left
next_accepted listed attempts left all is = rw is (left_accepted listed (drop 1 attempts) (after_accepted attempts all))

-- none is left, and one is
pub first_none : (attempts : List attempt_parts.Attempt) (first : Option (Bor attempt_parts.Attempt)) → option_copied first ≡ slice_get attempts 0 → first ≡ None
    → map attempt_data attempts ≡ []
first_none [] first at is = refl
first_none (a ∷ later) first at is = let bad : None ≡ Some a = ap option_copied (sym is) ∙ at in absurd cc

pub first_some : (attempts : List attempt_parts.Attempt) (first : Option (Bor attempt_parts.Attempt)) (a : Bor attempt_parts.Attempt)
    → option_copied first ≡ slice_get attempts 0 → first ≡ Some a → map attempt_data attempts ≡ attempt_data a.now ∷ map attempt_data (drop 1 attempts)
first_some [] first a at is = let bad : Some a.now ≡ None = ap option_copied (sym is) ∙ at in absurd cc
first_some (x ∷ later) first a at is =
    let same : Some a.now ≡ Some x = ap option_copied (sym is) ∙ at in
    let here : a.now ≡ x = cc in
    ap (λ (y : attempt_parts.Attempt). attempt_data y ∷ map attempt_data later) (sym here)

-- the same where they are split
pub split_none : (attempts : List attempt_parts.Attempt) → length attempts ≡ 0 → map attempt_data attempts ≡ []
split_none [] e = refl
split_none (a ∷ later) e = absurd cc

pub split_some : (attempts : List attempt_parts.Attempt) (a : attempt_parts.Attempt) (later : List attempt_parts.Attempt) → attempts ≡ a ∷ later
    → map attempt_data attempts ≡ attempt_data a ∷ map attempt_data later
split_some attempts a later e = ap (map attempt_data) e

-- a request is no NEWKEYS
pub quiet_request : (m : SuiteData) (session : List ℕ) (a : AttemptData) → (message_number (own_request m session a) == 21) ≡ false
unfolding written_message
quiet_request m session a = refl

pub quiet_user_request : (user service : List ℕ) (method : MethodData) → (message_number (written_message (UserauthRequest user service method)) == 21) ≡ false
unfolding written_message
quiet_user_request user service method = refl

-- the first of two lists of attempts that are one
pub same_first : (x a : AttemptData) (xs later : List AttemptData) → x ∷ xs ≡ a ∷ later → x ≡ a
same_first x a xs later e = cc

-- what is left, of which the first attempt may be confirmed
pub left_none : (b : Bool) (attempts : List AttemptData) → attempts ≡ [] → left_of b attempts ≡ []
left_none true attempts e = rw e refl
left_none false attempts e = e

pub left_some : (b : Bool) (attempts : List AttemptData) (a : AttemptData) (later : List AttemptData) → attempts ≡ a ∷ later → left_of b attempts ≡ first_made b a ∷ later
left_some true attempts a later e = rw e refl
left_some false attempts a later e = e

-- after a FAILURE it is the same
pub left_next : (b : Bool) (listed : List (List ℕ)) (attempts : List AttemptData) → next_after listed attempts ≡ next_after listed (left_of b attempts)
left_next true listed [] = refl
left_next true listed (a ∷ later) = refl
left_next false listed attempts = refl

-- and at SUCCESS
pub left_success : (b : Bool) (known : Known) (attempts : List AttemptData) (a : AttemptData) (later : List AttemptData) → attempts ≡ a ∷ later
    → success_by known (a ∷ later) ≡ success_by known (left_of b attempts)
left_success true known attempts a later e = rw e refl
left_success false known attempts a later e = rw e refl

-- what is left once the query is confirmed, if it wasn't before
pub left_confirmed : (b : Bool) (attempts : List AttemptData) → left_of true attempts ≡ confirmed (left_of b attempts)
left_confirmed b [] = elim (cases_Bool b) [
  | inl is ↦ rw is refl
  | inr not ↦ rw not refl
]
left_confirmed false (a ∷ later) = refl
left_confirmed true (a ∷ later) = ap (λ (p : CredentialData). record a { proving = p } ∷ later) (twice a.proving) where
  twice : (p : CredentialData) → unasked p ≡ unasked (unasked p)
  twice ByNothing = refl
  twice (ByPassword password) = refl
  twice (ByKey name secret ask) = refl

-- so it is after some are skipped
pub moved_on : (c confirms : Bool) (skipped : ℕ) (attempts : List AttemptData)
    → left_of (confirms || (c && (skipped == 0))) (drop skipped attempts) ≡ left_of confirms (drop skipped (left_of c attempts))
moved_on false true skipped attempts = refl
moved_on false false skipped attempts = refl
moved_on true true zero attempts = left_confirmed true attempts
moved_on true false zero attempts = refl
moved_on true confirms (suc n) attempts = rw (ne_eqb (suc n) 0 (λ e. absurd cc)) (later confirms attempts)
  where
    later : (b : Bool) (l : List AttemptData) → left_of (b || false) (drop (suc n) l) ≡ left_of b (drop (suc n) (confirmed l))
    later true [] = refl
    later false [] = refl
    later true (a ∷ rest) = refl
    later false (a ∷ rest) = refl

-- attempts after so many
pub mapped_after : (attempts : List attempt_parts.Attempt) (n : ℕ) → map attempt_data (drop n attempts) ≡ drop n (map attempt_data attempts)
mapped_after [] zero = refl
mapped_after [] (suc n) = refl
mapped_after (a ∷ later) zero = refl
mapped_after (a ∷ later) (suc n) = mapped_after later n

pub mapped_past : (attempts : List attempt_parts.Attempt) (n : ℕ) → length attempts ≤ n → ◌≡◌ {A = List AttemptData} [] (drop n (map attempt_data attempts))
mapped_past [] zero far = refl
mapped_past [] (suc n) far = refl
mapped_past (a ∷ later) zero far = absurd (omega (arith, far))
mapped_past (a ∷ later) (suc n) far = mapped_past later n (omega (arith, far))

pub rest_accepted : (n : ℕ) (attempts left : List AttemptData) → AllByRecursion IsAttempt attempts → left ≡ drop n attempts → AllByRecursion IsAttempt left
rest_accepted zero attempts left all is = subst (AllByRecursion IsAttempt) (sym is) all
rest_accepted (suc n) [] left all is = rw is tt
rest_accepted (suc n) (a ∷ later) left all is = rest_accepted n later left all.1 is

-- whom an attempt is for doesn't depend on its query
pub made_as : (b : Bool) (a : AttemptData) (method : MethodData) (made : List ℕ) → IsMade (written_message (UserauthRequest a.user a.service method)) made
    → IsMade (written_message (UserauthRequest (first_made b a).user (first_made b a).service method)) made
made_as true a method made is = is
made_as false a method made is = is

-- the attempt itself asks nothing
pub unasked_off : (m : SuiteData) (a : AttemptData) (algorithm key : List ℕ) → is_asked m (after_query a).proving algorithm key ≡ false
unasked_off m a algorithm key = off a.proving where
  off : (p : CredentialData) → is_asked m (unasked p) algorithm key ≡ false
  off ByNothing = refl
  off (ByPassword password) = refl
  off (ByKey name secret ask) = refl

pub asked_off : (m : SuiteData) (b : Bool) (a : AttemptData) (algorithm key : List ℕ) → b ≡ true → is_asked m (first_made b a).proving algorithm key ≡ false
asked_off m b a algorithm key e = rw e (unasked_off m a algorithm key)

pub asked_other : (m : SuiteData) (b : Bool) (a : AttemptData) (algorithm key : List ℕ) → b ≡ false → is_asked m a.proving algorithm key ≡ false
    → is_asked m (first_made b a).proving algorithm key ≡ false
asked_other m b a algorithm key e off = rw e off

-- whether a PK_OK is about the key that was asked about: where none is left, where the query was confirmed, and where it is asked
module _ (m : SuiteData) (algorithm key : List ℕ) (b : Bool) (attempts : List AttemptData) where
  pub none_asked : attempts ≡ [] → false ≡ answers_query m algorithm key (left_of b attempts)
  none_asked e = ap (answers_query m algorithm key) (sym (left_none b attempts e))

  module _ (a : AttemptData) (later : List AttemptData) (e : attempts ≡ a ∷ later) where
    pub other_asked : b ≡ true → false ≡ answers_query m algorithm key (left_of b attempts)
    other_asked on = sym (asked_off m b a algorithm key on) ∙ ap (answers_query m algorithm key) (sym (left_some b attempts a later e))

    pub asked_so : b ≡ false → (asked : Bool) → asked ≡ is_asked m a.proving algorithm key → asked ≡ answers_query m algorithm key (left_of b attempts)
    asked_so none asked is = is ∙ ap (answers_query m algorithm key) (sym e ∙ ap (λ (c : Bool). left_of c attempts) (sym none))
