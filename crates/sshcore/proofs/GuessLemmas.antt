-- Guesses, markers and first KEXINITs, with one payload more.

use Rattle.std.proofs.Common.{◌≡◌, inl, inr, ℕ, ◌+◌, ◌<◌, ◌==◌, Bool, true, false, not, List, [], ◌∷◌, ◌++◌, length, length-append, Option, None, Some, Result, Ok, Err, refl, sym, ap, ◌∙◌, arith}
use Rattle.std.proofs.lemmas.Bool.{and_cases, and_left, and_parts, and_right, cases_Bool, eq-eqb, ne_eqb, true≢false}
use Rattle.sshwire.specs.declared.share_form.ShareForm.TheVariants.{Mpint}
use Rattle.sshmsg.specs.declared.fault.MsgFault.{MsgFault}
use Rattle.sshmsg.specs.MessageData.{KexInit, KexInitData, MessageData}
use Rattle.sshmsg.specs.Messages.{message_in}
use Rattle.sshmsg.specs.Numbers.{message_number}
use Rattle.sshneg.specs.declared.side.Side.{Side}
use Rattle.sshneg.specs.ExchangeEnd.{offer_by, offer_in}
use Rattle.sshpacket.specs.Places.{after_first, first_where, stands}
use Rattle.sshpacket.specs.Stream.{Units}
use Rattle.sshpacket.specs.Suite.{SuiteData}
use Rattle.sshpacket.proofs.Places.{after-push}
use Rattle.sshcore.specs.Before.{expects_guess, is_kexinit, kexinit, offered, peer_offer, since_offer, strict_at, strict_towards, wrong_guess}
use Rattle.sshcore.specs.Exchange.{choice_with, shares_at, shares_by}
use Rattle.sshcore.specs.EndpointParts.{ConfigData}
use Rattle.sshcore.specs.StrictSequence.{HasNumber, IsWrongGuess}
use Rattle.sshcore.proofs.LawsBelow.{Below}
use Rattle.sshcore.proofs.PhaseLemmas.{kexinit_push, offered_push}

not_true : (b : Bool) → not b ≡ true → b ≡ false
not_true true e = sym e
not_true false e = refl

not_false : (b : Bool) → not b ≡ false → b ≡ true
not_false true e = refl
not_false false e = sym e

pub wrong_sound : Below → (role : Side) (own peer : KexInitData) → wrong_guess role own (Some peer) ≡ true → IsWrongGuess role own peer
wrong_sound below role own peer e =
    let p = and_parts _ _ e in
    record { announced = p.0; not_right = λ r. true≢false (sym ((below.right _ _).1 r) ∙ not_true _ p.1) }

pub wrong_complete : Below → (role : Side) (own peer : KexInitData) → wrong_guess role own (Some peer) ≡ false → IsWrongGuess role own peer → ⊥
wrong_complete below role own peer e w = elim (and_cases _ _ e) [
  | inl a ↦ true≢false (sym w.announced ∙ a)
  | inr a ↦ w.not_right ((below.right _ _).0 (not_false _ a))
]

since_push : (before : Units) (payload : List ℕ) → offered before ≡ true → (since_offer (before ++ payload ∷ []) == 0) ≡ false
unfolding offered since_offer
since_push before payload is =
    let xs = after_first is_kexinit [] before in
    ap (λ (l : Units). length l == 0) (after-push is_kexinit [] before payload ∙ rw is refl)
    ∙ ne_eqb (length (xs ++ payload ∷ [])) 0 (λ e. let more : length (xs ++ payload ∷ []) ≡ length xs + 1 = length-append xs (payload ∷ []) in omega arith)

-- a guess is due right after the KEXINIT alone
pub no_guess : (role : Side) (own : KexInitData) (before : Units) (payload : List ℕ) → offered before ≡ true → expects_guess role own (before ++ payload ∷ []) ≡ false
unfolding expects_guess
no_guess role own before payload is = and_right _ _ (and_left _ _ (since_push before payload is))

-- no KEXINIT stood, so there is nothing of the peer's
pub none_stood : (before : Units) → offered before ≡ false → kexinit before ≡ []
unfolding offered kexinit
none_stood before none = by [] before none
  where
    by : (b us : Units) → stands is_kexinit b us ≡ false → first_where [] is_kexinit b us ≡ []
    by b [] e = refl
    by b (u ∷ us) e = elim (cases_Bool (is_kexinit b u)) [
      | inl h ↦ absurd (true≢false (sym (rw h refl) ∙ e))
      | inr h ↦ rw h (by (b ++ u ∷ []) us (sym (rw h refl) ∙ e))
    ]

pub none_offered : (before : Units) → offered before ≡ false → peer_offer before ≡ None
unfolding message_in
none_offered before none = ap offer_in (none_stood before none)

pub none_due : (role : Side) (own : KexInitData) (before : Units) → offered before ≡ false → expects_guess role own before ≡ false
unfolding expects_guess
none_due role own before none = rw none refl

pub none_chosen : (m : SuiteData) (role : Side) (config : ConfigData) (before : Units) → offered before ≡ false → shares_at m role config before ≡ Mpint
none_chosen m role config before none = ap (λ (peer : Option KexInitData). shares_by m (choice_with m role config.offer peer)) (none_offered before none)

-- the first KEXINIT
pub first_kexinit : (before : Units) (payload : List ℕ) → offered before ≡ false → message_number payload ≡ 20 → kexinit (before ++ payload ∷ []) ≡ payload
first_kexinit before payload none is =
    let e : (message_number payload == 20) ≡ true = eq-eqb (message_number payload) 20 is in
    kexinit_push before payload ∙ rw (none, e) refl

none_since : (before : Units) (payload : List ℕ) → offered before ≡ false → since_offer (before ++ payload ∷ []) ≡ 0
unfolding offered since_offer
none_since before payload none =
    let same : after_first is_kexinit [] (before ++ payload ∷ []) ≡ [] = after-push is_kexinit [] before payload ∙ rw none refl in
    ap (λ (l : Units). length l) same

pub first_guess : (role : Side) (own : KexInitData) (before : Units) (payload : List ℕ) → offered before ≡ false → message_number payload ≡ 20
    → expects_guess role own (before ++ payload ∷ []) ≡ wrong_guess role own (offer_in payload)
unfolding expects_guess
first_guess role own before payload none is =
    let e : (message_number payload == 20) ≡ true = eq-eqb (message_number payload) 20 is in
    let on : offered (before ++ payload ∷ []) ≡ true = offered_push before payload ∙ rw (none, e) refl in
    rw (on, none_since before payload none) (ap (λ (k : List ℕ). wrong_guess role own (offer_in k)) (first_kexinit before payload none is))

-- strictness once the KEXINIT has stood, and with it
pub strict_push : (role : Side) (config : ConfigData) (before : Units) (payload : List ℕ) → offered before ≡ true → strict_at role config (before ++ payload ∷ []) ≡ strict_at role config before
strict_push role config before payload is = ap (λ (k : List ℕ). strict_towards role config.strict (offer_in k)) (kexinit_push before payload ∙ rw is refl)

pub strict_none : (role : Side) (config : ConfigData) (before : Units) (payload : List ℕ) → offered before ≡ false → (message_number payload == 20) ≡ false → strict_at role config (before ++ payload ∷ []) ≡ false
unfolding message_in
strict_none role config before payload none other_kind =
    let e : kexinit (before ++ payload ∷ []) ≡ [] = kexinit_push before payload ∙ rw (none, other_kind) refl in
    ap (λ (k : List ℕ). strict_towards role config.strict (offer_in k)) e

pub strict_first : (role : Side) (config : ConfigData) (before : Units) (payload : List ℕ) → offered before ≡ false → message_number payload ≡ 20
    → strict_at role config (before ++ payload ∷ []) ≡ strict_towards role config.strict (offer_in payload)
strict_first role config before payload none is = ap (λ (k : List ℕ). strict_towards role config.strict (offer_in k)) (first_kexinit before payload none is)

-- a payload with a marker is a KEXINIT
shown_by : (role : Side) (flag : Bool) (r : Option KexInitData) → strict_towards role flag r ≡ true → (peer : KexInitData) × (r ≡ Some peer)
shown_by role flag (Some peer) e = (peer, refl)
shown_by role flag None e = absurd (true≢false (sym e))

pub shown : (role : Side) (flag : Bool) (payload : List ℕ) → strict_towards role flag (offer_in payload) ≡ true → (peer : KexInitData) × (offer_in payload ≡ Some peer)
shown role flag payload e = shown_by role flag (offer_in payload) e

read_by : (r : Result MessageData MsgFault) (peer : KexInitData) → offer_by r ≡ Some peer → r ≡ Ok (KexInit peer)
read_by (Ok (KexInit offer)) peer e = let same : offer ≡ peer = cc in ap (λ (x : KexInitData). Ok (KexInit x)) same
read_by (Ok _) peer e = absurd cc
read_by (Err f) peer e = absurd cc

-- and reads as it
pub read_offer : (payload : List ℕ) (peer : KexInitData) → offer_in payload ≡ Some peer → message_in Mpint payload ≡ Ok (KexInit peer)
read_offer payload peer e = read_by (message_in Mpint payload) peer e

pub offer_is : (payload : List ℕ) (peer : KexInitData) → message_in Mpint payload ≡ Ok (KexInit peer) → offer_in payload ≡ Some peer
offer_is payload peer e = ap offer_by e

pub has_number : (payload : List ℕ) (n : ℕ) → message_number payload ≡ n → 0 < n → HasNumber n payload
has_number [] n e some = absurd (omega arith)
has_number (b ∷ fields) n e some = record { fields = fields; payload_is = ap (λ (k : ℕ). k ∷ fields) e }
