-- The payloads that are made fit packets.

use Rattle.std.proofs.Common.{◌≡◌, ℕ, ◌+◌, ◌<◌, ◌≤◌, ◌==◌, ltb, true, false, List, [], ◌∷◌, length, refl, arith, inl, inr, Result, Ok, Err}
use Rattle.std.specs.Prelude.{◌↔◌, IfErr, IfOk, IsOk}
use Rattle.std.proofs.lemmas.Bool.{cases_Bool, eqb-true, ne_eqb, le-ltb}
use Rattle.sshwire.specs.declared.fault.WireFault.{WireFault}
use Rattle.sshwire.specs.declared.fault.WireFault.TheVariants.{NotCanonical}
use Rattle.sshwire.specs.declared.share_form.ShareForm.{ShareForm}
use Rattle.sshwire.specs.declared.share_form.ShareForm.TheVariants.{Hybrid, Mpint, OctetString}
use Rattle.sshwire.specs.Types.{IsBytes, IsShortestBody}
use Rattle.sshwire.specs.TypeReadings.{is_canonical}
use Rattle.sshmsg.specs.MessageData.{MessageData}
use Rattle.sshmsg.specs.MessageData as content
use Rattle.sshmsg.specs.Written.{written_message}
use Rattle.sshpacket.specs.Suite.{FitsShare, IsPositiveBody}
use Rattle.sshcore.specs.MadePayloads.{IsMade}
use Rattle.sshcore.proofs.ConfigOffers.{LengthLaw}

-- a message's number stands first
some_written : (m : MessageData) → 0 < length (written_message m)
unfolding written_message
some_written m = omega arith

-- what was written for a message that fits is made
pub made : (m : MessageData) (items : List ℕ) → items ≡ written_message m → length (written_message m) ≤ 32768 → IsBytes items → IsMade (written_message m) items
made m items same short bytes = record {
  same = same;
  fits = record { some = rw same (some_written m); short = rw same short; bytes = bytes };
}

-- a positive body is the shortest of its number
canonical : (body : List ℕ) → IsPositiveBody body → is_canonical body ≡ true
canonical [] h = absurd (let x : 0 < 0 = h.some in omega arith)
canonical (a ∷ []) h = elim (cases_Bool (a == 0)) [
  | inl e ↦ absurd (let p = h.shortest (eqb-true a 0 e) in let q : 1 < 1 = p.0 in omega arith)
  | inr e ↦ rw e refl
]
canonical (a ∷ b ∷ more) h =
    let low : a < 128 = h.sign in
    let off : (a == 255) ≡ false = ne_eqb a 255 (λ e. omega arith) in
    elim (cases_Bool (a == 0)) [
      | inl e ↦ (let p = h.shortest (eqb-true a 0 e) in let high : 128 ≤ b = p.1 in let big : ltb b 128 ≡ false = le-ltb b 128 high in rw (e, big, off) refl)
      | inr e ↦ rw (e, off) refl
    ]

abbrev pub CanonicalLaw : Type 0
CanonicalLaw = (body : List ℕ) → IsBytes body → (is_canonical body ≡ true) ↔ IsShortestBody body

-- so a number that is a share is taken
pub taken : CanonicalLaw → (form : ShareForm) (body : List ℕ) (r : Result (List ℕ) WireFault) → form ≡ Mpint → IsBytes body → FitsShare form body
    → IfErr r (λ e. (e ≡ NotCanonical) × (IsShortestBody body → ⊥)) → IsOk r
taken law form body (Ok m) is bytes fits refused = refl
taken law form body (Err e) is bytes fits refused =
    absurd (refused.1 ((law body bytes).0 (canonical body (rw is at fits))))

-- and it is the share
pub number_is : (body number : List ℕ) (r : Result (List ℕ) WireFault) → IfOk r (λ m. (m ≡ body) × IsShortestBody body) → r ≡ Ok number → number ≡ body
number_is body number r ok is = (rw is at ok).0

-- the lengths of the messages of an exchange
share_short : (form : ShareForm) (share : List ℕ) → FitsShare form share → length share ≤ 4096
share_short Mpint share fits = fits.short
share_short OctetString share fits = fits
share_short Hybrid share fits = fits

pub init_number : LengthLaw → (form : ShareForm) (share : List ℕ) → FitsShare form share → length (written_message (content.KexdhInit share)) ≤ 32768
init_number law form share fits =
    let long : length (written_message (content.KexdhInit share)) ≡ length share + 5 = law (content.KexdhInit share) in
    let short : length share ≤ 4096 = share_short form share fits in
    omega arith

pub init_octets : LengthLaw → (form : ShareForm) (share : List ℕ) → FitsShare form share → length (written_message (content.KexEcdhInit share)) ≤ 32768
init_octets law form share fits =
    let long : length (written_message (content.KexEcdhInit share)) ≡ length share + 5 = law (content.KexEcdhInit share) in
    let short : length share ≤ 4096 = share_short form share fits in
    omega arith

module _ (law : LengthLaw) (form : ShareForm) (host_key share signature : List ℕ) (fits : FitsShare form share)
    (key : length host_key ≤ 8192) (signed : length signature ≤ 8192) where
  pub reply_number : length (written_message (content.KexdhReply host_key share signature)) ≤ 32768
  reply_number =
      let long : length (written_message (content.KexdhReply host_key share signature)) ≡ length host_key + length share + length signature + 13
      = law (content.KexdhReply host_key share signature) in
      let short : length share ≤ 4096 = share_short form share fits in
      omega arith

  pub reply_octets : length (written_message (content.KexEcdhReply host_key share signature)) ≤ 32768
  reply_octets =
      let long : length (written_message (content.KexEcdhReply host_key share signature)) ≡ length host_key + length share + length signature + 13
      = law (content.KexEcdhReply host_key share signature) in
      let short : length share ≤ 4096 = share_short form share fits in
      omega arith
