-- A positive body is the shortest of its value.

use Rattle.std.proofs.Common.{◌≡◌, true, false, ◌==◌, ◌<◌, ◌≤◌, ltb, ℕ, true, false, List, [], ◌∷◌, length, refl, arith, inl, inr, Some}
use Rattle.std.proofs.lemmas.Bool.{cases_Bool, eqb-true, ne_eqb, le-ltb}
use Rattle.std.specs.Prelude.{◌↔◌}
use Rattle.sshwire.specs.declared.share_form.ShareForm.{ShareForm}
use Rattle.sshwire.specs.declared.share_form.ShareForm.TheVariants.{Hybrid, Mpint, OctetString}
use Rattle.sshwire.specs.Types.{IsBytes, IsShortestBody}
use Rattle.sshwire.specs.TypeReadings.{is_canonical}
use Rattle.sshpacket.specs.Suite.{FitsShare, FitsShared, IsLawful, IsNumberBody, IsPositiveBody, ResponseData, SuiteData, has_number_shares, shares_number}
use Rattle.sshpacket.specs.Shares.{IsShare}
use Rattle.sshpacket.specs.declared.limits.TheConstants.{SHARE_LIMIT}

canonical : (body : List ℕ) → IsPositiveBody body → is_canonical body ≡ true
canonical [] h = absurd (let x : 0 < 0 = h.some in omega arith)
canonical (a ∷ []) h = elim (cases_Bool (a == 0)) [
  | inl e ↦ absurd (let p = h.shortest (eqb-true a 0 e) in let q : 1 < 1 = p.0 in omega arith)
  | inr e ↦ rw e refl
]
canonical (a ∷ b ∷ more) h =
    let low : a < 128 = h.sign in
    let off : (a == 255) ≡ false = ne_eqb a 255 (λ e. omega arith) in
    elim (cases_Bool (a == 0)) [
      | inl e ↦ (let p = h.shortest (eqb-true a 0 e) in let high : 128 ≤ b = p.1 in let big : ltb b 128 ≡ false = le-ltb b 128 high in rw (e, big, off) refl)
      | inr e ↦ rw (e, off) refl
    ]

number_canonical : (body : List ℕ) → IsNumberBody body → is_canonical body ≡ true
number_canonical body (inl none) = rw none refl
number_canonical body (inr h) = canonical body h

number_short : (body : List ℕ) → IsNumberBody body → length body ≤ SHARE_LIMIT
number_short body (inl none) = rw none (omega arith)
number_short body (inr h) = h.short

module _ (law : (body : List ℕ) → IsBytes body → (is_canonical body ≡ true) ↔ IsShortestBody body) where
  share_of : (form : ShareForm) (body : List ℕ) → IsBytes body → FitsShare form body → IsShare (has_number_shares form) body
  share_of Mpint body each h = record { bytes = each; short = h.short; shortest = λ e. (law body each).0 (canonical body h) }
  share_of OctetString body each h = record { bytes = each; short = h; shortest = λ e. cc }
  share_of Hybrid body each h = record { bytes = each; short = h; shortest = λ e. cc }

  shared_of : (form : ShareForm) (body : List ℕ) → IsBytes body → FitsShared form body → IsShare (shares_number form) body
  shared_of Mpint body each h = record { bytes = each; short = h.short; shortest = λ e. (law body each).0 (canonical body h) }
  shared_of OctetString body each h = record { bytes = each; short = number_short body h; shortest = λ e. (law body each).0 (number_canonical body h) }
  shared_of Hybrid body each h = record { bytes = each; short = h; shortest = λ e. cc }

  pub share : (m : SuiteData) → IsLawful m → (kex a : List ℕ) → length a ≡ 32 → IsBytes a → IsShare (has_number_shares (m.share_form kex)) (m.share kex a)
  share m lawful kex a long each = share_of (m.share_form kex) (m.share kex a) (lawful.share_bytes kex a each) (lawful.share_fits kex a long)

  pub shared : (m : SuiteData) → IsLawful m → (kex a peer body : List ℕ) → length a ≡ 32 → IsBytes a → IsBytes peer → m.shared kex a peer ≡ Some body
      → IsShare (shares_number (m.share_form kex)) body
  shared m lawful kex a peer body long each more e =
      shared_of (m.share_form kex) body (lawful.shared_bytes kex a peer body each more e) (lawful.shared_fits kex a peer body long e)

  pub response : (m : SuiteData) → IsLawful m → (kex a peer : List ℕ) (r : ResponseData) → length a ≡ 32 → IsBytes a → IsBytes peer → m.respond kex a peer ≡ Some r
      → IsShare (has_number_shares (m.share_form kex)) r.share × IsShare (shares_number (m.share_form kex)) r.shared
  response m lawful kex a peer r long each more e =
      let bytes = lawful.response_bytes kex a peer r each more e in
      let fits = lawful.response_fits kex a peer r long e in
      (share_of (m.share_form kex) r.share bytes.0 fits.0, shared_of (m.share_form kex) r.shared bytes.1 fits.1)
