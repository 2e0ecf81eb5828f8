-- What the phase table reads, by the number.

use Rattle.std.proofs.Common.{◌≡◌, ◌≢◌, inl, inr, ℕ, ◌<◌, ◌≤◌, ◌==◌, Bool, true, false, refl, sym, ap, ◌∙◌, arith}
use Rattle.std.specs.Prelude.{◌&&◌, ◌||◌}
use Rattle.std.proofs.lemmas.Bool.{and_parts, cases_Bool, eqb-true, ne_eqb, or_cases}
use Rattle.sshneg.specs.declared.side.Side.{Side}
use Rattle.sshneg.specs.declared.side.Side.TheVariants.{Client, Server}
use Rattle.sshcore.specs.declared.phase_table.Disposition.TheVariants as disposition
use Rattle.sshcore.specs.declared.phase_table.Phase.{Phase}
use Rattle.sshcore.specs.declared.phase_table.Phase.TheVariants as phase
use Rattle.sshcore.specs.Phases.{leaving}
use Rattle.sshcore.specs.Standing.{LeavesNone}
use Rattle.sshcore.specs.Table.{disposition_by, is_ignored, is_of_auth, is_of_method, is_ruled, is_unknown, takes_extensions}
use Rattle.sshcore.proofs.TableLemmas.{in_range}

-- the numbers that may come without leaving a phase: 2, 3, 4 and 7
pub record IsCalm (n : ℕ) : Type 0 where
  pub least : 2 ≤ n
  pub most : n ≤ 7
  pub request : n ≢ 5
  pub accept : n ≢ 6

-- the messages of authentication: a request at a server; a FAILURE, a BANNER or a PK_OK at a client
pub data IsOfAuth (role : Side) (p : Phase) (n : ℕ) : Type 0 where
  Request : role ≡ Server → p ≡ phase.Auth → n ≡ 50 → IsOfAuth role p n
  Failure : role ≡ Client → p ≡ phase.Auth → n ≡ 51 → IsOfAuth role p n
  Banner : role ≡ Client → p ≡ phase.Auth → n ≡ 53 → IsOfAuth role p n
  Confirmation : role ≡ Client → p ≡ phase.Auth → n ≡ 60 → IsOfAuth role p n

pub of_auth : (role : Side) (p : Phase) (waits : Bool) (n : ℕ) → is_of_auth role p waits n ≡ true → IsOfAuth role p n
of_auth Server phase.Auth waits n h = Request refl refl (eqb-true n 50 h)
of_auth Client phase.Auth waits n h = elim (or_cases _ _ h) [
  | inl a ↦ Failure refl refl (eqb-true n 51 a)
  | inr b ↦ elim (or_cases _ _ b) [
    | inl c ↦ Banner refl refl (eqb-true n 53 c)
    | inr c ↦ Confirmation refl refl (eqb-true n 60 (and_parts _ _ c).1)
  ]
]
of_auth Client phase.KexInit waits n h = absurd cc
of_auth Server phase.KexInit waits n h = absurd cc
of_auth Client phase.Exchange waits n h = absurd cc
of_auth Server phase.Exchange waits n h = absurd cc
of_auth Client phase.NewKeys waits n h = absurd cc
of_auth Server phase.NewKeys waits n h = absurd cc
of_auth Client phase.Service waits n h = absurd cc
of_auth Server phase.Service waits n h = absurd cc

-- What is read: a DISCONNECT; and where no guess is due, what leaves the phase, what is of authentication and what is calm.
pub data Reads (role : Side) (p : Phase) (guess : Bool) (n : ℕ) : Type 0 where
  Closes : n ≡ 1 → Reads role p guess n
  Leaves : guess ≡ false → n ≡ leaving role p → Reads role p guess n
  OfAuth : guess ≡ false → IsOfAuth role p n → Reads role p guess n
  Stays : guess ≡ false → IsCalm n → Reads role p guess n

ignored : (n : ℕ) → is_ignored n ≡ true → IsCalm n
ignored n h =
    let least : 2 ≤ n = (in_range 2 4 n h).0 in
    let most : n ≤ 4 = (in_range 2 4 n h).1 in
    record { least = least; most = omega arith; request = λ q. omega arith; accept = λ q. omega arith }

extension : (n : ℕ) → (n == 7) ≡ true → IsCalm n
extension n h =
    let same : n ≡ 7 = eqb-true n 7 h in
    record { least = omega arith; most = omega arith; request = λ q. omega arith; accept = λ q. omega arith }

module _ (role : Side) (p : Phase) (strict waits : Bool) (n : ℕ) where
  -- no guess is due, and strictness rules nothing
  free : (n == 1) ≡ false → is_ruled p strict ≡ false → disposition_by role p strict false waits n ≡ disposition.Reads → Reads role p false n
  unfolding disposition_by
  free one off = rw (one, off) (elim (cases_Bool (n == leaving role p)) [
    | inl h ↦ λ e. Leaves refl (eqb-true n (leaving role p) h)
    | inr h ↦ rw h (elim (cases_Bool (is_of_auth role p waits n)) [
      | inl a ↦ λ e. OfAuth refl (of_auth role p waits n a)
      | inr a ↦ rw a (elim (cases_Bool (is_ignored n)) [
        | inl b ↦ λ e. Stays refl (ignored n b)
        | inr b ↦ rw b (elim (cases_Bool ((n == 7) && takes_extensions p)) [
          | inl c ↦ λ e. Stays refl (extension n (and_parts _ _ c).0)
          | inr c ↦ rw c (elim (cases_Bool (is_unknown n)) [
            | inl d ↦ rw d (λ e. absurd cc)
            | inr d ↦ rw d (λ e. absurd cc)
          ])
        ])
      ])
    ])
  ])

  ruled : (n == 1) ≡ false → is_ruled p strict ≡ true → disposition_by role p strict false waits n ≡ disposition.Reads → Reads role p false n
  unfolding disposition_by
  ruled one on = rw (one, on) (elim (cases_Bool (n == leaving role p)) [
    | inl h ↦ λ e. Leaves refl (eqb-true n (leaving role p) h)
    | inr h ↦ rw h (λ e. absurd cc)
  ])

  due : (n == 1) ≡ false → disposition_by role p strict true waits n ≡ disposition.Reads → Reads role p true n
  unfolding disposition_by
  due one = rw one (elim (cases_Bool (is_ruled p strict)) [
    | inl on ↦ rw on (elim (cases_Bool (is_of_method n)) [
      | inl h ↦ rw h (λ e. absurd cc)
      | inr h ↦ rw h (λ e. absurd cc)
    ])
    | inr off ↦ rw off (λ e. absurd cc)
  ])

  pub reads : (guess : Bool) → disposition_by role p strict guess waits n ≡ disposition.Reads → Reads role p guess n
  reads guess e = elim (cases_Bool (n == 1)) [
    | inl one ↦ Closes (eqb-true n 1 one)
    | inr one ↦ by_guess guess one e
  ]
    where
      by_guess : (g : Bool) → (n == 1) ≡ false → disposition_by role p strict g waits n ≡ disposition.Reads → Reads role p g n
      by_guess true one is = due one is
      by_guess false one is = elim (cases_Bool (is_ruled p strict)) [
        | inl on ↦ ruled one on is
        | inr off ↦ free one off is
      ]

-- a calm number leaves no phase
calm_leaves : (role : Side) (n : ℕ) → IsCalm n → LeavesNone role n
calm_leaves Client n calm =
    let most : n ≤ 7 = calm.most in
    record {
      kexinit = ne_eqb n 20 (λ q. omega arith);
      exchange = ne_eqb n 31 (λ q. omega arith);
      newkeys = ne_eqb n 21 (λ q. omega arith);
      service = ne_eqb n 6 calm.accept;
    }
calm_leaves Server n calm =
    let most : n ≤ 7 = calm.most in
    record {
      kexinit = ne_eqb n 20 (λ q. omega arith);
      exchange = ne_eqb n 30 (λ q. omega arith);
      newkeys = ne_eqb n 21 (λ q. omega arith);
      service = ne_eqb n 5 calm.request;
    }

-- a number is read at this side alone, in this phase, where no guess is due
pub record IsAt (role side : Side) (p at : Phase) (guess : Bool) : Type 0 where
  pub side_is : role ≡ side
  pub phase_is : p ≡ at
  pub none_due : guess ≡ false

-- which phase a number leaves, and at which side
kexinit_at : (role : Side) (p : Phase) → 20 ≡ leaving role p → p ≡ phase.KexInit
kexinit_at role phase.KexInit e = refl
kexinit_at Client phase.Exchange e = absurd (omega arith)
kexinit_at Server phase.Exchange e = absurd (omega arith)
kexinit_at role phase.NewKeys e = absurd (omega arith)
kexinit_at Client phase.Service e = absurd (omega arith)
kexinit_at Server phase.Service e = absurd (omega arith)
kexinit_at Client phase.Auth e = absurd (omega arith)
kexinit_at Server phase.Auth e = absurd (omega arith)

newkeys_at : (role : Side) (p : Phase) → 21 ≡ leaving role p → p ≡ phase.NewKeys
newkeys_at role phase.KexInit e = absurd (omega arith)
newkeys_at Client phase.Exchange e = absurd (omega arith)
newkeys_at Server phase.Exchange e = absurd (omega arith)
newkeys_at role phase.NewKeys e = refl
newkeys_at Client phase.Service e = absurd (omega arith)
newkeys_at Server phase.Service e = absurd (omega arith)
newkeys_at Client phase.Auth e = absurd (omega arith)
newkeys_at Server phase.Auth e = absurd (omega arith)

init_at : (role : Side) (p : Phase) → 30 ≡ leaving role p → (role ≡ Server) × (p ≡ phase.Exchange)
init_at role phase.KexInit e = absurd (omega arith)
init_at Client phase.Exchange e = absurd (omega arith)
init_at Server phase.Exchange e = (refl, refl)
init_at role phase.NewKeys e = absurd (omega arith)
init_at Client phase.Service e = absurd (omega arith)
init_at Server phase.Service e = absurd (omega arith)
init_at Client phase.Auth e = absurd (omega arith)
init_at Server phase.Auth e = absurd (omega arith)

reply_at : (role : Side) (p : Phase) → 31 ≡ leaving role p → (role ≡ Client) × (p ≡ phase.Exchange)
reply_at role phase.KexInit e = absurd (omega arith)
reply_at Client phase.Exchange e = (refl, refl)
reply_at Server phase.Exchange e = absurd (omega arith)
reply_at role phase.NewKeys e = absurd (omega arith)
reply_at Client phase.Service e = absurd (omega arith)
reply_at Server phase.Service e = absurd (omega arith)
reply_at Client phase.Auth e = absurd (omega arith)
reply_at Server phase.Auth e = absurd (omega arith)

request_at : (role : Side) (p : Phase) → 5 ≡ leaving role p → (role ≡ Server) × (p ≡ phase.Service)
request_at role phase.KexInit e = absurd (omega arith)
request_at Client phase.Exchange e = absurd (omega arith)
request_at Server phase.Exchange e = absurd (omega arith)
request_at role phase.NewKeys e = absurd (omega arith)
request_at Client phase.Service e = absurd (omega arith)
request_at Server phase.Service e = (refl, refl)
request_at Client phase.Auth e = absurd (omega arith)
request_at Server phase.Auth e = absurd (omega arith)

accept_at : (role : Side) (p : Phase) → 6 ≡ leaving role p → (role ≡ Client) × (p ≡ phase.Service)
accept_at role phase.KexInit e = absurd (omega arith)
accept_at Client phase.Exchange e = absurd (omega arith)
accept_at Server phase.Exchange e = absurd (omega arith)
accept_at role phase.NewKeys e = absurd (omega arith)
accept_at Client phase.Service e = (refl, refl)
accept_at Server phase.Service e = absurd (omega arith)
accept_at Client phase.Auth e = absurd (omega arith)
accept_at Server phase.Auth e = absurd (omega arith)

user_request_at : (role : Side) (p : Phase) → 50 ≡ leaving role p → (role ≡ Server) × (p ≡ phase.Auth)
user_request_at role phase.KexInit e = absurd (omega arith)
user_request_at Client phase.Exchange e = absurd (omega arith)
user_request_at Server phase.Exchange e = absurd (omega arith)
user_request_at role phase.NewKeys e = absurd (omega arith)
user_request_at Client phase.Service e = absurd (omega arith)
user_request_at Server phase.Service e = absurd (omega arith)
user_request_at Client phase.Auth e = absurd (omega arith)
user_request_at Server phase.Auth e = (refl, refl)

success_at : (role : Side) (p : Phase) → 52 ≡ leaving role p → (role ≡ Client) × (p ≡ phase.Auth)
success_at role phase.KexInit e = absurd (omega arith)
success_at Client phase.Exchange e = absurd (omega arith)
success_at Server phase.Exchange e = absurd (omega arith)
success_at role phase.NewKeys e = absurd (omega arith)
success_at Client phase.Service e = absurd (omega arith)
success_at Server phase.Service e = absurd (omega arith)
success_at Client phase.Auth e = (refl, refl)
success_at Server phase.Auth e = absurd (omega arith)

failure_at : (role : Side) (p : Phase) → 51 ≡ leaving role p → ⊥
failure_at role phase.KexInit e = omega arith
failure_at Client phase.Exchange e = omega arith
failure_at Server phase.Exchange e = omega arith
failure_at role phase.NewKeys e = omega arith
failure_at Client phase.Service e = omega arith
failure_at Server phase.Service e = omega arith
failure_at Client phase.Auth e = omega arith
failure_at Server phase.Auth e = omega arith

confirmation_at : (role : Side) (p : Phase) → 60 ≡ leaving role p → ⊥
confirmation_at role phase.KexInit e = omega arith
confirmation_at Client phase.Exchange e = omega arith
confirmation_at Server phase.Exchange e = omega arith
confirmation_at role phase.NewKeys e = omega arith
confirmation_at Client phase.Service e = omega arith
confirmation_at Server phase.Service e = omega arith
confirmation_at Client phase.Auth e = omega arith
confirmation_at Server phase.Auth e = omega arith

-- a number that neither closes nor leaves a phase, and is answered nowhere
pub record IsPlain (n : ℕ) : Type 0 where
  pub closing : n ≢ 1
  pub request : n ≢ 5
  pub accept : n ≢ 6
  pub kexinit : n ≢ 20
  pub newkeys : n ≢ 21
  pub init : n ≢ 30
  pub reply : n ≢ 31
  pub user_request : n ≢ 50
  pub failure : n ≢ 51
  pub success : n ≢ 52
  pub confirmation : n ≢ 60

-- the number is one of these
abbrev pub is_answered : ℕ → Bool
is_answered n =
    n == 1 || (n == 5 || (n == 6 || (n == 20 || (n == 21 || (n == 30 || (n == 31 || (n == 50 || (n == 51 || (n == 52 || n == 60)))))))))

not_answered : (n k : ℕ) → is_answered n ≡ false → is_answered k ≡ true → n ≢ k
not_answered n k none one same = let bad : ◌≡◌ {A = Bool} true false = sym one ∙ (ap is_answered (sym same) ∙ none) in cc

pub plain_number : (n : ℕ) → is_answered n ≡ false → IsPlain n
plain_number n none = record {
  closing = not_answered n 1 none refl;
  request = not_answered n 5 none refl;
  accept = not_answered n 6 none refl;
  kexinit = not_answered n 20 none refl;
  newkeys = not_answered n 21 none refl;
  init = not_answered n 30 none refl;
  reply = not_answered n 31 none refl;
  user_request = not_answered n 50 none refl;
  failure = not_answered n 51 none refl;
  success = not_answered n 52 none refl;
  confirmation = not_answered n 60 none refl;
}

none_at : (role : Side) (p : Phase) (n : ℕ) → n ≡ leaving role p → IsPlain n → ⊥
none_at role phase.KexInit n e plain = plain.kexinit e
none_at Client phase.Exchange n e plain = plain.reply e
none_at Server phase.Exchange n e plain = plain.init e
none_at role phase.NewKeys n e plain = plain.newkeys e
none_at Client phase.Service n e plain = plain.accept e
none_at Server phase.Service n e plain = plain.request e
none_at Client phase.Auth n e plain = plain.success e
none_at Server phase.Auth n e plain = plain.user_request e

-- none of the numbers up to 49 is of authentication
early : (role : Side) (p : Phase) (n : ℕ) → n < 50 → IsOfAuth role p n → ⊥
early role p n least (Request side at is) = omega arith
early role p n least (Failure side at is) = omega arith
early role p n least (Banner side at is) = omega arith
early role p n least (Confirmation side at is) = omega arith

-- no number after those of the exchange leaves a phase before authentication
pub late_leaves : (role : Side) (n : ℕ) → 31 < n → LeavesNone role n
late_leaves Client n late = record {
  kexinit = ne_eqb n 20 (λ q. omega arith);
  exchange = ne_eqb n 31 (λ q. omega arith);
  newkeys = ne_eqb n 21 (λ q. omega arith);
  service = ne_eqb n 6 (λ q. omega arith);
}
late_leaves Server n late = record {
  kexinit = ne_eqb n 20 (λ q. omega arith);
  exchange = ne_eqb n 30 (λ q. omega arith);
  newkeys = ne_eqb n 21 (λ q. omega arith);
  service = ne_eqb n 5 (λ q. omega arith);
}

-- where each number that leaves a phase is read
module _ (role : Side) (p : Phase) (guess : Bool) where
  pub kexinit_read : Reads role p guess 20 → IsAt role role p phase.KexInit guess
  kexinit_read (Closes e) = absurd (omega arith)
  kexinit_read (Leaves none e) = record { side_is = refl; phase_is = kexinit_at role p e; none_due = none }
  kexinit_read (OfAuth none a) = absurd (early role p 20 (omega arith) a)
  kexinit_read (Stays none calm) = let most : 20 ≤ 7 = calm.most in absurd (omega arith)

  pub newkeys_read : Reads role p guess 21 → IsAt role role p phase.NewKeys guess
  newkeys_read (Closes e) = absurd (omega arith)
  newkeys_read (Leaves none e) = record { side_is = refl; phase_is = newkeys_at role p e; none_due = none }
  newkeys_read (OfAuth none a) = absurd (early role p 21 (omega arith) a)
  newkeys_read (Stays none calm) = let most : 21 ≤ 7 = calm.most in absurd (omega arith)

  pub init_read : Reads role p guess 30 → IsAt role Server p phase.Exchange guess
  init_read (Closes e) = absurd (omega arith)
  init_read (Leaves none e) = let two = init_at role p e in record { side_is = two.0; phase_is = two.1; none_due = none }
  init_read (OfAuth none a) = absurd (early role p 30 (omega arith) a)
  init_read (Stays none calm) = let most : 30 ≤ 7 = calm.most in absurd (omega arith)

  pub reply_read : Reads role p guess 31 → IsAt role Client p phase.Exchange guess
  reply_read (Closes e) = absurd (omega arith)
  reply_read (Leaves none e) = let two = reply_at role p e in record { side_is = two.0; phase_is = two.1; none_due = none }
  reply_read (OfAuth none a) = absurd (early role p 31 (omega arith) a)
  reply_read (Stays none calm) = let most : 31 ≤ 7 = calm.most in absurd (omega arith)

  pub request_read : Reads role p guess 5 → IsAt role Server p phase.Service guess
  request_read (Closes e) = absurd (omega arith)
  request_read (Leaves none e) = let two = request_at role p e in record { side_is = two.0; phase_is = two.1; none_due = none }
  request_read (OfAuth none a) = absurd (early role p 5 (omega arith) a)
  request_read (Stays none calm) = absurd (calm.request refl)

  pub accept_read : Reads role p guess 6 → IsAt role Client p phase.Service guess
  accept_read (Closes e) = absurd (omega arith)
  accept_read (Leaves none e) = let two = accept_at role p e in record { side_is = two.0; phase_is = two.1; none_due = none }
  accept_read (OfAuth none a) = absurd (early role p 6 (omega arith) a)
  accept_read (Stays none calm) = absurd (calm.accept refl)

  pub user_request_read : Reads role p guess 50 → IsAt role Server p phase.Auth guess
  user_request_read (Closes e) = absurd (omega arith)
  user_request_read (Leaves none e) = let two = user_request_at role p e in record { side_is = two.0; phase_is = two.1; none_due = none }
  user_request_read (OfAuth none (Request side at is)) = record { side_is = side; phase_is = at; none_due = none }
  user_request_read (OfAuth none (Failure side at is)) = absurd (omega arith)
  user_request_read (OfAuth none (Banner side at is)) = absurd (omega arith)
  user_request_read (OfAuth none (Confirmation side at is)) = absurd (omega arith)
  user_request_read (Stays none calm) = let most : 50 ≤ 7 = calm.most in absurd (omega arith)

  pub success_read : Reads role p guess 52 → IsAt role Client p phase.Auth guess
  success_read (Closes e) = absurd (omega arith)
  success_read (Leaves none e) = let two = success_at role p e in record { side_is = two.0; phase_is = two.1; none_due = none }
  success_read (OfAuth none (Request side at is)) = absurd (omega arith)
  success_read (OfAuth none (Failure side at is)) = absurd (omega arith)
  success_read (OfAuth none (Banner side at is)) = absurd (omega arith)
  success_read (OfAuth none (Confirmation side at is)) = absurd (omega arith)
  success_read (Stays none calm) = let most : 52 ≤ 7 = calm.most in absurd (omega arith)

  -- a FAILURE is read at a client in phase auth
  pub failure_read : Reads role p guess 51 → IsAt role Client p phase.Auth guess
  failure_read (Closes e) = absurd (omega arith)
  failure_read (Leaves none e) = absurd (failure_at role p e)
  failure_read (OfAuth none (Request side at is)) = absurd (omega arith)
  failure_read (OfAuth none (Failure side at is)) = record { side_is = side; phase_is = at; none_due = none }
  failure_read (OfAuth none (Banner side at is)) = absurd (omega arith)
  failure_read (OfAuth none (Confirmation side at is)) = absurd (omega arith)
  failure_read (Stays none calm) = let most : 51 ≤ 7 = calm.most in absurd (omega arith)

  pub confirmation_read : Reads role p guess 60 → IsAt role Client p phase.Auth guess
  confirmation_read (Closes e) = absurd (omega arith)
  confirmation_read (Leaves none e) = absurd (confirmation_at role p e)
  confirmation_read (OfAuth none (Request side at is)) = absurd (omega arith)
  confirmation_read (OfAuth none (Failure side at is)) = absurd (omega arith)
  confirmation_read (OfAuth none (Banner side at is)) = absurd (omega arith)
  confirmation_read (OfAuth none (Confirmation side at is)) = record { side_is = side; phase_is = at; none_due = none }
  confirmation_read (Stays none calm) = let most : 60 ≤ 7 = calm.most in absurd (omega arith)

  -- of the plain numbers the calm ones and banners are read
  pub plain_read : (n : ℕ) → IsPlain n → Reads role p guess n → (guess ≡ false) × LeavesNone role n
  plain_read n plain (Closes e) = absurd (plain.closing e)
  plain_read n plain (Leaves none e) = absurd (none_at role p n e plain)
  plain_read n plain (OfAuth none (Request side at is)) = absurd (plain.user_request is)
  plain_read n plain (OfAuth none (Failure side at is)) = absurd (plain.failure is)
  plain_read n plain (OfAuth none (Banner side at is)) = (none, late_leaves role n (omega arith))
  plain_read n plain (OfAuth none (Confirmation side at is)) = absurd (plain.confirmation is)
  plain_read n plain (Stays none calm) = (none, calm_leaves role n calm)
