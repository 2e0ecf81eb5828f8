-- What each line of the phase table says of a number.

use Rattle.std.proofs.Common.{◌≡◌, ◌≢◌, ◌⊎◌, inl, inr, ℕ, ◌≤◌, ◌==◌, Bool, true, false, refl, sym, ◌∙◌, arith}
use Rattle.std.specs.Prelude.{◌&&◌}
use Rattle.std.proofs.lemmas.Bool.{and_parts, cases_Bool, eq-eqb, eqb-true, leb-true, ne_eqb, or_cases, true≢false}
use Rattle.sshneg.specs.declared.side.Side.{Side}
use Rattle.sshneg.specs.declared.side.Side.TheVariants.{Client, Server}
use Rattle.sshcore.specs.declared.phase_table.Disposition.{Disposition}
use Rattle.sshcore.specs.declared.phase_table.Disposition.TheVariants as disposition
use Rattle.sshcore.specs.declared.phase_table.Phase.{Phase}
use Rattle.sshcore.specs.declared.phase_table.Phase.TheVariants as phase
use Rattle.sshcore.specs.Phases.{leaving}
use Rattle.sshcore.specs.Standing.{LeavesNone}
use Rattle.sshcore.specs.Table.{disposition_by, is_ignored, is_of_auth, is_of_method, is_ruled, is_unknown, takes_extensions, within}

-- a number that leaves no phase, and is no exchange message's
pub record IsQuiet (role : Side) (n : ℕ) : Type 0 where
  pub leaves : LeavesNone role n
  pub init : n ≢ 30
  pub reply : n ≢ 31

-- the lines of the table, with what holds where each decides
pub data Sees (role : Side) (p : Phase) (strict guess : Bool) (n : ℕ) (l : Disposition) : Type 0 where
  Closing : n ≡ 1 → l ≡ disposition.Reads → Sees role p strict guess n l
  Dropped : (n == 1) ≡ false → guess ≡ true → (is_ruled p strict ≡ true → is_of_method n ≡ true) → l ≡ disposition.Drops → Sees role p strict guess n l
  OffGuess : (n == 1) ≡ false → guess ≡ true → is_ruled p strict ≡ true → is_of_method n ≡ false → l ≡ disposition.Deviates → Sees role p strict guess n l
  OffPhase : (n == 1) ≡ false → guess ≡ false → is_ruled p strict ≡ true → (n == leaving role p) ≡ false → l ≡ disposition.Deviates → Sees role p strict guess n l
  Leaving : guess ≡ false → n ≡ leaving role p → l ≡ disposition.Reads → Sees role p strict guess n l
  Staying : guess ≡ false → is_ruled p strict ≡ false → (n == leaving role p) ≡ false → IsQuiet role n → l ≢ disposition.Drops → Sees role p strict guess n l
  Useless : guess ≡ false → is_ruled p strict ≡ false → (n == leaving role p) ≡ false → l ≡ disposition.Unexpected → Sees role p strict guess n l

-- no number of these leaves a phase
none_from : (role : Side) (n : ℕ) → n ≢ 20 → n ≢ 21 → n ≢ 30 → n ≢ 31 → n ≢ 5 → n ≢ 6 → IsQuiet role n
none_from Client n a b c d e f = record {
  leaves = record { kexinit = ne_eqb n 20 a; exchange = ne_eqb n 31 d; newkeys = ne_eqb n 21 b; service = ne_eqb n 6 f };
  init = c;
  reply = d;
}
none_from Server n a b c d e f = record {
  leaves = record { kexinit = ne_eqb n 20 a; exchange = ne_eqb n 30 c; newkeys = ne_eqb n 21 b; service = ne_eqb n 5 e };
  init = c;
  reply = d;
}

pub in_range : (low high n : ℕ) → within low high n ≡ true → (low ≤ n) × (n ≤ high)
in_range low high n h =
    let p = and_parts _ _ h in
    (leb-true low n p.0, leb-true n high p.1)

module _ (role : Side) (n : ℕ) where
  extension : (n == 7) ≡ true → IsQuiet role n
  extension h =
      let same : n ≡ 7 = eqb-true n 7 h in
      none_from role n (λ q. omega arith) (λ q. omega arith) (λ q. omega arith) (λ q. omega arith) (λ q. omega arith) (λ q. omega arith)

  -- a range that has none of the six
  range : (low high : ℕ) → ((2 ≤ low) × (high ≤ 4)) ⊎ (((8 ≤ low) × (high ≤ 19)) ⊎ (((22 ≤ low) × (high ≤ 29)) ⊎ (32 ≤ low))) → within low high n ≡ true → IsQuiet role n
  range low high where_is h =
      let least : low ≤ n = (in_range low high n h).0 in
      let most : n ≤ high = (in_range low high n h).1 in
      elim where_is [
        | inl r ↦ let l : 2 ≤ low = r.0 in let u : high ≤ 4 = r.1 in
            none_from role n (λ q. omega arith) (λ q. omega arith) (λ q. omega arith) (λ q. omega arith) (λ q. omega arith) (λ q. omega arith)
        | inr s ↦ elim s [
          | inl r ↦ let l : 8 ≤ low = r.0 in let u : high ≤ 19 = r.1 in
              none_from role n (λ q. omega arith) (λ q. omega arith) (λ q. omega arith) (λ q. omega arith) (λ q. omega arith) (λ q. omega arith)
          | inr t ↦ elim t [
            | inl r ↦ let l : 22 ≤ low = r.0 in let u : high ≤ 29 = r.1 in
                none_from role n (λ q. omega arith) (λ q. omega arith) (λ q. omega arith) (λ q. omega arith) (λ q. omega arith) (λ q. omega arith)
            | inr r ↦ none_from role n (λ q. omega arith) (λ q. omega arith) (λ q. omega arith) (λ q. omega arith) (λ q. omega arith) (λ q. omega arith)
          ]
        ]
      ]

  unknown_leaves : is_unknown n ≡ true → IsQuiet role n
  unknown_leaves h = elim (or_cases _ _ h) [
    | inl a ↦ range 8 19 (inr (inl (omega arith, omega arith))) a
    | inr a ↦ elim (or_cases _ _ a) [
      | inl b ↦ range 22 29 (inr (inr (inl (omega arith, omega arith)))) b
      | inr b ↦ elim (or_cases _ _ b) [
        | inl c ↦ range 32 49 (inr (inr (inr (omega arith)))) c
        | inr c ↦ elim (or_cases _ _ c) [
          | inl d ↦ range 54 59 (inr (inr (inr (omega arith)))) d
          | inr d ↦ range 61 79 (inr (inr (inr (omega arith)))) d
        ]
      ]
    ]
  ]

-- the messages of authentication leave no earlier phase
auth_leaves : (role : Side) (p : Phase) (waits : Bool) (n : ℕ) → is_of_auth role p waits n ≡ true → IsQuiet role n
auth_leaves Server phase.Auth waits n h =
    let same : n ≡ 50 = eqb-true n 50 h in
    none_from Server n (λ q. omega arith) (λ q. omega arith) (λ q. omega arith) (λ q. omega arith) (λ q. omega arith) (λ q. omega arith)
auth_leaves Client phase.Auth waits n h = elim (or_cases _ _ h) [
  | inl a ↦ let same : n ≡ 51 = eqb-true n 51 a in
      none_from Client n (λ q. omega arith) (λ q. omega arith) (λ q. omega arith) (λ q. omega arith) (λ q. omega arith) (λ q. omega arith)
  | inr b ↦ elim (or_cases _ _ b) [
    | inl c ↦ let same : n ≡ 53 = eqb-true n 53 c in
        none_from Client n (λ q. omega arith) (λ q. omega arith) (λ q. omega arith) (λ q. omega arith) (λ q. omega arith) (λ q. omega arith)
    | inr c ↦ let same : n ≡ 60 = eqb-true n 60 (and_parts waits (n == 60) c).1 in
        none_from Client n (λ q. omega arith) (λ q. omega arith) (λ q. omega arith) (λ q. omega arith) (λ q. omega arith) (λ q. omega arith)
  ]
]
auth_leaves Client phase.KexInit waits n h = absurd cc
auth_leaves Server phase.KexInit waits n h = absurd cc
auth_leaves Client phase.Exchange waits n h = absurd cc
auth_leaves Server phase.Exchange waits n h = absurd cc
auth_leaves Client phase.NewKeys waits n h = absurd cc
auth_leaves Server phase.NewKeys waits n h = absurd cc
auth_leaves Client phase.Service waits n h = absurd cc
auth_leaves Server phase.Service waits n h = absurd cc

module _ (role : Side) (p : Phase) (strict waits : Bool) (n : ℕ) where
  -- no guess is due, and strictness rules nothing
  free : (n == 1) ≡ false → is_ruled p strict ≡ false → Sees role p strict false n (disposition_by role p strict false waits n)
  unfolding disposition_by
  free one off = rw (one, off) (elim (cases_Bool (n == leaving role p)) [
    | inl h ↦ rw h (Leaving refl (eqb-true n (leaving role p) h) refl)
    | inr h ↦ rw h (elim (cases_Bool (is_of_auth role p waits n)) [
      | inl a ↦ rw a (Staying refl off h (auth_leaves role p waits n a) (λ e. absurd cc))
      | inr a ↦ rw a (elim (cases_Bool (is_ignored n)) [
        | inl b ↦ rw b (Staying refl off h (range role n 2 4 (inl (omega arith, omega arith)) b) (λ e. absurd cc))
        | inr b ↦ rw b (elim (cases_Bool ((n == 7) && takes_extensions p)) [
          | inl c ↦ rw c (Staying refl off h (extension role n (and_parts _ _ c).0) (λ e. absurd cc))
          | inr c ↦ rw c (elim (cases_Bool (is_unknown n)) [
            | inl d ↦ rw d (Staying refl off h (unknown_leaves role n d) (λ e. absurd cc))
            | inr d ↦ rw d (Useless refl off h refl)
          ])
        ])
      ])
    ])
  ])

  ruled : (n == 1) ≡ false → is_ruled p strict ≡ true → Sees role p strict false n (disposition_by role p strict false waits n)
  unfolding disposition_by
  ruled one on = rw (one, on) (elim (cases_Bool (n == leaving role p)) [
    | inl h ↦ rw h (Leaving refl (eqb-true n (leaving role p) h) refl)
    | inr h ↦ rw h (OffPhase one refl on h refl)
  ])

  due : (n == 1) ≡ false → Sees role p strict true n (disposition_by role p strict true waits n)
  unfolding disposition_by
  due one = rw one (elim (cases_Bool (is_ruled p strict)) [
    | inl on ↦ rw on (elim (cases_Bool (is_of_method n)) [
      | inl h ↦ rw h (Dropped one refl (λ _. h) refl)
      | inr h ↦ rw h (OffGuess one refl on h refl)
    ])
    | inr off ↦ rw off (Dropped one refl (λ on. absurd (true≢false (sym on ∙ off))) refl)
  ])

  closing : (guess : Bool) → (n == 1) ≡ true → Sees role p strict guess n (disposition_by role p strict guess waits n)
  unfolding disposition_by
  closing guess one = rw one (Closing (eqb-true n 1 one) refl)

  pub sees : (guess : Bool) → Sees role p strict guess n (disposition_by role p strict guess waits n)
  sees guess = elim (cases_Bool (n == 1)) [
    | inl one ↦ closing guess one
    | inr one ↦ by_guess guess one
  ]
    where
      by_guess : (g : Bool) → (n == 1) ≡ false → Sees role p strict g n (disposition_by role p strict g waits n)
      by_guess true one = due one
      by_guess false one = elim (cases_Bool (is_ruled p strict)) [
        | inl on ↦ ruled one on
        | inr off ↦ free one off
      ]

-- a number that is read or unknown, and neither closes nor leaves the phase, leaves none
pub quiet : (role : Side) (p : Phase) (strict waits : Bool) (n : ℕ) → (n == 1) ≡ false → (n == leaving role p) ≡ false
    → (disposition_by role p strict false waits n ≡ disposition.Reads) ⊎ (disposition_by role p strict false waits n ≡ disposition.Unknown) → LeavesNone role n
quiet role p strict waits n one not_here side = by (disposition_by role p strict false waits n) (sees role p strict waits n false) side
  where
    by : (l : Disposition) → Sees role p strict false n l → (l ≡ disposition.Reads) ⊎ (l ≡ disposition.Unknown) → LeavesNone role n
    by l (Closing is e) side = absurd (true≢false (sym (eq-eqb n 1 is) ∙ one))
    by l (Dropped o due r e) side = absurd (true≢false (sym due))
    by l (OffGuess o due r m e) side = absurd (true≢false (sym due))
    by l (OffPhase o none r h e) (inl q) = absurd cc
    by l (OffPhase o none r h e) (inr q) = absurd cc
    by l (Leaving none here e) side = absurd (true≢false (sym (eq-eqb n (leaving role p) here) ∙ not_here))
    by l (Staying none off h calm e) side = calm.leaves
    by l (Useless none off h e) (inl q) = absurd cc
    by l (Useless none off h e) (inr q) = absurd cc
