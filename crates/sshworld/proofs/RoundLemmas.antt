-- The bound on rounds, for any two parts that fit.

use Rattle.std.proofs.Common.{◌≡◌, ℕ, zero, suc, ◌+◌, ◌<◌, ◌≤◌, Bool, true, false, [], ◌∷◌, length, min, refl, ap, ◌∙◌, arith, length-append, ◌⊎◌, inl, inr, if◌then◌else◌}
use native.Mathlib.Decide.{dec_lt}
use Rattle.sshpacket.specs.Stream.{Units}
use Rattle.sshworld.specs.Course.{Part, answers_to}
use Rattle.sshworld.specs.Rounds.{Fit, UnitsReceived, after_rounds, all_received, groups_sent, is_nothing, round_from, server_receives_all, units_sent}

longer_sent : (group : ℕ → Units) (a b : ℕ) → a ≤ b → length (answers_to group a) ≤ length (answers_to group b)
longer_sent group a zero h = let e : a ≡ 0 = omega arith in rw e (omega arith)
longer_sent group a (suc b) h = elim (dec_lt b a) [
  | yes lt ↦ let e : a ≡ suc b = omega arith in rw e (omega arith)
  | no ge ↦ omega (arith, length-append (answers_to group b) (group b), longer_sent group a b (omega arith))
]

pub more_units_sent : (p : Part) (a b : ℕ) → a ≤ b → units_sent p a ≤ units_sent p b
more_units_sent p a b h = omega (arith, length-append p.first (answers_to p.group a), length-append p.first (answers_to p.group b), longer_sent p.group a b h)

pub groups_sent_on : (group : ℕ → Units) (a b : ℕ) → a ≤ b → groups_sent group a ≤ groups_sent group b
groups_sent_on group a zero h = let e : a ≡ 0 = omega arith in rw e (omega arith)
groups_sent_on group a (suc b) h = elim (dec_lt b a) [
  | yes lt ↦ let e : a ≡ suc b = omega arith in rw e (omega arith)
  | no ge ↦ step (is_nothing (group b)) (groups_sent_on group a b (omega arith))
]
  where
    step : (t : Bool) → groups_sent group a ≤ groups_sent group b → groups_sent group a ≤ (if t then groups_sent group b else groups_sent group b + 1)
    step true h = h
    step false h = omega arith

nothing_sent : (xs : Units) → is_nothing xs ≡ true → length xs ≡ 0
nothing_sent [] h = refl
nothing_sent (x ∷ xs) h = absurd (cc)

more_groups_in : (group : ℕ → Units) (a b : ℕ) → length (answers_to group a) < length (answers_to group b) → groups_sent group a < groups_sent group b
more_groups_in group a zero h = absurd (omega arith)
more_groups_in group a (suc b) h = elim (dec_lt b a) [
  | yes lt ↦ absurd (omega (arith, h, longer_sent group (suc b) a (omega arith)))
  | no ge ↦ step (is_nothing (group b)) refl (omega arith) (λ less. more_groups_in group a b less)
]
  where
    step : (t : Bool) → is_nothing (group b) ≡ t → a ≤ b → (length (answers_to group a) < length (answers_to group b) → groups_sent group a < groups_sent group b) → groups_sent group a < (if t then groups_sent group b else groups_sent group b + 1)
    step true e le before = before (omega (arith, h, length-append (answers_to group b) (group b), nothing_sent (group b) e))
    step false e le before = omega (arith, groups_sent_on group a b (omega arith))

pub more_groups_of : (p : Part) (a b : ℕ) → units_sent p a < units_sent p b → groups_sent p.group a < groups_sent p.group b
more_groups_of p a b h = more_groups_in p.group a b (omega (arith, h, length-append p.first (answers_to p.group a), length-append p.first (answers_to p.group b)))

-- no side has received more than was sent
pub record Received (p q : Part) (at : UnitsReceived) : Type 0 where
  pub client : at.client ≤ p.receives
  pub server : at.server ≤ q.receives
  pub of_server : at.client ≤ units_sent q at.server
  pub of_client : at.server ≤ units_sent p at.client

module _ (p q : Part) where
  no_less : (at : UnitsReceived) → Received p q at → (at.client ≤ (round_from p q at).client) × (at.server ≤ (round_from p q at).server)
  no_less at h =
      let server : at.server ≤ server_receives_all p q at.client = omega (arith, h.server, h.of_client) in
      (omega (arith, h.client, h.of_server, more_units_sent q at.server (server_receives_all p q at.client) server), server)

  received_on : (at : UnitsReceived) → Received p q at → Received p q (round_from p q at)
  received_on at h = record {
    client = omega arith;
    server = omega arith;
    of_server = omega arith;
    of_client = omega (arith, more_units_sent p at.client (round_from p q at).client (no_less at h).0);
  }

  pub received_after : (r : ℕ) → Received p q (after_rounds p q r)
  received_after zero = record { client = omega arith; server = omega arith; of_server = omega arith; of_client = omega arith }
  received_after (suc r) = received_on (after_rounds p q r) (received_after r)

  -- where the client sent nothing in a round, both have ended
  module _ (f : Fit p q) where
    meets : (k k' l : ℕ) → k' ≡ min p.receives (units_sent q l) → l ≡ min q.receives (units_sent p k) → units_sent p k' ≡ units_sent p k → (p.receives ≤ k') × (q.receives ≤ l)
    meets k k' l ek el same =
        let all_client : k' ≡ p.receives → units_sent p k' ≡ units_sent p p.receives = λ e. ap (λ n. units_sent p n) e in
        let all_server : l ≡ q.receives → units_sent q l ≡ units_sent q q.receives = λ e. ap (λ n. units_sent q n) e in
        elim (dec_lt k' p.receives) [
          | yes less ↦ elim (dec_lt l q.receives) [
            | yes fewer ↦ absurd (f.no_wait k' l less fewer (omega (arith, ek, less)) (omega (arith, el, fewer, same)))
            | no ge ↦ let e : l ≡ q.receives = omega (arith, el, ge) in let s = all_server e in absurd (omega (arith, ek, less, s, f.client_reached))
          ]
          | no ge ↦ elim (dec_lt l q.receives) [
            | yes fewer ↦ let e : k' ≡ p.receives = omega (arith, ek, ge) in let s = all_client e in absurd (omega (arith, el, fewer, same, s, f.server_reached))
            | no le ↦ (omega arith, omega arith)
          ]
        ]

    quiet : (at : UnitsReceived) → Received p q at → units_sent p (round_from p q at).client ≤ units_sent p at.client → (p.receives ≤ (round_from p q at).client) × (q.receives ≤ (round_from p q at).server)
    quiet at h short = meets at.client (round_from p q at).client (round_from p q at).server refl refl (omega (arith, short, more_units_sent p at.client (round_from p q at).client (no_less at h).0))

    -- after r rounds both have ended, or the client has sent r groups after its first
    pub ended_or_sent : (r : ℕ) → ((p.receives ≤ (after_rounds p q r).client) × (q.receives ≤ (after_rounds p q r).server)) ⊎ (r ≤ groups_sent p.group (after_rounds p q r).client)
    ended_or_sent zero = inr (omega arith)
    ended_or_sent (suc r) =
        let at = after_rounds p q r in
        let h = received_after r in
        elim (dec_lt (units_sent p at.client) (units_sent p (round_from p q at).client)) [
          | no ge ↦ inl (quiet at h (omega arith))
          | yes less ↦ elim (ended_or_sent r) [
            | inl both ↦ inl (omega (arith, both.0, (no_less at h).0), omega (arith, both.1, (no_less at h).1))
            | inr sent ↦ inr (omega (arith, sent, more_groups_of p at.client (round_from p q at).client less))
          ]
        ]

    -- the bound on rounds
    pub bound : (r : ℕ) → groups_sent p.group p.receives < r → after_rounds p q r ≡ all_received p q
    bound r lt = elim (ended_or_sent r) [
      | inl both ↦ same (after_rounds p q r) (omega (arith, both.0, (received_after r).client)) (omega (arith, both.1, (received_after r).server))
      | inr sent ↦ absurd (omega (arith, sent, lt, groups_sent_on p.group (after_rounds p q r).client p.receives (received_after r).client))
    ]
      where
        same : (at : UnitsReceived) → at.client ≡ p.receives → at.server ≡ q.receives → at ≡ all_received p q
        same at c s = ap (λ n. record { client = n; server = at.server }) c ∙ ap (λ n. record { client = p.receives; server = n }) s
