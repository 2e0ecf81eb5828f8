-- An endpoint that follows its part at each place stands in its part.

use Rattle.std.proofs.Common.{◌≡◌, ◌≢◌, ℕ, zero, suc, ◌<◌, ◌≤◌, ◌==◌, true, false, List, [], ◌∷◌, ◌++◌, append_assoc, append-nil, length, length-append, None, refl, sym, ap, ◌∙◌, subst, arith, eq-eqb}
use native.Mathlib.Decide.{dec_lt}
use Rattle.std.proofs.lemmas.Bool.{ne_eqb}
use Rattle.sshpacket.specs.Places.{EachPlace, IsPrefix, flat_places}
use Rattle.sshpacket.specs.Stream.{Units}
use Rattle.sshpacket.specs.Suite.{SuiteData}
use Rattle.sshpacket.proofs.Places.{each-prefix, each-last, prefix-through}
use Rattle.sshcore.specs.ConfigParts.{ClientData, ServerData}
use Rattle.sshcore.specs.EndData.{Open}
use Rattle.sshcore.specs.EndpointParts.{DecisionsData, Setup, client_setup, config_of_client, config_of_server, server_setup}
use Rattle.sshcore.specs.Replies.{Ends, StaysOpen, answers_at, end_at, ended, goes_on}
use Rattle.sshcore.specs.Work.{making}
use Rattle.sshworld.specs.Course.{Part, sent_after}
use Rattle.sshworld.specs.Follows.{BothFollow, BothKeep, FollowsPart, IsInPart, KeepsPart, end_after, part_of_client, part_of_server, units_of}
use Rattle.sshworld.specs.Rounds.{IsCourse}
use Rattle.sshworld.specs.Wording.{Wording}
use Rattle.sshworld.proofs.CourseLaws.{of_outcome}
use Rattle.sshworld.proofs.PartLemmas.{answers_from, from}

-- one element of a list, and those before it
record Split {A : Type 0} (xs : List A) (n : ℕ) : Type 0 where
  before : List A
  here : A
  rest : List A
  whole : xs ≡ before ++ here ∷ rest
  at : length before ≡ n

split : {A : Type 0} (xs : List A) (n : ℕ) → n < length xs → Split xs n
split {A} [] n h = absurd (omega (arith, h))
split {A} (x ∷ xs) zero h = record { before = []; here = x; rest = xs; whole = refl; at = refl }
split {A} (x ∷ xs) (suc n) h =
    let s = split xs n (omega (arith, h)) in
    record { before = x ∷ s.before; here = s.here; rest = s.rest; whole = ap (λ (l : List A). x ∷ l) s.whole; at = ap suc s.at }

each_all : {A : Type 0} (Q : List A → A → Type 0) (before xs : List A) → ((b : List A) (u : A) → IsPrefix (b ++ u ∷ []) (before ++ xs) → Q b u) → EachPlace Q before xs
each_all {A} Q before [] f = tt
each_all {A} Q before (x ∷ xs) f = (
  f before x (record { rest = xs; whole_is = sym (append_assoc before (x ∷ []) xs) }),
  each_all Q (before ++ x ∷ []) xs (λ b u g. f b u (record { rest = g.rest; whole_is = sym (append_assoc before (x ∷ []) xs) ∙ g.whole_is })),
)

sent_from : (f : Units → List ℕ → Units) (group : ℕ → Units) (before xs : Units) → EachPlace (λ b x. f b x ≡ group (length b)) before xs → flat_places f before xs ≡ from group (length before) (length xs)
sent_from f group before [] e = refl
sent_from f group before (x ∷ xs) e =
    ap (λ (g : Units). g ++ flat_places f (before ++ x ∷ []) xs) e.0
    ∙ ap (λ (g : Units). group (length before) ++ g) (sent_from f group (before ++ x ∷ []) xs e.1 ∙ ap (λ (n : ℕ). from group n (length xs)) (let n : length (before ++ x ∷ []) ≡ suc (length before) = omega (arith, length-append before (x ∷ [])) in n))

module _ (setup : Setup) (p : Part) (stream : Units) (follows : FollowsPart setup p stream) (some : 0 < p.receives) (ends : p.final ≢ Open) where
  -- it stays open at fewer units than it receives
  few : (units : Units) → IsPrefix units stream → StaysOpen setup units → length units < p.receives
  few units front open_at = elim (dec_lt (length units) p.receives) [
    | yes less ↦ less
    | no ge ↦ many ge p.receives refl
  ]
    where
      many : (length units < p.receives → ⊥) → (n : ℕ) → p.receives ≡ n → length units < p.receives
      many ge zero e = absurd (omega (arith, e, some))
      many ge (suc n) e =
          let s = split units n (omega (arith, ge, e)) in
          let near : units ≡ (s.before ++ s.here ∷ []) ++ s.rest = s.whole ∙ sym (append_assoc s.before (s.here ∷ []) s.rest) in
          let stays : EachPlace (λ b u. end_at setup b u ≡ Open) [] (s.before ++ s.here ∷ []) =
          each-prefix (λ b u. end_at setup b u ≡ Open) [] (s.before ++ s.here ∷ []) s.rest (subst (λ (l : Units). EachPlace (λ b u. end_at setup b u ≡ Open) [] l) near open_at) in
          let here : end_at setup s.before s.here ≡ Open = each-last (λ b u. end_at setup b u ≡ Open) [] s.before s.here stays in
          let place = follows.places s.before s.here (prefix-through (s.before ++ s.here ∷ []) units stream (record { rest = s.rest; whole_is = near }) front) (omega (arith, s.at, e)) in
          let last : (suc (length s.before) == p.receives) ≡ true = eq-eqb (suc (length s.before)) p.receives (omega (arith, s.at, e)) in
          let final_is : end_after p (suc (length s.before)) ≡ p.final = rw last refl in
          absurd (ends (sym final_is ∙ sym place.end ∙ here))

  sent_is : (units answers : Units) → IsPrefix units stream → length units ≤ p.receives → answers ≡ making setup.suite setup.role setup.config ++ (flat_places (answers_at setup) [] units ++ []) → answers ≡ sent_after p (length units)
  sent_is units answers front h e =
      let each : EachPlace (λ b x. answers_at setup b x ≡ p.group (length b)) [] units =
      each_all (λ b x. answers_at setup b x ≡ p.group (length b)) [] units (λ b u g. (follows.places b u (prefix-through (b ++ u ∷ []) units stream g front) (short b u g h)).answer) in
      e ∙ ap (λ (l : Units). making setup.suite setup.role setup.config ++ l) (append-nil (flat_places (answers_at setup) [] units))
      ∙ ap (λ (l : Units). l ++ flat_places (answers_at setup) [] units) follows.making_is
      ∙ ap (λ (l : Units). p.first ++ l) (sent_from (answers_at setup) p.group [] units each ∙ sym (answers_from p.group (length units)))
    where
      short : (b : Units) (u : List ℕ) → IsPrefix (b ++ u ∷ []) units → length units ≤ p.receives → length b < p.receives
      short b u g h = let n = ap length g.whole_is in omega (arith, n, length-append (b ++ u ∷ []) g.rest, length-append b (u ∷ []), h)

  pub keeps : KeepsPart setup p stream
  keeps units answers end front replies = by replies.ends
    where
      by : Ends setup units None end → IsInPart p units answers end
      by (goes_on open_at e) =
          let less = few units front open_at in
          record {
            within = omega (arith, less);
            sent = sent_is units answers front (omega (arith, less)) replies.in_order;
            ends = e ∙ sym (let no_end : (length units == p.receives) ≡ false = ne_eqb (length units) p.receives (λ z. omega (arith, z, less)) in rw no_end refl);
          }
      by (ended before last is open_at e closed none) =
          let front_before : IsPrefix before stream = prefix-through before units stream (record { rest = last ∷ []; whole_is = is }) front in
          let less = few before front_before open_at in
          let n : length units ≡ suc (length before) = omega (arith, ap length is, length-append before (last ∷ [])) in
          let place = follows.places before last (prefix-through (before ++ last ∷ []) units stream (record { rest = []; whole_is = is ∙ sym (append-nil (before ++ last ∷ [])) }) front) less in
          record {
            within = omega (arith, less, n);
            sent = sent_is units answers front (omega (arith, less, n)) replies.in_order;
            ends = e ∙ place.end ∙ ap (λ (k : ℕ). end_after p k) (sym n);
          }

pub both_keep : (m : SuiteData) (d : DecisionsData) (c : ClientData) (s : ServerData) (w : Wording) → BothFollow m d c s w → BothKeep m d c s w
both_keep m d c s w both =
    let is : IsCourse (part_of_client m d c s w) (part_of_server m d c s w) = of_outcome m d c s w in
    record {
      client_keeps = keeps (client_setup m d c) (part_of_client m d c s w) (units_of (config_of_server s) (part_of_server m d c s w)) both.client_follows is.fit.client_receives_some is.client_ends;
      server_keeps = keeps (server_setup m d s) (part_of_server m d c s w) (units_of (config_of_client c) (part_of_client m d c s w)) both.server_follows is.fit.server_receives_some is.server_ends;
    }
