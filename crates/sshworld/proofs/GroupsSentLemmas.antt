-- In a course the client sends few groups, so few rounds are enough.

use Rattle.std.proofs.Common.{◌≡◌, ℕ, zero, suc, ◌+◌, ◌≤◌, Bool, true, false, List, [], ◌∷◌, length, map, refl, ap, arith, if◌then◌else◌}
use Rattle.sshpacket.specs.Stream.{Units}
use Rattle.sshcore.specs.EndData.{EndData}
use Rattle.sshworld.specs.Guesses.{Guess}
use Rattle.sshworld.specs.Outcome.{BothEnds}
use Rattle.sshworld.specs.Verdicts.{Verdict}
use Rattle.sshworld.specs.Wording.{Wording}
use Rattle.sshworld.specs.Course.{Way, Requests, NoTrust, NoChoice, init_anew, client_requests, client_no_trust, client_early, client_receives, client_next, client_part, client_no_choice, group_at, server_part}
use Rattle.sshworld.specs.Rounds.{after_rounds, all_received, groups_sent, is_nothing, requests_of}
use Rattle.sshworld.proofs.FitLemmas.{fits}
use Rattle.sshworld.proofs.RoundLemmas

-- in how many groups something is sent
sent_step : (t : Bool) (n : ℕ) → (if t then n else n + 1) ≤ n + 1
sent_step true n = omega arith
sent_step false n = omega arith

sent_most : (group : ℕ → Units) (n : ℕ) → groups_sent group n ≤ n
sent_most group zero = omega arith
sent_most group (suc n) = omega (arith, sent_step (is_nothing (group n)) (groups_sent group n), sent_most group n)

sent_first : (f h : ℕ → Units) (n : ℕ) → ((i : ℕ) → h (suc i) ≡ f i) → groups_sent h (suc n) ≤ groups_sent f n + 1
sent_first f h zero s = omega (arith, sent_step (is_nothing (h 0)) 0)
sent_first f h (suc n) s = step (is_nothing (h (suc n))) (is_nothing (f n)) (ap is_nothing (s n)) (sent_first f h n s)
  where
    step : (a b : Bool) → a ≡ b → groups_sent h (suc n) ≤ groups_sent f n + 1 → (if a then groups_sent h (suc n) else groups_sent h (suc n) + 1) ≤ (if b then groups_sent f n else groups_sent f n + 1) + 1
    step true true e h = h
    step false false e h = omega arith
    step true false e h = absurd (cc)
    step false true e h = absurd (cc)

sent_silent : (f h : ℕ → Units) (n : ℕ) → h 0 ≡ [] → ((i : ℕ) → h (suc i) ≡ f i) → groups_sent h (suc n) ≤ groups_sent f n
sent_silent f h zero e s = let t : is_nothing (h 0) ≡ true = ap is_nothing e in rw t (omega arith)
sent_silent f h (suc n) e s = step (is_nothing (h (suc n))) (is_nothing (f n)) (ap is_nothing (s n)) (sent_silent f h n e s)
  where
    step : (a b : Bool) → a ≡ b → groups_sent h (suc n) ≤ groups_sent f n → (if a then groups_sent h (suc n) else groups_sent h (suc n) + 1) ≤ (if b then groups_sent f n else groups_sent f n + 1)
    step true true e h = h
    step false false e h = omega arith
    step true false e h = absurd (cc)
    step false true e h = absurd (cc)

-- after the banner nothing but requests
sent_banner : (texts : Units) (f : ℕ → Units) (n : ℕ) → groups_sent (group_at (map (λ (text : List ℕ). []) texts) f) (length texts + n) ≤ n
sent_banner [] f n = let e : 0 + n ≡ n = omega arith in rw e (sent_most f n)
sent_banner (t ∷ texts) f n =
    let e : length (t ∷ texts) + n ≡ suc (length texts + n) = omega arith in
    rw e (omega (arith, sent_silent (group_at (map (λ (text : List ℕ). []) texts) f) (group_at ([] ∷ map (λ (text : List ℕ). []) texts) f) (length texts + n) refl (λ i. refl), sent_banner texts f n))

-- the client sends few groups after its first
requests_groups : (w : Wording) (guess : Guess) (v : Verdict) (end : EndData) (n : ℕ) → groups_sent (client_requests w guess v end).group (client_receives w n) ≤ n + 3
requests_groups w guess v end zero = few (is_nothing (client_next w v 0)) (is_nothing (init_anew w guess))
  where
    few : (a b : Bool) → (if a then (if b then 0 else 1) + 1 else (if b then 0 else 1) + 1 + 1) ≤ 3
    few true true = omega arith
    few true false = omega arith
    few false true = omega arith
    few false false = omega arith
requests_groups w guess v end (suc n) =
    let after : ℕ → Units = λ i. client_next w v (i + 1) in
    let m : ℕ = length w.banner + suc n in
    let place : 5 + length w.banner + suc n ≡ suc (suc (suc (suc (suc m)))) = omega arith in
    let banner : List Units = map (λ (text : List ℕ). []) w.banner in
    let accepted : List Units = client_next w v 0 ∷ banner in
    let switched : List Units = (w.new_keys ∷ w.service_request ∷ []) ∷ [] ∷ accepted in
    let a = sent_silent (group_at (init_anew w guess ∷ switched) after) (group_at (client_early w guess v) after) (suc (suc (suc (suc m)))) refl (λ i. refl) in
    let b = sent_first (group_at switched after) (group_at (init_anew w guess ∷ switched) after) (suc (suc (suc m))) (λ i. refl) in
    let c = sent_first (group_at ([] ∷ accepted) after) (group_at switched after) (suc (suc m)) (λ i. refl) in
    let d = sent_silent (group_at accepted after) (group_at ([] ∷ accepted) after) (suc m) refl (λ i. refl) in
    let e = sent_first (group_at banner after) (group_at accepted after) m (λ i. refl) in
    let z = sent_banner w.banner after (suc n) in
    rw place (omega (arith, a, b, c, d, e, z))

pub groups : (w : Wording) (guess : Guess) (way : Way) (ends : BothEnds) → groups_sent (client_part w guess way ends).group (client_part w guess way ends).receives ≤ requests_of way + 3
groups w guess NoChoice ends = omega (arith, sent_most (client_no_choice w guess ends.client).group 2)
groups w guess NoTrust ends = omega (arith, sent_most (client_no_trust w guess ends.client).group 3)
groups w guess (Requests v) ends = requests_groups w guess v ends.client v.requests

pub bound : (w : Wording) (guess : Guess) (way : Way) (ends : BothEnds) (r : ℕ) → requests_of way + 4 ≤ r
    → after_rounds (client_part w guess way ends) (server_part w guess way ends) r ≡ all_received (client_part w guess way ends) (server_part w guess way ends)
bound w guess way ends r h = RoundLemmas.bound (client_part w guess way ends) (server_part w guess way ends) (fits w guess way ends) r (omega (arith, h, groups w guess way ends))
