-- The two parts of a course fit.

use Rattle.std.proofs.Common.{◌≡◌, ℕ, zero, suc, ◌+◌, ◌<◌, ◌≤◌, [], ◌∷◌, ◌++◌, length, refl, sym, ap, subst, ◌∙◌, arith, length-append}
use Rattle.sshworld.specs.Guesses.{Guess, NoGuess, RightGuess, WrongGuess}
use Rattle.sshworld.specs.Outcome.{BothEnds}
use Rattle.sshworld.specs.Verdicts.{Verdict}
use Rattle.sshworld.specs.Wording.{Wording}
use Rattle.sshworld.specs.Course.{Part, Way, Requests, NoTrust, NoChoice, answers_to, init_anew, client_requests, client_no_trust, client_early, client_first, client_receives, client_next, client_part, client_no_choice, unanswered, group_at, guessed, received_last, server_requests, server_no_trust, server_part, server_no_choice}
use Rattle.sshworld.specs.Rounds.{Fit, units_sent}
use Rattle.sshworld.proofs.RoundLemmas.{more_units_sent}
use Rattle.sshworld.proofs.CourseLemmas.{all_sent, bye_one, client_units, first_sent, last_most, next_last, requests_sent, server_units}

-- where no algorithm is common
pub no_choice_fits : (w : Wording) (guess : Guess) (ends : BothEnds) → Fit (client_no_choice w guess ends.client) (server_no_choice w ends.server)
no_choice_fits w guess ends = record {
  client_receives_some = omega arith;
  server_receives_some = omega arith;
  client_reached = omega arith;
  server_reached = omega arith;
  no_wait = λ k l hk hl ek el. waits k l hk hl ek;
}
  where
    waits : (k l : ℕ) → k < 2 → l < 2 → k ≡ units_sent (server_no_choice w ends.server) l → ⊥
    waits k zero hk hl ek = omega (arith, hk, ek)
    waits k (suc zero) hk hl ek = omega (arith, hk, ek)
    waits k (suc (suc l)) hk hl ek = omega (arith, hl)

-- a side that receives n units at k waits for another number of them
clash : (p : Part) (k n l : ℕ) → k ≡ n → l ≡ units_sent p k → (l ≡ units_sent p n → ⊥) → ⊥
clash p k n l e el f = f (el ∙ ap (λ i. units_sent p i) e)

-- where the host key is refused
pub no_trust_fits : (w : Wording) (guess : Guess) (ends : BothEnds) → Fit (client_no_trust w guess ends.client) (server_no_trust w guess ends.server)
no_trust_fits w NoGuess ends = record { client_receives_some = omega arith; server_receives_some = omega arith; client_reached = omega arith; server_reached = omega arith; no_wait = waits }
  where
    waits : (k l : ℕ) → k < 3 → l < 4 → k ≡ units_sent (server_no_trust w NoGuess ends.server) l → l ≡ units_sent (client_no_trust w NoGuess ends.client) k → ⊥
    waits k zero hk hl ek el = clash (client_no_trust w NoGuess ends.client) k 2 0 ek el (λ e. omega (arith, e))
    waits k (suc zero) hk hl ek el = clash (client_no_trust w NoGuess ends.client) k 2 1 ek el (λ e. omega (arith, e))
    waits k (suc (suc zero)) hk hl ek el = clash (client_no_trust w NoGuess ends.client) k 2 2 ek el (λ e. omega (arith, e))
    waits k (suc (suc (suc zero))) hk hl ek el = omega (arith, hk, ek)
    waits k (suc (suc (suc (suc l)))) hk hl ek el = omega (arith, hl)
no_trust_fits w RightGuess ends = record { client_receives_some = omega arith; server_receives_some = omega arith; client_reached = omega arith; server_reached = omega arith; no_wait = waits }
  where
    waits : (k l : ℕ) → k < 3 → l < 4 → k ≡ units_sent (server_no_trust w RightGuess ends.server) l → l ≡ units_sent (client_no_trust w RightGuess ends.client) k → ⊥
    waits k zero hk hl ek el = clash (client_no_trust w RightGuess ends.client) k 2 0 ek el (λ e. omega (arith, e))
    waits k (suc zero) hk hl ek el = clash (client_no_trust w RightGuess ends.client) k 2 1 ek el (λ e. omega (arith, e))
    waits k (suc (suc zero)) hk hl ek el = clash (client_no_trust w RightGuess ends.client) k 2 2 ek el (λ e. omega (arith, e))
    waits k (suc (suc (suc zero))) hk hl ek el = omega (arith, hk, ek)
    waits k (suc (suc (suc (suc l)))) hk hl ek el = omega (arith, hl)
no_trust_fits w WrongGuess ends = record { client_receives_some = omega arith; server_receives_some = omega arith; client_reached = omega arith; server_reached = omega arith; no_wait = waits }
  where
    waits : (k l : ℕ) → k < 3 → l < 5 → k ≡ units_sent (server_no_trust w WrongGuess ends.server) l → l ≡ units_sent (client_no_trust w WrongGuess ends.client) k → ⊥
    waits k zero hk hl ek el = clash (client_no_trust w WrongGuess ends.client) k 2 0 ek el (λ e. omega (arith, e))
    waits k (suc zero) hk hl ek el = clash (client_no_trust w WrongGuess ends.client) k 2 1 ek el (λ e. omega (arith, e))
    waits k (suc (suc zero)) hk hl ek el = clash (client_no_trust w WrongGuess ends.client) k 2 2 ek el (λ e. omega (arith, e))
    waits k (suc (suc (suc zero))) hk hl ek el = clash (client_no_trust w WrongGuess ends.client) k 2 3 ek el (λ e. omega (arith, e))
    waits k (suc (suc (suc (suc zero)))) hk hl ek el = omega (arith, hk, ek)
    waits k (suc (suc (suc (suc (suc l))))) hk hl ek el = omega (arith, hl)

-- where requests are made
module _ (w : Wording) (v : Verdict) (ends : BothEnds) where
  -- a client that received all of a server that received so many requests has made one more
  far : (guess : Guess) (k l i : ℕ) → i ≤ v.requests → l ≡ 5 + length (unanswered guess) + i → k < client_receives w v.requests → l < 5 + length (unanswered guess) + v.requests + received_last v.how
      → k ≡ units_sent (server_requests w guess v ends.server) l → l ≡ units_sent (client_requests w guess v ends.client) k → ⊥
  far guess k l i le is hk hl ek el =
      let s = ap (λ n. units_sent (server_requests w guess v ends.server) n) is ∙ server_units w guess v ends.server i le in
      let at : k ≡ 5 + length w.banner + i = omega (arith, ek, s) in
      let c = ap (λ n. units_sent (client_requests w guess v ends.client) n) at ∙ client_units w guess v ends.client i in
      receives v.requests refl at c
    where
      receives : (n : ℕ) → n ≡ v.requests → k ≡ 5 + length w.banner + i → units_sent (client_requests w guess v ends.client) k ≡ 5 + length (unanswered guess) + length (answers_to (client_next w v) (suc i)) → ⊥
      receives zero e at c = let h = subst (λ (n : ℕ). k < client_receives w n) (sym e) hk in omega (arith, h, at)
      receives (suc n) e at c = let h = subst (λ (n : ℕ). k < client_receives w n) (sym e) hk in omega (arith, h, at, c, el, is, e, requests_sent w v (suc i) (omega (arith, h, at, e)))

  client_all : (guess : Guess) → 5 + length (unanswered guess) + v.requests + received_last v.how ≤ units_sent (client_requests w guess v ends.client) (client_receives w v.requests)
  client_all guess = receives v.requests refl
    where
      receives : (n : ℕ) → n ≡ v.requests → 5 + length (unanswered guess) + v.requests + received_last v.how ≤ units_sent (client_requests w guess v ends.client) (client_receives w n)
      receives zero e =
          let none : 0 ≡ v.requests = e in
          omega (
            arith,
            length-append (guessed w guess) [],
            none,
            first_sent w guess,
            length-append (client_first w guess) (answers_to (group_at (client_early w guess v) (λ i. client_next w v (i + 1))) 5),
            length-append (init_anew w guess) (w.new_keys ∷ w.service_request ∷ []),
            length-append (init_anew w guess ++ w.new_keys ∷ w.service_request ∷ []) [],
            length-append ((init_anew w guess ++ w.new_keys ∷ w.service_request ∷ []) ++ []) (client_next w v 0),
            ap length (next_last w v 0 e),
            bye_one w v.how,
          )
      receives (suc n) e = omega (arith, client_units w guess v ends.client (suc n), ap (λ (k : ℕ). length (answers_to (client_next w v) (suc k))) e, all_sent w v, e)

  server_all : (guess : Guess) → client_receives w v.requests ≤ units_sent (server_requests w guess v ends.server) (5 + length (unanswered guess) + v.requests + received_last v.how)
  server_all guess =
      let a = server_units w guess v ends.server v.requests (omega arith) in
      let b = more_units_sent (server_requests w guess v ends.server) (5 + length (unanswered guess) + v.requests) (5 + length (unanswered guess) + v.requests + received_last v.how) (omega arith) in
      omega (arith, a, b, most v.requests)
    where
      most : (n : ℕ) → client_receives w n ≤ 5 + length w.banner + n
      most zero = omega arith
      most (suc n) = omega arith

  requests_wait : (guess : Guess) (k l : ℕ) → k < client_receives w v.requests → l < 5 + length (unanswered guess) + v.requests + received_last v.how
      → k ≡ units_sent (server_requests w guess v ends.server) l → l ≡ units_sent (client_requests w guess v ends.client) k → ⊥
  requests_wait NoGuess k zero hk hl ek el = clash (client_requests w NoGuess v ends.client) k 2 0 ek el (λ e. omega (arith, e))
  requests_wait NoGuess k (suc zero) hk hl ek el = clash (client_requests w NoGuess v ends.client) k 2 1 ek el (λ e. omega (arith, e))
  requests_wait NoGuess k (suc (suc zero)) hk hl ek el = clash (client_requests w NoGuess v ends.client) k 2 2 ek el (λ e. omega (arith, e))
  requests_wait NoGuess k (suc (suc (suc zero))) hk hl ek el = clash (client_requests w NoGuess v ends.client) k 4 3 ek el (λ e. omega (arith, e))
  requests_wait NoGuess k (suc (suc (suc (suc zero)))) hk hl ek el = clash (client_requests w NoGuess v ends.client) k 4 4 ek el (λ e. omega (arith, e))
  requests_wait NoGuess k (suc (suc (suc (suc (suc i))))) hk hl ek el = far NoGuess k (suc (suc (suc (suc (suc i))))) i (omega (arith, hl, last_most v.how)) (omega arith) hk hl ek el
  requests_wait RightGuess k zero hk hl ek el = clash (client_requests w RightGuess v ends.client) k 2 0 ek el (λ e. omega (arith, e))
  requests_wait RightGuess k (suc zero) hk hl ek el = clash (client_requests w RightGuess v ends.client) k 2 1 ek el (λ e. omega (arith, e))
  requests_wait RightGuess k (suc (suc zero)) hk hl ek el = clash (client_requests w RightGuess v ends.client) k 2 2 ek el (λ e. omega (arith, e))
  requests_wait RightGuess k (suc (suc (suc zero))) hk hl ek el = clash (client_requests w RightGuess v ends.client) k 4 3 ek el (λ e. omega (arith, e))
  requests_wait RightGuess k (suc (suc (suc (suc zero)))) hk hl ek el = clash (client_requests w RightGuess v ends.client) k 4 4 ek el (λ e. omega (arith, e))
  requests_wait RightGuess k (suc (suc (suc (suc (suc i))))) hk hl ek el = far RightGuess k (suc (suc (suc (suc (suc i))))) i (omega (arith, hl, last_most v.how)) (omega arith) hk hl ek el
  requests_wait WrongGuess k zero hk hl ek el = clash (client_requests w WrongGuess v ends.client) k 2 0 ek el (λ e. omega (arith, e))
  requests_wait WrongGuess k (suc zero) hk hl ek el = clash (client_requests w WrongGuess v ends.client) k 2 1 ek el (λ e. omega (arith, e))
  requests_wait WrongGuess k (suc (suc zero)) hk hl ek el = clash (client_requests w WrongGuess v ends.client) k 2 2 ek el (λ e. omega (arith, e))
  requests_wait WrongGuess k (suc (suc (suc zero))) hk hl ek el = clash (client_requests w WrongGuess v ends.client) k 2 3 ek el (λ e. omega (arith, e))
  requests_wait WrongGuess k (suc (suc (suc (suc zero)))) hk hl ek el = clash (client_requests w WrongGuess v ends.client) k 4 4 ek el (λ e. omega (arith, e))
  requests_wait WrongGuess k (suc (suc (suc (suc (suc zero))))) hk hl ek el = clash (client_requests w WrongGuess v ends.client) k 4 5 ek el (λ e. omega (arith, e))
  requests_wait WrongGuess k (suc (suc (suc (suc (suc (suc i)))))) hk hl ek el = far WrongGuess k (suc (suc (suc (suc (suc (suc i)))))) i (omega (arith, hl, last_most v.how)) (omega arith) hk hl ek el

  pub requests_fit : (guess : Guess) → Fit (client_requests w guess v ends.client) (server_requests w guess v ends.server)
  requests_fit guess = record {
    client_receives_some = receives_some v.requests;
    server_receives_some = omega arith;
    client_reached = server_all guess;
    server_reached = client_all guess;
    no_wait = requests_wait guess;
  }
    where
      receives_some : (n : ℕ) → 0 < client_receives w n
      receives_some zero = omega arith
      receives_some (suc n) = omega arith

-- the two parts of every course fit
pub fits : (w : Wording) (guess : Guess) (way : Way) (ends : BothEnds) → Fit (client_part w guess way ends) (server_part w guess way ends)
fits w guess NoChoice ends = no_choice_fits w guess ends
fits w guess NoTrust ends = no_trust_fits w guess ends
fits w guess (Requests v) ends = requests_fit w v ends guess
