-- What the groups of a course come to, one after another.

use Rattle.std.proofs.Common.{◌≡◌, ℕ, zero, suc, ◌+◌, ◌<◌, ◌≤◌, true, false, List, [], ◌∷◌, ◌++◌, length, map, refl, sym, ap, ◌∙◌, arith, append_assoc, length-append, eq-eqb, append-nil}
use native.Mathlib.Decide.{dec_lt}
use Rattle.std.specs.Prelude.{nat_lt}
use Rattle.std.proofs.lemmas.List.{length-map}
use Rattle.std.proofs.lemmas.Bool.Decides.{nat_tests}
use Rattle.sshpacket.specs.Stream.{Units}
use Rattle.sshcore.specs.EndData.{EndData}
use Rattle.sshworld.specs.Guesses.{Guess, NoGuess, RightGuess, WrongGuess}
use Rattle.sshworld.specs.Verdicts.{How, Unknown, Success, Limit, Exhausted, Verdict}
use Rattle.sshworld.specs.Wording.{Wording}
use Rattle.sshworld.specs.Course.{answers_to, init_anew, client_requests, client_early, client_first, client_last, client_next, unanswered, group_at, guessed, received_last, server_requests, server_early, server_last, server_next}
use Rattle.sshworld.specs.Rounds.{units_sent}

-- all payloads of some groups
abbrev pub joined : List Units → Units
joined [] = []
joined (g ∷ groups) = g ++ joined groups

-- the first group apart
pub answers_first : (g : Units) (f : ℕ → Units) (h : ℕ → Units) (n : ℕ) → h 0 ≡ g → ((i : ℕ) → h (suc i) ≡ f i) → answers_to h (suc n) ≡ g ++ answers_to f n
answers_first g f h zero e s = ap (λ (q : Units). [] ++ q) e ∙ sym (append-nil g)
answers_first g f h (suc n) e s = ap (λ (q : Units). q ++ h (suc n)) (answers_first g f h n e s) ∙ (ap (λ (q : Units). (g ++ answers_to f n) ++ q) (s n) ∙ append_assoc g (answers_to f n) (f n))

-- the groups, and then what comes after them
pub groups_after : (groups : List Units) (f : ℕ → Units) (n : ℕ) → answers_to (group_at groups f) (length groups + n) ≡ joined groups ++ answers_to f n
groups_after [] f n = let e : 0 + n ≡ n = omega arith in ap (λ (k : ℕ). answers_to f k) e
groups_after (g ∷ groups) f n =
    let e : length (g ∷ groups) + n ≡ suc (length groups + n) = omega arith in
    ap (λ k. answers_to (group_at (g ∷ groups) f) k) e
    ∙ (answers_first g (group_at groups f) (group_at (g ∷ groups) f) (length groups + n) refl (λ i. refl)
    ∙ (ap (λ (q : Units). g ++ q) (groups_after groups f n) ∙ sym (append_assoc g (joined groups) (answers_to f n))))

-- the requests, and what answers them
pub lt_true : (i n : ℕ) → i < n → nat_lt i n ≡ true
lt_true i n h = grind (arith, nat_tests)

pub lt_false : (i n : ℕ) → n ≤ i → nat_lt i n ≡ false
lt_false i n h = grind (arith, nat_tests)

pub next_in : (w : Wording) (v : Verdict) (i : ℕ) → i < v.requests → client_next w v i ≡ w.request i ∷ []
next_in w v i h = rw (lt_true i v.requests h) refl

pub next_last : (w : Wording) (v : Verdict) (i : ℕ) → i ≡ v.requests → client_next w v i ≡ client_last w v.how
next_last w v i h = rw (lt_false i v.requests (omega arith), eq-eqb i v.requests h) refl

pub answer_in : (w : Wording) (v : Verdict) (i : ℕ) → i + 1 < v.requests → server_next w v i ≡ w.refusal i ∷ []
answer_in w v i h = rw (lt_true (i + 1) v.requests h) refl

pub answer_last : (w : Wording) (v : Verdict) (i : ℕ) → i + 1 ≡ v.requests → server_next w v i ≡ server_last w i v.how
answer_last w v i h = rw (lt_false (i + 1) v.requests (omega arith), eq-eqb (i + 1) v.requests h) refl

last_one : (w : Wording) (i : ℕ) (how : How) → length (server_last w i how) ≡ 1
last_one w i Unknown = refl
last_one w i (Success a) = refl
last_one w i Limit = refl
last_one w i Exhausted = refl

pub bye_one : (w : Wording) (how : How) → length (client_last w how) ≡ received_last how
bye_one w Unknown = refl
bye_one w (Success a) = refl
bye_one w Limit = refl
bye_one w Exhausted = refl

pub answer_one : (w : Wording) (v : Verdict) (i : ℕ) → i < v.requests → length (server_next w v i) ≡ 1
answer_one w v i h = elim (dec_lt (i + 1) v.requests) [
  | yes less ↦ ap length (answer_in w v i less)
  | no ge ↦ ap length (answer_last w v i (omega arith)) ∙ last_one w i v.how
]

pub answers_sent : (w : Wording) (v : Verdict) (n : ℕ) → n ≤ v.requests → length (answers_to (server_next w v) n) ≡ n
answers_sent w v zero h = refl
answers_sent w v (suc n) h = omega (arith, length-append (answers_to (server_next w v) n) (server_next w v n), answers_sent w v n (omega arith), answer_one w v n (omega arith))

pub requests_sent : (w : Wording) (v : Verdict) (n : ℕ) → n ≤ v.requests → length (answers_to (client_next w v) n) ≡ n
requests_sent w v zero h = refl
requests_sent w v (suc n) h = omega (arith, length-append (answers_to (client_next w v) n) (client_next w v n), requests_sent w v n (omega arith), ap length (next_in w v n (omega arith)))

pub all_sent : (w : Wording) (v : Verdict) → length (answers_to (client_next w v) (suc v.requests)) ≡ v.requests + received_last v.how
all_sent w v = omega (arith, length-append (answers_to (client_next w v) v.requests) (client_next w v v.requests), requests_sent w v v.requests (omega arith), ap length (next_last w v v.requests refl), bye_one w v.how)

-- what is sent up to the first request
pub silent : (texts : Units) → joined (map (λ (text : List ℕ). []) texts) ≡ []
silent [] = refl
silent (t ∷ texts) = silent texts

pub server_units : (w : Wording) (guess : Guess) (v : Verdict) (end : EndData) (i : ℕ) → i ≤ v.requests → units_sent (server_requests w guess v end) (5 + length (unanswered guess) + i) ≡ 5 + length w.banner + i
server_units w NoGuess v end i h =
    let e = ap length (groups_after (server_early w NoGuess) (server_next w v) i) in
    omega (arith, e, answers_sent w v i h, length-append (joined (server_early w NoGuess)) (answers_to (server_next w v) i), length-append w.banner [])
server_units w RightGuess v end i h =
    let e = ap length (groups_after (server_early w RightGuess) (server_next w v) i) in
    omega (arith, e, answers_sent w v i h, length-append (joined (server_early w RightGuess)) (answers_to (server_next w v) i), length-append w.banner [])
server_units w WrongGuess v end i h =
    let e = ap length (groups_after (server_early w WrongGuess) (server_next w v) i) in
    omega (arith, e, answers_sent w v i h, length-append (joined (server_early w WrongGuess)) (answers_to (server_next w v) i), length-append w.banner [])

requests_first : (w : Wording) (v : Verdict) (i : ℕ) → length (answers_to (client_next w v) (suc i)) ≡ length (client_next w v 0) + length (answers_to (λ j. client_next w v (j + 1)) i)
requests_first w v i =
    let e = answers_first (client_next w v 0) (λ j. client_next w v (j + 1)) (client_next w v) i refl (λ j. let one : suc j ≡ j + 1 = omega arith in ap (λ (k : ℕ). client_next w v k) one) in
    ap length e ∙ length-append (client_next w v 0) (answers_to (λ j. client_next w v (j + 1)) i)

pub early_length : (w : Wording) (guess : Guess) (v : Verdict) → length (client_early w guess v) ≡ 5 + length w.banner
early_length w guess v = omega (arith, length-map {B = Units} w.banner (λ (text : List ℕ). []))

pub early_sent : (w : Wording) (guess : Guess) (v : Verdict) → length (joined (client_early w guess v)) ≡ length (init_anew w guess) + 2 + length (client_next w v 0)
early_sent w guess v =
    let last : List (List ℕ) = joined (map (λ (text : List ℕ). []) w.banner) in
    let rest : List (List ℕ) = client_next w v 0 ++ last in
    omega (arith, length-append (init_anew w guess) (w.new_keys ∷ w.service_request ∷ rest), length-append (client_next w v 0) last, ap length (silent w.banner))

pub first_sent : (w : Wording) (guess : Guess) → length (guessed w guess) + length (init_anew w guess) ≡ 1 + length (unanswered guess)
first_sent w NoGuess = refl
first_sent w RightGuess = refl
first_sent w WrongGuess = refl

pub client_units : (w : Wording) (guess : Guess) (v : Verdict) (end : EndData) (i : ℕ) → units_sent (client_requests w guess v end) (5 + length w.banner + i) ≡ 5 + length (unanswered guess) + length (answers_to (client_next w v) (suc i))
client_units w guess v end i =
    let place : 5 + length w.banner + i ≡ length (client_early w guess v) + i = omega (arith, early_length w guess v) in
    let f : ℕ → Units = λ j. client_next w v (j + 1) in
    let e = ap (λ (n : ℕ). length (answers_to (group_at (client_early w guess v) f) n)) place ∙ ap length (groups_after (client_early w guess v) f i) in
    omega (
      arith,
      e,
      length-append (joined (client_early w guess v)) (answers_to f i),
      early_sent w guess v,
      first_sent w guess,
      requests_first w v i,
      length-append (client_first w guess) (answers_to (group_at (client_early w guess v) f) (5 + length w.banner + i)),
    )

pub last_most : (how : How) → received_last how ≤ 1
last_most Unknown = omega arith
last_most (Success a) = omega arith
last_most Limit = omega arith
last_most Exhausted = omega arith
