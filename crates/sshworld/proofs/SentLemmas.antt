-- What each side sends in the course, as a list.

use Rattle.std.proofs.Common.{◌≡◌, ℕ, zero, suc, ◌+◌, List, [], ◌∷◌, ◌++◌, length, map, refl, sym, ap, ◌∙◌, arith, append_assoc, append-nil}
use Rattle.sshpacket.specs.Stream.{Units}
use Rattle.sshcore.specs.EndData.{EndData}
use Rattle.sshworld.specs.Course.{answers_to, client_early, client_next, client_receives, client_requests, group_at, guessed, init_anew, received_last, sent_after, server_early, server_next, server_requests}
use Rattle.sshworld.specs.Guesses.{Guess, NoGuess, RightGuess, WrongGuess}
use Rattle.sshworld.specs.Verdicts.{Verdict}
use Rattle.sshworld.specs.Wording.{Wording}
use Rattle.sshworld.proofs.CourseLemmas.{answers_first, early_length, groups_after, joined, silent}
use Rattle.sshworld.proofs.PartLemmas.{answers_from, from}

module _ (w : Wording) (v : Verdict) (end : EndData) where
  pub server_sends : (guess : Guess) → sent_after (server_requests w guess v end) (server_requests w guess v end).receives
      ≡ w.server_offer ∷ w.reply ∷ w.new_keys ∷ w.service_accept ∷ (w.banner ++ from (server_next w v) 0 (v.requests + received_last v.how))
  server_sends guess = by guess
    where
      all : ℕ
      all = v.requests + received_last v.how

      to : (n k : ℕ) → n ≡ k → answers_to (group_at (server_early w guess) (server_next w v)) n ≡ answers_to (group_at (server_early w guess) (server_next w v)) k
      to n k e = ap (λ (i : ℕ). answers_to (group_at (server_early w guess) (server_next w v)) i) e

      tail : w.service_accept ∷ ((w.banner ++ []) ++ answers_to (server_next w v) (v.requests + received_last v.how)) ≡ w.service_accept ∷ (w.banner ++ from (server_next w v) 0 (v.requests + received_last v.how))
      tail = ap (λ (b : Units). w.service_accept ∷ (b ++ answers_to (server_next w v) (v.requests + received_last v.how))) (append-nil w.banner)
          ∙ ap (λ (b : Units). w.service_accept ∷ (w.banner ++ b)) (answers_from (server_next w v) (v.requests + received_last v.how))

      by : (guess : Guess) → sent_after (server_requests w guess v end) (server_requests w guess v end).receives
          ≡ w.server_offer ∷ w.reply ∷ w.new_keys ∷ w.service_accept ∷ (w.banner ++ from (server_next w v) 0 (v.requests + received_last v.how))
      by NoGuess = ap (λ (n : ℕ). w.server_offer ∷ answers_to (group_at (server_early w NoGuess) (server_next w v)) n) (let e : 5 + 0 + v.requests + received_last v.how ≡ 5 + (v.requests + received_last v.how) = omega arith in e)
          ∙ ap (λ (b : Units). w.server_offer ∷ b) (groups_after (server_early w NoGuess) (server_next w v) (v.requests + received_last v.how)) ∙ ap (λ (b : Units). w.server_offer ∷ w.reply ∷ w.new_keys ∷ b) tail
      by RightGuess = ap (λ (n : ℕ). w.server_offer ∷ answers_to (group_at (server_early w RightGuess) (server_next w v)) n) (let e : 5 + 0 + v.requests + received_last v.how ≡ 5 + (v.requests + received_last v.how) = omega arith in e)
          ∙ ap (λ (b : Units). w.server_offer ∷ b) (groups_after (server_early w RightGuess) (server_next w v) (v.requests + received_last v.how)) ∙ ap (λ (b : Units). w.server_offer ∷ w.reply ∷ w.new_keys ∷ b) tail
      by WrongGuess = ap (λ (n : ℕ). w.server_offer ∷ answers_to (group_at (server_early w WrongGuess) (server_next w v)) n) (let e : 5 + 1 + v.requests + received_last v.how ≡ 6 + (v.requests + received_last v.how) = omega arith in e)
          ∙ ap (λ (b : Units). w.server_offer ∷ b) (groups_after (server_early w WrongGuess) (server_next w v) (v.requests + received_last v.how)) ∙ ap (λ (b : Units). w.server_offer ∷ w.reply ∷ w.new_keys ∷ b) tail

  -- all that a client sends after its KEXINIT
  abbrev pub asks : Guess → Units
  asks guess = guessed w guess ++ (init_anew w guess ++ (w.new_keys ∷ w.service_request ∷ from (client_next w v) 0 (suc v.requests)))

  pub client_sends : (guess : Guess) → sent_after (client_requests w guess v end) (client_requests w guess v end).receives ≡ w.client_offer ∷ asks guess
  client_sends guess = by v.requests refl
    where
      f : ℕ → Units
      f i = client_next w v (i + 1)

      nothing_more : (g : Guess) → (((([] ++ []) ++ init_anew w g) ++ (w.new_keys ∷ w.service_request ∷ [])) ++ []) ++ client_next w v 0 ≡ init_anew w g ++ (w.new_keys ∷ w.service_request ∷ client_next w v 0)
      nothing_more NoGuess = refl
      nothing_more RightGuess = refl
      nothing_more WrongGuess = refl

      by : (n : ℕ) → n ≡ v.requests → (w.client_offer ∷ guessed w guess) ++ answers_to (group_at (client_early w guess v) (λ i. client_next w v (i + 1))) (client_receives w n) ≡ w.client_offer ∷ asks guess
      by zero e =
          ap (λ (b : Units). w.client_offer ∷ (guessed w guess ++ b)) (nothing_more guess)
          ∙ ap (λ (b : Units). w.client_offer ∷ (guessed w guess ++ (init_anew w guess ++ (w.new_keys ∷ w.service_request ∷ b)))) (sym (append-nil (client_next w v 0)))
          ∙ ap (λ (n : ℕ). w.client_offer ∷ (guessed w guess ++ (init_anew w guess ++ (w.new_keys ∷ w.service_request ∷ from (client_next w v) 0 (suc n))))) e
      by (suc n) e =
          let place : client_receives w (suc n) ≡ length (client_early w guess v) + suc n = omega (arith, early_length w guess v) in
          let early = ap (λ (k : ℕ). answers_to (group_at (client_early w guess v) (λ i. client_next w v (i + 1))) k) place ∙ groups_after (client_early w guess v) (λ i. client_next w v (i + 1)) (suc n) in
          ap (λ (b : Units). w.client_offer ∷ (guessed w guess ++ b)) early
          ∙ ap (λ (b : Units). w.client_offer ∷ (guessed w guess ++ b)) (append_assoc (init_anew w guess) (w.new_keys ∷ w.service_request ∷ (client_next w v 0 ++ joined (map (λ (text : List ℕ). []) w.banner))) (answers_to (λ i. client_next w v (i + 1)) (suc n)))
          ∙ ap (λ (b : Units). w.client_offer ∷ (guessed w guess ++ (init_anew w guess ++ (w.new_keys ∷ w.service_request ∷ ((client_next w v 0 ++ b) ++ answers_to (λ i. client_next w v (i + 1)) (suc n)))))) (silent w.banner)
          ∙ ap (λ (b : Units). w.client_offer ∷ (guessed w guess ++ (init_anew w guess ++ (w.new_keys ∷ w.service_request ∷ (b ++ answers_to (λ i. client_next w v (i + 1)) (suc n)))))) (append-nil (client_next w v 0))
          ∙ ap (λ (b : Units). w.client_offer ∷ (guessed w guess ++ (init_anew w guess ++ (w.new_keys ∷ w.service_request ∷ b))))
          (sym (answers_first (client_next w v 0) (λ i. client_next w v (i + 1)) (client_next w v) (suc n) refl (λ i. ap (λ (k : ℕ). client_next w v k) (let one : suc i ≡ i + 1 = omega arith in one)))
          ∙ answers_from (client_next w v) (suc (suc n)) ∙ ap (λ (k : ℕ). from (client_next w v) 0 (suc k)) e)
