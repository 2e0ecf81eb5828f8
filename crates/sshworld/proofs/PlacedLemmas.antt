-- What each payload of the course finds where it is received.

use Rattle.std.proofs.Common.{◌≡◌, ℕ, ◌+◌, ◌==◌, ◌&&◌, Bool, true, false, not, if◌then◌else◌, List, [], ◌∷◌, ◌++◌, Result, Ok, Err, refl, sym, ap, ◌∙◌, subst}
use Rattle.std.proofs.lemmas.Bool.{true≢false}
use Rattle.sshwire.specs.declared.share_form.ShareForm.{ShareForm}
use Rattle.sshwire.specs.declared.share_form.ShareForm.TheVariants.{Hybrid, Mpint, OctetString}
use Rattle.sshmsg.specs.MessageData.{Disconnect, KexInit, KexInitData}
use Rattle.sshmsg.specs.Numbers.{message_number}
use Rattle.sshmsg.specs.Written.{written_message}
use Rattle.sshneg.specs.declared.choice.NoCommon.{NoCommon}
use Rattle.sshneg.specs.declared.side.Side.{Side}
use Rattle.sshneg.specs.declared.side.Side.TheVariants.{Client, Server}
use Rattle.sshneg.specs.ChoiceReadings.{choice}
use Rattle.sshneg.specs.Fields.{AlgorithmsData}
use Rattle.sshneg.specs.Strictness.{is_right_guess}
use Rattle.sshpacket.specs.Places.{EachPlace}
use Rattle.sshpacket.specs.Stream.{Units}
use Rattle.sshpacket.specs.Suite.{SuiteData}
use Rattle.sshcore.specs.declared.phase_table.Phase.{Phase}
use Rattle.sshcore.specs.declared.phase_table.Phase.TheVariants as phase
use Rattle.sshcore.specs.Before.{expects_guess, offered, stood}
use Rattle.sshcore.specs.ConfigParts.{ClientData, ServerData, client_offer, server_offer, version_of}
use Rattle.sshcore.specs.Counting.{switched_out}
use Rattle.sshcore.specs.EndData.{EndData}
use Rattle.sshcore.specs.Exchange.{chosen_or}
use Rattle.sshcore.specs.History.{IsReady}
use Rattle.sshcore.specs.KnownBefore.{Known}
use Rattle.sshcore.specs.EndpointParts.{ConfigData, DecisionsData, config_of_client, config_of_server, setup_with}
use Rattle.sshcore.specs.Phases.{leaving, past_exchange, past_kexinit}
use Rattle.sshcore.specs.Standing.{Sits}
use Rattle.sshcore.specs.Work.{guessed_method, init_for, reply_in}
use Rattle.sshcore.proofs.GuessLemmas.{no_guess}
use Rattle.sshcore.proofs.PhaseLemmas.{kept_free, offered_push, stood_push}
use Rattle.sshworld.specs.Agreement.{answer_of_server, host_key_of_server}
use Rattle.sshworld.specs.Course.{NoTrust, Requests, Way, client_part, guessed, init_anew, received_last, sent_after, server_next, server_no_trust, server_part, way_by}
use Rattle.sshworld.specs.Guesses.{Guess, NoGuess, RightGuess, WrongGuess, guess_by, guess_of}
use Rattle.sshworld.specs.Outcome.{BothEnds, case_of_choice, ends_of_case, outcome}
use Rattle.sshworld.specs.Placed.{BothInPlace, IsInPlace}
use Rattle.sshworld.specs.Compatible.{AreCompatible}
use Rattle.sshworld.specs.Verdicts.{verdict}
use Rattle.sshworld.specs.Wording.{Wording}
use Rattle.sshworld.specs.Wordings.{method_used, signature_of_server, wording_with}
use Rattle.sshworld.proofs.MessageLemmas.{client_exchanges, init_kind, server_drops, server_exchanges}
use Rattle.sshworld.proofs.PartLemmas.{from}
use Rattle.sshworld.proofs.Readable.{AreOffersRead, AreSound, IsRead}
use Rattle.sshworld.proofs.SentLemmas.{client_sends, server_sends}
use Rattle.sshworld.proofs.ServerFollows.{begun}

none_due : (role : Side) (own : ConfigData) → expects_guess role own.offer [] ≡ false
unfolding expects_guess offered
none_due role own = refl

not_switched_none : switched_out [] ≡ false
unfolding switched_out
not_switched_none = refl

not_switched_one : (x : List ℕ) → (message_number x == 21) ≡ false → switched_out (x ∷ []) ≡ false
unfolding switched_out
not_switched_one x e = rw e refl

not_switched_two : (x y : List ℕ) → (message_number x == 21) ≡ false → (message_number y == 21) ≡ false → switched_out (x ∷ y ∷ []) ≡ false
unfolding switched_out
not_switched_two x y e f = rw (e, f) refl

module _ (role : Side) (own : ConfigData) where
  free : (before : Units) (x : List ℕ) → expects_guess role own.offer before ≡ false → (switched_out before ≡ true → IsReady role own before) → IsInPlace role own before x
  free before x none r = record { switch = kept_free role own.offer before x 21 none; ready = r }

  other : (before : Units) (x : List ℕ) → (message_number x == 21) ≡ false → (switched_out before ≡ true → IsReady role own before) → IsInPlace role own before x
  other before x e r = record { switch = rw e refl; ready = r }

  -- after the exchange
  after_exchange : (before xs : Units) → offered before ≡ true → stood role own.offer (leaving role phase.Exchange) before ≡ true → expects_guess role own.offer before ≡ false → EachPlace (IsInPlace role own) before xs
  after_exchange before [] off on none = tt
  after_exchange before (x ∷ xs) off on none = (
    free before x none (λ _. record { offer = off; exchange = on }),
    after_exchange (before ++ x ∷ []) xs (offered_push before x ∙ rw off refl) (stood_push role own.offer before x (leaving role phase.Exchange) ∙ rw on refl) (no_guess role own.offer before x off),
  )

  sits_after : (m : SuiteData) (d : DecisionsData) (version : List ℕ) (before xs : Units) (p : Phase) (x : Known) → Sits (setup_with m d role own) version before p false x → past_exchange p ≡ true → past_kexinit p ≡ true → EachPlace (IsInPlace role own) before xs
  sits_after m d version before xs p x s past begun = after_exchange before xs (s.tied.offer ∙ begun) (s.tied.exchange ∙ past) s.due

never : {P : Type 0} (b : Bool) → b ≡ false → b ≡ true → P
never b e f = absurd (true≢false (sym f ∙ e))

module _ (role : Side) (own : ConfigData) where
  first : (k : List ℕ) → IsInPlace role own [] k
  first k = free role own [] k (none_due role own) (λ e. never (switched_out []) not_switched_none e)

  second : (k x : List ℕ) → (message_number k == 21) ≡ false → (message_number x == 21) ≡ false → IsInPlace role own (k ∷ []) x
  second k x e f = other role own (k ∷ []) x f (λ z. never (switched_out (k ∷ [])) (not_switched_one k e) z)

  third : (k x y : List ℕ) → (message_number k == 21) ≡ false → (message_number x == 21) ≡ false → (message_number y == 21) ≡ false → IsInPlace role own (k ∷ x ∷ []) y
  third k x y e f g = other role own (k ∷ x ∷ []) y g (λ z. never (switched_out (k ∷ x ∷ [])) (not_switched_two k x e f) z)

pub head : (offer : KexInitData) → (message_number (written_message (KexInit offer)) == 21) ≡ false
unfolding written_message
head offer = refl

pub bye : (reason : ℕ) → (message_number (written_message (Disconnect reason [] [])) == 21) ≡ false
unfolding written_message
bye reason = refl

reply_head : (f : ShareForm) (a b e : List ℕ) → (message_number (written_message (reply_in f a b e)) == 21) ≡ false
unfolding written_message
reply_head Mpint a b e = refl
reply_head OctetString a b e = refl
reply_head Hybrid a b e = refl

pub init_head : (m : SuiteData) (own : ConfigData) (kex : List ℕ) → (message_number (init_for m own kex) == 21) ≡ false
init_head m own kex = ap (λ (n : ℕ). n == 21) (init_kind m own kex)

module _ (m : SuiteData) (d : DecisionsData) (c : ClientData) (s : ServerData) (compatible : AreCompatible m d c s) (sound : AreSound c s) (offers : AreOffersRead c s) where
  module _ (a : AlgorithmsData) (chosen : choice m (client_offer c) (server_offer s) ≡ Ok a) (readable : IsRead m d c s a) where
    abbrev w : Wording
    w = wording_with m d c s a.kex a

    received_by_client : (tail : Units) → EachPlace (IsInPlace Client (config_of_client c)) [] (w.server_offer ∷ w.reply ∷ tail)
    received_by_client tail = (
      first Client (config_of_client c) w.server_offer,
      (
        second Client (config_of_client c) w.server_offer w.reply (head (server_offer s)) (reply_head (m.share_form a.kex) (host_key_of_server m s a.host_key) (answer_of_server m c s a.kex).share (signature_of_server m c s a)),
        sits_after Client (config_of_client c) m d (version_of s.side) (w.server_offer ∷ w.reply ∷ []) tail phase.NewKeys _ (client_exchanges m d c s compatible sound offers a chosen readable) refl refl,
      ),
    )

    received_by_server : (g r : Bool) → c.guess ≡ g → is_right_guess (client_offer c) (server_offer s) ≡ r → (tail : Units)
        → EachPlace (IsInPlace Server (config_of_server s)) [] (w.client_offer ∷ (guessed w (guess_by g r) ++ (init_anew w (guess_by g r) ++ tail)))
    received_by_server false r eg er tail =
        let b = begun m d c s compatible sound offers a chosen readable false (ap (λ (b : Bool). b && not (is_right_guess (client_offer c) (server_offer s))) eg) in (
          first Server (config_of_server s) w.client_offer,
          (
            second Server (config_of_server s) w.client_offer w.init (head (client_offer c)) (init_head m (config_of_client c) a.kex),
            sits_after Server (config_of_server s) m d (version_of c.side) (w.client_offer ∷ w.init ∷ []) tail phase.NewKeys _ (server_exchanges m d c s compatible sound offers a chosen readable (w.client_offer ∷ []) b) refl refl,
          ),
        )
    received_by_server true true eg er tail =
        let b = begun m d c s compatible sound offers a chosen readable false (ap (λ (b : Bool). b && not (is_right_guess (client_offer c) (server_offer s))) eg ∙ ap (λ (b : Bool). true && not b) er) in (
          first Server (config_of_server s) w.client_offer,
          (
            second Server (config_of_server s) w.client_offer w.init (head (client_offer c)) (init_head m (config_of_client c) a.kex),
            sits_after Server (config_of_server s) m d (version_of c.side) (w.client_offer ∷ w.init ∷ []) tail phase.NewKeys _ (server_exchanges m d c s compatible sound offers a chosen readable (w.client_offer ∷ []) b) refl refl,
          ),
        )
    received_by_server true false eg er tail =
        let b = begun m d c s compatible sound offers a chosen readable true (ap (λ (b : Bool). b && not (is_right_guess (client_offer c) (server_offer s))) eg ∙ ap (λ (b : Bool). true && not b) er) in
        let drop = server_drops m d c s compatible sound offers a chosen readable w.guess (init_kind m (config_of_client c) (guessed_method (config_of_client c))) (w.client_offer ∷ []) b in (
          first Server (config_of_server s) w.client_offer,
          (
            second Server (config_of_server s) w.client_offer w.guess (head (client_offer c)) (init_head m (config_of_client c) (guessed_method (config_of_client c))),
            (
              third Server (config_of_server s) w.client_offer w.guess w.init (head (client_offer c)) (init_head m (config_of_client c) (guessed_method (config_of_client c))) (init_head m (config_of_client c) a.kex),
              sits_after Server (config_of_server s) m d (version_of c.side) (w.client_offer ∷ w.guess ∷ w.init ∷ []) tail phase.NewKeys _ (server_exchanges m d c s compatible sound offers a chosen readable (w.client_offer ∷ w.guess ∷ []) drop.1) refl refl,
            ),
          ),
        )

  -- where nothing is common
  module _ (u : Wording) (offer : u.client_offer ≡ written_message (KexInit (client_offer c))) where
    none_by_server : (guess : Guess) → (message_number u.client_offer == 21) ≡ false → (message_number u.guess == 21) ≡ false → (message_number u.init == 21) ≡ false → (message_number (u.disconnect 3) == 21) ≡ false
        → EachPlace (IsInPlace Server (config_of_server s)) [] (u.client_offer ∷ (guessed u guess ++ u.disconnect 3 ∷ []))
    none_by_server NoGuess k g i e = (first Server (config_of_server s) u.client_offer, (second Server (config_of_server s) u.client_offer (u.disconnect 3) k e, tt))
    none_by_server RightGuess k g i e =
        (first Server (config_of_server s) u.client_offer, (second Server (config_of_server s) u.client_offer u.init k i, (third Server (config_of_server s) u.client_offer u.init (u.disconnect 3) k i e, tt)))
    none_by_server WrongGuess k g i e =
        (first Server (config_of_server s) u.client_offer, (second Server (config_of_server s) u.client_offer u.guess k g, (third Server (config_of_server s) u.client_offer u.guess (u.disconnect 3) k g e, tt)))

  -- by the choice
  record Placed (r : Result AlgorithmsData NoCommon) (way : Way) : Type 0 where
    client : (ends : BothEnds) → EachPlace (IsInPlace Client (config_of_client c)) [] (sent_after (server_part (wording_with m d c s (method_used c r) (chosen_or r)) (guess_of c s) way ends) (server_part (wording_with m d c s (method_used c r) (chosen_or r)) (guess_of c s) way ends).receives)
    server : (ends : BothEnds) → EachPlace (IsInPlace Server (config_of_server s)) [] (sent_after (client_part (wording_with m d c s (method_used c r) (chosen_or r)) (guess_of c s) way ends) (client_part (wording_with m d c s (method_used c r) (chosen_or r)) (guess_of c s) way ends).receives)

  pub refused_sent : (u : Wording) (guess : Guess) (end : EndData) → sent_after (server_no_trust u guess end) (server_no_trust u guess end).receives ≡ u.server_offer ∷ u.reply ∷ u.new_keys ∷ []
  refused_sent u NoGuess end = refl
  refused_sent u RightGuess end = refl
  refused_sent u WrongGuess end = refl

  module _ (readable : (a : AlgorithmsData) → choice m (client_offer c) (server_offer s) ≡ Ok a → IsRead m d c s a) where
    placed_trusted : (a : AlgorithmsData) → choice m (client_offer c) (server_offer s) ≡ Ok a → (b : Bool) → Placed (Ok a) (if b then Requests (verdict m d c s) else NoTrust)
    placed_trusted a chosen true = record {
      client = λ ends. subst (EachPlace (IsInPlace Client (config_of_client c)) []) (sym (server_sends (wording_with m d c s a.kex a) (verdict m d c s) ends.server (guess_of c s))) (received_by_client a chosen (readable a chosen) ((wording_with m d c s a.kex a).new_keys ∷ (wording_with m d c s a.kex a).service_accept ∷ ((wording_with m d c s a.kex a).banner ++ from (server_next (wording_with m d c s a.kex a) (verdict m d c s)) 0 ((verdict m d c s).requests + received_last (verdict m d c s).how))));
      server = λ ends. subst (EachPlace (IsInPlace Server (config_of_server s)) []) (sym (client_sends (wording_with m d c s a.kex a) (verdict m d c s) ends.client (guess_of c s)))
          (received_by_server a chosen (readable a chosen) c.guess (is_right_guess (client_offer c) (server_offer s)) refl refl _);
    }
    placed_trusted a chosen false = record {
      client = λ ends. subst (EachPlace (IsInPlace Client (config_of_client c)) []) (sym (refused_sent (wording_with m d c s a.kex a) (guess_of c s) ends.server)) (received_by_client a chosen (readable a chosen) ((wording_with m d c s a.kex a).new_keys ∷ []));
      server = λ ends. received_by_server a chosen (readable a chosen) c.guess (is_right_guess (client_offer c) (server_offer s)) refl refl _;
    }

    placed_with : (r : Result AlgorithmsData NoCommon) → choice m (client_offer c) (server_offer s) ≡ r → Placed r (way_by m d c s r)
    placed_with (Ok a) e = placed_trusted a e (d.host_key a.host_key (host_key_of_server m s a.host_key))
    placed_with (Err f) e = record {
      client = λ ends. (first Client (config_of_client c) _, (second Client (config_of_client c) _ _ (head (server_offer s)) (bye 3), tt));
      server = λ ends. none_by_server (wording_with m d c s (guessed_method (config_of_client c)) (chosen_or (Err f))) refl (guess_of c s) (head (client_offer c)) (init_head m (config_of_client c) (guessed_method (config_of_client c))) (init_head m (config_of_client c) (guessed_method (config_of_client c))) (bye 3);
    }

pub both_placed : (m : SuiteData) (d : DecisionsData) (c : ClientData) (s : ServerData) → AreCompatible m d c s → AreSound c s → AreOffersRead c s
    → ((a : AlgorithmsData) → choice m (client_offer c) (server_offer s) ≡ Ok a → IsRead m d c s a) → BothInPlace m d c s
unfolding outcome
both_placed m d c s compatible sound offers readable =
    let p = placed_with m d c s compatible sound offers readable (choice m (client_offer c) (server_offer s)) refl in
    record { received_by_client = p.client (ends_of_case (case_of_choice m d c s (choice m (client_offer c) (server_offer s)))); received_by_server = p.server (ends_of_case (case_of_choice m d c s (choice m (client_offer c) (server_offer s)))) }
