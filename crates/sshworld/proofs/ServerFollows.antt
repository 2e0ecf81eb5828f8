-- The server replies as its part of the course has it.

use Rattle.std.proofs.Common.{◌≡◌, ℕ, suc, ◌+◌, ◌&&◌, Bool, true, false, not, List, [], ◌∷◌, ◌++◌, length, length-append, append-nil, Ok, Err, refl, sym, ap, ◌∙◌, subst, arith}
use Rattle.sshneg.specs.declared.choice.NoCommon.{NoCommon}
use Rattle.sshneg.specs.declared.side.Side.TheVariants.{Server}
use Rattle.sshneg.specs.ChoiceReadings.{choice}
use Rattle.sshneg.specs.Fields.{AlgorithmsData}
use Rattle.sshneg.specs.Strictness.{is_right_guess}
use Rattle.sshpacket.specs.Places.{EachPlace}
use Rattle.sshpacket.specs.Stream.{Units}
use Rattle.sshpacket.specs.Suite.{SuiteData}
use Rattle.sshpacket.proofs.Places.{prefix-all}
use Rattle.sshcore.specs.declared.end.Fault.TheVariants as fault
use Rattle.sshcore.specs.declared.phase_table.Phase.{Phase}
use Rattle.sshcore.specs.declared.phase_table.Phase.TheVariants as phase
use Rattle.sshcore.specs.ConfigParts.{ClientData, ServerData, client_offer, server_offer, version_of}
use Rattle.sshcore.specs.EndData.{Closed, EndData, Failed, goes}
use Rattle.sshcore.specs.EndpointParts.{DecisionsData, config_of_client, config_of_server, server_setup}
use Rattle.sshcore.specs.CompletedMethods.{none_completed}
use Rattle.sshcore.specs.Standing.{Sits}
use Rattle.sshcore.specs.Work.{chosen_reply, guessed_method}
use Rattle.sshworld.specs.Agreement.{session_between}
use Rattle.sshworld.specs.Course.{Part, client_next, client_no_choice, client_no_trust, client_requests, group_at, guessed, init_anew, nothing, received_last, server_early, server_next, server_no_choice, server_no_trust, server_requests, unanswered}
use Rattle.sshworld.specs.Follows.{FollowsPart, IsAsPart, units_of}
use Rattle.sshworld.specs.Guesses.{Guess, NoGuess, RightGuess, WrongGuess, guess_by}
use Rattle.sshworld.specs.Outcome.{case_of_how, ends_of_case}
use Rattle.sshworld.specs.Compatible.{AreCompatible}
use Rattle.sshworld.specs.Verdicts.{How, Verdict, verdict}
use Rattle.sshworld.specs.Wording.{Wording}
use Rattle.sshworld.specs.Wordings.{wording_with}
use Rattle.sshworld.proofs.CountLemmas.{counted_offered}
use Rattle.sshworld.proofs.CourseLemmas.{all_sent, first_sent}
use Rattle.sshworld.proofs.JudgedLemmas.{some_received}
use Rattle.sshworld.proofs.MessageLemmas.{closed, init_kind, nine_read, server_accepts, server_answers, server_begins, server_drops, server_exchanges, server_first, server_unswitched, switched, switches}
use Rattle.sshworld.proofs.PartLemmas.{answers_from, as_last, as_open, at_each, from}
use Rattle.sshworld.proofs.Readable.{AreOffersRead, AreSound, IsRead}
use Rattle.sshworld.proofs.SentLemmas.{asks, client_sends}
use Rattle.sshworld.proofs.ServerRequests.{server_loop}

group_0 : (w : Wording) (guess : Guess) (f : ℕ → Units) → group_at (server_early w guess) f (2 + length (unanswered guess)) ≡ w.reply ∷ w.new_keys ∷ []
group_0 w NoGuess f = refl
group_0 w RightGuess f = refl
group_0 w WrongGuess f = refl

group_1 : (w : Wording) (guess : Guess) (f : ℕ → Units) → group_at (server_early w guess) f (3 + length (unanswered guess)) ≡ []
group_1 w NoGuess f = refl
group_1 w RightGuess f = refl
group_1 w WrongGuess f = refl

group_2 : (w : Wording) (guess : Guess) (f : ℕ → Units) → group_at (server_early w guess) f (4 + length (unanswered guess)) ≡ w.service_accept ∷ w.banner
group_2 w NoGuess f = refl
group_2 w RightGuess f = refl
group_2 w WrongGuess f = refl

distrusted_0 : (w : Wording) (guess : Guess) → group_at ([] ∷ [] ∷ unanswered guess ++ (w.reply ∷ w.new_keys ∷ []) ∷ []) nothing (2 + length (unanswered guess)) ≡ w.reply ∷ w.new_keys ∷ []
distrusted_0 w NoGuess = refl
distrusted_0 w RightGuess = refl
distrusted_0 w WrongGuess = refl

distrusted_1 : (w : Wording) (guess : Guess) → group_at ([] ∷ [] ∷ unanswered guess ++ (w.reply ∷ w.new_keys ∷ []) ∷ []) nothing (3 + length (unanswered guess)) ≡ []
distrusted_1 w NoGuess = refl
distrusted_1 w RightGuess = refl
distrusted_1 w WrongGuess = refl

module _ (m : SuiteData) (d : DecisionsData) (c : ClientData) (s : ServerData) (compatible : AreCompatible m d c s) (sound : AreSound c s) (offers : AreOffersRead c s) where
  -- a KEXINIT, whether anything is chosen or not
  server_chose : (a : AlgorithmsData) → choice m (client_offer c) (server_offer s) ≡ Ok a → chosen_reply m Server (config_of_server s) (client_offer c) (choice m (client_offer c) (server_offer s)) ≡ goes []
  server_chose a chosen = ap (λ r. chosen_reply m Server (config_of_server s) (client_offer c) r) chosen

  module _ (a : AlgorithmsData) (chosen : choice m (client_offer c) (server_offer s) ≡ Ok a) (readable : IsRead m d c s a) where
    abbrev pub w : Wording
    w = wording_with m d c s a.kex a

    abbrev pub v : Verdict
    v = verdict m d c s

    abbrev pub sits : Units → Phase → Bool → List ℕ → Type 0
    sits before q due session = Sits (server_setup m d s) (version_of c.side) before q due (server_unswitched m d c s compatible sound offers a chosen readable session 1 none_completed)

    pub begun : (b : Bool) → (c.guess && not (is_right_guess (client_offer c) (server_offer s))) ≡ b → sits (w.client_offer ∷ []) phase.Exchange b []
    begun b e = subst (λ (due : Bool). sits (w.client_offer ∷ []) phase.Exchange due []) e (server_begins m d c s compatible sound offers a chosen readable)

    -- where requests are made
    module _ (guess : Guess) (end : EndData) (final : (how : How) → (verdict m d c s).how ≡ how → end ≡ (ends_of_case (case_of_how m c s a how)).server) where
      abbrev p : Part
      p = server_requests w guess v end

      abbrev Q : Units → List ℕ → Type 0
      Q = IsAsPart (server_setup m d s) p

      asked_tail : (pre : Units) → sits pre phase.Exchange false [] → length pre ≡ 1 + length (unanswered guess)
          → EachPlace Q (version_of c.side ∷ pre) (w.init ∷ w.new_keys ∷ w.service_request ∷ from (client_next w v) 0 (suc v.requests))
      asked_tail pre here at =
          let one = server_exchanges m d c s compatible sound offers a chosen readable pre here in
          let two = switches (server_setup m d s) (version_of c.side) (pre ++ w.init ∷ []) _ one in
          let three = server_accepts m d c s compatible sound offers a chosen readable ((pre ++ w.init ∷ []) ++ w.new_keys ∷ []) (session_between m c s a) 1 none_completed two in
          let l1 = length-append pre (w.init ∷ []) in
          let l2 = length-append (pre ++ w.init ∷ []) (w.new_keys ∷ []) in
          let l3 = length-append ((pre ++ w.init ∷ []) ++ w.new_keys ∷ []) (w.service_request ∷ []) in
          let made = counted_offered m d c s in (
            as_open (server_setup m d s) p (version_of c.side ∷ pre) w.init (w.reply ∷ w.new_keys ∷ []) (server_answers m d c s compatible sound offers a chosen readable pre here)
                (ap (λ (n : ℕ). p.group n) (let e : suc (length pre) ≡ 2 + length (unanswered guess) = omega (arith, at) in e) ∙ group_0 w guess (server_next w v)) (omega (arith, at)),
            (
              as_open (server_setup m d s) p (version_of c.side ∷ (pre ++ w.init ∷ [])) w.new_keys [] (switched (server_setup m d s) (version_of c.side) (pre ++ w.init ∷ []) _ one)
                  (ap (λ (n : ℕ). p.group n) (let e : suc (length (pre ++ w.init ∷ [])) ≡ 3 + length (unanswered guess) = omega (arith, at, l1) in e) ∙ group_1 w guess (server_next w v)) (omega (arith, at, l1)),
              (
                as_open (server_setup m d s) p (version_of c.side ∷ ((pre ++ w.init ∷ []) ++ w.new_keys ∷ [])) w.service_request (w.service_accept ∷ w.banner) three.0
                    (ap (λ (n : ℕ). p.group n) (let e : suc (length ((pre ++ w.init ∷ []) ++ w.new_keys ∷ [])) ≡ 4 + length (unanswered guess) = omega (arith, at, l1, l2) in e) ∙ group_2 w guess (server_next w v)) (omega (arith, at, l1, l2, some_received v.how v.requests made.none_left)),
                server_loop m d c s compatible sound offers a chosen readable guess end final v.requests 0 (omega arith) made.most (((pre ++ w.init ∷ []) ++ w.new_keys ∷ []) ++ w.service_request ∷ []) three.1 (omega (arith, at, l1, l2, l3)),
              ),
            ),
          )

    asked_places : (end : EndData) → ((how : How) → (verdict m d c s).how ≡ how → end ≡ (ends_of_case (case_of_how m c s a how)).server) → (g r : Bool) → c.guess ≡ g → is_right_guess (client_offer c) (server_offer s) ≡ r
        → EachPlace (IsAsPart (server_setup m d s) (server_requests w (guess_by g r) v end)) [] (version_of c.side ∷ w.client_offer ∷ asks w v end (guess_by g r))
    asked_places end final false r eg er = (
      as_open (server_setup m d s) (server_requests w NoGuess v end) [] (version_of c.side) [] refl refl (omega arith),
      (
        as_open (server_setup m d s) (server_requests w NoGuess v end) (version_of c.side ∷ []) w.client_offer [] (server_first m d c s compatible sound offers ∙ server_chose a chosen) refl (omega arith),
        asked_tail NoGuess end final (w.client_offer ∷ []) (begun false (ap (λ (b : Bool). b && not (is_right_guess (client_offer c) (server_offer s))) eg)) refl,
      ),
    )
    asked_places end final true true eg er = (
      as_open (server_setup m d s) (server_requests w RightGuess v end) [] (version_of c.side) [] refl refl (omega arith),
      (
        as_open (server_setup m d s) (server_requests w RightGuess v end) (version_of c.side ∷ []) w.client_offer [] (server_first m d c s compatible sound offers ∙ server_chose a chosen) refl (omega arith),
        asked_tail RightGuess end final (w.client_offer ∷ []) (begun false (ap (λ (b : Bool). b && not (is_right_guess (client_offer c) (server_offer s))) eg ∙ ap (λ (b : Bool). true && not b) er)) refl,
      ),
    )
    asked_places end final true false eg er =
        let drop = server_drops m d c s compatible sound offers a chosen readable w.guess (init_kind m (config_of_client c) (guessed_method (config_of_client c))) (w.client_offer ∷ []) (begun true (ap (λ (b : Bool). b && not (is_right_guess (client_offer c) (server_offer s))) eg ∙ ap (λ (b : Bool). true && not b) er)) in (
          as_open (server_setup m d s) (server_requests w WrongGuess v end) [] (version_of c.side) [] refl refl (omega arith),
          (
            as_open (server_setup m d s) (server_requests w WrongGuess v end) (version_of c.side ∷ []) w.client_offer [] (server_first m d c s compatible sound offers ∙ server_chose a chosen) refl (omega arith),
            (
              as_open (server_setup m d s) (server_requests w WrongGuess v end) (version_of c.side ∷ w.client_offer ∷ []) w.guess [] drop.0 refl (omega arith),
              asked_tail WrongGuess end final (w.client_offer ∷ w.guess ∷ []) drop.1 refl,
            ),
          ),
        )

    asks_length : (end : EndData) (guess : Guess) → length (asks w v end guess) ≡ 3 + length (unanswered guess) + v.requests + received_last v.how
    asks_length end guess =
        let all = ap length (answers_from (client_next w v) (suc v.requests)) in
        omega (
          arith,
          all,
          all_sent w v,
          first_sent w guess,
          length-append (guessed w guess) (init_anew w guess ++ (w.new_keys ∷ w.service_request ∷ from (client_next w v) 0 (suc v.requests))),
          length-append (init_anew w guess) (w.new_keys ∷ w.service_request ∷ from (client_next w v) 0 (suc v.requests)),
        )

    pub server_asked_follows : (end client_end : EndData) → ((how : How) → (verdict m d c s).how ≡ how → end ≡ (ends_of_case (case_of_how m c s a how)).server)
        → FollowsPart (server_setup m d s) (server_requests w (guess_by c.guess (is_right_guess (client_offer c) (server_offer s))) v end)
        (units_of (config_of_client c) (client_requests w (guess_by c.guess (is_right_guess (client_offer c) (server_offer s))) v client_end))
    server_asked_follows end client_end final =
        let guess : Guess = guess_by c.guess (is_right_guess (client_offer c) (server_offer s)) in
        let received : Units = version_of c.side ∷ w.client_offer ∷ asks w v end (guess_by c.guess (is_right_guess (client_offer c) (server_offer s))) in
        record {
          making_is = refl;
          places = at_each (IsAsPart (server_setup m d s) (server_requests w (guess_by c.guess (is_right_guess (client_offer c) (server_offer s))) v end))
              (version_of c.side ∷ w.client_offer ∷ asks w v end (guess_by c.guess (is_right_guess (client_offer c) (server_offer s))))
              (units_of (config_of_client c) (client_requests w (guess_by c.guess (is_right_guess (client_offer c) (server_offer s))) v client_end)) _
              (omega (arith, asks_length end (guess_by c.guess (is_right_guess (client_offer c) (server_offer s)))))
              (record { rest = []; whole_is = ap (λ (l : Units). version_of c.side ∷ l) (client_sends w v client_end (guess_by c.guess (is_right_guess (client_offer c) (server_offer s)))) ∙ sym (append-nil (version_of c.side ∷ w.client_offer ∷ asks w v end (guess_by c.guess (is_right_guess (client_offer c) (server_offer s))))) })
              (asked_places end final c.guess (is_right_guess (client_offer c) (server_offer s)) refl refl);
        }

    -- where the host key is refused
    module _ (guess : Guess) (end : EndData) (final : end ≡ Closed 9) where
      abbrev refused_part : Part
      refused_part = server_no_trust w guess end

      refused_tail : (pre : Units) → sits pre phase.Exchange false [] → length pre ≡ 1 + length (unanswered guess)
          → EachPlace (IsAsPart (server_setup m d s) refused_part) (version_of c.side ∷ pre) (w.init ∷ w.disconnect 9 ∷ [])
      refused_tail pre here at =
          let one = server_exchanges m d c s compatible sound offers a chosen readable pre here in
          let l1 = length-append pre (w.init ∷ []) in (
            as_open (server_setup m d s) refused_part (version_of c.side ∷ pre) w.init (w.reply ∷ w.new_keys ∷ []) (server_answers m d c s compatible sound offers a chosen readable pre here)
                (ap (λ (n : ℕ). refused_part.group n) (let e : suc (length pre) ≡ 2 + length (unanswered guess) = omega (arith, at) in e) ∙ distrusted_0 w guess) (omega (arith, at)),
            (
              as_last (server_setup m d s) refused_part (version_of c.side ∷ (pre ++ w.init ∷ [])) (w.disconnect 9) [] (Closed 9)
                  (closed (server_setup m d s) (version_of c.side) (pre ++ w.init ∷ []) phase.NewKeys false _ 9 nine_read one)
                  (ap (λ (n : ℕ). refused_part.group n) (let e : suc (length (pre ++ w.init ∷ [])) ≡ 3 + length (unanswered guess) = omega (arith, at, l1) in e) ∙ distrusted_1 w guess)
                  (omega (arith, at, l1)) final,
              tt,
            ),
          )

    refused_places : (end : EndData) → end ≡ Closed 9 → (g r : Bool) → c.guess ≡ g → is_right_guess (client_offer c) (server_offer s) ≡ r
        → EachPlace (IsAsPart (server_setup m d s) (server_no_trust w (guess_by g r) end)) [] (version_of c.side ∷ w.client_offer ∷ (guessed w (guess_by g r) ++ (init_anew w (guess_by g r) ++ w.disconnect 9 ∷ [])))
    refused_places end final false r eg er = (
      as_open (server_setup m d s) (server_no_trust w NoGuess end) [] (version_of c.side) [] refl refl (omega arith),
      (
        as_open (server_setup m d s) (server_no_trust w NoGuess end) (version_of c.side ∷ []) w.client_offer [] (server_first m d c s compatible sound offers ∙ server_chose a chosen) refl (omega arith),
        refused_tail NoGuess end final (w.client_offer ∷ []) (begun false (ap (λ (b : Bool). b && not (is_right_guess (client_offer c) (server_offer s))) eg)) refl,
      ),
    )
    refused_places end final true true eg er = (
      as_open (server_setup m d s) (server_no_trust w RightGuess end) [] (version_of c.side) [] refl refl (omega arith),
      (
        as_open (server_setup m d s) (server_no_trust w RightGuess end) (version_of c.side ∷ []) w.client_offer [] (server_first m d c s compatible sound offers ∙ server_chose a chosen) refl (omega arith),
        refused_tail RightGuess end final (w.client_offer ∷ []) (begun false (ap (λ (b : Bool). b && not (is_right_guess (client_offer c) (server_offer s))) eg ∙ ap (λ (b : Bool). true && not b) er)) refl,
      ),
    )
    refused_places end final true false eg er =
        let drop = server_drops m d c s compatible sound offers a chosen readable w.guess (init_kind m (config_of_client c) (guessed_method (config_of_client c))) (w.client_offer ∷ []) (begun true (ap (λ (b : Bool). b && not (is_right_guess (client_offer c) (server_offer s))) eg ∙ ap (λ (b : Bool). true && not b) er)) in (
          as_open (server_setup m d s) (server_no_trust w WrongGuess end) [] (version_of c.side) [] refl refl (omega arith),
          (
            as_open (server_setup m d s) (server_no_trust w WrongGuess end) (version_of c.side ∷ []) w.client_offer [] (server_first m d c s compatible sound offers ∙ server_chose a chosen) refl (omega arith),
            (
              as_open (server_setup m d s) (server_no_trust w WrongGuess end) (version_of c.side ∷ w.client_offer ∷ []) w.guess [] drop.0 refl (omega arith),
              refused_tail WrongGuess end final (w.client_offer ∷ w.guess ∷ []) drop.1 refl,
            ),
          ),
        )

    pub server_refused_follows : (end client_end : EndData) → end ≡ Closed 9
        → FollowsPart (server_setup m d s) (server_no_trust w (guess_by c.guess (is_right_guess (client_offer c) (server_offer s))) end)
        (units_of (config_of_client c) (client_no_trust w (guess_by c.guess (is_right_guess (client_offer c) (server_offer s))) client_end))
    server_refused_follows end client_end final =
        let guess : Guess = guess_by c.guess (is_right_guess (client_offer c) (server_offer s)) in
        record {
          making_is = refl;
          places = at_each (IsAsPart (server_setup m d s) (server_no_trust w guess end))
              (units_of (config_of_client c) (client_no_trust w guess client_end)) (units_of (config_of_client c) (client_no_trust w guess client_end)) _
              (omega (arith, first_sent w guess, length-append (guessed w guess) (init_anew w guess ++ w.disconnect 9 ∷ []), length-append (init_anew w guess) (w.disconnect 9 ∷ [])))
              (prefix-all (units_of (config_of_client c) (client_no_trust w guess client_end)))
              (refused_places end final c.guess (is_right_guess (client_offer c) (server_offer s)) refl refl);
        }

  -- where nothing is common
  pub server_without_follows : (kex : List ℕ) (b : AlgorithmsData) (f : NoCommon) (guess : Guess) (end client_end : EndData) → choice m (client_offer c) (server_offer s) ≡ Err f → end ≡ Failed (fault.NoCommon f)
      → FollowsPart (server_setup m d s) (server_no_choice (wording_with m d c s kex b) end) (units_of (config_of_client c) (client_no_choice (wording_with m d c s kex b) guess client_end))
  server_without_follows kex b f guess end client_end chosen final =
      let u : Wording = wording_with m d c s kex b in
      record {
        making_is = refl;
        places = at_each (IsAsPart (server_setup m d s) (server_no_choice u end)) (version_of c.side ∷ u.client_offer ∷ []) (units_of (config_of_client c) (client_no_choice u guess client_end)) 2
            refl (record { rest = guessed u guess ++ u.disconnect 3 ∷ []; whole_is = refl }) (
              as_open (server_setup m d s) (server_no_choice u end) [] (version_of c.side) [] refl refl (omega arith),
              (
                as_last (server_setup m d s) (server_no_choice u end) (version_of c.side ∷ []) u.client_offer (u.disconnect 3 ∷ []) (Failed (fault.NoCommon f))
                    (server_first m d c s compatible sound offers ∙ ap (λ r. chosen_reply m Server (config_of_server s) (client_offer c) r) chosen) refl refl final,
                tt,
              ),
            );
      }
