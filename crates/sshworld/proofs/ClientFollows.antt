-- The client replies as its part of the course has it.

use Rattle.std.proofs.Common.{◌≡◌, ℕ, zero, suc, ◌+◌, ◌<◌, ◌≤◌, ◌&&◌, Bool, true, false, cond, List, [], ◌∷◌, ◌++◌, append_assoc, length, length-append, Option, None, Some, Ok, Err, refl, sym, ap, ◌∙◌, arith}
use Rattle.sshmsg.specs.MessageData.{UserauthBanner}
use Rattle.sshmsg.specs.Written.{written_message}
use Rattle.sshneg.specs.declared.choice.NoCommon.{NoCommon}
use Rattle.sshneg.specs.declared.side.Side.TheVariants.{Client}
use Rattle.sshneg.specs.ChoiceReadings.{choice}
use Rattle.sshneg.specs.Fields.{AlgorithmsData}
use Rattle.sshneg.specs.Strictness.{is_right_guess}
use Rattle.sshpacket.specs.Places.{EachPlace, IsPrefix}
use Rattle.sshpacket.specs.Stream.{Units}
use Rattle.sshpacket.specs.Suite.{SuiteData}
use Rattle.sshcore.specs.declared.end.Fault.TheVariants as fault
use Rattle.sshcore.specs.declared.phase_table.Phase.TheVariants as phase
use Rattle.sshcore.proofs.StepLemmas.{attempt_reply}
use Rattle.sshcore.specs.ConfigParts.{AttemptData, ClientData, ServerData, client_offer, server_offer, version_of}
use Rattle.sshcore.specs.EndData.{EndData, Failed, goes}
use Rattle.sshcore.specs.EndpointParts.{DecisionsData, client_setup, config_of_client, config_of_server}
use Rattle.sshcore.specs.Standing.{Sits}
use Rattle.sshcore.specs.Work.{banner_by, chosen_reply, guessed_method, init_for, making}
use Rattle.sshworld.specs.Agreement.{host_key_of_server, session_between}
use Rattle.sshworld.specs.Course.{Part, client_early, client_last, client_next, client_no_choice, client_no_trust, client_receives, client_requests, group_at, guessed, init_anew, received_last, server_next, server_no_choice, server_no_trust, server_requests}
use Rattle.sshworld.specs.Follows.{FollowsPart, IsAsPart, units_of}
use Rattle.sshworld.specs.Guesses.{Guess, NoGuess, RightGuess, WrongGuess, guess_by}
use Rattle.sshworld.specs.Held.{held_request}
use Rattle.sshworld.specs.Offered.{offered}
use Rattle.sshworld.specs.Outcome.{case_of_how, ends_of_case}
use Rattle.sshworld.specs.Compatible.{AreCompatible}
use Rattle.sshworld.specs.Verdicts.{Exhausted, How, Verdict, verdict}
use Rattle.sshworld.specs.Wording.{Wording}
use Rattle.sshworld.specs.Wordings.{request_or, wording_with}
use Rattle.sshworld.proofs.ClientRequests.{client_loop, held_at, receives_many}
use Rattle.sshworld.proofs.CountLemmas.{counted_offered}
use Rattle.sshworld.proofs.CourseLemmas.{answers_sent, next_in, next_last}
use Rattle.sshworld.proofs.HeldLemmas.{attempt_held}
use Rattle.sshworld.proofs.JudgedLemmas.{get_in}
use Rattle.sshworld.proofs.MessageLemmas.{client_accepted, client_exchanges, client_first, client_greeted, client_refuses, client_trusts, client_view, switched, switches}
use Rattle.sshworld.proofs.OfferedLemmas.{IsLeft, left_none, left_some, offered_is}
use Rattle.sshworld.proofs.PartLemmas.{answers_from, answers_split, as_last, as_open, at_each, from}
use Rattle.sshworld.proofs.Readable.{AreOffersRead, AreSound, IsRead}
use Rattle.sshworld.proofs.SentLemmas.{server_sends}

pub receives_some : (w : Wording) (n : ℕ) → 5 ≤ client_receives w n
receives_some w zero = omega arith
receives_some w (suc n) = omega arith

asked_same : (w : Wording) (g r : Bool) → cond (g && r) [] (w.init ∷ []) ≡ init_anew w (guess_by g r)
asked_same w false r = refl
asked_same w true true = refl
asked_same w true false = refl

module _ (m : SuiteData) (d : DecisionsData) (c : ClientData) (s : ServerData) (compatible : AreCompatible m d c s) (sound : AreSound c s) (offers : AreOffersRead c s) where
  -- KEXINIT, and the guess
  pub makes : (kex : List ℕ) (b : AlgorithmsData) (g r : Bool) → (r ≡ true → kex ≡ guessed_method (config_of_client c))
      → cond g (init_for m (config_of_client c) (guessed_method (config_of_client c)) ∷ []) [] ≡ guessed (wording_with m d c s kex b) (guess_by g r)
  makes kex b false r e = refl
  makes kex b true true e = ap (λ (k : List ℕ). init_for m (config_of_client c) k ∷ []) (sym (e refl))
  makes kex b true false e = refl

  pub making_is : (kex : List ℕ) (b : AlgorithmsData) → (is_right_guess (client_offer c) (server_offer s) ≡ true → kex ≡ guessed_method (config_of_client c))
      → making m Client (config_of_client c) ≡ (wording_with m d c s kex b).client_offer ∷ guessed (wording_with m d c s kex b) (guess_by c.guess (is_right_guess (client_offer c) (server_offer s)))
  making_is kex b e = ap (λ (l : Units). (wording_with m d c s kex b).client_offer ∷ l) (makes kex b c.guess (is_right_guess (client_offer c) (server_offer s)) e)

  -- where nothing is common
  pub client_without_follows : (kex : List ℕ) (b : AlgorithmsData) (f : NoCommon) (end server_end : EndData) → (is_right_guess (client_offer c) (server_offer s) ≡ true → kex ≡ guessed_method (config_of_client c))
      → choice m (client_offer c) (server_offer s) ≡ Err f → end ≡ Failed (fault.NoCommon f)
      → FollowsPart (client_setup m d c) (client_no_choice (wording_with m d c s kex b) (guess_by c.guess (is_right_guess (client_offer c) (server_offer s))) end)
      (units_of (config_of_server s) (server_no_choice (wording_with m d c s kex b) server_end))
  client_without_follows kex b f end server_end right chosen final =
      let u : Wording = wording_with m d c s kex b in
      let guess : Guess = guess_by c.guess (is_right_guess (client_offer c) (server_offer s)) in
      record {
        making_is = making_is kex b right;
        places = at_each (IsAsPart (client_setup m d c) (client_no_choice u guess end)) (version_of s.side ∷ u.server_offer ∷ []) (units_of (config_of_server s) (server_no_choice u server_end)) 2
            refl (record { rest = u.disconnect 3 ∷ []; whole_is = refl }) (
              as_open (client_setup m d c) (client_no_choice u guess end) [] (version_of s.side) [] refl refl (omega arith),
              (
                as_last (client_setup m d c) (client_no_choice u guess end) (version_of s.side ∷ []) u.server_offer (u.disconnect 3 ∷ []) (Failed (fault.NoCommon f))
                    (client_first m d c s compatible sound offers ∙ ap (λ r. chosen_reply m Client (config_of_client c) (server_offer s) r) chosen) refl refl final,
                tt,
              ),
            );
      }

  module _ (a : AlgorithmsData) (chosen : choice m (client_offer c) (server_offer s) ≡ Ok a) (readable : IsRead m d c s a) (right : is_right_guess (client_offer c) (server_offer s) ≡ true → a.kex ≡ guessed_method (config_of_client c)) where
    abbrev w : Wording
    w = wording_with m d c s a.kex a

    abbrev v : Verdict
    v = verdict m d c s

    abbrev guess : Guess
    guess = guess_by c.guess (is_right_guess (client_offer c) (server_offer s))

    opens : chosen_reply m Client (config_of_client c) (server_offer s) (choice m (client_offer c) (server_offer s)) ≡ goes (init_anew w guess)
    opens = ap (λ r. chosen_reply m Client (config_of_client c) (server_offer s) r) chosen ∙ ap goes (asked_same w c.guess (is_right_guess (client_offer c) (server_offer s)))

    -- where the host key is refused
    pub client_refused_follows : (end server_end : EndData) → d.host_key a.host_key (host_key_of_server m s a.host_key) ≡ false → end ≡ Failed fault.HostKey
        → FollowsPart (client_setup m d c) (client_no_trust w guess end) (units_of (config_of_server s) (server_no_trust w guess server_end))
    client_refused_follows end server_end refused final = record {
      making_is = making_is a.kex a right;
      places = at_each (IsAsPart (client_setup m d c) (client_no_trust w guess end)) (version_of s.side ∷ w.server_offer ∷ w.reply ∷ []) (units_of (config_of_server s) (server_no_trust w guess server_end)) 3
          refl (front guess) (
            as_open (client_setup m d c) (client_no_trust w guess end) [] (version_of s.side) [] refl refl (omega arith),
            (
              as_open (client_setup m d c) (client_no_trust w guess end) (version_of s.side ∷ []) w.server_offer (init_anew w guess) (client_first m d c s compatible sound offers ∙ opens) refl (omega arith),
              (
                as_last (client_setup m d c) (client_no_trust w guess end) (version_of s.side ∷ w.server_offer ∷ []) w.reply (w.disconnect 9 ∷ []) (Failed fault.HostKey)
                    (client_refuses m d c s compatible sound offers a chosen readable refused) refl refl final,
                tt,
              ),
            ),
          );
    }
      where
        front : (g : Guess) → IsPrefix (version_of s.side ∷ w.server_offer ∷ w.reply ∷ []) (units_of (config_of_server s) (server_no_trust w g server_end))
        front NoGuess = record { rest = w.new_keys ∷ []; whole_is = refl }
        front RightGuess = record { rest = w.new_keys ∷ []; whole_is = refl }
        front WrongGuess = record { rest = w.new_keys ∷ []; whole_is = refl }

    -- where requests are made
    module _ (trusted : d.host_key a.host_key (host_key_of_server m s a.host_key) ≡ true) (end : EndData) (final : (how : How) → (verdict m d c s).how ≡ how → end ≡ (ends_of_case (case_of_how m c s a how)).client) where
      abbrev p : Part
      p = client_requests w guess v end

      abbrev Q : Units → List ℕ → Type 0
      Q = IsAsPart (client_setup m d c) p

      abbrev pre : Units
      pre = w.server_offer ∷ w.reply ∷ w.new_keys ∷ []

      switched_view : Sits (client_setup m d c) (version_of s.side) pre phase.Service false (client_view m d c s compatible sound offers a chosen readable (session_between m c s a) c.plan)
      switched_view = switches (client_setup m d c) (version_of s.side) (w.server_offer ∷ w.reply ∷ []) _ (client_exchanges m d c s compatible sound offers a chosen readable)

      -- up to NEWKEYS
      early : (rest : Units) → EachPlace Q (version_of s.side ∷ pre) rest → EachPlace Q [] (version_of s.side ∷ w.server_offer ∷ w.reply ∷ w.new_keys ∷ rest)
      early rest later =
          let five = receives_some w v.requests in (
            as_open (client_setup m d c) p [] (version_of s.side) [] refl refl (omega (arith, five)),
            (
              as_open (client_setup m d c) p (version_of s.side ∷ []) w.server_offer (init_anew w guess) (client_first m d c s compatible sound offers ∙ opens) refl (omega (arith, five)),
              (
                as_open (client_setup m d c) p (version_of s.side ∷ w.server_offer ∷ []) w.reply (w.new_keys ∷ w.service_request ∷ []) (client_trusts m d c s compatible sound offers a chosen readable trusted) refl (omega (arith, five)),
                (
                  as_open (client_setup m d c) p (version_of s.side ∷ w.server_offer ∷ w.reply ∷ []) w.new_keys []
                      (switched (client_setup m d c) (version_of s.side) (w.server_offer ∷ w.reply ∷ []) _ (client_exchanges m d c s compatible sound offers a chosen readable)) refl (omega (arith, five)),
                  later,
                ),
              ),
            ),
          )

      rest_is : IsLeft m d s (offered m d s c.plan) c.plan 0
      rest_is = offered_is m d s c.plan

      -- SERVICE_ACCEPT where no request is left
      none_places : v.requests ≡ 0 → EachPlace Q (version_of s.side ∷ pre) (w.service_accept ∷ [])
      none_places none =
          let made = counted_offered m d c s in
          let empty : c.plan ≡ [] = left_none m d s (offered m d s c.plan) c.plan 0 rest_is (omega (arith, made.none_offered none)) in (
            as_last (client_setup m d c) p (version_of s.side ∷ pre) w.service_accept (w.disconnect 14 ∷ []) (Failed fault.NoMoreMethods)
                ((client_accepted m d c s compatible sound offers a chosen readable pre (session_between m c s a) c.plan switched_view).0 ∙ ap (λ (l : List AttemptData). attempt_reply m d (session_between m c s a) l) empty)
                (next_last w v 0 (sym none) ∙ ap (λ h. client_last w h) (made.none_left none)) (ap (λ (n : ℕ). client_receives w n) (sym none)) (final Exhausted (made.none_left none)),
            tt,
          )

      -- and where one is
      some_places : 0 < v.requests → EachPlace Q (version_of s.side ∷ pre) (w.service_accept ∷ (w.banner ++ from (server_next w v) 0 v.requests))
      some_places more =
          let made = counted_offered m d c s in
          let x = get_in (offered m d s c.plan) 0 (omega (arith, more, made.most)) in
          let l = left_some m d s (offered m d s c.plan) c.plan 0 x.0 rest_is x.1 in
          let one : client_next w v 0 ≡ held_request m (session_between m c s a) x.0 ∷ [] = next_in w v 0 more ∙ ap (λ (o : Option AttemptData). request_or m (session_between m c s a) o ∷ []) x.1 in
          let n = receives_many w v.requests more in
          let accepted = client_accepted m d c s compatible sound offers a chosen readable pre (session_between m c s a) c.plan switched_view in (
            as_open (client_setup m d c) p (version_of s.side ∷ pre) w.service_accept (held_request m (session_between m c s a) x.0 ∷ [])
                (accepted.0 ∙ attempt_held m d (session_between m c s a) c.plan x.0 l.0 l.1 (held_at m d c s compatible 0 x.0 x.1)) one (omega (arith, more, n)),
            greeted s.banner refl made.most more accepted.1,
          )
        where
          greeted : (b : Option (List ℕ)) → s.banner ≡ b → v.requests ≤ length (offered m d s c.plan) → 0 < v.requests
              → Sits (client_setup m d c) (version_of s.side) (pre ++ w.service_accept ∷ []) phase.Auth false (client_view m d c s compatible sound offers a chosen readable (session_between m c s a) c.plan)
              → EachPlace Q (version_of s.side ∷ (pre ++ w.service_accept ∷ [])) (banner_by b ++ from (server_next w v) 0 v.requests)
          greeted None has most more here =
              let none : length w.banner ≡ 0 = ap (λ t. length (banner_by t)) has in
              client_loop m d c s compatible sound offers a chosen readable guess end final v.requests 0 (omega arith) most (pre ++ w.service_accept ∷ []) c.plan here rest_is (omega (arith, none))
          greeted (Some text) has most more here =
              let one : length w.banner ≡ 1 = ap (λ t. length (banner_by t)) has in
              let n = receives_many w v.requests more in
              let sent = client_greeted m d c s compatible sound offers a chosen readable (pre ++ w.service_accept ∷ []) (session_between m c s a) text c.plan has here in (
                as_open (client_setup m d c) p (version_of s.side ∷ (pre ++ w.service_accept ∷ [])) (written_message (UserauthBanner text [])) [] sent.0
                    (ap (λ t. group_at (client_early (record w { banner = banner_by t }) guess v) (λ i. client_next w v (i + 1)) 5) has) (omega (arith, more, n, one)),
                client_loop m d c s compatible sound offers a chosen readable guess end final v.requests 0 (omega arith) most ((pre ++ w.service_accept ∷ []) ++ written_message (UserauthBanner text []) ∷ []) c.plan sent.1 rest_is (omega (arith, one)),
              )

      pub client_asked_follows : (server_end : EndData) → FollowsPart (client_setup m d c) p (units_of (config_of_server s) (server_requests w guess v server_end))
      client_asked_follows server_end = record { making_is = making_is a.kex a right; places = by v.requests refl }
        where
          by : (n : ℕ) → n ≡ v.requests → (before : Units) (unit : List ℕ) → IsPrefix (before ++ unit ∷ []) (units_of (config_of_server s) (server_requests w guess v server_end)) → length before < p.receives → Q before unit
          by zero e = at_each Q (version_of s.side ∷ w.server_offer ∷ w.reply ∷ w.new_keys ∷ w.service_accept ∷ []) (units_of (config_of_server s) (server_requests w guess v server_end)) p.receives
              (ap (λ (n : ℕ). client_receives w n) e)
              (record { rest = w.banner ++ from (server_next w v) 0 (v.requests + received_last v.how); whole_is = ap (λ (l : Units). version_of s.side ∷ l) (server_sends w v server_end guess) })
              (early (w.service_accept ∷ []) (none_places (sym e)))
          by (suc n) e =
              let sent = answers_from (server_next w v) v.requests in
              at_each Q (version_of s.side ∷ w.server_offer ∷ w.reply ∷ w.new_keys ∷ w.service_accept ∷ (w.banner ++ from (server_next w v) 0 v.requests)) (units_of (config_of_server s) (server_requests w guess v server_end)) p.receives
              (omega (arith, receives_many w v.requests (omega (arith, e)), length-append w.banner (from (server_next w v) 0 v.requests), ap length sent, answers_sent w v v.requests (omega arith)))
              (record {
                rest = from (server_next w v) v.requests (received_last v.how);
                whole_is = ap (λ (l : Units). version_of s.side ∷ l) (server_sends w v server_end guess)
                    ∙ ap (λ (l : Units). version_of s.side ∷ w.server_offer ∷ w.reply ∷ w.new_keys ∷ w.service_accept ∷ (w.banner ++ l))
                    (sym (answers_from (server_next w v) (v.requests + received_last v.how)) ∙ answers_split (server_next w v) v.requests (received_last v.how)
                    ∙ ap (λ (l : Units). l ++ from (server_next w v) v.requests (received_last v.how)) sent)
                    ∙ ap (λ (l : Units). version_of s.side ∷ w.server_offer ∷ w.reply ∷ w.new_keys ∷ w.service_accept ∷ l)
                    (sym (append_assoc w.banner (from (server_next w v) 0 v.requests) (from (server_next w v) v.requests (received_last v.how))));
              })
              (early (w.service_accept ∷ (w.banner ++ from (server_next w v) 0 v.requests)) (some_places (omega (arith, e))))
