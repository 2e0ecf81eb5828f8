-- By all that the other sends, both sides come to the same keys and are strict alike.

use Rattle.std.proofs.Common.{◌≡◌, ◌⊎◌, inl, inr, suc, ◌+◌, ◌==◌, ◌&&◌, Bool, true, false, not, if◌then◌else◌, [], ◌∷◌, ◌++◌, Result, Ok, Err, refl, sym, ap, ◌∙◌, subst}
use Rattle.std.proofs.lemmas.Bool.{true≢false}
use Rattle.sshmsg.specs.Numbers.{message_number}
use Rattle.sshneg.specs.declared.choice.NoCommon.{NoCommon}
use Rattle.sshneg.specs.declared.side.Side.{Side}
use Rattle.sshneg.specs.declared.side.Side.TheVariants.{Client, Server}
use Rattle.sshneg.specs.ChoiceReadings.{choice}
use Rattle.sshneg.specs.Derivations.{ExchangeData}
use Rattle.sshneg.specs.Fields.{AlgorithmsData}
use Rattle.sshneg.specs.Strictness.{is_right_guess}
use Rattle.sshpacket.specs.Places.{stands}
use Rattle.sshpacket.specs.Stream.{Units}
use Rattle.sshpacket.specs.Suite.{SuiteData}
use Rattle.sshcore.specs.declared.phase_table.Phase.TheVariants as phase
use Rattle.sshcore.specs.Before.{strict_at}
use Rattle.sshcore.specs.ConfigParts.{ClientData, ServerData, client_offer, server_offer, version_of}
use Rattle.sshcore.specs.Counting.{is_newkeys, switched_out}
use Rattle.sshcore.specs.Exchange.{chosen_or, exchange_at, keys_at, keys_by}
use Rattle.sshcore.specs.KnownBefore.{Known}
use Rattle.sshcore.specs.EndpointParts.{DecisionsData, client_setup, config_of_client, config_of_server, server_setup}
use Rattle.sshcore.specs.CompletedMethods.{none_completed}
use Rattle.sshcore.specs.Standing.{Sits}
use Rattle.sshcore.specs.Work.{guessed_method}
use Rattle.sshcore.proofs.StandingLemmas.{makes_exchange, makes_keys}
use Rattle.sshcore.proofs.StreamLemmas.{exchange_stays, keys_stay, strict_stays}
use Rattle.sshworld.specs.Agreement.{exchange_between, host_key_of_server}
use Rattle.sshworld.specs.Course.{NoTrust, Requests, Way, client_next, client_part, guessed, init_anew, received_last, sent_after, server_next, server_part, way_by}
use Rattle.sshworld.specs.Guesses.{Guess, NoGuess, RightGuess, WrongGuess, guess_by, guess_of}
use Rattle.sshworld.specs.Outcome.{BothEnds, case_of_choice, ends_of_case, outcome}
use Rattle.sshworld.specs.Placed.{HaveSameKeys, sent_by_client, sent_by_server}
use Rattle.sshworld.specs.Compatible.{AreCompatible}
use Rattle.sshworld.specs.Verdicts.{verdict}
use Rattle.sshworld.specs.Wording.{Wording}
use Rattle.sshworld.specs.Wordings.{method_used, wording_with}
use Rattle.sshworld.proofs.JudgedLemmas.{client_strict, server_strict}
use Rattle.sshworld.proofs.MessageLemmas.{client_begins, client_exchanges, client_hashed, client_unswitched, init_begun, init_kind, reply_begun, server_begins, server_drops, server_exchanges, server_hashed, server_unswitched}
use Rattle.sshworld.proofs.PartLemmas.{from}
use Rattle.sshworld.proofs.PlacedLemmas.{bye, head, init_head, refused_sent}
use Rattle.sshworld.proofs.Readable.{AreOffersRead, AreSound, IsRead}
use Rattle.sshworld.proofs.SentLemmas.{asks, client_sends, server_sends}
use Rattle.sshworld.proofs.ServerFollows.{begun}

-- where no NEWKEYS is sent
abbrev NoneSwitches : Units → Type 0
NoneSwitches [] = Unit {0}
NoneSwitches (x ∷ xs) = ((message_number x == 21) ≡ false) × NoneSwitches xs

none_stands : (before xs : Units) → NoneSwitches xs → stands is_newkeys before xs ≡ false
none_stands before [] none = refl
none_stands before (x ∷ xs) none = ap (λ (b : Bool). if b then true else stands is_newkeys (before ++ x ∷ []) xs) none.0 ∙ none_stands (before ++ x ∷ []) xs none.1

none_switched : (xs : Units) → NoneSwitches xs → switched_out xs ≡ false
unfolding switched_out
none_switched xs none = none_stands [] xs none

-- the keys and strictness of two streams, once either switches
abbrev SameKeys : SuiteData → ClientData → ServerData → Units → Units → Type 0
SameKeys m c s by_client by_server = HaveSameKeys m Client Server (config_of_client c) (config_of_server s) by_client by_server

abbrev Switching : SuiteData → ClientData → ServerData → Units → Units → Type 0
Switching m c s by_client by_server = (switched_out by_client ≡ true) ⊎ (switched_out by_server ≡ true) → SameKeys m c s by_client by_server

never : (m : SuiteData) (c : ClientData) (s : ServerData) (by_client by_server : Units) → NoneSwitches by_client → NoneSwitches by_server → Switching m c s by_client by_server
never m c s by_client by_server none nor (inl on) = absurd (true≢false (sym on ∙ none_switched by_client none))
never m c s by_client by_server none nor (inr on) = absurd (true≢false (sym on ∙ none_switched by_server nor))

module _ (m : SuiteData) (d : DecisionsData) (c : ClientData) (s : ServerData) (compatible : AreCompatible m d c s) (sound : AreSound c s) (offers : AreOffersRead c s) where
  module _ (a : AlgorithmsData) (chosen : choice m (client_offer c) (server_offer s) ≡ Ok a) (readable : IsRead m d c s a) where
    abbrev w : Wording
    w = wording_with m d c s a.kex a

    client_keys : (tail : Units) (sender : Side) → keys_at m Client (config_of_client c) (version_of s.side) (w.server_offer ∷ w.reply ∷ tail) sender ≡ keys_by m a (exchange_between m c s a) sender
    client_keys tail sender =
        let here = client_exchanges m d c s compatible sound offers a chosen readable in
        keys_stay m Client (config_of_client c) (version_of s.side) (w.server_offer ∷ w.reply ∷ []) tail sender (record { offer = here.tied.offer; exchange = here.tied.exchange })
        ∙ makes_keys (client_setup m d c) (version_of s.side) (w.server_offer ∷ []) w.reply (client_unswitched m d c s compatible sound offers a chosen readable [] c.plan)
        (client_begins m d c s compatible sound offers a chosen readable) (reply_begun m d c s compatible sound offers a chosen readable) sender
        ∙ ap (λ (x : ExchangeData). keys_by m a x sender) (client_hashed m d c s compatible sound offers a chosen readable)

    client_exchange : (tail : Units) → exchange_at m Client (config_of_client c) (version_of s.side) (w.server_offer ∷ w.reply ∷ tail) ≡ exchange_between m c s a
    client_exchange tail =
        let here = client_exchanges m d c s compatible sound offers a chosen readable in
        exchange_stays m Client (config_of_client c) (version_of s.side) (w.server_offer ∷ w.reply ∷ []) tail (record { offer = here.tied.offer; exchange = here.tied.exchange })
        ∙ makes_exchange (client_setup m d c) (version_of s.side) (w.server_offer ∷ []) w.reply (client_unswitched m d c s compatible sound offers a chosen readable [] c.plan)
        (client_begins m d c s compatible sound offers a chosen readable) (reply_begun m d c s compatible sound offers a chosen readable)
        ∙ client_hashed m d c s compatible sound offers a chosen readable

    client_is_strict : (tail : Units) → strict_at Client (config_of_client c) (w.server_offer ∷ tail) ≡ (c.side.strict && s.side.strict)
    client_is_strict tail =
        let here = client_begins m d c s compatible sound offers a chosen readable in
        strict_stays m Client (config_of_client c) (w.server_offer ∷ []) tail here.tied.offer ∙ ap (λ (k : Known). k.strict) here.knows ∙ client_strict c s sound

    server_keys : (before tail : Units) → Sits (server_setup m d s) (version_of c.side) before phase.Exchange false (server_unswitched m d c s compatible sound offers a chosen readable [] 1 none_completed) → (sender : Side)
        → keys_at m Server (config_of_server s) (version_of c.side) ((before ++ w.init ∷ []) ++ tail) sender ≡ keys_by m a (exchange_between m c s a) sender
    server_keys before tail sits sender =
        let here = server_exchanges m d c s compatible sound offers a chosen readable before sits in
        keys_stay m Server (config_of_server s) (version_of c.side) (before ++ w.init ∷ []) tail sender (record { offer = here.tied.offer; exchange = here.tied.exchange })
        ∙ makes_keys (server_setup m d s) (version_of c.side) before w.init (server_unswitched m d c s compatible sound offers a chosen readable [] 1 none_completed) sits (init_begun m d c s compatible sound offers a chosen readable) sender
        ∙ ap (λ (x : ExchangeData). keys_by m a x sender) (server_hashed m d c s compatible sound offers a chosen readable)

    server_exchange : (before tail : Units) → Sits (server_setup m d s) (version_of c.side) before phase.Exchange false (server_unswitched m d c s compatible sound offers a chosen readable [] 1 none_completed)
        → exchange_at m Server (config_of_server s) (version_of c.side) ((before ++ w.init ∷ []) ++ tail) ≡ exchange_between m c s a
    server_exchange before tail sits =
        let here = server_exchanges m d c s compatible sound offers a chosen readable before sits in
        exchange_stays m Server (config_of_server s) (version_of c.side) (before ++ w.init ∷ []) tail (record { offer = here.tied.offer; exchange = here.tied.exchange })
        ∙ makes_exchange (server_setup m d s) (version_of c.side) before w.init (server_unswitched m d c s compatible sound offers a chosen readable [] 1 none_completed) sits (init_begun m d c s compatible sound offers a chosen readable)
        ∙ server_hashed m d c s compatible sound offers a chosen readable

    server_is_strict : (tail : Units) → strict_at Server (config_of_server s) (w.client_offer ∷ tail) ≡ (c.side.strict && s.side.strict)
    server_is_strict tail =
        let here = server_begins m d c s compatible sound offers a chosen readable in
        strict_stays m Server (config_of_server s) (w.client_offer ∷ []) tail here.tied.offer ∙ ap (λ (k : Known). k.strict) here.knows ∙ server_strict c s sound

    server_all : (g r : Bool) → c.guess ≡ g → is_right_guess (client_offer c) (server_offer s) ≡ r → (tail : Units) (sender : Side)
        → keys_at m Server (config_of_server s) (version_of c.side) (w.client_offer ∷ (guessed w (guess_by g r) ++ (init_anew w (guess_by g r) ++ tail))) sender ≡ keys_by m a (exchange_between m c s a) sender
    server_all false r eg er tail sender =
        server_keys (w.client_offer ∷ []) tail (begun m d c s compatible sound offers a chosen readable false (ap (λ (b : Bool). b && not (is_right_guess (client_offer c) (server_offer s))) eg)) sender
    server_all true true eg er tail sender =
        server_keys (w.client_offer ∷ []) tail (begun m d c s compatible sound offers a chosen readable false (ap (λ (b : Bool). b && not (is_right_guess (client_offer c) (server_offer s))) eg ∙ ap (λ (b : Bool). true && not b) er)) sender
    server_all true false eg er tail sender =
        let b = begun m d c s compatible sound offers a chosen readable true (ap (λ (b : Bool). b && not (is_right_guess (client_offer c) (server_offer s))) eg ∙ ap (λ (b : Bool). true && not b) er) in
        let drop = server_drops m d c s compatible sound offers a chosen readable w.guess (init_kind m (config_of_client c) (guessed_method (config_of_client c))) (w.client_offer ∷ []) b in
        server_keys (w.client_offer ∷ w.guess ∷ []) tail drop.1 sender

    server_hash : (g r : Bool) → c.guess ≡ g → is_right_guess (client_offer c) (server_offer s) ≡ r → (tail : Units)
        → exchange_at m Server (config_of_server s) (version_of c.side) (w.client_offer ∷ (guessed w (guess_by g r) ++ (init_anew w (guess_by g r) ++ tail))) ≡ exchange_between m c s a
    server_hash false r eg er tail =
        server_exchange (w.client_offer ∷ []) tail (begun m d c s compatible sound offers a chosen readable false (ap (λ (b : Bool). b && not (is_right_guess (client_offer c) (server_offer s))) eg))
    server_hash true true eg er tail =
        server_exchange (w.client_offer ∷ []) tail (begun m d c s compatible sound offers a chosen readable false (ap (λ (b : Bool). b && not (is_right_guess (client_offer c) (server_offer s))) eg ∙ ap (λ (b : Bool). true && not b) er))
    server_hash true false eg er tail =
        let b = begun m d c s compatible sound offers a chosen readable true (ap (λ (b : Bool). b && not (is_right_guess (client_offer c) (server_offer s))) eg ∙ ap (λ (b : Bool). true && not b) er) in
        let drop = server_drops m d c s compatible sound offers a chosen readable w.guess (init_kind m (config_of_client c) (guessed_method (config_of_client c))) (w.client_offer ∷ []) b in
        server_exchange (w.client_offer ∷ w.guess ∷ []) tail drop.1

    same : (by_client by_server : Units) → SameKeys m c s (w.client_offer ∷ (guessed w (guess_of c s) ++ (init_anew w (guess_of c s) ++ by_client))) (w.server_offer ∷ w.reply ∷ by_server)
    same by_client by_server = record {
      exchange = client_exchange by_server ∙ sym (server_hash c.guess (is_right_guess (client_offer c) (server_offer s)) refl refl by_client);
      keys = λ sender. client_keys by_server sender ∙ sym (server_all c.guess (is_right_guess (client_offer c) (server_offer s)) refl refl by_client sender);
      strict = client_is_strict (w.reply ∷ by_server) ∙ sym (server_is_strict (guessed w (guess_of c s) ++ (init_anew w (guess_of c s) ++ by_client)));
    }

  -- where nothing is common
  none_by_client : (u : Wording) (guess : Guess) → (message_number u.client_offer == 21) ≡ false → (message_number u.guess == 21) ≡ false → (message_number u.init == 21) ≡ false → (message_number (u.disconnect 3) == 21) ≡ false
      → NoneSwitches (u.client_offer ∷ (guessed u guess ++ u.disconnect 3 ∷ []))
  none_by_client u NoGuess k g i e = (k, (e, tt))
  none_by_client u RightGuess k g i e = (k, (i, (e, tt)))
  none_by_client u WrongGuess k g i e = (k, (g, (e, tt)))

  abbrev By : Result AlgorithmsData NoCommon → Way → Type 0
  By r way = (ends : BothEnds) → Switching m c s (sent_after (client_part (wording_with m d c s (method_used c r) (chosen_or r)) (guess_of c s) way ends) (client_part (wording_with m d c s (method_used c r) (chosen_or r)) (guess_of c s) way ends).receives)
      (sent_after (server_part (wording_with m d c s (method_used c r) (chosen_or r)) (guess_of c s) way ends) (server_part (wording_with m d c s (method_used c r) (chosen_or r)) (guess_of c s) way ends).receives)

  module _ (readable : (a : AlgorithmsData) → choice m (client_offer c) (server_offer s) ≡ Ok a → IsRead m d c s a) where
    by_trust : (a : AlgorithmsData) → choice m (client_offer c) (server_offer s) ≡ Ok a → (b : Bool) → By (Ok a) (if b then Requests (verdict m d c s) else NoTrust)
    by_trust a chosen true ends on =
        let u : Wording = wording_with m d c s a.kex a in
        subst (λ (l : Units). SameKeys m c s l (sent_after (server_part u (guess_of c s) (Requests (verdict m d c s)) ends) (server_part u (guess_of c s) (Requests (verdict m d c s)) ends).receives)) (sym (client_sends u (verdict m d c s) ends.client (guess_of c s)))
        (subst (λ (l : Units). SameKeys m c s (u.client_offer ∷ asks u (verdict m d c s) ends.client (guess_of c s)) l) (sym (server_sends u (verdict m d c s) ends.server (guess_of c s)))
        (same a chosen (readable a chosen) (u.new_keys ∷ u.service_request ∷ from (client_next u (verdict m d c s)) 0 (suc (verdict m d c s).requests))
        (u.new_keys ∷ u.service_accept ∷ (u.banner ++ from (server_next u (verdict m d c s)) 0 ((verdict m d c s).requests + received_last (verdict m d c s).how)))))
    by_trust a chosen false ends on =
        let u : Wording = wording_with m d c s a.kex a in
        subst (λ (l : Units). SameKeys m c s (u.client_offer ∷ (guessed u (guess_of c s) ++ (init_anew u (guess_of c s) ++ u.disconnect 9 ∷ []))) l) (sym (refused_sent m d c s compatible sound offers u (guess_of c s) ends.server))
        (same a chosen (readable a chosen) (u.disconnect 9 ∷ []) (u.new_keys ∷ []))

    by_choice : (r : Result AlgorithmsData NoCommon) → choice m (client_offer c) (server_offer s) ≡ r → By r (way_by m d c s r)
    by_choice (Ok a) e ends on = by_trust a e (d.host_key a.host_key (host_key_of_server m s a.host_key)) ends on
    by_choice (Err f) e ends on =
        let u : Wording = wording_with m d c s (guessed_method (config_of_client c)) (chosen_or (Err f)) in
        never m c s (u.client_offer ∷ (guessed u (guess_of c s) ++ u.disconnect 3 ∷ [])) (u.server_offer ∷ u.disconnect 3 ∷ [])
        (none_by_client u (guess_of c s) (head (client_offer c)) (init_head m (config_of_client c) (guessed_method (config_of_client c))) (init_head m (config_of_client c) (guessed_method (config_of_client c))) (bye 3))
        (head (server_offer s), (bye 3, tt)) on

pub same_keys : (m : SuiteData) (d : DecisionsData) (c : ClientData) (s : ServerData) → AreCompatible m d c s → AreSound c s → AreOffersRead c s
    → ((a : AlgorithmsData) → choice m (client_offer c) (server_offer s) ≡ Ok a → IsRead m d c s a)
    → (switched_out (sent_by_client m d c s) ≡ true) ⊎ (switched_out (sent_by_server m d c s) ≡ true) → SameKeys m c s (sent_by_client m d c s) (sent_by_server m d c s)
unfolding outcome
same_keys m d c s compatible sound offers readable on =
    by_choice m d c s compatible sound offers readable (choice m (client_offer c) (server_offer s)) refl (ends_of_case (case_of_choice m d c s (choice m (client_offer c) (server_offer s)))) on
