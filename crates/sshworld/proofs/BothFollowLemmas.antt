-- Each side follows its part of the course.

use Rattle.std.proofs.Common.{◌≡◌, Bool, true, false, if◌then◌else◌, Result, Ok, Err, refl, sym, ap}
use Rattle.sshneg.specs.declared.choice.NoCommon.{NoCommon}
use Rattle.sshneg.specs.ChoiceReadings.{choice}
use Rattle.sshneg.specs.Fields.{AlgorithmsData}
use Rattle.sshneg.specs.Strictness.{is_right_guess}
use Rattle.sshneg.proofs.ChoiceFacts as facts
use Rattle.sshneg.proofs.ChoiceLaws as laws
use Rattle.sshpacket.specs.Suite.{SuiteData}
use Rattle.sshcore.specs.ConfigParts.{ClientData, ServerData, client_offer, server_offer}
use Rattle.sshcore.specs.Exchange.{chosen_or}
use Rattle.sshcore.specs.EndpointParts.{DecisionsData, client_setup, config_of_client, config_of_server, server_setup}
use Rattle.sshcore.specs.Work.{guessed_method, name_or}
use Rattle.sshworld.specs.Agreement.{host_key_of_server}
use Rattle.sshworld.specs.Course.{NoTrust, Requests, Way, client_part, server_part, way_by}
use Rattle.sshworld.specs.Follows.{BothFollow, FollowsPart, units_of}
use Rattle.sshworld.specs.Guesses.{guess_of}
use Rattle.sshworld.specs.Outcome.{Case, HostKeyRefused, NothingCommon, case_of_choice, case_of_how, ends_of_case, outcome}
use Rattle.sshworld.specs.Compatible.{AreCompatible}
use Rattle.sshworld.specs.Verdicts.{How, verdict}
use Rattle.sshworld.specs.Wordings.{method_used, wording_of, wording_with}
use Rattle.sshworld.proofs.ClientFollows.{client_asked_follows, client_refused_follows, client_without_follows}
use Rattle.sshworld.proofs.Readable.{AreOffersRead, AreSound, IsRead}
use Rattle.sshworld.proofs.ServerFollows.{server_asked_follows, server_refused_follows, server_without_follows}
use Rattle.sshworld.proofs.StepLemmas.{right_sound}

module _ (m : SuiteData) (d : DecisionsData) (c : ClientData) (s : ServerData) (compatible : AreCompatible m d c s) (sound : AreSound c s) (offers : AreOffersRead c s)
    (readable : (a : AlgorithmsData) → choice m (client_offer c) (server_offer s) ≡ Ok a → IsRead m d c s a) where
  -- with this choice
  record With (r : Result AlgorithmsData NoCommon) : Type 0 where
    client : FollowsPart (client_setup m d c) (client_part (wording_with m d c s (method_used c r) (chosen_or r)) (guess_of c s) (way_by m d c s r) (ends_of_case (case_of_choice m d c s r)))
        (units_of (config_of_server s) (server_part (wording_with m d c s (method_used c r) (chosen_or r)) (guess_of c s) (way_by m d c s r) (ends_of_case (case_of_choice m d c s r))))
    server : FollowsPart (server_setup m d s) (server_part (wording_with m d c s (method_used c r) (chosen_or r)) (guess_of c s) (way_by m d c s r) (ends_of_case (case_of_choice m d c s r)))
        (units_of (config_of_client c) (client_part (wording_with m d c s (method_used c r) (chosen_or r)) (guess_of c s) (way_by m d c s r) (ends_of_case (case_of_choice m d c s r))))

  -- a right guess guesses the method that is used
  right : (a : AlgorithmsData) → choice m (client_offer c) (server_offer s) ≡ Ok a → is_right_guess (client_offer c) (server_offer s) ≡ true → a.kex ≡ guessed_method (config_of_client c)
  right a chosen r = sym (ap name_or (facts.guessed m (client_offer c) (server_offer s) a (right_sound (client_offer c) (server_offer s) r) (laws.choice_sound m (client_offer c) (server_offer s) a chosen)))

  abbrev way_trusted : Bool → Way
  way_trusted b = if b then Requests (verdict m d c s) else NoTrust

  abbrev case_trusted : AlgorithmsData → Bool → Case
  case_trusted a b = if b then case_of_how m c s a (verdict m d c s).how else HostKeyRefused

  record Trusted (a : AlgorithmsData) (b : Bool) : Type 0 where
    client : FollowsPart (client_setup m d c) (client_part (wording_with m d c s a.kex a) (guess_of c s) (way_trusted b) (ends_of_case (case_trusted a b)))
        (units_of (config_of_server s) (server_part (wording_with m d c s a.kex a) (guess_of c s) (way_trusted b) (ends_of_case (case_trusted a b))))
    server : FollowsPart (server_setup m d s) (server_part (wording_with m d c s a.kex a) (guess_of c s) (way_trusted b) (ends_of_case (case_trusted a b)))
        (units_of (config_of_client c) (client_part (wording_with m d c s a.kex a) (guess_of c s) (way_trusted b) (ends_of_case (case_trusted a b))))

  trusted_by : (a : AlgorithmsData) → choice m (client_offer c) (server_offer s) ≡ Ok a → (b : Bool) → d.host_key a.host_key (host_key_of_server m s a.host_key) ≡ b → Trusted a b
  trusted_by a chosen true e = record {
    client = client_asked_follows m d c s compatible sound offers a chosen (readable a chosen) (right a chosen) e (ends_of_case (case_of_how m c s a (verdict m d c s).how)).client
        (λ how is. ap (λ (h : How). (ends_of_case (case_of_how m c s a h)).client) is) (ends_of_case (case_of_how m c s a (verdict m d c s).how)).server;
    server = server_asked_follows m d c s compatible sound offers a chosen (readable a chosen) (ends_of_case (case_of_how m c s a (verdict m d c s).how)).server (ends_of_case (case_of_how m c s a (verdict m d c s).how)).client
        (λ how is. ap (λ (h : How). (ends_of_case (case_of_how m c s a h)).server) is);
  }
  trusted_by a chosen false e = record {
    client = client_refused_follows m d c s compatible sound offers a chosen (readable a chosen) (right a chosen) (ends_of_case HostKeyRefused).client (ends_of_case HostKeyRefused).server e refl;
    server = server_refused_follows m d c s compatible sound offers a chosen (readable a chosen) (ends_of_case HostKeyRefused).server (ends_of_case HostKeyRefused).client refl;
  }

  with_choice : (r : Result AlgorithmsData NoCommon) → choice m (client_offer c) (server_offer s) ≡ r → With r
  with_choice (Ok a) e = let t = trusted_by a e (d.host_key a.host_key (host_key_of_server m s a.host_key)) refl in record { client = t.client; server = t.server }
  with_choice (Err f) e = record {
    client = client_without_follows m d c s compatible sound offers (guessed_method (config_of_client c)) (chosen_or (Err f)) f (ends_of_case (NothingCommon f)).client (ends_of_case (NothingCommon f)).server (λ r. refl) e refl;
    server = server_without_follows m d c s compatible sound offers (guessed_method (config_of_client c)) (chosen_or (Err f)) f (guess_of c s) (ends_of_case (NothingCommon f)).server (ends_of_case (NothingCommon f)).client e refl;
  }

pub both_follow : (m : SuiteData) (d : DecisionsData) (c : ClientData) (s : ServerData) → AreCompatible m d c s → AreSound c s → AreOffersRead c s
    → ((a : AlgorithmsData) → choice m (client_offer c) (server_offer s) ≡ Ok a → IsRead m d c s a) → BothFollow m d c s (wording_of m d c s)
unfolding outcome
both_follow m d c s compatible sound offers readable =
    let w = with_choice m d c s compatible sound offers readable (choice m (client_offer c) (server_offer s)) refl in
    record { client_follows = w.client; server_follows = w.server }
