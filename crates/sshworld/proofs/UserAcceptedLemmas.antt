-- Where the user is accepted, each side receives all that the other sends.

use Rattle.std.proofs.Common.{◌≡◌, ◌≢◌, ℕ, zero, suc, ◌+◌, Bool, true, false, length, Result, Ok, Err, if◌then◌else◌, refl, sym, ap, subst, ◌∙◌, arith}
use Rattle.sshneg.specs.declared.choice.NoCommon.{NoCommon}
use Rattle.sshneg.specs.ChoiceReadings.{choice}
use Rattle.sshneg.specs.Fields.{AlgorithmsData}
use Rattle.sshpacket.specs.Suite.{SuiteData}
use Rattle.sshcore.specs.ConfigParts.{AttemptData, ClientData, ServerData, client_offer, server_offer}
use Rattle.sshcore.specs.EndData.{AgreedData, Authenticated}
use Rattle.sshcore.specs.EndpointParts.{DecisionsData}
use Rattle.sshworld.specs.Agreement.{host_key_of_server}
use Rattle.sshworld.specs.Course.{Way, NoTrust, Requests, client_receives, client_part, client_requests, received_last, server_part, server_requests, unanswered, way_by, way_of}
use Rattle.sshworld.specs.Guesses.{Guess}
use Rattle.sshworld.specs.Outcome.{BothEnds, HostKeyRefused, case_of_choice, case_of_how, ends_of_case, outcome}
use Rattle.sshworld.specs.Rounds.{units_sent}
use Rattle.sshworld.specs.Verdicts.{Exhausted, How, Limit, Success, Unknown, Verdict, verdict}
use Rattle.sshworld.specs.Wording.{Wording}
use Rattle.sshworld.proofs.CountLemmas.{counted_offered}
use Rattle.sshworld.proofs.CourseLemmas.{all_sent, client_units, server_units}

-- the course has requests, and the last of them is accepted
pub record AcceptsUser (way : Way) : Type 0 where
  pub v : Verdict
  pub attempt : AttemptData
  pub way_is : way ≡ Requests v
  pub how_is : v.how ≡ Success attempt
  pub some : v.requests ≢ 0

module _ (m : SuiteData) (d : DecisionsData) (c : ClientData) (s : ServerData) (agreed : AgreedData) where
  by_how : (algorithms : AlgorithmsData) (how : How) → (verdict m d c s).how ≡ how → (ends_of_case (case_of_how m c s algorithms how)).client ≡ Authenticated agreed → AcceptsUser (Requests (verdict m d c s))
  by_how algorithms Unknown is e = absurd (cc (e))
  by_how algorithms Limit is e = absurd (cc (e))
  by_how algorithms Exhausted is e = absurd (cc (e))
  by_how algorithms (Success attempt) is e = record {
    v = verdict m d c s;
    attempt = attempt;
    way_is = refl;
    how_is = is;
    some = λ none. let left : (verdict m d c s).how ≡ Exhausted = (counted_offered m d c s).none_left none in cc (left, is);
  }

  by_trust : (algorithms : AlgorithmsData) (trusted : Bool) → (ends_of_case (if trusted then case_of_how m c s algorithms (verdict m d c s).how else HostKeyRefused)).client ≡ Authenticated agreed
      → AcceptsUser (if trusted then Requests (verdict m d c s) else NoTrust)
  by_trust algorithms true e = by_how algorithms (verdict m d c s).how refl e
  by_trust algorithms false e = absurd (cc (e))

  by_choice : (r : Result AlgorithmsData NoCommon) → (ends_of_case (case_of_choice m d c s r)).client ≡ Authenticated agreed → AcceptsUser (way_by m d c s r)
  by_choice (Ok algorithms) e = by_trust algorithms (d.host_key algorithms.host_key (host_key_of_server m s algorithms.host_key)) e
  by_choice (Err field) e = absurd (cc (e))

  pub accepts : (outcome m d c s).client ≡ Authenticated agreed → AcceptsUser (way_of m d c s)
  unfolding outcome
  accepts e = by_choice (choice m (client_offer c) (server_offer s)) e

-- each side receives as many units as the other sends
pub record ReceiveAll (w : Wording) (guess : Guess) (way : Way) (ends : BothEnds) : Type 0 where
  pub client_all : (client_part w guess way ends).receives ≡ units_sent (server_part w guess way ends) (server_part w guess way ends).receives
  pub server_all : (server_part w guess way ends).receives ≡ units_sent (client_part w guess way ends) (client_part w guess way ends).receives

module _ (w : Wording) (guess : Guess) (ends : BothEnds) where
  some_received : (n : ℕ) → n ≢ 0 → client_receives w n ≡ 5 + length w.banner + n
  some_received zero some = absurd (some refl)
  some_received (suc n) some = refl

  requests_all : (v : Verdict) (attempt : AttemptData) → v.how ≡ Success attempt → v.requests ≢ 0 → ReceiveAll w guess (Requests v) ends
  requests_all v attempt how some =
      let none : received_last v.how ≡ 0 = ap received_last how in
      let place : 5 + length (unanswered guess) + v.requests + received_last v.how ≡ 5 + length (unanswered guess) + v.requests = omega (arith, none) in
      let by_server : units_sent (server_requests w guess v ends.server) (5 + length (unanswered guess) + v.requests + received_last v.how) ≡ 5 + length w.banner + v.requests =
      ap (λ (n : ℕ). units_sent (server_requests w guess v ends.server) n) place ∙ server_units w guess v ends.server v.requests (omega arith) in
      let receives : client_receives w v.requests ≡ 5 + length w.banner + v.requests = some_received v.requests some in
      let by_client = ap (λ (n : ℕ). units_sent (client_requests w guess v ends.client) n) receives ∙ client_units w guess v ends.client v.requests in
      record {
        client_all = receives ∙ sym by_server;
        server_all = omega (arith, by_client, all_sent w v);
      }

  pub receive_all : (way : Way) → AcceptsUser way → ReceiveAll w guess way ends
  receive_all way in_so = subst (λ (x : Way). ReceiveAll w guess x ends) (sym in_so.way_is) (requests_all in_so.v in_so.attempt in_so.how_is in_so.some)
