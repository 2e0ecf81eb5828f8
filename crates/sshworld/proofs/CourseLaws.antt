-- Two parts are one course, and few rounds are enough for it.

use Rattle.std.proofs.Common.{◌≡◌, ◌≢◌, ◌∙◌, ℕ, ◌+◌, ◌≤◌, Bool, true, false, refl, sym, arith, Result, Ok, Err, if◌then◌else◌}
use Rattle.sshneg.specs.declared.choice.NoCommon.{NoCommon}
use Rattle.sshneg.specs.ChoiceReadings.{choice}
use Rattle.sshneg.specs.Fields.{AlgorithmsData}
use Rattle.sshpacket.specs.Suite.{SuiteData}
use Rattle.sshcore.specs.ConfigParts.{ClientData, ServerData, client_offer, server_offer}
use Rattle.sshcore.specs.EndData.{Open}
use Rattle.sshcore.specs.EndpointParts.{DecisionsData}
use Rattle.sshworld.specs.Agreement.{host_key_of_server}
use Rattle.sshworld.specs.Course.{NoChoice, NoTrust, Requests, Way, client_part, server_part, way_by, way_of}
use Rattle.sshworld.specs.Guesses.{Guess, guess_of}
use Rattle.sshworld.specs.Offered.{most_requests}
use Rattle.sshworld.specs.Outcome.{BothEnds, Case, HostKeyRefused, NoneLeft, NothingCommon, ServiceUnknown, TriesUsedUp, UserAccepted, case_of, ends_of_case, outcome}
use Rattle.sshworld.specs.Rounds.{IsCourse, after_rounds, all_received, groups_sent, requests_of}
use Rattle.sshworld.specs.Verdicts.{verdict}
use Rattle.sshworld.specs.Wording.{Wording}
use Rattle.sshworld.proofs.CountLemmas.{few_requests}
use Rattle.sshworld.proofs.FitLemmas.{fits}
use Rattle.sshworld.proofs.GroupsSentLemmas.{bound, groups}

-- a part ends as it should
pub client_final : (w : Wording) (guess : Guess) (way : Way) (ends : BothEnds) → (client_part w guess way ends).final ≡ ends.client
client_final w guess NoChoice ends = refl
client_final w guess NoTrust ends = refl
client_final w guess (Requests v) ends = refl

pub server_final : (w : Wording) (guess : Guess) (way : Way) (ends : BothEnds) → (server_part w guess way ends).final ≡ ends.server
server_final w guess NoChoice ends = refl
server_final w guess NoTrust ends = refl
server_final w guess (Requests v) ends = refl

-- in each case of the outcome both sides end
pub both_end : (k : Case) → ((ends_of_case k).client ≢ Open) × ((ends_of_case k).server ≢ Open)
both_end (NothingCommon f) = (λ e. cc (e), λ e. cc (e))
both_end HostKeyRefused = (λ e. cc (e), λ e. cc (e))
both_end ServiceUnknown = (λ e. cc (e), λ e. cc (e))
both_end (UserAccepted a) = (λ e. cc (e), λ e. cc (e))
both_end TriesUsedUp = (λ e. cc (e), λ e. cc (e))
both_end NoneLeft = (λ e. cc (e), λ e. cc (e))

pub outcome_ends : (m : SuiteData) (d : DecisionsData) (c : ClientData) (s : ServerData) → ((outcome m d c s).client ≢ Open) × ((outcome m d c s).server ≢ Open)
unfolding outcome
outcome_ends m d c s = both_end (case_of m d c s)

pub is_course : (w : Wording) (guess : Guess) (way : Way) (ends : BothEnds) → ends.client ≢ Open → ends.server ≢ Open → IsCourse (client_part w guess way ends) (server_part w guess way ends)
is_course w guess way ends client server = record {
  fit = fits w guess way ends;
  client_ends = λ e. client (sym (client_final w guess way ends) ∙ e);
  server_ends = λ e. server (sym (server_final w guess way ends) ∙ e);
}

pub of_outcome : (m : SuiteData) (d : DecisionsData) (c : ClientData) (s : ServerData) (w : Wording)
    → IsCourse (client_part w (guess_of c s) (way_of m d c s) (outcome m d c s)) (server_part w (guess_of c s) (way_of m d c s) (outcome m d c s))
of_outcome m d c s w = is_course w (guess_of c s) (way_of m d c s) (outcome m d c s) (outcome_ends m d c s).0 (outcome_ends m d c s).1

-- a course has no more requests than the attempts of the plan have
pub few_of_way : (m : SuiteData) (d : DecisionsData) (c : ClientData) (s : ServerData) → requests_of (way_of m d c s) ≤ most_requests c.plan
few_of_way m d c s = by (choice m (client_offer c) (server_offer s))
  where
    trusted : (a : AlgorithmsData) (t : Bool) → requests_of (if t then Requests (verdict m d c s) else NoTrust) ≤ most_requests c.plan
    trusted a true = few_requests m d c s
    trusted a false = omega arith

    by : (r : Result AlgorithmsData NoCommon) → requests_of (way_by m d c s r) ≤ most_requests c.plan
    by (Ok a) = trusted a (d.host_key a.host_key (host_key_of_server m s a.host_key))
    by (Err f) = omega arith

pub few_groups : (m : SuiteData) (d : DecisionsData) (c : ClientData) (s : ServerData) (w : Wording) (guess : Guess) (ends : BothEnds)
    → groups_sent (client_part w guess (way_of m d c s) ends).group (client_part w guess (way_of m d c s) ends).receives ≤ most_requests c.plan + 3
few_groups m d c s w guess ends = omega (arith, groups w guess (way_of m d c s) ends, few_of_way m d c s)

pub few_rounds : (m : SuiteData) (d : DecisionsData) (c : ClientData) (s : ServerData) (w : Wording) (guess : Guess) (ends : BothEnds) (r : ℕ) → most_requests c.plan + 4 ≤ r
    → after_rounds (client_part w guess (way_of m d c s) ends) (server_part w guess (way_of m d c s) ends) r
    ≡ all_received (client_part w guess (way_of m d c s) ends) (server_part w guess (way_of m d c s) ends)
few_rounds m d c s w guess ends r h = bound w guess (way_of m d c s) ends r (omega (arith, h, few_of_way m d c s))
