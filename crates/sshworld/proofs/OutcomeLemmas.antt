-- The outcome of two configs, by the choice of algorithms.

use Rattle.std.proofs.Common.{◌≡◌, ◌∙◌, Result, Ok, Err, IfOk, ap, sym}
use Rattle.sshmsg.specs.MessageData.{KexInitData}
use Rattle.sshneg.specs.declared.choice.NoCommon.{NoCommon}
use Rattle.sshneg.specs.ChoiceReadings.{choice}
use Rattle.sshneg.specs.Fields.{AlgorithmsData}
use Rattle.sshpacket.specs.Suite.{SuiteData}
use Rattle.sshcore.specs.ConfigParts.{ClientData, ServerData, client_offer, server_offer}
use Rattle.sshcore.specs.EndpointParts.{DecisionsData}
use Rattle.sshworld.specs.Outcome.{case_of_choice, ends_of_case, outcome}

-- what two facts say of an answer where it is there
pub both_ok : {T E : Type 0} {P Q R : T → Type 0} (r : Result T E) → ((x : T) → P x → Q x → R x) → IfOk r P → IfOk r Q → IfOk r R
both_ok (Ok x) f p q = f x p q
both_ok (Err e) f p q = tt

-- the outcome, by what the KEXINITs of both come to
pub outcome_by : (m : SuiteData) (d : DecisionsData) (c : ClientData) (s : ServerData) (client server : KexInitData) (r : Result AlgorithmsData NoCommon)
    → client ≡ client_offer c → server ≡ server_offer s → choice m client server ≡ r → outcome m d c s ≡ ends_of_case (case_of_choice m d c s r)
unfolding outcome
outcome_by m d c s client server r of_client of_server e =
    ap (λ q. ends_of_case (case_of_choice m d c s q)) (ap (λ o. choice m o (server_offer s)) (sym of_client) ∙ (ap (choice m client) (sym of_server) ∙ e))
