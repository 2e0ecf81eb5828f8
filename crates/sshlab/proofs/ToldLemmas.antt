-- What is told of a scenario, carried from where its world is run up to what is written.

use Rattle.std.proofs.Common.{◌≡◌, ◌≢◌, ◌↔◌, ◌+◌, ◌==◌, ◌≤◌, ◌∙◌, ℕ, Bool, true, List, take, Option, Some, Result, Ok, Err, sym, subst, arith}
use Rattle.std.specs.Prelude.{String, codes}
use Rattle.std.specs.Result.{IfErr, IfOk, OnErr, OnOk}
use Rattle.std.specs.Io.KnownBytes.{Appends}
use Rattle.std.specs.declared.alloc.Global.{Global}
use Rattle.sshcore.specs.ConfigParts.{ClientData, ServerData}
use Rattle.sshworld.specs.Offered.{most_requests}
use Rattle.sshworld.specs.Outcome.{outcome}
use Rattle.sshworld.specs.Worlds.{Complete, WorldData}
use Rattle.sshlabsuites.specs.Lab.{lab}
use Rattle.sshlabsuites.specs.LabDecisionsData.{LabDecisionsData, lab_policy}
use Rattle.sshlabsuites.specs.declared.lab_suite.LabSuite.{LabSuite}
use Rattle.sshlab.specs.declared.command_fault.CommandFault.{CommandFault}
use Rattle.sshlab.specs.declared.command_fault.CommandFault.TheVariants as command
use Rattle.sshlab.specs.declared.scenario.ScenarioFault.TheVariants as scenario
use Rattle.sshlab.specs.declared.scenario_line.Step.{Step}
use Rattle.sshlab.specs.declared.tool_fault.ToolFault.TheVariants as fault
use Rattle.sshlab.specs.declared.request.Request.{Request}
use Rattle.sshlab.specs.declared.request.Request.TheVariants as asks
use Rattle.sshlab.specs.Reports.{report_text}
use Rattle.sshlab.specs.Statuses.{IsAsked, IsFirstWord, status_of}
use Rattle.sshlab.specs.Steps.{EndsSettling, StepsLeadTo}
use Rattle.sshlab.specs.Told.{IsAnswered, IsToldOfInput, IsToldOfRun, PredictTells, Prints, RunTells, Writes}

module _ {A E : Type 0} (text : A → List ℕ) (status : A → ℕ) where
  -- what is told of a world to which the steps of a scenario lead
  pub run_told : (client : ClientData) (server : ServerData) (rules : LabDecisionsData) (steps : List Step) (session : Bool) (w : WorldData LabSuite LabDecisionsData) (r : Result A E)
      → StepsLeadTo (λ suite. lab) lab_policy client server rules steps w
      → (Complete w → (w.client.end ≡ (outcome lab (lab_policy rules) client server).client) × (w.server.end ≡ (outcome lab (lab_policy rules) client server).server))
      → (EndsSettling (most_requests client.plan + 4) steps → Complete w)
      → IfOk r (λ a. text a ≡ report_text w.client.end w.server.end (Some (status a == 0)) session)
      → IfOk r (λ a. (status a ≡ 0) ↔ Complete w)
      → IfOk r (λ a. IsToldOfRun client server rules steps session (text a) (status a))
  run_told client server rules steps session w (Ok a) led predicted settled is states = record {
    world = w;
    led = led;
    of_world = record { is_text = is; by_status = states };
    predicted = predicted;
    settled = λ ends. states.1 (settled ends);
  }
  run_told client server rules steps session w (Err e) led predicted settled is states = states

  -- the same of equal parts
  pub run_of_equal : (client client' : ClientData) (server server' : ServerData) (rules rules' : LabDecisionsData) (steps steps' : List Step) (session : Bool) (r : Result A E)
      → client ≡ client' → server ≡ server' → rules ≡ rules' → steps ≡ steps'
      → IfOk r (λ a. IsToldOfRun client server rules steps session (text a) (status a))
      → IfOk r (λ a. IsToldOfRun client' server' rules' steps' session (text a) (status a))
  run_of_equal client client' server server' rules rules' steps steps' session r ec es er et = rw (ec, es, er, et) (λ told. told)

-- what is printed of an answer
pub print_writes : (Tells : List ℕ → List ℕ → ℕ → Type 0) (input old new : Option (List ℕ)) (text : List ℕ) (status : ℕ) (r : Result ℕ CommandFault)
    → IsToldOfInput Tells input text status
    → IfErr r (λ cause. cause ≡ command.Tool fault.Write) → IfOk r (λ s. s ≡ status)
    → OnOk r (Appends old new text) → OnErr r ((n : ℕ) × Appends old new (take n text)) → Writes Tells input old new r
print_writes Tells input old new text status (Ok s) told cause same whole prefix =
    record { told = text; of_input = subst (λ (k : ℕ). IsToldOfInput Tells input text k) (sym same) told; written = whole }
print_writes Tells input old new text status (Err e) told cause same whole prefix =
    subst (λ (c : CommandFault). Writes Tells input old new (Err c)) (sym cause)
    (record { told = text; status = status; of_input = told; count = prefix.0; written = prefix.1 })

-- two words that differ aren't both the first
not_both : (one other : List ℕ) (words : List (String Global)) → one ≢ other → IsFirstWord one words → IsFirstWord other words → ⊥
not_both one other words differ first second = let e : Some one ≡ Some other = sym first ∙ second in differ (cc)

-- what is written where the first word asks for it
pub run_answered : (words : List (String Global)) (request : Request) (input old new : Option (List ℕ)) (r : Result ℕ CommandFault) → IsAsked words request
    → IsAnswered request input old new r → IsFirstWord (codes "run") words → (session : Bool) × Writes (RunTells session) input old new r
run_answered words (asks.Greet client server schedule) input old new r asked answered first = absurd (not_both (codes "greet") (codes "run") words (λ e. cc) asked first)
run_answered words (asks.Predict session) input old new r asked answered first = absurd (not_both (codes "predict") (codes "run") words (λ e. cc) asked first)
run_answered words (asks.Run session) input old new r asked answered first = (session, answered)
run_answered words asks.Show input old new r asked answered first = absurd (not_both (codes "show") (codes "run") words (λ e. cc) asked first)
run_answered words asks.Check input old new r asked answered first = absurd (not_both (codes "check") (codes "run") words (λ e. cc) asked first)

pub predict_answered : (words : List (String Global)) (request : Request) (input old new : Option (List ℕ)) (r : Result ℕ CommandFault) → IsAsked words request
    → IsAnswered request input old new r → IsFirstWord (codes "predict") words → (session : Bool) × Writes (PredictTells session) input old new r
predict_answered words (asks.Greet client server schedule) input old new r asked answered first = absurd (not_both (codes "greet") (codes "predict") words (λ e. cc) asked first)
predict_answered words (asks.Predict session) input old new r asked answered first = (session, answered)
predict_answered words (asks.Run session) input old new r asked answered first = absurd (not_both (codes "run") (codes "predict") words (λ e. cc) asked first)
predict_answered words asks.Show input old new r asked answered first = absurd (not_both (codes "show") (codes "predict") words (λ e. cc) asked first)
predict_answered words asks.Check input old new r asked answered first = absurd (not_both (codes "check") (codes "predict") words (λ e. cc) asked first)

-- the same by the exit status
pub done_prints : (Tells : Bool → List ℕ → List ℕ → ℕ → Type 0) (input old new : Option (List ℕ)) (broken : Bool) (status : ℕ) (r : Result ℕ CommandFault) → r ≡ Ok status
    → ((r ≡ Err (command.Tool fault.Write)) ↔ (broken ≡ true)) → (session : Bool) × Writes (Tells session) input old new r → Prints Tells input old new broken status
done_prints Tells input old new broken status r is write w = record {
  session = w.0;
  whole = λ few. subst (λ (x : Result ℕ CommandFault). Writes (Tells w.0) input old new x) is w.1;
  cut = λ b. let e : Ok status ≡ Err (command.Tool fault.Write) = sym is ∙ write.1 b in absurd (cc);
}

not_few : (cause : CommandFault) → status_of cause ≤ 1 → ⊥
not_few command.Words few = omega arith
not_few command.Version few = omega arith
not_few command.Schedule few = omega arith
not_few (command.Scenario scenario.Memory) few = omega arith
not_few (command.Scenario (scenario.Line k)) few = omega arith
not_few (command.Scenario (scenario.Client f)) few = omega arith
not_few (command.Scenario (scenario.Server f)) few = omega arith
not_few (command.Tool fault.Read) few = omega arith
not_few (command.Tool fault.Write) few = omega arith
not_few (command.Tool fault.Memory) few = omega arith
not_few (command.Tool (fault.Recording k)) few = omega arith
not_few (command.Tool fault.TooLong) few = omega arith
not_few command.Memory few = omega arith

pub refused_prints : (Tells : Bool → List ℕ → List ℕ → ℕ → Type 0) (input old new : Option (List ℕ)) (broken : Bool) (status : ℕ) (r : Result ℕ CommandFault) (cause : CommandFault) → r ≡ Err cause
    → status ≡ status_of cause → ((r ≡ Err (command.Tool fault.Write)) ↔ (broken ≡ true)) → (session : Bool) × Writes (Tells session) input old new r
    → Prints Tells input old new broken status
refused_prints Tells input old new broken status r cause is told write w = record {
  session = w.0;
  whole = λ few. absurd (not_few cause (subst (λ (k : ℕ). k ≤ 1) told few));
  cut = λ b. subst (λ (x : Result ℕ CommandFault). Writes (Tells w.0) input old new x) (write.1 b) w.1;
}
