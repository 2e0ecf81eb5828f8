-- What `run` and `predict` tell of the scenario in their input, and what of it is written.

use Rattle.std.specs.Prelude.{◌≡◌, ◌≤◌, ◌+◌, ◌==◌, ◌↔◌, ℕ, Bool, true, List, take, Option, None, Some, IfSome, Result, Ok, Err}
use Rattle.std.specs.Io.KnownBytes.{Appends}
use Rattle.sshcore.specs.ConfigParts.{ClientData, ServerData}
use Rattle.sshworld.specs.Offered.{most_requests}
use Rattle.sshworld.specs.Outcome.{BothEnds, outcome}
use Rattle.sshworld.specs.Worlds.{Complete, WorldData}
use Rattle.sshlabsuites.specs.Lab.{lab}
use Rattle.sshlabsuites.specs.LabDecisionsData.{LabDecisionsData, lab_policy}
use Rattle.sshlabsuites.specs.declared.lab_suite.LabSuite.{LabSuite}
use Rattle.sshlab.specs.declared.command_fault.CommandFault.{CommandFault}
use Rattle.sshlab.specs.declared.command_fault.CommandFault.TheVariants as command
use Rattle.sshlab.specs.declared.scenario_line.Step.{Step}
use Rattle.sshlab.specs.declared.tool_fault.ToolFault.TheVariants as fault
use Rattle.sshlab.specs.declared.request.Request.{Request}
use Rattle.sshlab.specs.declared.request.Request.TheVariants as asks
use Rattle.sshlab.specs.Reports.{report_text}
use Rattle.sshlab.specs.ScenarioParts.{client_of_lines, rules_of_lines, server_of_lines, steps_of_lines}
use Rattle.sshlab.specs.ScenarioText.{statements_in}
use Rattle.sshlab.specs.Steps.{EndsSettling, StepsLeadTo}
use Rattle.sshlab.specs.TextLines.{lines}

-- What is told of a world: how its two sides stand, and whether nothing waits for either, which the status says too.
pub record IsToldOfWorld {S D : Type 0} (w : WorldData S D) (session : Bool) (told : List ℕ) (status : ℕ) : Type 0 where
  pub is_text : told ≡ report_text w.client.end w.server.end (Some (status == 0)) session
  pub by_status : (status ≡ 0) ↔ Complete w

-- What `run` tells of a scenario is told of a world to which its steps lead. Where that is complete, its ends are those of the
-- outcome; and it is, where the last step is four rounds more than the client has requests at the most.
pub record IsToldOfRun (client : ClientData) (server : ServerData) (rules : LabDecisionsData) (steps : List Step) (session : Bool) (told : List ℕ) (status : ℕ) : Type 0 where
  pub world : WorldData LabSuite LabDecisionsData
  pub led : StepsLeadTo (λ suite. lab) lab_policy client server rules steps world
  pub of_world : IsToldOfWorld world session told status
  pub predicted : Complete world → (world.client.end ≡ (outcome lab (lab_policy rules) client server).client)
      × (world.server.end ≡ (outcome lab (lab_policy rules) client server).server)
  pub settled : EndsSettling (most_requests client.plan + 4) steps → status ≡ 0

-- what `run` tells of a scenario's text
abbrev pub RunTells : Bool → List ℕ → List ℕ → ℕ → Type 0
RunTells session text told status =
    IsToldOfRun (client_of_lines (statements_in (lines text))) (server_of_lines (statements_in (lines text))) (rules_of_lines (statements_in (lines text))) (steps_of_lines (statements_in (lines text))) session told status

-- the outcome of a scenario's text, without its steps
abbrev pub foretold : List ℕ → BothEnds
foretold text = outcome lab (lab_policy (rules_of_lines (statements_in (lines text)))) (client_of_lines (statements_in (lines text))) (server_of_lines (statements_in (lines text)))

-- What `predict` tells of it: the ends of its outcome, always with status 0.
pub record PredictTells (session : Bool) (text told : List ℕ) (status : ℕ) : Type 0 where
  pub is_text : told ≡ report_text (foretold text).client (foretold text).server None session
  pub done : status ≡ 0

-- This is told of the input's bytes, or of some text where they aren't known.
pub record IsToldOfInput (Tells : List ℕ → List ℕ → ℕ → Type 0) (input : Option (List ℕ)) (told : List ℕ) (status : ℕ) : Type 0 where
  pub text : List ℕ
  pub read : IfSome input (λ bytes. text ≡ bytes)
  pub tells : Tells text told status

-- known bytes of the output grew by all that is told
pub record WritesAll (Tells : List ℕ → List ℕ → ℕ → Type 0) (input old new : Option (List ℕ)) (status : ℕ) : Type 0 where
  pub told : List ℕ
  pub of_input : IsToldOfInput Tells input told status
  pub written : Appends old new told

-- a prefix of it was written
pub record WritesSome (Tells : List ℕ → List ℕ → ℕ → Type 0) (input old new : Option (List ℕ)) : Type 0 where
  pub told : List ℕ
  pub status : ℕ
  pub of_input : IsToldOfInput Tells input told status
  pub count : ℕ
  pub written : Appends old new (take count told)

-- what is told was written, all of it, or a prefix where a write failed
abbrev pub Writes : (List ℕ → List ℕ → ℕ → Type 0) → Option (List ℕ) → Option (List ℕ) → Option (List ℕ) → Result ℕ CommandFault → Type 0
Writes Tells input old new (Ok status) = WritesAll Tells input old new status
Writes Tells input old new (Err (command.Tool fault.Write)) = WritesSome Tells input old new
Writes Tells input old new (Err cause) = Unit {0}

-- what is written for a request of a scenario
abbrev pub IsAnswered : Request → Option (List ℕ) → Option (List ℕ) → Option (List ℕ) → Result ℕ CommandFault → Type 0
IsAnswered (asks.Predict session) input old new result = Writes (PredictTells session) input old new result
IsAnswered (asks.Run session) input old new result = Writes (RunTells session) input old new result
IsAnswered request input old new result = Unit {0}

-- With or without the session identifier: at exit status 0 and 1 all that is told was written, and a prefix of it where a write failed.
pub record Prints (Tells : Bool → List ℕ → List ℕ → ℕ → Type 0) (input old new : Option (List ℕ)) (broken : Bool) (status : ℕ) : Type 0 where
  pub session : Bool
  pub whole : status ≤ 1 → WritesAll (Tells session) input old new status
  pub cut : broken ≡ true → WritesSome (Tells session) input old new
