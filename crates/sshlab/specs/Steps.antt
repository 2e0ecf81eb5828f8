-- What the steps of a scenario do in a world.

use Rattle.std.specs.Prelude.{◌≡◌, ◌≤◌, ◌⊎◌, ◌++◌, ℕ, List, [], ◌∷◌, min}
use Rattle.sshpacket.specs.Suite.{SuiteData}
use Rattle.sshcore.specs.ConfigParts.{ClientData, ServerData}
use Rattle.sshcore.specs.EndpointParts.{DecisionsData}
use Rattle.sshworld.specs.Conversed.{EachReplies, IsNew}
use Rattle.sshworld.specs.Deliveries.{DoneBy, Refused, Rounds, RoundsInto}
use Rattle.sshworld.specs.Worlds.{IsSameSetup, WorldData, waiting_for}
use Rattle.sshlab.specs.declared.scenario_line.Step.{Step}
use Rattle.sshlab.specs.declared.scenario_line.Step.TheVariants.{Deliver, Settle}

module _ {S D : Type 0} (meaning : S → SuiteData) (policy : D → DecisionsData) where
  -- what a step moves: one delivery, or so many rounds
  abbrev pub MovesByStep : Step → WorldData S D → WorldData S D → Type 0
  MovesByStep (Deliver delivery) old new = DoneBy meaning policy delivery old new
  MovesByStep (Settle rounds) old new = Rounds meaning policy rounds old new

  -- the first delivery of a step for which memory ran out
  abbrev pub StopsInStep : Step → WorldData S D → WorldData S D → Type 0
  StopsInStep (Deliver delivery) old new = Refused meaning policy delivery.to (min delivery.count (waiting_for delivery.to old)) old new
  StopsInStep (Settle rounds) old new = RoundsInto meaning policy rounds old new

  -- A step was done: it moved what it moves, in a world of the same configs, and each side has replied to what was moved to it.
  pub record StepDone (step : Step) (old new : WorldData S D) : Type 0 where
    pub moves : MovesByStep step old new
    pub setup : IsSameSetup old new
    pub replies : EachReplies meaning policy new

  -- the steps of a scenario, in order
  abbrev pub StepsDone : List Step → WorldData S D → WorldData S D → Type 0
  StepsDone [] old new = new ≡ old
  StepsDone (step ∷ later) old new = (mid : WorldData S D) × StepDone step old mid × StepsDone later mid new

  -- the first step for which memory ran out; those before it were done
  abbrev pub StopsInSteps : List Step → WorldData S D → WorldData S D → Type 0
  StopsInSteps [] old new = ⊥
  StopsInSteps (step ∷ later) old new = StopsInStep step old new ⊎ ((mid : WorldData S D) × StepDone step old mid × StopsInSteps later mid new)

  -- These steps lead to a world from a new one of these configs, of the same suite and of these decisions.
  pub record StepsLeadTo (client : ClientData) (server : ServerData) (decisions : D) (steps : List Step) (w : WorldData S D) : Type 0 where
    pub start : WorldData S D
    pub is_new : IsNew meaning policy start
    pub of_client : start.client_config ≡ client
    pub of_server : start.server_config ≡ server
    pub of_suite : start.suite ≡ w.suite
    pub of_decisions : start.decisions ≡ decisions
    pub led : StepsDone steps start w

-- a step of so many rounds at least
abbrev pub SettlesFor : ℕ → Step → Type 0
SettlesFor least (Deliver delivery) = ⊥
SettlesFor least (Settle rounds) = least ≤ rounds

-- The last step is one of so many rounds at least.
pub record EndsSettling (least : ℕ) (steps : List Step) : Type 0 where
  pub front : List Step
  pub last : Step
  pub is : steps ≡ front ++ last ∷ []
  pub settles : SettlesFor least last
