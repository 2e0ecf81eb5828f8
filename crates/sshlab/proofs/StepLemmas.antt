-- Steps of a scenario, one after another.

use Rattle.std.proofs.Common.{◌≡◌, ◌∙◌, ℕ, zero, suc, ◌+◌, ◌<◌, inl, inr, List, [], ◌∷◌, ◌++◌, length, take, min, Result, Ok, Err, refl, sym, ap, subst, arith, get_or}
use Rattle.std.specs.Result.{OnErr}
use Rattle.std.proofs.lemmas.List.{length-append, take_more}
use Rattle.sshpacket.specs.Suite.{SuiteData}
use Rattle.sshcore.specs.ConfigParts.{ClientData}
use Rattle.sshcore.specs.EndpointParts.{DecisionsData}
use Rattle.sshworld.specs.Offered.{most_requests}
use Rattle.sshworld.specs.declared.side.Delivery.{Delivery}
use Rattle.sshworld.specs.Deliveries.{Delivered}
use Rattle.sshworld.specs.WorldCourse.{AreCompatibleIn, WorldHolds}
use Rattle.sshworld.specs.Worlds.{Complete, HadMemory, IsSameSetup, WorldData, waiting_for}
use Rattle.sshlab.specs.declared.scenario_line.Step.{Step}
use Rattle.sshlab.specs.declared.scenario_line.Step.TheVariants.{Deliver}
use Rattle.sshlab.specs.Steps.{EndsSettling, StepDone, StopsInStep, SettlesFor, StepsDone, StopsInSteps}

-- two lists that are the same end alike
last_same : (xs ys : List Step) (x y : Step) → xs ++ x ∷ [] ≡ ys ++ y ∷ [] → x ≡ y
last_same [] [] x y e = cc
last_same [] (b ∷ ys) x y e = let n = ap length e in let m = length-append ys (y ∷ []) in absurd (omega (arith, n, m))
last_same (a ∷ xs) [] x y e = let n = ap length e in let m = length-append xs (x ∷ []) in absurd (omega (arith, n, m))
last_same (a ∷ xs) (b ∷ ys) x y e = let rest : xs ++ x ∷ [] ≡ ys ++ y ∷ [] = cc in last_same xs ys x y rest

-- the last of the first i + 1 steps
pub settles_at : (steps : List Step) (i : ℕ) (default : Step) (least : ℕ) → i < length steps → EndsSettling least (take (i + 1) steps)
    → SettlesFor least (get_or steps i default)
settles_at steps i default least lt e =
    let one : get_or steps i default ≡ e.last = last_same (take i steps) e.front _ e.last (sym (take_more steps i default lt) ∙ e.is) in
    subst (λ (step : Step). SettlesFor least step) (sym one) e.settles

module _ {S D : Type 0} (meaning : S → SuiteData) (policy : D → DecisionsData) where
  -- a delivery that answered how many bytes it moved
  pub delivery_done : (step : Step) (delivery : Delivery) (n : ℕ) (old new : WorldData S D) → step ≡ Deliver delivery → n ≡ min delivery.count (waiting_for delivery.to old)
      → Delivered delivery.to n old new → IsSameSetup old new → WorldHolds meaning policy new → StepDone meaning policy step old new
  delivery_done step delivery n old new is count d setup holds =
      subst (λ (s : Step). StepDone meaning policy s old new) (sym is)
      (record {
        moves = record { delivered = subst (λ (k : ℕ). Delivered delivery.to k old new) count d; setup = setup; holds = holds };
        setup = setup;
        replies = holds.replies;
      })

  steps_push : (steps : List Step) (step : Step) (old mid new : WorldData S D) → StepsDone meaning policy steps old mid → StepDone meaning policy step mid new
      → StepsDone meaning policy (steps ++ step ∷ []) old new
  steps_push [] step old mid new e s = (new, subst (λ (w : WorldData S D). StepDone meaning policy step w new) e s, refl)
  steps_push (x ∷ steps) step old mid new (next, first, later) s = (next, first, steps_push steps step next mid new later s)

  -- one step more
  pub step_more : (steps : List Step) (i : ℕ) (default : Step) (old mid new : WorldData S D) → i < length steps → StepsDone meaning policy (take i steps) old mid
      → StepDone meaning policy (get_or steps i default) mid new → StepsDone meaning policy (take (i + 1) steps) old new
  step_more steps i default old mid new lt before s =
      subst (λ (q : List Step). StepsDone meaning policy q old new) (sym (take_more steps i default lt))
      (steps_push (take i steps) (get_or steps i default) old mid new before s)

  -- a step for which memory ran out
  pub steps_into : (steps : List Step) (i : ℕ) (default : Step) (old mid new : WorldData S D) → i < length steps → StepsDone meaning policy (take i steps) old mid
      → StopsInStep meaning policy (get_or steps i default) mid new → StopsInSteps meaning policy steps old new
  steps_into [] i default old mid new lt before stop = absurd (omega arith)
  steps_into (step ∷ steps) zero default old mid new lt e stop = inl (subst (λ (w : WorldData S D). StopsInStep meaning policy step w new) e stop)
  steps_into (step ∷ steps) (suc i) default old mid new lt (next, first, later) stop = inr (next, first, steps_into steps i default next mid new (omega arith) later stop)

  -- Two ends that understood each other still do.
  compatible_on : (old new : WorldData S D) → IsSameSetup old new → AreCompatibleIn meaning policy old → AreCompatibleIn meaning policy new
  compatible_on old new same u =
      rw (same.same_client_config, same.same_server_config, same.same_suite, same.same_decisions) u

  -- one step more, and it may settle all
  pub settled_more : (steps : List Step) (i : ℕ) (default : Step) (old mid new : WorldData S D) → i < length steps → IsSameSetup old mid → (HadMemory old → HadMemory mid)
      → (AreCompatibleIn meaning policy mid → HadMemory mid → SettlesFor (most_requests mid.client_config.plan + 4) (get_or steps i default) → Complete new)
      → AreCompatibleIn meaning policy old → HadMemory old → EndsSettling (most_requests old.client_config.plan + 4) (take (i + 1) steps) → Complete new
  settled_more steps i default old mid new lt same still settled u had ends =
      let few : SettlesFor (most_requests old.client_config.plan + 4) (get_or steps i default) = settles_at steps i default _ lt ends in
      settled (compatible_on old mid same u) (still had)
      (subst (λ (config : ClientData). SettlesFor (most_requests config.plan + 4) (get_or steps i default)) (sym same.same_client_config) few)

-- what changes no config, suite or decisions twice, changes none
module _ {S D : Type 0} where
  pub setup_then : (a b c : WorldData S D) → IsSameSetup a b → IsSameSetup b c → IsSameSetup a c
  setup_then a b c x y = record {
    same_client_config = y.same_client_config ∙ x.same_client_config;
    same_server_config = y.same_server_config ∙ x.same_server_config;
    same_suite = y.same_suite ∙ x.same_suite;
    same_decisions = y.same_decisions ∙ x.same_decisions;
  }

module _ {T E : Type 0} where
  pub at_err : {P : Type 0} (r : Result T E) → P → OnErr r P
  at_err (Ok x) p = tt
  at_err (Err e) p = p
