-- An endpoint that is paused keeps what it is resumed with.

use Rattle.std.proofs.Common.{◌≡◌, ℕ, zero, suc, ◌-◌, Bool, List, [], ◌∷◌, drop, take, length, map, Option, None, Some, sym, ap, ◌∙◌, subst}
use Rattle.std.specs.List.{AllByRecursion}
use Rattle.std.specs.Prelude.{not}
use Rattle.std.proofs.lemmas.List.{drop-map, length-map, take_rest}
use Rattle.sshneg.specs.declared.side.Side.{Side}
use Rattle.sshpacket.specs.Suite.{SuiteData}
use Rattle.sshcore.specs.declared.input.Input.{Input}
use Rattle.sshcore.specs.declared.state.State.{State}
use Rattle.sshcore.specs.AskingData.{WaitingData}
use Rattle.sshcore.specs.Brings.{IsOngoing}
use Rattle.sshcore.specs.ConfigParts.{AttemptData}
use Rattle.sshcore.specs.ConfigView.{attempt_data}
use Rattle.sshcore.specs.EndData.{EndData}
use Rattle.sshcore.specs.EndpointParts.{ConfigData, Setup}
use Rattle.sshcore.specs.Inputs.{EndpointStands, IsInside, StandsSo}
use Rattle.sshcore.specs.Keeping.{FitsConfig, IsRest}
use Rattle.sshcore.specs.Paused.{FitsPaused, PausedData, kept_with, with_left}
use Rattle.sshcore.specs.Plan.{is_waiting}
use Rattle.sshcore.specs.StateData.{StateData, left_of, state_data}
use Rattle.sshcore.specs.Unread.{AskingStands, IsAsked, IsAskedBy, IsAskingEndpoint}
use Rattle.sshcore.proofs.KeepingLemmas.{length_left, rest_back}

-- the last elements of a list are those from a place on
pub last_are : {X Y : Type 0} (f : X → Y) (xs : List X) (from left : ℕ) → from ≡ length xs - left
    → map f (take (length xs - from) (drop from xs)) ≡ drop (length (map f xs) - left) (map f xs)
last_are f xs from left e =
    ap (map f) (take_rest xs from) ∙ sym (drop-map f from xs) ∙ ap (λ (k : ℕ). drop k (map f xs)) (e ∙ ap (λ (n : ℕ). n - left) (sym (length-map xs f)))

-- what all are, those from a place on are
pub all_from : {X : Type 0} (P : X → Type 0) (k : ℕ) (xs : List X) → AllByRecursion P xs → AllByRecursion P (drop k xs)
all_from P zero xs all = all
all_from P (suc k) [] all = all
all_from P (suc k) (x ∷ xs) all = all_from P k xs all.1

-- What is kept is the same where the session goes on, and ends the same otherwise.
module _ (old new : StateData) (same_end : new.end ≡ old.end) (same : IsOngoing old.end → new ≡ old) where
  goes_on : IsOngoing new.end → IsOngoing old.end
  goes_on o = subst IsOngoing same_end o

  stands_as : (setup : Setup) (i : Input) (h s : List ℕ) → EndpointStands setup old i h s → EndpointStands setup new i h s
  stands_as setup i h s a = record {
    units = a.units;
    sizes = a.sizes;
    rest = a.rest;
    refusal = a.refusal;
    answers = a.answers;
    received_end = a.received_end;
    history = a.history;
    ends = subst (λ (e : EndData). StandsSo a.received_end e) (sym same_end) a.ends;
    inside = λ o. subst (λ (k : StateData). IsInside setup a.units a.answers a.sizes a.rest k i) (sym (same (goes_on o))) (a.inside (goes_on o));
  }

  pub asking_stands_as : (setup : Setup) (j : Input) (w : Option WaitingData) (h s : List ℕ) → AskingStands setup old j w h s → AskingStands setup new j w h s
  asking_stands_as setup j w h s a = record {
    earlier = a.earlier;
    reader = a.reader;
    stands = stands_as setup a.reader a.earlier s a.stands;
    unread = a.unread;
  }

  asked_as : (m : SuiteData) (role : Side) (config : ConfigData) (j : Input) (w : Option WaitingData) → IsAskedBy m role config old j w → IsAskedBy m role config new j w
  asked_as m role config j None a = tt
  asked_as m role config j (Some w) a = λ o. subst (λ (k : StateData). IsAsked m role config k j w) (sym (same (goes_on o))) (a (goes_on o))

  pub asking_as : (m : SuiteData) (role : Side) (config : ConfigData) (j : Input) (w : Option WaitingData) → IsAskingEndpoint m role config old j w → IsAskingEndpoint m role config new j w
  asking_as m role config j w a = record {
    reads = λ o. a.reads (goes_on o);
    asked = asked_as m role config j w a.asked;
    keeps = λ o. subst (λ (k : StateData). FitsConfig m config k) (sym (same (goes_on o))) (a.keeps (goes_on o));
  }

-- It may be resumed with what is the same.
pub fits_as : {S : Type 0} (meaning : S → SuiteData) (role r : Side) (config q : ConfigData) (suite t : S) (p : PausedData S) → role ≡ r → config ≡ q → suite ≡ t
    → FitsPaused meaning role config suite p → FitsPaused meaning r q t p
fits_as {S} meaning role r config q suite t p same_role same_config same_suite fits =
    subst (λ (x : Side). FitsPaused meaning x q t p) same_role
    (subst (λ (x : ConfigData). FitsPaused meaning role x t p) same_config (subst (λ (x : S). FitsPaused meaning role config x p) same_suite fits))

-- A state that is kept without its plan.
module _ (plan : List AttemptData) (old kept : State) (left : ℕ) (left_is : left ≡ length old.left.now) (waits : Bool) (waits_is : waits ≡ is_waiting (state_data old).known.left)
    (confirmed_is : kept.confirmed ≡ not waits) (kept_is : state_data kept ≡ with_left (left_of (not waits) []) (state_data old)) where
  -- what is kept, with the last of the plan
  pub kept_as : kept_with plan kept left ≡ with_left (left_of kept.confirmed (drop (length plan - left) plan)) (state_data old)
  kept_as = ap (with_left (left_of kept.confirmed (drop (length plan - left) plan))) kept_is

  pub kept_end : (kept_with plan kept left).end ≡ (state_data old).end
  kept_end = ap (λ (k : StateData). k.end) kept_is

  length_is : left ≡ length (state_data old).known.left
  length_is = left_is ∙ sym (length-map old.left.now attempt_data) ∙ sym (length_left old.confirmed (map attempt_data old.left.now))

  -- is what was there, if that has a rest of the plan
  pub kept_same : IsRest plan (state_data old).known.left → kept_with plan kept left ≡ state_data old
  kept_same r =
      kept_as ∙ ap (λ (b : Bool). with_left (left_of b (drop (length plan - left) plan)) (state_data old)) (confirmed_is ∙ ap not waits_is)
      ∙ ap (λ (n : ℕ). with_left (left_of (not (is_waiting (state_data old).known.left)) (drop (length plan - n) plan)) (state_data old)) length_is
      ∙ ap (λ (l : List AttemptData). with_left l (state_data old)) (rest_back plan (state_data old).known.left r)

  -- and but for the plan it always is
  pub kept_but_plan : with_left [] (kept_with plan kept left) ≡ with_left [] (state_data old)
  kept_but_plan = ap (with_left []) kept_as

-- What is paused may be resumed, as what was there.
pub paused_fits : {S : Type 0} (meaning : S → SuiteData) (config : ConfigData) (suite : S) (old : State) (p : PausedData S) → p.left ≡ length old.left.now → (waits : Bool) → waits ≡ is_waiting (state_data old).known.left
    → p.state.confirmed ≡ not waits → state_data p.state ≡ with_left (left_of (not waits) []) (state_data old) → (role : Side) → p.role ≡ role → p.configs ≡ config ∷ [] → p.suites ≡ suite ∷ []
    → IsAskingEndpoint (meaning suite) role config (state_data old) p.input p.waiting → FitsPaused meaning role config suite p
paused_fits meaning config suite old p left_is waits waits_is confirmed_is kept_is role role_is config_is suite_is asking = record {
  is_role = role_is;
  is_config = config_is;
  is_suite = suite_is;
  fits = asking_as (state_data old) (kept_with config.plan p.state p.left) (kept_end config.plan old p.state p.left left_is waits waits_is confirmed_is kept_is)
      (λ o. kept_same config.plan old p.state p.left left_is waits waits_is confirmed_is kept_is ((asking.keeps o).rest)) (meaning suite) role config p.input p.waiting asking;
}
