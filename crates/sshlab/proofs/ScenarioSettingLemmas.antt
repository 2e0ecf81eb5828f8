-- Settings that stood already, and whom a request can be.

use Rattle.std.proofs.Common.{◌≡◌, ◌∙◌, ◌↔◌, ◌++◌, ◌∷◌, [], ℕ, Bool, true, false, List, refl, sym, ap}
use Rattle.std.specs.Prelude.{◌&&◌, IfSome, OnOk, Option, None, Some, Result, Ok, Err, is_some}
use Rattle.std.specs.List.{Contains, list_any}
use Rattle.std.specs.Option.{option_and_then, option_flatten}
use Rattle.std.proofs.lemmas.Bool.{and_from, and_parts, both_ways}
use denote.Enum.Bare.{sameb, same_true, true_same}
use Rattle.sshneg.specs.declared.side.Side.{Side}
use Rattle.sshneg.specs.contracts.side.Side as side
use Rattle.sshlab.specs.declared.scenario_settings.Setting.{Setting}
use Rattle.sshlab.specs.contracts.scenario_settings.Setting as setting
use Rattle.sshwire.specs.Types.{IsName}
use Rattle.sshwire.specs.TypeReadings.{is_name}
use Rattle.sshwire.proofs.NameLemmas.{name_from_test, name_tested}
use Rattle.sshcore.specs.ConfigParts.{ByKey, ByNothing, ByPassword, CredentialData}
use Rattle.sshcore.specs.ConfigRules.{IsNamed}
use Rattle.sshlab.specs.ScenarioDrafts.{DraftData, after, after_line, noting}
use Rattle.sshlab.specs.ScenarioParts.{can_be_proved}
use Rattle.sshlab.specs.ScenarioSettings.{setting_in}
use Rattle.sshlab.specs.ScenarioText.{CanFollow, statement_in}
use Rattle.sshlab.specs.Scenarios.{StatementData, statement}
use Rattle.sshlabsuites.proofs.DecisionLaws.{any_is}

abbrev is_made : Side × Setting → Side × Setting → Bool
is_made one other = sameb side.the_type one.0 other.0 && sameb setting.the_type one.1 other.1

same_made : (one other : Side × Setting) → is_made one other ≡ true → one ≡ other
same_made one other e =
    let parts = and_parts (sameb side.the_type one.0 other.0) (sameb setting.the_type one.1 other.1) e in
    ap (λ (x : Side). (x, one.1)) (same_true side.the_type tt one.0 other.0 parts.0)
    ∙ ap (λ (x : Setting). (other.0, x)) (same_true setting.the_type tt one.1 other.1 parts.1)

own_made : (one : Side × Setting) → is_made one one ≡ true
own_made one = and_from _ _ (true_same side.the_type one.0 one.0 refl) (true_same setting.the_type one.1 one.1 refl)

-- a setting is found exactly where it is one of them
pub made_is : (made : List (Side × Setting)) (one : Side × Setting) → (list_any (λ other. is_made other one) made ≡ true) ↔ Contains made one
made_is made one = any_is (λ other. is_made other one) one (λ other e. same_made other one e) (own_made one) made

pub not_made : (made : List (Side × Setting)) (one : Side × Setting) → list_any (λ other. is_made other one) made ≡ false → Contains made one → ⊥
not_made made one e have = both_ways (list_any (λ other. is_made other one) made) e ((made_is made one).1 have)

-- what holds whatever the result is
pub holds_at_ok : {T E P : Type 0} (result : Result T E) → P → OnOk result P
holds_at_ok (Ok x) p = p
holds_at_ok (Err e) p = tt

module _ (line : List ℕ) (d : DraftData) where
  -- a line that says nothing
  pub silent_follows : statement line ≡ Some None → CanFollow d.settings line × (d ≡ after_line d line)
  unfolding after_line
  silent_follows e = (
    record { form = λ none. cc; new = rw e tt },
    rw e refl,
  )

  module _ (stated : StatementData) (states : statement line ≡ Some (Some stated)) (new mid : DraftData) (gives : new ≡ after mid stated) where
    statement_is : statement_in line ≡ Some stated
    statement_is = ap option_flatten states

    gives_line : mid ≡ noting d (setting_in stated) → new ≡ after_line d line
    unfolding after_line
    gives_line noted = gives ∙ (ap (λ (m : DraftData). after m stated) noted ∙ rw statement_is refl)

    pub setting_follows : (one : Side × Setting) → setting_in stated ≡ Some one → (Contains d.settings one → ⊥)
        → mid ≡ record d { settings = d.settings ++ one ∷ [] } → CanFollow d.settings line × (new ≡ after_line d line)
    setting_follows one is free noted =
        let made : option_and_then setting_in (statement_in line) ≡ Some one = ap (option_and_then setting_in) statement_is ∙ is in (
          record { form = λ none. cc; new = rw made free },
          gives_line (noted ∙ ap (noting d) (sym is)),
        )

    pub other_follows : setting_in stated ≡ None → mid ≡ d → CanFollow d.settings line × (new ≡ after_line d line)
    other_follows is same =
        let made : option_and_then setting_in (statement_in line) ≡ None = ap (option_and_then setting_in) statement_is ∙ is in (
          record { form = λ none. cc; new = rw made tt },
          gives_line (same ∙ ap (noting d) (sym is)),
        )

-- whom a request can be
pub named : (proving : CredentialData) → can_be_proved proving ≡ true → IsNamed proving
named ByNothing e = tt
named (ByPassword password) e = tt
named (ByKey algorithm secret ask) e = name_from_test algorithm e

not_tested_by : (algorithm : List ℕ) (b : Bool) → is_name algorithm ≡ b → (IsName algorithm → ⊥) → b ≡ false
not_tested_by algorithm true e none = absurd (none (name_from_test algorithm e))
not_tested_by algorithm false e none = refl

not_tested : (algorithm : List ℕ) → (IsName algorithm → ⊥) → is_name algorithm ≡ false
not_tested algorithm none = not_tested_by algorithm (is_name algorithm) refl none

pub named_test : {A : Type 0} (view : A → List ℕ) (bytes : List ℕ) (found : Option A) → IfSome found (λ name. (view name ≡ bytes) × IsName bytes)
    → (found ≡ None → IsName bytes → ⊥) → is_some found ≡ is_name bytes
named_test view bytes None sound complete = sym (not_tested bytes (complete refl))
named_test view bytes (Some name) sound complete = sym (name_tested bytes sound.1)
