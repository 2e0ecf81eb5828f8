-- An asking endpoint that was paused and resumed with what it had.

use Rattle.std.proofs.Common.{◌≡◌, ◌∙◌, ℕ, List, subst, sym}
use Rattle.sshneg.specs.declared.side.Side.{Side}
use Rattle.sshpacket.specs.Suite.{SuiteData}
use Rattle.sshcore.specs.Asking.{AskingAfter, IsSameAsking, asked_by}
use Rattle.sshcore.specs.AskingData.{AskingData, asking_setup}
use Rattle.sshcore.specs.Dialogue.{IsRested}
use Rattle.sshcore.specs.EndpointParts.{ConfigData, DecisionsData, setup_with}
use Rattle.sshcore.specs.Paused.{IsResumed, PausedAfter, PausedData, asked_paused}

-- what resuming it in this role, with this config and this suite has kept
record Resumes {S : Type 0} (meaning : S → SuiteData) (role : Side) (config : ConfigData) (suite : S) (p : PausedData S) (new : AskingData S) : Type 0 where
  resumes : IsResumed role config suite p new
  follows : (d : DecisionsData) (h s : List ℕ) → PausedAfter (setup_with (meaning suite) d role config) p h s → AskingAfter meaning d new h s

module _ {S : Type 0} (meaning : S → SuiteData) (old new : AskingData S) (role : Side) (config : ConfigData) (suite : S)
    (role_is : old.role ≡ role) (config_is : old.config ≡ config) (suite_is : old.suite ≡ suite) (p : PausedData S) (resumes : IsResumed role config suite p new) where
  -- it is of the role, the config and the suite that it had
  pub rested_same : IsSameAsking old new
  rested_same = record {
    same_role = resumes.is_role ∙ sym role_is;
    same_config = resumes.is_config ∙ sym config_is;
    same_suite = resumes.is_suite ∙ sym suite_is;
  }

  -- and it was resumed with what it had
  pub rested : (pauses : (d : DecisionsData) (h s : List ℕ) → AskingAfter meaning d old h s → PausedAfter (asking_setup meaning d old) p h s)
      → asked_paused p ≡ asked_by old
      → ((d : DecisionsData) (h s : List ℕ) → PausedAfter (setup_with (meaning suite) d role config) p h s → AskingAfter meaning d new h s)
      → asked_by new ≡ asked_paused p → IsRested meaning old new
  rested pauses asked follows asks =
      let as_role : Resumes meaning old.role config suite p new = subst (λ (x : Side). Resumes meaning x config suite p new) (sym role_is) (record { resumes = resumes; follows = follows }) in
      let as_config : Resumes meaning old.role old.config suite p new = subst (λ (x : ConfigData). Resumes meaning old.role x suite p new) (sym config_is) as_role in
      let as_suite : Resumes meaning old.role old.config old.suite p new = subst (λ (x : S). Resumes meaning old.role old.config x p new) (sym suite_is) as_config in
      record {
        paused = p;
        pauses = pauses;
        asked = asked;
        resumes = as_suite.resumes;
        follows = as_suite.follows;
        asks = asks;
      }
