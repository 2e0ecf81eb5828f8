-- How an endpoint that asks goes on within a call.

use Rattle.std.specs.Prelude.{◌≡◌, ℕ, ◌≤◌, false, List, ◌++◌, length, take, None}
use Rattle.sshpacket.specs.Suite.{SuiteData}
use Rattle.sshcore.specs.Asking.{AskingAfter, AskingFed, IsSameAsking, asked_by, asking_end}
use Rattle.sshcore.specs.AskingData.{AskingData}
use Rattle.sshcore.specs.EndData.{Open, by_input}
use Rattle.sshcore.specs.EndpointParts.{DecisionsData}

-- It was fed with so many of these bytes: all, unless it has ended or asks. A call that used none asks nothing else. What was received
-- alone ends it.
pub record IsReadOn {S : Type 0} (meaning : S → SuiteData) (old new : AskingData S) (rest : List ℕ) (used : ℕ) (before after : List ℕ) : Type 0 where
  pub fed : AskingFed meaning old new (take used rest) before after
  pub within : used ≤ length rest
  pub whole : asking_end new ≡ Open → asked_by new ≡ None → used ≡ length rest
  pub nothing : used ≡ 0 → asked_by new ≡ asked_by old
  pub owned : by_input (asking_end new) ≡ false → asking_end old ≡ asking_end new

-- By these decisions it has received these bytes more, and sent what was appended. What was received alone ends it.
pub record CarriesOn {S : Type 0} (meaning : S → SuiteData) (d : DecisionsData) (old new : AskingData S) (taken before after : List ℕ) : Type 0 where
  pub added : List ℕ
  pub appended : after ≡ before ++ added
  pub follows : (h s : List ℕ) → AskingAfter meaning d old h s → AskingAfter meaning d new (h ++ taken) (s ++ added)
  pub owned : by_input (asking_end new) ≡ false → asking_end old ≡ asking_end new
  pub same : IsSameAsking old new
