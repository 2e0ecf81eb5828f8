-- Whether a signature is one, as a number.

use Rattle.std.specs.Prelude.{◌≡◌, ◌≢◌, ◌⊎◌, ℕ, true, false, List}
use Rattle.sshpacket.specs.Suite.{SuiteData}
use Rattle.rezdolin.specs.declared.inputs.TheConstants.{ANSWER_NO, ANSWER_YES}

-- What a program is told of a signature of an input by a public key and an algorithm: yes or no, as the suite verifies it, of an algorithm
-- that the suite has; or 0, which says neither.
pub record IsVerdict (m : SuiteData) (algorithm key input signature : List ℕ) (verdict : ℕ) : Type 0 where
  pub one_of : (verdict ≡ ANSWER_YES) ⊎ ((verdict ≡ ANSWER_NO) ⊎ (verdict ≡ 0))
  pub yes : verdict ≡ ANSWER_YES → m.verify algorithm key input signature ≡ true
  pub no : verdict ≡ ANSWER_NO → m.verify algorithm key input signature ≡ false
  pub known : verdict ≢ 0 → (m.can algorithm).signature ≡ true
