-- The lines of a text, a scenario's or a recording's.

use Rattle.std.specs.Prelude.{ℕ, List}
use Rattle.sshlab.specs.ScenarioFields.{parts}

-- what stands between the LFs; after one at the end there is an empty line
abbrev pub lines : List ℕ → List (List ℕ)
lines text = parts 10 text
