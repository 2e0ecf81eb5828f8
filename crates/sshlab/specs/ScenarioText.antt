-- What the lines of a scenario's text say, and when they can be read.

use Rattle.std.specs.Prelude.{◌≢◌, ◌-◌, ◌≤◌, ℕ, List, take, length, Option, None, IfSome}
use Rattle.std.specs.List.{AllByRecursion, AllPairs, Contains, filter_map}
use Rattle.std.specs.Option.{option_and_then, option_flatten}
use Rattle.sshneg.specs.declared.side.Side.{Side}
use Rattle.sshlab.specs.declared.scenario_settings.Setting.{Setting}
use Rattle.sshlab.specs.ScenarioSettings.{setting_in}
use Rattle.sshlab.specs.Scenarios.{StatementData, statement}

-- what a line says, where it is neither empty nor unreadable
abbrev pub statement_in : List ℕ → Option StatementData
statement_in line = option_flatten (statement line)

-- what the lines say, in their order, those left out that say nothing
unfoldable pub statements_in : List (List ℕ) → List StatementData
statements_in ls = filter_map statement_in ls

-- the settings that the lines make
abbrev pub settings : List (List ℕ) → List (Side × Setting)
settings ls = filter_map setting_in (statements_in ls)

-- The lines can be read: each has a form, and no two make one setting of one side.
pub record CanBeRead (ls : List (List ℕ)) : Type 0 where
  pub forms : AllByRecursion (λ line. statement line ≢ None) ls
  pub once : AllPairs (λ one other. one ≢ other) (settings ls)

-- Line k, counted from 1, is the first bad one: the lines before it can be read, and with it they can't.
pub record IsFirstBad (k : ℕ) (ls : List (List ℕ)) : Type 0 where
  pub from_one : 1 ≤ k
  pub within : k ≤ length ls
  pub before : CanBeRead (take (k - 1) ls)
  pub bad : CanBeRead (take k ls) → ⊥

-- A line can stand after others that made these settings: it has a form, and makes none of them.
pub record CanFollow (made : List (Side × Setting)) (line : List ℕ) : Type 0 where
  pub form : statement line ≢ None
  pub new : IfSome (option_and_then setting_in (statement_in line)) (λ setting. Contains made setting → ⊥)
