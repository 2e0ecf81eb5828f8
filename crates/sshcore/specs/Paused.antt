-- An asking endpoint that is paused: what changes of it, without what it borrows.

use Rattle.std.specs.Prelude.{◌≡◌, ◌-◌, ℕ, List, [], ◌∷◌, Option, drop, length}
use Rattle.sshneg.specs.declared.side.Side.{Side}
use Rattle.sshpacket.specs.Suite.{SuiteData}
use Rattle.sshcore.specs.declared.config_draws.Draws.{Draws}
use Rattle.sshcore.specs.declared.input.Input.{Input}
use Rattle.sshcore.specs.declared.state.State.{State}
use Rattle.sshcore.specs.Asking.{asked_at, asking_end}
use Rattle.sshcore.specs.AskingData.{AskingData, WaitingData}
use Rattle.sshcore.specs.Brings.{IsOngoing}
use Rattle.sshcore.specs.ConfigParts.{AttemptData}
use Rattle.sshcore.specs.EndData.{EndData, end_data}
use Rattle.sshcore.specs.EndpointParts.{ConfigData, Setup}
use Rattle.sshcore.specs.Questions.{QuestionData}
use Rattle.sshcore.specs.StateData.{StateData, left_of, state_data}
use Rattle.sshcore.specs.Unread.{AskingStands, IsAskingEndpoint}

-- the draws of its connection, its role, its config with these draws, and its suite, each alone in a list; what it keeps, which no layer
-- above opens; how many attempts are left of its plan, since it has none of them; and the packet that waits for its answer, where one does
pub record PausedData (S : Type 0) : Type 0 where
  pub draws : Draws
  pub role : Side
  pub configs : List ConfigData
  pub suites : List S
  pub input : Input
  pub state : State
  pub left : ℕ
  pub waiting : Option WaitingData

-- what is kept, with these attempts left of the plan
abbrev pub with_left : List AttemptData → StateData → StateData
with_left left kept = record kept { known = record kept.known { left = left } }

-- what is kept, with the last attempts of this plan left, so many of them
abbrev pub kept_with : List AttemptData → State → ℕ → StateData
kept_with plan state left = with_left (left_of state.confirmed (drop (length plan - left) plan)) (state_data state)

-- what a paused endpoint keeps, where this is its config
abbrev pub kept_by : {S : Type 0} → ConfigData → PausedData S → StateData
kept_by config p = kept_with config.plan p.state p.left

-- how a paused endpoint is: open, authenticated, failed, closed or disconnected
abbrev pub paused_end : {S : Type 0} → PausedData S → EndData
paused_end p = end_data p.state.end

-- what a paused endpoint asks: what the waiting packet asks, while the endpoint is open
abbrev pub asked_paused : {S : Type 0} → PausedData S → Option QuestionData
asked_paused p = asked_at (paused_end p) p.waiting

-- A paused endpoint may be resumed in this role, with this config and this suite: they are those with which it was paused, and what it
-- keeps is what is true of every asking endpoint.
pub record FitsPaused {S : Type 0} (meaning : S → SuiteData) (role : Side) (config : ConfigData) (suite : S) (p : PausedData S) : Type 0 where
  pub is_role : p.role ≡ role
  pub is_config : p.configs ≡ config ∷ []
  pub is_suite : p.suites ≡ suite ∷ []
  pub fits : IsAskingEndpoint (meaning suite) role config (kept_by config p) p.input p.waiting

-- A paused endpoint has received and sent these bytes, in this setup (RFC 4253 sections 4 to 11).
abbrev pub PausedAfter : {S : Type 0} → Setup → PausedData S → List ℕ → List ℕ → Type 0
PausedAfter setup p h s = AskingStands setup (kept_by setup.config p) p.input p.waiting h s

-- This asking endpoint is paused: it has the same role, reader and waiting packet, and keeps the same. Once it has ended nothing reads the
-- rest of its plan, which is then not kept.
pub record IsPaused {S : Type 0} (e : AskingData S) (p : PausedData S) : Type 0 where
  pub same_role : p.role ≡ e.role
  pub same_config : p.configs ≡ e.config ∷ []
  pub same_suite : p.suites ≡ e.suite ∷ []
  pub same_input : p.input ≡ e.input
  pub same_waiting : p.waiting ≡ e.waiting
  pub same_state : with_left [] (kept_by e.config p) ≡ with_left [] (state_data e.state)
  pub same_plan : IsOngoing (asking_end e) → kept_by e.config p ≡ state_data e.state

-- A paused endpoint is resumed as an asking one of this role, config and suite. It has the same reader and the same waiting packet, and
-- keeps with this config what was kept.
pub record IsResumed {S : Type 0} (role : Side) (config : ConfigData) (suite : S) (p : PausedData S) (e : AskingData S) : Type 0 where
  pub is_role : e.role ≡ role
  pub is_config : e.config ≡ config
  pub is_suite : e.suite ≡ suite
  pub same_input : e.input ≡ p.input
  pub same_waiting : e.waiting ≡ p.waiting
  pub same_state : state_data e.state ≡ kept_by config p
