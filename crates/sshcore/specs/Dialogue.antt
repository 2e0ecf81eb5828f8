-- Calls of an asking endpoint one after another, with the answers that its caller gave.

use Rattle.std.specs.Prelude.{◌≡◌, ℕ, List, [], ◌∷◌, ◌++◌, Some}
use Rattle.sshneg.specs.declared.side.Side.{Side}
use Rattle.sshpacket.specs.Suite.{SuiteData}
use Rattle.sshcore.specs.AskedQuestions.{AnsweredData}
use Rattle.sshcore.specs.Asking.{Answered, AskingAfter, AskingCuts, AskingFed, AskingLeaves, AskingMade, asked_by, asking_end}
use Rattle.sshcore.specs.AskingData.{AskingData, WaitingData, asking_setup}
use Rattle.sshcore.specs.EndData.{Open}
use Rattle.sshcore.specs.EndpointParts.{ConfigData, DecisionsData}
use Rattle.sshcore.specs.Paused.{IsResumed, PausedAfter, PausedData, asked_paused}
use Rattle.sshcore.specs.QuestionAt.{question_at}
use Rattle.sshcore.specs.Questions.{AnswerData, QuestionData, taken}
use Rattle.sshcore.specs.StateData.{state_data}

-- what an endpoint asks is what the packet asks that waits, as `question` promises
abbrev pub AsksByPacket : {S : Type 0} → (S → SuiteData) → AskingData S → Type 0
AsksByPacket meaning e =
    (w : WaitingData) → e.waiting ≡ Some w → asking_end e ≡ Open → question_at (meaning e.suite) e.role e.config (state_data e.state) w.payload ≡ Some w.question

-- An asking endpoint was paused and resumed, each as its contract says, in the role and with the config and the suite that it had.
pub record IsRested {S : Type 0} (meaning : S → SuiteData) (old new : AskingData S) : Type 0 where
  pub paused : PausedData S
  pub pauses : (d : DecisionsData) (h s : List ℕ) → AskingAfter meaning d old h s → PausedAfter (asking_setup meaning d old) paused h s
  pub asked : asked_paused paused ≡ asked_by old
  pub resumes : IsResumed old.role old.config old.suite paused new
  pub follows : (d : DecisionsData) (h s : List ℕ) → PausedAfter (asking_setup meaning d old) paused h s → AskingAfter meaning d new h s
  pub asks : asked_by new ≡ asked_paused paused

-- By these calls, each as its contract tells, an endpoint has come to stand so: it was given these answers, in order, and has used and
-- appended these bytes. It was made; or before the last call it stood as `old` does, and was fed, answered, paused and resumed, cut off,
-- or told to disconnect. A call that fed it and used nothing asks nothing else.
pub data Dialogue {S : Type 0} (meaning : S → SuiteData) : AskingData S → List AnsweredData → List ℕ → List ℕ → Type 0 where
  Makes : (role : Side) (config : ConfigData) (suite : S) (new : AskingData S) (before after : List ℕ) (made : AskingMade meaning role config suite new before after)
      → Dialogue meaning new [] [] made.added
  Feeds : (old new : AskingData S) (answers : List AnsweredData) (h s taken before after : List ℕ) → Dialogue meaning old answers h s
      → (fed : AskingFed meaning old new taken before after) → (taken ≡ [] → asked_by new ≡ asked_by old) → Dialogue meaning new answers (h ++ taken) (s ++ fed.added)
  Answers : (old new : AskingData S) (answers : List AnsweredData) (question : QuestionData) (answer : AnswerData) (h s before after : List ℕ) → Dialogue meaning old answers h s
      → AsksByPacket meaning old → asked_by old ≡ Some question → (answered : Answered meaning (taken question answer) old new before after)
      → Dialogue meaning new (answers ++ record { question = question; answer = taken question answer } ∷ []) h (s ++ answered.added)
  Rests : (old new : AskingData S) (answers : List AnsweredData) (h s : List ℕ) → Dialogue meaning old answers h s → IsRested meaning old new
      → Dialogue meaning new answers h s
  Cuts : (old new : AskingData S) (answers : List AnsweredData) (h s : List ℕ) → Dialogue meaning old answers h s → AskingCuts meaning old new
      → Dialogue meaning new answers h s
  Leaves : (old new : AskingData S) (answers : List AnsweredData) (reason : ℕ) (description h s before after : List ℕ) → Dialogue meaning old answers h s
      → AskingLeaves meaning old new reason description before after → Dialogue meaning new answers h s
