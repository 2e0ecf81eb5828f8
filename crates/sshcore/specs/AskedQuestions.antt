-- The questions that an endpoint asks by the payloads that it received, and the decisions that give answers to them.

use Rattle.std.specs.Prelude.{⊤, ◌≡◌, ℕ, ◌<◌, List, [], ◌∷◌, ◌++◌, Option, None, Some}
use Rattle.std.specs.List.{AllByRecursion}
use Rattle.sshpacket.specs.Places.{flat_places}
use Rattle.sshpacket.specs.Stream.{Units}
use Rattle.sshcore.specs.EndpointParts.{DecisionsData, Setup}
use Rattle.sshcore.specs.KnownBefore.{known_at}
use Rattle.sshcore.specs.QuestionAt.{disposition_question}
use Rattle.sshcore.specs.Questions.{AnswerData, HostKeyQuestion, QuestionData, SignatureQuestion, UserQuestion, decided, taken}
use Rattle.sshcore.specs.Replies.{disposition_at}

-- what a payload asks after those before it
abbrev pub question_after : Setup → List ℕ → Units → List ℕ → Option QuestionData
question_after setup version before payload =
    disposition_question setup.suite setup.role setup.config (known_at setup version before) (disposition_at setup.role setup.config before payload) payload

-- one question or none, as a list
abbrev pub asked : Option QuestionData → List QuestionData
asked None = []
asked (Some question) = question ∷ []

-- what these payloads ask, in order; the text of the version line stands apart, and asks nothing
unfoldable pub questions_at : Setup → List ℕ → Units → List QuestionData
questions_at setup version before = flat_places (λ b payload. asked (question_after setup version b payload)) [] before

-- Two questions may be asked in this order: of two on requests the second has the greater number, of two for signatures the lower
-- one, and no second one is on a host key.
abbrev pub ComesLater : QuestionData → QuestionData → Type 0
ComesLater (HostKeyQuestion algorithm blob) (HostKeyQuestion other_algorithm other_blob) = ⊥
ComesLater (UserQuestion number user service proof signed) (UserQuestion other_number other_user other_service other_proof other_signed) = number < other_number
ComesLater (SignatureQuestion number algorithm blob input) (SignatureQuestion other_number other_algorithm other_blob other_input) = other_number < number
ComesLater one other = ⊤

-- Each is asked once: of any two of them the one that stands later comes later.
abbrev pub IsAskedOnce : List QuestionData → Type 0
IsAskedOnce questions =
    (before between after : List QuestionData) (one other : QuestionData) → questions ≡ before ++ one ∷ (between ++ other ∷ after) → ComesLater one other

-- a question with the answer that was given
pub record AnsweredData : Type 0 where
  pub question : QuestionData
  pub answer : AnswerData

-- an answer is of its question's kind: taken as one of that it stays what it is
abbrev pub IsTaken : AnsweredData → Type 0
IsTaken a = taken a.question a.answer ≡ a.answer

-- these decisions give all these answers
abbrev pub GiveAll : DecisionsData → List AnsweredData → Type 0
GiveAll d answers = AllByRecursion (λ a. decided d a.question ≡ a.answer) answers
