-- Calls of one endpoint, one after the other, each with the record that the call before has written.

use Rattle.std.specs.Prelude.{◌≡◌, ◌≢◌, ℕ, List, [], ◌∷◌, ◌++◌, take}
use Rattle.sshcore.specs.EndpointParts.{DecisionsData}
use Rattle.sshcore.specs.Questions.{AnswerData, QuestionData, decided}
use Rattle.rezdolin.specs.declared.answers.TheConstants.{END_ASKS}
use Rattle.rezdolin.specs.declared.parts_of.Parts.{Parts}
use Rattle.rezdolin.specs.declared.steps.Came.{Came}
use Rattle.rezdolin.specs.Endpoints.{digest_of, setup_of}
use Rattle.rezdolin.specs.Questions.{question_bytes}
use Rattle.rezdolin.specs.Steps.{GoesOn, IsAnsweredBy, IsReply, StandsNow}

-- a call: the bytes that it is given, or the number of an answer and a signature; and what it came to
pub data Call : Type 0 where
  Stepped : List ℕ → Came → Call
  Replied : ℕ → List ℕ → Came → Call

-- what the call came to
abbrev pub came_of : Call → Came
came_of (Stepped piece came) = came
came_of (Replied number signature came) = came

-- the bytes that it used
abbrev pub used_by : Call → List ℕ
used_by (Stepped piece came) = take came.used piece
used_by (Replied number signature came) = []

-- the bytes that the calls have used, in order
abbrev pub all_used : List Call → List ℕ
all_used [] = []
all_used (call ∷ calls) = used_by call ++ all_used calls

-- what the calls have sent, in order
abbrev pub all_sent : List Call → List ℕ
all_sent [] = []
all_sent (call ∷ calls) = (came_of call).sent.items ++ all_sent calls

-- what the last of the calls came to; without a call, what came before
abbrev pub last_of : Came → List Call → Came
last_of came [] = came
last_of came (call ∷ calls) = last_of (came_of call) calls

-- these decisions answer the question that was told by what this number and signature say
abbrev pub IsTheirs : DecisionsData → List ℕ → ℕ → List ℕ → Type 0
IsTheirs d told number signature =
    (a : AnswerData) → IsReply number signature a → (question : QuestionData) → told ≡ question_bytes question → decided d question ≡ a

-- a call came to this from what the call before has written; an answer is one to the question that this has told
abbrev pub IsNext : Parts → DecisionsData → Came → Call → Type 0
IsNext parts d before (Stepped piece came) = GoesOn parts before.record.items piece came
IsNext parts d before (Replied number signature came) =
    IsAnsweredBy parts before.record.items number signature came × (before.end.end ≡ END_ASKS) × IsTheirs d before.told.items number signature

-- Each call came to this from the record that the one before has written. Each answer is to the question of the one before, as these
-- decisions answer it.
abbrev pub AreNext : Parts → DecisionsData → Came → List Call → Type 0
AreNext parts d before [] = Unit {0}
AreNext parts d before (call ∷ calls) = (before.record.items ≢ []) × IsNext parts d before call × AreNext parts d (came_of call) calls

-- an endpoint of these parts, by these decisions, that has received and sent so stands as this call tells
abbrev pub StandsAs : Parts → DecisionsData → List ℕ → List ℕ → Came → Type 0
StandsAs parts d h s came = StandsNow (setup_of parts d) (digest_of parts) h s came.end came.record.items came.told.items
