-- What came of a call of an endpoint.

use Rattle.std.specs.Prelude.{◌≡◌, ◌≢◌, ◌⊎◌, ℕ, ◌≤◌, ◌<◌, Bool, true, false, codes, List, [], ◌∷◌, ◌++◌, length, take, drop, Option, None, Some}
use Rattle.sshpacket.specs.Stream.{Sent}
use Rattle.sshpacket.specs.Suite.{SuiteData}
use Rattle.sshcore.specs.declared.input.Input.{Input}
use Rattle.sshcore.specs.declared.session.Session.{Session}
use Rattle.sshcore.specs.declared.state.State.{State}
use Rattle.sshcore.specs.AskingData.{WaitingData}
use Rattle.sshcore.specs.Directions.{spells}
use Rattle.sshcore.specs.EndData.{AgreedData, Authenticated, Open, by_input, end_data, parting}
use Rattle.sshcore.specs.EndpointParts.{DecisionsData, Setup}
use Rattle.sshcore.specs.Paused.{asked_paused}
use Rattle.sshcore.specs.Questions.{AnswerData, Decided, QuestionData, SignatureQuestion, Signed, decided}
use Rattle.sshcore.specs.Sessions.{IsSession}
use Rattle.sshcore.specs.StateData.{state_data}
use Rattle.sshcore.specs.Unread.{AskingStands}
use Rattle.rezdolin.specs.declared.answers.EndNumbers.{EndNumbers}
use Rattle.rezdolin.specs.declared.answers.StepAnswer.{StepAnswer}
use Rattle.rezdolin.specs.declared.answers.TheConstants.{END_ASKS, END_DISCONNECTED, END_OPEN}
use Rattle.rezdolin.specs.declared.inputs.TheConstants.{ANSWER_NO, ANSWER_NO_SIGNATURE, ANSWER_SIGNATURE, ANSWER_YES}
use Rattle.rezdolin.specs.declared.parts_of.Parts.{Parts}
use Rattle.rezdolin.specs.declared.steps.Came.{Came}
use Rattle.rezdolin.specs.declared.steps.NoStep.{NoStep}
use Rattle.rezdolin.specs.Answers.{end_numbers, lacks_room, no_step, step_answer, three}
use Rattle.rezdolin.specs.Directions.{IsPut}
use Rattle.rezdolin.specs.Endpoints.{AreAllowed, AreListed, AreTaken, IsRecordAfter, digest_of, setup_of}
use Rattle.rezdolin.specs.Frames.{IsFrameOf, framed}
use Rattle.rezdolin.specs.Questions.{told_end, told_question}
use Rattle.rezdolin.specs.Records.{record_of}

-- These bytes are what a call wrote of an endpoint, in a frame with this digest: it has received and sent so, and asks this, or nothing.
pub record StandsBy (setup : Setup) (digest bytes : List ℕ) (question : Option QuestionData) (h s : List ℕ) : Type 0 where
  pub text : List ℕ
  pub framed_is : bytes ≡ framed digest text
  pub recorded : IsRecordAfter setup text h s
  pub asks : asked_paused recorded.endpoint ≡ question

-- An endpoint has ended so by what it has received, after it had sent these bytes: no call ends one where memory runs out, or the program
-- cuts it off. It hands over a session where it is authenticated, whose record this is, and else no bytes are.
pub record HasEnded (setup : Setup) (h s : List ℕ) (end : EndNumbers) (told : List ℕ) : Type 0 where
  pub state : State
  pub input : Input
  pub waiting : Option WaitingData
  pub stands : AskingStands setup (state_data state) input waiting h s
  pub closed : end_data state.end ≢ Open
  pub brought : by_input (end_data state.end) ≡ true
  pub end_is : end ≡ end_numbers (end_data state.end)
  pub hands : (a : AgreedData) → end_data state.end ≡ Authenticated a
      → (session : Session) × IsSession setup stands.stands.units stands.stands.answers stands.stands.sizes a session × (told ≡ record_of session)
      × (stands.stands.rest ≡ []) × (stands.earlier ≡ h)
  pub none : ((a : AgreedData) → end_data state.end ≢ Authenticated a) → told ≡ []

-- An open endpoint that has received and sent these bytes has sent a packet with this payload after them.
pub record LeavesWith (setup : Setup) (h s payload added : List ℕ) : Type 0 where
  pub state : State
  pub input : Input
  pub waiting : Option WaitingData
  pub stands : AskingStands setup (state_data state) input waiting h s
  pub was_open : end_data state.end ≡ Open
  pub packet : Sent (spells setup.suite setup.role setup.config stands.stands.units) (s ++ added) (setup.config.version ∷ (stands.stands.answers ++ payload ∷ []))

-- How an endpoint stands after a call: it goes on, and this is its record; or it has ended, and has none.
abbrev pub StandsNow : Setup → List ℕ → List ℕ → List ℕ → EndNumbers → List ℕ → List ℕ → Type 0
StandsNow setup digest h s end bytes told =
    ((question : Option QuestionData) × StandsBy setup digest bytes question h s × (end ≡ told_end Open question) × (told ≡ told_question question))
    ⊎ ((bytes ≡ []) × HasEnded setup h s end told)

-- a call is given no record: the endpoint has received and sent nothing
abbrev pub Starts : Setup → List ℕ → List ℕ → Type 0
Starts setup h s = (h ≡ []) × (s ≡ [])

-- these bytes are the record, made for these parts, of an endpoint that has received h and sent s
abbrev pub StandsHere : List ℕ → List ℕ → Setup → List ℕ → List ℕ → Type 0
StandsHere digest bytes setup h s = (question : Option QuestionData) × StandsBy setup digest bytes question h s

-- These bytes are the record of an endpoint that has received h and sent s and asks a question. This is the answer that the decisions give.
abbrev pub IsAnswered : AnswerData → List ℕ → List ℕ → Setup → List ℕ → List ℕ → Type 0
IsAnswered answer digest bytes setup h s =
    (question : QuestionData) × StandsBy setup digest bytes (Some question) h s × (decided setup.decisions question ≡ answer)

-- What a call came to: whatever an endpoint of these parts has received and sent that stands so, by its own decisions, it has received
-- these bytes more, sent these, and stands now. Where lists decide it asks nothing. Parts that aren't taken come to nothing.
abbrev pub ComesTo : Parts → (Setup → List ℕ → List ℕ → Type 0) → List ℕ → List ℕ → EndNumbers → List ℕ → List ℕ → Type 0
ComesTo parts Stood taken sent end bytes told =
    AreTaken parts
    × ((d : DecisionsData) → AreAllowed parts d → (h s : List ℕ) → Stood (setup_of parts d) h s
    → StandsNow (setup_of parts d) (digest_of parts) (h ++ taken) (s ++ sent) end bytes told)
    × (AreListed parts → end.end ≢ END_ASKS)

-- What a call came to by which an endpoint of the parts that these bytes were written for was told to disconnect: it has ended so; and
-- whatever it has received and sent that stood so, it has sent a DISCONNECT with this reason and description after that.
pub record Leaves (parts : Parts) (bytes : List ℕ) (reason : ℕ) (description sent : List ℕ) (end : EndNumbers) (new told : List ℕ) : Type 0 where
  pub taken : AreTaken parts
  pub written_for : IsFrameOf bytes (digest_of parts)
  pub none : new ≡ []
  pub nothing : told ≡ []
  pub end_is : end ≡ three END_DISCONNECTED 0 reason
  pub leaves : (d : DecisionsData) (h s : List ℕ) → StandsHere (digest_of parts) bytes (setup_of parts d) h s
      → LeavesWith (setup_of parts d) h s (parting reason description) sent

-- the number of an answer, and the signature where it is one
abbrev pub IsReply : ℕ → List ℕ → AnswerData → Type 0
IsReply number signature (Decided true) = (number ≡ ANSWER_YES) × (signature ≡ [])
IsReply number signature (Decided false) = (number ≡ ANSWER_NO) × (signature ≡ [])
IsReply number signature (Signed None) = (number ≡ ANSWER_NO_SIGNATURE) × (signature ≡ [])
IsReply number signature (Signed (Some bytes)) = (number ≡ ANSWER_SIGNATURE) × (signature ≢ []) × (bytes ≡ signature)

-- an answer is of the kind of a question
abbrev pub is_of_kind : AnswerData → QuestionData → Bool
is_of_kind (Decided allowed) (SignatureQuestion number algorithm key input) = false
is_of_kind (Decided allowed) question = true
is_of_kind (Signed signature) (SignatureQuestion number algorithm key input) = true
is_of_kind (Signed signature) question = false

-- an answer is of the kind of the question; to no question there is none
abbrev pub is_for : AnswerData → Option QuestionData → Bool
is_for answer None = false
is_for answer (Some question) = is_of_kind answer question

-- the public key of this private key stands at the front of the room (RFC 8709 section 4)
abbrev pub IsBlob : SuiteData → List ℕ → List ℕ → ℕ → List ℕ → Type 0
IsBlob m private_key room n new = IsPut (m.blob (codes "ssh-ed25519") private_key) room n new

-- a room whose first field is empty: the field's length, four bytes, is 0, or as many of them as there is room for
abbrev pub emptied : List ℕ → List ℕ
emptied room = take (length room) (0 ∷ 0 ∷ 0 ∷ 0 ∷ []) ++ drop 4 room

-- What a call answers: what the endpoint came to, and its bytes in the rooms, which had room for all of them.
pub record IsToldOf (came : Came) (answer : StepAnswer) (out next told new_out new_next new_told : List ℕ) : Type 0 where
  pub answer_is : answer ≡ step_answer came
  pub sent_put : IsPut came.sent.items out answer.sent_len new_out
  pub record_put : IsPut came.record.items next answer.record_len new_next
  pub told_put : IsPut came.told.items told answer.told_len new_told

-- one of the rooms is too small for its bytes, and no room has changed; the answer says how much each has to have
pub record LacksRoom (came : Came) (answer : StepAnswer) (out next told new_out new_next new_told : List ℕ) : Type 0 where
  pub answer_is : answer ≡ lacks_room came
  pub short : (length out < length came.sent.items) ⊎ (length next < length came.record.items) ⊎ (length told < length came.told.items)
  pub kept : (new_out ≡ out) × (new_next ≡ next) × (new_told ≡ told)

-- The answer and the rooms have what the call came to, whole. Or a room is too small: then the answer says how much each has to have, and
-- no room has changed.
abbrev pub Tells : Came → StepAnswer → List ℕ → List ℕ → List ℕ → List ℕ → List ℕ → List ℕ → Type 0
Tells came answer out next told new_out new_next new_told =
    IsToldOf came answer out next told new_out new_next new_told ⊎ LacksRoom came answer out next told new_out new_next new_told

-- A call of whose bytes nothing comes but that they are held, since the endpoint is within a packet and wants more of it than these before
-- it looks at it again. It looks at no parts: whatever parts the record was written for, their endpoint has received all these bytes more,
-- has sent nothing more, is open and asks nothing, and this is its record, which goes on in the frame of theirs.
pub record Holds (bytes piece : List ℕ) (came : Came) : Type 0 where
  pub all : came.used ≡ length piece
  pub none_sent : came.sent.items ≡ []
  pub end_is : came.end ≡ three END_OPEN 0 0
  pub none_told : came.told.items ≡ []
  pub frame : (digest : List ℕ) × IsFrameOf bytes digest × IsFrameOf came.record.items digest
  pub stands : (parts : Parts) (d : DecisionsData) (h s : List ℕ) → StandsHere (digest_of parts) bytes (setup_of parts d) h s
      → StandsBy (setup_of parts d) (digest_of parts) came.record.items None (h ++ piece) s

-- a call comes to this that begins an endpoint; it uses no bytes
abbrev pub Begins : Parts → Came → Type 0
Begins parts came = (came.used ≡ 0) × ComesTo parts Starts [] came.sent.items came.end came.record.items came.told.items

-- A call goes on from this record with so many of these bytes: with all, if the endpoint is open afterwards. The record was written for
-- these parts.
abbrev pub ReadsOn : Parts → List ℕ → List ℕ → Came → Type 0
ReadsOn parts bytes piece came =
    IsFrameOf bytes (digest_of parts)
    × (came.used ≤ length piece)
    × (came.end.end ≡ END_OPEN → came.used ≡ length piece)
    × ComesTo parts (StandsHere (digest_of parts) bytes) (take came.used piece) came.sent.items came.end came.record.items came.told.items

-- a call goes on from this record with these bytes: it reads on (`ReadsOn`), or only holds them (`Holds`)
abbrev pub GoesOn : Parts → List ℕ → List ℕ → Came → Type 0
GoesOn parts bytes piece came = ReadsOn parts bytes piece came ⊎ Holds bytes piece came

-- A call goes on from this record of an endpoint that asks, with the answer of this number and this signature. It uses no bytes.
abbrev pub IsAnsweredBy : Parts → List ℕ → ℕ → List ℕ → Came → Type 0
IsAnsweredBy parts bytes number signature came =
    (a : AnswerData) × IsReply number signature a
    × IsFrameOf bytes (digest_of parts)
    × (came.used ≡ 0)
    × ComesTo parts (IsAnswered a (digest_of parts) bytes) [] came.sent.items came.end came.record.items came.told.items

-- A call disconnects from this record: the endpoint has sent a DISCONNECT with this reason and description, and has ended (RFC 4253 section
-- 11.1).
abbrev pub Disconnects : Parts → List ℕ → ℕ → List ℕ → Came → Type 0
Disconnects parts bytes reason description came =
    (came.used ≡ 0) × Leaves parts bytes reason description came.sent.items came.end came.record.items came.told.items

-- What a call answers, with its rooms as they were and as they are: what the endpoint came to; or why it doesn't go on, and no room has
-- changed.
abbrev pub Calls : (Came → Type 0) → (NoStep → Type 0) → StepAnswer → List ℕ → List ℕ → List ℕ → List ℕ → List ℕ → List ℕ → Type 0
Calls Comes Why answer out next told new_out new_next new_told =
    ((came : Came) × Comes came × Tells came answer out next told new_out new_next new_told)
    ⊎ ((f : NoStep) × Why f × (answer ≡ no_step f) × (new_out ≡ out) × (new_next ≡ next) × (new_told ≡ told))

-- No call has written these bytes for an endpoint of these parts.
abbrev pub IsNoRecord : Parts → List ℕ → Type 0
IsNoRecord parts bytes = (d : DecisionsData) (h s : List ℕ) → StandsHere (digest_of parts) bytes (setup_of parts d) h s → ⊥
