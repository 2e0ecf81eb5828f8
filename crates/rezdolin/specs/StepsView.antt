-- Why a call doesn't go on.

use Rattle.std.specs.Prelude.{◌≡◌, ◌≢◌, ℕ, false, List, Option, None, Some, IsSome}
use Rattle.std.specs.Str.{IsUtf8}
use Rattle.sshcore.specs.EndpointParts.{DecisionsData}
use Rattle.sshcore.specs.Questions.{AnswerData, Decided, QuestionData, Signed}
use Rattle.sshcore.specs.declared.record_fault.RecordFault.{RecordFault}
use Rattle.sshcore.specs.declared.record_fault.RecordFault.TheVariants as fault
use Rattle.rezdolin.specs.declared.frame.FrameFault.{FrameFault}
use Rattle.rezdolin.specs.declared.frame.FrameFault.TheVariants as frame
use Rattle.rezdolin.specs.declared.steps.NoStep.{NoStep}
use Rattle.rezdolin.specs.declared.steps.NoStep.TheVariants as no
use Rattle.rezdolin.specs.declared.steps.Ready.{Ready}
use Rattle.rezdolin.specs.declared.steps.Reply.{Reply}
use Rattle.rezdolin.specs.declared.steps.Reply.TheVariants as reply
use Rattle.rezdolin.specs.declared.parts_of.Parts.{Parts}
use Rattle.rezdolin.specs.Endpoints.{AreAllowed, AreListed, AreRead, HasDrawn, IsConfigOf, RefusesParts, Trusts, digest_of, setup_of}
use Rattle.rezdolin.specs.Frames.{IsFrameOf}
use Rattle.rezdolin.specs.Steps.{IsNoRecord, IsReply, StandsBy, is_for}

-- an answer, as decisions have it
abbrev pub reply_data : Reply → AnswerData
reply_data (reply.Decided allowed) = Decided allowed
reply_data (reply.Signed None) = Signed None
reply_data (reply.Signed (Some signature)) = Signed (Some signature.now)

-- why a frame or a record isn't gone on from
abbrev pub frame_step : FrameFault → NoStep
frame_step frame.Record = no.Record
frame_step frame.Parts = no.Parts

-- why a call doesn't go on from a record that is refused
abbrev pub record_step : RecordFault → NoStep
record_step fault.Memory = no.Memory
record_step fault.Version = no.Record
record_step fault.Unreadable = no.Record

-- what a call has of its parts
pub record IsReady (parts : Parts) (ready : Ready) : Type 0 where
  pub read : AreRead parts
  pub drawn : HasDrawn parts
  pub config : IsConfigOf parts ready.config
  pub digest : ready.digest ≡ digest_of parts
  pub trust : (d : DecisionsData) → AreAllowed parts d → Trusts ready.trust d
  pub lists : AreListed parts → IsSome ready.trust

-- why a call begins no endpoint
abbrev pub WhyNot : Parts → NoStep → Type 0
WhyNot parts no.Unreadable = AreRead parts → ⊥
WhyNot parts no.Draws = HasDrawn parts → ⊥
WhyNot parts (no.Config f) = RefusesParts parts f
WhyNot parts no.Record = ⊥
WhyNot parts no.Parts = ⊥
WhyNot parts no.Unasked = ⊥
WhyNot parts no.Memory = Unit {0}

-- bytes are no frame of a record, or one with the digest of these parts whose record is that of no such endpoint
pub record IsNoFrame (parts : Parts) (bytes : List ℕ) : Type 0 where
  pub none : IsNoRecord parts bytes
  pub own : (other : List ℕ) → IsFrameOf bytes other → other ≡ digest_of parts

-- bytes are a frame with the digest of other parts
abbrev pub IsOfOthers : Parts → List ℕ → Type 0
IsOfOthers parts bytes = (other : List ℕ) × IsFrameOf bytes other × (other ≢ digest_of parts)

-- why a call doesn't go on from a record
abbrev pub WhyNotFrom : Parts → List ℕ → NoStep → Type 0
WhyNotFrom parts bytes no.Unreadable = AreRead parts → ⊥
WhyNotFrom parts bytes no.Draws = HasDrawn parts → ⊥
WhyNotFrom parts bytes (no.Config f) = RefusesParts parts f
WhyNotFrom parts bytes no.Record = IsNoFrame parts bytes
WhyNotFrom parts bytes no.Parts = IsOfOthers parts bytes
WhyNotFrom parts bytes no.Unasked = ⊥
WhyNotFrom parts bytes no.Memory = Unit {0}

-- why a call doesn't go on with this answer: the endpoint asks nothing that it answers, or there is no endpoint to go on from
abbrev pub WhyNoReply : Parts → List ℕ → AnswerData → NoStep → Type 0
WhyNoReply parts bytes a no.Unasked =
    (d : DecisionsData) (h s : List ℕ) (question : Option QuestionData) → StandsBy (setup_of parts d) (digest_of parts) bytes question h s → is_for a question ≡ false
WhyNoReply parts bytes a f = WhyNotFrom parts bytes f

-- why a call doesn't go on with an answer: the number is that of no answer, or the endpoint asks nothing that this answers
abbrev pub WhyNoAnswer : Parts → List ℕ → ℕ → List ℕ → NoStep → Type 0
WhyNoAnswer parts bytes number signature no.Unreadable = AreRead parts → (a : AnswerData) → IsReply number signature a → ⊥
WhyNoAnswer parts bytes number signature f = (a : AnswerData) × IsReply number signature a × WhyNoReply parts bytes a f

-- why a call doesn't disconnect: the description isn't UTF-8, or there is no endpoint to go on from
abbrev pub WhyNoLeave : Parts → List ℕ → List ℕ → NoStep → Type 0
WhyNoLeave parts bytes description no.Unreadable = AreRead parts → IsUtf8 description → ⊥
WhyNoLeave parts bytes description f = WhyNotFrom parts bytes f
