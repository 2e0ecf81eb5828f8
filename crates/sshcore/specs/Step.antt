-- What a message comes to, before anybody has decided: a reply; or a question, and the reply to each answer of it.

use Rattle.std.specs.Prelude.{ℕ, if◌then◌else◌, List, Option, None, Some}
use Rattle.sshpacket.specs.Suite.{SuiteData}
use Rattle.sshcore.specs.EndData.{Reply}
use Rattle.sshcore.specs.EndpointParts.{DecisionsData}
use Rattle.sshcore.specs.Questions.{AnswerData, QuestionData, SignatureQuestion, decided, found_in}
use Rattle.sshcore.specs.Signatures.{fitting}

-- A message is answered at once; or it asks one question, and each answer has its reply. So what is answered depends on nothing that
-- anybody decides but the answer to that question.
pub data Step : Type 0 where
  AtOnce : Reply → Step
  Asks : QuestionData → (AnswerData → Reply) → Step

-- the reply by these decisions
abbrev pub settled : DecisionsData → Step → Reply
settled d (AtOnce reply) = reply
settled d (Asks question replies) = replies (decided d question)

-- what is asked, if something is
abbrev pub asked_in : Step → Option QuestionData
asked_in (AtOnce reply) = None
asked_in (Asks question replies) = Some question

-- A step that needs the signature of this input by this private key: the suite makes it where it holds the key; else it is asked for, by
-- the key's public half, and one that is longer than a suite's is none (RFC 4252 section 7, RFC 4253 section 8; who signs is profile).
abbrev pub signed_step : SuiteData → ℕ → List ℕ → List ℕ → List ℕ → (Option (List ℕ) → Reply) → Step
signed_step m number algorithm secret input replies =
    if m.holds algorithm secret then AtOnce (replies (Some (m.sign algorithm secret input)))
    else Asks (SignatureQuestion number algorithm (m.blob algorithm secret) input) (λ answer. replies (fitting (found_in answer)))
