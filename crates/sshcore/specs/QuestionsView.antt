-- What is asked, without where it lies in memory.

use Rattle.std.specs.Prelude.{[], None, Some, string_bytes}
use Rattle.sshmsg.specs.MessageData.{MethodData, NoMethod, Password, PublicKey, PublicKeyQuery}
use Rattle.sshcore.specs.declared.asking_given.Answer.{Answer}
use Rattle.sshcore.specs.declared.asking_given.Answer.TheVariants as given
use Rattle.sshcore.specs.declared.asking_given.Given.{Given}
use Rattle.sshcore.specs.declared.asking_given.Given.TheVariants as own
use Rattle.sshcore.specs.declared.asking_question.Question.{Question}
use Rattle.sshcore.specs.declared.asking_question.Question.TheVariants as question
use Rattle.sshcore.specs.declared.pending.Claim.{Claim}
use Rattle.sshcore.specs.declared.pending.Claim.TheVariants as claim
use Rattle.sshcore.specs.declared.pending.Pending.{Pending}
use Rattle.sshcore.specs.declared.pending.Pending.TheVariants as pending
use Rattle.sshcore.specs.EndpointParts.{KeyProof, NoProof, PasswordProof, ProofData}
use Rattle.sshcore.specs.EndpointPartsView.{proof_data}
use Rattle.sshcore.specs.Questions.{AnswerData, Decided, HostKeyQuestion, QuestionData, SignatureQuestion, Signed, UserQuestion}
use Rattle.sshcore.specs.Requests.{is_signed}

-- the twin of a `Question`
abbrev pub question_data : Question → QuestionData
question_data (question.HostKey algorithm blob) = HostKeyQuestion algorithm.now blob.now
question_data (question.User number user service proof signed) = UserQuestion number user.now service.now (proof_data proof) signed
question_data (question.Signature number algorithm blob input) = SignatureQuestion number algorithm.now blob.now input.now

-- the twin of an `Answer`
abbrev pub answer_data : Answer → AnswerData
answer_data (given.Decided allowed) = Decided allowed
answer_data (given.Signed None) = Signed None
answer_data (given.Signed (Some signature)) = Signed (Some signature.now)

-- what somebody decides, as an answer
abbrev pub given_data : Given → AnswerData
given_data (own.Decided allowed) = Decided allowed
given_data (own.Signed None) = Signed None
given_data (own.Signed (Some signature)) = Signed (Some signature.items)

-- what a request that is kept claims
abbrev pub claim_proof : Claim → ProofData
claim_proof claim.None = NoProof
claim_proof (claim.Password password) = PasswordProof password.items
claim_proof (claim.Query algorithm blob) = KeyProof (string_bytes algorithm) blob.items
claim_proof (claim.Key algorithm blob) = KeyProof (string_bytes algorithm) blob.items

-- the method of a request that is kept, of which the signature isn't
abbrev pub claim_method : Claim → MethodData
claim_method claim.None = NoMethod
claim_method (claim.Password password) = Password password.items
claim_method (claim.Query algorithm blob) = PublicKeyQuery (string_bytes algorithm) blob.items
claim_method (claim.Key algorithm blob) = PublicKey (string_bytes algorithm) blob.items []

-- the question of a packet that waits
abbrev pub pending_question : Pending → QuestionData
pending_question (pending.Reply algorithm host_key share signature) = HostKeyQuestion (string_bytes algorithm) host_key.items
pending_question (pending.Init algorithm prepared) = SignatureQuestion 0 (string_bytes algorithm) prepared.host_key.items prepared.hash.items
pending_question (pending.Request number user service claim) =
    UserQuestion number (string_bytes user) (string_bytes service) (claim_proof claim) (is_signed (claim_method claim))
pending_question (pending.Attempt skipped confirms number algorithm blob input) = SignatureQuestion number (string_bytes algorithm) blob.items input.items
