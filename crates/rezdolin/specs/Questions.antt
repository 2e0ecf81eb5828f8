-- Questions, as bytes, and how an endpoint that asks stands.

use Rattle.std.specs.Prelude.{ℕ, Bool, List, [], ◌∷◌, Option, None, Some}
use Rattle.sshwire.specs.Types.{uint32}
use Rattle.sshcore.specs.EndData.{EndData}
use Rattle.sshcore.specs.EndpointParts.{KeyProof, NoProof, PasswordProof, ProofData}
use Rattle.sshcore.specs.Questions.{HostKeyQuestion, QuestionData, SignatureQuestion, UserQuestion}
use Rattle.rezdolin.specs.declared.answers.EndNumbers.{EndNumbers}
use Rattle.rezdolin.specs.declared.answers.TheConstants.{ASKS_HOST_KEY, ASKS_SIGNATURE, ASKS_USER, END_ASKS}
use Rattle.rezdolin.specs.declared.inputs.TheConstants.{METHOD_NONE, METHOD_PASSWORD, METHOD_PUBLICKEY}
use Rattle.rezdolin.specs.Answers.{end_numbers, three}
use Rattle.rezdolin.specs.Records.{flag, strings}

-- the number of the method by which a request proves its user
abbrev pub method_of : ProofData → ℕ
method_of NoProof = METHOD_NONE
method_of (PasswordProof password) = METHOD_PASSWORD
method_of (KeyProof algorithm key) = METHOD_PUBLICKEY

-- The last fields of a question about a user: the method by which the request proves its user, the algorithm and the key, the password, and
-- whether a key's signature has been verified.
abbrev pub proof_fields : ProofData → Bool → List (List ℕ)
proof_fields NoProof signed = uint32 (method_of NoProof) ∷ [] ∷ [] ∷ [] ∷ flag signed ∷ []
proof_fields (PasswordProof password) signed = uint32 (method_of (PasswordProof password)) ∷ [] ∷ [] ∷ password ∷ flag signed ∷ []
proof_fields (KeyProof algorithm key) signed = uint32 (method_of (KeyProof algorithm key)) ∷ algorithm ∷ key ∷ [] ∷ flag signed ∷ []

-- The fields of a question, in order: its kind, the number of the request, user, service, the method by which the request proves its user,
-- algorithm, key, the password or what is to be signed, and whether a key's signature has been verified. A question about a host key or for
-- a signature has no number, user, service and method, and doesn't tell the last.
abbrev pub question_fields : QuestionData → List (List ℕ)
question_fields (HostKeyQuestion algorithm key) = (ASKS_HOST_KEY ∷ []) ∷ [] ∷ [] ∷ [] ∷ [] ∷ algorithm ∷ key ∷ [] ∷ [] ∷ []
question_fields (UserQuestion number user service proof signed) = (ASKS_USER ∷ []) ∷ uint32 number ∷ user ∷ service ∷ proof_fields proof signed
question_fields (SignatureQuestion number algorithm key input) = (ASKS_SIGNATURE ∷ []) ∷ [] ∷ [] ∷ [] ∷ [] ∷ algorithm ∷ key ∷ input ∷ [] ∷ []

-- a question as bytes: its fields, each as a string
abbrev pub question_bytes : QuestionData → List ℕ
question_bytes question = strings (question_fields question)

-- a question as bytes; no byte where nothing is asked
abbrev pub told_question : Option QuestionData → List ℕ
told_question None = []
told_question (Some question) = question_bytes question

-- how an endpoint that asks has ended: it asks, or as one that asks nobody
abbrev pub told_end : EndData → Option QuestionData → EndNumbers
told_end end None = end_numbers end
told_end end (Some question) = three END_ASKS 0 0
