-- What is asked of whoever runs an endpoint before it can answer a packet: a client asks whether the host key is trusted (RFC 4253
-- section 8), a server whether what a request claims is accepted, or whether the key of a query would do (RFC 4252 sections 5 and 7), and
-- both are asked for signatures by keys that their suite doesn't hold (RFC 4252 section 7, RFC 4253 section 8). The signature of a signed
-- request has been verified before its user is asked about.

use Rattle.std.specs.Prelude.{ℕ, Bool, false, List, Option, None, Some}
use Rattle.sshcore.specs.EndpointParts.{DecisionsData, ProofData}

-- A question: of a host key, by its algorithm and blob; of a request or query, by its number from 1, user, service, what it claims, and
-- whether a key's signature has been verified, which a query has none of; or for a signature: of an attempt, by how many are left of the
-- plan after it, or of an exchange, by 0; algorithm, public key, and input.
pub data QuestionData : Type 0 where
  HostKeyQuestion : List ℕ → List ℕ → QuestionData
  UserQuestion : ℕ → List ℕ → List ℕ → ProofData → Bool → QuestionData
  SignatureQuestion : ℕ → List ℕ → List ℕ → List ℕ → QuestionData

-- an answer: yes or no; or a signature, or none
pub data AnswerData : Type 0 where
  Decided : Bool → AnswerData
  Signed : Option (List ℕ) → AnswerData

-- What these decisions answer. That a signature has been verified is no part of what they depend on.
abbrev pub decided : DecisionsData → QuestionData → AnswerData
decided d (HostKeyQuestion algorithm blob) = Decided (d.host_key algorithm blob)
decided d (UserQuestion number user service proof signed) = Decided (d.user number user service proof)
decided d (SignatureQuestion number algorithm blob input) = Signed (d.signature number algorithm blob input)

-- what asks nothing is as if it were answered no
abbrev pub decided_by : DecisionsData → Option QuestionData → AnswerData
decided_by d None = Decided false
decided_by d (Some question) = decided d question

-- whether the answer is yes; a signature isn't (profile)
abbrev pub is_yes : AnswerData → Bool
is_yes (Decided allowed) = allowed
is_yes (Signed found) = false

-- the signature that was given; yes and no have none (profile)
abbrev pub found_in : AnswerData → Option (List ℕ)
found_in (Decided allowed) = None
found_in (Signed found) = found

-- any answer as one of the question's kind: of the other kind it is no, or none (profile)
abbrev pub taken : QuestionData → AnswerData → AnswerData
taken (HostKeyQuestion algorithm blob) answer = Decided (is_yes answer)
taken (UserQuestion number user service proof signed) answer = Decided (is_yes answer)
taken (SignatureQuestion number algorithm blob input) answer = Signed (found_in answer)

-- what asks nothing is as if it were answered no
abbrev pub taken_by : Option QuestionData → AnswerData → AnswerData
taken_by None answer = Decided false
taken_by (Some question) answer = taken question answer
