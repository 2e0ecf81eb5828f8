-- Signatures that are asked for: the numbers of the questions fall, so that each is asked once.

use Rattle.std.proofs.Common.{◌≡◌, ℕ, ◌+◌, ◌<◌, ◌≤◌, Bool, true, false, cond, List, [], ◌∷◌, length, Option, None, Some, refl, ap, arith}
use Rattle.sshneg.specs.ChoiceReadings.{is_in}
use Rattle.sshneg.specs.Derivations.{ExchangeData, signed_text}
use Rattle.sshneg.specs.ExchangeEnd.{exchange_hash}
use Rattle.sshpacket.specs.Suite.{ResponseData, SuiteData}
use Rattle.sshcore.specs.AskedQuestions.{ComesLater}
use Rattle.sshcore.specs.Attempts.{attempt_step, credential_step}
use Rattle.sshcore.specs.ConfigParts.{AttemptData, ByKey, ByNothing, ByPassword, CredentialData}
use Rattle.sshcore.specs.EndData.{Reply}
use Rattle.sshcore.specs.EndpointParts.{ConfigData}
use Rattle.sshcore.specs.Exchange.{secret_of}
use Rattle.sshcore.specs.KnownBefore.{Known}
use Rattle.sshcore.specs.Plan.{asks, is_waiting, next_after, next_listed, proving_name}
use Rattle.sshcore.specs.Questions.{AnswerData, QuestionData, SignatureQuestion}
use Rattle.sshcore.specs.Step.{AtOnce, Asks, asked_in}
use Rattle.sshcore.specs.Work.{answered_step}

-- The question of an attempt has the number of those after it, and isn't asked of one that is a query.
pub record IsOfAttempt (left : List AttemptData) (q : QuestionData) : Type 0 where
  pub number : ℕ
  pub algorithm : List ℕ
  pub blob : List ℕ
  pub input : List ℕ
  pub is : q ≡ SignatureQuestion number algorithm blob input
  pub counts : number + 1 ≡ length left
  pub no_query : is_waiting left ≡ false

module _ (m : SuiteData) where
  pub key_asks : (held : Bool) (number : ℕ) (algorithm blob input : List ℕ) (r : Reply) (replies : AnswerData → Reply) (q : QuestionData)
      → asked_in (cond held (AtOnce r) (Asks (SignatureQuestion number algorithm blob input) replies)) ≡ Some q → q ≡ SignatureQuestion number algorithm blob input
  key_asks true number algorithm blob input r replies q e = absurd cc
  key_asks false number algorithm blob input r replies q e = cc

  pub attempt_asks : (session : List ℕ) (left : List AttemptData) (q : QuestionData) → asked_in (attempt_step m session left) ≡ Some q → IsOfAttempt left q
  attempt_asks session [] q e = absurd cc
  attempt_asks session (a ∷ later) q e = by a.proving refl e
    where
      by : (c : CredentialData) → a.proving ≡ c → asked_in (credential_step m (length later) session a c) ≡ Some q → IsOfAttempt (a ∷ later) q
      by ByNothing is f = absurd cc
      by (ByPassword password) is f = absurd cc
      by (ByKey algorithm secret true) is f = absurd cc
      by (ByKey algorithm secret false) is f = record {
        number = length later;
        algorithm = algorithm;
        blob = m.blob algorithm secret;
        input = signed_text session a.user a.service algorithm (m.blob algorithm secret);
        is = key_asks (m.holds algorithm secret) (length later) algorithm (m.blob algorithm secret) (signed_text session a.user a.service algorithm (m.blob algorithm secret)) _ _ q f;
        counts = omega arith;
        no_query = ap asks is;
      }

-- The question of an exchange has the number 0.
pub record IsOfExchange (q : QuestionData) : Type 0 where
  pub algorithm : List ℕ
  pub blob : List ℕ
  pub input : List ℕ
  pub is : q ≡ SignatureQuestion 0 algorithm blob input

pub exchange_asks : (m : SuiteData) (config : ConfigData) (known : Known) (x : ExchangeData) (o : Option ResponseData) (q : QuestionData) → asked_in (answered_step m config known x o) ≡ Some q → IsOfExchange q
exchange_asks m config known x None q e = absurd cc
exchange_asks m config known x (Some answer) q e =
    let name : List ℕ = known.algorithms.host_key in
    let secret : List ℕ = secret_of config.host_keys known.algorithms.host_key in
    record {
      algorithm = name;
      blob = m.blob name secret;
      input = exchange_hash m known.algorithms.kex x;
      is = key_asks m (m.holds name secret) 0 name (m.blob name secret) (exchange_hash m known.algorithms.kex x) _ _ q e;
    }

-- after a FAILURE fewer attempts are left, so the next number is lower
pub listed_fewer : (listed : List (List ℕ)) (left : List AttemptData) → length (next_listed listed left) ≤ length left
unfolding next_listed
listed_fewer listed [] = omega arith
listed_fewer listed (a ∷ later) = by (is_in listed (proving_name a.proving)) (listed_fewer listed later)
  where
    by : (b : Bool) → length (next_listed listed later) ≤ length later → length (cond b (a ∷ later) (next_listed listed later)) ≤ length (a ∷ later)
    by true rest = omega arith
    by false rest = omega (arith, rest)

pub failure_fewer : (listed : List (List ℕ)) (a : AttemptData) (later : List AttemptData) → length (next_after listed (a ∷ later)) < length (a ∷ later)
failure_fewer listed a later = let rest : length (next_listed listed later) ≤ length later = listed_fewer listed later in omega (arith, rest)

pub failure_later : (listed : List (List ℕ)) (left : List AttemptData) (one other : QuestionData) (p : IsOfAttempt left one) (q : IsOfAttempt (next_after listed left) other)
    → q.number < p.number
failure_later listed [] one other p q = let none : p.number + 1 ≡ 0 = p.counts in absurd (omega (arith, none))
failure_later listed (a ∷ later) one other p q =
    let fewer : length (next_after listed (a ∷ later)) < length (a ∷ later) = failure_fewer listed a later in
    let first : p.number + 1 ≡ length (a ∷ later) = p.counts in
    let second : q.number + 1 ≡ length (next_after listed (a ∷ later)) = q.counts in
    omega (arith, fewer, first, second)

-- so of two attempts the second one's question comes later
pub attempt_later : (m : SuiteData) (session : List ℕ) (listed : List (List ℕ)) (left : List AttemptData) (one other : QuestionData)
    → asked_in (attempt_step m session left) ≡ Some one → asked_in (attempt_step m session (next_after listed left)) ≡ Some other → ComesLater one other
attempt_later m session listed left one other e f =
    let p : IsOfAttempt left one = attempt_asks m session left one e in
    let q : IsOfAttempt (next_after listed left) other = attempt_asks m session (next_after listed left) other f in
    rw (p.is, q.is) (failure_later listed left one other p q)
