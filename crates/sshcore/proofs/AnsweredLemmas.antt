-- Of questions that are asked once some decisions give all answers.

use Rattle.std.proofs.Common.{◌≡◌, ℕ, ◌==◌, Bool, true, false, cond, List, [], ◌∷◌, ◌++◌, map, refl, ap, ◌∙◌, subst, arith}
use Rattle.std.specs.Prelude.{⊤}
use Rattle.std.specs.List.{AllByRecursion}
use Rattle.std.proofs.lemmas.Bool.{eq-eqb, ne_eqb}
use Rattle.sshcore.specs.AskedQuestions.{AnsweredData, ComesLater, GiveAll, IsAskedOnce, IsTaken}
use Rattle.sshcore.specs.EndpointParts.{DecisionsData, ProofData}
use Rattle.sshcore.specs.Questions.{AnswerData, Decided, HostKeyQuestion, QuestionData, SignatureQuestion, UserQuestion, decided, found_in, is_yes, taken}

-- each comes later than those in front
abbrev pub Rises : List QuestionData → Type 0
Rises [] = ⊤
Rises (q ∷ later) = AllByRecursion (ComesLater q) later × Rises later

all_from : (P : QuestionData → Type 0) (questions : List QuestionData)
    → ((between after : List QuestionData) (other : QuestionData) → questions ≡ between ++ other ∷ after → P other) → AllByRecursion P questions
all_from P [] f = tt
all_from P (q ∷ later) f = (f [] later q refl, all_from P later (λ between after other e. f (q ∷ between) after other (ap (λ (l : List QuestionData). q ∷ l) e)))

pub rises : (questions : List QuestionData) → IsAskedOnce questions → Rises questions
rises [] once = tt
rises (q ∷ later) once = (
  all_from (ComesLater q) later (λ between after other e. once [] between after q other (ap (λ (l : List QuestionData). q ∷ l) e)),
  rises later (λ before between after one other e. once (q ∷ before) between after one other (ap (λ (l : List QuestionData). q ∷ l) e)),
)

-- and the other way
pub all_at : (P : QuestionData → Type 0) (questions between after : List QuestionData) (other : QuestionData) → questions ≡ between ++ other ∷ after → AllByRecursion P questions → P other
all_at P [] [] after other e all = absurd cc
all_at P [] (b ∷ between) after other e all = absurd cc
all_at P (q ∷ later) [] after other e all = let same : q ≡ other = cc in subst P same all.0
all_at P (q ∷ later) (b ∷ between) after other e all = let rest : later ≡ between ++ other ∷ after = cc in all_at P later between after other rest all.1

pub asked_once : (questions : List QuestionData) → Rises questions → IsAskedOnce questions
asked_once [] r [] between after one other e = absurd cc
asked_once [] r (b ∷ before) between after one other e = absurd cc
asked_once (q ∷ later) r [] between after one other e =
    let same : q ≡ one = cc in
    let rest : later ≡ between ++ other ∷ after = cc in
    subst (λ (x : QuestionData). ComesLater x other) same (all_at (ComesLater q) later between after other rest r.0)
asked_once (q ∷ later) r (b ∷ before) between after one other e = asked_once later r.1 before between after one other cc

-- an answer to one of two questions is one to the other
abbrev is_about : QuestionData → QuestionData → Bool
is_about (HostKeyQuestion algorithm blob) (HostKeyQuestion other_algorithm other_blob) = true
is_about (UserQuestion number user service proof signed) (UserQuestion other_number other_user other_service other_proof other_signed) = number == other_number
is_about (SignatureQuestion number algorithm blob input) (SignatureQuestion other_number other_algorithm other_blob other_input) = number == other_number
is_about one other = false

about_same : (q : QuestionData) → is_about q q ≡ true
about_same (HostKeyQuestion algorithm blob) = refl
about_same (UserQuestion number user service proof signed) = eq-eqb number number refl
about_same (SignatureQuestion number algorithm blob input) = eq-eqb number number refl

about_later : (one other : QuestionData) → ComesLater one other → is_about other one ≡ false
about_later (HostKeyQuestion algorithm blob) (HostKeyQuestion other_algorithm other_blob) none = absurd none
about_later (HostKeyQuestion algorithm blob) (UserQuestion other_number other_user other_service other_proof other_signed) later = refl
about_later (HostKeyQuestion algorithm blob) (SignatureQuestion other_number other_algorithm other_blob other_input) later = refl
about_later (UserQuestion number user service proof signed) (HostKeyQuestion other_algorithm other_blob) later = refl
about_later (UserQuestion number user service proof signed) (UserQuestion other_number other_user other_service other_proof other_signed) later =
    ne_eqb other_number number (λ e. omega (arith, e, later))
about_later (UserQuestion number user service proof signed) (SignatureQuestion other_number other_algorithm other_blob other_input) later = refl
about_later (SignatureQuestion number algorithm blob input) (HostKeyQuestion other_algorithm other_blob) later = refl
about_later (SignatureQuestion number algorithm blob input) (UserQuestion other_number other_user other_service other_proof other_signed) later = refl
about_later (SignatureQuestion number algorithm blob input) (SignatureQuestion other_number other_algorithm other_blob other_input) later =
    ne_eqb other_number number (λ e. omega (arith, e, later))

-- the first answer to it
abbrev answer_to : List AnsweredData → QuestionData → AnswerData
answer_to [] q = Decided false
answer_to (a ∷ later) q = cond (is_about q a.question) a.answer (answer_to later q)

abbrev by_answers : List AnsweredData → DecisionsData
by_answers answers = record {
  host_key = λ algorithm blob. is_yes (answer_to answers (HostKeyQuestion algorithm blob));
  user = λ number user service proof. is_yes (answer_to answers (UserQuestion number user service proof false));
  signature = λ number algorithm blob input. found_in (answer_to answers (SignatureQuestion number algorithm blob input));
}

-- an answer to a question about a user depends on its number alone
about_number : (number : ℕ) (user service : List ℕ) (proof : ProofData) (signed : Bool) (q : QuestionData) → is_about (UserQuestion number user service proof signed) q ≡ is_about (UserQuestion number user service proof false) q
about_number number user service proof signed (HostKeyQuestion algorithm blob) = refl
about_number number user service proof signed (UserQuestion other_number other_user other_service other_proof other_signed) = refl
about_number number user service proof signed (SignatureQuestion other_number algorithm blob input) = refl

answer_number : (answers : List AnsweredData) (number : ℕ) (user service : List ℕ) (proof : ProofData) (signed : Bool)
    → answer_to answers (UserQuestion number user service proof false) ≡ answer_to answers (UserQuestion number user service proof signed)
answer_number [] number user service proof signed = refl
answer_number (a ∷ later) number user service proof signed = rw (about_number number user service proof signed a.question, answer_number later number user service proof signed) refl

decided_so : (answers : List AnsweredData) (q : QuestionData) → decided (by_answers answers) q ≡ taken q (answer_to answers q)
decided_so answers (HostKeyQuestion algorithm blob) = refl
decided_so answers (UserQuestion number user service proof signed) = ap (λ (a : AnswerData). Decided (is_yes a)) (answer_number answers number user service proof signed)
decided_so answers (SignatureQuestion number algorithm blob input) = refl

abbrev pub questions_of : List AnsweredData → List QuestionData
questions_of answers = map (λ (a : AnsweredData). a.question) answers

-- an answer in front changes none of those that come later
passed : (a : AnsweredData) (rest later : List AnsweredData) → AllByRecursion (ComesLater a.question) (questions_of later)
    → AllByRecursion (λ (b : AnsweredData). answer_to rest b.question ≡ b.answer) later → AllByRecursion (λ (b : AnsweredData). answer_to (a ∷ rest) b.question ≡ b.answer) later
passed a rest [] rise all = tt
passed a rest (b ∷ later) rise all = (rw (about_later a.question b.question rise.0) all.0, passed a rest later rise.1 all.1)

found : (answers : List AnsweredData) → Rises (questions_of answers) → AllByRecursion (λ (b : AnsweredData). answer_to answers b.question ≡ b.answer) answers
found [] r = tt
found (a ∷ later) r = (rw (about_same a.question) refl, passed a later later r.0 (found later r.1))

given : (answers part : List AnsweredData) → AllByRecursion (λ (b : AnsweredData). answer_to answers b.question ≡ b.answer) part → AllByRecursion IsTaken part
    → GiveAll (by_answers answers) part
given answers [] all kinds = tt
given answers (b ∷ later) all kinds = (decided_so answers b.question ∙ (ap (taken b.question) all.0 ∙ kinds.0), given answers later all.1 kinds.1)

pub some_decisions : (answers : List AnsweredData) → IsAskedOnce (map (λ (a : AnsweredData). a.question) answers) → AllByRecursion IsTaken answers → (d : DecisionsData) × GiveAll d answers
some_decisions answers once kinds = (by_answers answers, given answers answers (found answers (rises (questions_of answers) once)) kinds)
