use Rattle.std.proofs.Common.{◌≡◌, IfOk, subst, sym}
use Rattle.sshcore.specs.declared.asking_question.Question.{Question}
use Rattle.sshcore.specs.QuestionsView.{question_data}
use Rattle.rezdolin.specs.Questions.{question_bytes}
use Rattle.rezdolin.proofs.StepLemmas.{if_ok}
use Rattle.rezdolin.proofs.question.question_record.Goals as goal

pub returns-in-Signature : goal.returns-in-Signature
returns-in-Signature c =
    subst (λ (q : Question). IfOk c.signature_record.result (λ v. v.items ≡ question_bytes (question_data q))) (sym c.in-Signature.is)
    (if_ok _ _ c.signature_record.result c.signature_record.ensures (λ v f. f c.in-Signature.number))
