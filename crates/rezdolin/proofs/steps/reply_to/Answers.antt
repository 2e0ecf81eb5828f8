use Rattle.std.proofs.Common.{◌≡◌, ◌∙◌, IfErr, [], List, ℕ, Option, ap, subst, sym}
use Rattle.std.proofs.lemmas.Result.{err_from_is_err_and}
use Rattle.sshcore.specs.Questions.{QuestionData}
use Rattle.rezdolin.specs.declared.parts_of.Parts.{Parts}
use Rattle.rezdolin.specs.declared.steps.NoStep.{NoStep}
use Rattle.rezdolin.specs.Endpoints.{digest_of}
use Rattle.rezdolin.specs.Frames.{framed}
use Rattle.rezdolin.specs.Steps.{ComesTo, IsAnswered, is_for}
use Rattle.rezdolin.specs.StepsView.{IsReady, WhyNoReply, reply_data}
use Rattle.rezdolin.proofs.StepLemmas.{answers_so, unasked_so, why_reply}
use Rattle.rezdolin.proofs.steps.reply_to.Goals as goal

pub returns-clause-came : goal.returns-clause-came
returns-clause-came c = λ parts bytes ready framed_is.
    let came = c.in_ok-came_to.field-0 in
    let same = c.in_ok-came_to.ensures.same in
    let a = reply_data c.args.reply in
    let kind = sym (c.is_for.ensures ∙ ap (λ (o : Option QuestionData). is_for a o) c.question.ensures.asks) ∙ c.if-not-is_for.false in (
      same.0,
      subst (λ (x : List ℕ). ComesTo parts (IsAnswered a (digest_of parts) bytes) [] x came.end came.record.items came.told.items) (sym same.1)
          (answers_so parts c.args.ready.now.config ready.config ready.read ready.drawn a bytes c.args.text.now c.args.ready.now.digest c.in_ok-endpoint.endpoint c.give.new.endpoint c.new-sent.result.items c.give.new.sent.items
          came.end came.record.items came.told.items ready.digest framed_is c.in_ok-endpoint.ensures.resumes kind c.new-sent.ensures.items (c.in_ok-give.ensures.given kind) c.in_ok-give.ensures.owned
          c.in_ok-came_to.ensures.stands c.in_ok-came_to.ensures.asks),
    )

pub returns-in_err-endpoint-clause-refused : goal.returns-in_err-endpoint-clause-refused
returns-in_err-endpoint-clause-refused c =
    let gone = err_from_is_err_and c.from_residual.result c.from_residual.ensures.1 in
    subst (λ r. IfErr r (λ f. (parts : Parts) (bytes : List ℕ) → IsReady parts c.args.ready.now → bytes ≡ framed c.args.ready.now.digest c.args.text.now → WhyNoReply parts bytes (reply_data c.args.reply) f)) (sym gone.1)
    (λ parts bytes ready framed_is. subst (λ (f : NoStep). WhyNoReply parts bytes (reply_data c.args.reply) f) (sym gone.2)
    (why_reply parts c.args.ready.now.config ready.config bytes c.args.text.now c.args.ready.now.digest (reply_data c.args.reply) c.in_err-endpoint.field-0.0 ready.digest framed_is c.in_err-endpoint.ensures.refused))

pub returns-in_err-give-clause-refused : goal.returns-in_err-give-clause-refused
returns-in_err-give-clause-refused c =
    let gone = err_from_is_err_and c.from_residual-in_err-give.result c.from_residual-in_err-give.ensures.1 in
    subst (λ r. IfErr r (λ f. (parts : Parts) (bytes : List ℕ) → IsReady parts c.args.ready.now → bytes ≡ framed c.args.ready.now.digest c.args.text.now → WhyNoReply parts bytes (reply_data c.args.reply) f)) (sym gone.1)
    (λ parts bytes ready framed_is. subst (λ (f : NoStep). WhyNoReply parts bytes (reply_data c.args.reply) f) (sym gone.2) tt)

pub returns-then-not-is_for-clause-refused : goal.returns-then-not-is_for-clause-refused
returns-then-not-is_for-clause-refused c = λ parts bytes ready framed_is.
    let a = reply_data c.args.reply in
    let other = sym (c.is_for.ensures ∙ ap (λ (o : Option QuestionData). is_for a o) c.question.ensures.asks) ∙ c.if-not-is_for.true in
    unasked_so parts c.args.ready.now.config ready.config a bytes c.args.text.now c.args.ready.now.digest c.in_ok-endpoint.endpoint ready.digest framed_is c.in_ok-endpoint.ensures.resumes other
