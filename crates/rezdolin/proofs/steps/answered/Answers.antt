use Rattle.std.proofs.Common.{IfErr, subst, sym}
use Rattle.std.proofs.lemmas.Result.{err_from_is_err_and}
use Rattle.rezdolin.specs.declared.steps.NoStep.{NoStep}
use Rattle.rezdolin.specs.StepsView.{WhyNoAnswer, frame_step, reply_data}
use Rattle.rezdolin.proofs.StepLemmas.{frame_so, if_err, if_ok, why_answer, why_frame_reply}
use Rattle.rezdolin.proofs.steps.answered.Goals as goal

pub returns-in_err-text-clause-refused : goal.returns-in_err-text-clause-refused
returns-in_err-text-clause-refused c =
    let gone = err_from_is_err_and c.from_residual-in_err-text.result c.from_residual-in_err-text.ensures.1 in
    let a = reply_data c.in-Some.reply in
    subst (λ r. IfErr r (λ f. WhyNoAnswer c.args.parts.now c.args.record.now c.args.answer c.args.signature.now f)) (sym gone.1)
    (subst (λ (f : NoStep). WhyNoAnswer c.args.parts.now c.args.record.now c.args.answer c.args.signature.now f) (sym gone.2)
    (why_answer c.args.parts.now c.args.record.now c.args.signature.now c.args.answer a (frame_step c.in_err-text.field-0.0) c.in-Some.ensures.reply
    (why_frame_reply c.args.parts.now c.args.record.now c.in_ok-ready.ready.digest a c.in_err-text.field-0.0 c.in_ok-ready.ensures.ready.digest c.in_err-text.ensures.refused)))

pub returns-clause-came : goal.returns-clause-came
returns-clause-came c = if_ok _ _ c.reply_to-came.result c.reply_to-came.ensures.came
    (λ came f. let g = f c.args.parts.now c.args.record.now c.in_ok-ready.ensures.ready c.in_ok-text.ensures.text in (
      reply_data c.in-Some.reply,
      c.in-Some.ensures.reply,
      frame_so c.args.parts.now c.args.record.now c.in_ok-text.text.now c.in_ok-ready.ready.digest c.in_ok-ready.ensures.ready.digest c.in_ok-text.ensures.text,
      g.0,
      g.1,
    ))

pub returns-clause-refused : goal.returns-clause-refused
returns-clause-refused c = if_err _ _ c.reply_to-came.result c.reply_to-came.ensures.refused
    (λ fault f. why_answer c.args.parts.now c.args.record.now c.args.signature.now c.args.answer (reply_data c.in-Some.reply) fault c.in-Some.ensures.reply
    (f c.args.parts.now c.args.record.now c.in_ok-ready.ensures.ready c.in_ok-text.ensures.text))
