use Rattle.std.proofs.Common.{inl}
use Rattle.rezdolin.proofs.StepLemmas.{if_ok}
use Rattle.rezdolin.proofs.steps.stepped.Goals as goal

pub returns-clause-came : goal.returns-clause-came
returns-clause-came c =
    if_ok _ _ c.step-came.result c.step-came.ensures.came (λ came f. inl (f c.args.parts.now c.args.record.now c.in_ok-ready.ensures.ready c.in_ok-text.ensures.text))
