use Rattle.std.proofs.Common.{List, ℕ, subst}
use Rattle.rezdolin.specs.Steps.{Disconnects}
use Rattle.rezdolin.proofs.StepLemmas.{if_err, if_ok, why_leave}
use Rattle.rezdolin.proofs.steps.disconnected.Goals as goal

pub returns-clause-came : goal.returns-clause-came
returns-clause-came c = if_ok _ _ c.disconnect-came.result c.disconnect-came.ensures.came
    (λ came f. subst (λ (l : List ℕ). Disconnects c.args.parts.now c.args.record.now c.args.reason l came) c.in-Ok.ensures.cases.0
    (f c.args.parts.now c.args.record.now c.in_ok-ready.ensures.ready c.in_ok-text.ensures.text))

pub returns-clause-refused : goal.returns-clause-refused
returns-clause-refused c = if_err _ _ c.disconnect-came.result c.disconnect-came.ensures.refused
    (λ fault f. why_leave c.args.parts.now c.args.record.now c.args.description.now fault (f c.args.parts.now c.args.record.now c.in_ok-ready.ensures.ready c.in_ok-text.ensures.text))
