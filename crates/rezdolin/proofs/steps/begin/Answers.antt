use Rattle.std.proofs.Common.{List, ℕ, subst, sym}
use Rattle.rezdolin.specs.Steps.{ComesTo, Starts}
use Rattle.std.proofs.Common.{[]}
use Rattle.rezdolin.proofs.StepLemmas.{begins_so}
use Rattle.rezdolin.proofs.steps.begin.Goals as goal

pub returns : goal.returns
returns c = record {
  came = λ parts ready.
      let came = c.in_ok-came_to.field-0 in
      let same = c.in_ok-came_to.ensures.same in
      let made = c.in_ok-endpoint.ensures.made in (
        same.0,
        subst (λ (x : List ℕ). ComesTo parts Starts [] x came.end came.record.items came.told.items) (sym same.1)
            (begins_so parts c.args.ready.now.config ready.config ready.read ready.drawn c.in_ok-endpoint.endpoint made.0 c.args.ready.now.digest c.new-sent.result.items c.begin.new.out.items came.end came.record.items came.told.items
            ready.digest c.new-sent.ensures.items made.1 c.in_ok-came_to.ensures.stands c.in_ok-came_to.ensures.asks),
      );
}
