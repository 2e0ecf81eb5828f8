use Rattle.std.proofs.Common.{◌≡◌, ◌∙◌, ◌≤◌, ℕ, IfErr, List, length, subst, sym, take}
use Rattle.std.proofs.lemmas.Result.{err_from_is_err_and}
use Rattle.rezdolin.specs.declared.parts_of.Parts.{Parts}
use Rattle.rezdolin.specs.declared.steps.NoStep.{NoStep}
use Rattle.rezdolin.specs.Endpoints.{digest_of}
use Rattle.rezdolin.specs.Frames.{framed}
use Rattle.rezdolin.specs.Steps.{ComesTo, StandsHere}
use Rattle.rezdolin.specs.StepsView.{IsReady, WhyNotFrom}
use Rattle.rezdolin.proofs.StepLemmas.{frame_so, steps_so, why_from}
use Rattle.rezdolin.proofs.steps.step.Goals as goal

pub returns-clause-came : goal.returns-clause-came
returns-clause-came c = λ parts bytes ready framed_is.
    let came = c.in_ok-came_to.field-0 in
    let same = c.in_ok-came_to.ensures.same in
    let piece = c.args.piece.now in (
      frame_so parts bytes c.args.text.now c.args.ready.now.digest ready.digest framed_is,
      subst (λ (n : ℕ). n ≤ length piece) (sym same.0) c.in_ok-used.ensures.within,
      (λ goes_on. let o = c.in_ok-came_to.ensures.opens goes_on in same.0 ∙ c.in_ok-used.ensures.whole o.0 o.1),
      subst (λ (n : ℕ). ComesTo parts (StandsHere (digest_of parts) bytes) (take n piece) came.sent.items came.end came.record.items came.told.items) (sym same.0)
          (subst (λ (x : List ℕ). ComesTo parts (StandsHere (digest_of parts) bytes) (take c.in_ok-used.used piece) x came.end came.record.items came.told.items) (sym same.1)
          (steps_so parts c.args.ready.now.config ready.config ready.read ready.drawn c.args.ready.now.trust bytes c.args.text.now c.args.ready.now.digest
          c.in_ok-endpoint.endpoint c.carry.new.endpoint (take c.in_ok-used.used piece) c.new-sent.result.items c.carry.new.sent.items came.end came.record.items came.told.items
          ready.digest framed_is c.in_ok-endpoint.ensures.resumes ready.trust ready.lists c.new-sent.ensures.items c.in_ok-used.ensures.carried c.in_ok-used.ensures.decided
          c.in_ok-came_to.ensures.stands c.in_ok-came_to.ensures.asks)),
    )

pub returns-in_err-endpoint-clause-refused : goal.returns-in_err-endpoint-clause-refused
returns-in_err-endpoint-clause-refused c =
    let gone = err_from_is_err_and c.from_residual.result c.from_residual.ensures.1 in
    subst (λ r. IfErr r (λ f. (parts : Parts) (bytes : List ℕ) → IsReady parts c.args.ready.now → bytes ≡ framed c.args.ready.now.digest c.args.text.now → WhyNotFrom parts bytes f)) (sym gone.1)
    (λ parts bytes ready framed_is. subst (λ (f : NoStep). WhyNotFrom parts bytes f) (sym gone.2)
    (why_from parts c.args.ready.now.config ready.config bytes c.args.text.now c.args.ready.now.digest c.in_err-endpoint.field-0.0 ready.digest framed_is c.in_err-endpoint.ensures.refused))

pub returns-in_err-used-clause-refused : goal.returns-in_err-used-clause-refused
returns-in_err-used-clause-refused c =
    let gone = err_from_is_err_and c.from_residual-in_err-used.result c.from_residual-in_err-used.ensures.1 in
    subst (λ r. IfErr r (λ f. (parts : Parts) (bytes : List ℕ) → IsReady parts c.args.ready.now → bytes ≡ framed c.args.ready.now.digest c.args.text.now → WhyNotFrom parts bytes f)) (sym gone.1)
    (λ parts bytes ready framed_is. subst (λ (f : NoStep). WhyNotFrom parts bytes f) (sym gone.2) tt)
