use Rattle.std.proofs.Common.{◌≡◌, ℕ, IfErr, List, refl, subst, sym}
use Rattle.std.proofs.lemmas.Result.{err_from_is_err_and}
use Rattle.rezdolin.specs.declared.parts_of.Parts.{Parts}
use Rattle.rezdolin.specs.declared.steps.NoStep.{NoStep}
use Rattle.rezdolin.specs.Frames.{framed}
use Rattle.rezdolin.specs.StepsView.{IsReady, WhyNotFrom}
use Rattle.rezdolin.proofs.StepLemmas.{frame_so, leaves_so, taken_so, why_from}
use Rattle.rezdolin.proofs.steps.disconnect.Goals as goal

pub returns-clause-came : goal.returns-clause-came
returns-clause-came c = λ parts bytes ready framed_is. (
  refl,
  record {
    taken = taken_so parts c.args.ready.now.config ready.read ready.drawn ready.config;
    written_for = frame_so parts bytes c.args.text.now c.args.ready.now.digest ready.digest framed_is;
    none = c.new.ensures.items;
    nothing = c.new-2.ensures.items;
    end_is = c.numbers.ensures;
    leaves = leaves_so parts c.args.ready.now.config ready.config bytes c.args.text.now c.args.ready.now.digest c.args.description.now c.args.reason
        c.in_ok-endpoint.endpoint c.disconnect.new.self c.new-sent.result.items c.disconnect.new.out.items ready.digest framed_is c.in_ok-endpoint.ensures.resumes
        c.new-sent.ensures.items (c.in_ok-disconnect.ensures.leaves c.in_ok-endpoint.ensures.resumes.is_open);
  },
)

pub returns-in_err-endpoint-clause-refused : goal.returns-in_err-endpoint-clause-refused
returns-in_err-endpoint-clause-refused c =
    let gone = err_from_is_err_and c.from_residual.result c.from_residual.ensures.1 in
    subst (λ r. IfErr r (λ f. (parts : Parts) (bytes : List ℕ) → IsReady parts c.args.ready.now → bytes ≡ framed c.args.ready.now.digest c.args.text.now → WhyNotFrom parts bytes f)) (sym gone.1)
    (λ parts bytes ready framed_is. subst (λ (f : NoStep). WhyNotFrom parts bytes f) (sym gone.2)
    (why_from parts c.args.ready.now.config ready.config bytes c.args.text.now c.args.ready.now.digest c.in_err-endpoint.field-0.0 ready.digest framed_is c.in_err-endpoint.ensures.refused))

pub returns-in_err-disconnect-clause-refused : goal.returns-in_err-disconnect-clause-refused
returns-in_err-disconnect-clause-refused c =
    let gone = err_from_is_err_and c.from_residual-in_err-disconnect.result c.from_residual-in_err-disconnect.ensures.1 in
    subst (λ r. IfErr r (λ f. (parts : Parts) (bytes : List ℕ) → IsReady parts c.args.ready.now → bytes ≡ framed c.args.ready.now.digest c.args.text.now → WhyNotFrom parts bytes f)) (sym gone.1)
    (λ parts bytes ready framed_is. subst (λ (f : NoStep). WhyNotFrom parts bytes f) (sym gone.2) tt)
