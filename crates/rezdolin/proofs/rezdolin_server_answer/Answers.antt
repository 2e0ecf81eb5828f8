use Rattle.std.proofs.Common.{List, ℕ, subst}
use Rattle.rezdolin.specs.declared.parts_of.Parts.TheVariants as parts
use Rattle.rezdolin.specs.Steps.{Calls, IsAnsweredBy}
use Rattle.rezdolin.specs.StepsView.{WhyNoAnswer}
use Rattle.rezdolin.proofs.StepLemmas.{calls_so}
use Rattle.rezdolin.proofs.rezdolin_server_answer.Goals as goal

pub returns : goal.returns
returns c =
    subst (λ (room : List ℕ). Calls (IsAnsweredBy (parts.Server c.args.server) c.args.record.now c.args.answer c.args.signature.now) (WhyNoAnswer (parts.Server c.args.server) c.args.record.now c.args.answer c.args.signature.now) c.tell.result c.args.out.now c.args.next.now room c.tell.new.out c.tell.new.next c.tell.new.told)
    c.empty.ensures
    (calls_so (IsAnsweredBy (parts.Server c.args.server) c.args.record.now c.args.answer c.args.signature.now) (WhyNoAnswer (parts.Server c.args.server) c.args.record.now c.args.answer c.args.signature.now) c.tell.result c.args.out.now c.args.next.now c.empty.new.room c.tell.new.out c.tell.new.next c.tell.new.told
    c.answered.result c.answered.ensures.came c.answered.ensures.refused c.tell.ensures.came c.tell.ensures.none)
