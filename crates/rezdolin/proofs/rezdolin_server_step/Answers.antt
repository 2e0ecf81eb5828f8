use Rattle.std.proofs.Common.{List, ℕ, subst}
use Rattle.rezdolin.specs.declared.parts_of.Parts.TheVariants as parts
use Rattle.rezdolin.specs.Steps.{Calls, GoesOn}
use Rattle.rezdolin.specs.StepsView.{WhyNotFrom}
use Rattle.rezdolin.proofs.StepLemmas.{calls_so}
use Rattle.rezdolin.proofs.rezdolin_server_step.Goals as goal

pub returns : goal.returns
returns c =
    subst (λ (room : List ℕ). Calls (GoesOn (parts.Server c.args.server) c.args.record.now c.args.piece.now) (WhyNotFrom (parts.Server c.args.server) c.args.record.now) c.tell.result c.args.out.now c.args.next.now room c.tell.new.out c.tell.new.next c.tell.new.told)
    c.empty.ensures
    (calls_so (GoesOn (parts.Server c.args.server) c.args.record.now c.args.piece.now) (WhyNotFrom (parts.Server c.args.server) c.args.record.now) c.tell.result c.args.out.now c.args.next.now c.empty.new.room c.tell.new.out c.tell.new.next c.tell.new.told
    c.stepped.result c.stepped.ensures.came c.stepped.ensures.refused c.tell.ensures.came c.tell.ensures.none)
