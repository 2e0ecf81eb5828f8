use Rattle.std.proofs.Common.{[], refl}
use Rattle.rezdolin.proofs.StepLemmas.{calls_so}
use Rattle.rezdolin.proofs.rezdolin_server_begin.Goals as goal

pub returns : goal.returns
returns c = (
  [],
  refl,
  (
    c.tell.new.told,
    calls_so _ _ c.tell.result c.args.out.now c.args.next.now [] c.tell.new.out c.tell.new.next c.tell.new.told
        c.begun.result c.begun.ensures.came c.begun.ensures.refused c.tell.ensures.came c.tell.ensures.none,
  ),
)
