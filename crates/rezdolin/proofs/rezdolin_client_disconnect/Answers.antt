use Rattle.std.proofs.Common.{[]}
use Rattle.rezdolin.proofs.StepLemmas.{calls_so}
use Rattle.rezdolin.proofs.rezdolin_client_disconnect.Goals as goal

pub returns : goal.returns
returns c = (
  [],
  [],
  c.tell.new.next,
  c.tell.new.told,
  calls_so _ _ c.tell.result c.args.out.now [] [] c.tell.new.out c.tell.new.next c.tell.new.told
      c.disconnected.result c.disconnected.ensures.came c.disconnected.ensures.refused c.tell.ensures.came c.tell.ensures.none,
)
