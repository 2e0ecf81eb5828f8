use Rattle.rezdolin.proofs.StepLemmas.{if_ok}
use Rattle.rezdolin.proofs.steps.came_to.Goals as goal

pub returns-in_default : goal.returns-in_default
returns-in_default c = record {
  stands = if_ok _ _ c.ended.result c.ended.ensures.stands (λ came f d h s after brought. f d h s after brought c.args.digest.now);
  same = c.ended.ensures.same;
  asks = c.ended.ensures.asks;
  opens = c.ended.ensures.opens;
}
