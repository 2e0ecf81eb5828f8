use Rattle.rezdolin.proofs.ChainLemmas.{chained_so}
use Rattle.rezdolin.proofs.laws.calls_law.Goals as goal

pub returns : goal.returns
returns c = record { chained = λ parts d allowed first calls begins next. chained_so parts d allowed first calls begins next }
