use Rattle.sshsuite.proofs.HybridLemmas.{inputs_apart}
use Rattle.sshsuite.proofs.laws.draws_law.Goals as goal

pub returns : goal.returns
returns c = record { apart = inputs_apart }
