use Rattle.sshmlkem.proofs.SamplingLemmas.{sample_cbd_is, sampled, sampled_all}
use Rattle.sshmlkem.proofs.laws.sampling_law.Goals as goal

pub returns-clause-matrix : goal.returns-clause-matrix
returns-clause-matrix c = sampled_all

pub returns-clause-always : goal.returns-clause-always
returns-clause-always c = sampled

pub returns-clause-noise : goal.returns-clause-noise
returns-clause-noise c = sample_cbd_is
