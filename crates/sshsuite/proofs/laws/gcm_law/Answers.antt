use Rattle.sshsuite.proofs.AesSamples.{tag_sample}
use Rattle.sshsuite.proofs.laws.gcm_law.Goals as goal

pub returns : goal.returns
returns c = tag_sample
