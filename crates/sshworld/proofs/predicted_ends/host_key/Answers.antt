use Rattle.sshneg.specs.declared.choice.NoCommon.TheVariants as field
use Rattle.sshworld.proofs.predicted_ends.host_key.Goals as goal

pub blob-requires-clause-algorithm : goal.blob-requires-clause-algorithm
blob-requires-clause-algorithm g c = c.requires field.HostKey
