use Rattle.sshneg.specs.declared.choice.NoCommon.TheVariants as field
use Rattle.sshcore.proofs.kex_algorithms.Algorithms.host_key.Goals as goal

pub returns-clause-name : goal.returns-clause-name
returns-clause-name c = rw (← c.self.view_is) (c.self.invariant field.HostKey)
