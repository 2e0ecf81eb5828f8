use Rattle.sshneg.specs.declared.choice.NoCommon.TheVariants as field
use Rattle.sshcore.proofs.kex_algorithms.Algorithms.mac.Goals as goal

pub returns-in-Client-clause-name : goal.returns-in-Client-clause-name
returns-in-Client-clause-name c = rw (c.in-Client.is, ← c.self.view_is) (c.self.invariant field.MacClientToServer)

pub returns-in-Server-clause-name : goal.returns-in-Server-clause-name
returns-in-Server-clause-name c = rw (c.in-Server.is, ← c.self.view_is) (c.self.invariant field.MacServerToClient)
