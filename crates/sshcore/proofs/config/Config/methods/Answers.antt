use Rattle.sshcore.proofs.EndpointPartsLemmas.{methods_named, methods_short}
use Rattle.sshcore.proofs.config.Config.methods.Goals as goal

pub returns-in-Server-clause-names : goal.returns-in-Server-clause-names
returns-in-Server-clause-names c = rw c.in-Server.is (methods_named c.in-Server.server.now c.parts.ensures.accepted)

pub returns-in-Server-clause-short : goal.returns-in-Server-clause-short
returns-in-Server-clause-short c = rw c.in-Server.is (methods_short c.in-Server.server.now c.parts.ensures.accepted)
