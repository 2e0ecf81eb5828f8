use Rattle.sshcore.proofs.EndpointPartsLemmas.{signatures_short}
use Rattle.sshcore.proofs.config.Config.signature_algorithms.Goals as goal

pub returns-in-Server-clause-short : goal.returns-in-Server-clause-short
returns-in-Server-clause-short c = rw c.in-Server.is (signatures_short c.in-Server.server.now c.parts.ensures.accepted)
