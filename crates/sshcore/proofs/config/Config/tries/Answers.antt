use Rattle.sshcore.proofs.EndpointPartsLemmas.{tries_short}
use Rattle.sshcore.proofs.config.Config.tries.Goals as goal

pub returns-in-Server-clause-bound : goal.returns-in-Server-clause-bound
returns-in-Server-clause-bound c = tries_short c.parts.result.now c.in-Server.server.now c.parts.ensures.same c.parts.ensures.accepted
