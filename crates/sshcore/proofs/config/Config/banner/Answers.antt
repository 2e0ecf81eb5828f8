use Rattle.sshcore.proofs.EndpointPartsLemmas.{banner_short}
use Rattle.sshcore.proofs.config.Config.banner.Goals as goal

pub returns-in-Server-clause-short : goal.returns-in-Server-clause-short
returns-in-Server-clause-short c =
    banner_short c.parts.result.now c.in-Server.server.now c.as_deref.result c.parts.ensures.same c.parts.ensures.accepted c.as_deref.ensures.value
