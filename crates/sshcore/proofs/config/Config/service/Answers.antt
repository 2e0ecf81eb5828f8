use Rattle.std.proofs.Common.{ap, map, string_bytes}
use Rattle.sshcore.proofs.EndpointPartsLemmas.{service_short}
use Rattle.sshcore.proofs.config.Config.service.Goals as goal

pub returns-in-Server-clause-short : goal.returns-in-Server-clause-short
returns-in-Server-clause-short c =
    service_short c.parts.result.now c.in-Server.server.now (map string_bytes c.deref.result.now) c.args.name.now c.name_in.result c.parts.ensures.same c.parts.ensures.accepted
    (ap (map string_bytes) c.deref.ensures.value) c.name_in.ensures
