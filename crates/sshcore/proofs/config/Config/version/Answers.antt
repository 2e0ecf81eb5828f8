use Rattle.sshcore.proofs.EndpointPartsLemmas.{client_line, server_line}
use Rattle.sshcore.proofs.config.Config.version.Goals as goal

pub returns-in-Client-clause-short : goal.returns-in-Client-clause-short
returns-in-Client-clause-short c = rw c.in-Client.is (client_line c.in-Client.client.now c.version.ensures.accepted)

pub returns-in-Server-clause-short : goal.returns-in-Server-clause-short
returns-in-Server-clause-short c = rw c.in-Server.is (server_line c.in-Server.server.now c.version-in-Server.ensures.accepted)
