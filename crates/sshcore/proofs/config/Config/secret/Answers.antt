use Rattle.sshcore.proofs.EndpointPartsLemmas.{no_secret, server_secret}
use Rattle.sshcore.proofs.config.Config.secret.Goals as goal

pub returns-in-Client-clause-secret : goal.returns-in-Client-clause-secret
returns-in-Client-clause-secret c = rw c.in-Client.is (no_secret c.in-Client.field-0.now c.args.algorithm.now)

pub returns-in-Server-clause-short : goal.returns-in-Server-clause-short
returns-in-Server-clause-short c =
    server_secret c.parts.result.now c.in-Server.server.now c.deref.result.now c.args.algorithm.now c.secret_in.result.now c.parts.ensures.same c.parts.ensures.accepted
    c.deref.ensures.value c.secret_in.ensures
