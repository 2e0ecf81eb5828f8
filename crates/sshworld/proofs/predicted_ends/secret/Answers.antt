use Rattle.sshcore.proofs.EndpointPartsLemmas.{server_secret}
use Rattle.sshworld.proofs.predicted_ends.secret.Goals as goal

pub returns-clause-short : goal.returns-clause-short
returns-clause-short c =
    server_secret c.parts.result.now c.args.server.now c.deref.result.now c.args.algorithm.now c.secret_in.result.now c.parts.ensures.same c.parts.ensures.accepted
    c.deref.ensures.value c.secret_in.ensures
