use Rattle.sshcore.proofs.EndpointPartsLemmas.{client_attempts}
use Rattle.sshcore.proofs.config.Config.plan.Goals as goal

pub returns-in-Client-clause-accepted : goal.returns-in-Client-clause-accepted
returns-in-Client-clause-accepted c =
    client_attempts c.parts.result.now c.in-Client.client.now c.deref.result.now c.parts.ensures.same c.parts.ensures.accepted c.deref.ensures.value
