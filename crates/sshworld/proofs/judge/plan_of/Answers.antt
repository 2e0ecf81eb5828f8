use Rattle.sshcore.proofs.EndpointPartsLemmas.{client_attempts}
use Rattle.sshworld.proofs.JudgeLemmas.{few_attempts}
use Rattle.sshworld.proofs.judge.plan_of.Goals as goal

pub returns-clause-accepted : goal.returns-clause-accepted
returns-clause-accepted c = client_attempts c.parts.result.now c.args.client.now c.deref.result.now c.parts.ensures.same c.parts.ensures.accepted c.deref.ensures.value

pub returns-clause-few : goal.returns-clause-few
returns-clause-few c = few_attempts c.parts.result.now c.args.client.now c.deref.result.now c.parts.ensures.same c.parts.ensures.accepted c.deref.ensures.value
