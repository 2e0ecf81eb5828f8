use Rattle.sshcore.proofs.CallLemmas.{as_asking}
use Rattle.sshcore.proofs.endpoint.Endpoint.phase.Goals as goal

pub returns-clause-waits : goal.returns-clause-waits
returns-clause-waits g c = rw (← c.self.view_is) (λ h s a is. c.phase.ensures.waits (g.D.Decisions.policy c.self.inside.decisions.now) h s (as_asking g.S.Suite.meaning g.D.Decisions.policy c.self.inside.decisions.now c.self.inside.asking h s c.self.invariant a) is)
