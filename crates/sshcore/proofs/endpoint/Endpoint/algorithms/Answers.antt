use Rattle.sshcore.proofs.CallLemmas.{as_asking}
use Rattle.sshcore.proofs.endpoint.Endpoint.algorithms.Goals as goal

pub returns-clause-chosen : goal.returns-clause-chosen
returns-clause-chosen g c = rw (← c.self.view_is) (λ h s a is. c.algorithms.ensures.chosen (g.D.Decisions.policy c.self.inside.decisions.now) h s (as_asking g.S.Suite.meaning g.D.Decisions.policy c.self.inside.decisions.now c.self.inside.asking h s c.self.invariant a) is)
