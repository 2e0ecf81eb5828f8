use Rattle.sshcore.proofs.CallLemmas.{as_asking}
use Rattle.sshcore.proofs.endpoint.Endpoint.is_strict.Goals as goal

pub returns-clause-both : goal.returns-clause-both
returns-clause-both g c = rw (← c.self.view_is) (λ h s a is. c.is_strict.ensures.both (g.D.Decisions.policy c.self.inside.decisions.now) h s (as_asking g.S.Suite.meaning g.D.Decisions.policy c.self.inside.decisions.now c.self.inside.asking h s c.self.invariant a) is)
