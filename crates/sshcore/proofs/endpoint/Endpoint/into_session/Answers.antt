use Rattle.sshcore.proofs.CallLemmas.{as_asking}
use Rattle.sshcore.proofs.endpoint.Endpoint.into_session.Goals as goal

pub returns-clause-session : goal.returns-clause-session
returns-clause-session g c = rw (← c.self.view_is) (λ h s a end is.
    let x = c.into_session.ensures.session (g.D.Decisions.policy c.self.inside.decisions.now) h s (as_asking g.S.Suite.meaning g.D.Decisions.policy c.self.inside.decisions.now c.self.inside.asking h s c.self.invariant a) end is in (x.0, x.1, x.2, x.3))
