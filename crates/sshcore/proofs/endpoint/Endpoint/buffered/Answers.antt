use Rattle.sshcore.proofs.CallLemmas.{as_asking, none_asked}
use Rattle.sshcore.proofs.endpoint.Endpoint.buffered.Goals as goal

pub returns-clause-unfinished : goal.returns-clause-unfinished
returns-clause-unfinished g c = rw (← c.self.view_is) (λ h s a. c.buffered.ensures.unfinished (g.D.Decisions.policy c.self.inside.decisions.now) h s (as_asking g.S.Suite.meaning g.D.Decisions.policy c.self.inside.decisions.now c.self.inside.asking h s c.self.invariant a) (none_asked g.S.Suite.meaning g.D.Decisions.policy c.self.inside.decisions.now c.self.inside.asking c.self.invariant))
