use Rattle.sshcore.proofs.CallLemmas.{cuts_of}
use Rattle.sshcore.proofs.endpoint.Endpoint.end_of_input.Goals as goal

pub returns-clause-cuts : goal.returns-clause-cuts
returns-clause-cuts g c = rw (← c.self.view_is) (λ is. cuts_of g.S.Suite.meaning g.D.Decisions.policy c.self.inside.decisions.now c.self.inside.asking c.end_of_input.new.self c.self.invariant c.end_of_input.ensures.waits (c.end_of_input.ensures.cuts is))
