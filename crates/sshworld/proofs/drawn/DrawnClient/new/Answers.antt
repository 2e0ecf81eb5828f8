use Rattle.sshworld.proofs.drawn.DrawnClient.new.Goals as goal

pub invariant_of-result : goal.invariant_of-result
invariant_of-result c = c.config_law.ensures.client_redrawn c.args.draws c.args.config.now c.draws_law.ensures c.parts.ensures.accepted

pub returns-clause-accepted : goal.returns-clause-accepted
returns-clause-accepted c = c.config_law.ensures.client_redrawn c.args.draws c.args.config.now c.draws_law.ensures c.parts.ensures.accepted
