use Rattle.std.proofs.Common.{arith}
use Rattle.sshneg.proofs.EndLemmas.{one_answer}
use Rattle.sshneg.proofs.law.agreement_law.Goals as goal

pub returns-clause-agrees : goal.returns-clause-agrees
returns-clause-agrees g c = (g.met.S.AgreeingSuite.agrees c.args.suite.now).agreed c.args.kex.now c.args.client.now c.args.server.now
    c.requires.client c.requires.server (λ i. omega (arith, c.type_inv.client i)) (λ i. omega (arith, c.type_inv.server i))

pub returns-clause-one : goal.returns-clause-one
returns-clause-one g c = one_answer (g.S.Suite.meaning c.args.suite.now) c.args.kex.now c.args.client.now c.args.server.now (returns-clause-agrees g c)

pub returns-clause-signs : goal.returns-clause-signs
returns-clause-signs g c = (g.met.S.AgreeingSuite.agrees c.args.suite.now).signed
