use Rattle.std.proofs.Common.{[]}
use Rattle.std.proofs.lemmas.Result.{on_err_weaker, on_ok_weaker}
use Rattle.sshcore.proofs.CallLemmas.{breaks_of, leaves_of}
use Rattle.sshcore.proofs.endpoint.Endpoint.disconnect.Goals as goal

pub returns-clause-leaves : goal.returns-clause-leaves
returns-clause-leaves g c = rw (← c.self.view_is) (λ is. on_ok_weaker c.disconnect.result
    (λ leaves. leaves_of g.S.Suite.meaning g.D.Decisions.policy c.self.inside.decisions.now c.self.inside.asking c.disconnect.new.self c.args.reason c.args.description.now c.args.out.now.items c.disconnect.new.out.items
    c.self.invariant c.disconnect.ensures.waits leaves) (c.disconnect.ensures.leaves is))

pub returns-clause-memory : goal.returns-clause-memory
returns-clause-memory g c = rw (← c.self.view_is) (on_err_weaker c.disconnect.result
    (λ memory. (
      memory.0,
      memory.1,
      breaks_of g.S.Suite.meaning g.D.Decisions.policy c.self.inside.decisions.now c.self.inside.asking c.disconnect.new.self [] c.args.out.now.items c.disconnect.new.out.items
          c.self.invariant memory.2,
    )) c.disconnect.ensures.memory)
