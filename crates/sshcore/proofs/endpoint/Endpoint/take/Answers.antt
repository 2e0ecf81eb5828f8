use Rattle.std.proofs.Common.{ap, take}
use Rattle.sshcore.proofs.CallLemmas.{breaks_deciding, breaks_of, fed_of, on_err}
use Rattle.sshcore.proofs.endpoint.Endpoint.take.Goals as goal

pub returns-clause-fed : goal.returns-clause-fed
returns-clause-fed g c =
    rw (← c.self.view_is) (fed_of g.S.Suite.meaning g.D.Decisions.policy c.self.inside.decisions.now c.self.inside.asking c.take_for.new.self c.decide.new.self
    (take c.in_ok-used.used c.args.piece.now) c.args.out.now.items c.take_for.new.out.items c.decide.new.out.items c.self.invariant c.in_ok-used.ensures.fed c.in_ok-used.ensures.waits
    (λ none. let same = c.decide.ensures.none none in (same.1, ap (λ v. v.items) same.2)) c.in_ok-decide.ensures.decided).1

pub returns-in_err-used-clause-memory : goal.returns-in_err-used-clause-memory
returns-in_err-used-clause-memory g c = rw (← c.self.view_is) (on_err c.from_residual.result (
  c.in_err-used.ensures.memory.0,
  breaks_of g.S.Suite.meaning g.D.Decisions.policy c.self.inside.decisions.now c.self.inside.asking c.take_for.new.self c.args.piece.now c.args.out.now.items c.take_for.new.out.items
      c.self.invariant c.in_err-used.ensures.memory.1,
))

pub returns-in_err-decide-clause-memory : goal.returns-in_err-decide-clause-memory
returns-in_err-decide-clause-memory g c = rw (← c.self.view_is) (on_err c.from_residual-in_err-decide.result (
  c.in_err-decide.ensures.memory.0,
  breaks_deciding g.S.Suite.meaning g.D.Decisions.policy c.self.inside.decisions.now c.self.inside.asking c.take_for.new.self c.decide.new.self c.args.piece.now
      c.args.out.now.items c.take_for.new.out.items c.decide.new.out.items c.in_ok-used.ensures.waits (λ none. let bad = (c.in_err-decide.ensures.none none).0 in cc)
      c.in_ok-used.ensures.fed.same c.in_err-decide.ensures.memory.3 c.in_err-decide.ensures.memory.2,
))
