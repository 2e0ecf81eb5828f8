use Rattle.std.proofs.Common.{ℕ, ◌+◌, ◌*◌, length, ap, arith, subst}
use Rattle.sshcore.specs.declared.config_fault.ConfigFault.TheVariants as fault
use Rattle.sshcore.specs.ConfigParts.{ClientData}
use Rattle.sshworld.specs.Deliveries.{Rounds}
use Rattle.sshworld.specs.Outcome.{outcome}
use Rattle.sshworld.specs.Worlds.{Complete}
use Rattle.sshpromises.specs.Claims.{EndsWellOnce, HasSettled}
use Rattle.sshwire.proofs.OwnedLemmas.{once_ok, where_both, where_ok}
use Rattle.sshpromises.proofs.RequestLemmas.{few_requests}
use Rattle.sshpromises.proofs.WorldLemmas.{settled_well}
use Rattle.sshpromises.proofs.worlds.settled.Goals as goal

pub overflow_cast-rounds : goal.overflow_cast-rounds
overflow_cast-rounds g c = omega (arith, c.attempts.ensures.count, c.attempts.ensures.accepted.keeps fault.Plan)

pub overflow_mul-rounds : goal.overflow_mul-rounds
overflow_mul-rounds g c = omega (arith, c.attempts.ensures.count, c.attempts.ensures.accepted.keeps fault.Plan)

pub overflow_add-rounds : goal.overflow_add-rounds
overflow_add-rounds g c = omega (arith, c.attempts.ensures.count, c.attempts.ensures.accepted.keeps fault.Plan)

pub returns-clause-complete : goal.returns-clause-complete
returns-clause-complete g c =
    let e = c.in_ok-world.ensures in
    let s = c.settle-done in
    once_ok c.once.result (λ w. Complete w) tt s.result s.new.self c.once.ensures.value c.once.ensures.done
    (where_ok s.result s.ensures.bound (λ bound. bound e.compatible e.memory
    (omega (arith, c.attempts.ensures.count, few_requests c.in_ok-world.world.client_config.plan, ap (λ (x : ClientData). length x.plan) e.client_config))))

pub returns-clause-ends : goal.returns-clause-ends
returns-clause-ends g c =
    let e = c.in_ok-world.ensures in
    let s = c.settle-done in
    once_ok c.once.result (λ w. EndsWellOnce (outcome (g.S.Suite.meaning c.args.suite.now) (g.D.Decisions.policy c.args.decisions.now) c.args.client.now c.args.server.now) w)
    tt s.result s.new.self c.once.ensures.value c.once.ensures.done
    (where_both s.result s.ensures.still s.ensures.bound (λ still bound.
    settled_well g.S.Suite.meaning g.D.Decisions.policy c.args.client.now c.args.server.now c.args.suite.now c.args.decisions.now c.in_ok-world.world s.new.self
    e.client_config e.server_config e.suite e.decisions s.ensures.setup e.compatible (still e.memory) s.ensures.holds.headline
    (bound e.compatible e.memory
    (omega (arith, c.attempts.ensures.count, few_requests c.in_ok-world.world.client_config.plan, ap (λ (x : ClientData). length x.plan) e.client_config)))))

pub returns-clause-ran : goal.returns-clause-ran
returns-clause-ran g c =
    let s = c.settle-done in
    once_ok c.once.result (λ w. HasSettled g.S.Suite.meaning g.D.Decisions.policy c.args.client.now c.args.server.now c.args.suite.now c.args.decisions.now c.args.schedule.now (2 * length c.args.client.now.plan + 4) w)
    tt s.result s.new.self c.once.ensures.value c.once.ensures.done
    (where_ok s.result s.ensures.rounds (λ rounds. record {
      before = c.in_ok-world.world;
      ran = c.in_ok-world.ensures.ran;
      settled = subst (λ (n : ℕ). Rounds g.S.Suite.meaning g.D.Decisions.policy n c.in_ok-world.world s.new.self) (ap (λ (n : ℕ). 2 * n + 4) c.attempts.ensures.count) rounds;
    }))
