use Rattle.std.proofs.Common.{◌≡◌, ◌∙◌}
use Rattle.sshworld.specs.Worlds.{HadMemory}
use Rattle.sshworld.specs.WorldCourse.{AreCompatibleIn}
use Rattle.sshworld.specs.Outcome.{outcome}
use Rattle.sshpromises.specs.Claims.{EndsWell, HasRun}
use Rattle.sshwire.proofs.OwnedLemmas.{once_always, once_ok, where_ok}
use Rattle.sshpromises.proofs.WorldLemmas.{compatible_in, ends_well, new_had}
use Rattle.sshpromises.proofs.worlds.schedule_ends.Goals as goal

pub returns-clause-client_config : goal.returns-clause-client_config
returns-clause-client_config g c =
    once_always c.once.result (λ w. w.client_config ≡ c.args.client.now) c.run-ran.new.self c.once.ensures.value (c.run-ran.ensures.setup.same_client_config ∙ c.in_ok-world.ensures.client_config)

pub returns-clause-server_config : goal.returns-clause-server_config
returns-clause-server_config g c =
    once_always c.once.result (λ w. w.server_config ≡ c.args.server.now) c.run-ran.new.self c.once.ensures.value (c.run-ran.ensures.setup.same_server_config ∙ c.in_ok-world.ensures.server_config)

pub returns-clause-suite : goal.returns-clause-suite
returns-clause-suite g c =
    once_always c.once.result (λ w. w.suite ≡ c.args.suite.now) c.run-ran.new.self c.once.ensures.value (c.run-ran.ensures.setup.same_suite ∙ c.in_ok-world.ensures.suite)

pub returns-clause-decisions : goal.returns-clause-decisions
returns-clause-decisions g c =
    once_always c.once.result (λ w. w.decisions ≡ c.args.decisions.now) c.run-ran.new.self c.once.ensures.value (c.run-ran.ensures.setup.same_decisions ∙ c.in_ok-world.ensures.decisions)

pub returns-clause-memory : goal.returns-clause-memory
returns-clause-memory g c =
    once_ok c.once.result (λ w. HadMemory w) tt c.run-ran.result c.run-ran.new.self c.once.ensures.value c.once.ensures.done
    (where_ok c.run-ran.result c.run-ran.ensures.still (λ still. still (new_had g.S.Suite.meaning g.D.Decisions.policy c.in_ok-world.world c.in_ok-world.ensures.start)))

pub returns-clause-compatible : goal.returns-clause-compatible
returns-clause-compatible g c =
    let e = c.in_ok-world.ensures in
    let s = c.run-ran.ensures.setup in
    once_always c.once.result (λ w. AreCompatibleIn g.S.Suite.meaning g.D.Decisions.policy w) c.run-ran.new.self c.once.ensures.value
    (compatible_in g.S.Suite.meaning g.D.Decisions.policy c.args.client.now c.args.server.now c.args.suite.now c.args.decisions.now c.run-ran.new.self
    (s.same_client_config ∙ e.client_config) (s.same_server_config ∙ e.server_config) (s.same_suite ∙ e.suite) (s.same_decisions ∙ e.decisions)
    (c.follows_law.ensures.compatible (g.S.Suite.meaning c.args.suite.now) (g.D.Decisions.policy c.args.decisions.now) c.args.client.now c.args.server.now
    (g.met.S.AgreeingSuite.agrees c.args.suite.now) c.parts.ensures.accepted c.parts-2.ensures.accepted))

pub returns-clause-ends : goal.returns-clause-ends
returns-clause-ends g c =
    let e = c.in_ok-world.ensures in
    let s = c.run-ran.ensures.setup in
    once_ok c.once.result (λ w. EndsWell (outcome (g.S.Suite.meaning c.args.suite.now) (g.D.Decisions.policy c.args.decisions.now) c.args.client.now c.args.server.now) w)
    tt c.run-ran.result c.run-ran.new.self c.once.ensures.value c.once.ensures.done
    (where_ok c.run-ran.result c.run-ran.ensures.still (λ still. ends_well g.S.Suite.meaning g.D.Decisions.policy c.args.client.now c.args.server.now c.args.suite.now c.args.decisions.now c.run-ran.new.self
    (s.same_client_config ∙ e.client_config) (s.same_server_config ∙ e.server_config) (s.same_suite ∙ e.suite) (s.same_decisions ∙ e.decisions)
    (c.follows_law.ensures.compatible (g.S.Suite.meaning c.args.suite.now) (g.D.Decisions.policy c.args.decisions.now) c.args.client.now c.args.server.now
    (g.met.S.AgreeingSuite.agrees c.args.suite.now) c.parts.ensures.accepted c.parts-2.ensures.accepted)
    (still (new_had g.S.Suite.meaning g.D.Decisions.policy c.in_ok-world.world e.start)) c.run-ran.ensures.holds.headline))

pub returns-clause-ran : goal.returns-clause-ran
returns-clause-ran g c =
    let e = c.in_ok-world.ensures in
    once_ok c.once.result (λ w. HasRun g.S.Suite.meaning g.D.Decisions.policy c.args.client.now c.args.server.now c.args.suite.now c.args.decisions.now c.args.schedule.now w)
    tt c.run-ran.result c.run-ran.new.self c.once.ensures.value c.once.ensures.done
    (where_ok c.run-ran.result c.run-ran.ensures.runs (λ runs. record {
      begun = c.in_ok-world.world;
      of_client = e.client_config;
      of_server = e.server_config;
      of_suite = e.suite;
      of_decisions = e.decisions;
      is_new = e.start;
      runs = runs;
    }))
