use Rattle.std.proofs.Common.{ap, length, refl, sym, ◌∙◌}
use Rattle.sshneg.specs.declared.side.Side.TheVariants.{Client, Server}
use Rattle.sshcore.specs.declared.config_draws.Draws.{Draws}
use Rattle.sshcore.specs.EndpointParts.{config_of_client, config_of_server}
use Rattle.sshcore.specs.Redrawn.{redrawn_client, redrawn_server}
use Rattle.sshcore.specs.EndpointConfig.{config_data, role_of, setup_of}
use Rattle.sshcore.specs.MadeWith.{configs_seen}
use Rattle.sshcore.specs.Paused.{PausedData, kept_with}
use Rattle.sshcore.specs.StateData.{state_data}
use Rattle.sshcore.specs.WaitingView.{waiting_of}
use Rattle.sshcore.proofs.PausedLemmas.{asking_stands_as, fits_as, kept_but_plan, kept_end, kept_same, paused_fits}
use Rattle.sshcore.proofs.asking_endpoint.AskingEndpoint.pause.Goals as goal

pub returns-clause-pauses : goal.returns-clause-pauses
returns-clause-pauses g c =
    let plan = (config_data c.self.inside.config).plan in
    let old = c.self.inside.state in
    rw (← c.self.view_is) (record {
      same_role = c.role-role.ensures;
      same_config = ap (λ (d : Draws). configs_seen d c.seen-made.result) c.into_draws.ensures.draws ∙ c.seen-made.ensures;
      same_suite = c.of.ensures;
      same_input = refl;
      same_waiting = refl;
      same_state = kept_but_plan plan old c.with_left.result (length c.self.inside.state.left.now) refl c.waits-confirmed.result c.waits-confirmed.ensures c.with_left.ensures.confirmed c.with_left.ensures.same;
      same_plan = λ o. kept_same plan old c.with_left.result (length c.self.inside.state.left.now) refl c.waits-confirmed.result c.waits-confirmed.ensures c.with_left.ensures.confirmed c.with_left.ensures.same
          ((c.self.invariant.keeps o).rest);
    })

pub returns-clause-fits : goal.returns-clause-fits
returns-clause-fits g c =
    let config = config_data c.self.inside.config in
    let p : PausedData _ = record {
      draws = c.into_draws.result;
      role = c.role-role.result;
      configs = configs_seen c.into_draws.result c.seen-made.result;
      suites = c.of.result.values;
      input = c.self.inside.input;
      state = c.with_left.result;
      left = length c.self.inside.state.left.now;
      waiting = waiting_of c.self.inside.waiting;
    } in
    rw (← c.self.view_is) (paused_fits g.S.Suite.meaning config c.self.inside.suite.now c.self.inside.state p refl c.waits-confirmed.result c.waits-confirmed.ensures
    c.with_left.ensures.confirmed c.with_left.ensures.same (role_of c.self.inside.config) c.role-role.ensures
    (ap (λ (d : Draws). configs_seen d c.seen-made.result) c.into_draws.ensures.draws ∙ c.seen-made.ensures) c.of.ensures c.self.invariant)

pub returns-clause-fits_client : goal.returns-clause-fits_client
returns-clause-fits_client g c =
    let config = config_data c.self.inside.config in
    let p : PausedData _ = record {
      draws = c.into_draws.result;
      role = c.role-role.result;
      configs = configs_seen c.into_draws.result c.seen-made.result;
      suites = c.of.result.values;
      input = c.self.inside.input;
      state = c.with_left.result;
      left = length c.self.inside.state.left.now;
      waiting = waiting_of c.self.inside.waiting;
    } in
    rw (← c.self.view_is) (λ client draws suite role_is config_is suite_is.
    fits_as g.S.Suite.meaning (role_of c.self.inside.config) Client config (config_of_client (redrawn_client p.draws client)) c.self.inside.suite.now suite p role_is
    (config_is ∙ ap (λ (d : Draws). config_of_client (redrawn_client d client)) (sym (c.into_draws.ensures.client client draws config_is))) suite_is
    (paused_fits g.S.Suite.meaning config c.self.inside.suite.now c.self.inside.state p refl c.waits-confirmed.result c.waits-confirmed.ensures
    c.with_left.ensures.confirmed c.with_left.ensures.same (role_of c.self.inside.config) c.role-role.ensures
    (ap (λ (d : Draws). configs_seen d c.seen-made.result) c.into_draws.ensures.draws ∙ c.seen-made.ensures) c.of.ensures c.self.invariant))

pub returns-clause-fits_server : goal.returns-clause-fits_server
returns-clause-fits_server g c =
    let config = config_data c.self.inside.config in
    let p : PausedData _ = record {
      draws = c.into_draws.result;
      role = c.role-role.result;
      configs = configs_seen c.into_draws.result c.seen-made.result;
      suites = c.of.result.values;
      input = c.self.inside.input;
      state = c.with_left.result;
      left = length c.self.inside.state.left.now;
      waiting = waiting_of c.self.inside.waiting;
    } in
    rw (← c.self.view_is) (λ server draws suite role_is config_is suite_is.
    fits_as g.S.Suite.meaning (role_of c.self.inside.config) Server config (config_of_server (redrawn_server p.draws server)) c.self.inside.suite.now suite p role_is
    (config_is ∙ ap (λ (d : Draws). config_of_server (redrawn_server d server)) (sym (c.into_draws.ensures.server server draws config_is))) suite_is
    (paused_fits g.S.Suite.meaning config c.self.inside.suite.now c.self.inside.state p refl c.waits-confirmed.result c.waits-confirmed.ensures
    c.with_left.ensures.confirmed c.with_left.ensures.same (role_of c.self.inside.config) c.role-role.ensures
    (ap (λ (d : Draws). configs_seen d c.seen-made.result) c.into_draws.ensures.draws ∙ c.seen-made.ensures) c.of.ensures c.self.invariant))

pub returns-clause-client : goal.returns-clause-client
returns-clause-client g c = rw (← c.self.view_is) (λ client draws e. c.into_draws.ensures.client client draws e)

pub returns-clause-server : goal.returns-clause-server
returns-clause-server g c = rw (← c.self.view_is) (λ server draws e. c.into_draws.ensures.server server draws e)

pub returns-clause-follows : goal.returns-clause-follows
returns-clause-follows g c =
    let config = config_data c.self.inside.config in
    let old = c.self.inside.state in
    rw (← c.self.view_is) (λ d h s a.
    asking_stands_as (state_data old) (kept_with config.plan c.with_left.result (length c.self.inside.state.left.now))
    (kept_end config.plan old c.with_left.result (length c.self.inside.state.left.now) refl c.waits-confirmed.result c.waits-confirmed.ensures c.with_left.ensures.confirmed c.with_left.ensures.same)
    (λ o. kept_same config.plan old c.with_left.result (length c.self.inside.state.left.now) refl c.waits-confirmed.result c.waits-confirmed.ensures c.with_left.ensures.confirmed c.with_left.ensures.same
    ((c.self.invariant.keeps o).rest))
    (setup_of (g.S.Suite.meaning c.self.inside.suite.now) d c.self.inside.config) c.self.inside.input (waiting_of c.self.inside.waiting) h s a)
