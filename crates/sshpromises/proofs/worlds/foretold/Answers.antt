use Rattle.std.proofs.Common.{◌≡◌}
use Rattle.sshcore.specs.EndData.{end_data}
use Rattle.sshworld.specs.Outcome.{outcome}
use Rattle.sshworld.specs.Worlds.{Complete}
use Rattle.sshpromises.specs.Claims.{HasRun}
use Rattle.sshwire.proofs.OwnedLemmas.{beside_ok}
use Rattle.sshpromises.proofs.WorldLemmas.{told_client, told_server}
use Rattle.sshpromises.proofs.worlds.foretold.Goals as goal

pub returns-clause-client : goal.returns-clause-client
returns-clause-client g c =
    let told = c.in_ok-told in
    let world = c.schedule_ends-world in
    beside_ok c.beside.result (λ told w. Complete w → w.client.end ≡ end_data told.0) world.result told.told c.beside.ensures.first c.beside.ensures.other
    (told_client world.result (outcome (g.S.Suite.meaning c.args.suite.now) (g.D.Decisions.policy c.args.decisions.now) c.args.client.now c.args.server.now) world.ensures.ends
    (end_data told.told.0) told.ensures.outcome.0)

pub returns-clause-server : goal.returns-clause-server
returns-clause-server g c =
    let told = c.in_ok-told in
    let world = c.schedule_ends-world in
    beside_ok c.beside.result (λ told w. Complete w → w.server.end ≡ end_data told.1) world.result told.told c.beside.ensures.first c.beside.ensures.other
    (told_server world.result (outcome (g.S.Suite.meaning c.args.suite.now) (g.D.Decisions.policy c.args.decisions.now) c.args.client.now c.args.server.now) world.ensures.ends
    (end_data told.told.1) told.ensures.outcome.1)

pub returns-clause-ran : goal.returns-clause-ran
returns-clause-ran g c =
    let world = c.schedule_ends-world in
    beside_ok c.beside.result (λ told w. HasRun g.S.Suite.meaning g.D.Decisions.policy c.args.client.now c.args.server.now c.args.suite.now c.args.decisions.now c.args.schedule.now w)
    world.result c.in_ok-told.told c.beside.ensures.first c.beside.ensures.other world.ensures.ran
