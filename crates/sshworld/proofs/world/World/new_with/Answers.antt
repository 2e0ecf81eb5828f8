use Rattle.sshworld.proofs.WorldCourseLemmas.{fresh_new, fresh_world, holds_in}
use Rattle.sshworld.proofs.world.World.new_with.Goals as goal

pub invariant_of-result : goal.invariant_of-result
invariant_of-result g c =
    let n = c.in_ok-client_config in
    fresh_world g.S.Suite.meaning g.D.Decisions.policy n.client_config n.server_config c.args.suite.now c.args.decisions.now c.below_law.ensures.laws n.client n.server
    c.new-client_config.result c.new-server_config.result n.ensures.first c.new-client_config.ensures.accepted c.new-server_config.ensures.accepted
    c.nodes-nodes.result n.ensures.other c.nodes-nodes.ensures.client c.nodes-nodes.ensures.server

pub returns-clause-start : goal.returns-clause-start
returns-clause-start g c =
    let n = c.in_ok-client_config in
    fresh_new g.S.Suite.meaning g.D.Decisions.policy n.client_config n.server_config c.args.suite.now c.args.decisions.now c.below_law.ensures.laws n.client n.server
    c.new-client_config.result c.new-server_config.result n.ensures.first c.new-client_config.ensures.accepted c.new-server_config.ensures.accepted
    c.nodes-nodes.result n.ensures.other c.nodes-nodes.ensures.client c.nodes-nodes.ensures.server

pub returns-clause-holds : goal.returns-clause-holds
returns-clause-holds g c =
    let n = c.in_ok-client_config in
    holds_in g.S.Suite.meaning g.D.Decisions.policy n.client_config n.server_config c.args.suite.now c.args.decisions.now c.below_law.ensures.laws c.course_receiving_law.ensures.receive (g.met.S.Suite.lawful c.args.suite.now) n.client n.server (invariant_of-result g c)
