use Rattle.sshcore.specs.Endpoints.{endpoint_end}
use Rattle.sshworld.proofs.HandedLemmas.{client_after, handed, nodes_joined, not_both, server_after}
use Rattle.sshworld.proofs.world.World.into_sessions.Goals as goal

pub returns-clause-sessions : goal.returns-clause-sessions
returns-clause-sessions g c =
    let i = c.self.inside in
    let m = g.S.Suite.meaning in
    let d = g.D.Decisions.policy in
    let one = c.into_session-of_client in
    let other = c.into_session-of_server in
    rw (c.zip.ensures, ← c.self.view_is) (λ a b is other_is.
    handed m d i.client_config i.server_config i.suite.now i.decisions.now i.client i.server c.self.invariant.nodes a b is other_is
    one.result other.result
    (one.ensures.session _ _ (client_after m d i.client_config i.server_config i.suite.now i.decisions.now i.client i.server c.self.invariant.nodes a b is other_is) a is)
    (other.ensures.session _ _ (server_after m d i.client_config i.server_config i.suite.now i.decisions.now i.client i.server c.self.invariant.nodes a b is other_is) b other_is)
    (λ x y u sx sy. c.session_law.ensures.crosswise i.client_config i.server_config i.client.endpoint i.server.endpoint _ _ _ _
    c.self.invariant.client_accepted c.self.invariant.server_accepted u
    (nodes_joined m d i.client_config i.server_config i.suite.now i.decisions.now i.client i.server c.self.invariant.nodes a b is other_is) a b is other_is x y sx sy))

pub returns-clause-none : goal.returns-clause-none
returns-clause-none g c =
    let i = c.self.inside in
    let one = c.into_session-of_client in
    let other = c.into_session-of_server in
    rw (c.zip.ensures, ← c.self.view_is) (λ off.
    (not_both (endpoint_end i.client.endpoint) (endpoint_end i.server.endpoint) one.result other.result one.ensures.none other.ensures.none off))
