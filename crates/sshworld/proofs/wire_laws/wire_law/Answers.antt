use Rattle.sshworld.proofs.WireLemmas.{client_uses, on_wire, server_uses, wire_ends}
use Rattle.sshworld.proofs.wire_laws.wire_law.Goals as goal

pub returns-clause-begins : goal.returns-clause-begins
returns-clause-begins g c = λ client_config server_config suite decisions.
    on_wire g.S.Suite.meaning g.D.Decisions.policy client_config server_config suite decisions c.below_law.ensures.laws

pub returns-clause-client_uses : goal.returns-clause-client_uses
returns-clause-client_uses g c = λ client_config server_config suite decisions.
    client_uses g.S.Suite.meaning g.D.Decisions.policy client_config server_config suite decisions c.below_law.ensures.laws (g.met.S.Suite.lawful suite)

pub returns-clause-server_uses : goal.returns-clause-server_uses
returns-clause-server_uses g c = λ client_config server_config suite decisions.
    server_uses g.S.Suite.meaning g.D.Decisions.policy client_config server_config suite decisions c.below_law.ensures.laws (g.met.S.Suite.lawful suite)

pub returns-clause-ends : goal.returns-clause-ends
returns-clause-ends g c = λ client_config server_config suite decisions.
    wire_ends g.S.Suite.meaning g.D.Decisions.policy client_config server_config suite decisions c.below_law.ensures.laws c.course_receiving_law.ensures.receive (g.met.S.Suite.lawful suite)
