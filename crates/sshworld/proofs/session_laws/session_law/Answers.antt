use Rattle.sshcore.proofs.LawsBelow.{Below}
use Rattle.sshworld.proofs.EndpointPairs.{joined_crosswise, joined_received, of_world}
use Rattle.sshworld.proofs.session_laws.session_law.Goals as goal

pub returns-clause-received : goal.returns-clause-received
returns-clause-received g c = λ client_config server_config client server client_received client_sent server_received server_sent is_client is_server compatible j a b is other_is.
    let below : Below = record { numbers = c.numbers_law.ensures.message_number; alike = c.numbers_law.ensures.alike; right = c.markers_law.ensures.right } in
    let lawful = g.met.S.Suite.lawful client.suite in
    joined_received g.S.Suite.meaning g.D.Decisions.policy c.below_law.ensures.laws below client_config server_config client server client_received client_sent server_received server_sent lawful
    (c.course_receiving_law.ensures.receive (g.S.Suite.meaning client.suite) (g.D.Decisions.policy client.decisions) client_config server_config lawful compatible is_client is_server) j a b is other_is

pub returns-clause-crosswise : goal.returns-clause-crosswise
returns-clause-crosswise g c = λ client_config server_config client server client_received client_sent server_received server_sent is_client is_server compatible j a b is other_is.
    let below : Below = record { numbers = c.numbers_law.ensures.message_number; alike = c.numbers_law.ensures.alike; right = c.markers_law.ensures.right } in
    let lawful = g.met.S.Suite.lawful client.suite in
    joined_crosswise g.S.Suite.meaning g.D.Decisions.policy c.below_law.ensures.laws below client_config server_config client server client_received client_sent server_received server_sent lawful
    (c.course_receiving_law.ensures.receive (g.S.Suite.meaning client.suite) (g.D.Decisions.policy client.decisions) client_config server_config lawful compatible is_client is_server) j a b is other_is

pub returns-clause-worlds : goal.returns-clause-worlds
returns-clause-worlds g c = of_world g.S.Suite.meaning g.D.Decisions.policy
