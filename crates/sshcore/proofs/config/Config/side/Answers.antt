use Rattle.sshcore.proofs.EndpointPartsLemmas.{client_parts_methods, client_parts_names, client_parts_some, server_parts_methods, server_parts_names, server_parts_some}
use Rattle.sshcore.proofs.config.Config.side.Goals as goal

pub returns-in-Client-clause-methods : goal.returns-in-Client-clause-methods
returns-in-Client-clause-methods c = rw c.in-Client.is (client_parts_methods c.parts.result.now c.in-Client.client.now c.parts.ensures.same c.parts.ensures.accepted)

pub returns-in-Client-clause-some : goal.returns-in-Client-clause-some
returns-in-Client-clause-some c = client_parts_some c.parts.result.now c.in-Client.client.now c.parts.ensures.same c.parts.ensures.accepted

pub returns-in-Client-clause-names : goal.returns-in-Client-clause-names
returns-in-Client-clause-names c = client_parts_names c.parts.result.now c.in-Client.client.now c.parts.ensures.same c.parts.ensures.accepted

pub returns-in-Server-clause-methods : goal.returns-in-Server-clause-methods
returns-in-Server-clause-methods c = rw c.in-Server.is (server_parts_methods c.parts-in-Server.result.now c.in-Server.server.now c.parts-in-Server.ensures.same c.parts-in-Server.ensures.accepted)

pub returns-in-Server-clause-some : goal.returns-in-Server-clause-some
returns-in-Server-clause-some c = server_parts_some c.parts-in-Server.result.now c.in-Server.server.now c.parts-in-Server.ensures.same c.parts-in-Server.ensures.accepted

pub returns-in-Server-clause-names : goal.returns-in-Server-clause-names
returns-in-Server-clause-names c = server_parts_names c.parts-in-Server.result.now c.in-Server.server.now c.parts-in-Server.ensures.same c.parts-in-Server.ensures.accepted
