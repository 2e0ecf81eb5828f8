-- A config that is accepted is so with any draws.

use Rattle.sshcore.specs.declared.config_fault.ConfigFault.{ConfigFault}
use Rattle.sshcore.specs.declared.config_fault.ConfigFault.TheVariants as fault
use Rattle.sshcore.specs.declared.config_draws.Draws.{Draws}
use Rattle.sshcore.specs.ConfigParts.{ClientData, ServerData, SideData}
use Rattle.sshcore.specs.ConfigRules.{ClientRule, HasBytes, HasLengths, IsClient, IsServer, ServerRule}
use Rattle.sshcore.specs.Redrawn.{AreDraws, redrawn_client, redrawn_server, redrawn_side}

has_lengths : (draws : Draws) (side : SideData) → AreDraws draws → HasLengths (redrawn_side draws side)
has_lengths draws side are = record { cookie = are.cookie_length; random = are.random_length; seed = are.seed_length }

has_bytes : (draws : Draws) (side : SideData) → AreDraws draws → HasBytes (redrawn_side draws side)
has_bytes draws side are = record { cookie = are.cookie; random = are.random; seed = are.seed }

-- no other rule knows of draws
client_keeps : (draws : Draws) (client : ClientData) → AreDraws draws → IsClient client → (code : ConfigFault) → ClientRule code (redrawn_client draws client)
client_keeps draws client are is fault.EmptyList = is.keeps fault.EmptyList
client_keeps draws client are is fault.Name = is.keeps fault.Name
client_keeps draws client are is fault.ListTooLong = is.keeps fault.ListTooLong
client_keeps draws client are is fault.Line = is.keeps fault.Line
client_keeps draws client are is fault.User = is.keeps fault.User
client_keeps draws client are is fault.Secret = is.keeps fault.Secret
client_keeps draws client are is fault.Blob = is.keeps fault.Blob
client_keeps draws client are is fault.Plan = is.keeps fault.Plan
client_keeps draws client are is fault.Tries = is.keeps fault.Tries
client_keeps draws client are is fault.Random = has_lengths draws client.side are
client_keeps draws client are is fault.Memory = is.keeps fault.Memory
client_keeps draws client are is fault.Required = is.keeps fault.Required

server_keeps : (draws : Draws) (server : ServerData) → AreDraws draws → IsServer server → (code : ConfigFault) → ServerRule code (redrawn_server draws server)
server_keeps draws server are is fault.EmptyList = is.keeps fault.EmptyList
server_keeps draws server are is fault.Name = is.keeps fault.Name
server_keeps draws server are is fault.ListTooLong = is.keeps fault.ListTooLong
server_keeps draws server are is fault.Line = is.keeps fault.Line
server_keeps draws server are is fault.User = is.keeps fault.User
server_keeps draws server are is fault.Secret = is.keeps fault.Secret
server_keeps draws server are is fault.Blob = is.keeps fault.Blob
server_keeps draws server are is fault.Plan = is.keeps fault.Plan
server_keeps draws server are is fault.Tries = is.keeps fault.Tries
server_keeps draws server are is fault.Random = has_lengths draws server.side are
server_keeps draws server are is fault.Memory = is.keeps fault.Memory
server_keeps draws server are is fault.Required = is.keeps fault.Required

pub client_redrawn : (draws : Draws) (client : ClientData) → AreDraws draws → IsClient client → IsClient (redrawn_client draws client)
client_redrawn draws client are is =
    record { keeps = client_keeps draws client are is; users = is.users; bytes = has_bytes draws client.side are }

pub server_redrawn : (draws : Draws) (server : ServerData) → AreDraws draws → IsServer server → IsServer (redrawn_server draws server)
server_redrawn draws server are is = record { keeps = server_keeps draws server are is; bytes = has_bytes draws server.side are }
