-- With what an endpoint was made, as proofs see it.

use Rattle.std.specs.Prelude.{List, map}
use Rattle.sshcore.specs.declared.config.Config.{Config}
use Rattle.sshcore.specs.declared.config.Config.TheVariants as config
use Rattle.sshcore.specs.declared.config_draws.Draws.{Draws}
use Rattle.sshcore.specs.declared.config_made_with.MadeWith.{MadeWith}
use Rattle.sshcore.specs.declared.config_made_with.MadeWith.TheVariants as made
use Rattle.sshcore.specs.ConfigParts.{ClientData, ServerData}
use Rattle.sshcore.specs.EndpointParts.{ConfigData, config_of_client, config_of_server}
use Rattle.sshcore.specs.Redrawn.{redrawn_client, redrawn_server}

-- the config with which a paused endpoint was made, with its draws, alone in a list; only proofs know it, memory has nothing of it
abbrev pub configs_seen : Draws → MadeWith → List ConfigData
configs_seen draws (made.Client seen) = map (λ (client : ClientData). config_of_client (redrawn_client draws client)) seen.values
configs_seen draws (made.Server seen) = map (λ (server : ServerData). config_of_server (redrawn_server draws server)) seen.values

-- the draws of a config
abbrev pub draws_in : Config → Draws
draws_in (config.Client client draws) = draws
draws_in (config.Server server draws) = draws
