-- The config of an endpoint of either role with the draws of its connection, as plain data.

use Rattle.sshneg.specs.declared.side.Side.{Side}
use Rattle.sshneg.specs.declared.side.Side.TheVariants as role
use Rattle.sshpacket.specs.Suite.{SuiteData}
use Rattle.sshcore.specs.declared.config.Config.{Config}
use Rattle.sshcore.specs.declared.config.Config.TheVariants as config
use Rattle.sshcore.specs.EndpointParts.{ConfigData, DecisionsData, Setup, config_of_client, config_of_server, setup_with}
use Rattle.sshcore.specs.Redrawn.{redrawn_client, redrawn_server}

-- whether a config is a client's or a server's
abbrev pub role_of : Config → Side
role_of (config.Client client draws) = role.Client
role_of (config.Server server draws) = role.Server

-- what an endpoint uses of a config of either role, with the draws of this connection
abbrev pub config_data : Config → ConfigData
config_data (config.Client client draws) = config_of_client (redrawn_client draws client.now)
config_data (config.Server server draws) = config_of_server (redrawn_server draws server.now)

-- the setup of an endpoint with this config
abbrev pub setup_of : SuiteData → DecisionsData → Config → Setup
setup_of suite decisions config = setup_with suite decisions (role_of config) (config_data config)
