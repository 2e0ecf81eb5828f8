-- The settings of a scenario: which one a line makes, and what it makes of the parts.

use Rattle.std.specs.Prelude.{Option, Some, None}
use Rattle.sshcore.specs.ConfigParts.{ClientData, ServerData, SideData}
use Rattle.sshneg.specs.declared.side.Side.{Side}
use Rattle.sshneg.specs.declared.side.Side.TheVariants.{Client, Server}
use Rattle.sshlab.specs.declared.scenario_settings.Setting.{Setting}
use Rattle.sshlab.specs.declared.scenario_settings.Setting.TheVariants as setting
use Rattle.sshlab.specs.Scenarios.{ClientSettingData, OfClient, OfServer, OfSide, ServerSettingData, SetBanner, SetCipherToClient, SetCipherToServer, SetCookie, SetGuess, SetHostKeys, SetKex, SetMacToClient, SetMacToServer, SetMethods, SetRandom, SetRequired, SetSeed, SetServices, SetStrict, SetTries, SetVersion, SideSettingData, StatementData}

-- the name of a setting that both sides have
abbrev pub side_setting : SideSettingData → Setting
side_setting (SetVersion text) = setting.Version
side_setting (SetKex names) = setting.KexAlgorithms
side_setting (SetCipherToServer names) = setting.EncryptionClientToServer
side_setting (SetCipherToClient names) = setting.EncryptionServerToClient
side_setting (SetMacToServer names) = setting.MacClientToServer
side_setting (SetMacToClient names) = setting.MacServerToClient
side_setting (SetStrict strict) = setting.Strict
side_setting (SetCookie bytes) = setting.Cookie
side_setting (SetRandom bytes) = setting.ExchangeRandom
side_setting (SetSeed bytes) = setting.PaddingSeed

-- the name of a setting of a client
abbrev pub client_setting : ClientSettingData → Setting
client_setting (SetHostKeys names) = setting.HostKeyAlgorithms
client_setting (SetGuess guess) = setting.Guess

-- the name of a setting of a server
abbrev pub server_setting : ServerSettingData → Setting
server_setting (SetServices names) = setting.Services
server_setting (SetMethods names) = setting.Methods
server_setting (SetRequired names) = setting.Required
server_setting (SetTries tries) = setting.Tries
server_setting (SetBanner text) = setting.Banner

-- the setting that a line makes, with its side: a line that makes none may stand any number of times
abbrev pub setting_in : StatementData → Option (Side × Setting)
setting_in (OfSide side value) = Some (side, side_setting value)
setting_in (OfClient value) = Some (Client, client_setting value)
setting_in (OfServer value) = Some (Server, server_setting value)
setting_in stated = None

-- the parts of a side with a setting
abbrev pub with_side : SideData → SideSettingData → SideData
with_side side (SetVersion text) = record side { softwareversion = text }
with_side side (SetKex names) = record side { kex_algorithms = names }
with_side side (SetCipherToServer names) = record side { encryption_client_to_server = names }
with_side side (SetCipherToClient names) = record side { encryption_server_to_client = names }
with_side side (SetMacToServer names) = record side { mac_client_to_server = names }
with_side side (SetMacToClient names) = record side { mac_server_to_client = names }
with_side side (SetStrict strict) = record side { strict = strict }
with_side side (SetCookie bytes) = record side { cookie = bytes }
with_side side (SetRandom bytes) = record side { random = bytes }
with_side side (SetSeed bytes) = record side { seed = bytes }

-- the parts of a client with a setting
abbrev pub with_client : ClientData → ClientSettingData → ClientData
with_client client (SetHostKeys names) = record client { host_key_algorithms = names }
with_client client (SetGuess guess) = record client { guess = guess }

-- the parts of a server with a setting
abbrev pub with_server : ServerData → ServerSettingData → ServerData
with_server server (SetServices names) = record server { services = names }
with_server server (SetMethods names) = record server { methods = names }
with_server server (SetRequired names) = record server { required = names }
with_server server (SetTries tries) = record server { tries = tries }
with_server server (SetBanner text) = record server { banner = Some text }
