-- What the lines of a scenario say, without where it lies in memory.

use Rattle.std.specs.Prelude.{ℕ, List, map, string_bytes}
use Rattle.std.specs.Borrow.{Bor}
use Rattle.sshcore.specs.ConfigView.{attempt_data, credential_data, host_key_data}
use Rattle.sshlab.specs.declared.scenario_line.SideSetting.{SideSetting}
use Rattle.sshlab.specs.declared.scenario_line.SideSetting.TheVariants as side
use Rattle.sshlab.specs.declared.scenario_line.ClientSetting.{ClientSetting}
use Rattle.sshlab.specs.declared.scenario_line.ClientSetting.TheVariants as client
use Rattle.sshlab.specs.declared.scenario_line.ServerSetting.{ServerSetting}
use Rattle.sshlab.specs.declared.scenario_line.ServerSetting.TheVariants as server
use Rattle.sshlab.specs.declared.scenario_line.Statement.{Statement}
use Rattle.sshlab.specs.declared.scenario_line.Statement.TheVariants as statement
use Rattle.sshlab.specs.Scenarios.{Allows, ClientSettingData, Denies, Distrusts, Does, Holds, Notes, OfClient, OfServer, OfSide, ServerSettingData, SetBanner, SetCipherToClient, SetCipherToServer, SetCookie, SetGuess, SetHostKeys, SetKex, SetMacToClient, SetMacToServer, SetMethods, SetRandom, SetRequired, SetSeed, SetServices, SetStrict, SetTries, SetVersion, SideSettingData, StatementData, Tries}

-- texts that are lent
abbrev pub texts : List (Bor (List ℕ)) → List (List ℕ)
texts fields = map (λ field. field.now) fields

-- the twin of a setting that both sides have
abbrev pub side_setting_data : SideSetting → SideSettingData
side_setting_data (side.Version text) = SetVersion (string_bytes text)
side_setting_data (side.KexAlgorithms names) = SetKex (map string_bytes names.items)
side_setting_data (side.EncryptionClientToServer names) = SetCipherToServer (map string_bytes names.items)
side_setting_data (side.EncryptionServerToClient names) = SetCipherToClient (map string_bytes names.items)
side_setting_data (side.MacClientToServer names) = SetMacToServer (map string_bytes names.items)
side_setting_data (side.MacServerToClient names) = SetMacToClient (map string_bytes names.items)
side_setting_data (side.Strict strict) = SetStrict strict
side_setting_data (side.Cookie bytes) = SetCookie bytes.items
side_setting_data (side.ExchangeRandom bytes) = SetRandom bytes.items
side_setting_data (side.PaddingSeed bytes) = SetSeed bytes.items

-- the twin of a setting of a client
abbrev pub client_setting_data : ClientSetting → ClientSettingData
client_setting_data (client.HostKeyAlgorithms names) = SetHostKeys (map string_bytes names.items)
client_setting_data (client.Guess guess) = SetGuess guess

-- the twin of a setting of a server
abbrev pub server_setting_data : ServerSetting → ServerSettingData
server_setting_data (server.Services names) = SetServices (map string_bytes names.items)
server_setting_data (server.Methods names) = SetMethods (map string_bytes names.items)
server_setting_data (server.Required names) = SetRequired (map string_bytes names.items)
server_setting_data (server.Tries tries) = SetTries tries
server_setting_data (server.Banner text) = SetBanner text.items

-- the twin of a statement
abbrev pub statement_data : Statement → StatementData
statement_data (statement.Either side setting) = OfSide side (side_setting_data setting)
statement_data (statement.Client setting) = OfClient (client_setting_data setting)
statement_data (statement.Server setting) = OfServer (server_setting_data setting)
statement_data (statement.Try attempt) = Tries (attempt_data attempt)
statement_data (statement.HostKey key) = Holds (host_key_data key)
statement_data (statement.Notice line) = Notes line.items
statement_data (statement.Distrust algorithm) = Distrusts (string_bytes algorithm)
statement_data (statement.Allow user credential) = Allows (string_bytes user) (credential_data credential)
statement_data (statement.Deny number) = Denies number
statement_data (statement.Step step) = Does step
