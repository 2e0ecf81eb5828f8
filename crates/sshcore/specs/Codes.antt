-- The codes of failures and refusals.

use Rattle.std.specs.Prelude.{ℕ, List, codes}
use Rattle.sshcore.specs.declared.config_fault.ConfigFault.{ConfigFault}
use Rattle.sshcore.specs.declared.config_fault.ConfigFault.TheVariants as config
use Rattle.sshcore.specs.declared.end.Fault.{Fault}
use Rattle.sshcore.specs.declared.end.Fault.TheVariants as fault
use Rattle.sshcore.specs.declared.config_suite_fault.AlgorithmList.{AlgorithmList}
use Rattle.sshcore.specs.declared.config_suite_fault.AlgorithmList.TheVariants as algorithms
use Rattle.sshcore.specs.declared.config_suite_fault.SuiteFault.{SuiteFault}
use Rattle.sshcore.specs.declared.config_suite_fault.SuiteFault.TheVariants as suite

-- the code of a failure, with an F before its number (profile)
abbrev pub fault_code : Fault → List ℕ
fault_code fault.Version = codes "F1"
fault_code fault.Length = codes "F2"
fault_code fault.Padding = codes "F3"
fault_code fault.Mac = codes "F4"
fault_code (fault.Malformed number) = codes "F5"
fault_code (fault.Unexpected number) = codes "F6"
fault_code (fault.Strict number) = codes "F7"
fault_code (fault.NoCommon field) = codes "F8"
fault_code fault.Exchange = codes "F9"
fault_code fault.HostKey = codes "F10"
fault_code fault.Signature = codes "F11"
fault_code fault.Service = codes "F12"
fault_code fault.TooManyTries = codes "F13"
fault_code fault.NoMoreMethods = codes "F14"
fault_code fault.Memory = codes "F15"
fault_code fault.Cut = codes "F16"
fault_code fault.TooMuchIgnored = codes "F17"

-- the code of a refusal of a config: its number, and a C before it (profile)
abbrev pub config_code : ConfigFault → List ℕ
config_code config.EmptyList = codes "C1"
config_code config.Name = codes "C2"
config_code config.ListTooLong = codes "C3"
config_code config.Line = codes "C4"
config_code config.User = codes "C5"
config_code config.Secret = codes "C6"
config_code config.Blob = codes "C7"
config_code config.Plan = codes "C8"
config_code config.Tries = codes "C9"
config_code config.Random = codes "C10"
config_code config.Memory = codes "C11"
config_code config.Required = codes "C12"

-- the code of a refusal of a config over a suite; it goes on from those of configs (profile)
abbrev pub suite_code : SuiteFault → List ℕ
suite_code (suite.Algorithm list name) = codes "C13"
suite_code (suite.PrivateKey position algorithm) = codes "C14"

-- a list's name in a KEXINIT (RFC 4253 section 7.1)
abbrev pub list_text : AlgorithmList → List ℕ
list_text algorithms.Kex = codes "kex_algorithms"
list_text algorithms.HostKey = codes "server_host_key_algorithms"
list_text algorithms.EncryptionClientToServer = codes "encryption_algorithms_client_to_server"
list_text algorithms.EncryptionServerToClient = codes "encryption_algorithms_server_to_client"
list_text algorithms.MacClientToServer = codes "mac_algorithms_client_to_server"
list_text algorithms.MacServerToClient = codes "mac_algorithms_server_to_client"
