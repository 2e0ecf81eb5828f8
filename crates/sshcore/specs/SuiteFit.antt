-- What a config asks of a suite: that it has each algorithm that is named, and holds each private key.

use Rattle.std.specs.Prelude.{◌≡◌, ℕ, ◌+◌, Bool, true, not, List, [], ◌∷◌, ◌++◌, map, find, Option, option_map}
use Rattle.std.specs.List.{AllByRecursion}
use Rattle.sshpacket.specs.Inventory.{InventoryData}
use Rattle.sshpacket.specs.Suite.{SuiteData}
use Rattle.sshcore.specs.declared.config_suite_fault.AlgorithmList.{AlgorithmList}
use Rattle.sshcore.specs.declared.config_suite_fault.AlgorithmList.TheVariants as algorithms
use Rattle.sshcore.specs.declared.config_suite_fault.SuiteFault.{SuiteFault}
use Rattle.sshcore.specs.declared.config_suite_fault.SuiteFault.TheVariants as fault
use Rattle.sshcore.specs.ConfigParts.{AttemptData, ByKey, ByNothing, ByPassword, ClientData, CredentialData, HostKeyData, ServerData, SideData, key_algorithms}

-- what a suite is asked for: the algorithm of this name, which stands in this list; or, to hold this private key of an algorithm,
-- which is that of the host key, or of the attempt, at this position, counted from 0
pub data DemandData : Type 0 where
  Named : AlgorithmList → List ℕ → DemandData
  Held : ℕ → List ℕ → List ℕ → DemandData

-- whether the suite has an algorithm: a method, a cipher and a MAC by its inventory, a host key algorithm where it signs
abbrev pub has_algorithm : SuiteData → InventoryData → AlgorithmList → List ℕ → Bool
has_algorithm m i algorithms.Kex name = i.has_kex name
has_algorithm m i algorithms.HostKey name = (m.can name).signature
has_algorithm m i algorithms.EncryptionClientToServer name = i.has_cipher name
has_algorithm m i algorithms.EncryptionServerToClient name = i.has_cipher name
has_algorithm m i algorithms.MacClientToServer name = i.has_mac name
has_algorithm m i algorithms.MacServerToClient name = i.has_mac name

-- whether the suite has what is asked for
abbrev pub meets : SuiteData → InventoryData → DemandData → Bool
meets m i (Named list name) = has_algorithm m i list name
meets m i (Held position algorithm secret) = m.holds algorithm secret

-- each name of a list, as a demand
abbrev pub named_in : AlgorithmList → List (List ℕ) → List DemandData
named_in list names = map (Named list) names

-- the names of a side with these host key algorithms, list by list in the order of a KEXINIT
abbrev pub names_asked : SideData → List (List ℕ) → List DemandData
names_asked side host_keys =
    named_in algorithms.Kex side.kex_algorithms ++ (named_in algorithms.HostKey host_keys
    ++ (named_in algorithms.EncryptionClientToServer side.encryption_client_to_server
    ++ (named_in algorithms.EncryptionServerToClient side.encryption_server_to_client
    ++ (named_in algorithms.MacClientToServer side.mac_client_to_server
    ++ named_in algorithms.MacServerToClient side.mac_server_to_client))))

-- the private keys of host keys, of which the first has this position
abbrev pub host_keys_asked : ℕ → List HostKeyData → List DemandData
host_keys_asked position [] = []
host_keys_asked position (key ∷ keys) = Held position key.algorithm key.secret ∷ host_keys_asked (position + 1) keys

-- the private key of the attempt at this position, if it has one
abbrev pub key_asked : ℕ → CredentialData → List DemandData
key_asked position ByNothing = []
key_asked position (ByPassword password) = []
key_asked position (ByKey algorithm secret ask) = Held position algorithm secret ∷ []

-- the private keys of attempts, of which the first has this position
abbrev pub plan_asked : ℕ → List AttemptData → List DemandData
plan_asked position [] = []
plan_asked position (a ∷ plan) = key_asked position a.proving ++ plan_asked (position + 1) plan

-- the names that a client's config asks of a suite, in the order in which they are judged: methods, host key algorithms, ciphers and MACs
-- (profile)
abbrev pub client_names : ClientData → List DemandData
client_names client = names_asked client.side client.host_key_algorithms

-- the names that a server's config asks of a suite: its lists, and the algorithms of its host keys (profile)
abbrev pub server_names : ServerData → List DemandData
server_names server = names_asked server.side (key_algorithms server.host_keys)

-- all that a client's config asks of a suite, in the order in which it is judged: names, then the private keys of its plan (profile)
abbrev pub client_asked : ClientData → List DemandData
client_asked client = client_names client ++ plan_asked 0 client.plan

-- all that a server's config asks of a suite, in the order in which it is judged: names, then the private keys of its host keys (profile)
abbrev pub server_asked : ServerData → List DemandData
server_asked server = server_names server ++ host_keys_asked 0 server.host_keys

-- The suite fits a config: it has each method, cipher and MAC that the config asks for, signs by each host key algorithm, and holds each
-- private key (profile).
abbrev pub IsFit : SuiteData → InventoryData → List DemandData → Type 0
IsFit m i asked = AllByRecursion (λ demand. meets m i demand ≡ true) asked

-- the first demand that the suite doesn't meet
abbrev pub first_unmet : SuiteData → InventoryData → List DemandData → Option DemandData
first_unmet m i asked = find (λ demand. not (meets m i demand)) asked

-- what a refusal tells, without where it lies in memory: it has no private key in it
pub data SuiteFaultData : Type 0 where
  Unknown : AlgorithmList → List ℕ → SuiteFaultData
  NotHeld : ℕ → List ℕ → SuiteFaultData

-- the twin of a `SuiteFault`: a list and a name, or a position and an algorithm; never a private key
abbrev pub suite_fault_data : SuiteFault → SuiteFaultData
suite_fault_data (fault.Algorithm list name) = Unknown list name.now
suite_fault_data (fault.PrivateKey position algorithm) = NotHeld position algorithm.now

-- what is told of a demand that isn't met
abbrev pub told_of : DemandData → SuiteFaultData
told_of (Named list name) = Unknown list name
told_of (Held position algorithm secret) = NotHeld position algorithm

-- what a suite is refused for: the first demand that it doesn't meet, if there is one (profile)
abbrev pub suite_refusal : SuiteData → InventoryData → List DemandData → Option SuiteFaultData
suite_refusal m i asked = option_map told_of (first_unmet m i asked)
