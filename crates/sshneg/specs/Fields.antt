-- The name-lists of a KEXINIT from which algorithms are chosen, field by field (RFC 4253 section 7.1).

use Rattle.std.specs.Prelude.{ℕ, List}
use Rattle.sshmsg.specs.MessageData.{KexInitData}
use Rattle.sshneg.specs.declared.choice.Chosen.{Chosen}
use Rattle.sshneg.specs.declared.choice.NoCommon.{NoCommon}
use Rattle.sshneg.specs.declared.choice.NoCommon.TheVariants.{Kex, HostKey, EncryptionClientToServer, EncryptionServerToClient, MacClientToServer, MacServerToClient, CompressionClientToServer, CompressionServerToClient}
use Rattle.sshneg.specs.Markers.{methods}

-- the names of the algorithms that are used
pub record AlgorithmsData : Type 0 where
  pub kex : List ℕ
  pub host_key : List ℕ
  pub encryption_client_to_server : List ℕ
  pub encryption_server_to_client : List ℕ
  pub mac_client_to_server : List ℕ
  pub mac_server_to_client : List ℕ
  pub compression_client_to_server : List ℕ
  pub compression_server_to_client : List ℕ

-- the fields in the order of a KEXINIT
abbrev pub order_of : NoCommon → ℕ
order_of Kex = 0
order_of HostKey = 1
order_of EncryptionClientToServer = 2
order_of EncryptionServerToClient = 3
order_of MacClientToServer = 4
order_of MacServerToClient = 5
order_of CompressionClientToServer = 6
order_of CompressionServerToClient = 7

-- the list of a field, as sent
abbrev pub list_of : NoCommon → KexInitData → List (List ℕ)
list_of Kex offer = offer.kex_algorithms
list_of HostKey offer = offer.server_host_key_algorithms
list_of EncryptionClientToServer offer = offer.encryption_client_to_server
list_of EncryptionServerToClient offer = offer.encryption_server_to_client
list_of MacClientToServer offer = offer.mac_client_to_server
list_of MacServerToClient offer = offer.mac_server_to_client
list_of CompressionClientToServer offer = offer.compression_client_to_server
list_of CompressionServerToClient offer = offer.compression_server_to_client

-- the algorithms of a field: its list without the markers (that markers are left out is profile)
abbrev pub algorithms_of : NoCommon → KexInitData → List (List ℕ)
algorithms_of Kex offer = methods offer.kex_algorithms
algorithms_of f offer = list_of f offer

-- the name that is used in a field
abbrev pub name_of : NoCommon → AlgorithmsData → List ℕ
name_of Kex a = a.kex
name_of HostKey a = a.host_key
name_of EncryptionClientToServer a = a.encryption_client_to_server
name_of EncryptionServerToClient a = a.encryption_server_to_client
name_of MacClientToServer a = a.mac_client_to_server
name_of MacServerToClient a = a.mac_server_to_client
name_of CompressionClientToServer a = a.compression_client_to_server
name_of CompressionServerToClient a = a.compression_server_to_client

-- the position that is answered for a field
abbrev pub position_of : NoCommon → Chosen → ℕ
position_of Kex chosen = chosen.kex
position_of HostKey chosen = chosen.host_key
position_of EncryptionClientToServer chosen = chosen.encryption_client_to_server
position_of EncryptionServerToClient chosen = chosen.encryption_server_to_client
position_of MacClientToServer chosen = chosen.mac_client_to_server
position_of MacServerToClient chosen = chosen.mac_server_to_client
position_of CompressionClientToServer chosen = chosen.compression_client_to_server
position_of CompressionServerToClient chosen = chosen.compression_server_to_client
