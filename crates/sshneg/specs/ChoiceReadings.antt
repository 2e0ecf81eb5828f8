-- The choice of algorithms as a function.

use Rattle.std.specs.Prelude.{◌&&◌, if◌then◌else◌, ℕ, zero, suc, Bool, List, [], ◌∷◌, find, Option, None, Some, Result, Ok, Err}
use Rattle.std.specs.List.{list_any}
use Rattle.std.specs.Str.{bytes_eq}
use Rattle.sshmsg.specs.MessageData.{KexInitData}
use Rattle.sshpacket.specs.Suite.{SuiteData}
use Rattle.sshneg.specs.declared.choice.Chosen.{Chosen}
use Rattle.sshneg.specs.declared.choice.NoCommon.{NoCommon}
use Rattle.sshneg.specs.declared.choice.NoCommon.TheVariants as field
use Rattle.sshneg.specs.Choice.{serves}
use Rattle.sshneg.specs.Fields.{AlgorithmsData}
use Rattle.sshneg.specs.Markers.{first_name, methods, same_name}

-- whether the name stands in the list
abbrev pub is_in : List (List ℕ) → List ℕ → Bool
is_in names name = list_any (λ own. bytes_eq name own) names

-- the first of the client's names that the server lists
abbrev pub first_common : List (List ℕ) → List (List ℕ) → Option (List ℕ)
first_common client server = find (λ name. is_in server name) client

-- some host key algorithm of both sides has what the method needs
abbrev pub is_served : SuiteData → KexInitData → KexInitData → List ℕ → Bool
is_served m client server kex =
    list_any (λ name. is_in server.server_host_key_algorithms name && serves (m.need kex) (m.can name)) client.server_host_key_algorithms

-- the first methods of both sides are the same one
abbrev pub same_first : KexInitData → KexInitData → Bool
same_first client server = same_name (first_name (methods client.kex_algorithms)) (first_name (methods server.kex_algorithms))

-- the key exchange method
abbrev pub kex_choice : SuiteData → KexInitData → KexInitData → Option (List ℕ)
kex_choice m client server =
    if same_first client server then first_name (methods client.kex_algorithms)
    else find (λ name. is_in (methods server.kex_algorithms) name && is_served m client server name) (methods client.kex_algorithms)

-- the host key algorithm, where this method is used
abbrev pub host_key_choice : SuiteData → KexInitData → KexInitData → List ℕ → Option (List ℕ)
host_key_choice m client server kex =
    find (λ name. is_in server.server_host_key_algorithms name && serves (m.need kex) (m.can name)) client.server_host_key_algorithms

-- what comes of a field's name, or the field where there is none
abbrev pub with_name : NoCommon → Option (List ℕ) → (List ℕ → Result AlgorithmsData NoCommon) → Result AlgorithmsData NoCommon
with_name f (Some name) next = next name
with_name f None next = Err f

-- the names of the six fields after the method and the host key algorithm, or the first field without one
unfoldable pub choice_of_directions : KexInitData → KexInitData → List ℕ → List ℕ → Result AlgorithmsData NoCommon
choice_of_directions client server kex host_key =
    with_name field.EncryptionClientToServer (first_common client.encryption_client_to_server server.encryption_client_to_server) (λ encryption_client_to_server.
    with_name field.EncryptionServerToClient (first_common client.encryption_server_to_client server.encryption_server_to_client) (λ encryption_server_to_client.
    with_name field.MacClientToServer (first_common client.mac_client_to_server server.mac_client_to_server) (λ mac_client_to_server.
    with_name field.MacServerToClient (first_common client.mac_server_to_client server.mac_server_to_client) (λ mac_server_to_client.
    with_name field.CompressionClientToServer (first_common client.compression_client_to_server server.compression_client_to_server) (λ compression_client_to_server.
    with_name field.CompressionServerToClient (first_common client.compression_server_to_client server.compression_server_to_client) (λ compression_server_to_client.
    Ok (record {
      kex = kex;
      host_key = host_key;
      encryption_client_to_server = encryption_client_to_server;
      encryption_server_to_client = encryption_server_to_client;
      mac_client_to_server = mac_client_to_server;
      mac_server_to_client = mac_server_to_client;
      compression_client_to_server = compression_client_to_server;
      compression_server_to_client = compression_server_to_client;
    })))))))

-- the names of all eight fields, or the first field without one (RFC 4253 section 7.1)
unfoldable pub choice : SuiteData → KexInitData → KexInitData → Result AlgorithmsData NoCommon
choice m client server =
    with_name field.Kex (kex_choice m client server) (λ kex.
    with_name field.HostKey (host_key_choice m client server kex) (λ host_key.
    choice_of_directions client server kex host_key))

-- the first place of a name that stands in the list
abbrev pub position_in : List (List ℕ) → List ℕ → ℕ
position_in [] name = zero
position_in (own ∷ names) name = if bytes_eq name own then zero else suc (position_in names name)

-- the position of the name that was found, or the field where none was
abbrev pub positioned : NoCommon → List (List ℕ) → Option (List ℕ) → Result ℕ NoCommon
positioned f names (Some name) = Ok (position_in names name)
positioned f names None = Err f

-- the positions in the client's lists as sent (profile)
abbrev pub positions : KexInitData → AlgorithmsData → Chosen
positions client a = record {
  kex = position_in client.kex_algorithms a.kex;
  host_key = position_in client.server_host_key_algorithms a.host_key;
  encryption_client_to_server = position_in client.encryption_client_to_server a.encryption_client_to_server;
  encryption_server_to_client = position_in client.encryption_server_to_client a.encryption_server_to_client;
  mac_client_to_server = position_in client.mac_client_to_server a.mac_client_to_server;
  mac_server_to_client = position_in client.mac_server_to_client a.mac_server_to_client;
  compression_client_to_server = position_in client.compression_client_to_server a.compression_client_to_server;
  compression_server_to_client = position_in client.compression_server_to_client a.compression_server_to_client;
}

-- names as positions
abbrev pub answered : KexInitData → Result AlgorithmsData NoCommon → Result Chosen NoCommon
answered client (Ok a) = Ok (positions client a)
answered client (Err f) = Err f

-- the answer as a function (RFC 4253 section 7.1)
unfoldable pub answer : SuiteData → KexInitData → KexInitData → Result Chosen NoCommon
answer m client server = answered client (choice m client server)
