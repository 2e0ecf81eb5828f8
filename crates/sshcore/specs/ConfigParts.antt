-- What configs hold, as plain data. Names and texts are lists of bytes.

use Rattle.std.specs.Prelude.{ℕ, Bool, true, false, List, [], ◌∷◌, ◌++◌, codes, map, Option}
use Rattle.sshwire.specs.Lines.{version_text}
use Rattle.sshmsg.specs.MessageData.{KexInitData}
use Rattle.sshneg.specs.declared.side.Side.{Side}
use Rattle.sshneg.specs.declared.side.Side.TheVariants.{Client, Server}
use Rattle.sshneg.specs.Markers.{strict_marker}
use Rattle.sshcore.specs.declared.config_parts.PeerReading.{PeerReading}

-- how a client proves who its user is (RFC 4252 sections 5.2, 7 and 8): not at all, by a password, or by the private key
-- of an algorithm, and whether it asks first if that key would do
pub data CredentialData : Type 0 where
  ByNothing : CredentialData
  ByPassword : List ℕ → CredentialData
  ByKey : List ℕ → List ℕ → Bool → CredentialData

-- one attempt of a client's plan (RFC 4252 section 5)
pub record AttemptData : Type 0 where
  pub user : List ℕ
  pub service : List ℕ
  pub proving : CredentialData

-- a host key of a server: its algorithm and the private key
pub record HostKeyData : Type 0 where
  pub algorithm : List ℕ
  pub secret : List ℕ

-- What both configs hold: softwareversion and comments, the form by which the peer's version line is read, five lists of algorithms, and
-- whether the side is willing to be strict. Then the cookie, the exchange random and the padding seed, and how many bytes of messages that
-- say nothing are taken.
pub record SideData : Type 0 where
  pub softwareversion : List ℕ
  pub comments : Option (List ℕ)
  pub reading : PeerReading
  pub kex_algorithms : List (List ℕ)
  pub encryption_client_to_server : List (List ℕ)
  pub encryption_server_to_client : List (List ℕ)
  pub mac_client_to_server : List (List ℕ)
  pub mac_server_to_client : List (List ℕ)
  pub strict : Bool
  pub cookie : List ℕ
  pub random : List ℕ
  pub seed : List ℕ
  pub ignored_limit : Option ℕ

-- the twin of `ClientConfig`: what both configs hold, the host key algorithms, whether it guesses, and its plan
pub record ClientData : Type 0 where
  pub side : SideData
  pub host_key_algorithms : List (List ℕ)
  pub guess : Bool
  pub plan : List AttemptData

-- The twin of `ServerConfig`: what both configs hold, host keys, services, methods and required methods. Then the algorithms of users' keys
-- that it announces, the limit of tries, the banner, and the lines before its version line.
pub record ServerData : Type 0 where
  pub side : SideData
  pub host_keys : List HostKeyData
  pub services : List (List ℕ)
  pub methods : List (List ℕ)
  pub required : List (List ℕ)
  pub signature_algorithms : List (List ℕ)
  pub tries : ℕ
  pub banner : Option (List ℕ)
  pub notices : List (List ℕ)

-- the version line of a side, without its CR LF (RFC 4253 section 4.2)
abbrev pub version_of : SideData → List ℕ
version_of side = version_text side.softwareversion side.comments

-- the algorithms of host keys, in their order
abbrev pub key_algorithms : List HostKeyData → List (List ℕ)
key_algorithms keys = map (λ (key : HostKeyData). key.algorithm) keys

-- the marker of a side of this role that is willing to be strict (OpenSSH PROTOCOL section 1.10), else none
abbrev pub own_marker : Side → Bool → List (List ℕ)
own_marker role true = strict_marker role ∷ []
own_marker role false = []

-- The KEXINIT of a side, with these host key algorithms, which announces a guess or none (RFC 4253 section 7.1). Its marker is the last
-- name of the kex list (profile). There is no compression and no language.
abbrev pub side_offer : Side → SideData → List (List ℕ) → Bool → KexInitData
side_offer role side host_keys guess = record {
  cookie = side.cookie;
  kex_algorithms = side.kex_algorithms ++ own_marker role side.strict;
  server_host_key_algorithms = host_keys;
  encryption_client_to_server = side.encryption_client_to_server;
  encryption_server_to_client = side.encryption_server_to_client;
  mac_client_to_server = side.mac_client_to_server;
  mac_server_to_client = side.mac_server_to_client;
  compression_client_to_server = codes "none" ∷ [];
  compression_server_to_client = codes "none" ∷ [];
  languages_client_to_server = [];
  languages_server_to_client = [];
  first_kex_packet_follows = guess;
}

-- the KEXINIT of a client, which announces a guess if it is configured to (RFC 4253 section 7.1)
abbrev pub client_offer : ClientData → KexInitData
client_offer client = side_offer Client client.side client.host_key_algorithms client.guess

-- a server announces no guess (RFC 4253 section 7.1)
abbrev pub server_offer : ServerData → KexInitData
server_offer server = side_offer Server server.side (key_algorithms server.host_keys) false
