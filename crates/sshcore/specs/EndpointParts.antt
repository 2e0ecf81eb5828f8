-- What an endpoint is made of and whom it asks, as plain data.

use Rattle.std.specs.Prelude.{ℕ, Bool, List, [], Option, None}
use Rattle.sshmsg.specs.MessageData.{KexInitData}
use Rattle.sshneg.specs.declared.side.Side.{Side}
use Rattle.sshneg.specs.declared.side.Side.TheVariants.{Client, Server}
use Rattle.sshpacket.specs.Suite.{SuiteData}
use Rattle.sshcore.specs.declared.config_parts.PeerReading.{PeerReading}
use Rattle.sshcore.specs.ConfigParts.{AttemptData, ClientData, HostKeyData, ServerData, client_offer, server_offer, version_of}

-- What an endpoint is made of. What its role doesn't have is empty: notices, host keys, services, methods, required
-- methods, signature algorithms and banner are a server's, the plan is a client's.
pub record ConfigData : Type 0 where
  pub version : List ℕ
  pub notices : List (List ℕ)
  pub reading : PeerReading
  pub offer : KexInitData
  pub strict : Bool
  pub random : List ℕ
  pub seed : List ℕ
  pub ignored_limit : Option ℕ
  pub plan : List AttemptData
  pub host_keys : List HostKeyData
  pub services : List (List ℕ)
  pub methods : List (List ℕ)
  pub required : List (List ℕ)
  pub signature_algorithms : List (List ℕ)
  pub tries : ℕ
  pub banner : Option (List ℕ)

-- what an endpoint uses of a client's config
abbrev pub config_of_client : ClientData → ConfigData
config_of_client client = record {
  version = version_of client.side;
  notices = [];
  reading = client.side.reading;
  offer = client_offer client;
  strict = client.side.strict;
  random = client.side.random;
  seed = client.side.seed;
  ignored_limit = client.side.ignored_limit;
  plan = client.plan;
  host_keys = [];
  services = [];
  methods = [];
  required = [];
  signature_algorithms = [];
  tries = 0;
  banner = None;
}

-- what an endpoint uses of a server's config
abbrev pub config_of_server : ServerData → ConfigData
config_of_server server = record {
  version = version_of server.side;
  notices = server.notices;
  reading = server.side.reading;
  offer = server_offer server;
  strict = server.side.strict;
  random = server.side.random;
  seed = server.side.seed;
  ignored_limit = server.side.ignored_limit;
  plan = [];
  host_keys = server.host_keys;
  services = server.services;
  methods = server.methods;
  required = server.required;
  signature_algorithms = server.signature_algorithms;
  tries = server.tries;
  banner = server.banner;
}

-- what a request proves: nothing, a password, or a key by its algorithm and blob (RFC 4252 sections 5.2, 7 and 8)
pub data ProofData : Type 0 where
  NoProof : ProofData
  PasswordProof : List ℕ → ProofData
  KeyProof : List ℕ → List ℕ → ProofData

-- a user's public key, by its algorithm and blob (RFC 4252 section 7)
pub record UserKeyData : Type 0 where
  pub algorithm : List ℕ
  pub blob : List ℕ

-- The decisions of whoever runs an endpoint (RFC 4251 section 4.1, RFC 4252 sections 5 and 7, RFC 4253 section 8). `host_key`: whether a
-- host key is trusted, by algorithm and blob. `user`: whether a request is accepted, by its number from 1, user, service and proof.
-- `signature`: the signature by a key that the suite doesn't hold, if one is made (profile). It depends on how many attempts are left after
-- this one, 0 at a server, on algorithm and public key, and on what is signed.
pub record DecisionsData : Type 0 where
  pub host_key : List ℕ → List ℕ → Bool
  pub user : ℕ → List ℕ → List ℕ → ProofData → Bool
  pub signature : ℕ → List ℕ → List ℕ → List ℕ → Option (List ℕ)

-- An endpoint's setup: its suite, whom it asks, its role, and its config.
pub record Setup : Type 0 where
  pub suite : SuiteData
  pub decisions : DecisionsData
  pub role : Side
  pub config : ConfigData

-- the setup of these four
abbrev pub setup_with : SuiteData → DecisionsData → Side → ConfigData → Setup
setup_with suite decisions role config = record { suite = suite; decisions = decisions; role = role; config = config }

-- the setup of a client with this config
abbrev pub client_setup : SuiteData → DecisionsData → ClientData → Setup
client_setup suite decisions client = setup_with suite decisions Client (config_of_client client)

-- the setup of a server with this config
abbrev pub server_setup : SuiteData → DecisionsData → ServerData → Setup
server_setup suite decisions server = setup_with suite decisions Server (config_of_server server)
