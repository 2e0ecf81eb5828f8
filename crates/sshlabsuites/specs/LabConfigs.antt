-- What the lab endpoints are made of by default.

use Rattle.std.specs.Prelude.{ℕ, false, true, [], ◌∷◌, codes, None, replicate}
use Rattle.sshcore.specs.declared.config_parts.PeerReading.TheVariants.{Strict}
use Rattle.sshcore.specs.ConfigParts.{ClientData, HostKeyData, ServerData, SideData}

-- what both lab endpoints have: the strict form of version lines, one name for each list, and bytes that are all alike
abbrev pub lab_side : ℕ → ℕ → ℕ → SideData
lab_side cookie random seed = record {
  softwareversion = codes "lab_1";
  comments = None;
  reading = Strict;
  kex_algorithms = codes "a" ∷ [];
  encryption_client_to_server = codes "c" ∷ [];
  encryption_server_to_client = codes "c" ∷ [];
  mac_client_to_server = codes "m" ∷ [];
  mac_server_to_client = codes "m" ∷ [];
  strict = true;
  cookie = replicate 16 cookie;
  random = replicate 32 random;
  seed = replicate 32 seed;
  ignored_limit = None;
}

-- the lab's client, whose plan is empty
abbrev pub lab_client : ClientData
lab_client = record { side = lab_side 0 17 34; host_key_algorithms = codes "h" ∷ []; guess = false; plan = [] }

-- the host key of the lab's server: of the algorithm `h`, a private key of the byte 00
abbrev pub lab_host_key : HostKeyData
lab_host_key = record { algorithm = codes "h"; secret = 0 ∷ [] }

-- the lab's server, with no required methods and no banner
abbrev pub lab_server : ServerData
lab_server = record {
  side = lab_side 255 51 68;
  host_keys = lab_host_key ∷ [];
  services = codes "ssh-connection" ∷ [];
  methods = codes "password" ∷ codes "publickey" ∷ [];
  required = [];
  signature_algorithms = [];
  tries = 6;
  banner = None;
  notices = [];
}
