-- What parts hold, without where it lies in memory.

use Rattle.std.specs.Prelude.{map, option_map, string_bytes}
use Rattle.sshcore.specs.declared.config_parts.Attempt as attempt_parts
use Rattle.sshcore.specs.declared.config_parts.ClientParts.{ClientParts}
use Rattle.sshcore.specs.declared.config_parts.Credential.{Credential}
use Rattle.sshcore.specs.declared.config_parts.Credential.TheVariants as credential
use Rattle.sshcore.specs.declared.config_parts.HostKey as host_key_parts
use Rattle.sshcore.specs.declared.config_parts.ServerParts.{ServerParts}
use Rattle.sshcore.specs.declared.config_parts.SideParts.{SideParts}
use Rattle.sshcore.specs.ConfigParts.{AttemptData, ByKey, ByNothing, ByPassword, ClientData, CredentialData, HostKeyData, ServerData, SideData}

-- the twin of a `Credential`: nothing, a password, or a key
abbrev pub credential_data : Credential → CredentialData
credential_data credential.None = ByNothing
credential_data (credential.Password password) = ByPassword password.items
credential_data (credential.PublicKey algorithm private_key ask) = ByKey (string_bytes algorithm) private_key.items ask

-- the twin of an `Attempt`: its user, service and credential
abbrev pub attempt_data : attempt_parts.Attempt → AttemptData
attempt_data a = record { user = string_bytes a.user; service = string_bytes a.service; proving = credential_data a.credential }

-- the twin of a `HostKey`: its algorithm and private key
abbrev pub host_key_data : host_key_parts.HostKey → HostKeyData
host_key_data key = record { algorithm = string_bytes key.algorithm; secret = key.private_key.items }

-- the twin of `SideParts`, the settings that both sides have
abbrev pub side_data : SideParts → SideData
side_data parts = record {
  softwareversion = string_bytes parts.softwareversion;
  comments = option_map string_bytes parts.comments;
  reading = parts.reading;
  kex_algorithms = map string_bytes parts.kex_algorithms.items;
  encryption_client_to_server = map string_bytes parts.encryption_client_to_server.items;
  encryption_server_to_client = map string_bytes parts.encryption_server_to_client.items;
  mac_client_to_server = map string_bytes parts.mac_client_to_server.items;
  mac_server_to_client = map string_bytes parts.mac_server_to_client.items;
  strict = parts.strict;
  cookie = parts.cookie.items;
  random = parts.exchange_random.items;
  seed = parts.padding_seed.items;
  ignored_limit = parts.ignored_limit;
}

-- the twin of `ClientParts`
abbrev pub client_data : ClientParts → ClientData
client_data parts = record {
  side = side_data parts.side;
  host_key_algorithms = map string_bytes parts.server_host_key_algorithms.items;
  guess = parts.guess;
  plan = map attempt_data parts.plan.items;
}

-- the twin of `ServerParts`
abbrev pub server_data : ServerParts → ServerData
server_data parts = record {
  side = side_data parts.side;
  host_keys = map host_key_data parts.host_keys.items;
  services = map string_bytes parts.services.items;
  methods = map string_bytes parts.methods.items;
  required = map string_bytes parts.required.items;
  signature_algorithms = map string_bytes parts.signature_algorithms.items;
  tries = parts.tries;
  banner = option_map (λ text. text.items) parts.banner;
  notices = map (λ line. line.items) parts.notice_lines.items;
}
