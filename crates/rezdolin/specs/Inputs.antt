-- What a program puts in, as configs have it.

use Rattle.std.specs.Prelude.{◌≡◌, ◌⊎◌, ℕ, ◌==◌, if◌then◌else◌, List, [], ◌∷◌, codes, length, map, Option, None, Some}
use Rattle.std.specs.List.{AllByRecursion, slice_split}
use Rattle.std.specs.Str.{IsUtf8}
use Rattle.sshcore.specs.declared.config_parts.PeerReading.{PeerReading}
use Rattle.sshcore.specs.declared.config_parts.PeerReading.TheVariants.{Strict, Deployed}
use Rattle.sshcore.specs.ConfigParts.{AttemptData, ByKey, ByNothing, ByPassword, ClientData, CredentialData, HostKeyData, ServerData, SideData}
use Rattle.rezdolin.specs.declared.inputs.AttemptInput.{AttemptInput}
use Rattle.rezdolin.specs.declared.inputs.ClientInput.{ClientInput}
use Rattle.rezdolin.specs.declared.inputs.HostKeyInput.{HostKeyInput}
use Rattle.rezdolin.specs.declared.inputs.ServerInput.{ServerInput}
use Rattle.rezdolin.specs.declared.inputs.SideInput.{SideInput}
use Rattle.rezdolin.specs.declared.inputs.TheConstants.{IGNORED_LIMIT, METHOD_NONE, METHOD_PASSWORD, METHOD_SIGNED, READING_STRICT, STRICT_YES}
use Rattle.rezdolin.specs.Readable.{IsMethod}

-- the bytes, if there are some, else nothing
abbrev pub unless_empty : List ℕ → Option (List ℕ)
unless_empty bytes = if length bytes == 0 then None else Some bytes

-- what stands between the commas of a text
abbrev pub between_commas : List ℕ → List (List ℕ)
between_commas text = slice_split (λ b. b == 44) text

-- the names of a list, which is its text (RFC 4251 section 5)
abbrev pub names_of : List ℕ → List (List ℕ)
names_of list = if length list == 0 then [] else between_commas list

-- by which grammar the peer's version line is read, by its number
abbrev pub reading_by : ℕ → PeerReading
reading_by number = if number == READING_STRICT then Strict else Deployed

-- the settings that both sides have, of what a program puts in; a `strict` other than `STRICT_YES` is no
abbrev pub side_of : SideInput → SideData
side_of side = record {
  softwareversion = side.softwareversion.now;
  comments = unless_empty side.comments.now;
  reading = reading_by side.reading;
  kex_algorithms = names_of side.kex_algorithms.now;
  encryption_client_to_server = names_of side.encryption_client_to_server.now;
  encryption_server_to_client = names_of side.encryption_server_to_client.now;
  mac_client_to_server = names_of side.mac_client_to_server.now;
  mac_server_to_client = names_of side.mac_server_to_client.now;
  strict = side.strict == STRICT_YES;
  cookie = side.cookie.now;
  random = side.exchange_random.now;
  seed = side.padding_seed.now;
  ignored_limit = Some IGNORED_LIMIT;
}

-- how an attempt proves its user, by the number of its method
abbrev pub proving_by : AttemptInput → CredentialData
proving_by attempt =
    if attempt.method == METHOD_NONE then ByNothing
    else if attempt.method == METHOD_PASSWORD then ByPassword attempt.secret.now
    else ByKey attempt.algorithm.now attempt.secret.now (attempt.ask == 1)

-- an attempt of a client's plan, of what a program puts in
abbrev pub attempt_by : AttemptInput → AttemptData
attempt_by attempt = record { user = attempt.user.now; service = attempt.service.now; proving = proving_by attempt }

-- a host key of a server, of what a program puts in
abbrev pub host_key_by : HostKeyInput → HostKeyData
host_key_by key = record { algorithm = key.algorithm.now; secret = key.key.now }

-- the config of a client that was put in: each list is what stands between the commas of its text, and no bytes are no comments
abbrev pub client_of : ClientInput → ClientData
client_of client = record {
  side = side_of client.side;
  host_key_algorithms = names_of client.server_host_key_algorithms.now;
  guess = client.guess == 1;
  plan = map attempt_by client.plan.now;
}

-- the algorithms of users' keys that a server tells a client that asks: those by which the suite verifies (RFC 8308 section 3.1)
abbrev pub user_algorithms : List (List ℕ)
user_algorithms = codes "ssh-ed25519" ∷ codes "rsa-sha2-512" ∷ codes "rsa-sha2-256" ∷ []

-- the config of a server
abbrev pub server_of : ServerInput → ServerData
server_of server = record {
  side = side_of server.side;
  host_keys = map host_key_by server.host_keys.now;
  services = names_of server.services.now;
  methods = names_of server.methods.now;
  required = names_of server.required.now;
  signature_algorithms = user_algorithms;
  tries = server.tries;
  banner = unless_empty server.banner.now;
  notices = map (λ line. line.now) server.notice_lines.now;
}

-- the texts of the settings that both sides have are UTF-8
pub record AreSideTexts (side : SideInput) : Type 0 where
  pub softwareversion : IsUtf8 side.softwareversion.now
  pub comments : IsUtf8 side.comments.now
  pub kex_algorithms : IsUtf8 side.kex_algorithms.now
  pub encryption_client_to_server : IsUtf8 side.encryption_client_to_server.now
  pub encryption_server_to_client : IsUtf8 side.encryption_server_to_client.now
  pub mac_client_to_server : IsUtf8 side.mac_client_to_server.now
  pub mac_server_to_client : IsUtf8 side.mac_server_to_client.now

-- the texts of an attempt are UTF-8, and its method is one of the numbers of methods
pub record AreAttemptTexts (attempt : AttemptInput) : Type 0 where
  pub user : IsUtf8 attempt.user.now
  pub service : IsUtf8 attempt.service.now
  pub algorithm : IsUtf8 attempt.algorithm.now
  pub method : IsMethod attempt.method ⊎ (attempt.method ≡ METHOD_SIGNED)

-- the texts of a client's input are UTF-8, and each attempt has the number of a method
pub record AreClientTexts (client : ClientInput) : Type 0 where
  pub side : AreSideTexts client.side
  pub host_key_algorithms : IsUtf8 client.server_host_key_algorithms.now
  pub plan : AllByRecursion AreAttemptTexts client.plan.now

-- the texts of a server's input are UTF-8
pub record AreServerTexts (server : ServerInput) : Type 0 where
  pub side : AreSideTexts server.side
  pub host_keys : AllByRecursion (λ (key : HostKeyInput). IsUtf8 key.algorithm.now) server.host_keys.now
  pub services : IsUtf8 server.services.now
  pub methods : IsUtf8 server.methods.now
  pub required : IsUtf8 server.required.now
