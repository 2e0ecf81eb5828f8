-- What a client and a server agree on, by their configs: RFC 4253 sections 7 and 8.

use Rattle.std.specs.Prelude.{◌&&◌, ℕ, List}
use Rattle.sshmsg.specs.Written.{kexinit_payload}
use Rattle.sshneg.specs.Derivations.{ExchangeData}
use Rattle.sshneg.specs.ExchangeEnd.{exchange_hash}
use Rattle.sshneg.specs.Fields.{AlgorithmsData}
use Rattle.sshpacket.specs.Suite.{ResponseData, SuiteData}
use Rattle.sshcore.specs.ConfigParts.{AttemptData, ClientData, ServerData, client_offer, server_offer, version_of}
use Rattle.sshcore.specs.EndData.{AgreedData}
use Rattle.sshcore.specs.Exchange.{answer_or, secret_of}

-- K_S: the server's public host key of this algorithm; of two host keys with one algorithm it uses the first.
abbrev pub host_key_of_server : SuiteData → ServerData → List ℕ → List ℕ
host_key_of_server m server algorithm = m.blob algorithm (secret_of server.host_keys algorithm)

-- e: the client's share by this method, of its random bytes.
abbrev pub share_of_client : SuiteData → ClientData → List ℕ → List ℕ
share_of_client m client kex = m.share kex client.side.random

-- f and K: the server's share and the shared secret, as the server answers the client's share by its own random bytes.
abbrev pub answer_of_server : SuiteData → ClientData → ServerData → List ℕ → ResponseData
answer_of_server m client server kex = answer_or (m.respond kex server.side.random (share_of_client m client kex))

-- What both know of the key exchange: V_C, V_S, I_C, I_S, K_S, e, f and K (RFC 4253 section 8), where I_C and I_S are the
-- payloads of the KEXINITs of both configs.
abbrev pub exchange_between : SuiteData → ClientData → ServerData → AlgorithmsData → ExchangeData
exchange_between m client server algorithms = record {
  client_version = version_of client.side;
  server_version = version_of server.side;
  client_kexinit = kexinit_payload (client_offer client);
  server_kexinit = kexinit_payload (server_offer server);
  host_key = host_key_of_server m server algorithms.host_key;
  client_share = share_of_client m client algorithms.kex;
  server_share = (answer_of_server m client server algorithms.kex).share;
  shared = (answer_of_server m client server algorithms.kex).shared;
}

-- The session identifier: the exchange hash of the first exchange, which is the only one here (RFC 4253 section 7.2).
unfoldable pub session_between : SuiteData → ClientData → ServerData → AlgorithmsData → List ℕ
session_between m client server algorithms = exchange_hash m algorithms.kex (exchange_between m client server algorithms)

-- What both agree on, once this attempt has succeeded: the algorithms, whether both are willing to be strict (OpenSSH PROTOCOL
-- section 1.10), the session identifier, and the user and service of the attempt.
abbrev pub agreed : SuiteData → ClientData → ServerData → AlgorithmsData → AttemptData → AgreedData
agreed m client server algorithms attempt = record {
  algorithms = algorithms;
  strict = client.side.strict && server.side.strict;
  session = session_between m client server algorithms;
  user = attempt.user;
  service = attempt.service;
}
