-- The algorithms of a choice, without where their names lie in memory.

use Rattle.std.specs.Prelude.{string_bytes}
use Rattle.sshneg.specs.Fields.{AlgorithmsData}
use Rattle.sshcore.specs.declared.kex_algorithms.Algorithms.TheInside.{Inside}

-- the names of the chosen algorithms, as contracts see those that an endpoint has copied (RFC 4253 section 7.1)
abbrev pub algorithms_of : Inside → AlgorithmsData
algorithms_of a = record {
  kex = string_bytes a.kex;
  host_key = string_bytes a.host_key;
  encryption_client_to_server = string_bytes a.encryption.client_to_server;
  encryption_server_to_client = string_bytes a.encryption.server_to_client;
  mac_client_to_server = string_bytes a.mac.client_to_server;
  mac_server_to_client = string_bytes a.mac.server_to_client;
  compression_client_to_server = string_bytes a.compression.client_to_server;
  compression_server_to_client = string_bytes a.compression.server_to_client;
}
