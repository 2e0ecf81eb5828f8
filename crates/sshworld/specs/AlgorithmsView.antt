-- The algorithms of a choice, without where their names lie in memory.

use Rattle.std.specs.Prelude.{ℕ, Bool, List, string_bytes}
use Rattle.sshneg.specs.Fields.{AlgorithmsData}
use Rattle.sshcore.specs.declared.config_parts.Attempt.{Attempt}
use Rattle.sshcore.specs.EndData.{AgreedData}
use Rattle.sshworld.specs.declared.algorithms.AlgorithmNames.{AlgorithmNames}
use Rattle.sshworld.specs.declared.algorithms.Copies.{Copies}

-- the twin of the names that a prediction has chosen
abbrev pub algorithms_named : AlgorithmNames → AlgorithmsData
algorithms_named names = record {
  kex = names.kex.now;
  host_key = names.host_key.now;
  encryption_client_to_server = names.encryption_client_to_server.now;
  encryption_server_to_client = names.encryption_server_to_client.now;
  mac_client_to_server = names.mac_client_to_server.now;
  mac_server_to_client = names.mac_server_to_client.now;
  compression_client_to_server = names.compression_client_to_server.now;
  compression_server_to_client = names.compression_server_to_client.now;
}

-- the twin of copies of these names
abbrev pub algorithms_copied : Copies → AlgorithmsData
algorithms_copied copies = record {
  kex = string_bytes copies.exchange.first;
  host_key = string_bytes copies.exchange.second;
  encryption_client_to_server = string_bytes copies.encryption.first;
  encryption_server_to_client = string_bytes copies.encryption.second;
  mac_client_to_server = string_bytes copies.mac.first;
  mac_server_to_client = string_bytes copies.mac.second;
  compression_client_to_server = string_bytes copies.compression.first;
  compression_server_to_client = string_bytes copies.compression.second;
}

-- what is agreed with these, once this attempt has succeeded
abbrev pub agreed_with : AlgorithmNames → Bool → List ℕ → Attempt → AgreedData
agreed_with names strict session attempt = record {
  algorithms = algorithms_named names;
  strict = strict;
  session = session;
  user = string_bytes attempt.user;
  service = string_bytes attempt.service;
}
