-- What contracts see of the names that an endpoint lends.

use Rattle.sshneg.specs.Fields.{AlgorithmsData}
use Rattle.sshcore.specs.declared.kex_chosen_names.ChosenNames.{ChosenNames}

-- the names of the chosen algorithms, as contracts see those that an endpoint lends (RFC 4253 section 7.1)
abbrev pub names_of : ChosenNames → AlgorithmsData
names_of n = record {
  kex = n.kex.now;
  host_key = n.host_key.now;
  encryption_client_to_server = n.encryption_client_to_server.now;
  encryption_server_to_client = n.encryption_server_to_client.now;
  mac_client_to_server = n.mac_client_to_server.now;
  mac_server_to_client = n.mac_server_to_client.now;
  compression_client_to_server = n.compression_client_to_server.now;
  compression_server_to_client = n.compression_server_to_client.now;
}
