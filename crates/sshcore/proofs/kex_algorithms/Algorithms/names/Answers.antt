use Rattle.std.proofs.Common.{subst}
use Rattle.sshneg.specs.declared.choice.NoCommon.TheVariants as field
use Rattle.sshneg.specs.Fields.{AlgorithmsData}
use Rattle.sshcore.specs.Chosen.{AreNamed}
use Rattle.sshcore.specs.Record.{HasNames}
use Rattle.sshcore.proofs.kex_algorithms.Algorithms.names.Goals as goal

named_by : (a : AlgorithmsData) → AreNamed a → HasNames a
named_by a named = record {
  kex = named field.Kex;
  host_key = named field.HostKey;
  encryption_client_to_server = named field.EncryptionClientToServer;
  encryption_server_to_client = named field.EncryptionServerToClient;
  mac_client_to_server = named field.MacClientToServer;
  mac_server_to_client = named field.MacServerToClient;
  compression_client_to_server = named field.CompressionClientToServer;
  compression_server_to_client = named field.CompressionServerToClient;
}

pub returns-clause-named : goal.returns-clause-named
returns-clause-named c = subst HasNames c.self.view_is (named_by _ c.self.invariant)
