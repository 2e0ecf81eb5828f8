-- Both directions of the course of two accepted configs are received.

use Rattle.std.proofs.Common.{◌≡◌, ◌⊎◌, inl, inr, true, refl, sym}
use Rattle.sshneg.specs.declared.side.Side.TheVariants.{Client, Server}
use Rattle.sshpacket.specs.Suite.{SuiteData}
use Rattle.sshcore.specs.ConfigParts.{ClientData, ServerData}
use Rattle.sshcore.specs.ConfigRules.{IsClient, IsServer}
use Rattle.sshcore.specs.Counting.{switched_out}
use Rattle.sshcore.specs.EndpointParts.{DecisionsData, config_of_client, config_of_server}
use Rattle.sshworld.specs.CourseReceived.{BothReceive}
use Rattle.sshworld.specs.Follows.{BothKeep}
use Rattle.sshworld.specs.Placed.{BothInPlace, HaveSameKeys, sent_by_client, sent_by_server}
use Rattle.sshworld.specs.Wordings.{wording_of}
use Rattle.sshworld.proofs.PreambleLemmas.{client_preamble, server_preamble}

pub both_receive : (m : SuiteData) (d : DecisionsData) (c : ClientData) (s : ServerData) → IsClient c → IsServer s → BothKeep m d c s (wording_of m d c s) → BothInPlace m d c s
    → ((switched_out (sent_by_client m d c s) ≡ true) ⊎ (switched_out (sent_by_server m d c s) ≡ true) → HaveSameKeys m Client Server (config_of_client c) (config_of_server s) (sent_by_client m d c s) (sent_by_server m d c s)) → BothReceive m d c s (wording_of m d c s)
both_receive m d c s client server keep places keys = record {
  to_client = record {
    received = record {
      is_other = refl;
      preamble = server_preamble s server;
      places = places.received_by_client;
      keys = λ on. keys (inr on);
    };
    keeps = keep.server_keeps;
  };
  to_server = record {
    received = record {
      is_other = refl;
      preamble = client_preamble c client;
      places = places.received_by_server;
      keys = λ on. let same = keys (inl on) in record { exchange = sym same.exchange; keys = λ sender. sym (same.keys sender); strict = sym same.strict };
    };
    keeps = keep.client_keeps;
  };
}
