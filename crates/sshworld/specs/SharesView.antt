-- What the two sides have given and come to, as it is hashed.

use Rattle.std.specs.Prelude.{◌≡◌, ◌≤◌, length}
use Rattle.sshmsg.specs.MessageData.{KexInit}
use Rattle.sshmsg.specs.Written.{written_message}
use Rattle.sshneg.specs.Derivations.{ExchangeData}
use Rattle.sshneg.specs.Fields.{AlgorithmsData}
use Rattle.sshpacket.specs.declared.limits.TheConstants.{BLOB_LIMIT, SHARE_LIMIT}
use Rattle.sshpacket.specs.Suite.{SuiteData, response_data}
use Rattle.sshcore.specs.ConfigParts.{ClientData, ServerData, client_offer, server_offer, version_of}
use Rattle.sshworld.specs.declared.session.SharesGiven.{SharesGiven}
use Rattle.sshworld.specs.Agreement.{answer_of_server, host_key_of_server, share_of_client}

-- the exchange of two configs with these shares
abbrev pub exchange_given : ClientData → ServerData → SharesGiven → ExchangeData
exchange_given client server shares = record {
  client_version = version_of client.side;
  server_version = version_of server.side;
  client_kexinit = written_message (KexInit (client_offer client));
  server_kexinit = written_message (KexInit (server_offer server));
  host_key = shares.host_key.now;
  client_share = shares.client_share.items;
  server_share = shares.answer.share.items;
  shared = shares.answer.shared.items;
}

-- they are those of two configs
pub record AreBetween (m : SuiteData) (client : ClientData) (server : ServerData) (algorithms : AlgorithmsData) (shares : SharesGiven) : Type 0 where
  pub host_key : shares.host_key.now ≡ host_key_of_server m server algorithms.host_key
  pub client_share : shares.client_share.items ≡ share_of_client m client algorithms.kex
  pub answer : response_data shares.answer ≡ answer_of_server m client server algorithms.kex

-- they are short
pub record AreShort (shares : SharesGiven) : Type 0 where
  pub host_key : length shares.host_key.now ≤ BLOB_LIMIT
  pub client_share : length shares.client_share.items ≤ SHARE_LIMIT
  pub server_share : length shares.answer.share.items ≤ SHARE_LIMIT
  pub shared : length shares.answer.shared.items ≤ SHARE_LIMIT
