-- What a payload of the course finds where it is received, and the keys that both sides come to.

use Rattle.std.specs.Prelude.{◌≡◌, ◌==◌, ℕ, true, List, []}
use Rattle.sshmsg.specs.declared.numbers.TheConstants.{SSH_MSG_NEWKEYS}
use Rattle.sshmsg.specs.Numbers.{message_number}
use Rattle.sshneg.specs.declared.side.Side.{Side}
use Rattle.sshneg.specs.declared.side.Side.TheVariants.{Client, Server}
use Rattle.sshpacket.specs.Places.{EachPlace}
use Rattle.sshpacket.specs.Stream.{Units}
use Rattle.sshpacket.specs.Suite.{SuiteData}
use Rattle.sshcore.specs.Before.{kept, strict_at}
use Rattle.sshcore.specs.ConfigParts.{ClientData, ServerData}
use Rattle.sshcore.specs.Counting.{switched_out}
use Rattle.sshcore.specs.Exchange.{exchange_at, keys_at}
use Rattle.sshcore.specs.History.{IsReady}
use Rattle.sshcore.specs.EndpointParts.{ConfigData, DecisionsData, config_of_client, config_of_server}
use Rattle.sshworld.specs.Course.{sent_after}
use Rattle.sshworld.specs.Follows.{part_of_client, part_of_server}
use Rattle.sshworld.specs.Wordings.{wording_of}

-- NEWKEYS is never dropped, and what the other side sends after its NEWKEYS finds that the exchange was received (RFC 4253
-- sections 7 and 7.3).
pub record IsInPlace (role : Side) (own : ConfigData) (before : Units) (payload : List ℕ) : Type 0 where
  pub switch : kept role own.offer SSH_MSG_NEWKEYS before payload ≡ (message_number payload == SSH_MSG_NEWKEYS)
  pub ready : switched_out before ≡ true → IsReady role own before

-- all payloads that the client sends in the course of two configs
abbrev pub sent_by_client : SuiteData → DecisionsData → ClientData → ServerData → Units
sent_by_client m d client server =
    sent_after (part_of_client m d client server (wording_of m d client server)) (part_of_client m d client server (wording_of m d client server)).receives

-- all payloads that the server sends in the course of two configs
abbrev pub sent_by_server : SuiteData → DecisionsData → ClientData → ServerData → Units
sent_by_server m d client server =
    sent_after (part_of_server m d client server (wording_of m d client server)) (part_of_server m d client server (wording_of m d client server)).receives

-- All that either side sends is in its place where the other receives it (RFC 4253 sections 7 and 7.3).
pub record BothInPlace (m : SuiteData) (d : DecisionsData) (client : ClientData) (server : ServerData) : Type 0 where
  pub received_by_client : EachPlace (IsInPlace Client (config_of_client client)) [] (sent_by_server m d client server)
  pub received_by_server : EachPlace (IsInPlace Server (config_of_server server)) [] (sent_by_client m d client server)

-- Of two endpoints own receives theirs, and the other receives ours: by that both hash the same, come to the same keys of each
-- direction and are strict alike (RFC 4253 section 7.2, OpenSSH PROTOCOL section 1.10).
pub record HaveSameKeys (m : SuiteData) (role peer : Side) (own their : ConfigData) (ours theirs : Units) : Type 0 where
  pub exchange : exchange_at m role own their.version theirs ≡ exchange_at m peer their own.version ours
  pub keys : (sender : Side) → keys_at m role own their.version theirs sender ≡ keys_at m peer their own.version ours sender
  pub strict : strict_at role own theirs ≡ strict_at peer their ours
