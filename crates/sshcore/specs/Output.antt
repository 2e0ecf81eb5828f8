-- What an endpoint sends packets with, and what it sends with it: RFC 4253 sections 6.4 and 7.3, OpenSSH PROTOCOL section 1.10.

use Rattle.std.specs.Prelude.{◌≡◌, ℕ, ◌+◌, ◌%◌, ◌^◌, ◌==◌, Bool, if◌then◌else◌, List, [], ◌∷◌, ◌++◌, Option, None, Some}
use Rattle.sshmsg.specs.declared.numbers.TheConstants.{SSH_MSG_NEWKEYS}
use Rattle.sshmsg.specs.Numbers.{message_number}
use Rattle.sshneg.specs.declared.side.Side.{Side}
use Rattle.sshpacket.specs.KeysData.{KeysData}
use Rattle.sshpacket.specs.Stream.{Units}
use Rattle.sshpacket.specs.Suite.{SuiteData}
use Rattle.sshpacket.specs.Written.{after_sealed}
use Rattle.sshcore.specs.Before.{strict_at}
use Rattle.sshcore.specs.Counting.{number_out}
use Rattle.sshcore.specs.Directions.{keys_out, payloads_in, spelled_by}
use Rattle.sshcore.specs.EndpointParts.{ConfigData}

-- the keys, and the sequence number of the next packet (RFC 4253 section 6.4)
pub record Sending : Type 0 where
  pub keys : Option KeysData
  pub number : ℕ

-- the keys of the next packet, after that of this payload
abbrev pub keys_after : SuiteData → Option KeysData → List ℕ → Option KeysData
keys_after m None payload = None
keys_after m (Some keys) payload = Some (after_sealed m keys payload)

-- what packets are sent with, after the packet of this payload: the next keys, and the next sequence number, modulo 2^32 (RFC 4253 section
-- 6.4)
abbrev pub with_packet : SuiteData → List ℕ → Sending → Sending
with_packet m payload o = record { keys = keys_after m o.keys payload; number = (o.number + 1) % 2 ^ 32 }

-- what packets are sent with after a NEWKEYS: the new keys, and the number 0 where the endpoint is strict (RFC 4253 section 7.3, OpenSSH
-- PROTOCOL section 1.10)
abbrev pub with_newkeys : Bool → KeysData → Sending → Sending
with_newkeys strict next o = record { keys = Some next; number = if strict then 0 else (o.number + 1) % 2 ^ 32 }

-- what packets are sent with after a payload, by the keys so far and by whether it is a NEWKEYS
abbrev pub sending_by : SuiteData → Option KeysData → Bool → Bool → KeysData → List ℕ → Sending → Sending
sending_by m (Some keys) newkeys strict next payload o = with_packet m payload o
sending_by m None newkeys strict next payload o = if newkeys then with_newkeys strict next o else with_packet m payload o

-- what packets are sent with after a payload; the first NEWKEYS alone brings keys, since there is one exchange (RFC 4253 section 7.3; the
-- one exchange is profile)
abbrev pub after_sending : SuiteData → Bool → KeysData → Sending → List ℕ → Sending
after_sending m strict next o payload = sending_by m o.keys (message_number payload == SSH_MSG_NEWKEYS) strict next payload o

-- payloads sent one after another
unfoldable pub sent_from : SuiteData → List ℕ → Bool → KeysData → Sending → Units → List ℕ
sent_from m seed strict next o [] = []
sent_from m seed strict next o (a ∷ more) = spelled_by m o.keys seed o.number a ++ sent_from m seed strict next (after_sending m strict next o a) more

-- what packets are sent with after these payloads
unfoldable pub sending_from : SuiteData → Bool → KeysData → Sending → Units → Sending
sending_from m strict next o [] = o
sending_from m strict next o (a ∷ more) = sending_from m strict next (after_sending m strict next o a) more

-- what is kept is what was received and sent: the keys and the number of the next packet
pub record Speaks (m : SuiteData) (role : Side) (config : ConfigData) (units sent : Units) (o : Sending) : Type 0 where
  pub keys : o.keys ≡ keys_out m role config units sent
  pub number : o.number ≡ number_out (strict_at role config (payloads_in units)) sent
