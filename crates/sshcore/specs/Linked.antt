-- A link, as contracts see it, and what it answers: payloads that are sealed and opened after authentication.

use Rattle.std.specs.Prelude.{◌≡◌, ◌≢◌, ◌⊎◌, ℕ, suc, zero, ◌+◌, ◌%◌, ◌^◌, ◌<◌, ◌≤◌, List, [], ◌∷◌, ◌++◌, length, take, None, Some, Result, Ok, Err}
use Rattle.sshwire.specs.declared.limits.TheConstants.{PAYLOAD_LIMIT}
use Rattle.sshpacket.specs.declared.fault.PacketFault.{PacketFault}
use Rattle.sshpacket.specs.declared.fault.PacketFault.TheVariants as packet_fault
use Rattle.sshpacket.specs.declared.reader.PacketReader.{PacketReader}
use Rattle.sshpacket.specs.declared.reader.PacketStep.{PacketStep}
use Rattle.sshpacket.specs.declared.reader.PacketStep.TheVariants.{More, Payload}
use Rattle.sshpacket.specs.KeysData.{KeysData}
use Rattle.sshpacket.specs.Parse.{unfinished}
use Rattle.sshpacket.specs.ProtectedPacket.{IsProtectedPacket, PacketMeans, Refuses}
use Rattle.sshpacket.specs.PacketReaderData.{IsStep, PacketAnswer, ReaderWaits, last_used, packet_reader_data, protection_at}
use Rattle.sshpacket.specs.Suite.{SuiteData, next_keys}
use Rattle.sshpacket.specs.Written.{IsWritten, after_sealed, written, written_sealed}
use Rattle.sshcore.specs.declared.session.Direction.{Direction}
use Rattle.sshcore.specs.declared.link.Link.{Link}
use Rattle.sshcore.specs.declared.link.TheConstants.{LINK_BYTES_LIMIT, LINK_LIMIT}
use Rattle.sshcore.specs.declared.link_fault.LinkFault.{LinkFault}
use Rattle.sshcore.specs.declared.link_fault.LinkFault.TheVariants as fault

-- what a link seals with: the keys and the number of the next packet, the seed of padding, how many packets it has sealed and how many
-- bytes they had (RFC 4253 sections 6 and 6.4)
pub record Outgoing : Type 0 where
  pub keys : KeysData
  pub number : ℕ
  pub seed : List ℕ
  pub sealed : ℕ
  pub bytes : ℕ

-- what a link opens with: its reader, and how many packets it has opened
pub record Incoming : Type 0 where
  pub reader : PacketReader
  pub opened : ℕ

-- a reader that holds nothing, and has used some bytes last, has come to the end of a packet
abbrev pub packet_ended : List ℕ → ℕ → ℕ
packet_ended [] zero = 0
packet_ended [] (suc n) = 1
packet_ended (b ∷ held) n = 0

-- the twin of what a link seals with
unfoldable pub outgoing_of : Link → Outgoing
outgoing_of l = record { keys = l.keys; number = l.number; seed = l.seed; sealed = l.sealed; bytes = l.sealed_bytes }

-- the twin of what a link opens with
unfoldable pub incoming_of : Link → Incoming
incoming_of l = record { reader = l.reader; opened = l.opened + packet_ended (packet_reader_data l.reader).held (last_used l.reader) }

-- what a link begins to seal with, by what a session has of this direction
abbrev pub sent_by : Direction → List ℕ → Outgoing
sent_by direction seed = record { keys = direction.keys; number = direction.sequence_number; seed = seed; sealed = 0; bytes = 0 }

-- A link begins to open with the keys and the sequence number of this direction of a session. It holds nothing and has opened no packet.
pub record BeginsBy (direction : Direction) (i : Incoming) : Type 0 where
  pub state_is : packet_reader_data i.reader ≡ record { keys = Some direction.keys; seq = direction.sequence_number; held = []; fault = None }
  pub none_used : last_used i.reader ≡ 0
  pub none_opened : i.opened ≡ 0

-- what is opened waits for more of this suite's packets
abbrev pub LinkWaits : SuiteData → Incoming → Type 0
LinkWaits m i = ReaderWaits m i.reader

-- a payload can be sealed: it has 1 to 32768 bytes, and the keys are used up neither by packets nor by bytes (RFC 4253 section 6.1; 2^31
-- and 2^35 are profile (RFC 4344 sections 3.1 and 3.2))
pub record CanSeal (o : Outgoing) (payload : List ℕ) : Type 0 where
  pub some : 0 < length payload
  pub short : length payload ≤ PAYLOAD_LIMIT
  pub left : o.sealed < LINK_LIMIT
  pub bytes_left : o.bytes < LINK_BYTES_LIMIT

-- why a payload isn't sealed: its length, packets or bytes that are used up, or out of memory, the first two exactly where they are so
abbrev pub SealRefused : Outgoing → List ℕ → LinkFault → Type 0
SealRefused o payload fault.Payload = (payload ≡ []) ⊎ (PAYLOAD_LIMIT < length payload)
SealRefused o payload fault.UsedUp = (0 < length payload) × (length payload ≤ PAYLOAD_LIMIT) × ((LINK_LIMIT ≤ o.sealed) ⊎ (LINK_BYTES_LIMIT ≤ o.bytes))
SealRefused o payload (fault.Packet f) = ⊥
SealRefused o payload fault.Memory = CanSeal o payload

-- the packet of a payload, sealed (RFC 4253 section 6)
abbrev pub sealed_by : SuiteData → Outgoing → List ℕ → List ℕ
sealed_by m o payload = written_sealed m o.keys o.seed o.number payload

-- after it: the next keys, the next number, in 32 bits, one packet more, and its bytes (RFC 4253 sections 6.3 and 6.4)
abbrev pub raised : SuiteData → List ℕ → Outgoing → Outgoing
raised m payload o = record o { keys = after_sealed m o.keys payload; number = (o.number + 1) % 2 ^ 32; sealed = o.sealed + 1; bytes = o.bytes + length (sealed_by m o payload) }

-- what a link seals with after the packets of these payloads, of which the last stands first
abbrev pub raised_by : SuiteData → List (List ℕ) → Outgoing → Outgoing
raised_by m [] o = o
raised_by m (p ∷ ps) o = raised m p (raised_by m ps o)

-- what is sealed in it is a packet of the payload with the least padding (RFC 4253 section 6)
abbrev pub IsSealed : SuiteData → Outgoing → List ℕ → Type 0
IsSealed m o payload =
    IsWritten (m.counts_length o.keys.cipher o.keys.mac) (m.block o.keys.cipher) (m.tag_len o.keys.cipher o.keys.mac) payload
    (written m (m.counts_length o.keys.cipher o.keys.mac) (m.block o.keys.cipher) o.seed o.number payload)

-- a fault of its reader as a link returns it: out of memory as its own, any other as a packet's
abbrev pub fault_by : PacketFault → LinkFault
fault_by packet_fault.Length = fault.Packet packet_fault.Length
fault_by packet_fault.Padding = fault.Packet packet_fault.Padding
fault_by packet_fault.Empty = fault.Packet packet_fault.Empty
fault_by packet_fault.Mac = fault.Packet packet_fault.Mac
fault_by packet_fault.Memory = fault.Memory

-- what a link returns where its reader returns this
abbrev pub told_by : Result PacketStep PacketFault → Result PacketStep LinkFault
told_by (Ok step) = Ok step
told_by (Err f) = Err (fault_by f)

-- What the answer says of the packet at hand (RFC 4253 section 6), as a reader's does (`PacketAnswer`). It is unfinished; or with so many
-- bytes of the piece it is a packet of the payload, whose number is the next; or it is refused for this cause.
abbrev pub OpenAnswer : SuiteData → Incoming → List ℕ → Result PacketStep LinkFault → Type 0
OpenAnswer m i piece (Ok step) = PacketAnswer m (packet_reader_data i.reader) piece (Ok step)
OpenAnswer m i piece (Err fault.Payload) = ⊥
OpenAnswer m i piece (Err fault.UsedUp) = ⊥
OpenAnswer m i piece (Err (fault.Packet f)) = (f ≢ packet_fault.Memory) × PacketAnswer m (packet_reader_data i.reader) piece (Err f)
OpenAnswer m i piece (Err fault.Memory) = Unit {0}

-- a link returns this payload with this sequence number, and so many bytes were used
abbrev pub Opens : List ℕ → ℕ → ℕ → Result PacketStep LinkFault → Type 0
Opens payload seq used (Ok step) = IsStep payload seq used step
Opens payload seq used (Err f) = ⊥

-- No other answer comes than the one that the packet at hand has, unless memory runs out.
pub record OnlyOpenAnswer (m : SuiteData) (i : Incoming) (piece : List ℕ) (result : Result PacketStep LinkFault) : Type 0 where
  pub more : PacketMeans (protection_at m (packet_reader_data i.reader)) ((packet_reader_data i.reader).held ++ piece) unfinished → (result ≡ Ok More) ⊎ (result ≡ Err fault.Memory)
  pub payload : (payload : List ℕ) (used : ℕ) → used ≤ length piece → IsProtectedPacket (protection_at m (packet_reader_data i.reader)) payload ((packet_reader_data i.reader).held ++ take used piece)
      → Opens payload (packet_reader_data i.reader).seq used result ⊎ (result ≡ Err fault.Memory)
  pub refused : (f : PacketFault) (place : ℕ) → Refuses (protection_at m (packet_reader_data i.reader)) ((packet_reader_data i.reader).held ++ piece) f place
      → (result ≡ Err (fault.Packet f)) ⊎ (result ≡ Err fault.Memory)

-- How what it opens with is left: with all unfinished bytes; after a packet with none, the next keys, the next number, in 32 bits, and
-- one packet more; after a refusal with the fault, which is told from then on with nothing changed, and with one packet more at the most.
abbrev pub LinkLeaves : SuiteData → Incoming → List ℕ → Result PacketStep LinkFault → Incoming → Type 0
LinkLeaves m i piece (Ok More) new =
    (packet_reader_data new.reader ≡ record (packet_reader_data i.reader) { held = (packet_reader_data i.reader).held ++ piece }) × (new.opened ≡ i.opened) × LinkWaits m new
LinkLeaves m i piece (Ok (Payload payload seq used)) new =
    (packet_reader_data new.reader ≡ record (packet_reader_data i.reader) { keys = next_keys m (packet_reader_data i.reader).keys (length (packet_reader_data i.reader).held + used); held = []; seq = ((packet_reader_data i.reader).seq + 1) % 2 ^ 32 }) × (new.opened ≡ i.opened + 1) × LinkWaits m new
LinkLeaves m i piece (Err fault.Payload) new = ⊥
LinkLeaves m i piece (Err fault.UsedUp) new = ⊥
LinkLeaves m i piece (Err (fault.Packet f)) new =
    (packet_reader_data new.reader ≡ record (packet_reader_data i.reader) { held = []; fault = Some f }) × (new.opened ≤ i.opened + 1)
LinkLeaves m i piece (Err fault.Memory) new =
    (packet_reader_data new.reader ≡ record (packet_reader_data i.reader) { held = []; fault = Some packet_fault.Memory }) × (new.opened ≤ i.opened + 1)

-- What is sealed with these is opened with those: the keys and the next number are the same, and no packet is unfinished (RFC 4253 sections
-- 6.4 and 7.2).
pub record AreLinked (o : Outgoing) (i : Incoming) : Type 0 where
  pub same_keys : (packet_reader_data i.reader).keys ≡ Some o.keys
  pub same_number : (packet_reader_data i.reader).seq ≡ o.number
  pub none_held : (packet_reader_data i.reader).held ≡ []
  pub in_range : o.number < 2 ^ 32
