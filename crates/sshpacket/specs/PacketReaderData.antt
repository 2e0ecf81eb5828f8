-- What contracts see of a packet reader, and what it answers, in the terms of the packet at hand: the bytes that it holds and
-- the piece.

use Rattle.std.specs.Prelude.{◌≡◌, ◌≢◌, ◌⊎◌, ℕ, ◌+◌, ◌-◌, ◌%◌, ◌^◌, ◌<◌, ◌≤◌, List, [], ◌++◌, length, take, drop, Option, None, Some, Result, Ok, Err}
use Rattle.sshpacket.specs.declared.fault.PacketFault.{PacketFault}
use Rattle.sshpacket.specs.declared.fault.PacketFault.TheVariants.{Memory}
use Rattle.sshpacket.specs.declared.reader.PacketReader.{PacketReader}
use Rattle.sshpacket.specs.declared.reader.PacketStep.{PacketStep}
use Rattle.sshpacket.specs.declared.reader.PacketStep.TheVariants.{More, Payload}
use Rattle.sshpacket.specs.declared.room.TheConstants.{ROOM_KEPT}
use Rattle.sshpacket.specs.Parse.{Parse, OfPacket, ProtectionData, parse_packet, refused, unfinished, protection, whole}
use Rattle.sshpacket.specs.KeysData.{KeysData}
use Rattle.sshpacket.specs.ReaderSteps.{needed}
use Rattle.sshpacket.specs.Suite.{SuiteData, next_keys}
use Rattle.sshpacket.specs.ProtectedPacket.{IsProtectedPacket, PacketMeans, Refuses}

-- what contracts see of a packet reader: its keys, the next packet's number, the bytes of the unfinished packet, and the fault that it
-- found
pub record PacketReaderData : Type 0 where
  pub keys : Option KeysData
  pub seq : ℕ
  pub held : List ℕ
  pub fault : Option PacketFault

-- the twin of a `PacketReader`
unfoldable pub packet_reader_data : PacketReader → PacketReaderData
packet_reader_data r = record { keys = r.keys; seq = r.seq; held = r.unfinished.items; fault = r.fault }

-- how many bytes of the piece the last call used
unfoldable pub last_used : PacketReader → ℕ
last_used r = r.taken

-- how many bytes of a packet that was read the reader still keeps
unfoldable pub kept : PacketReader → ℕ
kept r = length r.packet.items

-- for how many bytes more it has room
unfoldable pub spare_room : PacketReader → ℕ
spare_room r = r.unfinished.spare

-- how many bytes the packet at hand must have before more of it is judged, as the reader knows
unfoldable pub target_len : PacketReader → ℕ
target_len r = r.target

-- how many bytes more the packet at hand must have before more of it is judged
abbrev pub missing_of : PacketReader → ℕ
missing_of r = target_len r - length (packet_reader_data r).held

-- how the packet at hand is read
abbrev pub protection_at : SuiteData → PacketReaderData → ProtectionData
protection_at m s = protection m s.keys s.seq

-- what stands at the front, the piece included
abbrev pub ahead : SuiteData → PacketReaderData → List ℕ → Parse
ahead m s piece = parse_packet (protection_at m s) (s.held ++ piece)

-- the reader waits for more of this suite's packet: what it holds is unfinished, and it knows how much is wanted
pub record ReaderWaits (m : SuiteData) (r : PacketReader) : Type 0 where
  pub no_fault : (packet_reader_data r).fault ≡ None
  pub unfinished_is : parse_packet (protection_at m (packet_reader_data r)) (packet_reader_data r).held ≡ unfinished
  pub knows : target_len r ≡ needed (protection_at m (packet_reader_data r)) (packet_reader_data r).held

-- a step has this payload with this sequence number, and so many bytes were used
abbrev pub IsStep : List ℕ → ℕ → ℕ → PacketStep → Type 0
IsStep payload seq used More = ⊥
IsStep payload seq used (Payload lent number taken) = (lent.now ≡ payload) × (number ≡ seq) × (taken ≡ used)

-- the call returns this payload with this sequence number, and has used so many bytes
abbrev pub IsPayload : List ℕ → ℕ → ℕ → Result PacketStep PacketFault → Type 0
IsPayload payload seq used (Ok step) = IsStep payload seq used step
IsPayload payload seq used (Err f) = ⊥

-- What the answer says of the packet at hand (RFC 4253 section 6). It is unfinished; or with so many bytes of the piece it is a packet of
-- the payload, whose number is the next; or it is refused for this cause, which so many bytes of the piece decide. Where an allocation
-- failed, nothing is said.
abbrev pub PacketAnswer : SuiteData → PacketReaderData → List ℕ → Result PacketStep PacketFault → Type 0
PacketAnswer m s piece (Ok More) = PacketMeans (protection_at m s) (s.held ++ piece) unfinished
PacketAnswer m s piece (Ok (Payload payload seq used)) =
    (used ≤ length piece) × (seq ≡ s.seq) × IsProtectedPacket (protection_at m s) payload.now (s.held ++ take used piece)
PacketAnswer m s piece (Err f) = f ≢ Memory → (used : ℕ) × (used ≤ length piece) × Refuses (protection_at m s) (s.held ++ piece) f (length s.held + used)

-- No other answer comes than the one that the packet at hand has, unless memory runs out (RFC 4253 section 6).
pub record OnlyPacketAnswer (m : SuiteData) (s : PacketReaderData) (piece : List ℕ) (result : Result PacketStep PacketFault) : Type 0 where
  pub more : PacketMeans (protection_at m s) (s.held ++ piece) unfinished → (result ≡ Ok More) ⊎ (result ≡ Err Memory)
  pub payload : (payload : List ℕ) (used : ℕ) → used ≤ length piece → IsProtectedPacket (protection_at m s) payload (s.held ++ take used piece)
      → IsPayload payload s.seq used result ⊎ (result ≡ Err Memory)
  pub refused : (f : PacketFault) (place : ℕ) → Refuses (protection_at m s) (s.held ++ piece) f place → (result ≡ Err f) ⊎ (result ≡ Err Memory)

-- the same as the answer of the function
abbrev pub ParseAnswer : SuiteData → PacketReaderData → List ℕ → Result PacketStep PacketFault → Type 0
ParseAnswer m s piece (Err f) = f ≢ Memory → (used : ℕ) × (used ≤ length piece) × (ahead m s piece ≡ refused (OfPacket f) (length s.held + used))
ParseAnswer m s piece (Ok More) = ahead m s piece ≡ unfinished
ParseAnswer m s piece (Ok (Payload payload seq used)) =
    (used ≤ length piece) × (ahead m s piece ≡ whole payload.now (length s.held + used)) × (seq ≡ s.seq)

-- how an answer leaves the reader: with all unfinished bytes; after a packet with none, and the keys and the number of the next one; with
-- none and the fault
abbrev pub ReaderLeaves : SuiteData → PacketReaderData → List ℕ → Result PacketStep PacketFault → PacketReader → Type 0
ReaderLeaves m old piece (Err f) new =
    (packet_reader_data new ≡ record old { held = []; fault = Some f }) × (last_used new ≤ length piece)
    × (f ≢ Memory → ahead m old piece ≡ refused (OfPacket f) (length old.held + last_used new))
ReaderLeaves m old piece (Ok More) new = (packet_reader_data new ≡ record old { held = old.held ++ piece }) × (last_used new ≡ length piece) × ReaderWaits m new
ReaderLeaves m old piece (Ok (Payload payload seq used)) new =
    (packet_reader_data new ≡ record old { keys = next_keys m old.keys (length old.held + used); held = []; seq = (old.seq + 1) % 2 ^ 32 }) × (last_used new ≡ used) × ReaderWaits m new

-- a packet uses some bytes of a piece of this length, and no more than it has
abbrev pub Uses : ℕ → PacketStep → Type 0
Uses len More = Unit {0}
Uses len (Payload payload seq used) = (0 < used) × (used ≤ len)

-- after a payload nothing is held
abbrev pub HoldsNothingAfter : Result PacketStep PacketFault → PacketReaderData → Type 0
HoldsNothingAfter (Ok (Payload payload seq used)) new = new.held ≡ []
HoldsNothingAfter _ new = Unit {0}

-- after a payload and a refusal little room is kept; without a payload nothing of a packet that was read
abbrev pub KeepsLittle : Result PacketStep PacketFault → PacketReader → Type 0
KeepsLittle (Ok More) new = kept new ≡ 0
KeepsLittle (Ok (Payload payload seq used)) new = spare_room new ≤ ROOM_KEPT
KeepsLittle (Err f) new = (kept new ≡ 0) × (spare_room new ≤ ROOM_KEPT)

-- the same of the step below `next`, which answers the length of the payload in the packet
abbrev pub Advances : SuiteData → PacketReaderData → List ℕ → Result (Option ℕ) PacketFault → PacketReader → Type 0
Advances m old piece (Err f) new =
    (packet_reader_data new ≡ record old { held = []; fault = Some f })
    × (f ≢ Memory → ahead m old piece ≡ refused (OfPacket f) (length old.held + last_used new))
Advances m old piece (Ok None) new =
    (packet_reader_data new ≡ record old { held = old.held ++ piece }) × (last_used new ≡ length piece) × (ahead m old piece ≡ unfinished) × ReaderWaits m new
Advances m old piece (Ok (Some payload_len)) new =
    (packet_reader_data new ≡ record old { keys = next_keys m old.keys (length old.held + last_used new); held = []; seq = (old.seq + 1) % 2 ^ 32 })
    × (ahead m old piece ≡ whole (take payload_len (drop 5 new.packet.items)) (length old.held + last_used new)) × ReaderWaits m new
