-- What the steps of the packet reader do, each on plain bytes.

use Rattle.std.specs.Prelude.{◌≡◌, ◌≢◌, ℕ, ◌+◌, ◌<◌, ◌≤◌, nat_lt, if◌then◌else◌, true, List, [], ◌++◌, length, take, drop, None, Some, Result, Ok, Err}
use Rattle.bytes.specs.Filled as buffer
use Rattle.sshpacket.specs.declared.fault.PacketFault.{PacketFault}
use Rattle.sshpacket.specs.declared.fault.PacketFault.TheVariants as fault
use Rattle.sshpacket.specs.declared.protection.Opened.{Opened}
use Rattle.sshpacket.specs.declared.reader.Filled.{Filled}
use Rattle.sshpacket.specs.declared.reader.Filled.TheVariants as filled
use Rattle.sshpacket.specs.declared.reader.Gathered.{Gathered}
use Rattle.sshpacket.specs.declared.reader.Gathered.TheVariants as gathered
use Rattle.sshpacket.specs.Parse.{OfPacket, ProtectionData, parse_packet, is_length, refused, total, unfinished, unsealed, whole}
use Rattle.sshpacket.specs.declared.limits.TheConstants.{PACKET_LIMIT}
use Rattle.sshpacket.specs.declared.room.TheConstants.{ROOM_KEPT}

-- the length of the packet by its first four bytes
pub record Counts (w : ProtectionData) (first : List ℕ) (len : ℕ) : Type 0 where
  pub taken : is_length w.counts w.block w.tag (w.head first) ≡ true
  pub len_is : len ≡ 4 + w.head first + w.tag

-- the packet was unsealed, or has a wrong tag
abbrev pub Unseals : ProtectionData → List ℕ → Result buffer.Filled PacketFault → Type 0
Unseals w sealed (Ok clear) = w.unseal sealed ≡ Some clear.items
Unseals w sealed (Err f) = f ≢ fault.Memory → (f ≡ fault.Mac) × (w.unseal sealed ≡ None)

-- a packet of which all is there was opened
abbrev pub Opens : ProtectionData → List ℕ → Result Opened PacketFault → Type 0
Opens w sealed (Err f) = f ≢ fault.Memory → unsealed (w.unseal sealed) (length sealed) ≡ refused (OfPacket f) (length sealed)
Opens w sealed (Ok opened) = unsealed (w.unseal sealed) (length sealed) ≡ whole (take opened.payload_len (drop 5 opened.packet.items)) (length sealed)

-- as many bytes of the piece as there are were appended, up to so many in all
pub record Fills (target : ℕ) (piece held new : List ℕ) (used : ℕ) : Type 0 where
  pub within : used ≤ length piece
  pub appended : new ≡ held ++ take used piece
  pub upto : length held + used ≤ target
  pub all : length held + used < target → used ≡ length piece

-- how many bytes of a packet there must be before more of it is judged: four, then all
abbrev pub needed : ProtectionData → List ℕ → ℕ
needed w held = if nat_lt (length held) 4 then 4 else total w held

-- what is held and a piece: a part of a packet, or all of it, or a length that isn't taken
abbrev pub FillsPacket : ProtectionData → List ℕ → List ℕ → List ℕ → Result Filled PacketFault → Type 0
FillsPacket w held piece new (Err f) = f ≢ fault.Memory → parse_packet w (held ++ piece) ≡ refused (OfPacket f) (length new)
FillsPacket w held piece new (Ok (filled.Part target)) =
    (new ≡ held ++ piece) × (parse_packet w (held ++ piece) ≡ unfinished) × (target ≡ needed w new)
FillsPacket w held piece new (Ok filled.Whole) = parse_packet w (held ++ piece) ≡ unsealed (w.unseal new) (length new)

-- there is room for more up to the target, or there are no more bytes than a packet has
abbrev pub HasRoom : ℕ → Filled → Type 0
HasRoom held (filled.Part target) = (held < target) × (4 ≤ target) × (target ≤ PACKET_LIMIT)
HasRoom held filled.Whole = held ≤ PACKET_LIMIT

-- some bytes were used for a whole packet
abbrev pub FilledSome : ℕ → ℕ → Filled → Type 0
FilledSome before after (filled.Part target) = before ≤ after
FilledSome before after filled.Whole = before < after

-- bytes were appended up to the length of the packet
abbrev pub FillsBody : ℕ → List ℕ → List ℕ → List ℕ → Result Filled PacketFault → Type 0
FillsBody len piece held new (Err f) = f ≡ fault.Memory
FillsBody len piece held new (Ok (filled.Part target)) = (new ≡ held ++ piece) × (target ≡ len) × (length new < len)
FillsBody len piece held new (Ok filled.Whole) = (length new ≡ len) × (used : ℕ) × (used ≤ length piece) × (new ≡ held ++ take used piece)

-- what was filled is opened, where it is whole, and is held no longer; else nothing changes
abbrev pub OpensFilled : ProtectionData → List ℕ → List ℕ → Result Filled PacketFault → Result Gathered PacketFault → Type 0
OpensFilled w old new (Err f) result = (result ≡ Err f) × (new ≡ old)
OpensFilled w old new (Ok (filled.Part target)) result = (result ≡ Ok (gathered.Part target)) × (new ≡ old)
OpensFilled w old new (Ok filled.Whole) (Ok (gathered.Part target)) = ⊥
OpensFilled w old new (Ok filled.Whole) (Ok (gathered.Whole opened)) = (new ≡ []) × Opens w old (Ok opened)
OpensFilled w old new (Ok filled.Whole) (Err f) = Opens w old (Err f)

-- what is held and a piece, of which so many bytes were used
abbrev pub ReadsOn : ProtectionData → List ℕ → List ℕ → List ℕ → ℕ → Result Gathered PacketFault → Type 0
ReadsOn w held piece new used (Err f) = f ≢ fault.Memory → parse_packet w (held ++ piece) ≡ refused (OfPacket f) (length held + used)
ReadsOn w held piece new used (Ok (gathered.Part target)) =
    (new ≡ held ++ piece) × (used ≡ length piece) × (parse_packet w (held ++ piece) ≡ unfinished) × (target ≡ needed w new)
ReadsOn w held piece new used (Ok (gathered.Whole opened)) =
    (new ≡ []) × (parse_packet w (held ++ piece) ≡ whole (take opened.payload_len (drop 5 opened.packet.items)) (length held + used))

-- there is room up to the target; after a whole packet nothing is held, and some bytes were used
abbrev pub GatheredRoom : List ℕ → ℕ → Gathered → Type 0
GatheredRoom new used (gathered.Part target) = (length new < target) × (4 ≤ target) × (target ≤ PACKET_LIMIT)
GatheredRoom new used (gathered.Whole opened) = (new ≡ []) × (0 < used)

-- after a whole packet little room is kept
abbrev pub KeepsRoom : ℕ → Gathered → Type 0
KeepsRoom spare (gathered.Part target) = Unit {0}
KeepsRoom spare (gathered.Whole opened) = spare ≤ ROOM_KEPT
