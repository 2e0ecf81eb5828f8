-- What stands at the front of the bytes of one direction, as a function. The promise is in ProtectedPacket; the law function
-- `packet_law` ties the two.

use Rattle.std.specs.Prelude.{Bool, true, ◌==◌, ◌&&◌, ◌||◌, ℕ, ◌+◌, ◌-◌, ◌%◌, nat_le, nat_lt, if◌then◌else◌, List, length, take, drop, slice_index, Option, None, Some}
use Rattle.sshwire.specs.declared.fault.WireFault.{WireFault}
use Rattle.sshpacket.specs.declared.fault.PacketFault.{PacketFault}
use Rattle.sshpacket.specs.declared.fault.PacketFault.TheVariants.{Empty, Length, Mac, Padding}
use Rattle.sshpacket.specs.KeysData.{KeysData}
use Rattle.sshpacket.specs.Packet.{counted, number, alignment}
use Rattle.sshpacket.specs.Suite.{SuiteData}
use Rattle.sshpacket.specs.declared.limits.TheConstants.{PACKET_LIMIT}

-- why a stream is refused: as lines, or as packets
pub data Refusal : Type 0 where
  OfLine : WireFault → Refusal
  OfPacket : PacketFault → Refusal

-- More bytes are wanted; or a unit stands there, with what it holds and its length in bytes; or the bytes are refused, and
-- so many of them decide it.
pub data Parse : Type 0 where
  unfinished : Parse
  whole : List ℕ → ℕ → Parse
  refused : Refusal → ℕ → Parse

-- How packets are read, in clear or sealed (RFC 4253 section 6): whether packet_length counts towards the multiple, the block, and the
-- length of the tag. Then packet_length from the first four bytes, and the clear packet from all bytes of it.
pub record ProtectionData : Type 0 where
  pub counts : Bool
  pub block : ℕ
  pub tag : ℕ
  pub head : List ℕ → ℕ
  pub unseal : List ℕ → Option (List ℕ)

-- in clear packet_length counts, the block is 8 and there is no tag (RFC 4253 section 6)
abbrev pub protection : SuiteData → Option KeysData → ℕ → ProtectionData
protection m None seq = record { counts = true; block = 8; tag = 0; head = number; unseal = Some }
protection m (Some keys) seq = record { counts = m.counts_length keys.cipher keys.mac; block = m.block keys.cipher; tag = m.tag_len keys.cipher keys.mac; head = m.head keys seq; unseal = m.unseal keys seq }

-- IsLength, as a test
abbrev pub is_length : Bool → ℕ → ℕ → ℕ → Bool
is_length counts block tag n = nat_le (8 + counted counts) n && (nat_le (4 + n + tag) PACKET_LIMIT && ((counted counts + n) % alignment block == 0))

-- a clear packet of which all is there, with so many bytes in the stream
unfoldable pub opened : List ℕ → ℕ → Parse
opened clear len =
    if nat_lt (slice_index clear 4) 4 || nat_le (length clear - 4) (slice_index clear 4) then refused (OfPacket Padding) len
    else if slice_index clear 4 + 1 == length clear - 4 then refused (OfPacket Empty) len
    else whole (take (length clear - 4 - slice_index clear 4 - 1) (drop 5 clear)) len

-- what is at the front once the packet is unsealed: the packet, or a refusal as P4 where its tag is wrong
abbrev pub unsealed : Option (List ℕ) → ℕ → Parse
unsealed None len = refused (OfPacket Mac) len
unsealed (Some clear) len = opened clear len

-- how many bytes the packet has with its tag
abbrev pub total : ProtectionData → List ℕ → ℕ
total w bytes = 4 + w.head (take 4 bytes) + w.tag

-- The length is judged by the first four bytes alone; the tag, the padding and the payload, in this order, once all is there (RFC 4253
-- section 6; the order of judgement is profile).
unfoldable pub parse_packet : ProtectionData → List ℕ → Parse
parse_packet w bytes =
    if nat_lt (length bytes) 4 then unfinished
    else if is_length w.counts w.block w.tag (w.head (take 4 bytes)) then
    (if nat_lt (length bytes) (total w bytes) then unfinished else unsealed (w.unseal (take (total w bytes) bytes)) (total w bytes))
    else refused (OfPacket Length) 4
