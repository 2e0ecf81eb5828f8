-- What an answer of `parse_packet` says of the bytes, in the terms of the packet (RFC 4253 section 6).

use Rattle.std.specs.Prelude.{◌≡◌, ◌⊎◌, ℕ, ◌+◌, ◌<◌, ◌≤◌, List, length, take, slice_index, None, Some}
use Rattle.sshwire.specs.Types.{IsBytes}
use Rattle.sshpacket.specs.declared.fault.PacketFault.{PacketFault}
use Rattle.sshpacket.specs.declared.fault.PacketFault.TheVariants.{Empty, Length, Mac, Memory, Padding}
use Rattle.sshpacket.specs.Parse.{Parse, OfLine, OfPacket, ProtectionData, refused, total, unfinished, whole}
use Rattle.sshpacket.specs.Packet.{IsLength, IsPacket}
use Rattle.sshpacket.specs.Suite.{Keeps}

-- what is unsealed has the length that was read before, and is bytes
pub record IsFaithful (w : ProtectionData) : Type 0 where
  pub keeps : (bytes clear : List ℕ) → IsBytes bytes → length bytes ≡ total w bytes → w.unseal bytes ≡ Some clear → Keeps (w.head (take 4 bytes)) clear

-- the bytes are one packet of this payload, protected in this way
pub record IsProtectedPacket (w : ProtectionData) (payload bytes : List ℕ) : Type 0 where
  pub clear : List ℕ
  pub size : length bytes ≡ total w bytes
  pub opens : w.unseal bytes ≡ Some clear
  pub spells : IsPacket w.counts w.block w.tag payload clear

-- packet_length is taken, and the first len bytes are all that it counts
pub record IsWhole (w : ProtectionData) (bytes : List ℕ) (len : ℕ) : Type 0 where
  pub headed : 4 ≤ length bytes
  pub fits : IsLength w.counts w.block w.tag (w.head (take 4 bytes))
  pub size : len ≡ total w bytes
  pub there : len ≤ length bytes

-- packet_length is taken, and not all that it counts is there
pub record IsPart (w : ProtectionData) (bytes : List ℕ) : Type 0 where
  pub headed : 4 ≤ length bytes
  pub fits : IsLength w.counts w.block w.tag (w.head (take 4 bytes))
  pub lacks : length bytes < total w bytes

-- why the packet at the front is refused, and at which place: its length at 4, else its tag, padding or empty payload at its end (the order
-- is profile)
abbrev pub Refuses : ProtectionData → List ℕ → PacketFault → ℕ → Type 0
Refuses w bytes Length place = (4 ≤ length bytes) × (place ≡ 4) × (IsLength w.counts w.block w.tag (w.head (take 4 bytes)) → ⊥)
Refuses w bytes Mac place = IsWhole w bytes place × (w.unseal (take place bytes) ≡ None)
Refuses w bytes Padding place =
    IsWhole w bytes place × (clear : List ℕ) × (w.unseal (take place bytes) ≡ Some clear)
    × ((slice_index clear 4 < 4) ⊎ (w.head (take 4 bytes) ≤ slice_index clear 4))
Refuses w bytes Empty place =
    IsWhole w bytes place × (clear : List ℕ) × (w.unseal (take place bytes) ≡ Some clear)
    × (4 ≤ slice_index clear 4) × (slice_index clear 4 + 1 ≡ w.head (take 4 bytes))
Refuses w bytes Memory place = ⊥

-- what an answer says of the bytes: fewer than four or a part of a packet; a packet of the payload; or a refused one
abbrev pub PacketMeans : ProtectionData → List ℕ → Parse → Type 0
PacketMeans w bytes unfinished = (length bytes < 4) ⊎ IsPart w bytes
PacketMeans w bytes (whole payload len) = (len ≤ length bytes) × IsProtectedPacket w payload (take len bytes)
PacketMeans w bytes (refused (OfPacket fault) place) = Refuses w bytes fault place
PacketMeans w bytes (refused (OfLine fault) place) = ⊥
