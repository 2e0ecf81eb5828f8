-- Packets that are sealed and opened by a state that the program keeps.

use Rattle.std.specs.Prelude.{◌≡◌, ℕ, ◌+◌, ◌/◌, ◌%◌, ◌^◌, ◌<◌, ◌≤◌, List, ◌++◌, length, take, drop, Some}
use Rattle.sshwire.specs.declared.limits.TheConstants.{PAYLOAD_LIMIT}
use Rattle.sshwire.specs.Types.{uint32}
use Rattle.sshpacket.specs.KeysData.{KeysData}
use Rattle.sshpacket.specs.Parse.{protection}
use Rattle.sshpacket.specs.ProtectedPacket.{IsProtectedPacket}
use Rattle.sshpacket.specs.Suite.{SuiteData, advanced}
use Rattle.sshpacket.specs.Written.{IsWritten, written, written_sealed}
use Rattle.sshcore.specs.declared.link.TheConstants.{LINK_BYTES_LIMIT, LINK_LIMIT}
use Rattle.rezdolin.specs.declared.directions.Place.{Place}
use Rattle.rezdolin.specs.declared.directions.StateParts.{StateParts}
use Rattle.rezdolin.specs.Drawn.{IsUniform}
use Rattle.rezdolin.specs.Records.{state_bytes}

-- the keys that stand in a state
abbrev pub keys_in : StateParts → KeysData
keys_in parts = record { cipher = parts.cipher.now; mac = parts.mac.now; iv = parts.iv.now; enc = parts.enc.now; mac_key = parts.mac_key.now }

-- where the vector stands in a state: after its numbers, two names and three lengths
abbrev pub vector_place : KeysData → ℕ
vector_place keys = 28 + length keys.cipher + length keys.mac

-- a place as it stands at the front of a state
abbrev pub place_bytes : Place → List ℕ
place_bytes place = uint32 place.number ++ (uint32 place.count ++ (uint32 (place.bytes / 2 ^ 32) ++ uint32 (place.bytes % 2 ^ 32)))

-- the bytes of a state that stands so, by these keys but for their vector, which has as many bytes
abbrev pub IsStateBefore : Place → KeysData → List ℕ → Type 0
IsStateBefore place keys state =
    (iv : List ℕ) × (length iv ≡ length keys.iv) × (state ≡ state_bytes place.number place.count place.bytes (record keys { iv = iv }))

-- The state by which a packet of so many bytes goes, and the state after it: the next number, in 32 bits, one packet more, its bytes, and
-- the keys of the next packet. No state goes further than the limits of packets and of bytes.
pub record Moves (m : SuiteData) (len : ℕ) (before after : List ℕ) : Type 0 where
  pub number : ℕ
  pub count : ℕ
  pub bytes : ℕ
  pub keys : KeysData
  pub before_is : before ≡ state_bytes number count bytes keys
  pub left : count < LINK_LIMIT
  pub bytes_left : bytes < LINK_BYTES_LIMIT
  pub after_is : after ≡ state_bytes ((number + 1) % 2 ^ 32) (count + 1) (bytes + len) (advanced m keys len)

-- these bytes stand at the front of the room, and after them what stood there
abbrev pub IsPut : List ℕ → List ℕ → ℕ → List ℕ → Type 0
IsPut bytes room n new = (length bytes ≤ length room) × (n ≡ length bytes) × (new ≡ bytes ++ drop (length bytes) room)

-- The packet of this payload, sealed with the keys and the sequence number of the state, is in the room; what is sealed in it is a packet
-- with the least padding (RFC 4253 section 6). The state has the next number, the keys of the next packet, and one packet and its bytes
-- more. Before it had sealed fewer packets and bytes than a link's limits.
pub record IsSealed (m : SuiteData) (state seed payload room new_state : List ℕ) (n : ℕ) (new : List ℕ) : Type 0 where
  pub moves : Moves m n state new_state
  pub drawn : IsUniform seed → ⊥
  pub some : 0 < length payload
  pub short : length payload ≤ PAYLOAD_LIMIT
  pub put : IsPut (written_sealed m moves.keys seed moves.number payload) room n new
  pub packet : IsWritten (m.counts_length moves.keys.cipher moves.keys.mac) (m.block moves.keys.cipher) (m.tag_len moves.keys.cipher moves.keys.mac) payload
      (written m (m.counts_length moves.keys.cipher moves.keys.mac) (m.block moves.keys.cipher) seed moves.number payload)

-- A packet was opened: so many bytes at the front of what was received are one of the payload that is put, by the keys and the
-- number of the state (RFC 4253 section 6).
pub record IsOpened (m : SuiteData) (state received room new_state : List ℕ) (used n : ℕ) (new : List ℕ) : Type 0 where
  pub moves : Moves m used state new_state
  pub within : used ≤ length received
  pub payload : List ℕ
  pub put : IsPut payload room n new
  pub packet : IsProtectedPacket (protection m (Some moves.keys) moves.number) payload (take used received)
