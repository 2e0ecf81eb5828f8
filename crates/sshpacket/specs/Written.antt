-- The packet that is written for a payload: with the least padding, whose bytes the suite draws from a seed and the packet's own number.

use Rattle.std.specs.Prelude.{Bool, true, ℕ, ◌+◌, List, [], ◌∷◌, length}
use Rattle.sshpacket.specs.KeysData.{KeysData}
use Rattle.sshpacket.specs.Packet.{IsLeastPadding, IsPacket, least_padding, packet}
use Rattle.sshpacket.specs.Suite.{SuiteData, advanced}

-- The packet of the payload with the least padding (profile), whose bytes the suite makes of the seed and the sequence number (RFC 4253
-- section 6).
unfoldable pub written : SuiteData → Bool → ℕ → List ℕ → ℕ → List ℕ → List ℕ
written m counts block seed seq payload = packet payload (m.padding seed seq (least_padding counts block (length payload)))

-- the packet of the payload in clear: packet_length counts, and the block has 8 bytes (RFC 4253 section 6)
abbrev pub written_clear : SuiteData → List ℕ → ℕ → List ℕ → List ℕ
written_clear m seed seq payload = written m true 8 seed seq payload

-- the packet of the payload in the mode of the keys' cipher and MAC, sealed (RFC 4253 section 6)
abbrev pub written_sealed : SuiteData → KeysData → List ℕ → ℕ → List ℕ → List ℕ
written_sealed m keys seed seq payload = m.seal keys seq (written m (m.counts_length keys.cipher keys.mac) (m.block keys.cipher) seed seq payload)

-- how many bytes the sealed packet of the payload has with its tag; the length of the payload and the names in the keys decide it
unfoldable pub sealed_size : SuiteData → KeysData → List ℕ → ℕ
sealed_size m keys payload = 5 + length payload + least_padding (m.counts_length keys.cipher keys.mac) (m.block keys.cipher) (length payload) + m.tag_len keys.cipher keys.mac

-- the keys of the next packet, after that of this payload (RFC 4253 section 6.3)
abbrev pub after_sealed : SuiteData → KeysData → List ℕ → KeysData
after_sealed m keys payload = advanced m keys (sealed_size m keys payload)

-- the keys after the sealed packets of these payloads, one after another (RFC 4253 section 6.3)
unfoldable pub after_all : SuiteData → KeysData → List (List ℕ) → KeysData
after_all m keys [] = keys
after_all m keys (p ∷ ps) = after_all m (after_sealed m keys p) ps

-- a packet of the payload with the least padding (RFC 4253 section 6)
pub record IsWritten (counts : Bool) (block tag : ℕ) (payload bytes : List ℕ) : Type 0 where
  pub spells : IsPacket counts block tag payload bytes
  pub least : IsLeastPadding counts block (length payload) (length spells.padding)
