-- The binary packet of RFC 4253 section 6, in clear and without its tag.

use Rattle.std.specs.Prelude.{◌≡◌, Bool, true, false, ℕ, ◌+◌, ◌-◌, ◌%◌, ◌<◌, ◌≤◌, max, nat_lt, if◌then◌else◌, List, ◌∷◌, ◌++◌, length, Result, Ok, Err}
use Rattle.sshwire.specs.declared.fault.WireFault.{WireFault}
use Rattle.sshwire.specs.Types.{uint32}
use Rattle.sshwire.specs.TypeReadings.{uint32_at}
use Rattle.sshpacket.specs.declared.limits.TheConstants.{PACKET_LIMIT}

-- the length field of a packet: packet_length, a uint32
unfoldable pub length_field : ℕ → List ℕ
length_field n = uint32 n

-- the number that a uint32 was read as
abbrev pub number_read : Result (ℕ × List ℕ) WireFault → ℕ
number_read (Ok (n, rest)) = n
number_read (Err e) = 0

-- the number in the first four bytes (RFC 4251 section 5)
unfoldable pub number : List ℕ → ℕ
number bytes = number_read (uint32_at bytes)

-- what packets are multiples of: 'the cipher block size or 8, whichever is larger'
abbrev pub alignment : ℕ → ℕ
alignment block = max 8 block

-- how many bytes of packet_length count towards the multiple: all four (RFC 4253 section 6), or none where the cipher or the
-- MAC leaves it out (RFC 5647 section 7.2; chacha20-poly1305@openssh.com and the MACs -etm of OpenSSH)
abbrev pub counted : Bool → ℕ
counted true = 4
counted false = 0

-- A packet_length that is taken, where it counts or not, at this block and tag. What counts is a multiple and has at least 16 bytes, or 8
-- without packet_length. With the tag there are at most 35000 in all: section 6.1 asks that these are taken; that more is refused is
-- profile.
pub record IsLength (counts : Bool) (block tag n : ℕ) : Type 0 where
  pub multiple : (counted counts + n) % alignment block ≡ 0
  pub least : 8 + counted counts ≤ n
  pub limit : 4 + n + tag ≤ PACKET_LIMIT

-- packet_length, padding_length, payload and padding
abbrev pub packet : List ℕ → List ℕ → List ℕ
packet payload padding = length_field (1 + length payload + length padding) ++ (length padding ∷ (payload ++ padding))

-- the bytes are a packet of the payload: 4 to 255 bytes of padding, and the length taken (that the payload isn't empty is profile)
pub record IsPacket (counts : Bool) (block tag : ℕ) (payload bytes : List ℕ) : Type 0 where
  pub padding : List ℕ
  pub bytes_are : bytes ≡ packet payload padding
  pub fits : IsLength counts block tag (1 + length payload + length padding)
  pub padding_low : 4 ≤ length padding
  pub padding_high : length padding < 256
  pub not_empty : 0 < length payload

-- so many bytes of padding are allowed after a payload of this length
pub record IsPadding (counts : Bool) (block len padding : ℕ) : Type 0 where
  pub low : 4 ≤ padding
  pub multiple : (counted counts + (1 + len + padding)) % alignment block ≡ 0
  pub enough : 8 + counted counts ≤ 1 + len + padding

-- so many bytes of padding are allowed, and no fewer are (profile)
pub record IsLeastPadding (counts : Bool) (block len padding : ℕ) : Type 0 where
  pub allowed : IsPadding counts block len padding
  pub least : (other : ℕ) → IsPadding counts block len other → padding ≤ other

-- how many are missing to a multiple
abbrev pub to_multiple : ℕ → ℕ → ℕ
to_multiple u n = (u - n % u) % u

-- what counts of a packet with four bytes of padding
abbrev pub with_four : Bool → ℕ → ℕ
with_four counts len = counted counts + 5 + len

-- the least padding, in closed form: from four bytes on to the next multiple, and one block more where packet_length would be too
-- low, which happens only where it counts
abbrev pub least_padding : Bool → ℕ → ℕ → ℕ
least_padding counts block len =
    if nat_lt (5 + len + to_multiple (alignment block) (with_four counts len)) (8 + counted counts) then
    4 + to_multiple (alignment block) (with_four counts len) + alignment block
    else 4 + to_multiple (alignment block) (with_four counts len)
