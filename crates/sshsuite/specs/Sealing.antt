-- chacha20-poly1305@openssh.com as the code has it.

use Rattle.std.specs.Prelude.{ℕ, ◌-◌, nat_lt, if◌then◌else◌, List, [], ◌++◌, length, take, drop, min, replicate, Option, None, Some}
use Rattle.std.specs.Str.{bytes_eq}
use Rattle.sshpacket.specs.Packet.{number}
use Rattle.sshwire.specs.Masks.{xored}
use Rattle.sshsuite.specs.Poly1305.{tag_of}
use Rattle.sshsuite.specs.KeyStream.{stream}

-- the encryption key, of which zeros stand for what is short of 64 bytes
unfoldable pub filled_up : List ℕ → List ℕ
filled_up bytes = bytes ++ replicate (64 - length bytes) 0

-- the encryption key as 64 bytes: longer ones are cut, shorter ones filled up with zeros
unfoldable pub whole_key : List ℕ → List ℕ
whole_key enc = filled_up (take (min (length enc) 64) enc)

-- the first half of the key, for what follows packet_length
unfoldable pub payload_key : List ℕ → List ℕ
payload_key enc = take 32 (whole_key enc)

-- the second half of the key, for the four bytes of packet_length
unfoldable pub length_key : List ℕ → List ℕ
length_key enc = drop 32 (whole_key enc)

-- the mask of a packet of so many bytes with this number
unfoldable pub mask : List ℕ → ℕ → ℕ → List ℕ
mask enc seq len = stream (length_key enc) seq 0 4 ++ stream (payload_key enc) seq 1 (len - 4)

-- a packet with this number, in clear or not, the other way
unfoldable pub encrypted : List ℕ → ℕ → List ℕ → List ℕ
encrypted enc seq packet = xored packet (mask enc seq (length packet))

-- the tag of a sealed packet with this number
unfoldable pub tag : List ℕ → ℕ → List ℕ → List ℕ
tag enc seq sealed = tag_of (stream (payload_key enc) seq 0 32) sealed

-- the sealed packet with its tag
unfoldable pub seal : List ℕ → ℕ → List ℕ → List ℕ
seal enc seq packet = if nat_lt (length packet) 4 then [] else (encrypted enc seq packet ++ tag enc seq (encrypted enc seq packet))

-- the length of a sealed packet
unfoldable pub head : List ℕ → ℕ → List ℕ → ℕ
head enc seq first = number (xored first (stream (length_key enc) seq 0 4))

-- the packet, where the tag is its own
unfoldable pub checked : List ℕ → ℕ → List ℕ → List ℕ → Option (List ℕ)
checked enc seq covered found = if bytes_eq found (tag enc seq covered) then Some (encrypted enc seq covered) else None

-- a sealed packet has a length field and a tag at least; its last 16 bytes are the tag
unfoldable pub unseal : List ℕ → ℕ → List ℕ → Option (List ℕ)
unseal enc seq sealed =
    if nat_lt (length sealed) 20 then None
    else checked enc seq (take (length sealed - 16) sealed) (drop (length sealed - 16) sealed)
