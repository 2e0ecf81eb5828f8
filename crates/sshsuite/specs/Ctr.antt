-- aes128-ctr and aes256-ctr with HMACs as the code has them (RFC 4344 section 4, RFC 6668, OpenSSH PROTOCOL section 1.5).

use Rattle.std.specs.Prelude.{ℕ, Bool, ◌+◌, ◌-◌, ◌/◌, ◌%◌, ◌^◌, ◌==◌, ◌||◌, codes, nat_lt, if◌then◌else◌, List, [], ◌++◌, length, take, drop, replicate, Option, None, Some}
use Rattle.std.specs.Int.{w128, to_be_bytes}
use Rattle.std.specs.Str.{bytes_eq}
use Rattle.sshwire.specs.Types.{uint32}
use Rattle.sshpacket.specs.KeysData.{KeysData}
use Rattle.sshpacket.specs.Packet.{number}
use Rattle.sshsuite.specs.Aes.{number_at}
use Rattle.sshsuite.specs.CipherNames.{is_short_key, keys_by}
use Rattle.sshsuite.specs.CounterMode.{stream_to}
use Rattle.sshsuite.specs.Hmac.{hmac_sha256, hmac_sha512}
use Rattle.sshwire.specs.Masks.{xored}
use Rattle.sshsuite.specs.Sealing.{whole_key}

-- a MAC that covers what is sealed, and not what is clear
unfoldable pub covers_sealed : List ℕ → Bool
covers_sealed mac = bytes_eq mac (codes "hmac-sha2-256-etm@openssh.com") || bytes_eq mac (codes "hmac-sha2-512-etm@openssh.com")

-- a MAC by SHA-512; every other one is by SHA-256
unfoldable pub is_by_sha512 : List ℕ → Bool
is_by_sha512 mac = bytes_eq mac (codes "hmac-sha2-512") || bytes_eq mac (codes "hmac-sha2-512-etm@openssh.com")

-- how many bytes a tag has, and the key of a MAC
abbrev pub tag_length : List ℕ → ℕ
tag_length mac = if is_by_sha512 mac then 64 else 32

-- how many bytes at the front of a packet stay in clear: its length, where the tag covers what is sealed
abbrev pub clear_length : List ℕ → ℕ
clear_length mac = if covers_sealed mac then 4 else 0

-- the counter of a packet's first block: the vector as a number
abbrev pub counter_of : List ℕ → ℕ
counter_of iv = number_at (whole_key iv) 0

-- the mask of a packet of so many bytes
unfoldable pub mask : KeysData → ℕ → List ℕ
mask keys len =
    replicate (clear_length keys.mac) 0
    ++ stream_to (keys_by (is_short_key keys.cipher) keys.enc) (counter_of keys.iv) ((len - clear_length keys.mac + 15) / 16)

-- a packet, in clear or not, the other way
unfoldable pub crossed : KeysData → List ℕ → List ℕ
crossed keys packet = xored packet (mask keys (length packet))

-- the tag by these keys of what it covers, with the packet's number before it
unfoldable pub tag_over : KeysData → ℕ → List ℕ → List ℕ
tag_over keys seq covered =
    if is_by_sha512 keys.mac then hmac_sha512 keys.mac_key (uint32 seq ++ covered) else hmac_sha256 keys.mac_key (uint32 seq ++ covered)

-- the tag of a packet, which is so in clear, and so sealed
abbrev pub tag : KeysData → ℕ → List ℕ → List ℕ → List ℕ
tag keys seq clear sealed = tag_over keys seq (if covers_sealed keys.mac then sealed else clear)

-- the sealed packet with its tag
unfoldable pub seal : KeysData → ℕ → List ℕ → List ℕ
seal keys seq packet = if nat_lt (length packet) 4 then [] else (crossed keys packet ++ tag keys seq packet (crossed keys packet))

-- the length of a sealed packet
unfoldable pub head : KeysData → List ℕ → ℕ
head keys first = number (xored first (mask keys 4))

-- the packet, where the tag is its own
unfoldable pub checked : KeysData → ℕ → List ℕ → List ℕ → Option (List ℕ)
checked keys seq sealed found = if bytes_eq found (tag keys seq (crossed keys sealed) sealed) then Some (crossed keys sealed) else None

-- a sealed packet has a length field and a tag at least; the tag stands last
unfoldable pub unseal : KeysData → ℕ → List ℕ → Option (List ℕ)
unseal keys seq sealed =
    let before = length sealed - tag_length keys.mac in
    if nat_lt (length sealed) (4 + tag_length keys.mac) then None else checked keys seq (take before sealed) (drop before sealed)

-- the vector after a packet of so many bytes with its tag: its counter goes on by the packet's blocks
unfoldable pub next_iv : KeysData → ℕ → List ℕ
next_iv keys len =
    if length keys.iv == 16 then to_be_bytes w128 ((counter_of keys.iv + (len - (tag_length keys.mac + clear_length keys.mac)) / 16) % 2 ^ 128)
    else keys.iv
