-- aes128-gcm@openssh.com and aes256-gcm@openssh.com as the code has them.

use Rattle.std.specs.Prelude.{ℕ, Bool, ◌+◌, ◌-◌, ◌*◌, ◌/◌, ◌%◌, ◌^◌, ◌==◌, nat_lt, if◌then◌else◌, List, [], ◌∷◌, ◌++◌, length, take, drop, replicate, bit_xor, Option, None, Some}
use Rattle.std.specs.Int.{w128, to_be_bytes}
use Rattle.std.specs.Str.{bytes_eq}
use Rattle.sshsuite.specs.Aes.{cipher, number_at}
use Rattle.sshsuite.specs.CipherNames.{keys_by}
use Rattle.sshsuite.specs.CounterMode.{stream_number, stream_to}
use Rattle.sshsuite.specs.Ghash.{ghash}
use Rattle.sshwire.specs.Masks.{xored}
use Rattle.sshsuite.specs.Sealing.{whole_key}

-- the counter block 0 of a packet: the 12 bytes of the vector, and 4 of the counter
unfoldable pub first_counter : List ℕ → ℕ
first_counter iv = let n = number_at (whole_key iv) 0 in n - n % 2 ^ 32

-- the first eight blocks that are encrypted: zeros, counter block 1, and six of the key stream
unfoldable pub first_eight : List ℕ → ℕ → List ℕ
first_eight keys counter =
    cipher keys 0 ∷ cipher keys ((counter + 1) % 2 ^ 128)
    ∷ stream_number keys ((counter + 2) % 2 ^ 128) 0 ∷ stream_number keys ((counter + 2) % 2 ^ 128) 1 ∷ stream_number keys ((counter + 2) % 2 ^ 128) 2
    ∷ stream_number keys ((counter + 2) % 2 ^ 128) 3 ∷ stream_number keys ((counter + 2) % 2 ^ 128) 4 ∷ stream_number keys ((counter + 2) % 2 ^ 128) 5 ∷ []

-- the mask of a packet of so many bytes: its length stays as it is
abbrev pub mask_by : List ℕ → ℕ → ℕ → List ℕ
mask_by keys counter len = replicate 4 0 ++ stream_to keys ((counter + 2) % 2 ^ 128) ((len - 4 + 15) / 16)

-- the mask of a packet of so many bytes, by the key and the initialisation vector
unfoldable pub mask : Bool → List ℕ → List ℕ → ℕ → List ℕ
mask short iv enc len = mask_by (keys_by short enc) (first_counter iv) len

-- a packet, in clear or not, the other way
unfoldable pub encrypted : Bool → List ℕ → List ℕ → List ℕ → List ℕ
encrypted short iv enc packet = xored packet (mask short iv enc (length packet))

-- the tag of a sealed packet, whose length is the additional data
abbrev pub tag_by : List ℕ → ℕ → List ℕ → List ℕ
tag_by keys counter sealed = to_be_bytes w128 (bit_xor (cipher keys ((counter + 1) % 2 ^ 128)) (ghash (cipher keys 0) (take 4 sealed) (drop 4 sealed)))

-- the tag of a sealed packet, by the key and the initialisation vector; packet_length is the additional data (RFC 5647 section 7.3)
unfoldable pub tag : Bool → List ℕ → List ℕ → List ℕ → List ℕ
tag short iv enc sealed = tag_by (keys_by short enc) (first_counter iv) sealed

-- the sealed packet with its tag
unfoldable pub seal : Bool → List ℕ → List ℕ → List ℕ → List ℕ
seal short iv enc packet =
    if nat_lt (length packet) 4 then [] else (encrypted short iv enc packet ++ tag short iv enc (encrypted short iv enc packet))

-- the packet, where the tag is its own
unfoldable pub checked : Bool → List ℕ → List ℕ → List ℕ → List ℕ → Option (List ℕ)
checked short iv enc covered found = if bytes_eq found (tag short iv enc covered) then Some (encrypted short iv enc covered) else None

-- a sealed packet has a length field and a tag at least; its last 16 bytes are the tag
unfoldable pub unseal : Bool → List ℕ → List ℕ → List ℕ → Option (List ℕ)
unseal short iv enc sealed =
    if nat_lt (length sealed) 20 then None
    else checked short iv enc (take (length sealed - 16) sealed) (drop (length sealed - 16) sealed)

-- the vector after this one, as a number, with four bytes of the counter: its last 8 bytes are a number, which is raised by one
unfoldable pub raised : List ℕ → ℕ
raised iv =
    let n = number_at (whole_key iv) 0 in
    n / 2 ^ 96 * 2 ^ 96 + (n / 2 ^ 32 + 1) % 2 ^ 64 * 2 ^ 32

-- the vector of the next packet, after one of 12 bytes
unfoldable pub next_iv : List ℕ → List ℕ
next_iv iv = if length iv == 12 then take 12 (to_be_bytes w128 (raised iv)) else iv
