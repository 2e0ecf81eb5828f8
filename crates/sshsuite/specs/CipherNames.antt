-- The names of the ciphers by AES, and the round keys of their keys.

use Rattle.std.specs.Prelude.{ℕ, Bool, ◌||◌, codes, if◌then◌else◌, List}
use Rattle.std.specs.Str.{bytes_eq}
use Rattle.sshsuite.specs.Aes.{round_keys, short_round_keys}
use Rattle.sshsuite.specs.Sealing.{whole_key}

-- a name of AES in Galois/Counter Mode
unfoldable pub is_gcm : List ℕ → Bool
is_gcm cipher = bytes_eq cipher (codes "aes128-gcm@openssh.com") || bytes_eq cipher (codes "aes256-gcm@openssh.com")

-- a name of AES in counter mode
unfoldable pub is_ctr : List ℕ → Bool
is_ctr cipher = bytes_eq cipher (codes "aes128-ctr") || bytes_eq cipher (codes "aes256-ctr")

-- a name of AES with keys of 16 bytes; every other one has 32
unfoldable pub is_short_key : List ℕ → Bool
is_short_key cipher = bytes_eq cipher (codes "aes128-gcm@openssh.com") || bytes_eq cipher (codes "aes128-ctr")

-- the round keys of an encryption key, of which zeros stand for what is short
unfoldable pub keys_by : Bool → List ℕ → List ℕ
keys_by short enc = if short then short_round_keys (whole_key enc) else round_keys (whole_key enc)
