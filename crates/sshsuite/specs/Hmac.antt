-- HMAC (RFC 2104).

use Rattle.std.specs.Prelude.{ℕ, ◌-◌, nat_lt, if◌then◌else◌, List, ◌++◌, length, replicate}
use Rattle.sha2.specs.Sha256.{sha256}
use Rattle.sha2.specs.Sha512.{sha512}
use Rattle.sshwire.specs.Masks.{xored}

-- bytes with zeros after them, up to a block
abbrev pub filled : ℕ → List ℕ → List ℕ
filled block bytes = bytes ++ replicate (block - length bytes) 0

-- a key as a block; one that is longer is hashed first
unfoldable pub block_key : (List ℕ → List ℕ) → ℕ → List ℕ → List ℕ
block_key hash block key = if nat_lt block (length key) then filled block (hash key) else filled block key

-- the hash of the key's block XOR 5c in each place and of a hash: that of this block XOR 36 in each place and of the input
unfoldable pub hmac : (List ℕ → List ℕ) → ℕ → List ℕ → List ℕ → List ℕ
hmac hash block key input =
    hash (xored (block_key hash block key) (replicate block 0x5c) ++ hash (xored (block_key hash block key) (replicate block 0x36) ++ input))

-- HMAC by SHA-256, whose blocks have 64 bytes (RFC 2104, RFC 6668)
abbrev pub hmac_sha256 : List ℕ → List ℕ → List ℕ
hmac_sha256 key input = hmac sha256 64 key input

-- HMAC by SHA-512, whose blocks have 128 bytes (RFC 2104, RFC 6668)
abbrev pub hmac_sha512 : List ℕ → List ℕ → List ℕ
hmac_sha512 key input = hmac sha512 128 key input
