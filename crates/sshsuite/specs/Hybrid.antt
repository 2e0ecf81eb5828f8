-- mlkem768x25519-sha256 (draft-ietf-sshm-mlkem-hybrid-kex).

use Rattle.std.specs.Prelude.{ℕ, ◌==◌, ◌&&◌, if◌then◌else◌, List, ◌++◌, length, drop, take, replicate, Option, None, Some, option_map}
use Rattle.std.specs.Str.{bytes_eq}
use Rattle.sha2.specs.Sha256.{sha256}
use Rattle.sshmlkem.specs.Kem.{decapsulated, encapsulated, is_key, keys_of}
use Rattle.sshpacket.specs.Suite.{ResponseData}
use Rattle.sshsuite.specs.Curve25519.{base_point, x25519}
use Rattle.sshsuite.specs.Expansion.{expanded}
use Rattle.sshsuite.specs.declared.expansion.Purpose.TheVariants.{HybridClient, HybridServer}

-- the client's share: its encapsulation key, and after it its share of X25519
unfoldable pub hybrid_share : List ℕ → List ℕ
hybrid_share random = (keys_of (expanded random HybridClient 0) (expanded random HybridClient 1)).encapsulation_key ++ x25519 (expanded random HybridClient 2) base_point

-- SHA-256 of the secret of ML-KEM and that of X25519, one after the other; none where the second is zero
unfoldable pub both_secrets : List ℕ → List ℕ → Option (List ℕ)
both_secrets secret classical = if bytes_eq classical (replicate 32 0) then None else Some (sha256 (secret ++ classical))

-- the client's shared secret, of a ciphertext and a share of X25519
unfoldable pub hybrid_shared : List ℕ → List ℕ → Option (List ℕ)
hybrid_shared random peer =
    if length peer == 1120 then both_secrets (decapsulated (keys_of (expanded random HybridClient 0) (expanded random HybridClient 1)).decapsulation_key (take 1088 peer)) (x25519 (expanded random HybridClient 2) (drop 1088 peer))
    else None

-- a response of this own share and this shared secret
unfoldable pub response_of : List ℕ → List ℕ → ResponseData
response_of own body = record { share = own; shared = body }

-- the server's share, a ciphertext and a share of X25519, and its shared secret
unfoldable pub hybrid_respond : List ℕ → List ℕ → Option ResponseData
hybrid_respond random peer =
    if length peer == 1216 && is_key (take 1184 peer) then (
    let made = encapsulated (take 1184 peer) (expanded random HybridServer 0) in
    let scalar = expanded random HybridServer 2 in
    option_map (response_of (made.ciphertext ++ x25519 scalar base_point)) (both_secrets made.secret (x25519 scalar (drop 1184 peer)))
    )
    else None
