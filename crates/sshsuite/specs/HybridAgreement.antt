-- When both ends of mlkem768x25519-sha256 come to one secret.

use Rattle.std.specs.Prelude.{◌≡◌, ℕ, List}
use Rattle.sshmlkem.specs.Kem.{encapsulated, keys_of}
use Rattle.sshmlkem.specs.Noise.{KeepsBits, noise_between}
use Rattle.sshmlkem.specs.Pke.{decrypted, pke_keys}
use Rattle.sshmlkem.specs.declared.kem.Encapsulated.{Encapsulated}
use Rattle.sshmlkem.specs.declared.kem.KemKeys.{KemKeys}
use Rattle.sshsuite.specs.Curve25519.{base_point, x25519}
use Rattle.sshsuite.specs.Expansion.{expanded}
use Rattle.sshsuite.specs.declared.expansion.Purpose.TheVariants.{HybridClient, HybridServer}

-- the keys of a client with these random bytes (draft-ietf-sshm-mlkem-hybrid-kex)
abbrev pub client_keys : List ℕ → KemKeys
client_keys client = keys_of (expanded client HybridClient 0) (expanded client HybridClient 1)

-- what a server with these random bytes encapsulates by the key of a client with those (draft-ietf-sshm-mlkem-hybrid-kex)
abbrev pub made_for : List ℕ → List ℕ → Encapsulated
made_for client server = encapsulated (client_keys client).encapsulation_key (expanded server HybridServer 0)

-- the client decrypts the message that the server has encapsulated (FIPS 203 table 1)
abbrev pub Decrypts : List ℕ → List ℕ → Type 0
Decrypts client server = decrypted (pke_keys (expanded client HybridClient 0)).decryption_key (made_for client server).ciphertext ≡ expanded server HybridServer 0

-- the noise of ML-KEM between a client's key and a server's message: what decryption adds to the message's polynomial (FIPS 203 sections 5.2
-- and 5.3)
abbrev pub hybrid_noise : List ℕ → List ℕ → List ℕ
hybrid_noise client server = noise_between (expanded client HybridClient 0) (expanded server HybridServer 0)

-- the noise leaves each bit of the message as it is
abbrev pub KeepsMessage : List ℕ → List ℕ → Type 0
KeepsMessage client server = KeepsBits (expanded server HybridServer 0) (hybrid_noise client server)

-- each scalar times the other's point is one point (RFC 7748 section 6.1)
abbrev pub Meets : List ℕ → List ℕ → Type 0
Meets client server =
    x25519 (expanded client HybridClient 2) (x25519 (expanded server HybridServer 2) base_point)
    ≡ x25519 (expanded server HybridServer 2) (x25519 (expanded client HybridClient 2) base_point)
