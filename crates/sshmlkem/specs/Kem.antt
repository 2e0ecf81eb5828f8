-- ML-KEM-768 (FIPS 203 sections 6 and 7).

use Rattle.std.specs.Prelude.{ℕ, ◌==◌, ◌&&◌, Bool, List, ◌++◌, drop, length, take, if◌then◌else◌}
use Rattle.std.specs.Str.{bytes_eq}
use Rattle.sshkeccak.specs.Sponge.{sha3_256, sha3_512, shake256_32}
use Rattle.sshmlkem.specs.Codec.{are_reduced}
use Rattle.sshmlkem.specs.Pke.{decrypted, encrypted, pke_keys}
use Rattle.sshmlkem.specs.declared.kem.Encapsulated.{Encapsulated}
use Rattle.sshmlkem.specs.declared.kem.KemKeys.{KemKeys}

-- ML-KEM.KeyGen_internal (algorithm 16)
unfoldable pub keys_of : List ℕ → List ℕ → KemKeys
keys_of d z =
    let keys = pke_keys d in
    record {
      encapsulation_key = keys.encryption_key;
      decapsulation_key = (keys.decryption_key ++ keys.encryption_key) ++ (sha3_256 keys.encryption_key ++ z);
    }

-- the checks of an encapsulation key: its type and the modulus check (section 7.2)
unfoldable pub is_key : List ℕ → Bool
is_key bytes = length bytes == 1184 && are_reduced (take 1152 bytes)

-- ML-KEM.Encaps_internal (algorithm 17)
unfoldable pub encapsulated : List ℕ → List ℕ → Encapsulated
encapsulated key message =
    let both = sha3_512 (message ++ sha3_256 key) in
    record { secret = take 32 both; ciphertext = encrypted key message (drop 32 both) }

-- ML-KEM.Decaps_internal (algorithm 18). Where encrypting the message again gives another ciphertext, the secret is J of z and the ciphertext:
-- implicit rejection (lines 9 and 10)
unfoldable pub decapsulated : List ℕ → List ℕ → List ℕ
decapsulated key ciphertext =
    let encryption_key = take 1184 (drop 1152 key) in
    let digest = take 32 (drop 1184 (drop 1152 key)) in
    let z = drop 32 (drop 1184 (drop 1152 key)) in
    let message = decrypted (take 1152 key) ciphertext in
    let both = sha3_512 (message ++ digest) in
    if bytes_eq ciphertext (encrypted encryption_key message (drop 32 both)) then take 32 both else shake256_32 (z ++ ciphertext)
