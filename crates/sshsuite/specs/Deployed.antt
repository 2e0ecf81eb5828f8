-- What the suite answers, by limbs and words: the code written again. `DeployedNumbers.antt` has what the RFCs say, in numbers, and the laws of
-- the crate say that both are the same.

use Rattle.std.specs.Prelude.{ℕ, ◌==◌, ◌&&◌, ◌||◌, codes, true, false, if◌then◌else◌, Bool, List, ◌++◌, length, drop, replicate, Option, None, Some, option_map}
use Rattle.std.specs.Str.{bytes_eq}
use Rattle.sha2.specs.Sha256.{sha256}
use Rattle.sshwire.specs.Types.{string}
use Rattle.sshpacket.specs.declared.suite.Need.TheVariants.{Encryption, Signature}
use Rattle.sshwire.specs.declared.share_form.ShareForm.TheVariants.{Hybrid, Mpint, OctetString}
use Rattle.sshpacket.specs.declared.suite.KeyLens.{KeyLens}
use Rattle.sshpacket.specs.KeysElsewhere.{public_part}
use Rattle.sshpacket.specs.Packet.{number}
use Rattle.sshpacket.specs.Suite.{ResponseData, SuiteData}
use Rattle.sshsuite.specs.Curve25519.{base_point, x25519}
use Rattle.sshsuite.specs.Expansion.{expanded}
use Rattle.sshsuite.specs.declared.expansion.Purpose.TheVariants.{Curve25519, Group14}
use Rattle.sshsuite.specs.CipherNames.{is_ctr, is_gcm, is_short_key}
use Rattle.sshsuite.specs.Ctr.{covers_sealed, tag_length}
use Rattle.sshsuite.specs.Ctr as ctr
use Rattle.sshsuite.specs.Gcm as gcm
use Rattle.sshsuite.specs.Group14.{group14_share, group14_shared}
use Rattle.sshsuite.specs.Hybrid.{hybrid_respond, hybrid_share, hybrid_shared}
use Rattle.sshsuite.specs.MpintBody.{mpint_body}
use Rattle.sshsuite.specs.Rsa.{is_rsa, rsa_verify}
use Rattle.sshsuite.specs.Sealing.{head, seal, unseal}
use Rattle.sshsuite.specs.Ed25519.{is_signature, public_key, signature}
use Rattle.sshsuite.specs.KeyStream.{stream}

-- a name of curve25519-sha256 (RFC 8731 section 1)
unfoldable pub is_curve25519 : List ℕ → Bool
is_curve25519 kex = bytes_eq kex (codes "curve25519-sha256") || bytes_eq kex (codes "curve25519-sha256@libssh.org")

-- the name of diffie-hellman-group14-sha256 (RFC 8268 section 3)
unfoldable pub is_group14 : List ℕ → Bool
is_group14 kex = bytes_eq kex (codes "diffie-hellman-group14-sha256")

-- the name of mlkem768x25519-sha256
unfoldable pub is_hybrid : List ℕ → Bool
is_hybrid kex = bytes_eq kex (codes "mlkem768x25519-sha256")

-- the name of ssh-ed25519 (RFC 8709)
abbrev pub ed25519 : List ℕ
ed25519 = codes "ssh-ed25519"

-- whether this is the name of ssh-ed25519
unfoldable pub is_ed25519 : List ℕ → Bool
is_ed25519 alg = bytes_eq alg ed25519

-- how many bytes a key of AES has
abbrev pub aes_length : List ℕ → ℕ
aes_length cipher = if is_short_key cipher then 16 else 32

-- how many bytes the initialisation vector, the encryption key and the integrity key of these algorithms have
abbrev pub key_lens : List ℕ → List ℕ → KeyLens
key_lens cipher mac =
    if is_ctr cipher then record { iv = 16; enc = aes_length cipher; mac = tag_length mac }
    else if is_gcm cipher then record { iv = 12; enc = aes_length cipher; mac = 0 }
    else record { iv = 0; enc = 64; mac = 0 }

-- the bytes of the scalar of curve25519-sha256, drawn of the 32 random bytes (profile)
abbrev pub scalar_of : List ℕ → List ℕ
scalar_of random = expanded random Curve25519 0

-- the bytes of the exponent of diffie-hellman-group14-sha256, drawn of the 32 random bytes (profile)
abbrev pub exponent_of : List ℕ → List ℕ
exponent_of random = expanded random Group14 0

-- the share of 32 random bytes
unfoldable pub share : List ℕ → List ℕ → List ℕ
share kex random =
    if is_group14 kex then group14_share (exponent_of random) else if is_hybrid kex then hybrid_share random else x25519 (scalar_of random) base_point

-- the number that is shared, where it isn't zero
unfoldable pub shared_secret : List ℕ → Option (List ℕ)
shared_secret secret = if bytes_eq secret (replicate 32 0) then None else Some (mpint_body secret)

-- what 32 random bytes and the peer's share make, by a method that is known
unfoldable pub shared : List ℕ → List ℕ → List ℕ → Option (List ℕ)
shared kex random peer =
    if is_group14 kex then group14_shared (exponent_of random) peer
    else if is_hybrid kex then hybrid_shared random peer
    else if is_curve25519 kex && (length peer == 32) then shared_secret (x25519 (scalar_of random) peer)
    else None

-- a response of this own share and this shared secret
abbrev pub response_with : List ℕ → List ℕ → ResponseData
response_with own body = record { share = own; shared = body }

-- what the server answers to a client's share: its own share and the shared secret; in the hybrid the share depends on the client's (RFC
-- 4253 section 8, draft-ietf-sshm-mlkem-hybrid-kex)
unfoldable pub respond : List ℕ → List ℕ → List ℕ → Option ResponseData
respond kex random peer = if is_hybrid kex then hybrid_respond random peer else option_map (response_with (share kex random)) (shared kex random peer)

-- the name of the algorithm and the bytes, each as a string (RFC 8709 sections 4 and 6)
unfoldable pub wrapped : List ℕ → List ℕ
wrapped bytes = string ed25519 ++ string bytes

-- whether blob and signature have the name of ssh-ed25519 in front, and the signature is valid (RFC 8709 sections 4 and 6)
unfoldable pub is_verified : List ℕ → List ℕ → List ℕ → Bool
is_verified blob input found =
    bytes_eq (wrapped (drop 19 blob)) blob && (bytes_eq (wrapped (drop 19 found)) found && is_signature (drop 19 blob) input (drop 19 found))

-- whether the signature of the input is valid, by the algorithm: RSA (RFC 8332) or Ed25519 (RFC 8709); by any other it isn't
unfoldable pub verify : List ℕ → List ℕ → List ℕ → List ℕ → Bool
verify alg blob input found =
    if is_rsa alg then rsa_verify alg blob input found
    else if is_ed25519 alg && (length blob == 51) && (length found == 83) then is_verified blob input found
    else false

-- A private key of the algorithm by which the suite signs, which has 32 bytes (RFC 8032 section 5.1.5); by RSA it only verifies.
unfoldable pub is_held : List ℕ → List ℕ → Bool
is_held alg secret = is_ed25519 alg && (length secret == 32)

-- the answers of the suite; where it doesn't hold a private key, the public key stands in its place
abbrev pub deployed : SuiteData
deployed = record {
  need = λ kex. if is_curve25519 kex || is_group14 kex || is_hybrid kex then Signature else Encryption;
  can = λ alg. record { signature = is_ed25519 alg || is_rsa alg; encryption = false };
  block = λ cipher. if is_ctr cipher || is_gcm cipher then 16 else 8;
  tag_len = λ cipher mac. if is_ctr cipher then tag_length mac else 16;
  counts_length = λ cipher mac. if is_ctr cipher then (if covers_sealed mac then false else true) else false;
  key_lens = λ cipher mac. key_lens cipher mac;
  seal = λ keys seq packet.
      if is_ctr keys.cipher then ctr.seal keys seq packet
      else if is_gcm keys.cipher then gcm.seal (is_short_key keys.cipher) keys.iv keys.enc packet
      else seal keys.enc seq packet;
  head = λ keys seq first. if is_ctr keys.cipher then ctr.head keys first else if is_gcm keys.cipher then number first else head keys.enc seq first;
  unseal = λ keys seq sealed.
      if is_ctr keys.cipher then ctr.unseal keys seq sealed
      else if is_gcm keys.cipher then gcm.unseal (is_short_key keys.cipher) keys.iv keys.enc sealed
      else unseal keys.enc seq sealed;
  next_iv = λ keys len. if is_ctr keys.cipher then ctr.next_iv keys len else if is_gcm keys.cipher then gcm.next_iv keys.iv else keys.iv;
  padding = λ seed seq len. stream (sha256 seed) seq 0 len;
  share_form = λ kex. if is_group14 kex then Mpint else if is_hybrid kex then Hybrid else OctetString;
  share = λ kex random. share kex random;
  shared = λ kex random peer. shared kex random peer;
  respond = λ kex random peer. respond kex random peer;
  digest = λ kex input. sha256 input;
  blob = λ alg secret. if is_held alg secret then wrapped (public_key secret) else public_part secret;
  holds = λ alg secret. is_held alg secret;
  sign = λ alg secret input. wrapped (signature secret input);
  verify = λ alg blob input found. verify alg blob input found;
}
