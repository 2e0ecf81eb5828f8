-- What the hybrid answers is bytes, of a length that fits.

use Rattle.std.proofs.Common.{◌≡◌, ℕ, Bool, true, false, List, ◌++◌, length, take, ap, cond, eqb}
use Rattle.std.specs.Prelude.{◌&&◌, replicate, Option, None, Some, option_map}
use Rattle.std.specs.Str.{bytes_eq}
use Rattle.sha2.proofs.Facts256.{length-sha256}
use Rattle.sha2.specs.Sha256.{sha256}
use Rattle.sshmlkem.specs.Kem.{encapsulated, is_key}
use Rattle.sshmlkem.specs.KemBytes.{AreBytes, both_parts, ciphertext_bytes, key_bytes}
use Rattle.sshpacket.specs.Suite.{ResponseData}
use Rattle.sshsuite.specs.Curve25519.{x25519}
use Rattle.sshsuite.specs.HashBytes.{bytes_sha256}
use Rattle.sshsuite.specs.Hybrid.{both_secrets, hybrid_respond, hybrid_share, hybrid_shared, response_of}
use Rattle.sshsuite.specs.CurveBytes.{bytes_x25519, length_x25519}

curve_bytes : (scalar point : List ℕ) → AreBytes 32 (x25519 scalar point)
curve_bytes scalar point = record { long = length_x25519 scalar point; bytes = bytes_x25519 scalar point }

-- a client's share is 1216 bytes
pub share_is : (random : List ℕ) → AreBytes 1216 (hybrid_share random)
unfolding hybrid_share
share_is random = both_parts 1184 32 _ _ (key_bytes _ _) (curve_bytes _ _)

hashed : (input : List ℕ) → AreBytes 32 (sha256 input)
hashed input = record { long = length-sha256 input; bytes = bytes_sha256 input }

some_of : (b : Bool) (xs body : List ℕ) → cond b None (Some xs) ≡ Some body → xs ≡ body
some_of true xs body e = cc
some_of false xs body e = cc

are_by : (n : ℕ) (xs ys : List ℕ) → xs ≡ ys → AreBytes n xs → AreBytes n ys
are_by n xs ys e h = rw e at h

secret_is : (secret classical body : List ℕ) → both_secrets secret classical ≡ Some body → AreBytes 32 body
unfolding both_secrets
secret_is secret classical body e =
    are_by 32 (sha256 (secret ++ classical)) body (some_of (bytes_eq classical (replicate 32 0)) (sha256 (secret ++ classical)) body e) (hashed (secret ++ classical))

pub guarded : {A : Type 0} (b : Bool) (o : Option A) (y : A) → cond b o None ≡ Some y → o ≡ Some y
guarded true o y e = e
guarded false o y e = cc

-- a shared secret is 32 bytes
pub shared_is : (random peer body : List ℕ) → hybrid_shared random peer ≡ Some body → AreBytes 32 body
unfolding hybrid_shared
shared_is random peer body e = secret_is _ _ body (guarded (eqb (length peer) 1120) _ body e)

pub some_response : (r other : ResponseData) → ◌≡◌ {A = Option ResponseData} (Some r) (Some other) → r ≡ other
some_response r other e = cc

pub response_parts : (own : List ℕ) (o : Option (List ℕ)) (r : ResponseData) → option_map (response_of own) o ≡ Some r → (own ≡ r.share) × (o ≡ Some r.shared)
unfolding response_of
response_parts own None r e = cc
response_parts own (Some body) r e =
    let is = some_response _ r e in
    (ap (λ (x : ResponseData). x.share) is, ap (λ (x : ResponseData). Some x.shared) is)

-- a server's share is 1120 bytes, and its shared secret 32
pub response_is : (random peer : List ℕ) (r : ResponseData) → hybrid_respond random peer ≡ Some r → AreBytes 1120 r.share × AreBytes 32 r.shared
unfolding hybrid_respond encapsulated
response_is random peer r e =
    let parts = response_parts _ _ r (guarded (eqb (length peer) 1216 && is_key (take 1184 peer)) _ r e) in (
      are_by 1120 _ r.share parts.0 (both_parts 1088 32 _ _ (ciphertext_bytes _ _ _) (curve_bytes _ _)),
      secret_is _ _ r.shared parts.1,
    )
