-- Ed25519 in numbers modulo 2^255 - 19 and modulo L, as RFC 8032 section 5.1 defines it.

use Rattle.std.proofs.Common.{ℕ, ◌+◌, ◌*◌, ◌%◌, Bool, List, [], ◌++◌}
use Rattle.std.specs.Prelude.{◌&&◌, false, nat_lt, Option, None, Some, drop, take}
use Rattle.std.specs.Str.{bytes_eq}
use Rattle.sha2.specs.Sha512.{sha512}
use Rattle.sshcurve.specs.Bits.{number_of_32}
use Rattle.sshcurve.specs.X25519Numbers.{clamped}
use Rattle.sshcurve.specs.Scalar.{encode_scalar, number_in, order}
use Rattle.sshcurve.specs.DecodingNumbers.{point_in}
use Rattle.sshcurve.specs.EdwardsNumbers.{Coordinates, added, base_numbers, bytes_of_point, multiple, opposite}

-- the secret scalar: the first half of the private key's SHA-512, clamped (RFC 8032 section 5.1.5, steps 1 and 2)
unfoldable pub secret_scalar : List ℕ → List ℕ
secret_scalar private_key = clamped (take 32 (sha512 private_key))

-- the prefix: the second half of the private key's SHA-512 (RFC 8032 section 5.1.6, step 1)
unfoldable pub prefix_of : List ℕ → List ℕ
prefix_of private_key = drop 32 (sha512 private_key)

-- SHA-512 of three parts, one after the other (RFC 8032 section 5.1.6, steps 2 and 4)
unfoldable pub hash_of : List ℕ → List ℕ → List ℕ → List ℕ
hash_of first second third = sha512 (first ++ second ++ third)

-- the encoding of [n]B for the number n of 32 bytes (RFC 8032 section 5.1.5, steps 3 and 4)
unfoldable pub times_base : List ℕ → List ℕ
times_base bytes = bytes_of_point (multiple bytes base_numbers)

-- the public key: the encoding of [s]B, for the secret scalar s (RFC 8032 section 5.1.5)
unfoldable pub key_of : List ℕ → List ℕ
key_of private_key = times_base (secret_scalar private_key)

-- The signature: the encoding of R = [r]B, and S = r + k s modulo L, for the secret scalar s. r is the hash of the prefix and the input, k
-- that of R, the public key and the input (RFC 8032 section 5.1.6).
unfoldable pub signed : List ℕ → List ℕ → List ℕ
signed private_key input =
    let r = number_in (hash_of (prefix_of private_key) input []) % order in
    let point = times_base (encode_scalar r) in
    let k = number_in (hash_of point (key_of private_key) input) % order in
    point ++ encode_scalar ((number_in (secret_scalar private_key) * k + r) % order)

-- Verification with the point A that the key encodes: S is below L, and [S]B - [k]A has the encoding R. It fails without such a point (RFC
-- 8032 section 5.1.7).
unfoldable pub is_right : Option Coordinates → List ℕ → List ℕ → List ℕ → List ℕ → Bool
is_right None key input point answer = false
is_right (Some a) key input point answer =
    let k = encode_scalar (number_in (hash_of point key input) % order) in
    nat_lt (number_of_32 answer) order && bytes_eq (bytes_of_point (added (multiple answer base_numbers) (multiple k (opposite a)))) point

-- The signature is valid for the key and the input: its first 32 bytes are R, those behind them S. The equation is [S]B = R + [k]A, without
-- the cofactor 8, as the RFC permits (RFC 8032 section 5.1.7).
unfoldable pub is_signed : List ℕ → List ℕ → List ℕ → Bool
is_signed key input signature = is_right (point_in key) key input (take 32 signature) (drop 32 signature)
