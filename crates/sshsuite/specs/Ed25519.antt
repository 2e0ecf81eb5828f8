-- Ed25519 (RFC 8032 section 5.1).

use Rattle.std.specs.Prelude.{ℕ, ◌+◌, ◌*◌, ◌%◌, ◌&&◌, nat_lt, Bool, false, List, [], ◌++◌, take, drop, Option, None, Some}
use Rattle.std.specs.Str.{bytes_eq}
use Rattle.sshcurve.specs.Bits.{number_of_32}
use Rattle.sshcurve.specs.Ed25519Numbers.{hash_of, prefix_of, secret_scalar}
use Rattle.sshsuite.specs.Edwards25519.{add_points, decode_point, encode_point, multiply, multiply_base, negate}
use Rattle.sshcurve.specs.Scalar.{encode_scalar, number_in, order}
use Rattle.sshsuite.specs.declared.edwards25519.Point.{Point}

-- the public key: the bytes of the secret scalar times the base point, computed by limbs (RFC 8032 section 5.1.5)
unfoldable pub public_key : List ℕ → List ℕ
public_key private_key = encode_point (multiply_base (secret_scalar private_key))

-- R and s
unfoldable pub signature : List ℕ → List ℕ → List ℕ
signature private_key input =
    let nonce = number_in (hash_of (prefix_of private_key) input []) % order in
    let point = encode_point (multiply_base (encode_scalar nonce)) in
    let challenge = number_in (hash_of point (public_key private_key) input) % order in
    point ++ encode_scalar ((number_in (secret_scalar private_key) * challenge + nonce) % order)

-- R and s are those of the input by the key of this point, if there is one
unfoldable pub verifies : Option Point → List ℕ → List ℕ → List ℕ → List ℕ → Bool
verifies None key input point answer = false
verifies (Some p) key input point answer =
    let challenge = encode_scalar (number_in (hash_of point key input) % order) in
    nat_lt (number_of_32 answer) order && bytes_eq (encode_point (add_points (multiply_base answer) (multiply challenge (negate p)))) point

-- the signature of the input by this key is valid, computed by limbs (RFC 8032 section 5.1.7)
unfoldable pub is_signature : List ℕ → List ℕ → List ℕ → Bool
is_signature key input signature = verifies (decode_point key) key input (take 32 signature) (drop 32 signature)
