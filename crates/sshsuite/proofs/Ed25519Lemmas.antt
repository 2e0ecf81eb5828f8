-- The code computes Ed25519 in numbers.

use Rattle.std.proofs.Common.{◌≡◌, ℕ, ◌+◌, ◌*◌, ◌%◌, List, [], ◌++◌, refl, ap, ap₂, ◌∙◌}
use Rattle.std.specs.Prelude.{◌&&◌, nat_lt, Option, None, Some, drop, take}
use Rattle.std.specs.Str.{bytes_eq}
use Rattle.sshcurve.specs.Bits.{number_of_32}
use Rattle.sshcurve.specs.Ed25519Numbers.{hash_of, prefix_of, secret_scalar, is_right, is_signed, key_of, signed, times_base}
use Rattle.sshsuite.specs.Ed25519.{is_signature, public_key, signature, verifies}
use Rattle.sshsuite.specs.Edwards25519.{decode_point, encode_point, multiply_base}
use Rattle.sshcurve.specs.Scalar.{encode_scalar, number_in, order}
use Rattle.sshsuite.specs.declared.edwards25519.Point.{Point}
use Rattle.sshcurve.proofs.SameBytesLemmas.{base_multiple_bytes, verification_bytes}
use Rattle.sshsuite.proofs.DecodingLemmas.{point_in_is}
use Rattle.sshsuite.proofs.BaseLemmas.{base_multiple_is}
use Rattle.sshsuite.proofs.EdwardsLemmas.{bytes_are, multiple_is, opposite_is, sum_is}
use Rattle.sshsuite.proofs.WordLemmas.{AreWords}
use Rattle.sshsuite.specs.PointNumbers.{AreAlike}
use Rattle.sshcurve.specs.DecodingNumbers.{point_in}
use Rattle.sshcurve.specs.EdwardsNumbers.{Coordinates}

times_base_is : (bytes : List ℕ) → encode_point (multiply_base bytes) ≡ times_base bytes
unfolding times_base
times_base_is bytes = bytes_are _ _ (base_multiple_is bytes) ∙ base_multiple_bytes bytes

pub key_is : (private_key : List ℕ) → public_key private_key ≡ key_of private_key
unfolding public_key key_of
key_is private_key = times_base_is (secret_scalar private_key)

pub signed_is : (private_key input : List ℕ) → signature private_key input ≡ signed private_key input
unfolding signature signed
signed_is private_key input =
    let r : ℕ = number_in (hash_of (prefix_of private_key) input []) % order in
    ap₂ (λ (point key : List ℕ). point ++ encode_scalar ((number_in (secret_scalar private_key) * (number_in (hash_of point key input) % order) + r) % order))
    (times_base_is (encode_scalar r)) (key_is private_key)

right_is : (o : Option Point) (r : Option Coordinates) (key input point answer : List ℕ) → point_in key ≡ r → AreAlike o r
    → verifies o key input point answer ≡ is_right r key input point answer
unfolding verifies is_right
right_is None None key input point answer e h = refl
right_is None (Some a) key input point answer e h = absurd h
right_is (Some p) None key input point answer e h = absurd h
right_is (Some p) (Some a) key input point answer e h =
    let k : List ℕ = encode_scalar (number_in (hash_of point key input) % order) in
    let sum = sum_is _ _ _ _ (base_multiple_is answer) (multiple_is k _ _ (opposite_is p a h)) in
    ap (λ (xs : List ℕ). nat_lt (number_of_32 answer) order && bytes_eq xs point) (bytes_are _ _ sum ∙ verification_bytes key a e answer k)

pub is_signed_is : (key input signature : List ℕ) → AreWords key → is_signature key input signature ≡ is_signed key input signature
unfolding is_signature is_signed
is_signed_is key input signature are = right_is (decode_point key) (point_in key) key input (take 32 signature) (drop 32 signature) refl (point_in_is key are)
