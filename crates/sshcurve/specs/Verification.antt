-- What a valid signature of Ed25519 is, in affine points (RFC 8032 section 5.1.7).

use Rattle.std.proofs.Common.{◌≡◌, ℕ, ◌%◌, ◌<◌, List}
use Rattle.std.specs.Prelude.{Some, drop, take}
use Rattle.sshcurve.specs.Bits.{number_of_32}
use Rattle.sshcurve.specs.Scalar.{number_in, order}
use Rattle.sshcurve.specs.FieldBytes.{bytes_of_number}
use Rattle.sshcurve.specs.Curve.{Affine, OnCurve, sum, multiple}
use Rattle.sshcurve.specs.EdwardsNumbers.{Coordinates, with_sign}
use Rattle.sshcurve.specs.Represents.{Represents, base}
use Rattle.sshcurve.specs.DecodingNumbers.{point_in}
use Rattle.sshcurve.specs.Ed25519Numbers.{hash_of}

-- the encoding of a point: 32 bytes of y, little-endian, with the lowest bit of x as their highest (RFC 8032 section 5.1.2)
abbrev pub encoded : Affine → List ℕ
encoded p = with_sign (bytes_of_number p.x) (bytes_of_number p.y)

-- the bytes decode to a point of the curve, in extended coordinates (RFC 8032 section 5.1.3)
pub record Decodes (bytes : List ℕ) (p : Affine) : Type 0 where
  pub on : OnCurve p
  pub coordinates : Coordinates
  pub decoded : point_in bytes ≡ Some coordinates
  pub represents : Represents coordinates p

-- The signature is valid: the key decodes to a point A, the signature's first 32 bytes encode a point R, those behind them are S below L, and
-- [S]B = R + [k]A, where k is the hash of R, the key and the input, modulo L (RFC 8032 section 5.1.7).
pub record IsValid (key input signature : List ℕ) : Type 0 where
  pub a : Affine
  pub r : Affine
  pub key_is : Decodes key a
  pub on : OnCurve r
  pub r_is : take 32 signature ≡ encoded r
  pub low : number_of_32 (drop 32 signature) < order
  pub equation : multiple (number_in (drop 32 signature)) base ≡ sum r (multiple (number_in (hash_of (take 32 signature) key input) % order) a)
