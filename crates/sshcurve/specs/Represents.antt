-- Extended coordinates of affine points (RFC 8032 section 5.1.4).

use Rattle.std.proofs.Common.{◌≡◌, ◌≢◌, ℕ, ◌<◌}
use Rattle.sshcurve.specs.Curve.{Affine}
use Rattle.sshcurve.specs.EdwardsNumbers.{Coordinates, base_numbers}
use Rattle.sshcurve.specs.FieldNumbers.{field, times}

-- the extended coordinates of a point for this Z: X is x Z, Y is y Z, and T is x y Z (RFC 8032 section 5.1.4)
abbrev pub scaled_by : ℕ → Affine → Coordinates
scaled_by z p = record { x = times p.x z; y = times p.y z; z = z; t = times (times p.x p.y) z }

-- the extended coordinates are those of the point: for a Z below 2^255 - 19 that isn't 0
pub record Represents (c : Coordinates) (p : Affine) : Type 0 where
  pub low : c.z < field
  pub some : c.z ≢ 0
  pub is : c ≡ scaled_by c.z p

-- the base point B in affine coordinates (RFC 8032 section 5.1)
unfoldable pub base : Affine
base = record { x = base_numbers.x; y = base_numbers.y }
