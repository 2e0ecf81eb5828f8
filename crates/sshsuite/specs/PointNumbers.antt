-- Which points, of limbs, have which coordinates.

use Prim.{Unit, ⊥}
use Rattle.std.proofs.Common.{Option, Some, None}
use Rattle.sshcurve.specs.EdwardsNumbers.{Coordinates}
use Rattle.sshsuite.specs.FieldValues.{HasNumber}
use Rattle.sshsuite.specs.declared.edwards25519.Point.{Point}

-- the limbs are those of the coordinates
pub record HasCoordinates (p : Point) (n : Coordinates) : Type 0 where
  pub x : HasNumber p.x n.x
  pub y : HasNumber p.y n.y
  pub z : HasNumber p.z n.z
  pub t : HasNumber p.t n.t

-- both are none, or the limbs are those of the coordinates
abbrev pub AreAlike : Option Point → Option Coordinates → Type 0
AreAlike None None = Unit {0}
AreAlike (Some p) (Some n) = HasCoordinates p n
AreAlike None (Some n) = ⊥
AreAlike (Some p) None = ⊥
