-- A decoded point lies on the curve (RFC 8032 section 5.1.3).

use Rattle.std.proofs.Common.{◌≡◌, ℕ, ◌/◌, ◌%◌, ◌^◌, ◌<◌, true, cond, eqb, ltb, ◌&&◌, List, [], ◌∷◌, refl, slice_index, subst, Option, Some, None}
use Rattle.std.proofs.lemmas.Bool.{ltb-true}
use Prim.{Unit, tt}
use Rattle.sshcurve.specs.Bits.{number_of_32}
use Rattle.sshpolynomials.specs.Polynomials.{given, var, num, ◌⊕◌, ◌⊖◌, ◌⊗◌}
use Rattle.sshcurve.specs.FieldNumbers.{field, minus, plus, times}
use Rattle.sshcurve.specs.Curve.{Affine, OnCurve, curve_d}
use Rattle.sshcurve.specs.EdwardsNumbers.{Coordinates, d_number}
use Rattle.sshcurve.specs.DecodingNumbers.{point_in, root_of_quotient, with_root, with_x}
use Rattle.sshcurve.proofs.FieldLemmas.{minus_low, plus_low}
use Rattle.sshcurve.proofs.CurveLemmas.{deduced, d_low}
use Rattle.sshcurve.specs.Represents.{Represents}
use Rattle.sshcurve.proofs.DecodingLemmas.{found_point, found_represents}
use Rattle.sshcurve.proofs.RootLemmas.{IsRootIn, by_cases, quotient_is}

-- the coordinates stand for a point of the curve
pub record IsPoint (c : Coordinates) : Type 0 where
  pub p : Affine
  pub on : OnCurve p
  pub represents : Represents c p

-- the coordinates, if there are some, stand for a point of the curve
abbrev IsPointIn : Option Coordinates → Type 0
IsPointIn None = Unit {0}
IsPointIn (Some c) = IsPoint c

-- with a root as x, or its opposite, the point is on the curve (step 4)
module _ (y x : ℕ) (y_low : y < field) (x_low : x < field) (is : times (plus (times d_number (times y y)) 1) (times x x) ≡ minus (times y y) 1) where
  root_on : OnCurve (record { x = x; y = y })
  unfolding times plus minus curve_d
  root_on = record {
    x_low = x_low;
    y_low = y_low;
    is = deduced (var 2 ⊗ var 2 ⊖ var 1 ⊗ var 1) (num 1 ⊕ var 0 ⊗ (var 1 ⊗ var 1) ⊗ (var 2 ⊗ var 2))
        (given (num 0 ⊖ num 1) ((var 0 ⊗ (var 2 ⊗ var 2) ⊕ num 1) ⊗ (var 1 ⊗ var 1)) (var 2 ⊗ var 2 ⊖ num 1) ∷ [])
        (d_number ∷ x ∷ y ∷ []) (d_low, (x_low, (y_low, tt))) (is, tt) refl;
  }

  opposite_is : times (plus (times d_number (times y y)) 1) (times (minus 0 x) (minus 0 x)) ≡ minus (times y y) 1
  unfolding times plus minus curve_d
  opposite_is =
      deduced ((var 0 ⊗ (var 2 ⊗ var 2) ⊕ num 1) ⊗ ((num 0 ⊖ var 1) ⊗ (num 0 ⊖ var 1))) (var 2 ⊗ var 2 ⊖ num 1)
      (given (num 1) ((var 0 ⊗ (var 2 ⊗ var 2) ⊕ num 1) ⊗ (var 1 ⊗ var 1)) (var 2 ⊗ var 2 ⊖ num 1) ∷ [])
      (d_number ∷ x ∷ y ∷ []) (d_low, (x_low, (y_low, tt))) (is, tt) refl

  root_point : IsPoint (found_point x y)
  root_point = record { p = record { x = x; y = y }; on = root_on; represents = found_represents (record { x = x; y = y }) root_on }

with_x_is : (x y odd : ℕ) → y < field → x < field → times (plus (times d_number (times y y)) 1) (times x x) ≡ minus (times y y) 1 → IsPointIn (with_x x y odd)
unfolding with_x
with_x_is x y odd hy hx is =
    by_cases IsPointIn (eqb odd 1 && eqb x 0) None (Some (found_point (cond (eqb (x % 2) odd) x (minus 0 x)) y))
    (λ _. tt)
    (λ _. by_cases (λ (k : ℕ). IsPoint (found_point k y)) (eqb (x % 2) odd) x (minus 0 x)
    (λ _. root_point y x hy hx is)
    (λ _. root_point y (minus 0 x) hy (minus_low 0 x) (opposite_is y x hy hx is)))

with_root_is : (o : Option ℕ) (y odd : ℕ) → y < field → IsRootIn (minus (times y y) 1) (plus (times d_number (times y y)) 1) o → IsPointIn (with_root o y odd)
unfolding with_root
with_root_is None y odd hy h = tt
with_root_is (Some x) y odd hy h = with_x_is x y odd hy h.0 h.1

point_in_is : (bytes : List ℕ) → IsPointIn (point_in bytes)
unfolding point_in
point_in_is bytes =
    let y : ℕ = number_of_32 bytes % 2 ^ 255 in
    let u : ℕ = minus (times y y) 1 in
    let v : ℕ = plus (times d_number (times y y)) 1 in
    by_cases IsPointIn (ltb y field) (with_root (root_of_quotient u v) y (slice_index bytes 31 / 128)) None
    (λ (e : ltb y field ≡ true).
    with_root_is (root_of_quotient u v) y (slice_index bytes 31 / 128) (ltb-true y field e) (quotient_is u v (minus_low (times y y) 1) (plus_low (times d_number (times y y)) 1)))
    (λ _. tt)

-- What bytes decode to, if to anything, are coordinates of a point of the curve.
pub read_point : (bytes : List ℕ) (a : Coordinates) → point_in bytes ≡ Some a → IsPoint a
read_point bytes a e = subst IsPointIn e (point_in_is bytes)
