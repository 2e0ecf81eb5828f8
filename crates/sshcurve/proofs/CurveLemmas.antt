-- The denominators of a sum are never 0, since d isn't a square and -1 is.

use Rattle.std.proofs.Common.{◌≡◌, ◌≢◌, ℕ, ◌<◌, true, List, [], ◌∷◌, refl, arith}
use Prim.{tt}
use Rattle.sshpolynomials.specs.Polynomials.{Expr, Given, given, var, num, ◌⊕◌, ◌⊖◌, ◌⊗◌, number, AllHold, combined, poly_of, is_none}
use Rattle.sshcurve.proofs.CurveTerms.{d, x1, y1, x2, y2, i, equation, t12, f12, g12}
use Rattle.sshcurve.specs.FieldNumbers.{field, plus, minus, times}
use Rattle.sshcurve.specs.Curve.{Affine, OnCurve, curve_d, f_of, g_of}
use Rattle.sshpolynomials.proofs.PolynomialLemmas.{follows}
use Rattle.sshcurve.proofs.FieldLemmas.{AllBelow, all_low, d_not_square, minus_low, times_low}

-- An equation follows from others with cofactors if the difference of its sides is their sum, which is computed.
pub deduced : (a b : Expr) (gs : List Given) (xs : List ℕ) → AllBelow field xs → AllHold field xs gs → is_none (poly_of field (a ⊖ b ⊖ combined gs)) ≡ true
    → number field xs a ≡ number field xs b
deduced a b gs xs low all is = follows field a b gs xs (all_low field xs (omega arith) low) (omega arith) all is

pub d_low : curve_d < field
unfolding curve_d
d_low = omega arith

-- a square root of -1
unfoldable root_minus : ℕ
root_minus = 19681161376707505956807079304988542015446066515923890162744021073123829784752

root_low : root_minus < field
unfolding root_minus
root_low = omega arith

root_is : times root_minus root_minus ≡ minus 0 1
unfolding root_minus times minus
root_is = refl

root_opposite : (j : ℕ) → j < field → times j j ≡ minus 0 1 → times (minus 0 j) (minus 0 j) ≡ minus 0 1
unfolding times minus
root_opposite j low is = deduced ((num 0 ⊖ var 0) ⊗ (num 0 ⊖ var 0)) (num 0 ⊖ num 1) (given (num 1) (var 0 ⊗ var 0) (num 0 ⊖ num 1) ∷ []) (j ∷ []) (low, tt) (is, tt) refl

-- Were a denominator 0, the square of y1 + i x1 would be d times the square of part_f or part_g; but d isn't a quotient of squares.
abbrev square : Expr
square = (y1 ⊕ i ⊗ x1) ⊗ (y1 ⊕ i ⊗ x1)

abbrev part_f : Expr → Expr
part_f j = x1 ⊗ y1 ⊗ (y2 ⊕ j ⊗ x2)

abbrev part_g : Expr → Expr
part_g j = x1 ⊗ y1 ⊗ (y2 ⊖ j ⊗ x2)

-- that follows from the equations of both points, from i^2 = -1, and from the denominator
abbrev common : List Given → List Given
common last =
    equation x1 y1 (num 1) ∷ equation x2 y2 (num 0 ⊖ d ⊗ x1 ⊗ x1 ⊗ y1 ⊗ y1)
    ∷ given (x1 ⊗ x1 ⊖ d ⊗ x1 ⊗ x1 ⊗ y1 ⊗ y1 ⊗ x2 ⊗ x2) (i ⊗ i) (num 0 ⊖ num 1) ∷ last

abbrev square_f : List Given
square_f = common (given (t12 ⊕ num 2 ⊗ i ⊗ x1 ⊗ y1 ⊕ num 1) f12 (num 0) ∷ [])

abbrev square_g : List Given
square_g = common (given (num 2 ⊗ i ⊗ x1 ⊗ y1 ⊕ num 1 ⊖ t12) g12 (num 0) ∷ [])

module _ (p q : Affine) (hp : OnCurve p) (hq : OnCurve q) where
  -- the numbers of the variables
  abbrev pub numbers : ℕ → List ℕ
  numbers j = curve_d ∷ p.x ∷ p.y ∷ q.x ∷ q.y ∷ 0 ∷ 0 ∷ j ∷ []

  pub are_below : (j : ℕ) → j < field → AllBelow field (numbers j)
  are_below j low = (d_low, (hp.x_low, (hp.y_low, (hq.x_low, (hq.y_low, (omega arith, (omega arith, (low, tt))))))))

  part_f_zero : (j : ℕ) → j < field → times j j ≡ minus 0 1 → f_of p q ≡ 0 → times (times p.x p.y) (plus q.y (times j q.x)) ≡ 0
  unfolding times plus minus
  part_f_zero j low is none =
      d_not_square (plus p.y (times j p.x)) _ (times_low (times p.x p.y) (plus q.y (times j q.x)))
      (deduced square (d ⊗ (part_f i ⊗ part_f i)) square_f (numbers j) (are_below j low) (hp.is, (hq.is, (is, (none, tt)))) refl)

  part_g_zero : (j : ℕ) → j < field → times j j ≡ minus 0 1 → g_of p q ≡ 0 → times (times p.x p.y) (minus q.y (times j q.x)) ≡ 0
  unfolding times plus minus
  part_g_zero j low is none =
      d_not_square (plus p.y (times j p.x)) _ (times_low (times p.x p.y) (minus q.y (times j q.x)))
      (deduced square (d ⊗ (part_g i ⊗ part_g i)) square_g (numbers j) (are_below j low) (hp.is, (hq.is, (is, (none, tt)))) refl)

  pub f_nonzero : f_of p q ≢ 0
  unfolding times plus minus
  f_nonzero none =
      let j : ℕ = root_minus in
      let a = part_f_zero j root_low root_is none in
      let b = part_f_zero (minus 0 j) (minus_low 0 j) (root_opposite j root_low root_is) none in
      let two : 2 ≡ 0 = deduced (num 2) (num 0) (given (d ⊗ x2) (part_f i) (num 0) ∷ given (d ⊗ x2) (part_f (num 0 ⊖ i)) (num 0) ∷ given (num 2) f12 (num 0) ∷ [])
      (numbers j) (are_below j root_low) (a, (b, (none, tt))) refl in
      omega (arith, two)

  pub g_nonzero : g_of p q ≢ 0
  unfolding times plus minus
  g_nonzero none =
      let j : ℕ = root_minus in
      let a = part_g_zero j root_low root_is none in
      let b = part_g_zero (minus 0 j) (minus_low 0 j) (root_opposite j root_low root_is) none in
      let two : 2 ≡ 0 = deduced (num 2) (num 0) (given (num 0 ⊖ d ⊗ x2) (part_g i) (num 0) ∷ given (num 0 ⊖ d ⊗ x2) (part_g (num 0 ⊖ i)) (num 0) ∷ given (num 2) g12 (num 0) ∷ [])
      (numbers j) (are_below j root_low) (a, (b, (none, tt))) refl in
      omega (arith, two)
