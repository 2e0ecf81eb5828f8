-- The group of the curve: a sum is on it, in either order, and there are a neutral point and opposites.

use Rattle.std.proofs.Common.{◌≡◌, ◌≢◌, ℕ, ◌<◌, List, [], ◌∷◌, refl, ap₂, arith}
use Prim.{tt}
use Rattle.sshpolynomials.specs.Polynomials.{Given, given, var, num, ◌⊕◌, ◌⊖◌, ◌⊗◌}
use Rattle.sshcurve.proofs.CurveTerms as terms
use Rattle.sshcurve.proofs.Cofactors.{closed_cofactor_1, closed_cofactor_2}
use Rattle.sshcurve.specs.FieldNumbers.{field, plus, minus, times, reciprocal}
use Rattle.sshcurve.specs.Curve.{Affine, OnCurve, curve_d, e_of, f_of, g_of, h_of, t_of, sum, neutral, opposite}
use Rattle.sshcurve.proofs.FieldLemmas.{inverse, minus_low, plus_low, times_low, times_nonzero, reciprocal_low}
use Rattle.sshcurve.proofs.CurveLemmas.{deduced, d_low, are_below, f_nonzero, g_nonzero}

-- a factor that isn't 0 cancels
pub cancelled : (a b c : ℕ) → a < field → b < field → c < field → c ≢ 0 → times a c ≡ times b c → a ≡ b
unfolding times
cancelled a b c ha hb hc some e =
    deduced (var 0) (var 1) (given (var 3) (var 0 ⊗ var 2) (var 1 ⊗ var 2) ∷ given (var 1 ⊖ var 0) (var 2 ⊗ var 3) (num 1) ∷ [])
    (a ∷ b ∷ c ∷ reciprocal c ∷ []) (ha, (hb, (hc, (reciprocal_low c, tt)))) (e, (inverse c hc some, tt)) refl

-- a quotient times its denominator
quotient_is : (a c : ℕ) → a < field → c < field → c ≢ 0 → times (times a (reciprocal c)) c ≡ a
unfolding times
quotient_is a c ha hc some =
    deduced (var 0 ⊗ var 2 ⊗ var 1) (var 0) (given (var 0) (var 1 ⊗ var 2) (num 1) ∷ []) (a ∷ c ∷ reciprocal c ∷ []) (ha, (hc, (reciprocal_low c, tt))) (inverse c hc some, tt) refl

pub same_point : (p q : Affine) → p.x ≡ q.x → p.y ≡ q.y → p ≡ q
same_point p q e f = ap₂ (λ (a b : ℕ). record { x = a; y = b }) e f

-- the equation of a sum, as the third point, follows from those of both points and from its fractions
abbrev sum_follows : List Given
sum_follows =
    terms.equation terms.x1 terms.y1 closed_cofactor_1 ∷ terms.equation terms.x2 terms.y2 closed_cofactor_2
    ∷ given ((terms.y3 ⊗ terms.f12 ⊕ terms.h12) ⊗ (terms.g12 ⊗ terms.g12 ⊖ terms.d ⊗ (terms.x3 ⊗ terms.g12) ⊗ (terms.x3 ⊗ terms.g12))) (terms.y3 ⊗ terms.f12) terms.h12
    ∷ given (num 0 ⊖ (terms.x3 ⊗ terms.g12 ⊕ terms.e12) ⊗ (terms.f12 ⊗ terms.f12 ⊕ terms.d ⊗ terms.h12 ⊗ terms.h12)) (terms.x3 ⊗ terms.g12) terms.e12
    ∷ []

module _ (p q : Affine) (hp : OnCurve p) (hq : OnCurve q) where
  pub sum_x : times (sum p q).x (g_of p q) ≡ e_of p q
  unfolding sum
  sum_x = quotient_is (e_of p q) (g_of p q) (plus_low _ _) (plus_low _ _) (g_nonzero p q hp hq)

  pub sum_y : times (sum p q).y (f_of p q) ≡ h_of p q
  unfolding sum
  sum_y = quotient_is (h_of p q) (f_of p q) (plus_low _ _) (minus_low _ _) (f_nonzero p q hp hq)

  pub sum_x_low : (sum p q).x < field
  unfolding sum
  sum_x_low = times_low _ _

  pub sum_y_low : (sum p q).y < field
  unfolding sum
  sum_y_low = times_low _ _

  -- the sum is on the curve
  pub sum_on : OnCurve (sum p q)
  unfolding times plus minus
  sum_on = record { x_low = sum_x_low; y_low = sum_y_low; is = cancelled _ _ (times (times f f) (times g g)) (minus_low _ _) (plus_low _ _) (times_low _ _) some crosswise }
    where
      f : ℕ
      f = f_of p q

      g : ℕ
      g = g_of p q

      f_low : f_of p q < field
      f_low = minus_low 1 (t_of p q)

      g_low : g_of p q < field
      g_low = plus_low 1 (t_of p q)

      x : ℕ
      x = (sum p q).x

      y : ℕ
      y = (sum p q).y

      some : times (times f f) (times g g) ≢ 0
      some =
          times_nonzero (times f f) (times g g) (times_low f f) (times_low g g)
          (times_nonzero f f f_low f_low (f_nonzero p q hp hq) (f_nonzero p q hp hq)) (times_nonzero g g g_low g_low (g_nonzero p q hp hq) (g_nonzero p q hp hq))

      crosswise : times (minus (times y y) (times x x)) (times (times f f) (times g g)) ≡ times (plus 1 (times (times curve_d (times x x)) (times y y))) (times (times f f) (times g g))
      crosswise =
          deduced (terms.curve_left terms.x3 terms.y3 ⊗ (terms.f12 ⊗ terms.f12 ⊗ (terms.g12 ⊗ terms.g12))) (terms.curve_right terms.x3 terms.y3 ⊗ (terms.f12 ⊗ terms.f12 ⊗ (terms.g12 ⊗ terms.g12))) sum_follows
          (curve_d ∷ p.x ∷ p.y ∷ q.x ∷ q.y ∷ x ∷ y ∷ []) (d_low, (hp.x_low, (hp.y_low, (hq.x_low, (hq.y_low, (sum_x_low, (sum_y_low, tt)))))))
          (hp.is, (hq.is, (sum_y, (sum_x, tt)))) refl

-- The sum commutes.
e_commutes : (p q : Affine) → OnCurve p → OnCurve q → e_of p q ≡ e_of q p
unfolding times plus minus
e_commutes p q hp hq = deduced terms.e12 (terms.x2 ⊗ terms.y1 ⊕ terms.y2 ⊗ terms.x1) [] (curve_d ∷ p.x ∷ p.y ∷ q.x ∷ q.y ∷ 0 ∷ 0 ∷ 0 ∷ []) (are_below p q hp hq 0 (omega arith)) tt refl

h_commutes : (p q : Affine) → OnCurve p → OnCurve q → h_of p q ≡ h_of q p
unfolding times plus minus
h_commutes p q hp hq = deduced terms.h12 (terms.y2 ⊗ terms.y1 ⊕ terms.x2 ⊗ terms.x1) [] (curve_d ∷ p.x ∷ p.y ∷ q.x ∷ q.y ∷ 0 ∷ 0 ∷ 0 ∷ []) (are_below p q hp hq 0 (omega arith)) tt refl

t_commutes : (p q : Affine) → OnCurve p → OnCurve q → t_of p q ≡ t_of q p
unfolding times plus minus
t_commutes p q hp hq = deduced terms.t12 (terms.d ⊗ (terms.x2 ⊗ terms.x1) ⊗ (terms.y2 ⊗ terms.y1)) [] (curve_d ∷ p.x ∷ p.y ∷ q.x ∷ q.y ∷ 0 ∷ 0 ∷ 0 ∷ []) (are_below p q hp hq 0 (omega arith)) tt refl

pub sum_commutes : (p q : Affine) → OnCurve p → OnCurve q → sum p q ≡ sum q p
unfolding sum
sum_commutes p q hp hq =
    same_point _ _
    (ap₂ (λ (a b : ℕ). times a (reciprocal (plus 1 b))) (e_commutes p q hp hq) (t_commutes p q hp hq))
    (ap₂ (λ (a b : ℕ). times a (reciprocal (minus 1 b))) (h_commutes p q hp hq) (t_commutes p q hp hq))

-- The neutral point.
pub neutral_on : OnCurve neutral
unfolding times plus minus
neutral_on = record { x_low = omega arith; y_low = omega arith; is = deduced (num 1 ⊗ num 1 ⊖ num 0 ⊗ num 0) (num 1 ⊕ var 0 ⊗ (num 0 ⊗ num 0) ⊗ (num 1 ⊗ num 1)) [] (curve_d ∷ []) (d_low, tt) tt refl }

pub sum_neutral : (p : Affine) → OnCurve p → sum neutral p ≡ p
unfolding times plus minus
sum_neutral p hp =
    same_point _ _
    (deduced (var 3) (var 1) (given (num 1) (var 3 ⊗ (num 1 ⊕ var 0 ⊗ (num 0 ⊗ var 1) ⊗ (num 1 ⊗ var 2))) (num 0 ⊗ var 2 ⊕ num 1 ⊗ var 1) ∷ [])
    (curve_d ∷ p.x ∷ p.y ∷ (sum neutral p).x ∷ []) (d_low, (hp.x_low, (hp.y_low, (sum_x_low neutral p neutral_on hp, tt)))) (sum_x neutral p neutral_on hp, tt) refl)
    (deduced (var 3) (var 2) (given (num 1) (var 3 ⊗ (num 1 ⊖ var 0 ⊗ (num 0 ⊗ var 1) ⊗ (num 1 ⊗ var 2))) (num 1 ⊗ var 2 ⊕ num 0 ⊗ var 1) ∷ [])
    (curve_d ∷ p.x ∷ p.y ∷ (sum neutral p).y ∷ []) (d_low, (hp.x_low, (hp.y_low, (sum_y_low neutral p neutral_on hp, tt)))) (sum_y neutral p neutral_on hp, tt) refl)

-- The opposite point.
pub opposite_on : (p : Affine) → OnCurve p → OnCurve (opposite p)
unfolding times plus minus
opposite_on p hp = record {
  x_low = minus_low 0 p.x;
  y_low = hp.y_low;
  is = deduced (var 2 ⊗ var 2 ⊖ (num 0 ⊖ var 1) ⊗ (num 0 ⊖ var 1)) (num 1 ⊕ var 0 ⊗ ((num 0 ⊖ var 1) ⊗ (num 0 ⊖ var 1)) ⊗ (var 2 ⊗ var 2))
      (given (num 1) (var 2 ⊗ var 2 ⊖ var 1 ⊗ var 1) (num 1 ⊕ var 0 ⊗ (var 1 ⊗ var 1) ⊗ (var 2 ⊗ var 2)) ∷ [])
      (curve_d ∷ p.x ∷ p.y ∷ []) (d_low, (hp.x_low, (hp.y_low, tt))) (hp.is, tt) refl;
}

pub sum_opposite : (p : Affine) → OnCurve p → sum (opposite p) p ≡ neutral
unfolding times plus minus
sum_opposite p hp =
    let q : Affine = opposite p in
    let hq = opposite_on p hp in
    same_point _ _
    (cancelled (sum q p).x 0 (g_of q p) (sum_x_low q p hq hp) (omega arith) (plus_low 1 (t_of q p)) (g_nonzero q p hq hp)
    (deduced (var 3 ⊗ (num 1 ⊕ var 0 ⊗ ((num 0 ⊖ var 1) ⊗ var 1) ⊗ (var 2 ⊗ var 2))) (num 0 ⊗ (num 1 ⊕ var 0 ⊗ ((num 0 ⊖ var 1) ⊗ var 1) ⊗ (var 2 ⊗ var 2)))
    (given (num 1) (var 3 ⊗ (num 1 ⊕ var 0 ⊗ ((num 0 ⊖ var 1) ⊗ var 1) ⊗ (var 2 ⊗ var 2))) ((num 0 ⊖ var 1) ⊗ var 2 ⊕ var 2 ⊗ var 1) ∷ [])
    (curve_d ∷ p.x ∷ p.y ∷ (sum q p).x ∷ []) (d_low, (hp.x_low, (hp.y_low, (sum_x_low q p hq hp, tt)))) (sum_x q p hq hp, tt) refl))
    (cancelled (sum q p).y 1 (f_of q p) (sum_y_low q p hq hp) (omega arith) (minus_low 1 (t_of q p)) (f_nonzero q p hq hp)
    (deduced (var 3 ⊗ (num 1 ⊖ var 0 ⊗ ((num 0 ⊖ var 1) ⊗ var 1) ⊗ (var 2 ⊗ var 2))) (num 1 ⊗ (num 1 ⊖ var 0 ⊗ ((num 0 ⊖ var 1) ⊗ var 1) ⊗ (var 2 ⊗ var 2)))
    (given (num 1) (var 3 ⊗ (num 1 ⊖ var 0 ⊗ ((num 0 ⊖ var 1) ⊗ var 1) ⊗ (var 2 ⊗ var 2))) (var 2 ⊗ var 2 ⊕ (num 0 ⊖ var 1) ⊗ var 1)
    ∷ given (num 1) (var 2 ⊗ var 2 ⊖ var 1 ⊗ var 1) (num 1 ⊕ var 0 ⊗ (var 1 ⊗ var 1) ⊗ (var 2 ⊗ var 2)) ∷ [])
    (curve_d ∷ p.x ∷ p.y ∷ (sum q p).y ∷ []) (d_low, (hp.x_low, (hp.y_low, (sum_y_low q p hq hp, tt)))) (sum_y q p hq hp, (hp.is, tt)) refl))
