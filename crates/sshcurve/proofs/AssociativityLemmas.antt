-- The sum of points is associative: the coordinates of both sides are fractions, which are the same crosswise.

use Rattle.std.proofs.Common.{◌≡◌, ◌≢◌, ℕ, ◌<◌, List, [], ◌∷◌, refl, sym, ◌∙◌}
use Prim.{tt}
use Rattle.sshpolynomials.specs.Polynomials.{Expr, Given, given, var, num, ◌⊕◌, ◌⊖◌, ◌⊗◌}
use Rattle.sshcurve.proofs.CurveTerms as terms
use Rattle.sshcurve.proofs.CurveTerms.{d, x1, y1, x2, y2, x3, y3, equation, e12, f12, g12, h12}
use Rattle.sshcurve.proofs.Cofactors.{x_cofactor_1, x_cofactor_2, x_cofactor_3, y_cofactor_1, y_cofactor_2, y_cofactor_3}
use Rattle.sshcurve.specs.FieldNumbers.{field, plus, minus, times}
use Rattle.sshcurve.specs.Curve.{Affine, OnCurve, curve_d, e_of, f_of, g_of, h_of, sum}
use Rattle.sshcurve.proofs.FieldLemmas.{AllBelow, minus_low, plus_low, times_low, times_nonzero}
use Rattle.sshcurve.proofs.CurveLemmas.{deduced, d_low, f_nonzero, g_nonzero}
use Rattle.sshcurve.proofs.GroupLemmas.{cancelled, same_point, sum_commutes, sum_on, sum_x, sum_x_low, sum_y, sum_y_low}

-- in expressions: the numerators and denominators of the sum of a sum, e / g and h / f, and a third point
abbrev expr_above_x : Expr → Expr → Expr → Expr → Expr → Expr → Expr
expr_above_x e f g h x y = e ⊗ f ⊗ y ⊕ h ⊗ g ⊗ x

abbrev expr_above_y : Expr → Expr → Expr → Expr → Expr → Expr → Expr
expr_above_y e f g h x y = h ⊗ g ⊗ y ⊕ e ⊗ f ⊗ x

abbrev expr_below_x : Expr → Expr → Expr → Expr → Expr → Expr → Expr
expr_below_x e f g h x y = g ⊗ f ⊕ d ⊗ (e ⊗ x) ⊗ (h ⊗ y)

abbrev expr_below_y : Expr → Expr → Expr → Expr → Expr → Expr → Expr
expr_below_y e f g h x y = g ⊗ f ⊖ d ⊗ (e ⊗ x) ⊗ (h ⊗ y)

-- the numerators and denominators of the sum of the second point and the third
abbrev e23 : Expr
e23 = terms.e_of x2 y2 x3 y3

abbrev f23 : Expr
f23 = terms.f_of x2 y2 x3 y3

abbrev g23 : Expr
g23 = terms.g_of x2 y2 x3 y3

abbrev h23 : Expr
h23 = terms.h_of x2 y2 x3 y3

-- both sides of associativity, crosswise
abbrev left_x : Expr
left_x = expr_above_x e12 f12 g12 h12 x3 y3 ⊗ expr_below_x e23 f23 g23 h23 x1 y1

abbrev right_x : Expr
right_x = expr_above_x e23 f23 g23 h23 x1 y1 ⊗ expr_below_x e12 f12 g12 h12 x3 y3

abbrev left_y : Expr
left_y = expr_above_y e12 f12 g12 h12 x3 y3 ⊗ expr_below_y e23 f23 g23 h23 x1 y1

abbrev right_y : Expr
right_y = expr_above_y e23 f23 g23 h23 x1 y1 ⊗ expr_below_y e12 f12 g12 h12 x3 y3

-- The equations of the three points with their cofactors: the sum of these is the difference of both sides.
abbrev three_x : List Given
three_x = equation x1 y1 x_cofactor_1 ∷ equation x2 y2 x_cofactor_2 ∷ equation x3 y3 x_cofactor_3 ∷ []

abbrev three_y : List Given
three_y = equation x1 y1 y_cofactor_1 ∷ equation x2 y2 y_cofactor_2 ∷ equation x3 y3 y_cofactor_3 ∷ []

-- in numbers: the numerators and denominators of the sum of p + q and r
abbrev above_x : Affine → Affine → Affine → ℕ
above_x p q r = plus (times (times (e_of p q) (f_of p q)) r.y) (times (times (h_of p q) (g_of p q)) r.x)

abbrev above_y : Affine → Affine → Affine → ℕ
above_y p q r = plus (times (times (h_of p q) (g_of p q)) r.y) (times (times (e_of p q) (f_of p q)) r.x)

abbrev below_x : Affine → Affine → Affine → ℕ
below_x p q r = plus (times (g_of p q) (f_of p q)) (times (times curve_d (times (e_of p q) r.x)) (times (h_of p q) r.y))

abbrev below_y : Affine → Affine → Affine → ℕ
below_y p q r = minus (times (g_of p q) (f_of p q)) (times (times curve_d (times (e_of p q) r.x)) (times (h_of p q) r.y))

module _ (p q r : Affine) (hp : OnCurve p) (hq : OnCurve q) (hr : OnCurve r) where
  abbrev pq : Affine
  pq = sum p q

  abbrev pqr : Affine
  pqr = sum (sum p q) r

  pq_on : OnCurve pq
  pq_on = sum_on p q hp hq

  abbrev values : List ℕ
  values = curve_d ∷ p.x ∷ p.y ∷ q.x ∷ q.y ∷ r.x ∷ r.y ∷ pq.x ∷ pq.y ∷ []

  values_below : AllBelow field values
  values_below = (d_low, (hp.x_low, (hp.y_low, (hq.x_low, (hq.y_low, (hr.x_low, (hr.y_low, (pq_on.x_low, (pq_on.y_low, tt)))))))))

  abbrev values_x : List ℕ
  values_x = curve_d ∷ p.x ∷ p.y ∷ q.x ∷ q.y ∷ r.x ∷ r.y ∷ pq.x ∷ pq.y ∷ pqr.x ∷ []

  values_x_below : AllBelow field values_x
  values_x_below = (d_low, (hp.x_low, (hp.y_low, (hq.x_low, (hq.y_low, (hr.x_low, (hr.y_low, (pq_on.x_low, (pq_on.y_low, (sum_x_low pq r pq_on hr, tt))))))))))

  abbrev values_y : List ℕ
  values_y = curve_d ∷ p.x ∷ p.y ∷ q.x ∷ q.y ∷ r.x ∷ r.y ∷ pq.x ∷ pq.y ∷ pqr.y ∷ []

  values_y_below : AllBelow field values_y
  values_y_below = (d_low, (hp.x_low, (hp.y_low, (hq.x_low, (hq.y_low, (hr.x_low, (hr.y_low, (pq_on.x_low, (pq_on.y_low, (sum_y_low pq r pq_on hr, tt))))))))))

  sum_x_crosswise : times pqr.x (below_x p q r) ≡ above_x p q r
  unfolding times plus minus
  sum_x_crosswise =
      deduced (var 9 ⊗ expr_below_x e12 f12 g12 h12 x3 y3) (expr_above_x e12 f12 g12 h12 x3 y3)
      (given (f12 ⊗ y3 ⊖ var 9 ⊗ d ⊗ h12 ⊗ x3 ⊗ y3) (var 7 ⊗ g12) e12
      ∷ given (g12 ⊗ x3 ⊖ var 9 ⊗ d ⊗ (var 7 ⊗ g12) ⊗ x3 ⊗ y3) (var 8 ⊗ f12) h12
      ∷ given (g12 ⊗ f12) (var 9 ⊗ terms.g_of (var 7) (var 8) x3 y3) (terms.e_of (var 7) (var 8) x3 y3) ∷ [])
      values_x values_x_below (sum_x p q hp hq, (sum_y p q hp hq, (sum_x pq r pq_on hr, tt))) refl

  sum_y_crosswise : times pqr.y (below_y p q r) ≡ above_y p q r
  unfolding times plus minus
  sum_y_crosswise =
      deduced (var 9 ⊗ expr_below_y e12 f12 g12 h12 x3 y3) (expr_above_y e12 f12 g12 h12 x3 y3)
      (given (f12 ⊗ x3 ⊕ var 9 ⊗ d ⊗ h12 ⊗ x3 ⊗ y3) (var 7 ⊗ g12) e12
      ∷ given (g12 ⊗ y3 ⊕ var 9 ⊗ d ⊗ (var 7 ⊗ g12) ⊗ x3 ⊗ y3) (var 8 ⊗ f12) h12
      ∷ given (g12 ⊗ f12) (var 9 ⊗ terms.f_of (var 7) (var 8) x3 y3) (terms.h_of (var 7) (var 8) x3 y3) ∷ [])
      values_y values_y_below (sum_x p q hp hq, (sum_y p q hp hq, (sum_y pq r pq_on hr, tt))) refl

  -- the denominators aren't 0
  gf_nonzero : times (g_of p q) (f_of p q) ≢ 0
  gf_nonzero = times_nonzero (g_of p q) (f_of p q) (plus_low _ _) (minus_low _ _) (g_nonzero p q hp hq) (f_nonzero p q hp hq)

  below_x_is : below_x p q r ≡ times (g_of pq r) (times (g_of p q) (f_of p q))
  unfolding times plus minus
  below_x_is =
      deduced (expr_below_x e12 f12 g12 h12 x3 y3) (terms.g_of (var 7) (var 8) x3 y3 ⊗ (g12 ⊗ f12))
      (given (num 0 ⊖ d ⊗ x3 ⊗ y3 ⊗ h12) (var 7 ⊗ g12) e12
      ∷ given (num 0 ⊖ d ⊗ x3 ⊗ y3 ⊗ (var 7 ⊗ g12)) (var 8 ⊗ f12) h12 ∷ [])
      values values_below (sum_x p q hp hq, (sum_y p q hp hq, tt)) refl

  below_y_is : below_y p q r ≡ times (f_of pq r) (times (g_of p q) (f_of p q))
  unfolding times plus minus
  below_y_is =
      deduced (expr_below_y e12 f12 g12 h12 x3 y3) (terms.f_of (var 7) (var 8) x3 y3 ⊗ (g12 ⊗ f12))
      (given (d ⊗ x3 ⊗ y3 ⊗ h12) (var 7 ⊗ g12) e12
      ∷ given (d ⊗ x3 ⊗ y3 ⊗ (var 7 ⊗ g12)) (var 8 ⊗ f12) h12 ∷ [])
      values values_below (sum_x p q hp hq, (sum_y p q hp hq, tt)) refl

  below_x_nonzero : below_x p q r ≢ 0
  below_x_nonzero z = times_nonzero (g_of pq r) (times (g_of p q) (f_of p q)) (plus_low _ _) (times_low _ _) (g_nonzero pq r pq_on hr) gf_nonzero (sym below_x_is ∙ z)

  below_y_nonzero : below_y p q r ≢ 0
  below_y_nonzero z = times_nonzero (f_of pq r) (times (g_of p q) (f_of p q)) (minus_low _ _) (times_low _ _) (f_nonzero pq r pq_on hr) gf_nonzero (sym below_y_is ∙ z)

  -- Associativity, crosswise.
  crosswise_x : times (above_x p q r) (below_x q r p) ≡ times (above_x q r p) (below_x p q r)
  unfolding times plus minus
  crosswise_x = deduced left_x right_x three_x values values_below (hp.is, (hq.is, (hr.is, tt))) refl

  crosswise_y : times (above_y p q r) (below_y q r p) ≡ times (above_y q r p) (below_y p q r)
  unfolding times plus minus
  crosswise_y = deduced left_y right_y three_y values values_below (hp.is, (hq.is, (hr.is, tt))) refl

-- Two fractions are the same if they are so crosswise.
quotients_same : (a b c k m n : ℕ) → a < field → b < field → c < field → k < field → m < field → n < field → c ≢ 0 → k ≢ 0
    → times a c ≡ m → times b k ≡ n → times m k ≡ times n c → a ≡ b
unfolding times
quotients_same a b c k m n ha hb hc hk hm hn sc sk ea eb ec =
    cancelled a b (times c k) ha hb (times_low c k) (times_nonzero c k hc hk sc sk)
    (deduced (var 0 ⊗ (var 2 ⊗ var 3)) (var 1 ⊗ (var 2 ⊗ var 3))
    (given (var 3) (var 0 ⊗ var 2) (var 4) ∷ given (num 0 ⊖ var 2) (var 1 ⊗ var 3) (var 5) ∷ given (num 1) (var 4 ⊗ var 3) (var 5 ⊗ var 2) ∷ [])
    (a ∷ b ∷ c ∷ k ∷ m ∷ n ∷ []) (ha, (hb, (hc, (hk, (hm, (hn, tt)))))) (ea, (eb, (ec, tt))) refl)

-- both p + q + r and q + r + p have the same fractions, crosswise
sum_rotates : (p q r : Affine) → OnCurve p → OnCurve q → OnCurve r → sum (sum p q) r ≡ sum (sum q r) p
sum_rotates p q r hp hq hr =
    let pq = sum_on p q hp hq in
    let qr = sum_on q r hq hr in
    same_point _ _
    (quotients_same (sum (sum p q) r).x (sum (sum q r) p).x (below_x p q r) (below_x q r p) (above_x p q r) (above_x q r p)
    (sum_x_low (sum p q) r pq hr) (sum_x_low (sum q r) p qr hp) (plus_low _ _) (plus_low _ _) (plus_low _ _) (plus_low _ _)
    (below_x_nonzero p q r hp hq hr) (below_x_nonzero q r p hq hr hp) (sum_x_crosswise p q r hp hq hr) (sum_x_crosswise q r p hq hr hp) (crosswise_x p q r hp hq hr))
    (quotients_same (sum (sum p q) r).y (sum (sum q r) p).y (below_y p q r) (below_y q r p) (above_y p q r) (above_y q r p)
    (sum_y_low (sum p q) r pq hr) (sum_y_low (sum q r) p qr hp) (minus_low _ _) (minus_low _ _) (plus_low _ _) (plus_low _ _)
    (below_y_nonzero p q r hp hq hr) (below_y_nonzero q r p hq hr hp) (sum_y_crosswise p q r hp hq hr) (sum_y_crosswise q r p hq hr hp) (crosswise_y p q r hp hq hr))

pub sum_associates : (p q r : Affine) → OnCurve p → OnCurve q → OnCurve r → sum (sum p q) r ≡ sum p (sum q r)
sum_associates p q r hp hq hr = sum_rotates p q r hp hq hr ∙ sum_commutes (sum q r) p (sum_on q r hq hr) hp
