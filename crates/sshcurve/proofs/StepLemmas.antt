-- A step of the Montgomery ladder doubles one point, and adds two points whose difference has a known u-coordinate (RFC 7748 section 5).

use Rattle.std.proofs.Common.{◌≡◌, ◌≢◌, ℕ, ◌<◌, List, [], ◌∷◌, refl, ap, ap₂, arith, ⊎_elim}
use Prim.{tt}
use Rattle.sshpolynomials.specs.Polynomials.{Expr, given, var, num, ◌⊕◌, ◌⊖◌, ◌⊗◌}
use Rattle.sshcurve.specs.FieldNumbers.{field, plus, minus, times}
use Rattle.sshcurve.specs.Curve.{Affine, OnCurve, curve_d, f_of, g_of, t_of, sum}
use Rattle.sshcurve.proofs.FieldLemmas.{AllBelow, minus_low, times_zero, plus_low, times_low, times_nonzero}
use Rattle.sshcurve.proofs.Cofactors.{difference_cofactor_1, difference_cofactor_2}
use Rattle.sshcurve.proofs.CurveLemmas.{deduced, d_low, f_nonzero, g_nonzero}
use Rattle.sshcurve.proofs.GroupLemmas.{cancelled, sum_y, sum_y_low}

-- x / z is the u-coordinate of the point: x and z are in the ratio of 1 + y and 1 - y
pub record ProjectiveU (x z : ℕ) (p : Affine) : Type 0 where
  pub x_low : x < field
  pub z_low : z < field
  pub is : times x (minus 1 p.y) ≡ times z (plus 1 p.y)
  pub some : x ≡ 0 → z ≡ 0 → ⊥

-- x + z isn't 0, and x - z is y times it
module _ (x z : ℕ) (p : Affine) (hp : OnCurve p) (s : ProjectiveU x z p) where
  pub difference_by_sum : minus x z ≡ times p.y (plus x z)
  unfolding times plus minus
  difference_by_sum = deduced (var 0 ⊖ var 1) (var 2 ⊗ (var 0 ⊕ var 1)) (given (num 1) (var 0 ⊗ (num 1 ⊖ var 2)) (var 1 ⊗ (num 1 ⊕ var 2)) ∷ [])
      (x ∷ z ∷ p.y ∷ []) (s.x_low, (s.z_low, (hp.y_low, tt))) (s.is, tt) refl

  pub sum_nonzero : plus x z ≢ 0
  unfolding times plus minus
  sum_nonzero e =
      let x_zero : times x 2 ≡ times 0 2 = deduced (var 0 ⊗ num 2) (num 0 ⊗ num 2)
      (given (num 1) (var 0 ⊗ (num 1 ⊖ var 2)) (var 1 ⊗ (num 1 ⊕ var 2)) ∷ given (num 1 ⊕ var 2) (var 0 ⊕ var 1) (num 0) ∷ [])
      (x ∷ z ∷ p.y ∷ []) (s.x_low, (s.z_low, (hp.y_low, tt))) (s.is, (e, tt)) refl in
      let x_is = cancelled x 0 2 s.x_low (omega arith) (omega arith) (λ (k : 2 ≡ 0). omega (arith, k)) x_zero in
      let z_is : z ≡ 0 = deduced (var 1) (num 0) (given (num 1) (var 0 ⊕ var 1) (num 0) ∷ given (num 0 ⊖ num 1) (var 0) (num 0) ∷ [])
      (x ∷ z ∷ p.y ∷ []) (s.x_low, (s.z_low, (hp.y_low, tt))) (e, (x_is, tt)) refl in
      s.some x_is z_is

-- what a step computes of a = x_2 + z_2, b = x_2 - z_2, c = x_3 + z_3 and k = x_3 - z_3
abbrev twice_x : ℕ → ℕ → ℕ
twice_x a b = times (times a a) (times b b)

abbrev twice_z : ℕ → ℕ → ℕ
twice_z a b = times (minus (times a a) (times b b)) (plus (times a a) (times 121665 (minus (times a a) (times b b))))

abbrev sum_of_products : ℕ → ℕ → ℕ → ℕ → ℕ
sum_of_products a b c k = plus (times k a) (times c b)

abbrev difference_of_products : ℕ → ℕ → ℕ → ℕ → ℕ
difference_of_products a b c k = minus (times k a) (times c b)

d_is : times 121666 curve_d ≡ minus 0 121665
unfolding curve_d times minus
d_is = refl

-- The doubling.
module _ (x z : ℕ) (p : Affine) (hp : OnCurve p) (s : ProjectiveU x z p) where
  abbrev a : ℕ
  a = plus x z

  abbrev doubling_values : List ℕ
  doubling_values = curve_d ∷ p.x ∷ p.y ∷ a ∷ (sum p p).y ∷ []

  doubling_values_below : AllBelow field doubling_values
  doubling_values_below = (d_low, (hp.x_low, (hp.y_low, (plus_low x z, (sum_y_low p p hp hp, tt)))))

  doubled_is : times (twice_x a (times p.y a)) (minus 1 (sum p p).y) ≡ times (twice_z a (times p.y a)) (plus 1 (sum p p).y)
  unfolding times plus minus
  doubled_is =
      let y : Expr = var 2 in
      let aa : Expr = var 3 ⊗ var 3 in
      let bb : Expr = var 2 ⊗ var 3 ⊗ (var 2 ⊗ var 3) in
      let e : Expr = aa ⊖ bb in
      let w : Expr = var 4 in
      let t : Expr = var 0 ⊗ (var 1 ⊗ var 1) ⊗ (var 2 ⊗ var 2) in
      let f : Expr = num 1 ⊖ t in
      let more : Expr = num 1 ⊖ y ⊗ y in
      let x2 : Expr = aa ⊗ bb in
      let z2 : Expr = e ⊗ (aa ⊕ num 121665 ⊗ e) in
      cancelled _ _ (f_of p p) (times_low _ _) (times_low _ _) (minus_low 1 (t_of p p)) (f_nonzero p p hp hp)
      (deduced (x2 ⊗ (num 1 ⊖ w) ⊗ f) (z2 ⊗ (num 1 ⊕ w) ⊗ f)
      (given (num 0 ⊖ x2 ⊖ z2) (w ⊗ f) (var 2 ⊗ var 2 ⊕ var 1 ⊗ var 1)
      ∷ given (aa ⊗ aa ⊗ (y ⊗ y ⊖ more ⊗ (num 121666 ⊖ num 121665 ⊗ y ⊗ y) ⊕ num 243332 ⊗ more)) (y ⊗ y ⊖ var 1 ⊗ var 1) (num 1 ⊕ t)
      ∷ given (num 2 ⊗ aa ⊗ aa ⊗ more ⊗ (var 1 ⊗ var 1) ⊗ (y ⊗ y)) (num 121666 ⊗ var 0) (num 0 ⊖ num 121665) ∷ [])
      doubling_values doubling_values_below (sum_y p p hp hp, (hp.is, (d_is, tt))) refl)

  twice_not_both_zero : twice_x a (times p.y a) ≡ 0 → twice_z a (times p.y a) ≡ 0 → ⊥
  unfolding times plus minus
  twice_not_both_zero ex ez =
      let some = sum_nonzero x z p hp s in
      let aa_nonzero : times a a ≢ 0 = times_nonzero a a (plus_low x z) (plus_low x z) some some in
      let b : ℕ = times p.y a in
      let b_zero : b ≡ 0 =
      ⊎_elim (λ (k : times a a ≡ 0). absurd (aa_nonzero k)) (λ (k : times b b ≡ 0). ⊎_elim (λ (n : b ≡ 0). n) (λ (n : b ≡ 0). n) (times_zero b b (times_low p.y a) (times_low p.y a) k))
      (times_zero (times a a) (times b b) (times_low a a) (times_low b b) ex) in
      let all : times 121666 (times (times a a) (times a a)) ≡ 0 =
      deduced (num 121666 ⊗ (var 0 ⊗ var 0 ⊗ (var 0 ⊗ var 0))) (num 0)
      (given (num 1) ((var 0 ⊗ var 0 ⊖ var 1 ⊗ var 1) ⊗ (var 0 ⊗ var 0 ⊕ num 121665 ⊗ (var 0 ⊗ var 0 ⊖ var 1 ⊗ var 1))) (num 0)
      ∷ given (var 1 ⊗ (num 243331 ⊗ var 0 ⊗ var 0 ⊖ num 121665 ⊗ var 1 ⊗ var 1)) (var 1) (num 0) ∷ [])
      (a ∷ b ∷ []) (plus_low x z, (times_low p.y a, tt)) (ez, (b_zero, tt)) refl in
      times_nonzero 121666 (times (times a a) (times a a)) (omega arith) (times_low _ _) (λ (k : 121666 ≡ 0). omega (arith, k))
      (times_nonzero (times a a) (times a a) (times_low a a) (times_low a a) aa_nonzero aa_nonzero) all

  twice_projective : ProjectiveU (twice_x a (times p.y a)) (twice_z a (times p.y a)) (sum p p)
  twice_projective = record { x_low = times_low _ _; z_low = times_low _ _; is = doubled_is; some = twice_not_both_zero }

projective_by : (x z m n : ℕ) (p : Affine) → x ≡ m → z ≡ n → ProjectiveU m n p → ProjectiveU x z p
projective_by x z m n p ex ez s = rw (ex, ez) s

pub doubled_projective : (x z : ℕ) (p : Affine) → OnCurve p → ProjectiveU x z p → ProjectiveU (twice_x (plus x z) (minus x z)) (twice_z (plus x z) (minus x z)) (sum p p)
doubled_projective x z p hp s =
    let r = difference_by_sum x z p hp s in
    projective_by _ _ _ _ (sum p p) (ap (twice_x (plus x z)) r) (ap (twice_z (plus x z)) r) (twice_projective x z p hp s)

-- the sum of two points, whose difference has the u-coordinate u and this y
pub record IsDifference (u : ℕ) (o p q : Affine) : Type 0 where
  pub u_low : u < field
  pub u_is : times u (minus 1 o.y) ≡ plus 1 o.y
  pub not_one : o.y ≢ 1
  pub not_minus_one : o.y ≢ minus 0 1
  pub is : times o.y (g_of p q) ≡ minus (times p.y q.y) (times p.x q.x)

-- 1 + y and 1 - y aren't 0
pub one_plus_nonzero : (y : ℕ) → y < field → y ≢ minus 0 1 → plus 1 y ≢ 0
unfolding plus minus
one_plus_nonzero y low h e = h (deduced (var 0) (num 0 ⊖ num 1) (given (num 1) (num 1 ⊕ var 0) (num 0) ∷ []) (y ∷ []) (low, tt) (e, tt) refl)

pub one_minus_nonzero : (y : ℕ) → y < field → y ≢ 1 → minus 1 y ≢ 0
unfolding minus
one_minus_nonzero y low h e = h (deduced (var 0) (num 1) (given (num 0 ⊖ num 1) (num 1 ⊖ var 0) (num 0) ∷ []) (y ∷ []) (low, tt) (e, tt) refl)

-- The sum of both points.
module _ (u : ℕ) (o p q : Affine) (ho : OnCurve o) (hp : OnCurve p) (hq : OnCurve q) (is : IsDifference u o p q) (a c : ℕ) (a_low : a < field) (c_low : c < field) (a_nonzero : a ≢ 0) (c_nonzero : c ≢ 0) where
  abbrev sum_a : ℕ
  sum_a = sum_of_products a (times p.y a) c (times q.y c)

  abbrev difference_a : ℕ
  difference_a = difference_of_products a (times p.y a) c (times q.y c)

  abbrev adding_values : List ℕ
  adding_values = curve_d ∷ p.x ∷ p.y ∷ q.x ∷ q.y ∷ a ∷ c ∷ o.y ∷ (sum p q).y ∷ u ∷ []

  adding_values_below : AllBelow field adding_values
  adding_values_below = (d_low, (hp.x_low, (hp.y_low, (hq.x_low, (hq.y_low, (a_low, (c_low, (ho.y_low, (sum_y_low p q hp hq, (is.u_low, tt))))))))))

  factors_nonzero : times (times (f_of p q) (g_of p q)) (minus 1 o.y) ≢ 0
  factors_nonzero =
      times_nonzero (times (f_of p q) (g_of p q)) (minus 1 o.y) (times_low _ _) (minus_low 1 o.y)
      (times_nonzero (f_of p q) (g_of p q) (minus_low 1 (t_of p q)) (plus_low 1 (t_of p q)) (f_nonzero p q hp hq) (g_nonzero p q hp hq)) (one_minus_nonzero o.y ho.y_low is.not_one)

  added_is : times (times sum_a sum_a) (minus 1 (sum p q).y) ≡ times (times u (times difference_a difference_a)) (plus 1 (sum p q).y)
  unfolding times plus minus
  added_is =
      let x1 : Expr = var 1 in
      let y1 : Expr = var 2 in
      let x2 : Expr = var 3 in
      let y2 : Expr = var 4 in
      let va : Expr = var 5 in
      let vc : Expr = var 6 in
      let y0 : Expr = var 7 in
      let w : Expr = var 8 in
      let vu : Expr = var 9 in
      let t : Expr = var 0 ⊗ (x1 ⊗ x2) ⊗ (y1 ⊗ y2) in
      let f : Expr = num 1 ⊖ t in
      let g : Expr = num 1 ⊕ t in
      let h : Expr = y1 ⊗ y2 ⊕ x1 ⊗ x2 in
      let m : Expr = y1 ⊗ y2 ⊖ x1 ⊗ x2 in
      let s : Expr = y2 ⊗ vc ⊗ va ⊕ vc ⊗ (y1 ⊗ va) in
      let k : Expr = y2 ⊗ vc ⊗ va ⊖ vc ⊗ (y1 ⊗ va) in
      let ac : Expr = va ⊗ va ⊗ (vc ⊗ vc) in
      cancelled _ _ (times (times (f_of p q) (g_of p q)) (minus 1 o.y)) (times_low _ _) (times_low _ _) (times_low _ _) factors_nonzero
      (deduced (s ⊗ s ⊗ (num 1 ⊖ w) ⊗ (f ⊗ g ⊗ (num 1 ⊖ y0))) (vu ⊗ (k ⊗ k) ⊗ (num 1 ⊕ w) ⊗ (f ⊗ g ⊗ (num 1 ⊖ y0)))
      (given (num 0 ⊖ k ⊗ k ⊗ g ⊗ (f ⊕ w ⊗ f)) (vu ⊗ (num 1 ⊖ y0)) (num 1 ⊕ y0)
      ∷ given (num 0 ⊖ s ⊗ s ⊗ (f ⊖ w ⊗ f) ⊖ k ⊗ k ⊗ (f ⊕ w ⊗ f)) (y0 ⊗ g) m
      ∷ given (num 0 ⊖ s ⊗ s ⊗ (g ⊖ m) ⊖ k ⊗ k ⊗ (g ⊕ m)) (w ⊗ f) h
      ∷ given (ac ⊗ difference_cofactor_1) (y1 ⊗ y1 ⊖ x1 ⊗ x1) (num 1 ⊕ var 0 ⊗ (x1 ⊗ x1) ⊗ (y1 ⊗ y1))
      ∷ given (ac ⊗ difference_cofactor_2) (y2 ⊗ y2 ⊖ x2 ⊗ x2) (num 1 ⊕ var 0 ⊗ (x2 ⊗ x2) ⊗ (y2 ⊗ y2)) ∷ [])
      adding_values adding_values_below (is.u_is, (is.is, (sum_y p q hp hq, (hp.is, (hq.is, tt))))) refl)

  -- the y of both points aren't both 0
  not_both : p.y ≡ 0 → q.y ≡ 0 → ⊥
  unfolding times plus minus
  not_both e1 e2 =
      let doubling_values : List ℕ = curve_d ∷ p.x ∷ p.y ∷ q.x ∷ q.y ∷ o.y ∷ [] in
      let below : AllBelow field doubling_values = (d_low, (hp.x_low, (hp.y_low, (hq.x_low, (hq.y_low, (ho.y_low, tt)))))) in
      let s1 : times p.x p.x ≡ minus 0 1 = deduced (var 1 ⊗ var 1) (num 0 ⊖ num 1)
      (given (num 0 ⊖ num 1) (var 2 ⊗ var 2 ⊖ var 1 ⊗ var 1) (num 1 ⊕ var 0 ⊗ (var 1 ⊗ var 1) ⊗ (var 2 ⊗ var 2))
      ∷ given (var 2 ⊖ var 0 ⊗ var 1 ⊗ var 1 ⊗ var 2) (var 2) (num 0) ∷ []) doubling_values below (hp.is, (e1, tt)) refl in
      let s2 : times q.x q.x ≡ minus 0 1 = deduced (var 3 ⊗ var 3) (num 0 ⊖ num 1)
      (given (num 0 ⊖ num 1) (var 4 ⊗ var 4 ⊖ var 3 ⊗ var 3) (num 1 ⊕ var 0 ⊗ (var 3 ⊗ var 3) ⊗ (var 4 ⊗ var 4))
      ∷ given (var 4 ⊖ var 0 ⊗ var 3 ⊗ var 3 ⊗ var 4) (var 4) (num 0) ∷ []) doubling_values below (hq.is, (e2, tt)) refl in
      let s0 : o.y ≡ minus 0 (times p.x q.x) = deduced (var 5) (num 0 ⊖ var 1 ⊗ var 3)
      (given (num 1) (var 5 ⊗ (num 1 ⊕ var 0 ⊗ (var 1 ⊗ var 3) ⊗ (var 2 ⊗ var 4))) (var 2 ⊗ var 4 ⊖ var 1 ⊗ var 3)
      ∷ given (var 4 ⊖ var 5 ⊗ var 0 ⊗ var 1 ⊗ var 3 ⊗ var 4) (var 2) (num 0) ∷ []) doubling_values below (is.is, (e1, tt)) refl in
      let none : times (minus 1 o.y) (plus 1 o.y) ≡ 0 = deduced ((num 1 ⊖ var 5) ⊗ (num 1 ⊕ var 5)) (num 0)
      (given (num 0 ⊖ (var 5 ⊖ var 1 ⊗ var 3)) (var 5) (num 0 ⊖ var 1 ⊗ var 3)
      ∷ given (num 0 ⊖ var 3 ⊗ var 3) (var 1 ⊗ var 1) (num 0 ⊖ num 1) ∷ given (num 1) (var 3 ⊗ var 3) (num 0 ⊖ num 1) ∷ []) doubling_values below (s0, (s1, (s2, tt))) refl in
      times_nonzero (minus 1 o.y) (plus 1 o.y) (minus_low 1 o.y) (plus_low 1 o.y) (one_minus_nonzero o.y ho.y_low is.not_one) (one_plus_nonzero o.y ho.y_low is.not_minus_one) none

  u_nonzero : u ≢ 0
  unfolding times minus plus
  u_nonzero e = one_plus_nonzero o.y ho.y_low is.not_minus_one (deduced (num 1 ⊕ var 1) (num 0) (given (num 0 ⊖ num 1) (var 0 ⊗ (num 1 ⊖ var 1)) (num 1 ⊕ var 1) ∷ given (num 1 ⊖ var 1) (var 0) (num 0) ∷ [])
      (u ∷ o.y ∷ []) (is.u_low, (ho.y_low, tt)) (is.u_is, (e, tt)) refl)

  root_zero : (n : ℕ) → n < field → times n n ≡ 0 → n ≡ 0
  root_zero n low e = ⊎_elim (λ (k : n ≡ 0). k) (λ (k : n ≡ 0). k) (times_zero n n low low e)

  not_both_zero : times sum_a sum_a ≡ 0 → times u (times difference_a difference_a) ≡ 0 → ⊥
  unfolding times plus minus
  not_both_zero es ed =
      let s : sum_a ≡ 0 = root_zero sum_a (plus_low _ _) es in
      let k : difference_a ≡ 0 =
      ⊎_elim (λ (z : u ≡ 0). absurd (u_nonzero z)) (λ (z : times difference_a difference_a ≡ 0). root_zero difference_a (minus_low _ _) z)
      (times_zero u (times difference_a difference_a) is.u_low (times_low _ _) ed) in
      let four : List ℕ = p.y ∷ q.y ∷ a ∷ c ∷ [] in
      let below : AllBelow field four = (hp.y_low, (hq.y_low, (a_low, (c_low, tt)))) in
      let sum : Expr = var 1 ⊗ var 3 ⊗ var 2 ⊕ var 3 ⊗ (var 0 ⊗ var 2) in
      let difference : Expr = var 1 ⊗ var 3 ⊗ var 2 ⊖ var 3 ⊗ (var 0 ⊗ var 2) in
      let n : ℕ = times 2 (times a c) in
      let n_nonzero : n ≢ 0 = times_nonzero 2 (times a c) (omega arith) (times_low a c) (λ (k : 2 ≡ 0). omega (arith, k)) (times_nonzero a c a_low c_low a_nonzero c_nonzero) in
      not_both
      (cancelled p.y 0 n hp.y_low (omega arith) (times_low 2 (times a c)) n_nonzero
      (deduced (var 0 ⊗ (num 2 ⊗ (var 2 ⊗ var 3))) (num 0 ⊗ (num 2 ⊗ (var 2 ⊗ var 3))) (given (num 1) sum (num 0) ∷ given (num 0 ⊖ num 1) difference (num 0) ∷ []) four below (s, (k, tt)) refl))
      (cancelled q.y 0 n hq.y_low (omega arith) (times_low 2 (times a c)) n_nonzero
      (deduced (var 1 ⊗ (num 2 ⊗ (var 2 ⊗ var 3))) (num 0 ⊗ (num 2 ⊗ (var 2 ⊗ var 3))) (given (num 1) sum (num 0) ∷ given (num 1) difference (num 0) ∷ []) four below (s, (k, tt)) refl))

  sum_projective : ProjectiveU (times sum_a sum_a) (times u (times difference_a difference_a)) (sum p q)
  sum_projective = record { x_low = times_low _ _; z_low = times_low _ _; is = added_is; some = not_both_zero }

-- the sum of a step, with the points in this order
pub added_projective : (u : ℕ) (o p q : Affine) → OnCurve o → OnCurve p → OnCurve q → IsDifference u o p q → (x2 z2 x3 z3 : ℕ) → ProjectiveU x2 z2 p → ProjectiveU x3 z3 q
    → ProjectiveU (times (sum_of_products (plus x2 z2) (minus x2 z2) (plus x3 z3) (minus x3 z3)) (sum_of_products (plus x2 z2) (minus x2 z2) (plus x3 z3) (minus x3 z3)))
    (times u (times (difference_of_products (plus x2 z2) (minus x2 z2) (plus x3 z3) (minus x3 z3)) (difference_of_products (plus x2 z2) (minus x2 z2) (plus x3 z3) (minus x3 z3)))) (sum p q)
added_projective u o p q ho hp hq is x2 z2 x3 z3 s t =
    let a : ℕ = plus x2 z2 in
    let c : ℕ = plus x3 z3 in
    let r = difference_by_sum x2 z2 p hp s in
    let k = difference_by_sum x3 z3 q hq t in
    projective_by _ _ _ _ (sum p q)
    (ap₂ (λ (b e : ℕ). times (sum_of_products a b c e) (sum_of_products a b c e)) r k)
    (ap₂ (λ (b e : ℕ). times u (times (difference_of_products a b c e) (difference_of_products a b c e))) r k)
    (sum_projective u o p q ho hp hq is a c (plus_low x2 z2) (plus_low x3 z3) (sum_nonzero x2 z2 p hp s) (sum_nonzero x3 z3 q hq t))
