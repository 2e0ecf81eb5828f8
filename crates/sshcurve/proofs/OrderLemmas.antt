-- A multiple of the base point is neutral only if the order L divides the number.

use Rattle.std.proofs.Common.{◌≡◌, ◌≢◌, ℕ, suc, ◌+◌, ◌-◌, ◌*◌, ◌/◌, ◌%◌, ◌^◌, [], ◌∷◌, refl, sym, ap, ◌∙◌, arith, ⊎_elim}
use Rattle.std.proofs.Math.Nat.{pow-suc}
use Prim.{tt}
use Rattle.sshcurve.specs.Primes.{IsField}
use Rattle.sshcurve.specs.Scalar.{order}
use Rattle.sshpolynomials.specs.Polynomials.{given, var, num, ◌⊕◌, ◌⊖◌, ◌⊗◌}
use Rattle.sshcurve.specs.FieldNumbers.{plus, minus, times}
use Rattle.sshcurve.specs.Curve.{Affine, OnCurve, curve_d, sum, neutral, multiple}
use Rattle.sshcurve.proofs.Certificates.{prime_order}
use Rattle.sshcurve.proofs.FieldLemmas.{times_zero, plus_low, times_low}
use Rattle.sshcurve.proofs.CurveLemmas.{deduced, d_low}
use Rattle.sshcurve.proofs.GroupLemmas.{cancelled, same_point, sum_neutral, sum_x, sum_y, sum_x_low, sum_y_low}
use Rattle.sshcurve.proofs.MultipleLemmas.{multiple_neutral, multiple_on, multiple_one, multiple_product, multiple_sum}
use Rattle.sshcurve.specs.Represents.{base}
use Rattle.sshcurve.proofs.CoordinateLemmas.{base_on, order_neutral}

abbrev pub order_field : IsField order
order_field = prime_order

pub multiple_of_order : (q : ℕ) → multiple (q * order) base ≡ neutral
multiple_of_order q = multiple_product q order base base_on ∙ ap (multiple q) order_neutral ∙ multiple_neutral q

-- the number may be taken modulo the order
pub multiple_modulo : (n : ℕ) → multiple n base ≡ multiple (n % order) base
multiple_modulo n =
    let e : n ≡ n / order * order + n % order = omega arith in
    ap (λ (k : ℕ). multiple k base) e ∙ multiple_sum (n / order * order) (n % order) base base_on ∙ ap (λ (p : Affine). sum p (multiple (n % order) base)) (multiple_of_order (n / order))
    ∙ sum_neutral (multiple (n % order) base) (multiple_on (n % order) base base_on)

-- an inverse modulo the order
inverse_in : (m : ℕ) → IsField m → (n : ℕ) → n % m ≢ 0 → n ^ (m - 2) * n % m ≡ 1
inverse_in m is n h =
    let some = is.some in
    let e : m - 1 ≡ suc (m - 2) = omega (arith, some) in
    ap (λ (k : ℕ). k % m) (sym (pow-suc n (m - 2)) ∙ ap (λ (k : ℕ). n ^ k) (sym e)) ∙ is.fermat n h

base_not_neutral : base ≢ neutral
unfolding base
base_not_neutral e = let x : 15112221349535400772501151409588531511454012693041857206046113283949847762202 ≡ 0 = ap (λ (p : Affine). p.x) e in omega (arith, x)

pub multiple_not_neutral : (n : ℕ) → n % order ≢ 0 → multiple n base ≢ neutral
multiple_not_neutral n h e = base_not_neutral (sym (multiple_one base base_on) ∙ by_inverse (n ^ (order - 2)) (inverse_in order order_field n h))
  where
    by_inverse : (k : ℕ) → k * n % order ≡ 1 → multiple 1 base ≡ neutral
    by_inverse k one =
        ap (λ (j : ℕ). multiple j base) (sym one) ∙ sym (multiple_modulo (k * n)) ∙ multiple_product k n base base_on ∙ ap (multiple k) e ∙ multiple_neutral k

-- a point of the curve whose y is 1 is neutral, and one whose y is -1 is its own opposite
one_plus_d_nonzero : plus 1 curve_d ≢ 0
unfolding plus curve_d
one_plus_d_nonzero e = omega (arith, e)

x_zero : (p : Affine) → OnCurve p → times p.y p.y ≡ 1 → p.x ≡ 0
unfolding times plus minus
x_zero p hp e =
    let square : times p.x p.x ≡ 0 =
    cancelled (times p.x p.x) 0 (plus 1 curve_d) (times_low p.x p.x) (omega arith) (plus_low 1 curve_d) one_plus_d_nonzero
    (deduced (var 1 ⊗ var 1 ⊗ (num 1 ⊕ var 0)) (num 0 ⊗ (num 1 ⊕ var 0))
    (given (num 0 ⊖ num 1) (var 2 ⊗ var 2 ⊖ var 1 ⊗ var 1) (num 1 ⊕ var 0 ⊗ (var 1 ⊗ var 1) ⊗ (var 2 ⊗ var 2)) ∷ given (num 1 ⊖ var 0 ⊗ var 1 ⊗ var 1) (var 2 ⊗ var 2) (num 1) ∷ [])
    (curve_d ∷ p.x ∷ p.y ∷ []) (d_low, (hp.x_low, (hp.y_low, tt))) (hp.is, (e, tt)) refl) in
    ⊎_elim (λ (a : p.x ≡ 0). a) (λ (a : p.x ≡ 0). a) (times_zero p.x p.x hp.x_low hp.x_low square)

pub y_one : (p : Affine) → OnCurve p → p.y ≡ 1 → p ≡ neutral
unfolding times
y_one p hp e = same_point _ _ (x_zero p hp (ap (λ (n : ℕ). times n n) e)) e

pub y_minus_one : (p : Affine) → OnCurve p → p.y ≡ minus 0 1 → sum p p ≡ neutral
unfolding times plus minus
y_minus_one p hp e =
    let x = x_zero p hp (ap (λ (n : ℕ). times n n) e) in
    same_point _ _
    (deduced (var 3) (num 0) (given (num 1) (var 3 ⊗ (num 1 ⊕ var 0 ⊗ (var 1 ⊗ var 1) ⊗ (var 2 ⊗ var 2))) (var 1 ⊗ var 2 ⊕ var 2 ⊗ var 1)
    ∷ given (num 2 ⊗ var 2 ⊖ var 3 ⊗ var 0 ⊗ var 1 ⊗ var 2 ⊗ var 2) (var 1) (num 0) ∷ [])
    (curve_d ∷ p.x ∷ p.y ∷ (sum p p).x ∷ []) (d_low, (hp.x_low, (hp.y_low, (sum_x_low p p hp hp, tt)))) (sum_x p p hp hp, (x, tt)) refl)
    (deduced (var 3) (num 1) (given (num 1) (var 3 ⊗ (num 1 ⊖ var 0 ⊗ (var 1 ⊗ var 1) ⊗ (var 2 ⊗ var 2))) (var 2 ⊗ var 2 ⊕ var 1 ⊗ var 1)
    ∷ given (var 1 ⊕ var 3 ⊗ var 0 ⊗ var 1 ⊗ var 2 ⊗ var 2) (var 1) (num 0) ∷ given (var 2 ⊖ num 1) (var 2) (num 0 ⊖ num 1) ∷ [])
    (curve_d ∷ p.x ∷ p.y ∷ (sum p p).y ∷ []) (d_low, (hp.x_low, (hp.y_low, (sum_y_low p p hp hp, tt)))) (sum_y p p hp hp, (x, (e, tt))) refl)

pub multiple_y : (n : ℕ) → n % order ≢ 0 → (multiple n base).y ≢ 1
multiple_y n h e = multiple_not_neutral n h (y_one (multiple n base) (multiple_on n base base_on) e)

pub multiple_y_minus : (n : ℕ) → n % order ≢ 0 → (multiple n base).y ≢ minus 0 1
multiple_y_minus n h e =
    let twice : multiple (n + n) base ≡ neutral = multiple_sum n n base base_on ∙ y_minus_one (multiple n base) (multiple_on n base base_on) e in
    multiple_not_neutral (n + n) (λ (z : (n + n) % order ≡ 0). h (omega (arith, z))) twice
