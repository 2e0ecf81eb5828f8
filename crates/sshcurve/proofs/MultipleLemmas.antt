-- Multiples of an affine point, by sums and products of numbers.

use Rattle.std.proofs.Common.{◌≡◌, ℕ, zero, suc, ◌+◌, ◌*◌, refl, sym, ap, ◌∙◌, arith, add-suc}
use Rattle.sshcurve.specs.Curve.{Affine, OnCurve, sum, neutral, multiple}
use Rattle.sshcurve.proofs.GroupLemmas.{neutral_on, sum_commutes, sum_neutral, sum_on}
use Rattle.sshcurve.proofs.AssociativityLemmas.{sum_associates}

pub multiple_on : (n : ℕ) (p : Affine) → OnCurve p → OnCurve (multiple n p)
unfolding multiple
multiple_on zero p hp = neutral_on
multiple_on (suc n) p hp = sum_on (multiple n p) p (multiple_on n p hp) hp

pub sum_neutral_right : (p : Affine) → OnCurve p → sum p neutral ≡ p
sum_neutral_right p hp = sum_commutes p neutral hp neutral_on ∙ sum_neutral p hp

pub multiple_sum : (a b : ℕ) (p : Affine) → OnCurve p → multiple (a + b) p ≡ sum (multiple a p) (multiple b p)
unfolding multiple
multiple_sum a zero p hp =
    let e : a + 0 ≡ a = omega arith in
    ap (λ (n : ℕ). multiple n p) e ∙ sym (sum_neutral_right (multiple a p) (multiple_on a p hp))
multiple_sum a (suc b) p hp =
    ap (λ (n : ℕ). multiple n p) (add-suc a b) ∙ ap (λ (q : Affine). sum q p) (multiple_sum a b p hp)
    ∙ sum_associates (multiple a p) (multiple b p) p (multiple_on a p hp) (multiple_on b p hp) hp

pub multiple_one : (p : Affine) → OnCurve p → multiple 1 p ≡ p
unfolding multiple
multiple_one p hp = sum_neutral p hp

pub multiple_product : (a b : ℕ) (p : Affine) → OnCurve p → multiple (a * b) p ≡ multiple a (multiple b p)
unfolding multiple
multiple_product zero b p hp = let e : 0 * b ≡ 0 = omega arith in ap (λ (n : ℕ). multiple n p) e
multiple_product (suc a) b p hp =
    let e : suc a * b ≡ a * b + b = omega arith in
    ap (λ (n : ℕ). multiple n p) e ∙ multiple_sum (a * b) b p hp ∙ ap (λ (q : Affine). sum q (multiple b p)) (multiple_product a b p hp)

pub multiple_neutral : (n : ℕ) → multiple n neutral ≡ neutral
unfolding multiple
multiple_neutral zero = refl
multiple_neutral (suc n) = ap (λ (q : Affine). sum q neutral) (multiple_neutral n) ∙ sum_neutral neutral neutral_on
