-- The Montgomery ladder computes multiples: the point (x, y) of the curve has the u-coordinate (1 + y) / (1 - y) (RFC 7748 section 4.1).

use Rattle.std.proofs.Common.{◌≡◌, ◌≢◌, ℕ, zero, suc, ◌+◌, ◌-◌, ◌*◌, ◌<◌, cond, eqb, List, [], ◌∷◌, refl, sym, ap, ◌∙◌, arith, ⊎_elim}
use Prim.{tt}
use Rattle.sshcurve.specs.Bits.{bit_at}
use Rattle.sshpolynomials.specs.Polynomials.{given, var, num, ◌⊕◌, ◌⊖◌, ◌⊗◌}
use Rattle.sshcurve.specs.FieldNumbers.{field, plus, minus, times, reciprocal}
use Rattle.sshcurve.specs.X25519Numbers.{Ladder, climb, exchanged, step, x25519_number}
use Rattle.sshcurve.specs.Curve.{Affine, OnCurve, curve_d, f_of, g_of, h_of, sum, opposite, multiple}
use Rattle.sshcurve.proofs.FieldLemmas.{AllBelow, inverse, minus_low, times_zero, reciprocal_low, times_low, times_nonzero}
use Rattle.sshcurve.proofs.CurveLemmas.{deduced, d_low}
use Rattle.sshcurve.proofs.GroupLemmas.{cancelled, opposite_on, sum_neutral, sum_on, sum_opposite, sum_y}
use Rattle.sshcurve.proofs.AssociativityLemmas.{sum_associates}
use Rattle.sshcurve.proofs.MultipleLemmas.{multiple_on, multiple_sum}
use Rattle.sshcurve.proofs.CoordinateLemmas.{bit_below_2}
use Rattle.sshcurve.proofs.StepLemmas.{IsDifference, ProjectiveU, added_projective, one_minus_nonzero, doubled_projective}

-- the number of the n highest of bits 254 to 0
unfoldable pub bits_to : List ℕ → ℕ → ℕ
bits_to scalar zero = 0
bits_to scalar (suc n) = 2 * bits_to scalar n + bit_at scalar (254 - n)

-- u is the u-coordinate of this point, whose y is neither 1 nor -1
pub record IsU (u : ℕ) (p : Affine) : Type 0 where
  pub on : OnCurve p
  pub u_low : u < field
  pub u_is : times u (minus 1 p.y) ≡ plus 1 p.y
  pub not_one : p.y ≢ 1
  pub not_minus_one : p.y ≢ minus 0 1

-- o is the difference of p + o and p
difference_is : (o p : Affine) → OnCurve o → OnCurve p → times o.y (g_of p (sum p o)) ≡ minus (times p.y (sum p o).y) (times p.x (sum p o).x)
unfolding times plus minus
difference_is o p ho hp =
    let q : Affine = sum p o in
    let hq = sum_on p o hp ho in
    let n : Affine = opposite p in
    let hn = opposite_on p hp in
    let back : sum n q ≡ o = sym (sum_associates n p o hn hp ho) ∙ ap (λ (k : Affine). sum k o) (sum_opposite p hp) ∙ sum_neutral o ho in
    let own : times o.y (f_of n q) ≡ h_of n q = ap (λ (k : Affine). times k.y (f_of n q)) (sym back) ∙ sum_y n q hn hq in
    deduced (var 5 ⊗ (num 1 ⊕ var 0 ⊗ (var 1 ⊗ var 3) ⊗ (var 2 ⊗ var 4))) (var 2 ⊗ var 4 ⊖ var 1 ⊗ var 3)
    (given (num 1) (var 5 ⊗ (num 1 ⊖ var 0 ⊗ ((num 0 ⊖ var 1) ⊗ var 3) ⊗ (var 2 ⊗ var 4))) (var 2 ⊗ var 4 ⊕ (num 0 ⊖ var 1) ⊗ var 3) ∷ [])
    (curve_d ∷ p.x ∷ p.y ∷ q.x ∷ q.y ∷ o.y ∷ []) (d_low, (hp.x_low, (hp.y_low, (hq.x_low, (hq.y_low, (ho.y_low, tt)))))) (own, tt) refl

turned_difference : (o p q : Affine) → OnCurve o → OnCurve p → OnCurve q → times o.y (g_of p q) ≡ minus (times p.y q.y) (times p.x q.x) → times o.y (g_of q p) ≡ minus (times q.y p.y) (times q.x p.x)
unfolding times plus minus
turned_difference o p q ho hp hq e =
    deduced (var 5 ⊗ (num 1 ⊕ var 0 ⊗ (var 3 ⊗ var 1) ⊗ (var 4 ⊗ var 2))) (var 4 ⊗ var 2 ⊖ var 3 ⊗ var 1)
    (given (num 1) (var 5 ⊗ (num 1 ⊕ var 0 ⊗ (var 1 ⊗ var 3) ⊗ (var 2 ⊗ var 4))) (var 2 ⊗ var 4 ⊖ var 1 ⊗ var 3) ∷ [])
    (curve_d ∷ p.x ∷ p.y ∷ q.x ∷ q.y ∷ o.y ∷ []) (d_low, (hp.x_low, (hp.y_low, (hq.x_low, (hq.y_low, (ho.y_low, tt)))))) (e, tt) refl

projective_at : (x z : ℕ) (p q : Affine) → p ≡ q → ProjectiveU x z p → ProjectiveU x z q
projective_at x z p q e s = rw (sym e) s

module _ (u : ℕ) (o : Affine) (is : IsU u o) where
  -- the ladder's points are n times and n + 1 times o
  pub record AreMultiples (s : Ladder) (n : ℕ) : Type 0 where
    pub lower : ProjectiveU s.x2 s.z2 (multiple n o)
    pub upper : ProjectiveU s.x3 s.z3 (multiple (suc n) o)

  next : (n : ℕ) → multiple (suc n) o ≡ sum (multiple n o) o
  unfolding multiple
  next n = refl

  module _ (n : ℕ) where
    abbrev p : Affine
    p = multiple n o

    abbrev q : Affine
    q = multiple (suc n) o

    hp : OnCurve p
    hp = multiple_on n o is.on

    hq : OnCurve q
    hq = multiple_on (suc n) o is.on

    lower_difference : IsDifference u o p q
    lower_difference = record {
      u_low = is.u_low;
      u_is = is.u_is;
      not_one = is.not_one;
      not_minus_one = is.not_minus_one;
      is = rw (next n) (difference_is o p is.on hp);
    }

    upper_difference : IsDifference u o q p
    upper_difference = record {
      u_low = is.u_low;
      u_is = is.u_is;
      not_one = is.not_one;
      not_minus_one = is.not_minus_one;
      is = turned_difference o p q is.on hp hq lower_difference.is;
    }

    step_by_zero : (s : Ladder) → AreMultiples s n → AreMultiples (step s u) (2 * n)
    unfolding step
    step_by_zero s h =
        let e : n + n ≡ 2 * n = omega arith in
        let f : n + suc n ≡ suc (2 * n) = omega arith in
        record {
          lower = projective_at _ _ (sum p p) (multiple (2 * n) o) (sym (multiple_sum n n o is.on) ∙ ap (λ (k : ℕ). multiple k o) e) (doubled_projective s.x2 s.z2 p hp h.lower);
          upper = projective_at _ _ (sum p q) (multiple (suc (2 * n)) o) (sym (multiple_sum n (suc n) o is.on) ∙ ap (λ (k : ℕ). multiple k o) f)
              (added_projective u o p q is.on hp hq lower_difference s.x2 s.z2 s.x3 s.z3 h.lower h.upper);
        }

    step_by_one : (s : Ladder) → AreMultiples s n → AreMultiples (exchanged (step (exchanged s) u)) (2 * n + 1)
    unfolding step
    step_by_one s h =
        let e : suc n + suc n ≡ suc (2 * n + 1) = omega arith in
        let f : suc n + n ≡ 2 * n + 1 = omega arith in
        record {
          lower = projective_at _ _ (sum q p) (multiple (2 * n + 1) o) (sym (multiple_sum (suc n) n o is.on) ∙ ap (λ (k : ℕ). multiple k o) f)
              (added_projective u o q p is.on hq hp upper_difference s.x3 s.z3 s.x2 s.z2 h.upper h.lower);
          upper = projective_at _ _ (sum q q) (multiple (suc (2 * n + 1)) o) (sym (multiple_sum (suc n) (suc n) o is.on) ∙ ap (λ (k : ℕ). multiple k o) e) (doubled_projective s.x3 s.z3 q hq h.upper);
        }

  at_number : (s : Ladder) (m n : ℕ) → m ≡ n → AreMultiples s m → AreMultiples s n
  at_number s m n e h = rw (sym e) h

  each : (bit n : ℕ) (s : Ladder) → bit < 2 → AreMultiples s n → AreMultiples (cond (eqb bit 1) (exchanged (step (exchanged s) u)) (step s u)) (2 * n + bit)
  each zero n s h k = let e : 2 * n ≡ 2 * n + 0 = omega arith in at_number (step s u) (2 * n) (2 * n + 0) e (step_by_zero n s k)
  each (suc zero) n s h k = step_by_one n s k
  each (suc (suc bit)) n s h k = absurd (omega arith)

  pub climb_is : (scalar : List ℕ) (n : ℕ) → AreMultiples (climb scalar u n) (bits_to scalar n)
  unfolding climb bits_to multiple times plus minus
  climb_is scalar zero = record {
    lower = record { x_low = omega arith; z_low = omega arith; is = refl; some = λ (e : 1 ≡ 0) _. omega (arith, e) };
    upper = record {
      x_low = is.u_low;
      z_low = omega arith;
      is = rw (sum_neutral o is.on) (deduced (var 0 ⊗ (num 1 ⊖ var 1)) (num 1 ⊗ (num 1 ⊕ var 1)) (given (num 1) (var 0 ⊗ (num 1 ⊖ var 1)) (num 1 ⊕ var 1) ∷ [])
          (u ∷ o.y ∷ []) (is.u_low, (is.on.y_low, tt)) (is.u_is, tt) refl);
      some = λ _ (e : 1 ≡ 0). omega (arith, e);
    };
  }
  climb_is scalar (suc n) = each (bit_at scalar (254 - n)) (bits_to scalar n) (climb scalar u n) (bit_below_2 scalar (254 - n)) (climb_is scalar n)

-- the u-coordinate of a point
unfoldable pub u_of : Affine → ℕ
u_of p = times (plus 1 p.y) (reciprocal (minus 1 p.y))

quotient_is_u : (x z : ℕ) (p : Affine) → OnCurve p → ProjectiveU x z p → p.y ≢ 1 → times x (reciprocal z) ≡ u_of p
unfolding u_of times plus minus
quotient_is_u x z p hp s not_one =
    let b : ℕ = minus 1 p.y in
    let b_nonzero = one_minus_nonzero p.y hp.y_low not_one in
    let four : List ℕ = x ∷ z ∷ p.y ∷ reciprocal z ∷ reciprocal b ∷ [] in
    let below : AllBelow field four = (s.x_low, (s.z_low, (hp.y_low, (reciprocal_low z, (reciprocal_low b, tt))))) in
    let z_nonzero : z ≢ 0 = λ (e : z ≡ 0).
    (let none : times x b ≡ 0 = deduced (var 0 ⊗ (num 1 ⊖ var 2)) (num 0) (given (num 1) (var 0 ⊗ (num 1 ⊖ var 2)) (var 1 ⊗ (num 1 ⊕ var 2)) ∷ given (num 1 ⊕ var 2) (var 1) (num 0) ∷ []) four below (s.is, (e, tt)) refl in
    ⊎_elim (λ (k : x ≡ 0). s.some k e) (λ (k : b ≡ 0). b_nonzero k) (times_zero x b s.x_low (minus_low 1 p.y) none)) in
    cancelled _ _ (times z b) (times_low x (reciprocal z)) (times_low (plus 1 p.y) (reciprocal b)) (times_low z b) (times_nonzero z b s.z_low (minus_low 1 p.y) z_nonzero b_nonzero)
    (deduced (var 0 ⊗ var 3 ⊗ (var 1 ⊗ (num 1 ⊖ var 2))) ((num 1 ⊕ var 2) ⊗ var 4 ⊗ (var 1 ⊗ (num 1 ⊖ var 2)))
    (given (var 0 ⊗ (num 1 ⊖ var 2)) (var 1 ⊗ var 3) (num 1) ∷ given (num 0 ⊖ (num 1 ⊕ var 2) ⊗ var 1) ((num 1 ⊖ var 2) ⊗ var 4) (num 1)
    ∷ given (num 1) (var 0 ⊗ (num 1 ⊖ var 2)) (var 1 ⊗ (num 1 ⊕ var 2)) ∷ []) four below (inverse z s.z_low z_nonzero, (inverse b (minus_low 1 p.y) b_nonzero, (s.is, tt))) refl)

-- X25519 gives the u-coordinate of a multiple
pub x25519_is : (u : ℕ) (o : Affine) → IsU u o → (scalar : List ℕ) → (multiple (bits_to scalar 255) o).y ≢ 1 → x25519_number scalar u ≡ u_of (multiple (bits_to scalar 255) o)
unfolding x25519_number
x25519_is u o is scalar not_one =
    let k : ℕ = bits_to scalar 255 in
    quotient_is_u _ _ (multiple k o) (multiple_on k o is.on) (climb_is u o is scalar 255).lower not_one

-- a point's own coordinate
pub own_u : (p : Affine) → OnCurve p → p.y ≢ 1 → p.y ≢ minus 0 1 → IsU (u_of p) p
unfolding u_of times plus minus
own_u p hp not_one not_minus_one = record {
  on = hp;
  u_low = times_low _ _;
  not_one = not_one;
  not_minus_one = not_minus_one;
  u_is = deduced ((num 1 ⊕ var 0) ⊗ var 1 ⊗ (num 1 ⊖ var 0)) (num 1 ⊕ var 0) (given (num 1 ⊕ var 0) ((num 1 ⊖ var 0) ⊗ var 1) (num 1) ∷ [])
      (p.y ∷ reciprocal (minus 1 p.y) ∷ []) (hp.y_low, (reciprocal_low (minus 1 p.y), tt)) (inverse (minus 1 p.y) (minus_low 1 p.y) (one_minus_nonzero p.y hp.y_low not_one), tt) refl;
}
