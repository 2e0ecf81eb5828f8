-- RFC 8032's formulas add and double the points that extended coordinates represent; doubling and adding gives multiples (section 5.1.4).

use Rattle.std.proofs.Common.{◌≡◌, ◌≢◌, ℕ, zero, suc, ◌+◌, ◌-◌, ◌*◌, ◌%◌, ◌<◌, cond, eqb, List, length, [], ◌∷◌, refl, sym, ap, ap₂, ◌∙◌, arith}
use Prim.{tt}
use Rattle.sshcurve.specs.Bits.{bit_at}
use Rattle.sshcurve.specs.Scalar.{number_in, number_to, order}
use Rattle.sshpolynomials.specs.Polynomials.{Expr, given, var, num, ◌⊕◌, ◌⊖◌, ◌⊗◌}
use Rattle.sshcurve.specs.FieldNumbers.{field, plus, minus, times, reciprocal}
use Rattle.sshcurve.specs.Curve.{Affine, OnCurve, curve_d, e_of, f_of, g_of, h_of, t_of, sum, neutral, opposite, multiple}
use Rattle.sshcurve.specs.Represents.{Represents, base, scaled_by}
use Rattle.sshcurve.specs.EdwardsNumbers as numbers
use Rattle.sshcurve.specs.EdwardsNumbers.{Coordinates, added, doubled, of_factors, multiple_to, neutral_numbers, base_numbers, twice_d_number}
use Rattle.sshcurve.proofs.FieldLemmas.{AllBelow, inverse, minus_low, plus_low, times_low, times_nonzero, reciprocal_low}
use Rattle.sshcurve.proofs.CurveLemmas.{deduced, d_low, f_nonzero, g_nonzero}
use Rattle.sshcurve.proofs.GroupLemmas.{same_point, sum_x, sum_y, sum_x_low, sum_y_low}
use Rattle.sshcurve.proofs.MultipleLemmas.{multiple_on, multiple_sum}

same_coordinates : (a b c k m n o q : ℕ) → a ≡ m → b ≡ n → c ≡ o → k ≡ q → ◌≡◌ {A = Coordinates} (record { x = a; y = b; z = c; t = k }) (record { x = m; y = n; z = o; t = q })
same_coordinates a b c k m n o q ea eb ec ek = rw (ea, eb, ec, ek) refl

-- The factors e, f, g, h of a sum, each times k or m, give coordinates of the sum.
module _ (p q : Affine) (hp : OnCurve p) (hq : OnCurve q) (k m : ℕ) (k_low : k < field) (m_low : m < field) (k_nonzero : k ≢ 0) (m_nonzero : m ≢ 0) where
  abbrev e : ℕ
  e = e_of p q

  abbrev f : ℕ
  f = f_of p q

  abbrev g : ℕ
  g = g_of p q

  abbrev h : ℕ
  h = h_of p q

  abbrev factor_values : List ℕ
  factor_values = e ∷ f ∷ g ∷ h ∷ k ∷ m ∷ (sum p q).x ∷ (sum p q).y ∷ []

  factor_values_below : AllBelow field factor_values
  factor_values_below =
      (plus_low (times p.x q.y) (times p.y q.x), (minus_low 1 (t_of p q), (plus_low 1 (t_of p q), (plus_low (times p.y q.y) (times p.x q.x), (k_low, (m_low, (sum_x_low p q hp hq, (sum_y_low p q hp hq, tt))))))))

  pub factors_represent : Represents (of_factors (times k e) (times m f) (times k g) (times m h)) (sum p q)
  unfolding of_factors times
  factors_represent = record {
    low = times_low (times m f) (times k g);
    some = times_nonzero (times m f) (times k g) (times_low m f) (times_low k g)
        (times_nonzero m f m_low (minus_low 1 (t_of p q)) m_nonzero (f_nonzero p q hp hq)) (times_nonzero k g k_low (plus_low 1 (t_of p q)) k_nonzero (g_nonzero p q hp hq));
    is = same_coordinates _ _ _ _ _ _ _ _
        (deduced (var 4 ⊗ var 0 ⊗ (var 5 ⊗ var 1)) (var 6 ⊗ (var 5 ⊗ var 1 ⊗ (var 4 ⊗ var 2))) (given (num 0 ⊖ var 4 ⊗ var 5 ⊗ var 1) (var 6 ⊗ var 2) (var 0) ∷ []) factor_values factor_values_below (sum_x p q hp hq, tt) refl)
        (deduced (var 4 ⊗ var 2 ⊗ (var 5 ⊗ var 3)) (var 7 ⊗ (var 5 ⊗ var 1 ⊗ (var 4 ⊗ var 2))) (given (num 0 ⊖ var 4 ⊗ var 5 ⊗ var 2) (var 7 ⊗ var 1) (var 3) ∷ []) factor_values factor_values_below (sum_y p q hp hq, tt) refl)
        refl
        (deduced (var 4 ⊗ var 0 ⊗ (var 5 ⊗ var 3)) (var 6 ⊗ var 7 ⊗ (var 5 ⊗ var 1 ⊗ (var 4 ⊗ var 2)))
        (given (num 0 ⊖ var 4 ⊗ var 5 ⊗ var 3) (var 6 ⊗ var 2) (var 0) ∷ given (num 0 ⊖ var 4 ⊗ var 5 ⊗ (var 6 ⊗ var 2)) (var 7 ⊗ var 1) (var 3) ∷ []) factor_values factor_values_below (sum_x p q hp hq, (sum_y p q hp hq, tt)) refl);
  }

by_coordinates : (c k : Coordinates) (p : Affine) → c ≡ k → Represents k p → Represents c p
by_coordinates c k p e h = rw e h

pub by_point : (c : Coordinates) (p q : Affine) → p ≡ q → Represents c p → Represents c q
by_point c p q e h = rw (sym e) h

twice_d_low : twice_d_number < field
twice_d_low = omega arith

twice_d_is : twice_d_number ≡ plus curve_d curve_d
unfolding plus curve_d
twice_d_is = refl

-- the sum of two points, by its factors
module _ (p q : Affine) (z w : ℕ) (hp : OnCurve p) (hq : OnCurve q) (z_low : z < field) (w_low : w < field) (z_nonzero : z ≢ 0) (w_nonzero : w ≢ 0) where
  abbrev k : ℕ
  k = times (times 2 z) w

  k_nonzero : k ≢ 0
  k_nonzero = times_nonzero (times 2 z) w (times_low 2 z) w_low (times_nonzero 2 z (omega arith) z_low (omega arith) z_nonzero) w_nonzero

  abbrev sum_values : List ℕ
  sum_values = curve_d ∷ p.x ∷ p.y ∷ q.x ∷ q.y ∷ z ∷ w ∷ twice_d_number ∷ []

  sum_values_below : AllBelow field sum_values
  sum_values_below = (d_low, (hp.x_low, (hp.y_low, (hq.x_low, (hq.y_low, (z_low, (w_low, (twice_d_low, tt))))))))

  added_is : Represents (added (scaled_by z p) (scaled_by w q)) (sum p q)
  unfolding added times plus minus
  added_is =
      let x1 : Expr = var 1 ⊗ var 5 in
      let y1 : Expr = var 2 ⊗ var 5 in
      let t1 : Expr = var 1 ⊗ var 2 ⊗ var 5 in
      let x2 : Expr = var 3 ⊗ var 6 in
      let y2 : Expr = var 4 ⊗ var 6 in
      let t2 : Expr = var 3 ⊗ var 4 ⊗ var 6 in
      let a : Expr = (y1 ⊖ x1) ⊗ (y2 ⊖ x2) in
      let b : Expr = (y1 ⊕ x1) ⊗ (y2 ⊕ x2) in
      let c : Expr = t1 ⊗ var 7 ⊗ t2 in
      let zz : Expr = var 5 ⊗ var 6 in
      let kk : Expr = num 2 ⊗ var 5 ⊗ var 6 in
      let t : Expr = var 0 ⊗ (var 1 ⊗ var 3) ⊗ (var 2 ⊗ var 4) in
      by_coordinates _ _ (sum p q)
      (same_factors _ _ _ _ _ _ _ _
      (deduced (b ⊖ a) (kk ⊗ (var 1 ⊗ var 4 ⊕ var 2 ⊗ var 3)) [] sum_values sum_values_below tt refl)
      (deduced (zz ⊕ zz ⊖ c) (kk ⊗ (num 1 ⊖ t)) (given (num 0 ⊖ t1 ⊗ t2) (var 7) (var 0 ⊕ var 0) ∷ []) sum_values sum_values_below (twice_d_is, tt) refl)
      (deduced (zz ⊕ zz ⊕ c) (kk ⊗ (num 1 ⊕ t)) (given (t1 ⊗ t2) (var 7) (var 0 ⊕ var 0) ∷ []) sum_values sum_values_below (twice_d_is, tt) refl)
      (deduced (b ⊕ a) (kk ⊗ (var 2 ⊗ var 4 ⊕ var 1 ⊗ var 3)) [] sum_values sum_values_below tt refl))
      (factors_represent p q hp hq k k (times_low (times 2 z) w) (times_low (times 2 z) w) k_nonzero k_nonzero)
    where
      same_factors : (a b c l m n o u : ℕ) → a ≡ m → b ≡ n → c ≡ o → l ≡ u → of_factors a b c l ≡ of_factors m n o u
      same_factors a b c l m n o u ea eb ec el = rw (ea, eb, ec, el) refl

-- twice a point, by its factors
module _ (p : Affine) (z : ℕ) (hp : OnCurve p) (z_low : z < field) (z_nonzero : z ≢ 0) where
  abbrev square : ℕ
  square = times z z

  abbrev minus_square : ℕ
  minus_square = minus 0 (times z z)

  square_nonzero : times z z ≢ 0
  square_nonzero = times_nonzero z z z_low z_low z_nonzero z_nonzero

  minus_square_nonzero : minus 0 (times z z) ≢ 0
  unfolding times minus
  minus_square_nonzero e =
      square_nonzero (deduced (var 0 ⊗ var 0) (num 0) (given (num 0 ⊖ num 1) (num 0 ⊖ var 0 ⊗ var 0) (num 0) ∷ []) (z ∷ []) (z_low, tt) (e, tt) refl)

  doubled_is : Represents (doubled (scaled_by z p)) (sum p p)
  unfolding doubled times plus minus
  doubled_is =
      let x : Expr = var 1 ⊗ var 3 in
      let y : Expr = var 2 ⊗ var 3 in
      let a : Expr = x ⊗ x in
      let b : Expr = y ⊗ y in
      let c : Expr = var 3 ⊗ var 3 ⊕ var 3 ⊗ var 3 in
      let h : Expr = a ⊕ b in
      let e : Expr = h ⊖ (x ⊕ y) ⊗ (x ⊕ y) in
      let g : Expr = a ⊖ b in
      let k : Expr = num 0 ⊖ var 3 ⊗ var 3 in
      let m : Expr = var 3 ⊗ var 3 in
      let t : Expr = var 0 ⊗ (var 1 ⊗ var 1) ⊗ (var 2 ⊗ var 2) in
      let four : List ℕ = curve_d ∷ p.x ∷ p.y ∷ z ∷ [] in
      let below : AllBelow field four = (d_low, (hp.x_low, (hp.y_low, (z_low, tt)))) in
      by_coordinates _ _ (sum p p)
      (same_factors _ _ _ _ _ _ _ _
      (deduced e (k ⊗ (var 1 ⊗ var 2 ⊕ var 2 ⊗ var 1)) [] four below tt refl)
      (deduced (c ⊕ g) (m ⊗ (num 1 ⊖ t)) (given (num 0 ⊖ m) (var 2 ⊗ var 2 ⊖ var 1 ⊗ var 1) (num 1 ⊕ t) ∷ []) four below (hp.is, tt) refl)
      (deduced g (k ⊗ (num 1 ⊕ t)) (given (num 0 ⊖ m) (var 2 ⊗ var 2 ⊖ var 1 ⊗ var 1) (num 1 ⊕ t) ∷ []) four below (hp.is, tt) refl)
      (deduced h (m ⊗ (var 2 ⊗ var 2 ⊕ var 1 ⊗ var 1)) [] four below tt refl))
      (factors_represent p p hp hp (minus 0 (times z z)) (times z z) (minus_low 0 (times z z)) (times_low z z) minus_square_nonzero square_nonzero)
    where
      same_factors : (a b c l m n o u : ℕ) → a ≡ m → b ≡ n → c ≡ o → l ≡ u → of_factors a b c l ≡ of_factors m n o u
      same_factors a b c l m n o u ea eb ec el = rw (ea, eb, ec, el) refl

pub sum_represents : (c k : Coordinates) (p q : Affine) → OnCurve p → OnCurve q → Represents c p → Represents k q → Represents (added c k) (sum p q)
sum_represents c k p q hp hq hc hk = by_coordinates (added c k) _ (sum p q) (ap₂ added hc.is hk.is) (added_is p q c.z k.z hp hq hc.low hk.low hc.some hk.some)

pub twice_represents : (c : Coordinates) (p : Affine) → OnCurve p → Represents c p → Represents (doubled c) (sum p p)
twice_represents c p hp hc = by_coordinates (doubled c) _ (sum p p) (ap doubled hc.is) (doubled_is p c.z hp hc.low hc.some)

pub opposite_represents : (c : Coordinates) (p : Affine) → OnCurve p → Represents c p → Represents (numbers.opposite c) (opposite p)
unfolding numbers.opposite times minus
opposite_represents c p hp hc = by_coordinates (numbers.opposite c) _ (opposite p) (ap numbers.opposite hc.is) (record {
  low = hc.low;
  some = hc.some;
  is = same_coordinates _ _ _ _ _ _ _ _
      (deduced (num 0 ⊖ var 0 ⊗ var 2) ((num 0 ⊖ var 0) ⊗ var 2) [] (p.x ∷ p.y ∷ c.z ∷ []) (hp.x_low, (hp.y_low, (hc.low, tt))) tt refl)
      refl refl
      (deduced (num 0 ⊖ var 0 ⊗ var 1 ⊗ var 2) ((num 0 ⊖ var 0) ⊗ var 1 ⊗ var 2) [] (p.x ∷ p.y ∷ c.z ∷ []) (hp.x_low, (hp.y_low, (hc.low, tt))) tt refl);
})

pub neutral_represents : Represents neutral_numbers neutral
unfolding times
neutral_represents = record { low = omega arith; some = λ (e : 1 ≡ 0). omega (arith, e); is = refl }

-- the affine coordinates of a point are X / Z and Y / Z
pub affine_x : (c : Coordinates) (p : Affine) → OnCurve p → Represents c p → times c.x (reciprocal c.z) ≡ p.x
unfolding times
affine_x c p hp hc =
    ap (λ (k : Coordinates). times k.x (reciprocal c.z)) hc.is
    ∙ deduced (var 0 ⊗ var 1 ⊗ var 2) (var 0) (given (var 0) (var 1 ⊗ var 2) (num 1) ∷ []) (p.x ∷ c.z ∷ reciprocal c.z ∷ []) (hp.x_low, (hc.low, (reciprocal_low c.z, tt))) (inverse c.z hc.low hc.some, tt) refl

pub affine_y : (c : Coordinates) (p : Affine) → OnCurve p → Represents c p → times c.y (reciprocal c.z) ≡ p.y
unfolding times
affine_y c p hp hc =
    ap (λ (k : Coordinates). times k.y (reciprocal c.z)) hc.is
    ∙ deduced (var 0 ⊗ var 1 ⊗ var 2) (var 0) (given (var 0) (var 1 ⊗ var 2) (num 1) ∷ []) (p.y ∷ c.z ∷ reciprocal c.z ∷ []) (hp.y_low, (hc.low, (reciprocal_low c.z, tt))) (inverse c.z hc.low hc.some, tt) refl

pub bit_below_2 : (bytes : List ℕ) (i : ℕ) → bit_at bytes i < 2
unfolding bit_at
bit_below_2 bytes i = omega arith

pub multiple_twice : (n : ℕ) (p : Affine) → OnCurve p → multiple (2 * n) p ≡ sum (multiple n p) (multiple n p)
multiple_twice n p hp = let e : 2 * n ≡ n + n = omega arith in ap (λ (k : ℕ). multiple k p) e ∙ multiple_sum n n p hp

-- The number of the n highest of bits 255 to 0. Bits past the last byte are 0.
unfoldable pub number_of_bits : List ℕ → ℕ → ℕ
number_of_bits bytes zero = 0
number_of_bits bytes (suc n) = 2 * number_of_bits bytes n + bit_at bytes (255 - n)

-- for 32 bytes it is their number
pub bits_are_number : (bytes : List ℕ) → length bytes ≡ 32 → (n : ℕ) → number_of_bits bytes n ≡ number_to bytes n
unfolding number_of_bits number_to
bits_are_number bytes long zero = refl
bits_are_number bytes long (suc n) =
    let place : 255 - n ≡ 8 * length bytes - 1 - n = omega (arith, long) in
    ap₂ (λ (k i : ℕ). 2 * k + bit_at bytes i) (bits_are_number bytes long n) place

pub number_of_256_bits : (bytes : List ℕ) → length bytes ≡ 32 → number_of_bits bytes 256 ≡ number_in bytes
unfolding number_in
number_of_256_bits bytes long = let e : 256 ≡ 8 * length bytes = omega (arith, long) in bits_are_number bytes long 256 ∙ ap (number_to bytes) e

-- Doubling and adding computes the multiple by the number of the bits.
pub multiple_represents : (bytes : List ℕ) (c : Coordinates) (p : Affine) → OnCurve p → Represents c p → (n : ℕ)
    → Represents (multiple_to bytes c n) (multiple (number_of_bits bytes n) p)
unfolding multiple_to number_of_bits multiple
multiple_represents bytes c p hp hc zero = neutral_represents
multiple_represents bytes c p hp hc (suc n) =
    let k : ℕ = number_of_bits bytes n in
    each (bit_at bytes (255 - n)) (doubled (multiple_to bytes c n)) (2 * k) (bit_below_2 bytes (255 - n))
    (by_point _ _ _ (sym (multiple_twice k p hp)) (twice_represents _ _ (multiple_on k p hp) (multiple_represents bytes c p hp hc n)))
  where
    each : (bit : ℕ) (two : Coordinates) (m : ℕ) → bit < 2 → Represents two (multiple m p) → Represents (cond (eqb bit 1) (added two c) two) (multiple (m + bit) p)
    each zero two m h r = let e : m ≡ m + 0 = omega arith in by_point two (multiple m p) (multiple (m + 0) p) (ap (λ (i : ℕ). multiple i p) e) r
    each (suc zero) two m h r =
        let e : suc m ≡ m + 1 = omega arith in
        by_point (added two c) (multiple (suc m) p) (multiple (m + 1) p) (ap (λ (i : ℕ). multiple i p) e) (sum_represents two c (multiple m p) p (multiple_on m p hp) hp r hc)
    each (suc (suc bit)) two m h r = absurd (omega arith)

-- The base point.
pub base_on : OnCurve base
unfolding base times plus minus curve_d
base_on = record { x_low = omega arith; y_low = omega arith; is = refl }

pub base_represents : Represents base_numbers base
unfolding base times
base_represents = record { low = omega arith; some = λ (e : 1 ≡ 0). omega (arith, e); is = refl }

-- the order as 32 bytes
order_bytes : List ℕ
order_bytes =
    237 ∷ 211 ∷ 245 ∷ 92 ∷ 26 ∷ 99 ∷ 18 ∷ 88 ∷ 214 ∷ 156 ∷ 247 ∷ 162 ∷ 222 ∷ 249 ∷ 222 ∷ 20
    ∷ 0 ∷ 0 ∷ 0 ∷ 0 ∷ 0 ∷ 0 ∷ 0 ∷ 0 ∷ 0 ∷ 0 ∷ 0 ∷ 0 ∷ 0 ∷ 0 ∷ 0 ∷ 16 ∷ []

order_is : number_of_bits order_bytes 256 ≡ order
unfolding order_bytes number_of_bits bit_at
order_is = refl

-- the base point times the order, in coordinates: x is 0, and y is z
order_multiple : Coordinates
order_multiple = multiple_to order_bytes base_numbers 256

order_x : order_multiple.x ≡ 0
unfolding order_multiple order_bytes multiple_to bit_at added doubled of_factors times plus minus
order_x = refl

order_y : order_multiple.y ≡ order_multiple.z
unfolding order_multiple order_bytes multiple_to bit_at added doubled of_factors times plus minus
order_y = refl

zero_times : (n : ℕ) → times 0 n ≡ 0
unfolding times
zero_times n = let e : 0 * n ≡ 0 = omega arith in ap (λ (k : ℕ). k % field) e

order_found : Represents order_multiple (multiple order base)
unfolding order_multiple
order_found =
    by_point order_multiple (multiple (number_of_bits order_bytes 256) base) (multiple order base) (ap (λ (n : ℕ). multiple n base) order_is)
    (multiple_represents order_bytes base_numbers base base_on base_represents 256)

-- the order of the base point
pub order_neutral : multiple order base ≡ neutral
order_neutral =
    let on = multiple_on order base base_on in
    let x = affine_x order_multiple (multiple order base) on order_found in
    let y = affine_y order_multiple (multiple order base) on order_found in
    same_point _ _
    (sym x ∙ ap (λ (n : ℕ). times n (reciprocal order_multiple.z)) order_x ∙ zero_times (reciprocal order_multiple.z))
    (sym y ∙ ap (λ (n : ℕ). times n (reciprocal order_multiple.z)) order_y ∙ inverse order_multiple.z order_found.low order_found.some)
