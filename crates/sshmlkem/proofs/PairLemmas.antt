-- (A s + e) y - s (A^T y + n) is e y - s n, for numbers 2 k and 2 k + 1 of transforms.

use Rattle.std.proofs.Common.{◌≡◌, ℕ, ◌+◌, ◌*◌, ◌/◌, ◌%◌, ◌<◌, ◌≤◌, List, [], ◌∷◌, refl, sym, ap, ap₂, ◌∙◌, arith, ⊎_elim, subst}
use Rattle.std.proofs.lemmas.Bool.{cases_lt}
use Rattle.std.specs.Prelude.{slice_index}
use Prim.{tt}
use Rattle.sshmlkem.proofs.DrawnLemmas.{column_rings, row_rings, sample_ring}
use Rattle.sshmlkem.proofs.NumberLemmas.{AllBelow, are_low_of}
use Rattle.sshmlkem.proofs.ProductLemmas.{AreRings, Six, add_is, add_ring, dot_even, dot_high, dot_low, dot_odd, dot_ring, gamma_low, high_part, low_part, six}
use Rattle.sshmlkem.specs.Noise.{public_vector}
use Rattle.sshmlkem.specs.Ntt.{gammas}
use Rattle.sshmlkem.specs.Pke.{column, dot, row, row_sum}
use Rattle.sshmlkem.specs.Ring.{minus, plus}
use Rattle.sshmlkem.specs.Sample.{sample_ntt}
use Rattle.sshmlkem.specs.declared.pke.Vector.{Vector}
use Rattle.sshpolynomials.proofs.PolynomialLemmas.{follows}
use Rattle.sshpolynomials.specs.Polynomials.{AreLow, Expr, num, number, var, ◌⊕◌, ◌⊖◌, ◌⊗◌}

-- a pair, for lists of proofs
◌⨾◌ : {A B : Type 0} → A → B → A × B
a ⨾ b = (a, b)

infixr 40 ◌⨾◌
-- six expressions
record Terms : Type 0 where
  pub a : Expr
  pub b : Expr
  pub c : Expr
  pub d : Expr
  pub e : Expr
  pub f : Expr

abbrev three : ℕ → ℕ → ℕ → Terms
three p q r = record { a = var p; b = var (p + 1); c = var q; d = var (q + 1); e = var r; f = var (r + 1) }

abbrev low_term : Expr → Expr → Expr → Expr → Expr → Expr
low_term z a b c d = a ⊗ c ⊕ b ⊗ d ⊗ z

abbrev high_term : Expr → Expr → Expr → Expr → Expr
high_term a b c d = a ⊗ d ⊕ b ⊗ c

abbrev even_term : Terms → Terms → Expr
even_term u v = num 0 ⊕ low_term (var 0) u.a u.b v.a v.b ⊕ low_term (var 0) u.c u.d v.c v.d ⊕ low_term (var 0) u.e u.f v.e v.f

abbrev odd_term : Terms → Terms → Expr
odd_term u v = num 0 ⊕ high_term u.a u.b v.a v.b ⊕ high_term u.c u.d v.c v.d ⊕ high_term u.e u.f v.e v.f

-- the matrix is variables 1 to 18, by its first index and then its second
abbrev s_terms : Terms
s_terms = three 19 21 23

abbrev e_terms : Terms
e_terms = three 25 27 29

abbrev y_terms : Terms
y_terms = three 31 33 35

abbrev n_terms : Terms
n_terms = three 37 39 41

abbrev t_terms : Terms
t_terms = record {
  a = even_term (three 1 7 13) s_terms ⊕ var 25;
  b = odd_term (three 1 7 13) s_terms ⊕ var 26;
  c = even_term (three 3 9 15) s_terms ⊕ var 27;
  d = odd_term (three 3 9 15) s_terms ⊕ var 28;
  e = even_term (three 5 11 17) s_terms ⊕ var 29;
  f = odd_term (three 5 11 17) s_terms ⊕ var 30;
}

abbrev u_terms : Terms
u_terms = record {
  a = even_term (three 1 3 5) y_terms ⊕ var 37;
  b = odd_term (three 1 3 5) y_terms ⊕ var 38;
  c = even_term (three 7 9 11) y_terms ⊕ var 39;
  d = odd_term (three 7 9 11) y_terms ⊕ var 40;
  e = even_term (three 13 15 17) y_terms ⊕ var 41;
  f = odd_term (three 13 15 17) y_terms ⊕ var 42;
}

even_identity : (xs : List ℕ) → AreLow 3329 xs
    → number 3329 xs (even_term t_terms y_terms ⊖ even_term s_terms u_terms) ≡ number 3329 xs (even_term e_terms y_terms ⊖ even_term s_terms n_terms)
even_identity xs low = follows 3329 (even_term t_terms y_terms ⊖ even_term s_terms u_terms) (even_term e_terms y_terms ⊖ even_term s_terms n_terms) [] xs low (omega arith) tt refl

odd_identity : (xs : List ℕ) → AreLow 3329 xs
    → number 3329 xs (odd_term t_terms y_terms ⊖ odd_term s_terms u_terms) ≡ number 3329 xs (odd_term e_terms y_terms ⊖ odd_term s_terms n_terms)
odd_identity xs low = follows 3329 (odd_term t_terms y_terms ⊖ odd_term s_terms u_terms) (odd_term e_terms y_terms ⊖ odd_term s_terms n_terms) [] xs low (omega arith) tt refl

six_is : (a b c d e f p q r s t u : ℕ) → a ≡ p → b ≡ q → c ≡ r → d ≡ s → e ≡ t → f ≡ u
    → ◌≡◌ {A = Six} (record { a = a; b = b; c = c; d = d; e = e; f = f }) (record { a = p; b = q; c = r; d = s; e = t; f = u })
six_is a b c d e f p q r s t u h1 h2 h3 h4 h5 h6 = rw (h1, h2, h3, h4, h5, h6) refl

-- a vector is A^T y + n, by its numbers 2 k and 2 k + 1
pub record IsMasked (rho : List ℕ) (y n u : Vector) : Type 0 where
  pub first : (x : ℕ) → x < 256 → slice_index u.first x ≡ plus (slice_index (dot (column rho 0) y) x) (slice_index n.first x)
  pub second : (x : ℕ) → x < 256 → slice_index u.second x ≡ plus (slice_index (dot (column rho 1) y) x) (slice_index n.second x)
  pub third : (x : ℕ) → x < 256 → slice_index u.third x ≡ plus (slice_index (dot (column rho 2) y) x) (slice_index n.third x)

pub public_rings : (rho : List ℕ) (s e : Vector) → AreRings s → AreRings (public_vector rho s e)
unfolding public_vector row_sum
public_rings rho s e rs = record {
  first = add_ring _ e.first (dot_ring (row rho 0) s (row_rings rho 0) rs);
  second = add_ring _ e.second (dot_ring (row rho 1) s (row_rings rho 1) rs);
  third = add_ring _ e.third (dot_ring (row rho 2) s (row_rings rho 2) rs);
}

module _ (rho : List ℕ) (s e y n u : Vector) (rs : AreRings s) (re : AreRings e) (ry : AreRings y) (rn : AreRings n) (ru : AreRings u) (is : IsMasked rho y n u) where
  module _ (k : ℕ) (l : k < 128) where
    i : ℕ
    i = 2 * k

    j : ℕ
    j = 2 * k + 1

    z : ℕ
    z = slice_index gammas k

    m : ℕ → ℕ → ℕ → ℕ
    m p q x = slice_index (sample_ntt rho p q) x

    xs : List ℕ
    xs = z ∷ m 0 0 i ∷ m 0 0 j ∷ m 0 1 i ∷ m 0 1 j ∷ m 0 2 i ∷ m 0 2 j ∷ m 1 0 i ∷ m 1 0 j ∷ m 1 1 i ∷ m 1 1 j ∷ m 1 2 i ∷ m 1 2 j ∷ m 2 0 i ∷ m 2 0 j ∷ m 2 1 i ∷ m 2 1 j ∷ m 2 2 i ∷ m 2 2 j
        ∷ slice_index s.first i ∷ slice_index s.first j ∷ slice_index s.second i ∷ slice_index s.second j ∷ slice_index s.third i ∷ slice_index s.third j
        ∷ slice_index e.first i ∷ slice_index e.first j ∷ slice_index e.second i ∷ slice_index e.second j ∷ slice_index e.third i ∷ slice_index e.third j
        ∷ slice_index y.first i ∷ slice_index y.first j ∷ slice_index y.second i ∷ slice_index y.second j ∷ slice_index y.third i ∷ slice_index y.third j
        ∷ slice_index n.first i ∷ slice_index n.first j ∷ slice_index n.second i ∷ slice_index n.second j ∷ slice_index n.third i ∷ slice_index n.third j ∷ []

    m_low : (p q x : ℕ) → m p q x < 3329
    unfolding m
    m_low p q x = let r = sample_ring rho p q in r.low x

    are_below : AllBelow xs
    unfolding xs z
    are_below =
        gamma_low k ⨾ m_low 0 0 i ⨾ m_low 0 0 j ⨾ m_low 0 1 i ⨾ m_low 0 1 j ⨾ m_low 0 2 i ⨾ m_low 0 2 j ⨾ m_low 1 0 i ⨾ m_low 1 0 j ⨾ m_low 1 1 i ⨾ m_low 1 1 j ⨾ m_low 1 2 i ⨾ m_low 1 2 j
        ⨾ m_low 2 0 i ⨾ m_low 2 0 j ⨾ m_low 2 1 i ⨾ m_low 2 1 j ⨾ m_low 2 2 i ⨾ m_low 2 2 j
        ⨾ rs.first.low i ⨾ rs.first.low j ⨾ rs.second.low i ⨾ rs.second.low j ⨾ rs.third.low i ⨾ rs.third.low j
        ⨾ re.first.low i ⨾ re.first.low j ⨾ re.second.low i ⨾ re.second.low j ⨾ re.third.low i ⨾ re.third.low j
        ⨾ ry.first.low i ⨾ ry.first.low j ⨾ ry.second.low i ⨾ ry.second.low j ⨾ ry.third.low i ⨾ ry.third.low j
        ⨾ rn.first.low i ⨾ rn.first.low j ⨾ rn.second.low i ⨾ rn.second.low j ⨾ rn.third.low i ⨾ rn.third.low j ⨾ tt

    low : AreLow 3329 xs
    low = are_low_of xs are_below

    t : Vector
    t = public_vector rho s e

    t_rings : AreRings t
    unfolding t
    t_rings = public_rings rho s e rs

    t_six : Six
    t_six = record {
      a = plus (dot_low z (six (row rho 0) k) (six s k)) (slice_index e.first i);
      b = plus (dot_high (six (row rho 0) k) (six s k)) (slice_index e.first j);
      c = plus (dot_low z (six (row rho 1) k) (six s k)) (slice_index e.second i);
      d = plus (dot_high (six (row rho 1) k) (six s k)) (slice_index e.second j);
      e = plus (dot_low z (six (row rho 2) k) (six s k)) (slice_index e.third i);
      f = plus (dot_high (six (row rho 2) k) (six s k)) (slice_index e.third j);
    }

    u_six : Six
    u_six = record {
      a = plus (dot_low z (six (column rho 0) k) (six y k)) (slice_index n.first i);
      b = plus (dot_high (six (column rho 0) k) (six y k)) (slice_index n.first j);
      c = plus (dot_low z (six (column rho 1) k) (six y k)) (slice_index n.second i);
      d = plus (dot_high (six (column rho 1) k) (six y k)) (slice_index n.second j);
      e = plus (dot_low z (six (column rho 2) k) (six y k)) (slice_index n.third i);
      f = plus (dot_high (six (column rho 2) k) (six y k)) (slice_index n.third j);
    }

    row_even : (r : ℕ) (f : List ℕ) → slice_index (row_sum rho r s f) i ≡ plus (dot_low z (six (row rho r) k) (six s k)) (slice_index f i)
    unfolding row_sum i z
    row_even r f = add_is (dot (row rho r) s) f (dot_ring (row rho r) s (row_rings rho r) rs) (2 * k) (omega (arith, l))
        ∙ ap (λ (v : ℕ). plus v (slice_index f (2 * k))) (dot_even (row rho r) s (row_rings rho r) rs k l)

    row_odd : (r : ℕ) (f : List ℕ) → slice_index (row_sum rho r s f) j ≡ plus (dot_high (six (row rho r) k) (six s k)) (slice_index f j)
    unfolding row_sum j
    row_odd r f = add_is (dot (row rho r) s) f (dot_ring (row rho r) s (row_rings rho r) rs) (2 * k + 1) (omega (arith, l))
        ∙ ap (λ (v : ℕ). plus v (slice_index f (2 * k + 1))) (dot_odd (row rho r) s (row_rings rho r) rs k l)

    t_is : six t k ≡ t_six
    unfolding t_six t public_vector six i j
    t_is = six_is _ _ _ _ _ _ _ _ _ _ _ _ (row_even 0 e.first) (row_odd 0 e.first) (row_even 1 e.second) (row_odd 1 e.second) (row_even 2 e.third) (row_odd 2 e.third)

    column_even : (r : ℕ) (g f : List ℕ) → ((x : ℕ) → x < 256 → slice_index g x ≡ plus (slice_index (dot (column rho r) y) x) (slice_index f x))
        → slice_index g i ≡ plus (dot_low z (six (column rho r) k) (six y k)) (slice_index f i)
    unfolding i z
    column_even r g f h = h (2 * k) (omega (arith, l)) ∙ ap (λ (v : ℕ). plus v (slice_index f (2 * k))) (dot_even (column rho r) y (column_rings rho r) ry k l)

    column_odd : (r : ℕ) (g f : List ℕ) → ((x : ℕ) → x < 256 → slice_index g x ≡ plus (slice_index (dot (column rho r) y) x) (slice_index f x))
        → slice_index g j ≡ plus (dot_high (six (column rho r) k) (six y k)) (slice_index f j)
    unfolding j
    column_odd r g f h = h (2 * k + 1) (omega (arith, l)) ∙ ap (λ (v : ℕ). plus v (slice_index f (2 * k + 1))) (dot_odd (column rho r) y (column_rings rho r) ry k l)

    u_is : six u k ≡ u_six
    unfolding u_six six i j
    u_is = six_is _ _ _ _ _ _ _ _ _ _ _ _ (column_even 0 u.first n.first is.first) (column_odd 0 u.first n.first is.first) (column_even 1 u.second n.second is.second)
        (column_odd 1 u.second n.second is.second) (column_even 2 u.third n.third is.third) (column_odd 2 u.third n.third is.third)

    even_numbers : minus (dot_low z t_six (six y k)) (dot_low z (six s k) u_six) ≡ minus (dot_low z (six e k) (six y k)) (dot_low z (six s k) (six n k))
    unfolding dot_low dot_high low_part high_part six t_six u_six row column xs m i j z
    even_numbers = even_identity xs low

    odd_numbers : minus (dot_high t_six (six y k)) (dot_high (six s k) u_six) ≡ minus (dot_high (six e k) (six y k)) (dot_high (six s k) (six n k))
    unfolding dot_low dot_high low_part high_part six t_six u_six row column xs m i j z
    odd_numbers = odd_identity xs low

    even_is : minus (slice_index (dot t y) (2 * k)) (slice_index (dot s u) (2 * k)) ≡ minus (slice_index (dot e y) (2 * k)) (slice_index (dot s n) (2 * k))
    unfolding z
    even_is =
        ap₂ minus (dot_even t y t_rings ry k l ∙ ap (λ (v : Six). dot_low z v (six y k)) t_is) (dot_even s u rs ru k l ∙ ap (λ (v : Six). dot_low z (six s k) v) u_is)
        ∙ even_numbers ∙ sym (ap₂ minus (dot_even e y re ry k l) (dot_even s n rs rn k l))

    odd_is : minus (slice_index (dot t y) (2 * k + 1)) (slice_index (dot s u) (2 * k + 1)) ≡ minus (slice_index (dot e y) (2 * k + 1)) (slice_index (dot s n) (2 * k + 1))
    odd_is =
        ap₂ minus (dot_odd t y t_rings ry k l ∙ ap (λ (v : Six). dot_high v (six y k)) t_is) (dot_odd s u rs ru k l ∙ ap (λ (v : Six). dot_high (six s k) v) u_is)
        ∙ odd_numbers ∙ sym (ap₂ minus (dot_odd e y re ry k l) (dot_odd s n rs rn k l))

  pub products_are : (x : ℕ) → x < 256 → minus (slice_index (dot (public_vector rho s e) y) x) (slice_index (dot s u) x) ≡ minus (slice_index (dot e y) x) (slice_index (dot s n) x)
  unfolding t
  products_are x l =
      ⊎_elim (λ (h : x % 2 < 1). subst AreSame (omega (arith, h)) (even_is (x / 2) (omega (arith, l))))
      (λ (h : 1 ≤ x % 2). subst AreSame (omega (arith, h)) (odd_is (x / 2) (omega (arith, l))))
      (cases_lt (x % 2) 1)
    where
      AreSame : ℕ → Type 0
      AreSame v = minus (slice_index (dot (public_vector rho s e) y) v) (slice_index (dot s u) v) ≡ minus (slice_index (dot e y) v) (slice_index (dot s n) v)
