-- Polynomials in some variables, with numbers modulo m as coefficients. They are computed with, so an identity of two expressions is
-- proved by computing.

use Rattle.std.specs.Prelude.{ℕ, zero, suc, ◌+◌, ◌-◌, ◌*◌, ◌%◌, ◌<◌, Bool, ◌&&◌, eqb, List, [], ◌∷◌, ◌≡◌}
use Prim.{Unit}

-- an expression: a variable by its place, a number, a sum, a difference, a product
pub data Expr : Type 0 where
  var : ℕ → Expr
  num : ℕ → Expr
  ◌⊕◌ : Expr → Expr → Expr
  ◌⊖◌ : Expr → Expr → Expr
  ◌⊗◌ : Expr → Expr → Expr

infixl 60 ◌⊕◌
infixl 60 ◌⊖◌
infixl 70 ◌⊗◌
-- the number at a place, 0 past the end
abbrev pub at : List ℕ → ℕ → ℕ
at [] i = 0
at (x ∷ xs) zero = x
at (x ∷ xs) (suc i) = at xs i

-- the first number, 0 of none
abbrev pub first : List ℕ → ℕ
first [] = 0
first (x ∷ xs) = x

-- the numbers after the first
abbrev pub rest : List ℕ → List ℕ
rest [] = []
rest (x ∷ xs) = xs

-- each number is below m
abbrev pub AreLow : ℕ → List ℕ → Type 0
AreLow m xs = (i : ℕ) → at xs i < m

-- the number of an expression, modulo m, where the variables are these numbers
abbrev pub number : ℕ → List ℕ → Expr → ℕ
number m xs (var i) = at xs i
number m xs (num c) = c % m
number m xs (a ⊕ b) = (number m xs a + number m xs b) % m
number m xs (a ⊖ b) = (number m xs a + m - number m xs b) % m
number m xs (a ⊗ b) = number m xs a * number m xs b % m

-- a polynomial in Horner's form: a number, or one that the first variable is not in, and the first variable times another
pub data Poly : Type 0 where
  con : ℕ → Poly
  horn : Poly → Poly → Poly

-- the number of a polynomial, where the variables are these numbers
abbrev pub poly_value : Poly → List ℕ → ℕ
poly_value (con c) xs = c
poly_value (horn p q) xs = poly_value p (rest xs) + first xs * poly_value q xs

-- p and the first variable times q, without a product by 0 above a number
abbrev pub pruned : (p q : Poly) → Poly
pruned (con a) (con zero) = con a
pruned (con a) (con (suc c)) = horn (con a) (con (suc c))
pruned (con a) (horn r s) = horn (con a) (horn r s)
pruned (horn p q) r = horn (horn p q) r

-- c times a polynomial
abbrev pub all_scaled : ℕ → ℕ → Poly → Poly
all_scaled m c (con a) = con (c * a % m)
all_scaled m c (horn p q) = pruned (all_scaled m c p) (all_scaled m c q)

-- the same, at once where c is 0
abbrev pub scaled : ℕ → ℕ → Poly → Poly
scaled m zero p = con 0
scaled m (suc c) p = all_scaled m (suc c) p

-- c and a polynomial
abbrev pub with_constant : ℕ → ℕ → Poly → Poly
with_constant m c (con a) = con ((c + a) % m)
with_constant m c (horn p q) = horn (with_constant m c p) q

-- the sum of two polynomials
abbrev pub poly_sum : ℕ → Poly → Poly → Poly
poly_sum m (con zero) q = q
poly_sum m (con (suc a)) q = with_constant m (suc a) q
poly_sum m (horn p q) (con zero) = horn p q
poly_sum m (horn p q) (con (suc b)) = with_constant m (suc b) (horn p q)
poly_sum m (horn p q) (horn r s) = pruned (poly_sum m p r) (poly_sum m q s)

-- a polynomial that the first variable is not in, by its product function, times one that it may be in
abbrev pub along : (Poly → Poly) → Poly → Poly
along f (con b) = pruned (f (con b)) (con 0)
along f (horn r s) = pruned (f r) (along f s)

-- the product of two polynomials
abbrev pub poly_product : ℕ → Poly → Poly → Poly
poly_product m (con a) r = scaled m a r
poly_product m (horn p q) r = poly_sum m (along (poly_product m p) r) (pruned (con 0) (poly_product m q r))

-- the polynomial of the variable at a place
abbrev pub poly_var : ℕ → Poly
poly_var zero = horn (con 0) (con 1)
poly_var (suc i) = horn (poly_var i) (con 0)

-- the polynomial of an expression
abbrev pub poly_of : ℕ → Expr → Poly
poly_of m (var i) = poly_var i
poly_of m (num c) = con (c % m)
poly_of m (a ⊕ b) = poly_sum m (poly_of m a) (poly_of m b)
poly_of m (a ⊖ b) = poly_sum m (poly_of m a) (scaled m (m - 1) (poly_of m b))
poly_of m (a ⊗ b) = poly_product m (poly_of m a) (poly_of m b)

-- each coefficient is 0
abbrev pub is_none : Poly → Bool
is_none (con c) = eqb c 0
is_none (horn p q) = is_none p && is_none q

-- an equation between expressions, and a cofactor
pub data Given : Type 0 where
  given : Expr → Expr → Expr → Given

-- each of these equations holds
abbrev pub AllHold : ℕ → List ℕ → List Given → Type 0
AllHold m xs [] = Unit {0}
AllHold m xs (given c l r ∷ gs) = (number m xs l ≡ number m xs r) × AllHold m xs gs

-- the sum of the differences of the equations' sides, each times its cofactor
abbrev pub combined : List Given → Expr
combined [] = num 0
combined (given c l r ∷ gs) = c ⊗ (l ⊖ r) ⊕ combined gs
