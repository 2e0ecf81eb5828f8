-- The ring R_q = Z_q[X] / (X^256 + 1) and its numbers modulo q (FIPS 203 section 2.3). A polynomial is the list of its 256 coefficients, that of
-- X^0 first; a transform is a list of 256 numbers modulo q too (section 4.3).

use Rattle.std.specs.Prelude.{◌≡◌, ℕ, ◌+◌, ◌-◌, ◌*◌, ◌%◌, ◌<◌, List, [], ◌∷◌, length, replicate, slice_index, take}

-- the sum modulo q
abbrev pub plus : ℕ → ℕ → ℕ
plus a b = (a + b) % 3329

-- the difference modulo q, of numbers below q
abbrev pub minus : ℕ → ℕ → ℕ
minus a b = (a + 3329 - b) % 3329

-- the product modulo q
abbrev pub times : ℕ → ℕ → ℕ
times a b = a * b % 3329

-- an element of R_q, or a transform: 256 numbers modulo q
pub record IsRing (f : List ℕ) : Type 0 where
  pub long : length f ≡ 256
  pub low : (i : ℕ) → slice_index f i < 3329

-- h is c f + d g, number by number (section 2.4.5)
abbrev pub Combines : ℕ → List ℕ → ℕ → List ℕ → List ℕ → Type 0
Combines c f d g h = (x : ℕ) → x < 256 → slice_index h x ≡ plus (times c (slice_index f x)) (times d (slice_index g x))

-- c f + g, number by number
unfoldable pub combination : ℕ → List ℕ → List ℕ → List ℕ
combination c [] gs = []
combination c (f ∷ fs) [] = []
combination c (f ∷ fs) (g ∷ gs) = plus (times c f) g ∷ combination c fs gs

-- X f: each number moves up one place, and the last comes to the first place with the other sign, since X^256 is -1
unfoldable pub shifted : List ℕ → List ℕ
shifted f = minus 0 (slice_index f 255) ∷ take 255 f

-- the product of f and g in R_q, coefficient by coefficient of the first: (a + X f) g is a g + X (f g)
unfoldable pub ring_product : List ℕ → List ℕ → List ℕ
ring_product [] g = replicate 256 0
ring_product (a ∷ f) g = combination a g (shifted (ring_product f g))
