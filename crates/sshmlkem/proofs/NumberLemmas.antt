-- Identities of numbers modulo q, by computing with polynomials.

use Rattle.std.proofs.Common.{◌≡◌, ℕ, zero, suc, ◌%◌, ◌<◌, true, List, [], ◌∷◌, refl, arith}
use Prim.{Unit, tt}
use Rattle.sshmlkem.specs.Ring.{minus, plus, times}
use Rattle.sshpolynomials.proofs.PolynomialLemmas.{follows}
use Rattle.sshpolynomials.specs.Polynomials.{AllHold, AreLow, Expr, Given, combined, given, is_none, num, number, poly_of, var, ◌⊕◌, ◌⊖◌, ◌⊗◌}

-- each of these numbers is below q
abbrev pub AllBelow : List ℕ → Type 0
AllBelow [] = Unit {0}
AllBelow (x ∷ xs) = (x < 3329) × AllBelow xs

pub are_low_of : (xs : List ℕ) → AllBelow xs → AreLow 3329 xs
are_low_of [] h i = omega arith
are_low_of (x ∷ xs) h zero = h.0
are_low_of (x ∷ xs) h (suc i) = are_low_of xs h.1 i

pub deduced : (a b : Expr) (gs : List Given) (xs : List ℕ) → AllBelow xs → AllHold 3329 xs gs → is_none (poly_of 3329 (a ⊖ b ⊖ combined gs)) ≡ true
    → number 3329 xs a ≡ number 3329 xs b
deduced a b gs xs low all is = follows 3329 a b gs xs (are_low_of xs low) (omega arith) all is

pub number_low : (n : ℕ) → n % 3329 < 3329
number_low n = omega arith

-- butterflies of c f + d g
module _ (c d z fi fj gi gj : ℕ) (lc : c < 3329) (ld : d < 3329) (lz : z < 3329) (lfi : fi < 3329) (lfj : fj < 3329) (lgi : gi < 3329) (lgj : gj < 3329) where
  pub combined_forward_first : plus (plus (times c fi) (times d gi)) (times (plus (times c fj) (times d gj)) z) ≡ plus (times c (plus fi (times fj z))) (times d (plus gi (times gj z)))
  combined_forward_first = deduced ((var 0 ⊗ var 3 ⊕ var 1 ⊗ var 5) ⊕ (var 0 ⊗ var 4 ⊕ var 1 ⊗ var 6) ⊗ var 2) (var 0 ⊗ (var 3 ⊕ var 4 ⊗ var 2) ⊕ var 1 ⊗ (var 5 ⊕ var 6 ⊗ var 2)) []
      (c ∷ d ∷ z ∷ fi ∷ fj ∷ gi ∷ gj ∷ []) (lc, (ld, (lz, (lfi, (lfj, (lgi, (lgj, tt))))))) tt refl

  pub combined_forward_second : minus (plus (times c fi) (times d gi)) (times (plus (times c fj) (times d gj)) z) ≡ plus (times c (minus fi (times fj z))) (times d (minus gi (times gj z)))
  combined_forward_second = deduced ((var 0 ⊗ var 3 ⊕ var 1 ⊗ var 5) ⊖ (var 0 ⊗ var 4 ⊕ var 1 ⊗ var 6) ⊗ var 2) (var 0 ⊗ (var 3 ⊖ var 4 ⊗ var 2) ⊕ var 1 ⊗ (var 5 ⊖ var 6 ⊗ var 2)) []
      (c ∷ d ∷ z ∷ fi ∷ fj ∷ gi ∷ gj ∷ []) (lc, (ld, (lz, (lfi, (lfj, (lgi, (lgj, tt))))))) tt refl

  pub combined_backward_first : plus (plus (times c fi) (times d gi)) (plus (times c fj) (times d gj)) ≡ plus (times c (plus fi fj)) (times d (plus gi gj))
  combined_backward_first = deduced ((var 0 ⊗ var 3 ⊕ var 1 ⊗ var 5) ⊕ (var 0 ⊗ var 4 ⊕ var 1 ⊗ var 6)) (var 0 ⊗ (var 3 ⊕ var 4) ⊕ var 1 ⊗ (var 5 ⊕ var 6)) []
      (c ∷ d ∷ z ∷ fi ∷ fj ∷ gi ∷ gj ∷ []) (lc, (ld, (lz, (lfi, (lfj, (lgi, (lgj, tt))))))) tt refl

  pub combined_backward_second : times (minus (plus (times c fj) (times d gj)) (plus (times c fi) (times d gi))) z ≡ plus (times c (times (minus fj fi) z)) (times d (times (minus gj gi) z))
  combined_backward_second = deduced (((var 0 ⊗ var 4 ⊕ var 1 ⊗ var 6) ⊖ (var 0 ⊗ var 3 ⊕ var 1 ⊗ var 5)) ⊗ var 2) (var 0 ⊗ ((var 4 ⊖ var 3) ⊗ var 2) ⊕ var 1 ⊗ ((var 6 ⊖ var 5) ⊗ var 2)) []
      (c ∷ d ∷ z ∷ fi ∷ fj ∷ gi ∷ gj ∷ []) (lc, (ld, (lz, (lfi, (lfj, (lgi, (lgj, tt))))))) tt refl

  pub combined_scaled : times (plus (times c fi) (times d gi)) z ≡ plus (times c (times fi z)) (times d (times gi z))
  combined_scaled = deduced ((var 0 ⊗ var 3 ⊕ var 1 ⊗ var 5) ⊗ var 2) (var 0 ⊗ (var 3 ⊗ var 2) ⊕ var 1 ⊗ (var 5 ⊗ var 2)) []
      (c ∷ d ∷ z ∷ fi ∷ fj ∷ gi ∷ gj ∷ []) (lc, (ld, (lz, (lfi, (lfj, (lgi, (lgj, tt))))))) tt refl

-- a butterfly undoes one, and doubles
module _ (a b z w : ℕ) (la : a < 3329) (lb : b < 3329) (lz : z < 3329) (lw : w < 3329) (minus_one : times z w ≡ 3328) where
  pub undone_first : plus (plus a b) (times (times (minus b a) w) z) ≡ plus (times 2 a) (times 0 a)
  undone_first = deduced ((var 0 ⊕ var 1) ⊕ (var 1 ⊖ var 0) ⊗ var 3 ⊗ var 2) (num 2 ⊗ var 0 ⊕ num 0 ⊗ var 0)
      (given (var 1 ⊖ var 0) (var 2 ⊗ var 3) (num 3328) ∷ []) (a ∷ b ∷ z ∷ w ∷ []) (la, (lb, (lz, (lw, tt)))) (minus_one, tt) refl

  pub undone_second : minus (plus a b) (times (times (minus b a) w) z) ≡ plus (times 2 b) (times 0 b)
  undone_second = deduced ((var 0 ⊕ var 1) ⊖ (var 1 ⊖ var 0) ⊗ var 3 ⊗ var 2) (num 2 ⊗ var 1 ⊕ num 0 ⊗ var 1)
      (given (var 0 ⊖ var 1) (var 2 ⊗ var 3) (num 3328) ∷ []) (a ∷ b ∷ z ∷ w ∷ []) (la, (lb, (lz, (lw, tt)))) (minus_one, tt) refl

-- a multiple of a multiple
pub multiple_twice : (c d x : ℕ) → c < 3329 → d < 3329 → x < 3329 → plus (times c (plus (times d x) (times 0 x))) (times 0 (plus (times d x) (times 0 x))) ≡ plus (times (times c d) x) (times 0 x)
multiple_twice c d x lc ld lx = deduced (var 0 ⊗ (var 1 ⊗ var 2 ⊕ num 0 ⊗ var 2) ⊕ num 0 ⊗ (var 1 ⊗ var 2 ⊕ num 0 ⊗ var 2)) (var 0 ⊗ var 1 ⊗ var 2 ⊕ num 0 ⊗ var 2) []
    (c ∷ d ∷ x ∷ []) (lc, (ld, (lx, tt))) tt refl

-- a sum, and a number to which nothing is added
pub plus_combined : (a b : ℕ) → a < 3329 → b < 3329 → plus (times 1 a) (times 1 b) ≡ plus a b
plus_combined a b la lb = deduced (num 1 ⊗ var 0 ⊕ num 1 ⊗ var 1) (var 0 ⊕ var 1) [] (a ∷ b ∷ []) (la, (lb, tt)) tt refl

pub nothing_added : (n v : ℕ) → n ≡ 0 → v < 3329 → plus n v ≡ v
nothing_added n v e l = omega (arith, e, l)
