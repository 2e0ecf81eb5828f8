-- Tests that answer alike, and a test of all numbers below another.

use Rattle.std.proofs.Common.{◌≡◌, ℕ, zero, suc, ◌<◌, inl, inr, Bool, true, false, refl, sym, arith, cond, eqb}
use Rattle.std.proofs.lemmas.Bool.{cases_Bool, eqb-false, eqb-true}

-- two tests answer alike where each holds if the other does
pub by_both : (x y : Bool) → (x ≡ true → y ≡ true) → (y ≡ true → x ≡ true) → x ≡ y
by_both true y f g = sym (f refl)
by_both false true f g = g refl
by_both false false f g = refl

-- a test of all numbers below another
abbrev pub all_below : ℕ → (ℕ → Bool) → Bool
all_below zero test = true
all_below (suc n) test = cond (test n) (all_below n test) false

guarded : (a b : Bool) → cond a b false ≡ true → (a ≡ true) × (b ≡ true)
guarded true b e = (refl, e)
guarded false b e = cc

pub below : (k n : ℕ) → k < suc n → (k ≡ n → ⊥) → k < n
below k n h off = omega arith

pub at_each : (n : ℕ) (test : ℕ → Bool) → all_below n test ≡ true → (k : ℕ) → k < n → test k ≡ true
at_each zero test e k h = absurd (omega arith)
at_each (suc n) test e k h =
    let both = guarded (test n) (all_below n test) e in
    elim (cases_Bool (eqb k n)) [
      | inl is ↦ let at : k ≡ n = eqb-true k n is in rw at both.0
      | inr isnt ↦ let off = eqb-false k n isnt in at_each n test both.1 k (below k n h off)
    ]
