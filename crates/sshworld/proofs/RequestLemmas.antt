-- What each request of those that are offered brings, by its place.

use Rattle.std.proofs.Common.{◌≡◌, ℕ, zero, suc, ◌+◌, ◌<◌, ◌≤◌, List, [], ◌∷◌, ◌++◌, length, take, Option, None, Some, slice_get, refl, sym, subst, arith, append_assoc, append-nil, length-append, ◌⊎◌, inl, inr}
use Rattle.sshworld.specs.Verdicts.{Exhausted, How, Verdict, verdict_after, verdict_here}

-- What request number n brings: nothing before the last one that is made; at the last one the end of the verdict, or nothing
-- where none is left to offer.
pub record Brings (o : Option How) (n : ℕ) (v : Verdict) : Type 0 where
  pub before : n < v.requests → o ≡ None
  pub last : n ≡ v.requests → (o ≡ Some v.how) ⊎ ((o ≡ None) × (v.how ≡ Exhausted))

module _ {R : Type 0} (ends : List R → R → Option How) where
  least : (made later : List R) → length made ≤ (verdict_after ends made later).requests
  least made [] = omega arith
  least made (a ∷ later) = here (ends made a) (omega (arith, least (made ++ a ∷ []) later, length-append made (a ∷ [])))
    where
      here : (o : Option How) → length made ≤ (verdict_after ends (made ++ a ∷ []) later).requests → length made ≤ (verdict_here made o (verdict_after ends (made ++ a ∷ []) later)).requests
      here (Some how) h = omega arith
      here None h = h

  none_left : (made later : List R) → (verdict_after ends made later).requests ≡ length made → (verdict_after ends made later).how ≡ Exhausted
  none_left made [] e = refl
  none_left made (a ∷ later) e = here (ends made a) (omega (arith, least (made ++ a ∷ []) later, length-append made (a ∷ []))) e
    where
      here : (o : Option How) → length made + 1 ≤ (verdict_after ends (made ++ a ∷ []) later).requests → (verdict_here made o (verdict_after ends (made ++ a ∷ []) later)).requests ≡ length made
          → (verdict_here made o (verdict_after ends (made ++ a ∷ []) later)).how ≡ Exhausted
      here (Some how) h e = absurd (omega (arith, e))
      here None h e = absurd (omega (arith, h, e))

  pub brings : (made later : List R) (i : ℕ) (a : R) → slice_get later i ≡ Some a → Brings (ends (made ++ take i later) a) (length made + i + 1) (verdict_after ends made later)
  brings made [] i a e = absurd (cc)
  brings made (b ∷ later) zero a e =
      subst (λ (x : R). Brings (ends (made ++ []) x) (length made + 0 + 1) (verdict_after ends made (b ∷ later))) (cc (e))
      (subst (λ (q : List R). Brings (ends q b) (length made + 0 + 1) (verdict_after ends made (b ∷ later))) (sym (append-nil made))
      (here (ends made b) (omega (arith, least (made ++ b ∷ []) later, length-append made (b ∷ []))) (λ s. none_left (made ++ b ∷ []) later (omega (arith, s, length-append made (b ∷ []))))))
    where
      here : (o : Option How) → length made + 1 ≤ (verdict_after ends (made ++ b ∷ []) later).requests
          → ((verdict_after ends (made ++ b ∷ []) later).requests ≡ length made + 1 → (verdict_after ends (made ++ b ∷ []) later).how ≡ Exhausted)
          → Brings o (length made + 0 + 1) (verdict_here made o (verdict_after ends (made ++ b ∷ []) later))
      here (Some how) h f = record { before = λ lt. absurd (omega arith); last = λ _. inl refl }
      here None h f = record { before = λ _. refl; last = λ s. inr (refl, f (omega (arith, s))) }
  brings made (b ∷ later) (suc i) a e = here (ends made b) (brings (made ++ b ∷ []) later i a e) (omega (arith, least (made ++ b ∷ []) later, length-append made (b ∷ [])))
    where
      here : (o : Option How) → Brings (ends ((made ++ b ∷ []) ++ take i later) a) (length (made ++ b ∷ []) + i + 1) (verdict_after ends (made ++ b ∷ []) later) → length made + 1 ≤ (verdict_after ends (made ++ b ∷ []) later).requests
          → Brings (ends (made ++ b ∷ take i later) a) (length made + suc i + 1) (verdict_here made o (verdict_after ends (made ++ b ∷ []) later))
      here (Some how) k h = record { before = λ lt. absurd (omega arith); last = λ s. absurd (omega (arith, s)) }
      here None k h =
          let n : length (made ++ b ∷ []) + i + 1 ≡ length made + suc i + 1 = omega (arith, length-append made (b ∷ [])) in
          subst (λ (j : ℕ). Brings (ends (made ++ b ∷ take i later) a) j (verdict_after ends (made ++ b ∷ []) later)) n
          (subst (λ (q : List R). Brings (ends q a) (length (made ++ b ∷ []) + i + 1) (verdict_after ends (made ++ b ∷ []) later)) (append_assoc made (b ∷ []) (take i later)) k)
