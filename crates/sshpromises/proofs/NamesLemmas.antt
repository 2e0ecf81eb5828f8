-- A test of each name of a list.

use Rattle.std.proofs.Common.{◌≡◌, Bool, true, List, [], ◌∷◌, refl}
use Rattle.std.proofs.lemmas.Bool.{and_parts}
use Rattle.std.specs.List.{AllByRecursion, list_all}
use Rattle.std.specs.Prelude.{◌&&◌}
use Prim.{tt}

both_true : (a b : Bool) → a ≡ true → b ≡ true → (a && b) ≡ true
both_true a b is other = rw (is, other) refl

pub each_passes : {X : Type 0} (p : X → Bool) (xs : List X) → list_all p xs ≡ true → AllByRecursion (λ (x : X). p x ≡ true) xs
each_passes p [] all = tt
each_passes p (x ∷ xs) all = let both = and_parts (p x) (list_all p xs) all in (both.0, each_passes p xs both.1)

pub all_pass : {X : Type 0} (p : X → Bool) (xs : List X) → AllByRecursion (λ (x : X). p x ≡ true) xs → list_all p xs ≡ true
all_pass p [] each = refl
all_pass p (x ∷ xs) each = both_true (p x) (list_all p xs) each.0 (all_pass p xs each.1)
