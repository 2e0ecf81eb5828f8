-- The parts of a text, as `split` gives them.

use Rattle.std.proofs.Common.{◌≡◌, ◌∙◌, ◌==◌, ℕ, cond, List, [], ◌∷◌, refl, ap}
use Rattle.std.specs.List.{onto_first, slice_split}
use Rattle.sshlab.specs.ScenarioFields.{begins_with, parts}

begun : (b : ℕ) (ps : List (List ℕ)) → onto_first b ps ≡ begins_with b ps
begun b [] = refl
begun b (p ∷ ps) = refl

pub parts_are : (c : ℕ) (s : List ℕ) → slice_split (λ b. b == c) s ≡ parts c s
unfolding parts
parts_are c [] = refl
parts_are c (b ∷ s) =
    ap (λ (ps : List (List ℕ)). cond (b == c) ([] ∷ ps) (onto_first b ps)) (parts_are c s)
    ∙ ap (λ (ps : List (List ℕ)). cond (b == c) ([] ∷ parts c s) ps) (begun b (parts c s))
