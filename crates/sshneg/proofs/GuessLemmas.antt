-- The first name of a list.

use Rattle.std.proofs.Common.{◌≡◌, ℕ, List, [], ◌∷◌, refl}
use Rattle.std.specs.List.{slice_get}
use Rattle.sshneg.specs.Markers.{first_name}

pub first_at : (names : List (List ℕ)) → slice_get names 0 ≡ first_name names
first_at [] = refl
first_at (x ∷ xs) = refl
