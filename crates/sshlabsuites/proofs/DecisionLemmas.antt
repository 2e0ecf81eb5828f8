-- A test over a list of what others are, and over those others.

use Rattle.std.proofs.Common.{◌≡◌, Bool, true, false, List, [], ◌∷◌, ◌∙◌, map, refl, ap}
use Rattle.std.specs.Prelude.{◌&&◌, ◌||◌, not}
use Rattle.std.specs.List.{list_any}

any_mapped : {X Y : Type 0} (f : X → Y) (p : Y → Bool) (xs : List X) → list_any (λ x. p (f x)) xs ≡ list_any p (map f xs)
any_mapped f p [] = refl
any_mapped f p (x ∷ xs) = ap (λ (b : Bool). p (f x) || b) (any_mapped f p xs)

-- the list is what the field holds, and the others are what a contract sees of it
pub any_seen : {X Y : Type 0} (f : X → Y) (p : Y → Bool) (xs held : List X) (seen : List Y) → xs ≡ held → map f held ≡ seen
    → list_any (λ x. p (f x)) xs ≡ list_any p seen
any_seen f p xs held seen is sees = any_mapped f p xs ∙ ap (list_any p) (ap (map f) is ∙ sees)

-- who is allowed is accepted unless denied, and nobody else
pub allowed_accepted : (a b c d : Bool) → a ≡ b → c ≡ d → a ≡ true → not c ≡ (b && not d)
allowed_accepted a true c d is denied h = ap not denied
allowed_accepted a false c d is denied h = cc

pub others_stay_out : (a b d : Bool) → a ≡ b → a ≡ false → a ≡ (b && not d)
others_stay_out a true d is h = cc
others_stay_out a false d is h = is
