-- How patterns are matched: by a row for each end of the pattern, of whether it means the last 0, 1, 2 .. bytes of the text.

use Rattle.std.specs.Prelude.{ℕ, ◌==◌, ◌&&◌, ◌||◌, Bool, false, true, List, [], ◌∷◌, if◌then◌else◌, map, zip}
use Rattle.sshauth.specs.HostNames.{is_like}

-- the row of no pattern, which means no bytes
abbrev pub first_row : List ℕ → List Bool
first_row text = true ∷ map (λ byte. false) text

-- the row of `*` and what stands after it, from the row of this: one end passes so far
unfoldable pub row_after_any : Bool → List Bool → List Bool
row_after_any found [] = []
row_after_any found (x ∷ row) = (found || x) ∷ row_after_any (found || x) row

-- the row of another byte and what stands after it; the text has its last byte first
abbrev pub row_after_one : ℕ → List ℕ → List Bool → List Bool
row_after_one p text row = false ∷ map (λ pair. is_like p pair.0 && pair.1) (zip text row)

-- the row after one more byte of the pattern, which may be `*`
abbrev pub next_row : ℕ → List ℕ → List Bool → List Bool
next_row p text row = if p == 42 then row_after_any false row else row_after_one p text row
