-- Bodies of mpints.

use Rattle.std.specs.Prelude.{ℕ, ◌==◌, nat_le, if◌then◌else◌, List, [], ◌∷◌}

-- the shortest body of an mpint whose number these bytes are, the highest first (RFC 8731 section 3.1)
abbrev pub mpint_body : List ℕ → List ℕ
mpint_body [] = []
mpint_body (b ∷ bytes) = if b == 0 then mpint_body bytes else (if nat_le 128 b then 0 ∷ b ∷ bytes else b ∷ bytes)
