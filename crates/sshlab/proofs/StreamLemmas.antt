-- Writes one after another.

use Rattle.std.proofs.Common.{◌≡◌, ℕ, ◌+◌, ◌-◌, List, ◌++◌, length, take, drop, Option, None, Some, sym, ap, ◌∙◌}
use Rattle.std.proofs.Math.Seq.{take-add}
use Rattle.std.proofs.lemmas.List.{append_assoc, drop-drop, take_rest}
use Rattle.std.specs.Io.KnownBytes.{Appends}

-- what is left once n bytes and then m more are written
pub rest_further : (bytes rest : List ℕ) (n m : ℕ) → rest ≡ drop n bytes → take (length rest - m) (drop m rest) ≡ drop (n + m) bytes
rest_further bytes rest n m e = take_rest rest m ∙ (ap (λ (xs : List ℕ). drop m xs) e ∙ drop-drop m n bytes)

pub appends_further : (old mid new : Option (List ℕ)) (bytes rest : List ℕ) (n m : ℕ) → rest ≡ drop n bytes → Appends old mid (take n bytes)
    → Appends mid new (take m rest) → Appends old new (take (n + m) bytes)
appends_further None mid new bytes rest n m e a b = tt
appends_further (Some xs) None new bytes rest n m e a b = absurd a
appends_further (Some xs) (Some ys) None bytes rest n m e a b = absurd b
appends_further (Some xs) (Some ys) (Some zs) bytes rest n m e a b =
    let whole : take (n + m) bytes ≡ take n bytes ++ take m rest
    = take-add n m bytes ∙ ap (λ (ws : List ℕ). take n bytes ++ take m ws) (sym e) in
    b ∙ (ap (λ (ws : List ℕ). ws ++ take m rest) a ∙ (append_assoc xs (take n bytes) (take m rest) ∙ ap (λ (ws : List ℕ). xs ++ ws) (sym whole)))
