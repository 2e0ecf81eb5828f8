-- How long the text of a list is, by its names.

use Rattle.std.proofs.Common.{◌≡◌, ℕ, ◌+◌, List, [], ◌∷◌, length, arith}
use Rattle.std.specs.List.{sum_by}
use Rattle.std.proofs.lemmas.List.{length-append}
use Rattle.std.proofs.lemmas.List.Sums.{sum_by-cons}
use Rattle.sshwire.specs.Types.{names_body}

pub body_length : (name : List ℕ) (names : List (List ℕ))
    → length (names_body (name ∷ names)) + 1 ≡ sum_by (λ (n : List ℕ). length n + 1) (name ∷ names)
body_length name [] = omega arith
body_length name (next ∷ names) =
    let room : List ℕ → ℕ = λ n. length n + 1 in
    let rest : length (names_body (next ∷ names)) + 1 ≡ sum_by room (next ∷ names) = body_length next names in
    let all : length (names_body (name ∷ next ∷ names)) ≡ length name + length (44 ∷ names_body (next ∷ names)) = length-append name (44 ∷ names_body (next ∷ names)) in
    let first : sum_by room (name ∷ next ∷ names) ≡ room name + sum_by room (next ∷ names) = sum_by-cons room name (next ∷ names) in
    omega arith
