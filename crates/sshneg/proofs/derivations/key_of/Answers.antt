use Rattle.std.proofs.Common.{rules, ◌≡◌, ℕ, List, ◌∷◌, length, ap, arith}
use Rattle.sshneg.proofs.derivations.key_of.Goals as goal

pub hash_of-requires-clause-short : goal.hash_of-requires-clause-short
hash_of-requires-clause-short g c =
    let session : List ℕ = c.args.material.now.session.now in
    let after : c.deref.result.now ≡ c.args.letter ∷ c.args.material.now.session.now = search rules in
    let size : length c.deref.result.now ≡ length (c.args.letter ∷ c.args.material.now.session.now) = ap (λ (xs : List ℕ). length xs) after in
    omega (arith, size, c.requires.short)
