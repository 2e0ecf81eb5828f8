use Rattle.std.proofs.Common.{◌≡◌, ◌+◌, ◌*◌, ◌%◌, ◌^◌, ◌∙◌, List, ℕ, replicate, subst, sym, ap}
use Rattle.std.proofs.lemmas.List.{get_or-drop, get_or-take}
use Rattle.std.specs.Prelude.{slice_index}
use Rattle.sshsuite.proofs.FrontLemmas.{padded_is}
use Rattle.sshsuite.proofs.MontgomeryLemmas.{zero_at}
use Rattle.sshsuite.proofs.public_power.times.Goals as goal

pub product-requires-clause-inverse : goal.product-requires-clause-inverse
product-requires-clause-inverse c =
    let first = ap (λ (l : List ℕ). slice_index l 0) c.front-modulus.ensures.taken ∙ get_or-take c.args.words c.args.modulus.now 0 0 c.requires.some in
    subst (λ (x : ℕ). (x * c.args.inverse + 1) % 2 ^ 64 ≡ 0) (sym first) c.requires.inverse

pub returns-clause-remainder : goal.returns-clause-remainder
returns-clause-remainder c =
    let after : (k : ℕ) → slice_index c.split_at_mut-low.result.1.now k ≡ 0
    = λ k. ap (λ (l : List ℕ). slice_index l k) c.split_at_mut-low.ensures.back ∙ (get_or-drop c.args.words (replicate 128 0) k 0 ∙ zero_at 128 (c.args.words + k)) in
    rw (padded_is c.product.new.out c.split_at_mut-low.result.1.now after)
    (rw (c.front-modulus.ensures.long, c.front-modulus.ensures.same, c.front-a.ensures.same, c.front-b.ensures.same) at c.product.ensures.remainder)

pub returns-clause-below : goal.returns-clause-below
returns-clause-below c =
    let after : (k : ℕ) → slice_index c.split_at_mut-low.result.1.now k ≡ 0
    = λ k. ap (λ (l : List ℕ). slice_index l k) c.split_at_mut-low.ensures.back ∙ (get_or-drop c.args.words (replicate 128 0) k 0 ∙ zero_at 128 (c.args.words + k)) in
    rw (padded_is c.product.new.out c.split_at_mut-low.result.1.now after) (rw c.front-modulus.ensures.same at c.product.ensures.below)
