-- The first words of a number that has no others.

use Rattle.std.proofs.Common.{◌≡◌, ◌∙◌, ℕ, zero, suc, ◌+◌, ◌-◌, ◌*◌, ◌^◌, ◌<◌, ◌≤◌, List, ◌++◌, length, take, refl, sym, subst, ap, arith}
use Rattle.std.proofs.lemmas.List.{get_or-append-add, get_or-take, get_or_append_left, length-append, length-take-le}
use Rattle.std.proofs.lemmas.Nat.{pow-add}
use Rattle.std.specs.Prelude.{slice_index}
use Rattle.sshsuite.specs.LongNumbers.{number_of, number_to, weight}
use Rattle.sshsuite.proofs.LongNumberLemmas.{number_all, number_kept, number_more, number_none, weight_more, weight_none, weight_some, word_fits}

weight_within : (n d : ℕ) → weight n ≤ weight (n + d)
unfolding weight
weight_within n d =
    let e : 64 * (n + d) ≡ 64 * n + 64 * d = omega arith in
    let split = ap (λ (k : ℕ). 2 ^ k) e ∙ pow-add 2 (64 * n) (64 * d) in
    let some : 0 < 2 ^ (64 * d) = weight_some d in
    let more = times_some (2 ^ (64 * n)) (2 ^ (64 * d)) some in omega (arith, split, more)
  where
    times_some : (a b : ℕ) → 0 < b → a ≤ a * b
    times_some a zero h = absurd (omega (arith, h))
    times_some a (suc b) h = omega arith

up_to : (words : List ℕ) (n d : ℕ) → number_to words (n + d) < weight n → number_to words n ≡ number_to words (n + d)
up_to words n zero h = let e : n ≡ n + 0 = omega arith in ap (number_to words) e
up_to words n (suc d) h =
    let at : n + suc d ≡ n + d + 1 = omega arith in
    let more : number_to words (n + suc d) ≡ number_to words (n + d) + weight (n + d) * slice_index words (n + d) = ap (number_to words) at ∙ number_more words (n + d) in
    let heavier = weight_within n d in
    let none = no_word (weight (n + d)) (slice_index words (n + d)) (omega (arith, h, more, heavier)) in
    let before = up_to words n d (omega (arith, h, more)) in omega (arith, before, more, none)
  where
    no_word : (w x : ℕ) → w * x < w → w * x ≡ 0
    no_word w zero h = omega arith
    no_word w (suc x) h = absurd (omega (arith, h))

pub front_is : (words : List ℕ) (n : ℕ) → n ≤ length words → number_of words < weight n → number_of (take n words) ≡ number_of words
front_is words n within low =
    let at : n + (length words - n) ≡ length words = omega (arith, within) in
    let all = number_all words (n + (length words - n)) at in
    number_all (take n words) n (sym (length-take-le n words within))
    ∙ (number_kept (take n words) words n (λ k h. get_or-take n words k 0 h)
    ∙ (up_to words n (length words - n) (subst (λ (k : ℕ). k < weight n) all low) ∙ sym all))

-- words after which zeros stand
pub padded_is : (v w : List ℕ) → ((k : ℕ) → slice_index w k ≡ 0) → number_of (v ++ w) ≡ number_of v
padded_is v w none = number_all (v ++ w) (length v + length w) (sym (length-append v w)) ∙ (after (length w) ∙ sym (number_all v (length v) refl))
  where
    after : (d : ℕ) → number_to (v ++ w) (length v + d) ≡ number_to v (length v)
    after zero =
        let e : length v + 0 ≡ length v = omega arith in
        ap (number_to (v ++ w)) e ∙ number_kept (v ++ w) v (length v) (λ k h. get_or_append_left v w 0 k h)
    after (suc d) =
        let at : length v + suc d ≡ length v + d + 1 = omega arith in
        let more : number_to (v ++ w) (length v + suc d) ≡ number_to (v ++ w) (length v + d) + weight (length v + d) * slice_index (v ++ w) (length v + d)
        = ap (number_to (v ++ w)) at ∙ number_more (v ++ w) (length v + d) in
        let zero_there : weight (length v + d) * slice_index (v ++ w) (length v + d) ≡ weight (length v + d) * 0 = ap (λ (x : ℕ). weight (length v + d) * x) (get_or-append-add v w d 0 ∙ none d) in
        let before = after d in omega (arith, more, zero_there, before)

-- Up to which word a number has some.
pub used_none : (words : List ℕ) → number_to words 0 < weight 0
used_none words = omega (arith, number_none words, weight_none)

pub used_here : (words : List ℕ) (i : ℕ) → slice_index words i < 2 ^ 64 → number_to words i < weight i → number_to words (i + 1) < weight (i + 1)
used_here words i h low =
    let top = word_fits (weight i) (slice_index words i) h in
    let more = number_more words i in
    let heavier = weight_more i in omega (arith, low, top, more, heavier)

pub used_before : (words : List ℕ) (i used : ℕ) → slice_index words i ≡ 0 → number_to words i < weight used → number_to words (i + 1) < weight used
used_before words i used none low =
    let more = number_more words i in
    let zero_there : weight i * slice_index words i ≡ weight i * 0 = ap (λ (x : ℕ). weight i * x) none in omega (arith, more, zero_there, low)

pub used_some : (n m : ℕ) → 1 < m → m < weight n → 0 < n
used_some zero m big low = absurd (omega (arith, big, low, weight_none))
used_some (suc n) m big low = omega arith
