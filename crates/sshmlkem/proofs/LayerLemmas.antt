-- A layer of the transform, pair by pair. It is linear, and undoes the layer of the inverse and doubles.

use Rattle.std.proofs.Common.{◌≡◌, ℕ, zero, suc, ◌+◌, ◌-◌, ◌*◌, ◌/◌, ◌%◌, ◌^◌, ◌<◌, ◌≤◌, Bool, true, List, refl, sym, ap, ap₂, ◌∙◌, arith, ⊎_elim, subst, eqb-true, ltb-true, eqb, ltb}
use Rattle.std.proofs.Math.Nat.{mod-eq_of_lt}
use Rattle.std.proofs.lemmas.Bool.{and_parts, cases_lt}
use Rattle.std.proofs.lemmas.List.{get_or-set_same, get_or-set_other}
use Rattle.std.specs.Prelude.{◌&&◌, slice_index}
use Rattle.sshmlkem.proofs.LoopLemmas.{SetsTwo, after_first, after_second, ring_after, set_ring}
use Rattle.sshmlkem.proofs.NumberLemmas.{combined_backward_first, combined_backward_second, combined_forward_first, combined_forward_second, multiple_twice, number_low, undone_first, undone_second}
use Rattle.sshmlkem.proofs.PlaceLemmas.{apart, below, by_pairs, partner}
use Rattle.sshmlkem.specs.Field.{difference, product, sum}
use Rattle.sshmlkem.specs.Ntt.{backward_layer, backward_pair, forward_layer, forward_pair, place, zetas}
use Rattle.sshmlkem.specs.Ring.{Combines, IsRing, minus, plus, times}

-- the crate's numbers
pub difference_is : (a b : ℕ) → b < 3329 → difference a b ≡ minus a b
unfolding difference
difference_is a b h = omega (arith, h)

pub product_is : (a b : ℕ) → b < 3329 → product a b ≡ times a b
unfolding product
product_is a b h = ap (λ (n : ℕ). a * n % 3329) (mod-eq_of_lt (omega (arith, h)))

pub sum_is : (a b : ℕ) → sum a b ≡ plus a b
unfolding sum
sum_is a b = refl

pub product_low : (a b : ℕ) → product a b < 3329
unfolding product
product_low a b = number_low _

pub sum_low : (a b : ℕ) → sum a b < 3329
unfolding sum
sum_low a b = number_low _

pub difference_low : (a b : ℕ) → difference a b < 3329
unfolding difference
difference_low a b = number_low _

-- zetas of a pair of a layer, forward and backward
abbrev pub zeta : ℕ → ℕ → ℕ
zeta s k = slice_index zetas (128 / 2 ^ s + k / 2 ^ s)

abbrev pub back_zeta : ℕ → ℕ → ℕ
back_zeta s k = slice_index zetas (256 / 2 ^ s - 1 - k / 2 ^ s)

are_zetas : ℕ → ℕ → Bool
are_zetas s zero = true
are_zetas s (suc n) = (ltb (zeta s n) 3329 && (ltb (back_zeta s n) 3329 && eqb (times (zeta s n) (back_zeta s n)) 3328)) && are_zetas s n

pub record Zetas (s k : ℕ) : Type 0 where
  pub low : zeta s k < 3329
  pub back : back_zeta s k < 3329
  pub minus_one : times (zeta s k) (back_zeta s k) ≡ 3328

zetas_at : (s n k : ℕ) → are_zetas s n ≡ true → k < n → Zetas s k
unfolding are_zetas
zetas_at s zero k e h = absurd (omega (arith, h))
zetas_at s (suc n) k e h =
    let parts = and_parts _ (are_zetas s n) e in
    ⊎_elim (λ (l : k < n). zetas_at s n k parts.1 l)
    (λ (l : n ≤ k).
    let here = and_parts _ _ parts.0 in
    let rest = and_parts _ _ here.1 in
    let own : Zetas s n = record { low = ltb-true _ _ here.0; back = ltb-true _ _ rest.0; minus_one = eqb-true _ _ rest.1 } in
    let e : n ≡ k = omega (arith, h, l) in
    subst (Zetas s) e own)
    (cases_lt k n)

pub zetas_of : (s k : ℕ) → 1 ≤ s → s ≤ 7 → k < 128 → Zetas s k
unfolding are_zetas
zetas_of zero k low high h = absurd (omega arith)
zetas_of (suc zero) k low high h = zetas_at 1 128 k refl h
zetas_of (suc (suc zero)) k low high h = zetas_at 2 128 k refl h
zetas_of (suc (suc (suc zero))) k low high h = zetas_at 3 128 k refl h
zetas_of (suc (suc (suc (suc zero)))) k low high h = zetas_at 4 128 k refl h
zetas_of (suc (suc (suc (suc (suc zero))))) k low high h = zetas_at 5 128 k refl h
zetas_of (suc (suc (suc (suc (suc (suc zero)))))) k low high h = zetas_at 6 128 k refl h
zetas_of (suc (suc (suc (suc (suc (suc (suc zero))))))) k low high h = zetas_at 7 128 k refl h
zetas_of (suc (suc (suc (suc (suc (suc (suc (suc s)))))))) k low high h = absurd (omega arith)

module _ (s : ℕ) (one : 1 ≤ s) (seven : s ≤ 7) where
  forward_sets : SetsTwo (place s) (partner s) (λ a b k. plus a (times b (zeta s k))) (λ a b k. minus a (times b (zeta s k))) (forward_pair s)
  unfolding forward_pair
  forward_sets = record {
    ring = λ f k h. set_ring _ (place s k) _ (sum_low _ _) (set_ring f (partner s k) _ (difference_low _ _) h);
    first = λ f k l h.
        let z = zetas_of s k one seven l in
        let in' = below s k one seven l in
        let made = set_ring f (partner s k) (difference (slice_index f (place s k)) (product (slice_index f (partner s k)) (zeta s k))) (difference_low _ _) h in
        get_or-set_same _ (place s k) _ 0 (omega (arith, made.long, in'))
        ∙ (sum_is _ _ ∙ ap (plus (slice_index f (place s k))) (product_is _ _ z.low));
    second = λ f k l h.
        let z = zetas_of s k one seven l in
        let in' = below s k one seven l in
        let long = h.long in
        let both = (apart s one seven).both k k l l in
        get_or-set_other _ (place s k) (partner s k) _ 0 (λ e. both (sym e))
        ∙ (get_or-set_same f (partner s k) _ 0 (omega (arith, long, in'))
        ∙ (difference_is _ _ (product_low _ _) ∙ ap (minus (slice_index f (place s k))) (product_is _ _ z.low)));
    other = λ f k x a b. get_or-set_other _ (place s k) x _ 0 a ∙ get_or-set_other f (partner s k) x _ 0 b;
  }

  pub backward_sets : SetsTwo (place s) (partner s) (λ a b k. plus a b) (λ a b k. times (minus b a) (back_zeta s k)) (backward_pair s)
  unfolding backward_pair
  backward_sets = record {
    ring = λ f k h. set_ring _ (partner s k) _ (product_low _ _) (set_ring f (place s k) _ (sum_low _ _) h);
    first = λ f k l h.
        let in' = below s k one seven l in
        let long = h.long in
        let both = (apart s one seven).both k k l l in
        get_or-set_other _ (partner s k) (place s k) _ 0 both
        ∙ (get_or-set_same f (place s k) _ 0 (omega (arith, long, in')) ∙ sum_is _ _);
    second = λ f k l h.
        let z = zetas_of s k one seven l in
        let in' = below s k one seven l in
        let made = set_ring f (place s k) (sum (slice_index f (place s k)) (slice_index f (partner s k))) (sum_low _ _) h in
        get_or-set_same _ (partner s k) _ 0 (omega (arith, made.long, in'))
        ∙ (product_is _ _ z.back ∙ ap (λ (n : ℕ). times n (back_zeta s k)) (difference_is _ _ (h.low (place s k))));
    other = λ f k x a b. get_or-set_other _ (partner s k) x _ 0 b ∙ get_or-set_other f (place s k) x _ 0 a;
  }

  pub forward_ring : (f : List ℕ) → IsRing f → IsRing (forward_layer f s)
  unfolding forward_layer
  forward_ring f h = ring_after (place s) (partner s) _ _ (forward_pair s) forward_sets (apart s one seven) f h 128

  pub backward_ring : (f : List ℕ) → IsRing f → IsRing (backward_layer f s)
  unfolding backward_layer
  backward_ring f h = ring_after (place s) (partner s) _ _ (backward_pair s) backward_sets (apart s one seven) f h 128

  module _ (f : List ℕ) (h : IsRing f) (k : ℕ) (l : k < 128) where
    pub forward_first_is : slice_index (forward_layer f s) (place s k) ≡ plus (slice_index f (place s k)) (times (slice_index f (partner s k)) (zeta s k))
    unfolding forward_layer
    forward_first_is = after_first (place s) (partner s) _ _ (forward_pair s) forward_sets (apart s one seven) f h 128 k (omega arith) l

    pub forward_partner_is : slice_index (forward_layer f s) (partner s k) ≡ minus (slice_index f (place s k)) (times (slice_index f (partner s k)) (zeta s k))
    unfolding forward_layer
    forward_partner_is = after_second (place s) (partner s) _ _ (forward_pair s) forward_sets (apart s one seven) f h 128 k (omega arith) l

    pub backward_first_is : slice_index (backward_layer f s) (place s k) ≡ plus (slice_index f (place s k)) (slice_index f (partner s k))
    unfolding backward_layer
    backward_first_is = after_first (place s) (partner s) _ _ (backward_pair s) backward_sets (apart s one seven) f h 128 k (omega arith) l

    pub backward_partner_is : slice_index (backward_layer f s) (partner s k) ≡ times (minus (slice_index f (partner s k)) (slice_index f (place s k))) (back_zeta s k)
    unfolding backward_layer
    backward_partner_is = after_second (place s) (partner s) _ _ (backward_pair s) backward_sets (apart s one seven) f h 128 k (omega arith) l

  -- a layer of a combination
  module _ (c d : ℕ) (lc : c < 3329) (ld : d < 3329) (f g h : List ℕ) (rf : IsRing f) (rg : IsRing g) (rh : IsRing h) (is : Combines c f d g h) where
    pub forward_combines : Combines c (forward_layer f s) d (forward_layer g s) (forward_layer h s)
    forward_combines = by_pairs s one seven (λ x. slice_index (forward_layer h s) x ≡ plus (times c (slice_index (forward_layer f s) x)) (times d (slice_index (forward_layer g s) x)))
        (λ k l.
        let i : ℕ = place s k in
        let j : ℕ = partner s k in
        let in' = below s k one seven l in
        let z = zetas_of s k one seven l in
        forward_first_is h rh k l ∙ ap₂ (λ (x y : ℕ). plus x (times y (zeta s k))) (is i (omega (arith, in'))) (is j in')
        ∙ combined_forward_first c d (zeta s k) (slice_index f i) (slice_index f j) (slice_index g i) (slice_index g j) lc ld z.low (rf.low i) (rf.low j) (rg.low i) (rg.low j)
        ∙ sym (ap₂ (λ (x y : ℕ). plus (times c x) (times d y)) (forward_first_is f rf k l) (forward_first_is g rg k l)))
        (λ k l.
        let i : ℕ = place s k in
        let j : ℕ = partner s k in
        let in' = below s k one seven l in
        let z = zetas_of s k one seven l in
        forward_partner_is h rh k l ∙ ap₂ (λ (x y : ℕ). minus x (times y (zeta s k))) (is i (omega (arith, in'))) (is j in')
        ∙ combined_forward_second c d (zeta s k) (slice_index f i) (slice_index f j) (slice_index g i) (slice_index g j) lc ld z.low (rf.low i) (rf.low j) (rg.low i) (rg.low j)
        ∙ sym (ap₂ (λ (x y : ℕ). plus (times c x) (times d y)) (forward_partner_is f rf k l) (forward_partner_is g rg k l)))

    pub backward_combines : Combines c (backward_layer f s) d (backward_layer g s) (backward_layer h s)
    backward_combines = by_pairs s one seven (λ x. slice_index (backward_layer h s) x ≡ plus (times c (slice_index (backward_layer f s) x)) (times d (slice_index (backward_layer g s) x)))
        (λ k l.
        let i : ℕ = place s k in
        let j : ℕ = partner s k in
        let in' = below s k one seven l in
        let z = zetas_of s k one seven l in
        backward_first_is h rh k l ∙ ap₂ plus (is i (omega (arith, in'))) (is j in')
        ∙ combined_backward_first c d (zeta s k) (slice_index f i) (slice_index f j) (slice_index g i) (slice_index g j) lc ld z.low (rf.low i) (rf.low j) (rg.low i) (rg.low j)
        ∙ sym (ap₂ (λ (x y : ℕ). plus (times c x) (times d y)) (backward_first_is f rf k l) (backward_first_is g rg k l)))
        (λ k l.
        let i : ℕ = place s k in
        let j : ℕ = partner s k in
        let in' = below s k one seven l in
        let z = zetas_of s k one seven l in
        backward_partner_is h rh k l ∙ ap₂ (λ (x y : ℕ). times (minus y x) (back_zeta s k)) (is i (omega (arith, in'))) (is j in')
        ∙ combined_backward_second c d (back_zeta s k) (slice_index f i) (slice_index f j) (slice_index g i) (slice_index g j) lc ld z.back (rf.low i) (rf.low j) (rg.low i) (rg.low j)
        ∙ sym (ap₂ (λ (x y : ℕ). plus (times c x) (times d y)) (backward_partner_is f rf k l) (backward_partner_is g rg k l)))

  -- a layer undoes one of the inverse, and doubles
  module _ (f : List ℕ) (rf : IsRing f) where
    pub forward_undoes : Combines 2 f 0 f (forward_layer (backward_layer f s) s)
    forward_undoes = by_pairs s one seven (λ x. slice_index (forward_layer (backward_layer f s) s) x ≡ plus (times 2 (slice_index f x)) (times 0 (slice_index f x)))
        (λ k l.
        let i : ℕ = place s k in
        let j : ℕ = partner s k in
        let z = zetas_of s k one seven l in
        forward_first_is _ (backward_ring f rf) k l ∙ ap₂ (λ (x y : ℕ). plus x (times y (zeta s k))) (backward_first_is f rf k l) (backward_partner_is f rf k l)
        ∙ undone_first (slice_index f i) (slice_index f j) (zeta s k) (back_zeta s k) (rf.low i) (rf.low j) z.low z.back z.minus_one)
        (λ k l.
        let i : ℕ = place s k in
        let j : ℕ = partner s k in
        let z = zetas_of s k one seven l in
        forward_partner_is _ (backward_ring f rf) k l ∙ ap₂ (λ (x y : ℕ). minus x (times y (zeta s k))) (backward_first_is f rf k l) (backward_partner_is f rf k l)
        ∙ undone_second (slice_index f i) (slice_index f j) (zeta s k) (back_zeta s k) (rf.low i) (rf.low j) z.low z.back z.minus_one)

    -- a multiple of a layer of the inverse gives a multiple of what was there
    pub forward_undoes_multiple : (c : ℕ) → c < 3329 → (g : List ℕ) → IsRing g → Combines c (backward_layer f s) 0 (backward_layer f s) g → Combines (times c 2) f 0 f (forward_layer g s)
    forward_undoes_multiple c lc g rg is x l =
        let rb = backward_ring f rf in
        forward_combines c 0 lc (omega arith) (backward_layer f s) (backward_layer f s) g rb rb rg is x l
        ∙ ap (λ (n : ℕ). plus (times c n) (times 0 n)) (forward_undoes x l) ∙ multiple_twice c 2 (slice_index f x) lc (omega arith) (rf.low x)
