-- Times x in Z_q[x] / (x^256 + 1) is times x in each of the 128 parts of the transform.

use Rattle.std.proofs.Common.{◌≡◌, ◌≢◌, ℕ, zero, suc, ◌+◌, ◌-◌, ◌*◌, ◌/◌, ◌%◌, ◌^◌, ◌<◌, ◌≤◌, Bool, true, false, cond, List, [], ◌∷◌, take, refl, sym, ap, ap₂, ◌∙◌, arith, ⊎_elim, subst, eqb, eqb-true}
use Rattle.std.proofs.lemmas.Bool.{and_parts, cases_lt, eqb-false}
use Rattle.std.proofs.lemmas.List.{get_or-take, get_or_past, length-take}
use Rattle.std.specs.Prelude.{◌&&◌, slice_index}
use Prim.{tt}
use Rattle.sshmlkem.proofs.BlockLemmas.{Places, places_1, places_2, places_3, places_4, places_5, places_6, places_7}
use Rattle.sshmlkem.proofs.LayerLemmas.{forward_first_is, forward_partner_is, forward_ring, zeta, zetas_of}
use Rattle.sshmlkem.proofs.NumberLemmas.{deduced, number_low}
use Rattle.sshmlkem.proofs.PlaceLemmas.{below, by_pairs, partner}
use Rattle.sshmlkem.proofs.TransformLemmas.{forwards, ntt_is}
use Rattle.sshmlkem.specs.Ntt.{forward_layer, gammas, ntt, place, zetas}
use Rattle.sshmlkem.specs.Ring.{IsRing, minus, plus, shifted, times}
use Rattle.sshpolynomials.specs.Polynomials.{num, var, ◌⊕◌, ◌⊖◌, ◌⊗◌}

-- times x in blocks of w numbers, of which block b is modulo x^w = root b
pub record Shifts (w : ℕ) (root : ℕ → ℕ) (f g : List ℕ) : Type 0 where
  pub inner : (x : ℕ) → x < 256 → x % w ≢ 0 → slice_index g x ≡ slice_index f (x - 1)
  pub outer : (b : ℕ) → b * w < 256 → slice_index g (b * w) ≡ times (root b) (slice_index f (b * w + (w - 1)))

by_roots : (w : ℕ) (p q : ℕ → ℕ) (f g : List ℕ) → ((b : ℕ) → b * w < 256 → p b ≡ q b) → Shifts w p f g → Shifts w q f g
by_roots w p q f g e h = record { inner = h.inner; outer = λ b l. h.outer b l ∙ ap (λ (r : ℕ). times r (slice_index f (b * w + (w - 1)))) (e b l) }

-- the zeta of block b of a layer
abbrev block_zeta : ℕ → ℕ → ℕ
block_zeta s b = slice_index zetas (128 / 2 ^ s + b)

abbrev square : ℕ → ℕ → ℕ
square s b = times (block_zeta s b) (block_zeta s b)

-- one of both roots
abbrev root_of : ℕ → ℕ → ℕ
root_of s c = cond (eqb (c % 2) 0) (block_zeta s (c / 2)) (minus 0 (block_zeta s (c / 2)))

shift_first : (z u v : ℕ) → z < 3329 → u < 3329 → v < 3329 → plus (times (times z z) v) (times u z) ≡ times z (plus u (times v z))
shift_first z u v a b c = deduced (var 0 ⊗ var 0 ⊗ var 2 ⊕ var 1 ⊗ var 0) (var 0 ⊗ (var 1 ⊕ var 2 ⊗ var 0)) [] (z ∷ u ∷ v ∷ []) (a, (b, (c, tt))) tt refl

shift_second : (z u v : ℕ) → z < 3329 → u < 3329 → v < 3329 → minus (times (times z z) v) (times u z) ≡ times (minus 0 z) (minus u (times v z))
shift_second z u v a b c = deduced (var 0 ⊗ var 0 ⊗ var 2 ⊖ var 1 ⊗ var 0) ((num 0 ⊖ var 0) ⊗ (var 1 ⊖ var 2 ⊗ var 0)) [] (z ∷ u ∷ v ∷ []) (a, (b, (c, tt))) tt refl

module _ (s m : ℕ) (one : 1 ≤ s) (seven : s ≤ 7) (at : Places s m) (f g : List ℕ) (rf : IsRing f) (rg : IsRing g) (shifts : Shifts (2 * m) (square s) f g) where
  inner_after : (x : ℕ) → x < 256 → x % m ≢ 0 → slice_index (forward_layer g s) x ≡ slice_index (forward_layer f s) (x - 1)
  inner_after x l = by_pairs s one seven (λ x. x % m ≢ 0 → slice_index (forward_layer g s) x ≡ slice_index (forward_layer f s) (x - 1))
      (λ k l h.
      let hk : k % m ≢ 0 = λ e. h (at.offset k l e) in
      let low = below s k one seven l in
      let back = at.before k l hk in
      let e1 : place s k - 1 ≡ place s (k - 1) = omega (arith, back) in
      let e2 : partner s k - 1 ≡ partner s (k - 1) = omega (arith, back) in
      let z : zeta s k ≡ zeta s (k - 1) = ap (λ (n : ℕ). slice_index zetas (128 / 2 ^ s + n)) (sym (at.same_block k l hk)) in
      forward_first_is s one seven g rg k l
      ∙ ap₂ (λ (x y : ℕ). plus x (times y (zeta s k))) (shifts.inner (place s k) (omega (arith, low)) (at.inside k l hk) ∙ ap (slice_index f) e1) (shifts.inner (partner s k) low (at.inside_too k l) ∙ ap (slice_index f) e2)
      ∙ ap (λ (z : ℕ). plus (slice_index f (place s (k - 1))) (times (slice_index f (partner s (k - 1))) z)) z
      ∙ sym (ap (slice_index (forward_layer f s)) e1 ∙ forward_first_is s one seven f rf (k - 1) (omega (arith, l))))
      (λ k l h.
      let hk : k % m ≢ 0 = λ e. h (at.offset_too k l e) in
      let low = below s k one seven l in
      let back = at.before k l hk in
      let e1 : place s k - 1 ≡ place s (k - 1) = omega (arith, back) in
      let e2 : partner s k - 1 ≡ partner s (k - 1) = omega (arith, back) in
      let z : zeta s k ≡ zeta s (k - 1) = ap (λ (n : ℕ). slice_index zetas (128 / 2 ^ s + n)) (sym (at.same_block k l hk)) in
      forward_partner_is s one seven g rg k l
      ∙ ap₂ (λ (x y : ℕ). minus x (times y (zeta s k))) (shifts.inner (place s k) (omega (arith, low)) (at.inside k l hk) ∙ ap (slice_index f) e1) (shifts.inner (partner s k) low (at.inside_too k l) ∙ ap (slice_index f) e2)
      ∙ ap (λ (z : ℕ). minus (slice_index f (place s (k - 1))) (times (slice_index f (partner s (k - 1))) z)) z
      ∙ sym (ap (slice_index (forward_layer f s)) e2 ∙ forward_partner_is s one seven f rf (k - 1) (omega (arith, l))))
      x l

  module _ (b : ℕ) (l : b * (2 * m) < 256) where
    start_pair : ℕ
    start_pair = b * m

    end_pair : ℕ
    end_pair = b * m + (m - 1)

    end_low : end_pair < 128
    unfolding end_pair
    end_low = at.low b l

    start_low : start_pair < 128
    unfolding start_pair
    start_low = let h = at.low b l in omega (arith, h)

    start_zeta : zeta s start_pair ≡ block_zeta s b
    unfolding start_pair
    start_zeta = ap (λ (n : ℕ). slice_index zetas (128 / 2 ^ s + n)) (at.block b l)

    end_zeta : zeta s end_pair ≡ block_zeta s b
    unfolding end_pair
    end_zeta = ap (λ (n : ℕ). slice_index zetas (128 / 2 ^ s + n)) (at.end_block b l)

    block_zeta_low : block_zeta s b < 3329
    block_zeta_low = let h = zetas_of s start_pair one seven start_low in rw start_zeta at h.low

    shifted_first : slice_index g (place s start_pair) ≡ times (square s b) (slice_index f (partner s end_pair))
    unfolding start_pair end_pair
    shifted_first = ap (slice_index g) (at.first b l) ∙ shifts.outer b l ∙ ap (λ (n : ℕ). times (square s b) (slice_index f n)) (sym (at.end_second b l))

    shifted_second : slice_index g (partner s start_pair) ≡ slice_index f (place s end_pair)
    unfolding start_pair end_pair
    shifted_second =
        let e = at.middle b l in
        let d = at.end_first b l in
        let some = at.some in
        let n : partner s (b * m) - 1 ≡ place s (b * m + (m - 1)) = omega (arith, e, d, some) in
        shifts.inner (partner s (b * m)) (below s (b * m) one seven (let h = at.low b l in omega (arith, h))) (at.inside_too (b * m) (let h = at.low b l in omega (arith, h))) ∙ ap (slice_index f) n

    outer_first : slice_index (forward_layer g s) (place s start_pair) ≡ times (block_zeta s b) (slice_index (forward_layer f s) (place s end_pair))
    outer_first =
        forward_first_is s one seven g rg start_pair start_low ∙ ap₂ plus shifted_first (ap₂ times shifted_second start_zeta)
        ∙ shift_first (block_zeta s b) (slice_index f (place s end_pair)) (slice_index f (partner s end_pair)) block_zeta_low (rf.low (place s end_pair)) (rf.low (partner s end_pair))
        ∙ ap (times (block_zeta s b)) (sym (forward_first_is s one seven f rf end_pair end_low ∙ ap (λ (z : ℕ). plus (slice_index f (place s end_pair)) (times (slice_index f (partner s end_pair)) z)) end_zeta))

    outer_second : slice_index (forward_layer g s) (partner s start_pair) ≡ times (minus 0 (block_zeta s b)) (slice_index (forward_layer f s) (partner s end_pair))
    outer_second =
        forward_partner_is s one seven g rg start_pair start_low ∙ ap₂ minus shifted_first (ap₂ times shifted_second start_zeta)
        ∙ shift_second (block_zeta s b) (slice_index f (place s end_pair)) (slice_index f (partner s end_pair)) block_zeta_low (rf.low (place s end_pair)) (rf.low (partner s end_pair))
        ∙ ap (times (minus 0 (block_zeta s b))) (sym (forward_partner_is s one seven f rf end_pair end_low ∙ ap (λ (z : ℕ). minus (slice_index f (place s end_pair)) (times (slice_index f (partner s end_pair)) z)) end_zeta))

  outer_by : (c : ℕ) → c * m < 256 → (e : Bool) → eqb (c % 2) 0 ≡ e
      → slice_index (forward_layer g s) (c * m) ≡ times (cond e (block_zeta s (c / 2)) (minus 0 (block_zeta s (c / 2)))) (slice_index (forward_layer f s) (c * m + (m - 1)))
  unfolding start_pair end_pair
  outer_by c l true e =
      let b : ℕ = c / 2 in
      let lb = at.half c l in
      let is = at.even c (eqb-true (c % 2) 0 e) in
      let start = at.first b lb in
      let end = at.end_first b lb in
      ap (slice_index (forward_layer g s)) (omega (arith, is, start)) ∙ outer_first b lb
      ∙ ap (λ (n : ℕ). times (block_zeta s b) (slice_index (forward_layer f s) n)) (omega (arith, is, end))
  outer_by c l false e =
      let b : ℕ = c / 2 in
      let lb = at.half c l in
      let is = at.odd c (eqb-false (c % 2) 0 e) in
      let start = at.middle b lb in
      let end = at.end_second b lb in
      let some = at.some in
      ap (slice_index (forward_layer g s)) (omega (arith, is, start)) ∙ outer_second b lb
      ∙ ap (λ (n : ℕ). times (minus 0 (block_zeta s b)) (slice_index (forward_layer f s) n)) (omega (arith, is, end, some))

  layer_shifts : Shifts m (root_of s) (forward_layer f s) (forward_layer g s)
  layer_shifts = record { inner = inner_after; outer = λ c l. outer_by c l (eqb (c % 2) 0) refl }

-- the roots of a layer are those of the layer before it, by computing
same_numbers : (p q : ℕ → ℕ) → ℕ → Bool
same_numbers p q zero = true
same_numbers p q (suc n) = eqb (p n) (q n) && same_numbers p q n

same_at : (p q : ℕ → ℕ) (n : ℕ) → same_numbers p q n ≡ true → (b : ℕ) → b < n → p b ≡ q b
unfolding same_numbers
same_at p q zero e b l = absurd (omega (arith, l))
same_at p q (suc n) e b l =
    let parts = and_parts (eqb (p n) (q n)) (same_numbers p q n) e in
    ⊎_elim (λ (h : b < n). same_at p q n parts.1 b h) (λ (h : n ≤ b). let is : n ≡ b = omega (arith, l, h) in subst (λ (x : ℕ). p x ≡ q x) is (eqb-true (p n) (q n) parts.0)) (cases_lt b n)

negated : (v : ℕ) → v < 3329 → minus 0 v ≡ times 3328 v
negated v l = deduced (num 0 ⊖ var 0) (num 3328 ⊗ var 0) [] (v ∷ []) (l, tt) tt refl

whole_shifts : (f : List ℕ) → IsRing f → Shifts 256 (square 7) f (shifted f)
unfolding shifted
whole_shifts f rf = record { inner = inner; outer = outer }
  where
    inner : (x : ℕ) → x < 256 → x % 256 ≢ 0 → slice_index (shifted f) x ≡ slice_index f (x - 1)
    inner zero l h = absurd (h refl)
    inner (suc x) l h = let e : x ≡ suc x - 1 = omega arith in get_or-take 255 f x 0 (omega (arith, l)) ∙ ap (slice_index f) e

    outer : (b : ℕ) → b * 256 < 256 → slice_index (shifted f) (b * 256) ≡ times (square 7 b) (slice_index f (b * 256 + 255))
    outer zero l = negated (slice_index f 255) (rf.low 255)
    outer (suc b) l = absurd (omega (arith, l))

shifted_low : (f : List ℕ) → IsRing f → (i : ℕ) → slice_index (shifted f) i < 3329
unfolding shifted
shifted_low f rf zero = number_low _
shifted_low f rf (suc i) =
    ⊎_elim (λ (l : i < 255). let is = get_or-take 255 f i 0 l in let low = rf.low i in omega (arith, is, low))
    (λ (l : 255 ≤ i). let cut = length-take 255 f in let is : slice_index (take 255 f) i ≡ 0 = get_or_past (take 255 f) i 0 (omega (arith, cut, l)) in omega (arith, is))
    (cases_lt i 255)

pub shifted_ring : (f : List ℕ) → IsRing f → IsRing (shifted f)
unfolding shifted
shifted_ring f rf = record { long = let cut = length-take 255 f in let own = rf.long in omega (arith, cut, own); low = shifted_low f rf }

-- the transform of x f
pub ntt_shifts : (f : List ℕ) → IsRing f → Shifts 2 (slice_index gammas) (ntt f) (ntt (shifted f))
unfolding forwards same_numbers
ntt_shifts f rf =
    let rg = shifted_ring f rf in
    let g : List ℕ = shifted f in
    let f7 : List ℕ = forward_layer f 7 in
    let g7 : List ℕ = forward_layer g 7 in
    let rf7 = forward_ring 7 (omega arith) (omega arith) f rf in
    let rg7 = forward_ring 7 (omega arith) (omega arith) g rg in
    let after7 = layer_shifts 7 128 (omega arith) (omega arith) places_7 f g rf rg (whole_shifts f rf) in
    let f6 : List ℕ = forward_layer f7 6 in
    let g6 : List ℕ = forward_layer g7 6 in
    let rf6 = forward_ring 6 (omega arith) (omega arith) f7 rf7 in
    let rg6 = forward_ring 6 (omega arith) (omega arith) g7 rg7 in
    let after6 = layer_shifts 6 64 (omega arith) (omega arith) places_6 f7 g7 rf7 rg7 (by_roots 128 (root_of 7) (square 6) f7 g7 (λ b l. same_at (root_of 7) (square 6) 2 refl b (omega (arith, l))) after7) in
    let f5 : List ℕ = forward_layer f6 5 in
    let g5 : List ℕ = forward_layer g6 5 in
    let rf5 = forward_ring 5 (omega arith) (omega arith) f6 rf6 in
    let rg5 = forward_ring 5 (omega arith) (omega arith) g6 rg6 in
    let after5 = layer_shifts 5 32 (omega arith) (omega arith) places_5 f6 g6 rf6 rg6 (by_roots 64 (root_of 6) (square 5) f6 g6 (λ b l. same_at (root_of 6) (square 5) 4 refl b (omega (arith, l))) after6) in
    let f4 : List ℕ = forward_layer f5 4 in
    let g4 : List ℕ = forward_layer g5 4 in
    let rf4 = forward_ring 4 (omega arith) (omega arith) f5 rf5 in
    let rg4 = forward_ring 4 (omega arith) (omega arith) g5 rg5 in
    let after4 = layer_shifts 4 16 (omega arith) (omega arith) places_4 f5 g5 rf5 rg5 (by_roots 32 (root_of 5) (square 4) f5 g5 (λ b l. same_at (root_of 5) (square 4) 8 refl b (omega (arith, l))) after5) in
    let f3 : List ℕ = forward_layer f4 3 in
    let g3 : List ℕ = forward_layer g4 3 in
    let rf3 = forward_ring 3 (omega arith) (omega arith) f4 rf4 in
    let rg3 = forward_ring 3 (omega arith) (omega arith) g4 rg4 in
    let after3 = layer_shifts 3 8 (omega arith) (omega arith) places_3 f4 g4 rf4 rg4 (by_roots 16 (root_of 4) (square 3) f4 g4 (λ b l. same_at (root_of 4) (square 3) 16 refl b (omega (arith, l))) after4) in
    let f2 : List ℕ = forward_layer f3 2 in
    let g2 : List ℕ = forward_layer g3 2 in
    let rf2 = forward_ring 2 (omega arith) (omega arith) f3 rf3 in
    let rg2 = forward_ring 2 (omega arith) (omega arith) g3 rg3 in
    let after2 = layer_shifts 2 4 (omega arith) (omega arith) places_2 f3 g3 rf3 rg3 (by_roots 8 (root_of 3) (square 2) f3 g3 (λ b l. same_at (root_of 3) (square 2) 32 refl b (omega (arith, l))) after3) in
    let f1 : List ℕ = forward_layer f2 1 in
    let g1 : List ℕ = forward_layer g2 1 in
    let rf1 = forward_ring 1 (omega arith) (omega arith) f2 rf2 in
    let rg1 = forward_ring 1 (omega arith) (omega arith) g2 rg2 in
    let after1 = layer_shifts 1 2 (omega arith) (omega arith) places_1 f2 g2 rf2 rg2 (by_roots 4 (root_of 2) (square 1) f2 g2 (λ b l. same_at (root_of 2) (square 1) 64 refl b (omega (arith, l))) after2) in
    rw (ntt_is f, ntt_is (shifted f)) (by_roots 2 (root_of 1) (slice_index gammas) f1 g1 (λ b l. same_at (root_of 1) (slice_index gammas) 128 refl b (omega (arith, l))) after1)
