-- The transform and its inverse are linear, and each undoes the other.

use Rattle.std.proofs.Common.{◌≡◌, ℕ, zero, suc, ◌*◌, ◌<◌, ◌≤◌, List, refl, sym, ap, ap₂, ◌∙◌, arith, [], ◌∷◌}
use Rattle.std.proofs.lemmas.List.{ext_get_or, get_or-set_same, get_or-set_other}
use Rattle.std.specs.Prelude.{slice_index}
use Prim.{tt}
use Rattle.sshmlkem.proofs.LayerLemmas.{back_zeta, backward_combines, backward_first_is, backward_partner_is, backward_ring, forward_combines, forward_first_is, forward_partner_is, forward_ring, forward_undoes_multiple, product_is, product_low, zeta, zetas_of}
use Rattle.sshmlkem.proofs.LoopLemmas.{SetsOne, after_one, ring_ones, set_ring}
use Rattle.sshmlkem.proofs.NumberLemmas.{deduced, multiple_twice, number_low, combined_scaled}
use Rattle.sshmlkem.proofs.PlaceLemmas.{by_pairs, partner}
use Rattle.sshmlkem.specs.Ntt.{backward_layer, forward_layer, inverse_ntt, ntt, place, scaled, scaled_at}
use Rattle.sshmlkem.specs.Ring.{Combines, IsRing, minus, plus, times}
use Rattle.sshpolynomials.specs.Polynomials.{given, num, var, ◌⊕◌, ◌⊖◌, ◌⊗◌}

-- the last step of the inverse
scaled_sets : SetsOne (λ a k. times a 3303) scaled_at
unfolding scaled_at
scaled_sets = record {
  ring = λ f k h. set_ring f k _ (product_low _ _) h;
  first = λ f k l h. let long = h.long in get_or-set_same f k _ 0 (omega (arith, long, l)) ∙ product_is _ 3303 (omega arith);
  other = λ f k x e. get_or-set_other f k x _ 0 e;
}

pub scaled_ring : (f : List ℕ) → IsRing f → IsRing (scaled f)
unfolding scaled
scaled_ring f h = ring_ones _ scaled_at scaled_sets f h 256

pub scaled_is : (f : List ℕ) → IsRing f → (x : ℕ) → x < 256 → slice_index (scaled f) x ≡ times (slice_index f x) 3303
unfolding scaled
scaled_is f h x l = after_one _ scaled_at scaled_sets f h 256 x (omega arith) l

pub scaled_combines : (c d : ℕ) → c < 3329 → d < 3329 → (f g h : List ℕ) → IsRing f → IsRing g → IsRing h → Combines c f d g h → Combines c (scaled f) d (scaled g) (scaled h)
scaled_combines c d lc ld f g h rf rg rh is x l =
    scaled_is h rh x l ∙ ap (λ (n : ℕ). times n 3303) (is x l)
    ∙ combined_scaled c d 3303 (slice_index f x) 0 (slice_index g x) 0 lc ld (omega arith) (rf.low x) (omega arith) (rg.low x) (omega arith)
    ∙ sym (ap₂ (λ (x y : ℕ). plus (times c x) (times d y)) (scaled_is f rf x l) (scaled_is g rg x l))

scaled_multiple : (f : List ℕ) → IsRing f → Combines 3303 f 0 f (scaled f)
scaled_multiple f h x l = let n : ℕ = slice_index f x in scaled_is f h x l ∙ omega arith

-- the whole transform, and its inverse
pub ntt_ring : (f : List ℕ) → IsRing f → IsRing (ntt f)
unfolding ntt
ntt_ring f h =
    forward_ring 1 (omega arith) (omega arith) _ (forward_ring 2 (omega arith) (omega arith) _ (forward_ring 3 (omega arith) (omega arith) _ (forward_ring 4 (omega arith) (omega arith) _
    (forward_ring 5 (omega arith) (omega arith) _ (forward_ring 6 (omega arith) (omega arith) _ (forward_ring 7 (omega arith) (omega arith) f h))))))

-- after n layers of the inverse
unfoldable pub layers : List ℕ → ℕ → List ℕ
layers f zero = f
layers f (suc n) = backward_layer (layers f n) (suc n)

pub layers_ring : (f : List ℕ) (n : ℕ) → n ≤ 7 → IsRing f → IsRing (layers f n)
unfolding layers
layers_ring f zero l h = h
layers_ring f (suc n) l h = backward_ring (suc n) (omega arith) l (layers f n) (layers_ring f n (omega (arith, l)) h)

pub inverse_is : (f : List ℕ) → inverse_ntt f ≡ scaled (layers f 7)
unfolding inverse_ntt layers
inverse_is f = refl

pub inverse_ring : (f : List ℕ) → IsRing f → IsRing (inverse_ntt f)
inverse_ring f h = rw (inverse_is f) (scaled_ring (layers f 7) (layers_ring f 7 (omega arith) h))

layers_combine : (c d : ℕ) → c < 3329 → d < 3329 → (f g h : List ℕ) → IsRing f → IsRing g → IsRing h → Combines c f d g h → (n : ℕ) → n ≤ 7 → Combines c (layers f n) d (layers g n) (layers h n)
unfolding layers
layers_combine c d lc ld f g h rf rg rh is zero l = is
layers_combine c d lc ld f g h rf rg rh is (suc n) l =
    backward_combines (suc n) (omega arith) l c d lc ld (layers f n) (layers g n) (layers h n) (layers_ring f n (omega (arith, l)) rf) (layers_ring g n (omega (arith, l)) rg)
    (layers_ring h n (omega (arith, l)) rh) (layers_combine c d lc ld f g h rf rg rh is n (omega (arith, l)))

-- the inverse is linear
pub inverse_combines : (c d : ℕ) → c < 3329 → d < 3329 → (f g h : List ℕ) → IsRing f → IsRing g → IsRing h → Combines c f d g h → Combines c (inverse_ntt f) d (inverse_ntt g) (inverse_ntt h)
inverse_combines c d lc ld f g h rf rg rh is =
    rw (inverse_is f, inverse_is g, inverse_is h) (scaled_combines c d lc ld (layers f 7) (layers g 7) (layers h 7) (layers_ring f 7 (omega arith) rf) (layers_ring g 7 (omega arith) rg)
    (layers_ring h 7 (omega arith) rh) (layers_combine c d lc ld f g h rf rg rh is 7 (omega arith)))

-- after the last n layers of the transform are still to come
unfoldable pub forwards : List ℕ → ℕ → List ℕ
forwards f zero = f
forwards f (suc n) = forwards (forward_layer f (suc n)) n

pub ntt_is : (f : List ℕ) → ntt f ≡ forwards f 7
unfolding ntt forwards
ntt_is f = refl

forwards_combine : (c d : ℕ) → c < 3329 → d < 3329 → (n : ℕ) → n ≤ 7 → (f g h : List ℕ) → IsRing f → IsRing g → IsRing h → Combines c f d g h → Combines c (forwards f n) d (forwards g n) (forwards h n)
unfolding forwards
forwards_combine c d lc ld zero l f g h rf rg rh is = is
forwards_combine c d lc ld (suc n) l f g h rf rg rh is =
    let one : 1 ≤ suc n = omega arith in
    forwards_combine c d lc ld n (omega (arith, l)) _ _ _ (forward_ring (suc n) one l f rf) (forward_ring (suc n) one l g rg) (forward_ring (suc n) one l h rh)
    (forward_combines (suc n) one l c d lc ld f g h rf rg rh is)

-- the transform is linear
pub ntt_combines : (c d : ℕ) → c < 3329 → d < 3329 → (f g h : List ℕ) → IsRing f → IsRing g → IsRing h → Combines c f d g h → Combines c (ntt f) d (ntt g) (ntt h)
ntt_combines c d lc ld f g h rf rg rh is = rw (ntt_is f, ntt_is g, ntt_is h) (forwards_combine c d lc ld 7 (omega arith) f g h rf rg rh is)

doubled : ℕ → ℕ → ℕ
doubled c zero = c
doubled c (suc n) = doubled (times c 2) n

forwards_undo_layers : (n : ℕ) → n ≤ 7 → (f : List ℕ) → IsRing f → (c : ℕ) → c < 3329 → (g : List ℕ) → IsRing g → Combines c (layers f n) 0 (layers f n) g → Combines (doubled c n) f 0 f (forwards g n)
unfolding layers forwards doubled
forwards_undo_layers zero l f rf c lc g rg is = is
forwards_undo_layers (suc n) l f rf c lc g rg is =
    let one : 1 ≤ suc n = omega arith in
    forwards_undo_layers n (omega (arith, l)) f rf (times c 2) (number_low (c * 2)) (forward_layer g (suc n)) (forward_ring (suc n) one l g rg)
    (forward_undoes_multiple (suc n) one l (layers f n) (layers_ring f n (omega (arith, l)) rf) c lc g rg is)

last_is : doubled 3303 7 ≡ 1
unfolding doubled
last_is = refl

-- the transform undoes its inverse
pub transform_of_inverse : (f : List ℕ) → IsRing f → ntt (inverse_ntt f) ≡ f
transform_of_inverse f h =
    let b = layers_ring f 7 (omega arith) h in
    let made = inverse_ring f h in
    let whole = ntt_ring (inverse_ntt f) made in
    let own = h.long in
    let long = whole.long in
    let all : Combines 1 f 0 f (ntt (inverse_ntt f)) = rw (inverse_is f, ntt_is (scaled (layers f 7)), ← last_is)
    (forwards_undo_layers 7 (omega arith) f h 3303 (omega arith) (scaled (layers f 7)) (scaled_ring (layers f 7) b) (scaled_multiple (layers f 7) b)) in
    ext_get_or 0 (ntt (inverse_ntt f)) f (long ∙ sym own) (λ x l.
    let is = all x (omega (arith, l, long)) in
    let low = h.low x in
    omega (arith, is, low))

-- the inverse undoes the transform
module _ (a b z w : ℕ) (la : a < 3329) (lb : b < 3329) (lz : z < 3329) (lw : w < 3329) (minus_one : times z w ≡ 3328) where
  undone_back_first : plus (plus a (times b z)) (minus a (times b z)) ≡ plus (times 2 a) (times 0 a)
  undone_back_first = deduced ((var 0 ⊕ var 1 ⊗ var 2) ⊕ (var 0 ⊖ var 1 ⊗ var 2)) (num 2 ⊗ var 0 ⊕ num 0 ⊗ var 0) [] (a ∷ b ∷ z ∷ w ∷ []) (la, (lb, (lz, (lw, tt)))) tt refl

  undone_back_second : times (minus (minus a (times b z)) (plus a (times b z))) w ≡ plus (times 2 b) (times 0 b)
  undone_back_second = deduced (((var 0 ⊖ var 1 ⊗ var 2) ⊖ (var 0 ⊕ var 1 ⊗ var 2)) ⊗ var 3) (num 2 ⊗ var 1 ⊕ num 0 ⊗ var 1)
      (given (num 0 ⊖ num 2 ⊗ var 1) (var 2 ⊗ var 3) (num 3328) ∷ []) (a ∷ b ∷ z ∷ w ∷ []) (la, (lb, (lz, (lw, tt)))) (minus_one, tt) refl

module _ (s : ℕ) (one : 1 ≤ s) (seven : s ≤ 7) (f : List ℕ) (rf : IsRing f) where
  backward_undoes : Combines 2 f 0 f (backward_layer (forward_layer f s) s)
  backward_undoes = by_pairs s one seven (λ x. slice_index (backward_layer (forward_layer f s) s) x ≡ plus (times 2 (slice_index f x)) (times 0 (slice_index f x)))
      (λ k l.
      let i : ℕ = place s k in
      let j : ℕ = partner s k in
      let z = zetas_of s k one seven l in
      backward_first_is s one seven _ (forward_ring s one seven f rf) k l ∙ ap₂ plus (forward_first_is s one seven f rf k l) (forward_partner_is s one seven f rf k l)
      ∙ undone_back_first (slice_index f i) (slice_index f j) (zeta s k) (back_zeta s k) (rf.low i) (rf.low j) z.low z.back z.minus_one)
      (λ k l.
      let i : ℕ = place s k in
      let j : ℕ = partner s k in
      let z = zetas_of s k one seven l in
      backward_partner_is s one seven _ (forward_ring s one seven f rf) k l ∙ ap₂ (λ (x y : ℕ). times (minus y x) (back_zeta s k)) (forward_first_is s one seven f rf k l) (forward_partner_is s one seven f rf k l)
      ∙ undone_back_second (slice_index f i) (slice_index f j) (zeta s k) (back_zeta s k) (rf.low i) (rf.low j) z.low z.back z.minus_one)

powers : ℕ → ℕ
powers zero = 1
powers (suc n) = times (powers n) 2

powers_low : (n : ℕ) → powers n < 3329
unfolding powers
powers_low zero = omega arith
powers_low (suc n) = number_low _

combined_itself : (v : ℕ) → v < 3329 → v ≡ plus (times 1 v) (times 0 v)
combined_itself v l = deduced (var 0) (num 1 ⊗ var 0 ⊕ num 0 ⊗ var 0) [] (v ∷ []) (l, tt) tt refl

forwards_ring : (n : ℕ) → n ≤ 7 → (h : List ℕ) → IsRing h → IsRing (forwards h n)
unfolding forwards
forwards_ring zero l h r = r
forwards_ring (suc n) l h r = forwards_ring n (omega (arith, l)) _ (forward_ring (suc n) (omega arith) l h r)

layers_undo_forwards : (n : ℕ) → n ≤ 7 → (h : List ℕ) → IsRing h → Combines (powers n) h 0 h (layers (forwards h n) n)
unfolding powers layers forwards
layers_undo_forwards zero l h r x lx = combined_itself (slice_index h x) (r.low x)
layers_undo_forwards (suc n) l h r x lx =
    let one : 1 ≤ suc n = omega arith in
    let g : List ℕ = forward_layer h (suc n) in
    let rg = forward_ring (suc n) one l h r in
    let back : List ℕ = layers (forwards g n) n in
    let rb = layers_ring (forwards g n) n (omega (arith, l)) (forwards_ring n (omega (arith, l)) g rg) in
    backward_combines (suc n) one l (powers n) 0 (powers_low n) (omega arith) g g back rg rg rb (layers_undo_forwards n (omega (arith, l)) g rg) x lx
    ∙ ap (λ (v : ℕ). plus (times (powers n) v) (times 0 v)) (backward_undoes (suc n) one l h r x lx)
    ∙ multiple_twice (powers n) 2 (slice_index h x) (powers_low n) (omega arith) (r.low x)

all_powers : powers 7 ≡ 128
unfolding powers
all_powers = refl

scaled_back : (v : ℕ) → v < 3329 → times (plus (times 128 v) (times 0 v)) 3303 ≡ v
scaled_back v l = deduced ((num 128 ⊗ var 0 ⊕ num 0 ⊗ var 0) ⊗ num 3303) (var 0) [] (v ∷ []) (l, tt) tt refl

pub inverse_of_transform : (f : List ℕ) → IsRing f → inverse_ntt (ntt f) ≡ f
inverse_of_transform f r =
    let rn = ntt_ring f r in
    let made = inverse_ring (ntt f) rn in
    let long = made.long in
    let own = r.long in
    let b = layers_ring (ntt f) 7 (omega arith) rn in
    let all : Combines 128 f 0 f (layers (ntt f) 7) = rw (ntt_is f, ← all_powers) (layers_undo_forwards 7 (omega arith) f r) in
    ext_get_or 0 (inverse_ntt (ntt f)) f (long ∙ sym own)
    (λ x l.
    let lx : x < 256 = omega (arith, l, long) in
    ap (λ (g : List ℕ). slice_index g x) (inverse_is (ntt f)) ∙ scaled_is (layers (ntt f) 7) b x lx ∙ ap (λ (v : ℕ). times v 3303) (all x lx) ∙ scaled_back (slice_index f x) (r.low x))
