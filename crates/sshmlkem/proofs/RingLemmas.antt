-- A product of transforms is the transform of the product in R_q.

use Rattle.std.proofs.Common.{◌≡◌, ◌≢◌, ℕ, zero, suc, ◌+◌, ◌-◌, ◌*◌, ◌/◌, ◌%◌, ◌<◌, ◌≤◌, List, [], ◌∷◌, length, refl, sym, ap, ap₂, ◌∙◌, arith, ⊎_elim, subst}
use Rattle.std.proofs.lemmas.Bool.{cases_lt}
use Rattle.std.proofs.lemmas.List.{ext_get_or, get_or_past, get_or-replicate, get_or-take}
use Rattle.std.specs.Prelude.{slice_index, replicate}
use Prim.{tt}
use Rattle.sshmlkem.proofs.LoopLemmas.{zeros_ring}
use Rattle.sshmlkem.proofs.NumberLemmas.{nothing_added, deduced, number_low}
use Rattle.sshmlkem.proofs.ProductLemmas.{high_part_low, low_part_low, gamma_low, high_part, low_part, product_even, product_odd, product_ring}
use Rattle.sshmlkem.proofs.ShiftLemmas.{ntt_shifts, shifted_ring}
use Rattle.sshmlkem.proofs.TransformLemmas.{inverse_of_transform, ntt_combines, ntt_ring}
use Rattle.sshmlkem.proofs.UnitLemmas.{IsUnit, ntt_unit}
use Rattle.sshmlkem.specs.Ntt.{add_product, gammas, inverse_ntt, ntt}
use Rattle.sshmlkem.specs.Ring.{Combines, IsRing, combination, minus, plus, ring_product, shifted, times}
use Rattle.sshpolynomials.specs.Polynomials.{num, var, ◌⊕◌, ◌⊖◌, ◌⊗◌}

-- the polynomial 1
unfoldable pub one_poly : List ℕ
one_poly = 1 ∷ replicate 255 0

-- c f + g
combination_at : (c : ℕ) (f g : List ℕ) (i : ℕ) → i < length f → i < length g → slice_index (combination c f g) i ≡ plus (times c (slice_index f i)) (slice_index g i)
unfolding combination
combination_at c [] g i h k = absurd (omega (arith, h))
combination_at c (x ∷ f) [] i h k = absurd (omega (arith, k))
combination_at c (x ∷ f) (y ∷ g) zero h k = refl
combination_at c (x ∷ f) (y ∷ g) (suc i) h k = combination_at c f g i (omega (arith, h)) (omega (arith, k))

combination_low : (c : ℕ) (f g : List ℕ) (i : ℕ) → slice_index (combination c f g) i < 3329
unfolding combination
combination_low c [] g i = omega arith
combination_low c (x ∷ f) [] i = omega arith
combination_low c (x ∷ f) (y ∷ g) zero = number_low _
combination_low c (x ∷ f) (y ∷ g) (suc i) = combination_low c f g i

combination_long : (c : ℕ) (f g : List ℕ) → length f ≡ length g → length (combination c f g) ≡ length f
unfolding combination
combination_long c [] g h = refl
combination_long c (x ∷ f) [] h = absurd (omega (arith, h))
combination_long c (x ∷ f) (y ∷ g) h = let e : length f ≡ length g = omega (arith, h) in ap suc (combination_long c f g e)

combination_ring : (c : ℕ) (f g : List ℕ) → IsRing f → IsRing g → IsRing (combination c f g)
combination_ring c f g rf rg = record { long = combination_long c f g (rf.long ∙ sym rg.long) ∙ rf.long; low = combination_low c f g }

combined_once : (a v w : ℕ) → a < 3329 → v < 3329 → w < 3329 → plus (times a v) w ≡ plus (times a v) (times 1 w)
combined_once a v w la lv lw = deduced (var 0 ⊗ var 1 ⊕ var 2) (var 0 ⊗ var 1 ⊕ num 1 ⊗ var 2) [] (a ∷ v ∷ w ∷ []) (la, (lv, (lw, tt))) tt refl

combines : (c : ℕ) → c < 3329 → (f g : List ℕ) → IsRing f → IsRing g → Combines c f 1 g (combination c f g)
combines c lc f g rf rg x l =
    let lf = rf.long in
    let lg = rg.long in
    combination_at c f g x (omega (arith, l, lf)) (omega (arith, l, lg)) ∙ combined_once c (slice_index f x) (slice_index g x) lc (rf.low x) (rg.low x)

-- numbers below q
abbrev AllLow : List ℕ → Type 0
AllLow f = (i : ℕ) → slice_index f i < 3329

pub ring_product_ring : (f g : List ℕ) → IsRing g → IsRing (ring_product f g)
unfolding ring_product
ring_product_ring [] g r = zeros_ring
ring_product_ring (a ∷ f) g r = combination_ring a g (shifted (ring_product f g)) r (shifted_ring _ (ring_product_ring f g r))

one_low : (n i : ℕ) → slice_index (1 ∷ replicate n 0) i < 3329
one_low n zero = omega arith
one_low zero (suc i) = omega arith
one_low (suc n) (suc i) = zeros n i
  where
    zeros : (n i : ℕ) → slice_index (0 ∷ replicate n 0) i < 3329
    zeros n zero = omega arith
    zeros zero (suc i) = omega arith
    zeros (suc n) (suc i) = zeros n i

one_ring : IsRing one_poly
unfolding one_poly
one_ring = record { long = refl; low = one_low 255 }

one_unit : IsUnit 2 (ntt one_poly)
unfolding one_poly
one_unit = ntt_unit one_poly one_ring (record { first = first; rest = rest })
  where
    first : (x : ℕ) → x < 256 → x % 256 ≡ 0 → slice_index (1 ∷ replicate 255 0) x ≡ 1
    first zero l h = refl
    first (suc x) l h = absurd (omega (arith, l, h))

    rest : (x : ℕ) → x < 256 → x % 256 ≢ 0 → slice_index (1 ∷ replicate 255 0) x ≡ 0
    rest zero l h = absurd (h refl)
    rest (suc x) l h = get_or-replicate 255 x 0 0 (omega (arith, l))

one_even : (k : ℕ) → k < 128 → slice_index (ntt one_poly) (2 * k) ≡ 1
one_even k l = one_unit.first (2 * k) (omega (arith, l)) (omega arith)

one_odd : (k : ℕ) → k < 128 → slice_index (ntt one_poly) (2 * k + 1) ≡ 0
one_odd k l = one_unit.rest (2 * k + 1) (omega (arith, l)) (λ e. omega (arith, e))

-- steps of the product
module _ (a z p q c d : ℕ) (la : a < 3329) (lz : z < 3329) (lp : p < 3329) (lq : q < 3329) (lc : c < 3329) (ld : d < 3329) where
  step_even : plus (times a c) (times 1 (times z (high_part p q c d))) ≡ low_part z (plus (times a 1) (times 1 (times z q))) (plus (times a 0) (times 1 p)) c d
  unfolding high_part low_part
  step_even = deduced (var 0 ⊗ var 4 ⊕ num 1 ⊗ (var 1 ⊗ (var 2 ⊗ var 5 ⊕ var 3 ⊗ var 4)))
      ((var 0 ⊗ num 1 ⊕ num 1 ⊗ (var 1 ⊗ var 3)) ⊗ var 4 ⊕ (var 0 ⊗ num 0 ⊕ num 1 ⊗ var 2) ⊗ var 5 ⊗ var 1) []
      (a ∷ z ∷ p ∷ q ∷ c ∷ d ∷ []) (la, (lz, (lp, (lq, (lc, (ld, tt)))))) tt refl

  step_odd : plus (times a d) (times 1 (low_part z p q c d)) ≡ high_part (plus (times a 1) (times 1 (times z q))) (plus (times a 0) (times 1 p)) c d
  unfolding high_part low_part
  step_odd = deduced (var 0 ⊗ var 5 ⊕ num 1 ⊗ (var 2 ⊗ var 4 ⊕ var 3 ⊗ var 5 ⊗ var 1))
      ((var 0 ⊗ num 1 ⊕ num 1 ⊗ (var 1 ⊗ var 3)) ⊗ var 5 ⊕ (var 0 ⊗ num 0 ⊕ num 1 ⊗ var 2) ⊗ var 4) []
      (a ∷ z ∷ p ∷ q ∷ c ∷ d ∷ []) (la, (lz, (lp, (lq, (lc, (ld, tt)))))) tt refl

-- a step's transform, at both places of a pair
module _ (a : ℕ) (la : a < 3329) (g m : List ℕ) (rg : IsRing g) (rm : IsRing m) (k : ℕ) (l : k < 128) where
  whole : Combines a (ntt g) 1 (ntt (shifted m)) (ntt (combination a g (shifted m)))
  whole = ntt_combines a 1 la (omega arith) g (shifted m) (combination a g (shifted m)) rg (shifted_ring m rm) (combination_ring a g (shifted m) rg (shifted_ring m rm)) (combines a la g (shifted m) rg (shifted_ring m rm))

  next_even : slice_index (ntt (combination a g (shifted m))) (2 * k) ≡ plus (times a (slice_index (ntt g) (2 * k))) (times 1 (times (slice_index gammas k) (slice_index (ntt m) (2 * k + 1))))
  next_even =
      let is = ntt_shifts m rm in
      let e : k * 2 ≡ 2 * k = omega arith in
      let outer = is.outer k (omega (arith, l)) in
      let here : slice_index (ntt (shifted m)) (2 * k) ≡ times (slice_index gammas k) (slice_index (ntt m) (2 * k + 1)) = rw e at outer in
      whole (2 * k) (omega (arith, l)) ∙ ap (λ (v : ℕ). plus (times a (slice_index (ntt g) (2 * k))) (times 1 v)) here

  next_odd : slice_index (ntt (combination a g (shifted m))) (2 * k + 1) ≡ plus (times a (slice_index (ntt g) (2 * k + 1))) (times 1 (slice_index (ntt m) (2 * k)))
  next_odd =
      let is = ntt_shifts m rm in
      let e : 2 * k + 1 - 1 ≡ 2 * k = omega arith in
      let here : slice_index (ntt (shifted m)) (2 * k + 1) ≡ slice_index (ntt m) (2 * k) = is.inner (2 * k + 1) (omega (arith, l)) (λ h. omega (arith, h)) ∙ ap (slice_index (ntt m)) e in
      whole (2 * k + 1) (omega (arith, l)) ∙ ap (λ (v : ℕ). plus (times a (slice_index (ntt g) (2 * k + 1))) (times 1 v)) here

none_at : (x : ℕ) → x < 256 → slice_index (ntt (replicate 256 0)) x ≡ 0
none_at x l =
    let z : List ℕ = replicate 256 0 in
    let rn = ntt_ring z zeros_ring in
    let low = rn.low x in
    let is : Combines 0 z 0 z z = λ i h. get_or-replicate 256 i 0 0 h ∙ sym (none (slice_index z i)) in
    ntt_combines 0 0 (omega arith) (omega arith) z z z zeros_ring zeros_ring zeros_ring is x l ∙ none (slice_index (ntt z) x)
  where
    none : (v : ℕ) → plus (times 0 v) (times 0 v) ≡ 0
    none v = omega arith

record IsProduct (f g : List ℕ) (k : ℕ) : Type 0 where
  pub even : slice_index (ntt (ring_product f g)) (2 * k)
      ≡ low_part (slice_index gammas k) (slice_index (ntt (ring_product f one_poly)) (2 * k)) (slice_index (ntt (ring_product f one_poly)) (2 * k + 1)) (slice_index (ntt g) (2 * k)) (slice_index (ntt g) (2 * k + 1))
  pub odd : slice_index (ntt (ring_product f g)) (2 * k + 1)
      ≡ high_part (slice_index (ntt (ring_product f one_poly)) (2 * k)) (slice_index (ntt (ring_product f one_poly)) (2 * k + 1)) (slice_index (ntt g) (2 * k)) (slice_index (ntt g) (2 * k + 1))

nothing_even : (z p q a b n : ℕ) → a ≡ 0 → b ≡ 0 → n ≡ 0 → n ≡ low_part z a b p q
unfolding low_part
nothing_even z p q a b n x y w = let e : 0 * p % 3329 ≡ 0 = omega arith in let f : 0 * q % 3329 ≡ 0 = omega arith in rw (x, y, w, e, f) (omega arith)

nothing_odd : (p q a b n : ℕ) → a ≡ 0 → b ≡ 0 → n ≡ 0 → n ≡ high_part a b p q
unfolding high_part
nothing_odd p q a b n x y w = rw (x, y, w) (omega arith)

is_product : (f g : List ℕ) → AllLow f → IsRing g → (k : ℕ) → k < 128 → IsProduct f g k
unfolding ring_product
is_product [] g lf rg k l =
    let n0 = none_at (2 * k) (omega (arith, l)) in
    let n1 = none_at (2 * k + 1) (omega (arith, l)) in
    record { even = nothing_even _ _ _ _ _ _ n0 n1 n0; odd = nothing_odd _ _ _ _ _ n0 n1 n1 }
is_product (a ∷ f) g lf rg k l =
    let la : a < 3329 = lf 0 in
    let rest = is_product f g (λ i. lf (suc i)) rg k l in
    let m : List ℕ = ring_product f g in
    let m1 : List ℕ = ring_product f one_poly in
    let rm = ring_product_ring f g rg in
    let r1 = ring_product_ring f one_poly one_ring in
    let t1 = ntt_ring m1 r1 in
    let tg = ntt_ring g rg in
    let z : ℕ = slice_index gammas k in
    let p : ℕ = slice_index (ntt m1) (2 * k) in
    let q : ℕ = slice_index (ntt m1) (2 * k + 1) in
    let c : ℕ = slice_index (ntt g) (2 * k) in
    let d : ℕ = slice_index (ntt g) (2 * k + 1) in
    let lp = t1.low (2 * k) in
    let lq = t1.low (2 * k + 1) in
    let lc = tg.low (2 * k) in
    let ld = tg.low (2 * k + 1) in
    let e1 : slice_index (ntt (combination a one_poly (shifted m1))) (2 * k) ≡ plus (times a 1) (times 1 (times z q)) =
    next_even a la one_poly m1 one_ring r1 k l ∙ ap (λ (v : ℕ). plus (times a v) (times 1 (times z q))) (one_even k l) in
    let o1 : slice_index (ntt (combination a one_poly (shifted m1))) (2 * k + 1) ≡ plus (times a 0) (times 1 p) =
    next_odd a la one_poly m1 one_ring r1 k l ∙ ap (λ (v : ℕ). plus (times a v) (times 1 p)) (one_odd k l) in
    record {
      even = next_even a la g m rg rm k l ∙ ap (λ (v : ℕ). plus (times a c) (times 1 (times z v))) rest.odd ∙ step_even a z p q c d la (gamma_low k) lp lq lc ld
          ∙ sym (ap₂ (λ (x y : ℕ). low_part z x y c d) e1 o1);
      odd = next_odd a la g m rg rm k l ∙ ap (λ (v : ℕ). plus (times a d) (times 1 v)) rest.even ∙ step_odd a z p q c d la (gamma_low k) lp lq lc ld
          ∙ sym (ap₂ (λ (x y : ℕ). high_part x y c d) e1 o1);
    }

-- f times 1 is f
times_one_first : (a v : ℕ) → a < 3329 → v ≡ 0 → plus (times a 1) (minus 0 v) ≡ a
times_one_first a v la e = rw e (deduced (var 0 ⊗ num 1 ⊕ (num 0 ⊖ num 0)) (var 0) [] (a ∷ []) (la, tt) tt refl)

times_one_rest : (a v : ℕ) → v < 3329 → plus (times a 0) v ≡ v
times_one_rest a v lv = let e : a * 0 ≡ 0 = omega arith in rw e (omega (arith, lv))

product_by_one_at : (f : List ℕ) → AllLow f → length f ≤ 256 → (i : ℕ) → i < 256 → slice_index (ring_product f one_poly) i ≡ slice_index f i
unfolding ring_product one_poly shifted
product_by_one_at [] lf h i l = get_or-replicate 256 i 0 0 l
product_by_one_at (a ∷ f) lf h zero l =
    let m : List ℕ = ring_product f one_poly in
    let rm = ring_product_ring f one_poly one_ring in
    let last : slice_index m 255 ≡ 0 = product_by_one_at f (λ i. lf (suc i)) (omega (arith, h)) 255 (omega arith) ∙ get_or_past f 255 0 (omega (arith, h)) in
    let rs = shifted_ring m rm in
    let ls = rs.long in
    combination_at a one_poly (shifted m) 0 (omega arith) (omega (arith, ls)) ∙ times_one_first a (slice_index m 255) (lf 0) last
product_by_one_at (a ∷ f) lf h (suc i) l =
    let m : List ℕ = ring_product f one_poly in
    let rm = ring_product_ring f one_poly one_ring in
    let rs = shifted_ring m rm in
    let ls = rs.long in
    let none : slice_index one_poly (suc i) ≡ 0 = get_or-replicate 255 i 0 0 (omega (arith, l)) in
    let rest : slice_index (shifted m) (suc i) ≡ slice_index f i = get_or-take 255 m i 0 (omega (arith, l)) ∙ product_by_one_at f (λ i. lf (suc i)) (omega (arith, h)) i (omega (arith, l)) in
    let lo : length one_poly ≡ 256 = one_ring.long in
    combination_at a one_poly (shifted m) (suc i) (omega (arith, l, lo)) (omega (arith, l, ls))
    ∙ ap₂ (λ (x y : ℕ). plus (times a x) y) none rest ∙ times_one_rest a (slice_index f i) (lf (suc i))

product_by_one : (f : List ℕ) → IsRing f → ring_product f one_poly ≡ f
product_by_one f r =
    let made = ring_product_ring f one_poly one_ring in
    let long = made.long in
    let own = r.long in
    ext_get_or 0 (ring_product f one_poly) f (long ∙ sym own) (λ i l. product_by_one_at f r.low (omega (arith, own)) i (omega (arith, l, long)))

-- a product of transforms is the transform of a product
pub product_transformed : (f g : List ℕ) → IsRing f → IsRing g → add_product (replicate 256 0) (ntt f) (ntt g) ≡ ntt (ring_product f g)
product_transformed f g rf rg =
    let tf = ntt_ring f rf in
    let tg = ntt_ring g rg in
    let left = product_ring (ntt f) (ntt g) tf tg (replicate 256 0) zeros_ring in
    let right = ntt_ring (ring_product f g) (ring_product_ring f g rg) in
    let ll = left.long in
    let lr = right.long in
    ext_get_or 0 (add_product (replicate 256 0) (ntt f) (ntt g)) (ntt (ring_product f g)) (ll ∙ sym lr)
    (λ x l.
    let k : ℕ = x / 2 in
    let lk : k < 128 = omega (arith, l, ll) in
    let is = is_product f g rf.low rg k lk in
    let own = product_by_one f rf in
    let even : slice_index (add_product (replicate 256 0) (ntt f) (ntt g)) (2 * k) ≡ slice_index (ntt (ring_product f g)) (2 * k) =
    product_even (ntt f) (ntt g) tf tg (replicate 256 0) zeros_ring k lk
    ∙ nothing_added (slice_index (replicate 256 0) (2 * k)) _ (get_or-replicate 256 (2 * k) 0 0 (omega (arith, lk))) (low_part_low (slice_index gammas k) (slice_index (ntt f) (2 * k)) (slice_index (ntt f) (2 * k + 1)) (slice_index (ntt g) (2 * k)) (slice_index (ntt g) (2 * k + 1)))
    ∙ ap (λ (h : List ℕ). low_part (slice_index gammas k) (slice_index (ntt h) (2 * k)) (slice_index (ntt h) (2 * k + 1)) (slice_index (ntt g) (2 * k)) (slice_index (ntt g) (2 * k + 1))) (sym own)
    ∙ sym is.even in
    let odd : slice_index (add_product (replicate 256 0) (ntt f) (ntt g)) (2 * k + 1) ≡ slice_index (ntt (ring_product f g)) (2 * k + 1) =
    product_odd (ntt f) (ntt g) tf tg (replicate 256 0) zeros_ring k lk
    ∙ nothing_added (slice_index (replicate 256 0) (2 * k + 1)) _ (get_or-replicate 256 (2 * k + 1) 0 0 (omega (arith, lk))) (high_part_low (slice_index (ntt f) (2 * k)) (slice_index (ntt f) (2 * k + 1)) (slice_index (ntt g) (2 * k)) (slice_index (ntt g) (2 * k + 1)))
    ∙ ap (λ (h : List ℕ). high_part (slice_index (ntt h) (2 * k)) (slice_index (ntt h) (2 * k + 1)) (slice_index (ntt g) (2 * k)) (slice_index (ntt g) (2 * k + 1))) (sym own)
    ∙ sym is.odd in
    ⊎_elim (λ (h : x % 2 < 1). subst (λ (v : ℕ). slice_index (add_product (replicate 256 0) (ntt f) (ntt g)) v ≡ slice_index (ntt (ring_product f g)) v) (omega (arith, h)) even)
    (λ (h : 1 ≤ x % 2). subst (λ (v : ℕ). slice_index (add_product (replicate 256 0) (ntt f) (ntt g)) v ≡ slice_index (ntt (ring_product f g)) v) (omega (arith, h)) odd)
    (cases_lt (x % 2) 1))

-- its inverse is the product in R_q
pub inverse_of_product : (f g : List ℕ) → IsRing f → IsRing g → inverse_ntt (add_product (replicate 256 0) (ntt f) (ntt g)) ≡ ring_product f g
inverse_of_product f g rf rg = ap inverse_ntt (product_transformed f g rf rg) ∙ inverse_of_transform (ring_product f g) (ring_product_ring f g rg)
