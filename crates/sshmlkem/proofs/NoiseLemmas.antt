-- The noise by transforms is the noise by products in R_q.

use Rattle.std.proofs.Common.{◌≡◌, ℕ, ◌+◌, ◌*◌, ◌/◌, ◌%◌, ◌<◌, ◌≤◌, List, [], ◌∷◌, ◌++◌, drop, take, sym, ap, ap₂, ◌∙◌, arith, ⊎_elim, subst}
use Rattle.std.proofs.lemmas.Bool.{cases_lt}
use Rattle.std.proofs.lemmas.List.{ext_get_or, get_or-replicate}
use Rattle.std.specs.Prelude.{slice_index, replicate}
use Rattle.sshkeccak.specs.Sponge.{sha3_512}
use Rattle.sshmlkem.proofs.DrawnLemmas.{noises_rings}
use Rattle.sshmlkem.proofs.LoopLemmas.{zeros_ring}
use Rattle.sshmlkem.proofs.NumberLemmas.{nothing_added, plus_combined}
use Rattle.sshmlkem.proofs.ProductLemmas.{high_part_low, low_part_low, AreRings, add_is, add_ring, high_part, low_part, product_even, product_odd, product_ring}
use Rattle.sshmlkem.proofs.RingLemmas.{inverse_of_product}
use Rattle.sshmlkem.proofs.TransformLemmas.{inverse_combines, inverse_ring, ntt_ring}
use Rattle.sshmlkem.proofs.TransformedNoise.{transformed_noise, transformed_noise_between}
use Rattle.sshmlkem.specs.Noise.{encryption_seed, noise_between, public_vector, ring_dot, ring_noise, rounding, u_errors, v_of}
use Rattle.sshmlkem.specs.Ntt.{add, add_product, gammas, inverse_ntt, ntt, subtract}
use Rattle.sshmlkem.specs.Pke.{dot, noises, ntts, pke_keys}
use Rattle.sshmlkem.specs.Ring.{Combines, IsRing, plus}
use Rattle.sshmlkem.specs.Sample.{noise}
use Rattle.sshmlkem.specs.declared.pke.Vector.{Vector}

inverse_sum : (a b : List ℕ) → IsRing a → IsRing b → inverse_ntt (add a b) ≡ add (inverse_ntt a) (inverse_ntt b)
inverse_sum a b ra rb =
    let rs = add_ring a b ra in
    let ia = inverse_ring a ra in
    let ib = inverse_ring b rb in
    let left = inverse_ring (add a b) rs in
    let right = add_ring (inverse_ntt a) (inverse_ntt b) ia in
    let ll = left.long in
    let lr = right.long in
    let is : Combines 1 a 1 b (add a b) = λ x l. add_is a b ra x l ∙ sym (plus_combined (slice_index a x) (slice_index b x) (ra.low x) (rb.low x)) in
    ext_get_or 0 (inverse_ntt (add a b)) (add (inverse_ntt a) (inverse_ntt b)) (ll ∙ sym lr)
    (λ x l.
    let lx : x < 256 = omega (arith, l, ll) in
    inverse_combines 1 1 (omega arith) (omega arith) a b (add a b) ra rb rs is x lx
    ∙ (plus_combined (slice_index (inverse_ntt a) x) (slice_index (inverse_ntt b) x) (ia.low x) (ib.low x) ∙ sym (add_is (inverse_ntt a) (inverse_ntt b) ia x lx)))

-- a product that is added
module _ (h f g : List ℕ) (rh : IsRing h) (rf : IsRing f) (rg : IsRing g) where
  zeros : List ℕ
  zeros = replicate 256 0

  own : List ℕ
  own = add_product zeros f g

  even_added : (k : ℕ) → k < 128 → slice_index (add_product h f g) (2 * k) ≡ slice_index (add h own) (2 * k)
  unfolding own zeros
  even_added k l =
      let v : ℕ = low_part (slice_index gammas k) (slice_index f (2 * k)) (slice_index f (2 * k + 1)) (slice_index g (2 * k)) (slice_index g (2 * k + 1)) in
      product_even f g rf rg h rh k l
      ∙ sym (add_is h own rh (2 * k) (omega (arith, l))
      ∙ ap (plus (slice_index h (2 * k))) (product_even f g rf rg zeros zeros_ring k l ∙ nothing_added (slice_index zeros (2 * k)) v (get_or-replicate 256 (2 * k) 0 0 (omega (arith, l))) (low_part_low _ _ _ _ _)))

  odd_added : (k : ℕ) → k < 128 → slice_index (add_product h f g) (2 * k + 1) ≡ slice_index (add h own) (2 * k + 1)
  unfolding own zeros
  odd_added k l =
      let v : ℕ = high_part (slice_index f (2 * k)) (slice_index f (2 * k + 1)) (slice_index g (2 * k)) (slice_index g (2 * k + 1)) in
      product_odd f g rf rg h rh k l
      ∙ sym (add_is h own rh (2 * k + 1) (omega (arith, l))
      ∙ ap (plus (slice_index h (2 * k + 1))) (product_odd f g rf rg zeros zeros_ring k l ∙ nothing_added (slice_index zeros (2 * k + 1)) v (get_or-replicate 256 (2 * k + 1) 0 0 (omega (arith, l))) (high_part_low _ _ _ _)))

  product_added : add_product h f g ≡ add h (add_product (replicate 256 0) f g)
  unfolding own zeros
  product_added =
      let left = product_ring f g rf rg h rh in
      let right = add_ring h own rh in
      let ll = left.long in
      let lr = right.long in
      ext_get_or 0 (add_product h f g) (add h own) (ll ∙ sym lr)
      (λ x l.
      let lk : x / 2 < 128 = omega (arith, l, ll) in
      ⊎_elim (λ (e : x % 2 < 1). subst (λ (v : ℕ). slice_index (add_product h f g) v ≡ slice_index (add h own) v) (omega (arith, e)) (even_added (x / 2) lk))
      (λ (e : 1 ≤ x % 2). subst (λ (v : ℕ). slice_index (add_product h f g) v ≡ slice_index (add h own) v) (omega (arith, e)) (odd_added (x / 2) lk))
      (cases_lt (x % 2) 1))

-- three products
pub inverse_of_dot : (f g : Vector) → AreRings f → AreRings g → inverse_ntt (dot (ntts f) (ntts g)) ≡ ring_dot f g
unfolding dot ntts ring_dot
inverse_of_dot f g rf rg =
    let z : List ℕ = replicate 256 0 in
    let f1 = ntt_ring f.first rf.first in
    let f2 = ntt_ring f.second rf.second in
    let f3 = ntt_ring f.third rf.third in
    let g1 = ntt_ring g.first rg.first in
    let g2 = ntt_ring g.second rg.second in
    let g3 = ntt_ring g.third rg.third in
    let p1 : List ℕ = add_product z (ntt f.first) (ntt g.first) in
    let p2 : List ℕ = add_product z (ntt f.second) (ntt g.second) in
    let p3 : List ℕ = add_product z (ntt f.third) (ntt g.third) in
    let r1 = product_ring (ntt f.first) (ntt g.first) f1 g1 z zeros_ring in
    let r2 = product_ring (ntt f.second) (ntt g.second) f2 g2 z zeros_ring in
    let r3 = product_ring (ntt f.third) (ntt g.third) f3 g3 z zeros_ring in
    let two : add_product p1 (ntt f.second) (ntt g.second) ≡ add p1 p2 = product_added p1 (ntt f.second) (ntt g.second) r1 f2 g2 in
    let r12 = add_ring p1 p2 r1 in
    let three : add_product (add p1 p2) (ntt f.third) (ntt g.third) ≡ add (add p1 p2) p3 = product_added (add p1 p2) (ntt f.third) (ntt g.third) r12 f3 g3 in
    ap (λ (h : List ℕ). inverse_ntt (add_product h (ntt f.third) (ntt g.third))) two ∙ (ap inverse_ntt three
    ∙ (inverse_sum (add p1 p2) p3 r12 r3
    ∙ ap₂ add (inverse_sum p1 p2 r1 r2 ∙ ap₂ add (inverse_of_product f.first g.first rf.first rg.first) (inverse_of_product f.second g.second rf.second rg.second)) (inverse_of_product f.third g.third rf.third rg.third)))

errors_rings : (rho : List ℕ) (y e : Vector) → AreRings e → AreRings (u_errors rho y e)
unfolding u_errors
errors_rings rho y e r = record { first = add_ring e.first _ r.first; second = add_ring e.second _ r.second; third = add_ring e.third _ r.third }

ring_is : (rho : List ℕ) (s e y e1 : Vector) (e2 m : List ℕ) → AreRings s → AreRings e → AreRings y → AreRings e1
    → transformed_noise rho (ntts s) (ntts e) (ntts y) e1 e2 m ≡ ring_noise rho s e y e1 e2 m
unfolding transformed_noise ring_noise
ring_is rho s e y e1 e2 m rs re ry r1 =
    ap₂ (λ (a b : List ℕ). subtract (add (add e2 (rounding 4 (v_of (public_vector rho (ntts s) (ntts e)) (ntts y) e2 m))) a) b)
    (inverse_of_dot e y re ry) (inverse_of_dot s (u_errors rho (ntts y) e1) rs (errors_rings rho (ntts y) e1 r1))

pub noises_same : (d m : List ℕ) → transformed_noise_between d m ≡ noise_between d m
unfolding transformed_noise_between noise_between
noises_same d m =
    let seeds : List ℕ = sha3_512 (d ++ 3 ∷ []) in
    let sigma : List ℕ = drop 32 seeds in
    let seed : List ℕ = encryption_seed (pke_keys d).encryption_key m in
    ring_is (take 32 seeds) (noises sigma 0) (noises sigma 3) (noises seed 0) (noises seed 3) (noise seed 6) m
    (noises_rings sigma 0) (noises_rings sigma 3) (noises_rings seed 0) (noises_rings seed 3)
