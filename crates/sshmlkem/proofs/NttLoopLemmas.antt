-- The transform by one loop for each layer is that of FIPS 203's nested loops: both take the same steps in the same order.

use Rattle.std.proofs.Common.{◌≡◌, ℕ, zero, suc, ◌+◌, ◌-◌, ◌*◌, ◌/◌, ◌%◌, ◌^◌, ◌<◌, ◌≤◌, List, [], ◌∷◌, refl, sym, ap, ap₂, ◌∙◌, arith, map}
use Rattle.std.proofs.lemmas.List.{ext_get_or, get_or-map, get_or-set_other, length-map}
use Rattle.std.proofs.lemmas.Nat.{div-mul-add, mul-le}
use Rattle.std.specs.List.{fold, range_with_len}
use Rattle.std.specs.Prelude.{slice_index, slice_set}
use Prim.{Unit, tt}
use Rattle.sshkeccak.specs.Keccak.{each_from}
use Rattle.sshkeccak.specs.Repeated.{repeated}
use Rattle.sshmlkem.proofs.LayerLemmas.{backward_sets, difference_is, product_is, zeta, back_zeta, zetas_of}
use Rattle.sshmlkem.proofs.NumberLemmas.{number_low}
use Rattle.sshmlkem.proofs.Samples.{zetas_are}
use Rattle.sshmlkem.proofs.TransformLemmas.{inverse_is, layers, layers_ring, scaled_is, scaled_ring}
use Rattle.sshmlkem.specs.Bits.{each}
use Rattle.sshmlkem.specs.Field.{difference, product, sum}
use Rattle.sshmlkem.specs.KemBytes.{keeps}
use Rattle.sshmlkem.specs.Ntt.{backward_layer, backward_pair, forward_layer, forward_pair, inverse_ntt, ntt, place, scaled, zetas}
use Rattle.sshmlkem.specs.NttLoops.{Progress, backward_block, backward_blocks, backward_numbers, forward_block, forward_blocks, forward_numbers, inverse_ntt_by_loops, ntt_by_loops, starts}
use Rattle.sshmlkem.specs.NttNumbers.{zeta_at}
use Rattle.sshmlkem.specs.Ring.{IsRing, minus, plus, times}

-- loops
module _ {A : Type 0} where
  first_step : (step : A → ℕ → A) (a : A) (n : ℕ) → repeated step a (suc n) ≡ repeated (λ x k. step x (suc k)) (step a 0) n
  unfolding repeated
  first_step step a zero = refl
  first_step step a (suc n) = ap (λ (x : A). step x (suc n)) (first_step step a n)

  -- the steps after the first m
  later_steps : (step : A → ℕ → A) (a : A) (m n : ℕ) → repeated step a (m + n) ≡ repeated (λ x k. step x (m + k)) (repeated step a m) n
  unfolding repeated
  later_steps step a m zero = let e : m + 0 ≡ m = omega arith in ap (repeated step a) e
  later_steps step a m (suc n) =
      let e : m + suc n ≡ suc (m + n) = omega arith in
      ap (repeated step a) e ∙ ap (λ (x : A). step x (m + n)) (later_steps step a m n)

  -- loops of the same steps
  same_steps : (P : A → Type 0) (g h : A → ℕ → A) (n : ℕ) → ((a : A) (k : ℕ) → k < n → P a → g a k ≡ h a k) → ((a : A) (k : ℕ) → P a → P (h a k)) → (a : A) → P a
      → (m : ℕ) → m ≤ n → repeated g a m ≡ repeated h a m
  unfolding repeated
  same_steps P g h n same kept a p zero l = refl
  same_steps P g h n same kept a p (suc m) l =
      ap (λ (x : A). g x m) (same_steps P g h n same kept a p m (omega (arith, l))) ∙ same (repeated h a m) m (omega (arith, l)) (keeps P h kept a m p)

  -- a loop over numbers that follow one another
  over_range : (step : A → ℕ → A) (a : A) (first n : ℕ) → fold step a (range_with_len first n) ≡ repeated (λ x k. step x (first + k)) a n
  unfolding repeated
  over_range step a first zero = refl
  over_range step a first (suc n) =
      let e : (k : ℕ) → first + 1 + k ≡ first + suc k = λ k. omega arith in
      let z : first ≡ first + 0 = omega arith in
      over_range step (step a first) (first + 1) n ∙ (λ i. repeated (λ x k. step x (e k i)) (step a (z i)) n) ∙ sym (first_step (λ x k. step x (first + k)) a n)

  over_map : (step : A → ℕ → A) (g : ℕ → ℕ) (xs : List ℕ) (a : A) → fold step a (map g xs) ≡ fold (λ a x. step a (g x)) a xs
  over_map step g [] a = refl
  over_map step g (x ∷ xs) a = over_map step g xs (step a (g x))

  over_each : (step : A → ℕ → A) (a : A) (n : ℕ) (g : ℕ → ℕ) → fold step a (each n g) ≡ repeated (λ x k. step x (g k)) a n
  unfolding each
  over_each step a n g =
      let e : (k : ℕ) → 0 + k ≡ k = λ k. omega arith in
      over_map step g (range_with_len 0 n) a ∙ over_range (λ x k. step x (g k)) a 0 n ∙ (λ i. repeated (λ x k. step x (g (e k i))) a n)

-- the powers of 17
each_from_at : (f : ℕ → ℕ) (n first k : ℕ) → k < n → slice_index (each_from first n f) k ≡ f (first + k)
each_from_at f zero first k h = absurd (omega (arith, h))
each_from_at f (suc n) first zero h = let e : first ≡ first + 0 = omega arith in ap f e
each_from_at f (suc n) first (suc k) h =
    let e : first + 1 + k ≡ first + suc k = omega arith in each_from_at f n (first + 1) k (omega (arith, h)) ∙ ap f e

zeta_is : (k : ℕ) → k < 128 → slice_index zetas k ≡ zeta_at k
zeta_is k h = let e : 0 + k ≡ k = omega arith in ap (λ (xs : List ℕ). slice_index xs k) (sym zetas_are) ∙ each_from_at zeta_at 128 0 k h ∙ ap zeta_at e

product_turned : (a z : ℕ) → z < 3329 → product a z ≡ times z a
product_turned a z h = let e : a * z ≡ z * a = omega arith in product_is a z h ∙ ap (λ (n : ℕ). n % 3329) e

-- a step of a block
module _ (len z : ℕ) (f : List ℕ) (j : ℕ) (low : z < 3329) (some : 0 < len) where
  forward_step : forward_numbers len z f j
      ≡ slice_set (slice_set f (j + len) (difference (slice_index f j) (product (slice_index f (j + len)) z))) j (sum (slice_index f j) (product (slice_index f (j + len)) z))
  unfolding forward_numbers sum
  forward_step =
      let a : ℕ = slice_index f j in
      let t : ℕ = times z (slice_index f (j + len)) in
      ap (λ (v : ℕ). slice_set (slice_set f (j + len) (minus a t)) j (plus v t)) (get_or-set_other f (j + len) j (minus a t) 0 (λ e. omega (arith, e, some)))
      ∙ ap (λ (d : ℕ). slice_set (slice_set f (j + len) d) j (plus a t)) (sym (difference_is a t (number_low _)))
      ∙ ap (λ (t : ℕ). slice_set (slice_set f (j + len) (difference a t)) j (plus a t)) (sym (product_turned (slice_index f (j + len)) z low))

  backward_step : IsRing f → backward_numbers len z f j
      ≡ slice_set (slice_set f j (sum (slice_index f j) (slice_index f (j + len)))) (j + len) (product (difference (slice_index f (j + len)) (slice_index f j)) z)
  unfolding backward_numbers sum
  backward_step ring =
      let a : ℕ = slice_index f j in
      let b : ℕ = slice_index f (j + len) in
      let g : List ℕ = slice_set f j (plus a b) in
      ap (λ (v : ℕ). slice_set g (j + len) (times z (minus v a))) (get_or-set_other f j (j + len) (plus a b) 0 (λ e. omega (arith, e, some)))
      ∙ ap (λ (d : ℕ). slice_set g (j + len) (times z d)) (sym (difference_is b a (ring.low j)))
      ∙ ap (λ (v : ℕ). slice_set g (j + len) v) (sym (product_turned (difference b a) z low))

-- a layer: m is 2^s, and c blocks of m pairs are 128 pairs
module _ (s m c : ℕ) (one : 1 ≤ s) (seven : s ≤ 7) (is : 2 ^ s ≡ m) (some : 0 < m) (blocks : 128 / 2 ^ s ≡ c) (double : 256 / 2 ^ s ≡ 2 * c) (counted : 128 / m ≡ c) (all : c * m ≡ 128) (few : 2 * c ≤ 128) where
  module _ (b o : ℕ) (inside : o < m) where
    block_is : (b * m + o) / 2 ^ s ≡ b
    block_is = ap (λ (n : ℕ). (b * m + o) / n) is ∙ div-mul-add b m o inside

    place_is : place s (b * m + o) ≡ b * (2 * m) + o
    unfolding place
    place_is = let e : b * m + o + b * m ≡ b * (2 * m) + o = omega arith in ap₂ (λ (x y : ℕ). b * m + o + x * y) block_is is ∙ e

    module _ (within : b < c) where
      below : b * m + o < 128
      below = let most : suc b * m ≤ c * m = mul-le (suc b) m c m within (omega arith) in let e : suc b * m ≡ b * m + m = omega arith in omega (arith, most, all, inside, e)

      forward_zeta : zeta s (b * m + o) ≡ zeta_at (c + b)
      forward_zeta = ap₂ (λ (x y : ℕ). slice_index zetas (x + y)) blocks block_is ∙ zeta_is (c + b) (omega (arith, within, few))

      backward_zeta : back_zeta s (b * m + o) ≡ zeta_at (2 * c - 1 - b)
      backward_zeta = ap₂ (λ (x y : ℕ). slice_index zetas (x - 1 - y)) double block_is ∙ zeta_is (2 * c - 1 - b) (omega (arith, within, few))

      distance_some : 0 < 2 ^ s
      distance_some = omega (arith, is, some)

      forward_same : (f : List ℕ) → forward_numbers m (zeta_at (c + b)) f (b * (2 * m) + o) ≡ forward_pair s f (b * m + o)
      unfolding forward_pair
      forward_same f =
          let z = zetas_of s (b * m + o) one seven below in
          (λ i. forward_numbers (sym is i) (sym forward_zeta i) f (sym place_is i)) ∙ forward_step (2 ^ s) (zeta s (b * m + o)) f (place s (b * m + o)) z.low distance_some

      backward_same : (f : List ℕ) → IsRing f → backward_numbers m (zeta_at (2 * c - 1 - b)) f (b * (2 * m) + o) ≡ backward_pair s f (b * m + o)
      unfolding backward_pair
      backward_same f ring =
          let z = zetas_of s (b * m + o) one seven below in
          (λ i. backward_numbers (sym is i) (sym backward_zeta i) f (sym place_is i))
          ∙ backward_step (2 ^ s) (back_zeta s (b * m + o)) f (place s (b * m + o)) z.back distance_some ring

  next_block : (b : ℕ) → b * m + m ≡ suc b * m
  next_block b = omega arith

  -- after so many blocks
  module _ (f : List ℕ) where
    forward_after : (n : ℕ) → n ≤ c → repeated (λ p k. forward_block m p (k * (2 * m))) (record { numbers = f; i = c }) n ≡ record { numbers = repeated (forward_pair s) f (n * m); i = c + n }
    unfolding repeated forward_block
    forward_after zero l =
        let e : 0 ≡ 0 * m = omega arith in
        let g : c ≡ c + 0 = omega arith in
        λ i. record { numbers = repeated (forward_pair s) f (e i); i = g i }
    forward_after (suc n) l =
        let h : List ℕ = repeated (forward_pair s) f (n * m) in
        let e : c + n + 1 ≡ c + suc n = omega arith in
        let whole : fold (forward_numbers m (zeta_at (c + n))) h (range_with_len (n * (2 * m)) m) ≡ repeated (forward_pair s) f (suc n * m) =
        over_range (forward_numbers m (zeta_at (c + n))) h (n * (2 * m)) m
        ∙ same_steps (λ (x : List ℕ). Unit {0}) (λ x k. forward_numbers m (zeta_at (c + n)) x (n * (2 * m) + k)) (λ x k. forward_pair s x (n * m + k)) m
        (λ x k inside any. forward_same n k inside l x) (λ x k any. tt) h tt m (omega arith)
        ∙ sym (later_steps (forward_pair s) f (n * m) m) ∙ ap (repeated (forward_pair s) f) (next_block n) in
        ap (λ (p : Progress). forward_block m p (n * (2 * m))) (forward_after n (omega (arith, l))) ∙ (λ i. record { numbers = whole i; i = e i })

    forward_layer_is : forward_blocks (record { numbers = f; i = c }) m ≡ record { numbers = forward_layer f s; i = c + c }
    unfolding forward_blocks starts forward_layer
    forward_layer_is =
        over_each (forward_block m) (record { numbers = f; i = c }) (128 / m) (λ n. n * (2 * m))
        ∙ ap (repeated (λ p k. forward_block m p (k * (2 * m))) (record { numbers = f; i = c })) counted ∙ forward_after c (omega arith)
        ∙ (λ i. record { numbers = repeated (forward_pair s) f (all i); i = c + c })

    module _ (ring : IsRing f) where
      ring_kept : (n : ℕ) → IsRing (repeated (backward_pair s) f n)
      ring_kept n = let sets = backward_sets s one seven in keeps IsRing (backward_pair s) (λ g k h. sets.ring g k h) f n ring

      backward_after : (n : ℕ) → n ≤ c
          → repeated (λ p k. backward_block m p (k * (2 * m))) (record { numbers = f; i = 2 * c - 1 }) n ≡ record { numbers = repeated (backward_pair s) f (n * m); i = 2 * c - 1 - n }
      unfolding repeated backward_block
      backward_after zero l =
          let e : 0 ≡ 0 * m = omega arith in
          let g : 2 * c - 1 ≡ 2 * c - 1 - 0 = omega arith in
          λ i. record { numbers = repeated (backward_pair s) f (e i); i = g i }
      backward_after (suc n) l =
          let h : List ℕ = repeated (backward_pair s) f (n * m) in
          let e : 2 * c - 1 - n - 1 ≡ 2 * c - 1 - suc n = omega arith in
          let sets = backward_sets s one seven in
          let whole : fold (backward_numbers m (zeta_at (2 * c - 1 - n))) h (range_with_len (n * (2 * m)) m) ≡ repeated (backward_pair s) f (suc n * m) =
          over_range (backward_numbers m (zeta_at (2 * c - 1 - n))) h (n * (2 * m)) m
          ∙ same_steps IsRing (λ x k. backward_numbers m (zeta_at (2 * c - 1 - n)) x (n * (2 * m) + k)) (λ x k. backward_pair s x (n * m + k)) m
          (λ x k inside own. backward_same n k inside l x own) (λ x k own. sets.ring x (n * m + k) own) h (ring_kept (n * m)) m (omega arith)
          ∙ sym (later_steps (backward_pair s) f (n * m) m) ∙ ap (repeated (backward_pair s) f) (next_block n) in
          ap (λ (p : Progress). backward_block m p (n * (2 * m))) (backward_after n (omega (arith, l))) ∙ (λ i. record { numbers = whole i; i = e i })

      backward_layer_is : backward_blocks (record { numbers = f; i = 2 * c - 1 }) m ≡ record { numbers = backward_layer f s; i = c - 1 }
      unfolding backward_blocks starts backward_layer
      backward_layer_is =
          let e : 2 * c - 1 - c ≡ c - 1 = omega arith in
          over_each (backward_block m) (record { numbers = f; i = 2 * c - 1 }) (128 / m) (λ n. n * (2 * m))
          ∙ ap (repeated (λ p k. backward_block m p (k * (2 * m))) (record { numbers = f; i = 2 * c - 1 })) counted ∙ backward_after c (omega arith)
          ∙ (λ i. record { numbers = repeated (backward_pair s) f (all i); i = e i })

-- the seven layers
pub forward_loops_are : (f : List ℕ) → ntt f ≡ ntt_by_loops f
unfolding ntt ntt_by_loops
forward_loops_are f =
    let f7 : List ℕ = forward_layer f 7 in
    let f6 : List ℕ = forward_layer f7 6 in
    let f5 : List ℕ = forward_layer f6 5 in
    let f4 : List ℕ = forward_layer f5 4 in
    let f3 : List ℕ = forward_layer f4 3 in
    let f2 : List ℕ = forward_layer f3 2 in
    let l7 = forward_layer_is 7 128 1 (omega arith) (omega arith) refl (omega arith) refl refl refl refl (omega arith) f in
    let l6 = forward_layer_is 6 64 2 (omega arith) (omega arith) refl (omega arith) refl refl refl refl (omega arith) f7 in
    let l5 = forward_layer_is 5 32 4 (omega arith) (omega arith) refl (omega arith) refl refl refl refl (omega arith) f6 in
    let l4 = forward_layer_is 4 16 8 (omega arith) (omega arith) refl (omega arith) refl refl refl refl (omega arith) f5 in
    let l3 = forward_layer_is 3 8 16 (omega arith) (omega arith) refl (omega arith) refl refl refl refl (omega arith) f4 in
    let l2 = forward_layer_is 2 4 32 (omega arith) (omega arith) refl (omega arith) refl refl refl refl (omega arith) f3 in
    let l1 = forward_layer_is 1 2 64 (omega arith) (omega arith) refl (omega arith) refl refl refl refl (omega arith) f2 in
    let six : (p : Progress) → List ℕ = λ p. (fold forward_blocks p (64 ∷ 32 ∷ 16 ∷ 8 ∷ 4 ∷ 2 ∷ [])).numbers in
    let five : (p : Progress) → List ℕ = λ p. (fold forward_blocks p (32 ∷ 16 ∷ 8 ∷ 4 ∷ 2 ∷ [])).numbers in
    let four : (p : Progress) → List ℕ = λ p. (fold forward_blocks p (16 ∷ 8 ∷ 4 ∷ 2 ∷ [])).numbers in
    let three : (p : Progress) → List ℕ = λ p. (fold forward_blocks p (8 ∷ 4 ∷ 2 ∷ [])).numbers in
    let two : (p : Progress) → List ℕ = λ p. (fold forward_blocks p (4 ∷ 2 ∷ [])).numbers in
    let last : (p : Progress) → List ℕ = λ p. (fold forward_blocks p (2 ∷ [])).numbers in
    sym (ap six l7 ∙ ap five l6 ∙ ap four l5 ∙ ap three l4 ∙ ap two l3 ∙ ap last l2 ∙ ap (λ (p : Progress). p.numbers) l1)

scaled_map : (f : List ℕ) → IsRing f → scaled f ≡ map (λ (n : ℕ). times n 3303) f
scaled_map f ring =
    let made = scaled_ring f ring in
    let long = made.long in
    let own = ring.long in
    let mapped = length-map f (λ (n : ℕ). times n 3303) in
    ext_get_or 0 (scaled f) (map (λ (n : ℕ). times n 3303) f) (omega (arith, long, own, mapped))
    (λ x l. scaled_is f ring x (omega (arith, l, long)) ∙ sym (get_or-map (λ (n : ℕ). times n 3303) f x 0 0 (omega (arith, l, long, own))))

pub inverse_loops_are : (f : List ℕ) → IsRing f → inverse_ntt f ≡ inverse_ntt_by_loops f
unfolding layers inverse_ntt_by_loops
inverse_loops_are f ring =
    let r = λ (n : ℕ) (l : n ≤ 7). layers_ring f n l ring in
    let l1 = backward_layer_is 1 2 64 (omega arith) (omega arith) refl (omega arith) refl refl refl refl (omega arith) f ring in
    let l2 = backward_layer_is 2 4 32 (omega arith) (omega arith) refl (omega arith) refl refl refl refl (omega arith) (layers f 1) (r 1 (omega arith)) in
    let l3 = backward_layer_is 3 8 16 (omega arith) (omega arith) refl (omega arith) refl refl refl refl (omega arith) (layers f 2) (r 2 (omega arith)) in
    let l4 = backward_layer_is 4 16 8 (omega arith) (omega arith) refl (omega arith) refl refl refl refl (omega arith) (layers f 3) (r 3 (omega arith)) in
    let l5 = backward_layer_is 5 32 4 (omega arith) (omega arith) refl (omega arith) refl refl refl refl (omega arith) (layers f 4) (r 4 (omega arith)) in
    let l6 = backward_layer_is 6 64 2 (omega arith) (omega arith) refl (omega arith) refl refl refl refl (omega arith) (layers f 5) (r 5 (omega arith)) in
    let l7 = backward_layer_is 7 128 1 (omega arith) (omega arith) refl (omega arith) refl refl refl refl (omega arith) (layers f 6) (r 6 (omega arith)) in
    let six : (p : Progress) → List ℕ = λ p. (fold backward_blocks p (4 ∷ 8 ∷ 16 ∷ 32 ∷ 64 ∷ 128 ∷ [])).numbers in
    let five : (p : Progress) → List ℕ = λ p. (fold backward_blocks p (8 ∷ 16 ∷ 32 ∷ 64 ∷ 128 ∷ [])).numbers in
    let four : (p : Progress) → List ℕ = λ p. (fold backward_blocks p (16 ∷ 32 ∷ 64 ∷ 128 ∷ [])).numbers in
    let three : (p : Progress) → List ℕ = λ p. (fold backward_blocks p (32 ∷ 64 ∷ 128 ∷ [])).numbers in
    let two : (p : Progress) → List ℕ = λ p. (fold backward_blocks p (64 ∷ 128 ∷ [])).numbers in
    let last : (p : Progress) → List ℕ = λ p. (fold backward_blocks p (128 ∷ [])).numbers in
    let whole = ap six l1 ∙ ap five l2 ∙ ap four l3 ∙ ap three l4 ∙ ap two l5 ∙ ap last l6 ∙ ap (λ (p : Progress). p.numbers) l7 in
    inverse_is f ∙ scaled_map (layers f 7) (r 7 (omega arith)) ∙ sym (ap (map (λ (n : ℕ). times n 3303)) whole)
