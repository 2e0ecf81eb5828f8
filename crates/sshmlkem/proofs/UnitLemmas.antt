-- The transform of the polynomial 1.

use Rattle.std.proofs.Common.{◌≡◌, ◌≢◌, ℕ, ◌*◌, ◌%◌, ◌<◌, ◌≤◌, List, ◌∙◌, arith}
use Rattle.std.specs.Prelude.{slice_index}
use Rattle.sshmlkem.proofs.BlockLemmas.{Places, places_1, places_2, places_3, places_4, places_5, places_6, places_7}
use Rattle.sshmlkem.proofs.LayerLemmas.{forward_first_is, forward_partner_is, forward_ring, zeta}
use Rattle.sshmlkem.proofs.PlaceLemmas.{below, by_pairs, partner}
use Rattle.sshmlkem.proofs.TransformLemmas.{forwards, ntt_is}
use Rattle.sshmlkem.specs.Ntt.{forward_layer, ntt, place}
use Rattle.sshmlkem.specs.Ring.{IsRing, minus, plus, times}

-- 1 at the first place of each block of w numbers, and 0 elsewhere
pub record IsUnit (w : ℕ) (f : List ℕ) : Type 0 where
  pub first : (x : ℕ) → x < 256 → x % w ≡ 0 → slice_index f x ≡ 1
  pub rest : (x : ℕ) → x < 256 → x % w ≢ 0 → slice_index f x ≡ 0

unit_pair : (a b z : ℕ) → b ≡ 0 → a < 3329 → (plus a (times b z) ≡ a) × (minus a (times b z) ≡ a)
unit_pair a b z e l = let n : times b z ≡ 0 = rw e (omega arith) in (rw n (omega (arith, l)), rw n (omega (arith, l)))

layer_unit : (s m : ℕ) → 1 ≤ s → s ≤ 7 → Places s m → (f : List ℕ) → IsRing f → IsUnit (2 * m) f → IsUnit m (forward_layer f s)
layer_unit s m one seven at f rf is = record { first = λ x l. (both x l).0; rest = λ x l. (both x l).1 }
  where
    IsUnitAt : ℕ → ℕ → Type 0
    IsUnitAt x v = (x % m ≡ 0 → v ≡ 1) × (x % m ≢ 0 → v ≡ 0)

    both : (x : ℕ) → x < 256 → IsUnitAt x (slice_index (forward_layer f s) x)
    both = by_pairs s one seven (λ x. IsUnitAt x (slice_index (forward_layer f s) x))
        (λ k l.
        let low = below s k one seven l in
        let none : slice_index f (partner s k) ≡ 0 = is.rest (partner s k) low (at.inside_too k l) in
        let own = unit_pair (slice_index f (place s k)) (slice_index f (partner s k)) (zeta s k) none (rf.low (place s k)) in
        let v : slice_index (forward_layer f s) (place s k) ≡ slice_index f (place s k) = forward_first_is s one seven f rf k l ∙ own.0 in (
          (λ h. v ∙ is.first (place s k) (omega (arith, low)) (at.starts k l (at.offset_back k l h))),
          (λ h. v ∙ is.rest (place s k) (omega (arith, low)) (at.inside k l (λ e. h (at.offset k l e)))),
        ))
        (λ k l.
        let low = below s k one seven l in
        let none : slice_index f (partner s k) ≡ 0 = is.rest (partner s k) low (at.inside_too k l) in
        let own = unit_pair (slice_index f (place s k)) (slice_index f (partner s k)) (zeta s k) none (rf.low (place s k)) in
        let v : slice_index (forward_layer f s) (partner s k) ≡ slice_index f (place s k) = forward_partner_is s one seven f rf k l ∙ own.1 in (
          (λ h. v ∙ is.first (place s k) (omega (arith, low)) (at.starts k l (at.offset_back_too k l h))),
          (λ h. v ∙ is.rest (place s k) (omega (arith, low)) (at.inside k l (λ e. h (at.offset_too k l e)))),
        ))

-- the transform of 1
pub ntt_unit : (f : List ℕ) → IsRing f → IsUnit 256 f → IsUnit 2 (ntt f)
unfolding forwards
ntt_unit f rf is =
    let f7 : List ℕ = forward_layer f 7 in
    let rf7 = forward_ring 7 (omega arith) (omega arith) f rf in
    let u7 = layer_unit 7 128 (omega arith) (omega arith) places_7 f rf is in
    let f6 : List ℕ = forward_layer f7 6 in
    let rf6 = forward_ring 6 (omega arith) (omega arith) f7 rf7 in
    let u6 = layer_unit 6 64 (omega arith) (omega arith) places_6 f7 rf7 u7 in
    let f5 : List ℕ = forward_layer f6 5 in
    let rf5 = forward_ring 5 (omega arith) (omega arith) f6 rf6 in
    let u5 = layer_unit 5 32 (omega arith) (omega arith) places_5 f6 rf6 u6 in
    let f4 : List ℕ = forward_layer f5 4 in
    let rf4 = forward_ring 4 (omega arith) (omega arith) f5 rf5 in
    let u4 = layer_unit 4 16 (omega arith) (omega arith) places_4 f5 rf5 u5 in
    let f3 : List ℕ = forward_layer f4 3 in
    let rf3 = forward_ring 3 (omega arith) (omega arith) f4 rf4 in
    let u3 = layer_unit 3 8 (omega arith) (omega arith) places_3 f4 rf4 u4 in
    let f2 : List ℕ = forward_layer f3 2 in
    let rf2 = forward_ring 2 (omega arith) (omega arith) f3 rf3 in
    let u2 = layer_unit 2 4 (omega arith) (omega arith) places_2 f3 rf3 u3 in
    let f1 : List ℕ = forward_layer f2 1 in
    let rf1 = forward_ring 1 (omega arith) (omega arith) f2 rf2 in
    let u1 = layer_unit 1 2 (omega arith) (omega arith) places_1 f2 rf2 u2 in
    rw (ntt_is f) u1
