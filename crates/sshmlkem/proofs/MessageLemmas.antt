-- Rounded numbers, a message's polynomial, and that small noise keeps its bits.

use Rattle.std.proofs.Common.{◌≡◌, ℕ, zero, suc, ◌/◌, ◌%◌, ◌^◌, ◌<◌, ◌⊎◌, inl, inr, Bool, false, true, List, [], ◌∷◌, length, refl, ◌∙◌, arith, ⊎_elim, ltb-true}
use Rattle.std.proofs.lemmas.Bool.{and_parts}
use Rattle.std.proofs.lemmas.List.{get_or-set_same, get_or-set_other}
use Rattle.std.specs.Prelude.{◌||◌, nat_lt, replicate, slice_index}
use Rattle.sshmlkem.proofs.LoopLemmas.{SetsOne, after_one, ring_ones, set_ring, zeros_ring}
use Rattle.sshmlkem.proofs.NumberLemmas.{number_low}
use Rattle.sshmlkem.proofs.ProductLemmas.{map_ring}
use Rattle.sshmlkem.specs.Codec.{compressed, decode_1, decompressed, with_number}
use Rattle.sshmlkem.specs.Noise.{KeepsBits, are_small, rounded}
use Rattle.sshmlkem.specs.Ring.{IsRing, plus}

-- compression
decompressed_low : (d n : ℕ) → decompressed d n < 3329
unfolding decompressed
decompressed_low d n = number_low _

pub rounded_ring : (d : ℕ) (f : List ℕ) → IsRing f → IsRing (rounded d f)
unfolding rounded
rounded_ring d f r = map_ring (λ n. decompressed d (compressed d n)) (λ n. decompressed_low d (compressed d n)) f r

-- a message's numbers
number_sets : (m : List ℕ) → SetsOne (λ v k. decompressed 1 (slice_index m (k / 8) / 2 ^ (k % 8) % 2)) (with_number m)
unfolding with_number
number_sets m = record {
  ring = λ f k h. set_ring f k _ (decompressed_low 1 _) h;
  first = λ f k l h. let long = h.long in get_or-set_same f k _ 0 (omega (arith, long, l));
  other = λ f k x e. get_or-set_other f k x _ 0 e;
}

pub decoded_ring : (m : List ℕ) → IsRing (decode_1 m)
unfolding decode_1
decoded_ring m = ring_ones _ (with_number m) (number_sets m) (replicate 256 0) zeros_ring 256

decompressed_bit : (b : ℕ) → b < 2 → (decompressed 1 b ≡ 0) ⊎ (decompressed 1 b ≡ 1665)
unfolding decompressed
decompressed_bit zero h = inl refl
decompressed_bit (suc zero) h = inr refl
decompressed_bit (suc (suc b)) h = absurd (omega (arith, h))

pub decoded_bit : (m : List ℕ) (i : ℕ) → i < 256 → (slice_index (decode_1 m) i ≡ 0) ⊎ (slice_index (decode_1 m) i ≡ 1665)
unfolding decode_1
decoded_bit m i l =
    let is = after_one _ (with_number m) (number_sets m) (replicate 256 0) zeros_ring 256 i (omega arith) l in
    ⊎_elim (λ (e : decompressed 1 (slice_index m (i / 8) / 2 ^ (i % 8) % 2) ≡ 0). inl (is ∙ e)) (λ (e : decompressed 1 (slice_index m (i / 8) / 2 ^ (i % 8) % 2) ≡ 1665). inr (is ∙ e))
    (decompressed_bit (slice_index m (i / 8) / 2 ^ (i % 8) % 2) (omega arith))

-- a number of one bit comes back if the noise is small
bit_comes_back : (m n : ℕ) → (m ≡ 0) ⊎ (m ≡ 1665) → (n < 832) ⊎ ((2496 < n) × (n < 3329)) → compressed 1 (plus m n) ≡ compressed 1 m
unfolding compressed
bit_comes_back m n (inl a) (inl b) = omega (arith, a, b)
bit_comes_back m n (inl a) (inr b) = let c = b.0 in let d = b.1 in omega (arith, a, c, d)
bit_comes_back m n (inr a) (inl b) = omega (arith, a, b)
bit_comes_back m n (inr a) (inr b) = let c = b.0 in let d = b.1 in omega (arith, a, c, d)

one_is_true : (a b : Bool) → (a || b) ≡ true → (a ≡ true) ⊎ (b ≡ true)
one_is_true true b e = inl refl
one_is_true false b e = inr e

small_at : (f : List ℕ) → are_small f ≡ true → (i : ℕ) → i < length f → (slice_index f i < 832) ⊎ (2496 < slice_index f i)
unfolding are_small
small_at [] e i h = absurd (omega (arith, h))
small_at (n ∷ ns) e zero h =
    let parts = and_parts (nat_lt n 832 || nat_lt 2496 n) (are_small ns) e in
    ⊎_elim (λ (a : nat_lt n 832 ≡ true). inl (ltb-true n 832 a)) (λ (a : nat_lt 2496 n ≡ true). inr (ltb-true 2496 n a)) (one_is_true (nat_lt n 832) (nat_lt 2496 n) parts.0)
small_at (n ∷ ns) e (suc i) h = let parts = and_parts (nat_lt n 832 || nat_lt 2496 n) (are_small ns) e in small_at ns parts.1 i (omega (arith, h))

-- small noise keeps the bits
pub small_keeps_bits : (m n : List ℕ) → IsRing n → are_small n ≡ true → KeepsBits m n
small_keeps_bits m n rn small i l =
    let ln = rn.long in
    let low = rn.low i in
    let near : (slice_index n i < 832) ⊎ ((2496 < slice_index n i) × (slice_index n i < 3329)) =
    ⊎_elim (λ (k : slice_index n i < 832). inl k) (λ (k : 2496 < slice_index n i). inr (k, low)) (small_at n small i (omega (arith, l, ln))) in
    bit_comes_back (slice_index (decode_1 m) i) (slice_index n i) (decoded_bit m i l) near
