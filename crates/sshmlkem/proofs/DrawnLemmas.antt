-- Polynomials that are drawn have 256 numbers below q.

use Rattle.std.proofs.Common.{◌≡◌, ℕ, ◌+◌, ◌*◌, ◌<◌, Bool, cond, true, false, List, [], ◌∷◌, ◌++◌, refl, ltb-true}
use Rattle.std.proofs.lemmas.Bool.{and_parts}
use Rattle.std.specs.Prelude.{◌&&◌, nat_lt, replicate}
use Rattle.sshkeccak.specs.Sponge.{shake256_128}
use Rattle.sshmlkem.proofs.LoopLemmas.{set_ring, zeros_ring}
use Rattle.sshmlkem.proofs.NumberLemmas.{number_low}
use Rattle.sshmlkem.proofs.ProductLemmas.{AreRings}
use Rattle.sshmlkem.specs.KemBytes.{keeps}
use Rattle.sshmlkem.specs.Pke.{column, noises, row}
use Rattle.sshmlkem.specs.Ring.{IsRing}
use Rattle.sshmlkem.specs.Sample.{accepted_data, centred, drawn, drawn_next, noise, nothing_taken, offered, offered_block, offered_three, sample_cbd, sample_ntt, with_two}
use Rattle.sshmlkem.specs.declared.sample.Taken.{Taken}

centred_low : (n : ℕ) → centred n < 3329
unfolding centred
centred_low n = number_low _

pub noise_ring : (seed : List ℕ) (n : ℕ) → IsRing (noise seed n)
unfolding noise sample_cbd with_two
noise_ring seed n = keeps IsRing (with_two (shake256_128 (seed ++ n ∷ []))) (λ f i h. set_ring _ (2 * i + 1) _ (centred_low _) (set_ring f (2 * i) _ (centred_low _) h)) (replicate 256 0) 128 zeros_ring

pub noises_rings : (seed : List ℕ) (n : ℕ) → AreRings (noises seed n)
unfolding noises
noises_rings seed n = record { first = noise_ring seed n; second = noise_ring seed (n + 1); third = noise_ring seed (n + 2) }

abbrev TakesRing : Taken → Type 0
TakesRing t = IsRing t.numbers

taken_if : (b : Bool) (t u : Taken) → (b ≡ true → TakesRing t) → TakesRing u → TakesRing (cond b t u)
taken_if true t u h k = h refl
taken_if false t u h k = k

offered_ring : (t : Taken) (n : ℕ) → TakesRing t → TakesRing (offered t n)
unfolding offered
offered_ring t n h =
    taken_if (nat_lt n 3329 && nat_lt t.count 256) _ t (λ e. let parts = and_parts (nat_lt n 3329) (nat_lt t.count 256) e in set_ring t.numbers t.count n (ltb-true n 3329 parts.0) h) h

block_ring : (t : Taken) (block : List ℕ) → TakesRing t → TakesRing (offered_block t block)
unfolding offered_block offered_three
block_ring t block h = keeps TakesRing (offered_three block) (λ t i h. offered_ring _ _ (offered_ring t _ h)) t 56 h

drawn_ring : (t : Taken) → TakesRing t → TakesRing (drawn t)
unfolding drawn
drawn_ring t h = block_ring _ _ h

next_ring : (t : Taken) (i : ℕ) → TakesRing t → TakesRing (drawn_next t i)
unfolding drawn_next
next_ring t i h = taken_if (nat_lt t.count 256) (drawn t) t (λ e. drawn_ring t h) h

pub sample_ring : (seed : List ℕ) (i j : ℕ) → IsRing (sample_ntt seed i j)
unfolding sample_ntt accepted_data
sample_ring seed i j = keeps TakesRing drawn_next next_ring _ 4 (block_ring (nothing_taken _) _ zeros_ring)

pub row_rings : (rho : List ℕ) (i : ℕ) → AreRings (row rho i)
unfolding row
row_rings rho i = record { first = sample_ring rho 0 i; second = sample_ring rho 1 i; third = sample_ring rho 2 i }

pub column_rings : (rho : List ℕ) (i : ℕ) → AreRings (column rho i)
unfolding column
column_rings rho i = record { first = sample_ring rho i 0; second = sample_ring rho i 1; third = sample_ring rho i 2 }
