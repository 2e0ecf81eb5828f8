-- The noise of ML-KEM-768: what K-PKE.Decrypt finds added to the message's polynomial (FIPS 203 sections 5.2 and 5.3). The names are those of
-- algorithms 13 to 15. FIPS 203 says how often the noise is too great (table 1); here it is a list of numbers that is computed from the seed of
-- the keys and the message.

use Rattle.std.specs.Prelude.{◌≡◌, ◌<◌, ℕ, ◌+◌, ◌%◌, ◌&&◌, ◌||◌, nat_lt, Bool, true, List, [], ◌∷◌, ◌++◌, drop, map, slice_index, take}
use Rattle.sshkeccak.specs.Sponge.{sha3_256, sha3_512}
use Rattle.sshmlkem.specs.Codec.{compressed, decode_1, decompressed}
use Rattle.sshmlkem.specs.Ntt.{add, inverse_ntt, subtract}
use Rattle.sshmlkem.specs.Pke.{column, dot, noises, ntts, pke_keys, row_sum}
use Rattle.sshmlkem.specs.Ring.{ring_product}
use Rattle.sshmlkem.specs.Sample.{noise}
use Rattle.sshmlkem.specs.declared.pke.Vector.{Vector}

-- Decompress_d of Compress_d of each number (section 4.2.1)
unfoldable pub rounded : ℕ → List ℕ → List ℕ
rounded d f = map (λ n. decompressed d (compressed d n)) f

-- what Compress_d and Decompress_d add to each number
unfoldable pub rounding : ℕ → List ℕ → List ℕ
rounding d f = subtract (rounded d f) f

-- number i of u, which is not yet compressed (algorithm 14, line 19)
unfoldable pub u_part : List ℕ → Vector → ℕ → List ℕ → List ℕ
u_part rho y i error = add (inverse_ntt (dot (column rho i) y)) error

-- v, which is not yet compressed (algorithm 14, lines 20 and 21)
unfoldable pub v_of : Vector → Vector → List ℕ → List ℕ → List ℕ
v_of t y error message = add (add (inverse_ntt (dot t y)) error) (decode_1 message)

-- the errors of u that decryption meets: e1, and what the compression of u adds (algorithm 14, lines 19 and 22)
unfoldable pub u_errors : List ℕ → Vector → Vector → Vector
u_errors rho y e = record {
  first = add e.first (rounding 10 (u_part rho y 0 e.first));
  second = add e.second (rounding 10 (u_part rho y 1 e.second));
  third = add e.third (rounding 10 (u_part rho y 2 e.third));
}

-- t, which is A s + e of transforms (algorithm 13, line 18)
unfoldable pub public_vector : List ℕ → Vector → Vector → Vector
public_vector rho s e = record { first = row_sum rho 0 s e.first; second = row_sum rho 1 s e.second; third = row_sum rho 2 s e.third }

-- the inner product of two vectors of polynomials, by products in R_q (section 2.4.7)
unfoldable pub ring_dot : Vector → Vector → List ℕ
ring_dot f g = add (add (ring_product f.first g.first) (ring_product f.second g.second)) (ring_product f.third g.third)

-- e2, and what the compression of v adds, and e y, less s times the errors of u: v' - s u' less the message's polynomial (algorithm 15, line 6)
unfoldable pub ring_noise : List ℕ → Vector → Vector → Vector → Vector → List ℕ → List ℕ → List ℕ
ring_noise rho s e y u_error error message =
    subtract (add (add error (rounding 4 (v_of (public_vector rho (ntts s) (ntts e)) (ntts y) error message))) (ring_dot e y))
    (ring_dot s (u_errors rho (ntts y) u_error))

-- r, the seed of an encryption (algorithm 17, line 1)
unfoldable pub encryption_seed : List ℕ → List ℕ → List ℕ
encryption_seed key message = drop 32 (sha3_512 (message ++ sha3_256 key))

-- the noise between the keys of the seed d and a message: s and e are those of algorithm 13, lines 8 to 15; y, e1 and e2 are those of algorithm
-- 14, lines 9 to 17
unfoldable pub noise_between : List ℕ → List ℕ → List ℕ
noise_between d message =
    let seeds = sha3_512 (d ++ 3 ∷ []) in
    let seed = encryption_seed (pke_keys d).encryption_key message in
    ring_noise (take 32 seeds) (noises (drop 32 seeds) 0) (noises (drop 32 seeds) 3) (noises seed 0) (noises seed 3) (noise seed 6) message

-- each number is from -832 to 831 modulo q, which is within a quarter of q
unfoldable pub are_small : List ℕ → Bool
are_small [] = true
are_small (n ∷ ns) = (nat_lt n 832 || nat_lt 2496 n) && are_small ns

-- each number of the message's polynomial, which is 0 or 1665, has the same bit by Compress_1 when the number of the noise is added
abbrev pub KeepsBits : List ℕ → List ℕ → Type 0
KeepsBits message noise =
    (i : ℕ) → i < 256 → compressed 1 ((slice_index (decode_1 message) i + slice_index noise i) % 3329) ≡ compressed 1 (slice_index (decode_1 message) i)
