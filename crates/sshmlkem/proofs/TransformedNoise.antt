-- The noise by transforms, as the code's steps leave it.

use Rattle.std.specs.Prelude.{ℕ, List, [], ◌∷◌, ◌++◌, drop, take}
use Rattle.sshkeccak.specs.Sponge.{sha3_512}
use Rattle.sshmlkem.specs.Noise.{encryption_seed, public_vector, rounding, u_errors, v_of}
use Rattle.sshmlkem.specs.Ntt.{add, inverse_ntt, subtract}
use Rattle.sshmlkem.specs.Pke.{dot, noises, ntts, pke_keys}
use Rattle.sshmlkem.specs.Sample.{noise}
use Rattle.sshmlkem.specs.declared.pke.Vector.{Vector}

-- the noise, of which s, e and y are transforms
unfoldable pub transformed_noise : List ℕ → Vector → Vector → Vector → Vector → List ℕ → List ℕ → List ℕ
transformed_noise rho s e y mask_error error message =
    subtract (add (add error (rounding 4 (v_of (public_vector rho s e) y error message))) (inverse_ntt (dot e y)))
    (inverse_ntt (dot s (ntts (u_errors rho y mask_error))))

-- the noise between a seed and a message
unfoldable pub transformed_noise_between : List ℕ → List ℕ → List ℕ
transformed_noise_between d message =
    let seeds = sha3_512 (d ++ 3 ∷ []) in
    let seed = encryption_seed (pke_keys d).encryption_key message in
    transformed_noise (take 32 seeds) (ntts (noises (drop 32 seeds) 0)) (ntts (noises (drop 32 seeds) 3)) (ntts (noises seed 0)) (noises seed 3) (noise seed 6) message
