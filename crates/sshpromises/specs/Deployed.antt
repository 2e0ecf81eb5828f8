-- When two ends of the deployed suite come to one shared secret.

use Rattle.std.specs.Prelude.{◌≡◌, ℕ, true, List}
use Rattle.sshsuite.specs.Deployed.{exponent_of, is_curve25519, is_group14, is_hybrid}
use Rattle.sshsuite.specs.Group14.{generator, is_within, power}
use Rattle.sshmlkem.specs.Noise.{are_small}
use Rattle.sshsuite.specs.HybridAgreement.{hybrid_noise}

-- Both shares and the shared secret are numbers from 2 to p - 2, so that neither side refuses one (profile).
pub record AreWithin (client server : List ℕ) : Type 0 where
  pub client_share : is_within (power generator (exponent_of client)) ≡ true
  pub server_share : is_within (power generator (exponent_of server)) ≡ true
  pub shared_secret : is_within (power (power generator (exponent_of client)) (exponent_of server)) ≡ true

-- What lets two ends with these random bytes come to one shared secret: by curve25519-sha256 nothing more; by mlkem768x25519-sha256
-- that the noise of ML-KEM between them is small; and by diffie-hellman-group14-sha256 that no number is refused.
pub data CanAgree (kex client server : List ℕ) : Type 0 where
  ByCurve25519 : is_curve25519 kex ≡ true → CanAgree kex client server
  ByHybrid : is_hybrid kex ≡ true → are_small (hybrid_noise client server) ≡ true → CanAgree kex client server
  ByGroup14 : is_group14 kex ≡ true → AreWithin client server → CanAgree kex client server
