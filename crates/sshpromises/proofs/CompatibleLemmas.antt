-- What is asked of compatible configs follows from the laws of two ends.

use Rattle.std.proofs.Common.{◌≡◌, ℕ, true, List, [], ◌∷◌, Ok}
use Rattle.std.specs.List.{AllByRecursion}
use Prim.{tt}
use Rattle.sshcore.specs.ConfigParts.{AttemptData, ByKey, ByNothing, ByPassword, ClientData, CredentialData, ServerData, client_offer, server_offer}
use Rattle.sshcore.specs.EndpointParts.{DecisionsData}
use Rattle.sshcore.specs.Exchange.{secret_of}
use Rattle.sshneg.specs.ChoiceReadings.{choice}
use Rattle.sshneg.specs.Fields.{AlgorithmsData}
use Rattle.sshpacket.specs.Suite.{Agrees, Signs}
use Rattle.sshsuite.specs.Deployed.{deployed, is_curve25519, is_group14, is_hybrid}
use Rattle.sshmlkem.specs.Noise.{are_small}
use Rattle.sshsuite.specs.HybridAgreement.{hybrid_noise}
use Rattle.sshworld.specs.Compatible.{AreCompatible, CanSign}
use Rattle.sshworld.specs.Held.{IsHeld}
use Rattle.sshpromises.specs.Deployed.{AreWithin, ByCurve25519, ByGroup14, ByHybrid, CanAgree}

module _ (curve25519 : (kex client server : List ℕ) → is_curve25519 kex ≡ true → Agrees deployed kex client server)
    (hybrid : (kex client server : List ℕ) → is_hybrid kex ≡ true → are_small (hybrid_noise client server) ≡ true → Agrees deployed kex client server)
    (group14 : (kex client server : List ℕ) → is_group14 kex ≡ true → AreWithin client server → Agrees deployed kex client server)
    (signs : (alg secret : List ℕ) → deployed.holds alg secret ≡ true → Signs deployed alg secret) where
  agrees : (kex client server : List ℕ) → CanAgree kex client server → Agrees deployed kex client server
  agrees kex client server (ByCurve25519 is) = curve25519 kex client server is
  agrees kex client server (ByHybrid is small) = hybrid kex client server is small
  agrees kex client server (ByGroup14 is within) = group14 kex client server is within

  can_sign : (c : CredentialData) → IsHeld deployed c → CanSign deployed c
  can_sign ByNothing h = tt
  can_sign (ByPassword password) h = tt
  can_sign (ByKey algorithm secret ask) h = signs algorithm secret h

  plan_signs : (plan : List AttemptData) → AllByRecursion (λ (attempt : AttemptData). IsHeld deployed attempt.proving) plan → AllByRecursion (λ (attempt : AttemptData). CanSign deployed attempt.proving) plan
  plan_signs [] h = tt
  plan_signs (attempt ∷ plan) h = (can_sign attempt.proving h.0, plan_signs plan h.1)

  pub compatible : (d : DecisionsData) (client : ClientData) (server : ServerData)
      → ((a : AlgorithmsData) → choice deployed (client_offer client) (server_offer server) ≡ Ok a → CanAgree a.kex client.side.random server.side.random)
      → ((a : AlgorithmsData) → choice deployed (client_offer client) (server_offer server) ≡ Ok a → deployed.holds a.host_key (secret_of server.host_keys a.host_key) ≡ true)
      → AllByRecursion (λ (attempt : AttemptData). IsHeld deployed attempt.proving) client.plan → AreCompatible deployed d client server
  compatible d client server can host_key_held plan_held = record {
    exchange = λ a e. agrees a.kex client.side.random server.side.random (can a e);
    host_key = λ a e trusted. signs a.host_key (secret_of server.host_keys a.host_key) (host_key_held a e);
    plan = plan_signs client.plan plan_held;
    host_key_held = host_key_held;
    plan_held = plan_held;
  }
