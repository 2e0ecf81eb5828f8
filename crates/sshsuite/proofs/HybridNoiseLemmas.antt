-- A message of the hybrid is 32 bytes, and is decrypted as the law of ML-KEM says.

use Rattle.std.proofs.Common.{◌≡◌, true, ℕ, zero, suc, List, [], ◌∷◌, length, take, arith, lit<}
use Rattle.std.specs.Prelude.{◌↔◌}
use Rattle.std.proofs.lemmas.List.{length-take}
use Prim.{tt}
use Rattle.sshkeccak.specs.Sponge.{bytes_of, shake256_96, sponge}
use Rattle.sshmlkem.specs.KemBytes.{AreBytes, IsBytes, state_bytes}
use Rattle.sshmlkem.specs.Kem.{encapsulated, keys_of}
use Rattle.sshmlkem.specs.Noise.{KeepsBits, are_small, noise_between}
use Rattle.sshmlkem.specs.Pke.{decrypted, pke_keys}
use Rattle.sshsuite.specs.Expansion.{expanded, expansion_input}
use Rattle.sshsuite.specs.HybridAgreement.{Decrypts, KeepsMessage, hybrid_noise}
use Rattle.sshsuite.specs.declared.expansion.Purpose.{Purpose}
use Rattle.sshsuite.specs.declared.expansion.Purpose.TheVariants.{HybridClient, HybridServer}

bytes_taken : (n : ℕ) (bytes : List ℕ) → IsBytes bytes → IsBytes (take n bytes)
bytes_taken zero bytes h i = lit< tt
bytes_taken (suc n) [] h i = lit< tt
bytes_taken (suc n) (b ∷ bytes) h zero = h 0
bytes_taken (suc n) (b ∷ bytes) h (suc i) = bytes_taken n bytes (λ i. h (suc i)) i

first_are : (random : List ℕ) (purpose : Purpose) → AreBytes 32 (expanded random purpose 0)
unfolding expanded shake256_96
first_are random purpose =
    let state : List ℕ = sponge 17 0x1f (expansion_input random purpose) in
    let all = state_bytes state in
    let whole = all.long in
    record {
      long = let outer = length-take 32 (take 96 (bytes_of state)) in let inner = length-take 96 (bytes_of state) in omega (arith, outer, inner, whole);
      bytes = bytes_taken 32 (take 96 (bytes_of state)) (bytes_taken 96 (bytes_of state) all.bytes);
    }

module _ (client server : List ℕ) where
  message_are : AreBytes 32 (expanded server HybridServer 0)
  message_are = first_are server HybridServer

  pub decrypts_exactly : ((d z m : List ℕ) → IsBytes m → length m ≡ 32
      → (decrypted (pke_keys d).decryption_key (encapsulated (keys_of d z).encapsulation_key m).ciphertext ≡ m) ↔ KeepsBits m (noise_between d m))
      → Decrypts client server ↔ KeepsMessage client server
  decrypts_exactly law = law (expanded client HybridClient 0) (expanded client HybridClient 1) (expanded server HybridServer 0) message_are.bytes message_are.long

  pub decrypts_small : ((d z m : List ℕ) → IsBytes m → length m ≡ 32 → are_small (noise_between d m) ≡ true
      → decrypted (pke_keys d).decryption_key (encapsulated (keys_of d z).encapsulation_key m).ciphertext ≡ m)
      → are_small (hybrid_noise client server) ≡ true → Decrypts client server
  decrypts_small law = law (expanded client HybridClient 0) (expanded client HybridClient 1) (expanded server HybridServer 0) message_are.bytes message_are.long
