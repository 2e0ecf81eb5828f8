-- What is drawn for each purpose, and that both ends of the hybrid come to one secret.

use Rattle.std.proofs.Common.{◌≡◌, ◌∙◌, ℕ, ◌+◌, List, [], ◌∷◌, ◌++◌, Option, Some, ap, arith, drop, eqb, length, refl, suc, sym, take, zero}
use Rattle.std.specs.Prelude.{◌&&◌}
use Rattle.std.proofs.lemmas.Bool.{eq-eqb}
use Rattle.std.proofs.lemmas.List.{drop_at, length-append, take_at}
use Rattle.sshmlkem.specs.Kem.{decapsulated, encapsulated, is_key}
use Rattle.sshmlkem.specs.KemBytes.{ciphertext_bytes, key_bytes}
use Rattle.sshmlkem.proofs.Agreement.{agreed}
use Rattle.sshpacket.specs.Suite.{ResponseData}
use Rattle.sshsuite.specs.Curve25519.{base_point, x25519}
use Rattle.sshsuite.specs.CurveBytes.{length_x25519}
use Rattle.sshsuite.specs.Expansion.{expanded, expansion_input, purpose_number}
use Rattle.sshsuite.specs.Hybrid.{both_secrets, hybrid_respond, hybrid_share, hybrid_shared}
use Rattle.sshsuite.specs.HybridAgreement.{Decrypts, Meets, client_keys, made_for}
use Rattle.sshsuite.specs.declared.expansion.Purpose.{Purpose}
use Rattle.sshsuite.specs.declared.expansion.Purpose.TheVariants.{Curve25519, Group14, HybridClient, HybridServer}
use Rattle.sshsuite.specs.HybridLaws.{guarded, response_parts}

-- a purpose by its number
abbrev purpose_of : ℕ → Purpose
purpose_of zero = HybridClient
purpose_of (suc zero) = HybridServer
purpose_of (suc (suc zero)) = Curve25519
purpose_of (suc (suc (suc n))) = Group14

own_number : (p : Purpose) → purpose_of (purpose_number p) ≡ p
own_number HybridClient = refl
own_number HybridServer = refl
own_number Curve25519 = refl
own_number Group14 = refl

abbrev last_of : List ℕ → ℕ
last_of [] = 0
last_of (b ∷ []) = b
last_of (b ∷ c ∷ bytes) = last_of (c ∷ bytes)

last_is : (xs : List ℕ) (b : ℕ) → last_of (xs ++ b ∷ []) ≡ b
last_is [] b = refl
last_is (x ∷ []) b = refl
last_is (x ∷ y ∷ xs) b = last_is (y ∷ xs) b

abbrev front_of : List ℕ → List ℕ
front_of [] = []
front_of (b ∷ []) = []
front_of (b ∷ c ∷ bytes) = b ∷ front_of (c ∷ bytes)

front_is : (xs : List ℕ) (b : ℕ) → front_of (xs ++ b ∷ []) ≡ xs
front_is [] b = refl
front_is (x ∷ []) b = refl
front_is (x ∷ y ∷ xs) b = ap (λ (l : List ℕ). x ∷ l) (front_is (y ∷ xs) b)

pub inputs_apart : (random other : List ℕ) (one two : Purpose) → expansion_input random one ≡ expansion_input other two → (random ≡ other) × (one ≡ two)
inputs_apart random other one two e = (
  sym (front_is random (purpose_number one)) ∙ (ap front_of e ∙ front_is other (purpose_number two)),
  sym (own_number one) ∙ (ap purpose_of (sym (last_is random (purpose_number one)) ∙ (ap last_of e ∙ last_is other (purpose_number two))) ∙ own_number two),
)

module _ (client server : List ℕ) where
  abbrev key : List ℕ
  key = (client_keys client).encapsulation_key

  abbrev client_point : List ℕ
  client_point = x25519 (expanded client HybridClient 2) base_point

  abbrev server_point : List ℕ
  server_point = x25519 (expanded server HybridServer 2) base_point

  key_long : length key ≡ 1184
  key_long = let is = key_bytes (expanded client HybridClient 0) (expanded client HybridClient 1) in is.long

  front_key : take 1184 (key ++ client_point) ≡ key
  front_key = take_at key client_point 1184 key_long

  back_point : drop 1184 (key ++ client_point) ≡ client_point
  back_point = drop_at key client_point 1184 key_long

  abbrev ciphertext : List ℕ
  ciphertext = (made_for client server).ciphertext

  ciphertext_long : length ciphertext ≡ 1088
  unfolding encapsulated
  ciphertext_long = let is = ciphertext_bytes key (expanded server HybridServer 0) _ in is.long

  abbrev secret_by : List ℕ → List ℕ → Option (List ℕ)
  secret_by k point = both_secrets (encapsulated k (expanded server HybridServer 0)).secret (x25519 (expanded server HybridServer 2) point)

  -- what the server answers
  answer_is : (r : ResponseData) → hybrid_respond server (hybrid_share client) ≡ Some r → (r.share ≡ ciphertext ++ server_point) × (secret_by key client_point ≡ Some r.shared)
  unfolding hybrid_respond hybrid_share
  answer_is r e =
      let share = key ++ client_point in
      let parts = response_parts ((encapsulated (take 1184 share) (expanded server HybridServer 0)).ciphertext ++ server_point) (secret_by (take 1184 share) (drop 1184 share)) r
      (guarded (eqb (length share) 1216 && is_key (take 1184 share)) _ r e) in (
        sym parts.0 ∙ ap (λ (k : List ℕ). (encapsulated k (expanded server HybridServer 0)).ciphertext ++ server_point) front_key,
        ap (λ (k : List ℕ). secret_by k client_point) (sym front_key) ∙ (ap (secret_by (take 1184 share)) (sym back_point) ∙ parts.1),
      )

  -- what the client makes of a share of the right length
  abbrev secret_of : List ℕ → List ℕ → Option (List ℕ)
  secret_of c point = both_secrets (decapsulated (client_keys client).decapsulation_key c) (x25519 (expanded client HybridClient 2) point)

  shared_is : (share : List ℕ) → length share ≡ 1120 → hybrid_shared client share ≡ secret_of (take 1088 share) (drop 1088 share)
  unfolding hybrid_shared
  shared_is share e = rw (eq-eqb (length share) 1120 e) refl

  answer_long : length (ciphertext ++ server_point) ≡ 1120
  answer_long =
      let both : length (ciphertext ++ server_point) ≡ length ciphertext + length server_point = length-append ciphertext server_point in
      let front : length ciphertext ≡ 1088 = ciphertext_long in
      let back : length server_point ≡ 32 = length_x25519 (expanded server HybridServer 2) base_point in omega arith

  pub both_agree : (r : ResponseData) → Decrypts client server → Meets client server → hybrid_respond server (hybrid_share client) ≡ Some r → hybrid_shared client r.share ≡ Some r.shared
  both_agree r decrypts meets e =
      let a = answer_is r e in
      let answer = ciphertext ++ server_point in
      ap (hybrid_shared client) a.0
      ∙ (shared_is answer answer_long
      ∙ (ap (λ (c : List ℕ). secret_of c (drop 1088 answer)) (take_at ciphertext server_point 1088 ciphertext_long)
      ∙ (ap (secret_of ciphertext) (drop_at ciphertext server_point 1088 ciphertext_long)
      ∙ (ap (λ (secret : List ℕ). both_secrets secret (x25519 (expanded client HybridClient 2) server_point)) (agreed (expanded client HybridClient 0) (expanded client HybridClient 1) (expanded server HybridServer 0) decrypts)
      ∙ (ap (both_secrets (made_for client server).secret) meets ∙ a.1)))))
