-- Two ends of mlkem768x25519-sha256 come to one shared secret, if the client decrypts.

use Rattle.std.proofs.Common.{◌≡◌, ℕ, ◌+◌, ◌%◌, ◌^◌, Bool, true, false, cond, eqb, List, ◌++◌, length, take, drop, replicate, refl, ap, ap₂, ◌∙◌, arith, length-append, eq-eqb}
use Rattle.std.proofs.lemmas.List.{drop_at, take_at}
use Rattle.std.proofs.lemmas.Slice.Eq.{bytes_eq-Decides}
use Rattle.std.specs.Prelude.{◌&&◌, None, Some, option_map, codes}
use Rattle.std.specs.Str.{bytes_eq}
use Rattle.sha2.specs.Sha256.{sha256}
use Rattle.sshmlkem.specs.Kem.{encapsulated, is_key, keys_of}
use Rattle.sshmlkem.specs.KemBytes.{key_bytes as kem_key_bytes}
use Rattle.sshwire.specs.Types.{IsBytes}
use Rattle.sshpacket.specs.Suite.{Agrees, ResponseData}
use Rattle.sshcurve.specs.Bits.{number_of_32}
use Rattle.sshsuite.specs.Curve25519.{base_point, x25519}
use Rattle.sshcurve.specs.X25519Numbers.{clamped, x25519_number}
use Rattle.sshsuite.specs.CurveBytes.{length_x25519}
use Rattle.sshsuite.specs.Deployed.{deployed, is_group14, is_hybrid, respond, share, shared}
use Rattle.sshsuite.specs.Expansion.{expanded}
use Rattle.sshcurve.specs.FieldBytes.{bytes_of_number}
use Rattle.sshcurve.specs.FieldNumbers.{field}
use Rattle.sshsuite.specs.Hybrid.{both_secrets, hybrid_respond, hybrid_share, hybrid_shared, response_of}
use Rattle.sshsuite.specs.HybridAgreement.{Decrypts, Meets}
use Rattle.sshsuite.proofs.CurveAgreementLemmas.{length_part, meets, secret_some}

-- mlkem768x25519-sha256, by the laws of the code, where decapsulation gives what was encapsulated.
module _ (law : (scalar point : List ℕ) → IsBytes point → x25519 scalar point ≡ bytes_of_number (x25519_number (clamped scalar) (number_of_32 point % 2 ^ 255 % field)))
    (own_key : (d z : List ℕ) → is_key (keys_of d z).encapsulation_key ≡ true)
    (agreed : (client server : List ℕ) (response : ResponseData) → Decrypts client server → Meets client server
    → hybrid_respond server (hybrid_share client) ≡ Some response → hybrid_shared client response.share ≡ Some response.shared) where
  -- the scalars are those of the definitions, whose purposes have no name here
  answers : (client server a b seed d z : List ℕ) → length a ≡ 32 → length b ≡ 32
      → hybrid_share client ≡ (keys_of d z).encapsulation_key ++ x25519 a base_point
      → ((peer : List ℕ) → hybrid_respond server peer
      ≡ cond (eqb (length peer) 1216 && is_key (take 1184 peer))
      (option_map (response_of ((encapsulated (take 1184 peer) seed).ciphertext ++ x25519 b base_point)) (both_secrets (encapsulated (take 1184 peer) seed).secret (x25519 b (drop 1184 peer)))) None)
      → (r : ResponseData) × (hybrid_respond server (hybrid_share client) ≡ Some r)
  unfolding both_secrets
  answers client server a b seed d z ha hb share_is respond_is =
      let key : List ℕ = (keys_of d z).encapsulation_key in
      let point : List ℕ = x25519 a base_point in
      let peer : List ℕ = key ++ point in
      let key_are = kem_key_bytes d z in
      let long : length peer ≡ 1216 = length-append key point ∙ ap₂ ◌+◌ key_are.long (length_x25519 a base_point) in
      let front : take 1184 peer ≡ key = take_at key point 1184 key_are.long in
      let rest : drop 1184 peer ≡ point = drop_at key point 1184 key_are.long in
      let test : (eqb (length peer) 1216 && is_key (take 1184 peer)) ≡ true =
      ap₂ (λ (x y : Bool). x && y) (eq-eqb (length peer) 1216 long) (ap is_key front ∙ own_key d z) in
      let some : bytes_eq (x25519 b (drop 1184 peer)) (replicate 32 0) ≡ false =
      ap (λ (xs : List ℕ). bytes_eq (x25519 b xs) (replicate 32 0)) rest ∙ secret_some law b a hb ha in
      let secret : List ℕ = (encapsulated (take 1184 peer) seed).secret in
      let body : List ℕ = sha256 (secret ++ x25519 b (drop 1184 peer)) in
      let own : List ℕ = (encapsulated (take 1184 peer) seed).ciphertext ++ x25519 b base_point in
      (response_of own body, ap (hybrid_respond server) share_is ∙ respond_is peer ∙ both_tests _ _ own body test some)
    where
      both_tests : (b c : Bool) (own body : List ℕ) → b ≡ true → c ≡ false → cond b (option_map (response_of own) (cond c None (Some body))) None ≡ Some (response_of own body)
      both_tests b c own body e f = rw (e, f) refl

  answered : (client server : List ℕ) → (r : ResponseData) × (hybrid_respond server (hybrid_share client) ≡ Some r)
  unfolding hybrid_share hybrid_respond expanded
  answered client server = answers client server _ _ _ _ _ (length_part 2 _ (omega arith)) (length_part 2 _ (omega arith)) refl (λ peer. refl)

  not_group14 : (kex : List ℕ) → is_hybrid kex ≡ true → is_group14 kex ≡ false
  unfolding is_group14 is_hybrid
  not_group14 kex e = ap is_group14 ((bytes_eq-Decides kex (codes "mlkem768x25519-sha256")).0 e)

  pub hybrid_agrees : (kex client server : List ℕ) → is_hybrid kex ≡ true → Decrypts client server → Agrees deployed kex client server
  unfolding share shared respond
  hybrid_agrees kex client server is decrypts =
      let other = not_group14 kex is in
      let a = answered client server in
      record {
        answer = a.0;
        responds = rw (other, is) a.1;
        same = rw (other, is) (agreed client server a.0 decrypts (meets law client server) a.1);
      }
