-- Two ends of curve25519-sha256 come to one shared secret.

use Rattle.std.proofs.Common.{◌≡◌, ℕ, zero, suc, ◌*◌, ◌%◌, ◌^◌, ◌<◌, ◌≤◌, Bool, true, false, List, length, take, drop, replicate, refl, sym, ap, ◌∙◌, arith, ⊎_elim, length-set, length-drop, eq-eqb}
use Rattle.std.proofs.lemmas.Bool.{cases_Bool}
use Rattle.std.proofs.lemmas.List.{length-take-le}
use Rattle.std.proofs.lemmas.Slice.Eq.{bytes_eq-Decides}
use Rattle.std.specs.Prelude.{◌||◌, Some, codes}
use Rattle.std.specs.Str.{bytes_eq}
use Rattle.sshkeccak.specs.Repeated.{repeated}
use Rattle.sshkeccak.specs.Sponge.{bytes_of, shake256_96, sponge, with_byte}
use Rattle.sshwire.specs.ByteLaws.{bytes_cons, bytes_none}
use Rattle.sshwire.specs.Types.{IsBytes}
use Rattle.sshpacket.specs.Suite.{Agrees}
use Rattle.sshcurve.specs.Bits.{number_of_32, word_at}
use Rattle.sshsuite.specs.Curve25519.{base_point, x25519}
use Rattle.sshcurve.specs.X25519Numbers.{clamped, x25519_number}
use Rattle.sshsuite.specs.CurveBytes.{bytes_x25519, length_x25519}
use Rattle.sshsuite.specs.Deployed.{deployed, is_curve25519, is_group14, is_hybrid, respond, response_with, scalar_of, share, shared, shared_secret}
use Rattle.sshsuite.specs.Expansion.{expanded}
use Rattle.sshcurve.specs.FieldBytes.{bytes_of_number}
use Rattle.sshcurve.specs.FieldNumbers.{times, field}
use Rattle.sshsuite.specs.HybridAgreement.{Meets}
use Rattle.sshsuite.specs.MpintBody.{mpint_body}
use Rattle.sshcurve.proofs.AgreementLemmas.{x25519_agrees, x25519_present}
use Rattle.sshcurve.proofs.DecodingLemmas.{number_back}

-- What is drawn has 32 bytes.
length_repeated : (step : List ℕ → ℕ → List ℕ) (a : List ℕ) → ((b : List ℕ) (i : ℕ) → length (step b i) ≡ length b) → (n : ℕ) → length (repeated step a n) ≡ length a
unfolding repeated
length_repeated step a h zero = refl
length_repeated step a h (suc n) = h (repeated step a n) n ∙ length_repeated step a h n

length_state : (a : List ℕ) → length (bytes_of a) ≡ 200
unfolding bytes_of with_byte
length_state a = length_repeated (with_byte a) (replicate 200 0) (λ b i. length-set b i _) 200

shortened : (n : ℕ) (xs : List ℕ) → n ≤ length xs → length (take n xs) ≡ n
shortened n xs h = length-take-le n xs h

length_drawn : (i : ℕ) (bytes : List ℕ) → i < 3 → length bytes ≡ 96 → length (take 32 (drop (32 * i) bytes)) ≡ 32
length_drawn i bytes h e = shortened 32 (drop (32 * i) bytes) (let d = length-drop (32 * i) bytes in omega (arith, d, e, h))

pub length_part : (i : ℕ) (input : List ℕ) → i < 3 → length (take 32 (drop (32 * i) (shake256_96 input))) ≡ 32
unfolding shake256_96
length_part i input h =
    let state : List ℕ = bytes_of (sponge 17 0x1f input) in
    let long = length_state (sponge 17 0x1f input) in
    length_drawn i (take 96 state) h (shortened 96 state (omega (arith, long)))

pub length_scalar : (random : List ℕ) → length (scalar_of random) ≡ 32
unfolding expanded
length_scalar random = length_part 0 _ (omega arith)

-- X25519 in bytes, by the law of the code.
module _ (law : (scalar point : List ℕ) → IsBytes point → x25519 scalar point ≡ bytes_of_number (x25519_number (clamped scalar) (number_of_32 point % 2 ^ 255 % field))) where
  nine : number_of_32 base_point % 2 ^ 255 % field ≡ 9
  unfolding number_of_32 word_at
  nine = refl

  zero_bytes : (n : ℕ) → IsBytes (replicate n 0)
  zero_bytes zero = bytes_none
  zero_bytes (suc n) = bytes_cons 0 (replicate n 0) (omega arith) (zero_bytes n)

  base_bytes : IsBytes base_point
  base_bytes = bytes_cons 9 (replicate 31 0) (omega arith) (zero_bytes 31)

  low : (s : List ℕ) (u : ℕ) → x25519_number s u < field
  unfolding x25519_number times
  low s u = omega arith

  back : (n : ℕ) → n < field → number_of_32 (bytes_of_number n) % 2 ^ 255 % field ≡ n
  back n h = let e = number_back n (omega (arith, h)) in omega (arith, e, h)

  public_is : (b : List ℕ) → x25519 b base_point ≡ bytes_of_number (x25519_number (clamped b) 9)
  public_is b = law b base_point base_bytes ∙ ap (λ (u : ℕ). bytes_of_number (x25519_number (clamped b) u)) nine

  secret_is : (a b : List ℕ) → x25519 a (x25519 b base_point) ≡ bytes_of_number (x25519_number (clamped a) (x25519_number (clamped b) 9))
  secret_is a b =
      law a (x25519 b base_point) (bytes_x25519 b base_point)
      ∙ ap (λ (u : ℕ). bytes_of_number (x25519_number (clamped a) u))
      (ap (λ (xs : List ℕ). number_of_32 xs % 2 ^ 255 % field) (public_is b) ∙ back (x25519_number (clamped b) 9) (low (clamped b) 9))

  pub bytes_agree : (a b : List ℕ) → length a ≡ 32 → length b ≡ 32 → x25519 a (x25519 b base_point) ≡ x25519 b (x25519 a base_point)
  bytes_agree a b ha hb = secret_is a b ∙ ap bytes_of_number (x25519_agrees a b ha hb) ∙ sym (secret_is b a)

  pub meets : (client server : List ℕ) → Meets client server
  unfolding expanded
  meets client server = bytes_agree _ _ (length_part 2 _ (omega arith)) (length_part 2 _ (omega arith))

  zero_number : number_of_32 (replicate 32 0) ≡ 0
  unfolding number_of_32 word_at
  zero_number = refl

  pub secret_some : (a b : List ℕ) → length a ≡ 32 → length b ≡ 32 → bytes_eq (x25519 a (x25519 b base_point)) (replicate 32 0) ≡ false
  secret_some a b ha hb =
      let n : ℕ = x25519_number (clamped a) (x25519_number (clamped b) 9) in
      let small : n < field = low (clamped a) (x25519_number (clamped b) 9) in
      ⊎_elim (λ (e : bytes_eq (x25519 a (x25519 b base_point)) (replicate 32 0) ≡ true).
      let same = (bytes_eq-Decides (x25519 a (x25519 b base_point)) (replicate 32 0)).0 e in
      absurd (x25519_present a b ha hb (sym (number_back n (omega (arith, small))) ∙ ap number_of_32 (sym (secret_is a b) ∙ same) ∙ zero_number)))
      (λ (e : bytes_eq (x25519 a (x25519 b base_point)) (replicate 32 0) ≡ false). e)
      (cases_Bool (bytes_eq (x25519 a (x25519 b base_point)) (replicate 32 0)))

  -- which method it is
  no_other : (kex : List ℕ) → is_curve25519 kex ≡ true → (is_group14 kex ≡ false) × (is_hybrid kex ≡ false)
  unfolding is_curve25519 is_group14 is_hybrid
  no_other kex e =
      ⊎_elim (λ (one : bytes_eq kex (codes "curve25519-sha256") ≡ true). named (codes "curve25519-sha256") ((bytes_eq-Decides kex (codes "curve25519-sha256")).0 one) refl refl)
      (λ (no : bytes_eq kex (codes "curve25519-sha256") ≡ false).
      named (codes "curve25519-sha256@libssh.org") ((bytes_eq-Decides kex (codes "curve25519-sha256@libssh.org")).0 (second _ _ no e)) refl refl)
      (cases_Bool (bytes_eq kex (codes "curve25519-sha256")))
    where
      named : (name : List ℕ) → kex ≡ name → is_group14 name ≡ false → is_hybrid name ≡ false → (is_group14 kex ≡ false) × (is_hybrid kex ≡ false)
      named name same g h = (ap is_group14 same ∙ g, ap is_hybrid same ∙ h)

      second : (b c : Bool) → b ≡ false → (b || c) ≡ true → c ≡ true
      second true c n e = cc
      second false c n e = e

  -- what both sides compute by this method
  shared_by : (kex random peer : List ℕ) → is_curve25519 kex ≡ true → length peer ≡ 32 → bytes_eq (x25519 (scalar_of random) peer) (replicate 32 0) ≡ false
      → shared kex random peer ≡ Some (mpint_body (x25519 (scalar_of random) peer))
  unfolding shared shared_secret
  shared_by kex random peer is long some =
      let others = no_other kex is in
      rw (others.0, others.1, is, eq-eqb (length peer) 32 long, some) refl

  share_by : (kex random : List ℕ) → is_curve25519 kex ≡ true → share kex random ≡ x25519 (scalar_of random) base_point
  unfolding share
  share_by kex random is = let others = no_other kex is in rw (others.0, others.1) refl

  respond_by : (kex random peer body : List ℕ) → is_curve25519 kex ≡ true → shared kex random peer ≡ Some body → respond kex random peer ≡ Some (response_with (share kex random) body)
  unfolding respond
  respond_by kex random peer body is e = let others = no_other kex is in rw (others.1, e) refl

  pub agrees : (kex client server : List ℕ) → is_curve25519 kex ≡ true → Agrees deployed kex client server
  agrees kex client server is =
      let a : List ℕ = scalar_of client in
      let b : List ℕ = scalar_of server in
      let ha = length_scalar client in
      let hb = length_scalar server in
      let body : List ℕ = mpint_body (x25519 b (x25519 a base_point)) in
      let theirs : shared kex server (x25519 a base_point) ≡ Some body = shared_by kex server (x25519 a base_point) is (length_x25519 a base_point) (secret_some b a hb ha) in
      let ours : shared kex client (x25519 b base_point) ≡ Some body =
      shared_by kex client (x25519 b base_point) is (length_x25519 b base_point) (secret_some a b ha hb)
      ∙ ap (λ (xs : List ℕ). Some (mpint_body xs)) (bytes_agree a b ha hb) in
      record {
        answer = response_with (share kex server) body;
        responds = respond_by kex server (share kex client) body is (ap (shared kex server) (share_by kex client is) ∙ theirs);
        same = ap (shared kex client) (share_by kex server is) ∙ ours;
      }
