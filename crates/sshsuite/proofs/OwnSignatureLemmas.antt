-- What is signed by ssh-ed25519 is verified.

use Rattle.std.proofs.Common.{◌≡◌, ◌≢◌, ℕ, ◌+◌, ◌*◌, ◌%◌, Bool, true, false, cond, eqb, List, [], length, drop, refl, ap, ap₂, ◌∙◌, arith, ⊎_elim, slice_index, slice_set, get_or-set_same, get_or-set_other, length-append, eq-eqb}
use Rattle.std.proofs.lemmas.Bool.{and_parts, cases_eq}
use Rattle.std.proofs.lemmas.Slice.Eq.{bytes_eq-Decides}
use Rattle.std.specs.Prelude.{◌&&◌}
use Rattle.std.specs.Str.{bytes_eq}
use Rattle.sshwire.specs.Types.{IsBytes, string}
use Rattle.sshpacket.specs.KeysElsewhere.{public_part}
use Rattle.sshpacket.specs.Suite.{Signs}
use Rattle.sshsuite.specs.CurveBytes.{bytes_bytes_of}
use Rattle.sshsuite.specs.Deployed.{deployed, ed25519, is_ed25519, is_held, is_verified, verify, wrapped}
use Rattle.sshcurve.specs.Ed25519Numbers.{hash_of, prefix_of, secret_scalar, is_signed, key_of, signed, times_base}
use Rattle.sshsuite.specs.Ed25519.{is_signature, public_key, signature}
use Rattle.sshcurve.specs.EdwardsNumbers.{with_sign}
use Rattle.sshcurve.specs.FieldBytes.{bytes_of_number}
use Rattle.sshsuite.specs.Rsa.{is_rsa, is_rsa_256, is_rsa_512}
use Rattle.sshcurve.specs.Scalar.{encode_scalar, number_in, order}
use Rattle.sshcurve.proofs.DecodingLemmas.{length_bytes}
use Rattle.sshcurve.proofs.SignatureLemmas.{length_scalar as scalar_long, length_secret, length_sign, length_times_base, signature_verifies, times_base_is}

-- Ed25519, by the law of the code.
module _ (key_law : (private_key : List ℕ) → public_key private_key ≡ key_of private_key)
    (signed_law : (private_key input : List ℕ) → signature private_key input ≡ signed private_key input)
    (verified_law : (key input found : List ℕ) → IsBytes key → is_signature key input found ≡ is_signed key input found) where
  number_bytes : (n : ℕ) → IsBytes (bytes_of_number n)
  unfolding bytes_of_number
  number_bytes n = bytes_bytes_of _

  sign_bytes : (x y : ℕ) → IsBytes (with_sign (bytes_of_number x) (bytes_of_number y))
  unfolding with_sign
  sign_bytes x y i =
      let v : ℕ = slice_index (bytes_of_number y) 31 % 128 + slice_index (bytes_of_number x) 0 % 2 * 128 in
      ⊎_elim (λ (e : i ≡ 31).
      let long = length_bytes y in
      let own = ap (slice_index (slice_set (bytes_of_number y) 31 v)) e ∙ get_or-set_same (bytes_of_number y) 31 v 0 (omega (arith, long)) in omega (arith, own))
      (λ (ne : i ≢ 31). let same = get_or-set_other (bytes_of_number y) 31 i v 0 ne in omega (arith, same, number_bytes y i)) (cases_eq i 31)

  key_bytes : (secret : List ℕ) → IsBytes (public_key secret)
  unfolding key_of
  key_bytes secret = by_same (public_key secret) _ (key_law secret ∙ times_base_is (secret_scalar secret) (length_secret secret)) (sign_bytes _ _)
    where
      by_same : (xs ys : List ℕ) → xs ≡ ys → IsBytes ys → IsBytes xs
      by_same xs ys e h = rw e h

  pub own_signature : (secret input : List ℕ) → is_signature (public_key secret) input (signature secret input) ≡ true
  own_signature secret input =
      verified_law (public_key secret) input (signature secret input) (key_bytes secret)
      ∙ ap₂ (λ (k s : List ℕ). is_signed k input s) (key_law secret) (signed_law secret input) ∙ signature_verifies secret input

  -- a signature and a key, each behind the name of the algorithm
  drop_wrapped : (xs : List ℕ) → drop 19 (wrapped xs) ≡ xs
  unfolding wrapped
  drop_wrapped xs = refl

  length_wrapped : (xs : List ℕ) → length (wrapped xs) ≡ 19 + length xs
  unfolding wrapped
  length_wrapped xs = let both = length-append (string ed25519) (string xs) in omega (arith, both)

  length_key : (secret : List ℕ) → length (public_key secret) ≡ 32
  unfolding key_of
  length_key secret = ap length (key_law secret ∙ times_base_is (secret_scalar secret) (length_secret secret)) ∙ length_sign _ _

  length_signature : (secret input : List ℕ) → length (signature secret input) ≡ 64
  unfolding signed
  length_signature secret input =
      ap length (signed_law secret input) ∙ length-append (times_base (encode_scalar (number_in (hash_of (prefix_of secret) input []) % order))) _
      ∙ ap₂ ◌+◌ (length_times_base (encode_scalar (number_in (hash_of (prefix_of secret) input []) % order)) (scalar_long _)) (scalar_long _)

  verified : (key input found : List ℕ) → is_signature key input found ≡ true → is_verified (wrapped key) input (wrapped found) ≡ true
  unfolding is_verified
  verified key input found e =
      ap₂ (λ (k f : List ℕ). bytes_eq (wrapped k) (wrapped key) && (bytes_eq (wrapped f) (wrapped found) && is_signature k input f)) (drop_wrapped key) (drop_wrapped found)
      ∙ ap₂ (λ (a b : Bool). a && (b && is_signature key input found)) ((bytes_eq-Decides (wrapped key) (wrapped key)).1 refl) ((bytes_eq-Decides (wrapped found) (wrapped found)).1 refl) ∙ e

  no_rsa : (alg : List ℕ) → is_ed25519 alg ≡ true → is_rsa alg ≡ false
  unfolding is_ed25519 is_rsa is_rsa_256 is_rsa_512
  no_rsa alg e = ap is_rsa ((bytes_eq-Decides alg ed25519).0 e)

  verify_by : (alg blob input found : List ℕ) → is_ed25519 alg ≡ true → length blob ≡ 51 → length found ≡ 83 → is_verified blob input found ≡ true → verify alg blob input found ≡ true
  unfolding verify
  verify_by alg blob input found e h k v = rw (no_rsa alg e, e, eq-eqb (length blob) 51 h, eq-eqb (length found) 83 k, v) refl

  pub signs : (alg secret : List ℕ) → deployed.holds alg secret ≡ true → Signs deployed alg secret
  unfolding is_held
  signs alg secret held input =
      let is_name = (and_parts (is_ed25519 alg) (eqb (length secret) 32) held).0 in
      let key : List ℕ = public_key secret in
      let found : List ℕ = signature secret input in
      let key_long = length_wrapped key in
      let found_long = length_wrapped found in
      let key_own = length_key secret in
      let found_own = length_signature secret input in
      ap (λ (b : Bool). verify alg (cond b (wrapped key) (public_part secret)) input (wrapped found)) held
      ∙ verify_by alg (wrapped key) input (wrapped found) is_name (omega (arith, key_long, key_own)) (omega (arith, found_long, found_own)) (verified key input found (own_signature secret input))
