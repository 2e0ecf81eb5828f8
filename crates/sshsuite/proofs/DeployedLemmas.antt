-- The suite answers in these words.

use Rattle.std.proofs.Common.{◌≡◌, ℕ, ◌%◌, ◌^◌, ◌<◌, Bool, List, refl, ap, ◌∙◌, arith, cond, eqb}
use Rattle.std.specs.Prelude.{◌&&◌, length, Option, None, Some, replicate}
use Rattle.std.specs.Str.{bytes_eq}
use Rattle.sshwire.specs.ByteLaws.{bytes_cons}
use Rattle.sshwire.specs.Types.{IsBytes}
use Rattle.sshcurve.specs.Bits.{number_of_32, word_at}
use Rattle.sshsuite.specs.Curve25519.{base_point}
use Rattle.sshcurve.specs.X25519Numbers.{clamped, x25519_number}
use Rattle.sshsuite.specs.Deployed.{exponent_of, is_curve25519, is_group14, is_hybrid, scalar_of, share, shared, shared_secret}
use Rattle.sshsuite.specs.Group14.{group14_share, group14_shared}
use Rattle.sshsuite.specs.Hybrid.{hybrid_share, hybrid_shared}
use Rattle.sshsuite.specs.MpintBody.{mpint_body}
use Rattle.sshsuite.proofs.DecodingLemmas.{same_number, zeros}
use Rattle.sshsuite.proofs.WordLemmas.{are_words, zero_bytes}
use Rattle.sshsuite.proofs.X25519Lemmas.{x25519_is}
use Rattle.sshsuite.specs.DeployedNumbers.{share_bytes, shared_body}
use Rattle.sshcurve.specs.FieldBytes.{bytes_of_number}
use Rattle.sshcurve.specs.FieldNumbers.{times, field}

nine : number_of_32 base_point % 2 ^ 255 % field ≡ 9
unfolding number_of_32 word_at
nine = refl

base_bytes : IsBytes base_point
base_bytes = bytes_cons 9 (replicate 31 0) (omega arith) (zero_bytes 31)

pub share_is : (kex random : List ℕ) → share kex random ≡ share_bytes kex random
unfolding share share_bytes
share_is kex random =
    ap (λ (xs : List ℕ). cond (is_group14 kex) (group14_share (exponent_of random)) (cond (is_hybrid kex) (hybrid_share random) xs)) (
    x25519_is (scalar_of random) base_point (are_words base_point base_bytes) ∙ ap (λ (u : ℕ). bytes_of_number (x25519_number (clamped (scalar_of random)) u)) nine)

below_field : (random : List ℕ) (u : ℕ) → x25519_number random u < 2 ^ 256
unfolding x25519_number times
below_field random u = omega arith

body_is : (n : ℕ) → n < 2 ^ 256 → shared_secret (bytes_of_number n) ≡ cond (eqb n 0) None (Some (mpint_body (bytes_of_number n)))
unfolding shared_secret
body_is n h =
    ap (λ (b : Bool). cond b None (Some (mpint_body (bytes_of_number n))))
    (ap (bytes_eq (bytes_of_number n)) zeros ∙ same_number n 0 h (omega arith))

pub shared_is : (kex random peer : List ℕ) → IsBytes peer → shared kex random peer ≡ shared_body kex random peer
unfolding shared shared_body
shared_is kex random peer h =
    let u : ℕ = number_of_32 peer % 2 ^ 255 % field in
    ap (λ (o : Option (List ℕ)). cond (is_group14 kex) (group14_shared (exponent_of random) peer) (cond (is_hybrid kex) (hybrid_shared random peer) (cond (is_curve25519 kex && eqb (length peer) 32) o None)))
    (ap shared_secret (x25519_is (scalar_of random) peer (are_words peer h)) ∙ body_is (x25519_number (clamped (scalar_of random)) u) (below_field (clamped (scalar_of random)) u))
