-- What the suite answers, in the words of RFC 8731 and of RFC 4253 section 8.

use Rattle.std.proofs.Common.{ℕ, ◌%◌, ◌^◌, List}
use Rattle.std.specs.Prelude.{◌==◌, ◌&&◌, if◌then◌else◌, length, Option, None, Some}
use Rattle.sshcurve.specs.Bits.{number_of_32}
use Rattle.sshcurve.specs.X25519Numbers.{clamped, x25519_number}
use Rattle.sshsuite.specs.Deployed.{exponent_of, is_curve25519, is_group14, is_hybrid, scalar_of}
use Rattle.sshsuite.specs.Group14.{group14_share, group14_shared}
use Rattle.sshsuite.specs.Hybrid.{hybrid_share, hybrid_shared}
use Rattle.sshsuite.specs.MpintBody.{mpint_body}
use Rattle.sshcurve.specs.FieldBytes.{bytes_of_number}
use Rattle.sshcurve.specs.FieldNumbers.{field}

-- the scalar that is drawn of 32 random bytes, times the base point, whose u is 9; by diffie-hellman-group14-sha256 g to the number that is
-- drawn, modulo p (RFC 7748 section 6.1, RFC 4253 section 8, draft-ietf-sshm-mlkem-hybrid-kex)
unfoldable pub share_bytes : List ℕ → List ℕ → List ℕ
share_bytes kex random = if is_group14 kex then group14_share (exponent_of random) else if is_hybrid kex then hybrid_share random else bytes_of_number (x25519_number (clamped (scalar_of random)) 9)

-- the number that both sides share: none of a method that isn't known, of a share that hasn't 32 bytes, and where it is zero
unfoldable pub shared_body : List ℕ → List ℕ → List ℕ → Option (List ℕ)
shared_body kex random peer =
    if is_group14 kex then group14_shared (exponent_of random) peer
    else if is_hybrid kex then hybrid_shared random peer
    else if is_curve25519 kex && (length peer == 32) then (
    let n = x25519_number (clamped (scalar_of random)) (number_of_32 peer % 2 ^ 255 % field) in
    if n == 0 then None else Some (mpint_body (bytes_of_number n))
    )
    else None
