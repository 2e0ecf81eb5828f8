-- Public keys, as peers send them.

use Rattle.std.specs.Prelude.{ℕ, ◌==◌, ◌&&◌, ◌||◌, Bool, false, not, List, codes, length, Result, Ok, Err}
use Rattle.std.specs.Str.{bytes_eq}
use Rattle.sshwire.specs.declared.fault.WireFault.{WireFault}
use Rattle.sshwire.specs.TypeReadings.{◌>>=◌, is_name, string_at}

-- a key of ssh-ed25519: its name and 32 bytes, each as a string, and nothing after (RFC 8709 section 4)
unfoldable pub is_ed25519_key : List ℕ → Result Bool WireFault
is_ed25519_key bytes = do
  name ← string_at bytes
  key ← string_at name.1
  Ok (bytes_eq name.0 (codes "ssh-ed25519") && (length key.0 == 32 && length key.1 == 0))

-- a security key by ECDSA: its name, the curve, the point and the application, and nothing after (OpenSSH PROTOCOL.u2f)
unfoldable pub is_token_key : List ℕ → Result Bool WireFault
is_token_key bytes = do
  name ← string_at bytes
  curve ← string_at name.1
  point ← string_at curve.1
  application ← string_at point.1
  Ok (bytes_eq name.0 (codes "sk-ecdsa-sha2-nistp256@openssh.com") && length application.1 == 0)

-- a key of another kind: a name and two strings, and nothing after (RFC 4253 section 6.6, RFC 5656 section 3.1); private keys have more
unfoldable pub is_other_key : List ℕ → Result Bool WireFault
is_other_key bytes = do
  name ← string_at bytes
  first ← string_at name.1
  second ← string_at first.1
  Ok (is_name name.0 && (not (bytes_eq name.0 (codes "ssh-ed25519")) && length second.1 == 0))

-- the bytes were read to their end and have this form; what is refused has it not
abbrev pub is_found : Result Bool WireFault → Bool
is_found (Ok found) = found
is_found (Err fault) = false

-- The bytes have the form of a public key: of `ssh-ed25519` (RFC 8709 section 4), of a security key by ECDSA, or of another kind (RFC 4253
-- section 6.6).
abbrev pub is_public_key : List ℕ → Bool
is_public_key bytes = is_found (is_ed25519_key bytes) || is_found (is_token_key bytes) || is_found (is_other_key bytes)
