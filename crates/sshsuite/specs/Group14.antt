-- The method diffie-hellman-group14-sha256 (RFC 4253 section 8, RFC 8268), in numbers.

use Rattle.std.proofs.Common.{ℕ, ◌+◌, ◌-◌, ◌*◌, ◌%◌, ◌^◌, List, [], ◌∷◌, length}
use Rattle.std.specs.Prelude.{◌&&◌, ◌||◌, Bool, false, if◌then◌else◌, nat_le, nat_lt, Option, None, Some}
use Rattle.std.specs.Int.{bytes_high_first}
use Rattle.sshsuite.specs.MpintBody.{mpint_body}
use Rattle.sshcurve.specs.Scalar.{number_in}

-- p, the prime of group 14 (RFC 3526 section 3): 2^2048 - 2^1984 - 1 + 2^64 * ([2^1918 pi] + 124476)
unfoldable pub prime : ℕ
prime = 0xffffffffffffffffc90fdaa22168c234c4c6628b80dc1cd129024e088a67cc74020bbea63b139b22514a08798e3404ddef9519b3cd3a431b302b0a6df25f14374fe1356d6d51c245e485b576625e7ec6f44c42e9a637ed6b0bff5cb6f406b7edee386bfb5a899fa5ae9f24117c4b1fe649286651ece45b3dc2007cb8a163bf0598da48361c55d39a69163fa8fd24cf5f83655d23dca3ad961c62f356208552bb9ed529077096966d670c354e4abc9804f1746c08ca18217c32905e462e36ce3be39e772c180e86039b2783a2ec07a28fb5c55df06f4c52c9de2bcbf6955817183995497cea956ae515d2261898fa051015728e5a8aacaa68ffffffffffffffff

-- g (RFC 3526 section 3)
abbrev pub generator : ℕ
generator = 2

-- the number from 2 to p - 2 (that 1 and p - 1 are refused is profile)
abbrev pub is_within : ℕ → Bool
is_within n = nat_lt 1 n && nat_lt n (prime - 1)

-- the power modulo p, by 32 bytes as a number, the lowest first
unfoldable pub power : ℕ → List ℕ → ℕ
power base exponent = base ^ number_in exponent % prime

-- the number of bytes, the highest first (RFC 4251 section 5)
unfoldable pub number_high : List ℕ → ℕ
number_high [] = 0
number_high (b ∷ bytes) = b * 256 ^ length bytes + number_high bytes

-- the 256 bytes of a number below 2^2048, the highest first (RFC 4251 section 5)
unfoldable pub bytes_high : ℕ → List ℕ
bytes_high n = bytes_high_first 256 n

-- the body of an mpint of a number below 2^2048 (RFC 4251 section 5)
unfoldable pub number_body : ℕ → List ℕ
number_body n = mpint_body (bytes_high n)

-- whether these are the body of an mpint of a positive number, and the shortest (RFC 4251 section 5)
unfoldable pub is_positive_body : List ℕ → Bool
is_positive_body [] = false
is_positive_body (b ∷ []) = nat_lt 0 b && nat_lt b 128
is_positive_body (b ∷ c ∷ bytes) = nat_lt b 128 && (nat_lt 0 b || nat_le 128 c)

-- the number of a peer's share, where it is from 2 to p - 2
unfoldable pub peer_number : List ℕ → Option ℕ
peer_number peer = if is_positive_body peer && is_within (number_high peer) then Some (number_high peer) else None

-- e or f: g to the number of these bytes, modulo p (RFC 4253 section 8)
unfoldable pub group14_share : List ℕ → List ℕ
group14_share random = number_body (power generator random)

-- K, where it is from 2 to p - 2 (profile)
unfoldable pub secret_body : ℕ → Option (List ℕ)
secret_body k = if is_within k then Some (number_body k) else None

-- K of the peer's number: that to the exponent of these bytes, modulo p; none where there is no number (RFC 4253 section 8)
unfoldable pub secret_with : List ℕ → Option ℕ → Option (List ℕ)
secret_with random None = None
secret_with random (Some y) = secret_body (power y random)

-- what both share, by these random bytes and the peer's share
unfoldable pub group14_shared : List ℕ → List ℕ → Option (List ℕ)
group14_shared random peer = secret_with random (peer_number peer)
