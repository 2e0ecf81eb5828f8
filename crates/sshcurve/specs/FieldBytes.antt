-- Numbers modulo 2^255 - 19 as bytes (RFC 7748 section 5).

use Rattle.std.proofs.Common.{ℕ, ◌/◌, ◌%◌, ◌^◌, List, [], ◌∷◌}
use Rattle.sshcurve.specs.Bits.{bytes_of_words}

-- the 32 bytes of a number below 2^256, little-endian (RFC 7748 section 5, RFC 8032 section 5.1.2)
unfoldable pub bytes_of_number : ℕ → List ℕ
bytes_of_number n = bytes_of_words (n % 2 ^ 64 ∷ n / 2 ^ 64 % 2 ^ 64 ∷ n / 2 ^ 128 % 2 ^ 64 ∷ n / 2 ^ 192 ∷ [])
