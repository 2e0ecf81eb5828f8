-- Scalars of Ed25519: numbers modulo the order L of the base point (RFC 8032 section 5.1).

use Rattle.std.specs.Prelude.{ℕ, zero, suc, ◌+◌, ◌-◌, ◌*◌, ◌/◌, ◌%◌, ◌^◌, List, ◌++◌, length}
use Rattle.std.specs.Int.{w128, to_le_bytes}
use Rattle.sshcurve.specs.Bits.{bit_at}

-- L, the order of the base point: 2^252 + 27742317777372353535851937790883648493 (RFC 8032 section 5.1)
abbrev pub order : ℕ
order = 7237005577332262213973186563042994240857116359379907606001950938285454250989

-- the number of the n highest bits of these bytes, which are little-endian
unfoldable pub number_to : List ℕ → ℕ → ℕ
number_to bytes zero = 0
number_to bytes (suc n) = 2 * number_to bytes n + bit_at bytes (8 * length bytes - 1 - n)

-- the number of these bytes, little-endian, as of the 64 bytes of a hash (RFC 8032 section 5.1.6)
unfoldable pub number_in : List ℕ → ℕ
number_in bytes = number_to bytes (8 * length bytes)

-- the 32 bytes of two halves of 128 bits, little-endian
unfoldable pub bytes_of_halves : ℕ → ℕ → List ℕ
bytes_of_halves low high = to_le_bytes w128 low ++ to_le_bytes w128 high

-- the 32 bytes of a scalar, little-endian (RFC 8032 section 5.1.6)
unfoldable pub encode_scalar : ℕ → List ℕ
encode_scalar n = bytes_of_halves (n % 2 ^ 128) (n / 2 ^ 128)
