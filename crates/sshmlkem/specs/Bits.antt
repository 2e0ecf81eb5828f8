-- Numbers of d bits as bytes, bit by bit (FIPS 203 section 4.2.1, algorithms 3 to 6).

use Rattle.std.specs.Prelude.{ℕ, zero, suc, ◌+◌, ◌*◌, ◌/◌, ◌%◌, ◌^◌, List, map, slice_index}
use Rattle.std.specs.List.{range_with_len}

-- f 0, f 1 and on, n of them
unfoldable pub each : ℕ → (ℕ → ℕ) → List ℕ
each n f = map f (range_with_len 0 n)

-- bit n of numbers that have d bits each, of which the lowest comes first (algorithm 4, where d is 8; algorithm 5, line 4)
unfoldable pub bit_of : ℕ → List ℕ → ℕ → ℕ
bit_of d numbers n = slice_index numbers (n / d) / 2 ^ (n % d) % 2

-- the number of so many of these bits, from bit n on, of which the lowest comes first (algorithm 3, line 3; algorithm 6, line 3)
unfoldable pub number_at : ℕ → List ℕ → ℕ → ℕ → ℕ
number_at d numbers n zero = 0
number_at d numbers n (suc len) = number_at d numbers n len + bit_of d numbers (n + len) * 2 ^ len

-- the bits of numbers of v bits each as m numbers of w bits each
unfoldable pub regrouped : ℕ → ℕ → ℕ → List ℕ → List ℕ
regrouped v w m numbers = each m (λ k. number_at v numbers (w * k) w)

-- ByteEncode_d: 256 numbers of d bits as 32 d bytes (algorithm 5)
unfoldable pub byte_encode : ℕ → List ℕ → List ℕ
byte_encode d numbers = regrouped d 8 (32 * d) numbers

-- ByteDecode_d: 256 numbers of d bits out of 32 d bytes (algorithm 6, whose numbers of 12 bits are then taken modulo q)
unfoldable pub byte_decode : ℕ → List ℕ → List ℕ
byte_decode d bytes = regrouped 8 d 256 bytes
