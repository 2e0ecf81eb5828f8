-- Arithmetic modulo the prime p = 2^255 - 19 (RFC 7748 section 4.1, RFC 8032 section 5.1).

use Rattle.std.proofs.Common.{ℕ, ◌+◌, ◌-◌, ◌*◌, ◌%◌, ◌^◌}

-- the prime p, 2^255 - 19 (RFC 7748 section 4.1)
abbrev pub field : ℕ
field = 57896044618658097711785492504343953926634992332820282019728792003956564819949

-- x + y modulo p (RFC 8032 section 5.1.1)
unfoldable pub plus : ℕ → ℕ → ℕ
plus x y = (x + y) % field

-- x - y modulo p, for y up to p (RFC 8032 section 5.1.1)
unfoldable pub minus : ℕ → ℕ → ℕ
minus x y = (x + field - y) % field

-- x y modulo p (RFC 8032 section 5.1.1)
unfoldable pub times : ℕ → ℕ → ℕ
times x y = x * y % field

-- x^e modulo p (RFC 8032 section 5.1.1)
unfoldable pub power : ℕ → ℕ → ℕ
power x e = x ^ e % field

-- 1 / x modulo p, by x^(p - 2); it is 0 for 0 (RFC 7748 section 5, RFC 8032 section 5.1.1)
unfoldable pub reciprocal : ℕ → ℕ
reciprocal x = power x (field - 2)
