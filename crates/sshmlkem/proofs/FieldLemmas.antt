-- Bounds of products.

use Rattle.std.proofs.Common.{ℕ, ◌*◌, ◌%◌, ◌^◌, ◌<◌, ◌≤◌, arith}
use Rattle.std.proofs.lemmas.Nat.{mul-le}

pub product_below : (a b : ℕ) → a < 2 ^ 16 → a * (b % 4096) < 2 ^ 28
product_below a b h =
    let most : a * (b % 4096) ≤ 65535 * 4095 = mul-le a (b % 4096) 65535 4095 (omega (arith, h)) (omega arith) in
    omega (arith, most)
