-- The reduction undoes a doubling as `shifted` does: both are linear, so it is enough to see it of each power of 2.

use Rattle.std.proofs.Common.{◌≡◌, ℕ, zero, suc, ◌+◌, ◌-◌, ◌*◌, ◌/◌, ◌%◌, ◌^◌, ◌<◌, ◌≤◌, inl, inr, Bool, true, refl, sym, ap, ap₂, ◌∙◌, arith, cond, eqb}
use Rattle.std.proofs.lemmas.Bool.{cases_Bool, eqb-true}
use Rattle.std.proofs.lemmas.Nat.{pow-add, shl_below, xor_mod, xor_shr}
use Rattle.std.specs.Int.Bits.{xor_zero_r}
use Rattle.std.specs.Prelude.{bit_xor}
use Rattle.std.proofs.Math.Nat.{mul_assoc, pow-le-pow_right}
use Rattle.sshsuite.proofs.CarrylessLemmas.{blocks_bound}
use Rattle.sshsuite.proofs.LinearLemmas.{IsLinear, apart, agree, exchanged, lowered, raised, raised_within, same_linear, sum_linear, then_linear}
use Rattle.sshsuite.proofs.TestLemmas.{all_below, at_each}
use Rattle.sshsuite.specs.Carryless.{carryless, carryless_to}
use Rattle.sshsuite.specs.Ghash.{shifted, shifted_by, times, times_to}

-- a product of polynomials, of 255 bits, as a block
unfoldable pub reduced : ℕ → ℕ
reduced z =
    let rest = z * 2 % 2 ^ 128 in
    let folded = bit_xor (bit_xor (bit_xor rest (rest * 2 ^ 127 % 2 ^ 128)) (rest * 2 ^ 126 % 2 ^ 128)) (rest * 2 ^ 121 % 2 ^ 128) in
    bit_xor (bit_xor (bit_xor (bit_xor (z / 2 ^ 127) folded) (folded / 2 ^ 1)) (folded / 2 ^ 2)) (folded / 2 ^ 7)

folded : ℕ → ℕ
folded rest = bit_xor (bit_xor (bit_xor rest (rest * 2 ^ 127 % 2 ^ 128)) (rest * 2 ^ 126 % 2 ^ 128)) (rest * 2 ^ 121 % 2 ^ 128)

folded_linear : IsLinear folded
unfolding folded
folded_linear =
    sum_linear (λ r. bit_xor (bit_xor r (r * 2 ^ 127 % 2 ^ 128)) (r * 2 ^ 126 % 2 ^ 128)) (λ r. r * 2 ^ 121 % 2 ^ 128)
    (sum_linear (λ r. bit_xor r (r * 2 ^ 127 % 2 ^ 128)) (λ r. r * 2 ^ 126 % 2 ^ 128)
    (sum_linear (λ r. r) (λ r. r * 2 ^ 127 % 2 ^ 128) same_linear (raised_within 127)) (raised_within 126)) (raised_within 121)

spread : ℕ → ℕ
spread z = folded (z * 2 ^ 1 % 2 ^ 128)

spread_linear : IsLinear spread
unfolding spread
spread_linear = then_linear (λ z. z * 2 ^ 1 % 2 ^ 128) folded (raised_within 1) folded_linear

reduced_linear : IsLinear reduced
unfolding reduced folded spread
reduced_linear =
    sum_linear (λ z. bit_xor (bit_xor (bit_xor (z / 2 ^ 127) (spread z)) (spread z / 2 ^ 1)) (spread z / 2 ^ 2)) (λ z. spread z / 2 ^ 7)
    (sum_linear (λ z. bit_xor (bit_xor (z / 2 ^ 127) (spread z)) (spread z / 2 ^ 1)) (λ z. spread z / 2 ^ 2)
    (sum_linear (λ z. bit_xor (z / 2 ^ 127) (spread z)) (λ z. spread z / 2 ^ 1)
    (sum_linear (λ z. z / 2 ^ 127) spread (lowered 127) spread_linear)
    (then_linear spread (λ a. a / 2 ^ 1) spread_linear (lowered 1)))
    (then_linear spread (λ a. a / 2 ^ 2) spread_linear (lowered 2)))
    (then_linear spread (λ a. a / 2 ^ 7) spread_linear (lowered 7))

halves : ℕ → Bool
halves k = eqb (reduced (2 ^ k)) (shifted (reduced (2 ^ k * 2 ^ 1)))

all_halve : all_below 254 halves ≡ true
unfolding halves reduced shifted
all_halve = refl

-- what comes back
given_back : ℕ → ℕ
given_back t = cond (eqb t 1) (0xe1 * 2 ^ 120) 0

back_linear : (s t : ℕ) → s < 2 → t < 2 → given_back (bit_xor s t) ≡ bit_xor (given_back s) (given_back t)
unfolding given_back
back_linear zero zero h k = refl
back_linear zero (suc zero) h k = refl
back_linear (suc zero) zero h k = refl
back_linear (suc zero) (suc zero) h k = refl
back_linear (suc (suc s)) t h k = absurd (omega arith)
back_linear s (suc (suc t)) h k = absurd (omega arith)

shifted_is : (v : ℕ) → shifted v ≡ bit_xor (v / 2 ^ 1) (given_back (v % 2))
unfolding shifted given_back
shifted_is v = elim (cases_Bool (eqb (v % 2) 1)) [ inl e ↦ rw e refl | inr e ↦ rw e (sym (xor_zero_r (v / 2 ^ 1))) ]

shifted_linear : IsLinear shifted
shifted_linear a b =
    shifted_is (bit_xor a b)
    ∙ (ap₂ bit_xor (xor_shr a b 1) (ap given_back (xor_mod a b 1) ∙ back_linear (a % 2) (b % 2) (omega arith) (omega arith))
    ∙ (exchanged (a / 2 ^ 1) (b / 2 ^ 1) (given_back (a % 2)) (given_back (b % 2)) ∙ sym (ap₂ bit_xor (shifted_is a) (shifted_is b))))

at_zero : reduced 0 ≡ shifted (reduced (0 * 2 ^ 1))
unfolding reduced shifted
at_zero = refl

pub halved : (z : ℕ) → z < 2 ^ 254 → reduced z ≡ shifted (reduced (z * 2 ^ 1))
unfolding halves
halved z h =
    agree reduced (λ a. shifted (reduced (a * 2 ^ 1))) 254 reduced_linear
    (then_linear (λ a. reduced (a * 2 ^ 1)) shifted (then_linear (λ a. a * 2 ^ 1) reduced (raised 1) reduced_linear) shifted_linear)
    at_zero (λ k l. eqb-true (reduced (2 ^ k)) (shifted (reduced (2 ^ k * 2 ^ 1))) (at_each 254 halves all_halve k l)) z h

whole : (y : ℕ) → y < 2 ^ 128 → reduced (y * 2 ^ 127) ≡ y
unfolding reduced
whole y h =
    let none : y * 2 ^ 127 * 2 % 2 ^ 128 ≡ 0 = omega arith in
    let top : y * 2 ^ 127 / 2 ^ 127 ≡ y = omega arith in
    rw none (rw top (simp xor_zero_r refl))

below_top : (y n : ℕ) → y < 2 ^ 128 → n < 127 → y * 2 ^ (126 - n) < 2 ^ 254
below_top y n h l =
    let bound = shl_below y 128 (126 - n) h in
    let one : 1 ≤ 2 = omega arith in
    let less : 128 + (126 - n) ≤ 254 = omega arith in
    let top : 2 ^ (128 + (126 - n)) ≤ 2 ^ 254 = pow-le-pow_right one less in omega (arith, bound, top)

once_more : (y n : ℕ) → n < 127 → y * 2 ^ (126 - n) * 2 ^ 1 ≡ y * 2 ^ (127 - n)
once_more y n l =
    let e : 127 - n ≡ suc (126 - n) = omega arith in
    sym (ap (λ (k : ℕ). y * 2 ^ k) e ∙ twice y (126 - n))
  where
    twice : (y k : ℕ) → y * 2 ^ suc k ≡ y * 2 ^ k * 2 ^ 1
    twice y k = ap (λ (p : ℕ). y * p) (ap (λ (m : ℕ). 2 ^ m) (let e : suc k ≡ k + 1 = omega arith in e)) ∙ (ap (λ (p : ℕ). y * p) (pow-add 2 k 1) ∙ sym (mul_assoc y (2 ^ k) (2 ^ 1)))

powers_are : (y n : ℕ) → y < 2 ^ 128 → n < 128 → shifted_by y n ≡ reduced (y * 2 ^ (127 - n))
unfolding shifted_by
powers_are y zero h l = sym (whole y h)
powers_are y (suc n) h l =
    let at : 127 - suc n ≡ 126 - n = omega arith in
    ap shifted (powers_are y n h (omega arith) ∙ sym (ap reduced (once_more y n (omega arith))))
    ∙ (sym (halved (y * 2 ^ (126 - n)) (below_top y n h (omega arith))) ∙ ap (λ (k : ℕ). reduced (y * 2 ^ k)) (sym at))

reduced_none : reduced 0 ≡ 0
unfolding reduced
reduced_none = refl

by_bit : (t s p y : ℕ) → t < 2 → cond (eqb t 1) (bit_xor (reduced s) (reduced p)) (reduced s) ≡ reduced (bit_xor s (t * p))
by_bit zero s p y h = let z : 0 * p ≡ 0 = omega arith in sym (ap (λ (x : ℕ). reduced (bit_xor s x)) z ∙ ap reduced (xor_zero_r s))
by_bit (suc zero) s p y h = let z : 1 * p ≡ p = omega arith in sym (ap (λ (x : ℕ). reduced (bit_xor s x)) z ∙ reduced_linear s p)
by_bit (suc (suc t)) s p y h = absurd (omega arith)

-- the product of blocks is the reduced product of polynomials
pub times_are : (x y n : ℕ) → y < 2 ^ 128 → n ≤ 128 → times_to x y n ≡ reduced (carryless_to x y n)
unfolding times_to carryless_to
times_are x y zero h l = sym reduced_none
times_are x y (suc n) h l =
    let before = times_are x y n h (omega arith) in
    let power = powers_are y n h (omega arith) in
    ap₂ (λ (a b : ℕ). cond (eqb (x / 2 ^ (127 - n) % 2) 1) (bit_xor a b) a) before power
    ∙ by_bit (x / 2 ^ (127 - n) % 2) (carryless_to x y n) (y * 2 ^ (127 - n)) y (omega arith)

-- what two halves of a product reduce to, as the code has it
abbrev pub of_halves : ℕ → ℕ → ℕ
of_halves high low =
    let above = bit_xor (high * 2 ^ 1 % 2 ^ 128) (low / 2 ^ 127) in
    let below = low * 2 ^ 1 % 2 ^ 128 in
    let folded = bit_xor (bit_xor (bit_xor below (below * 2 ^ 127 % 2 ^ 128)) (below * 2 ^ 126 % 2 ^ 128)) (below * 2 ^ 121 % 2 ^ 128) in
    bit_xor (bit_xor (bit_xor (bit_xor above folded) (folded / 2 ^ 1)) (folded / 2 ^ 2)) (folded / 2 ^ 7)

halves_reduce : (z : ℕ) → z < 2 ^ 255 → of_halves (z / 2 ^ 128) (z % 2 ^ 128) ≡ reduced z
unfolding reduced folded
halves_reduce z h =
    let below : z % 2 ^ 128 * 2 ^ 1 % 2 ^ 128 ≡ z * 2 % 2 ^ 128 = omega arith in
    let kept : z / 2 ^ 128 * 2 ^ 1 % 2 ^ 128 ≡ z / 2 ^ 128 * 2 ^ 1 = omega (arith, h) in
    let sum : z / 2 ^ 128 * 2 ^ 1 + z % 2 ^ 128 / 2 ^ 127 ≡ z / 2 ^ 127 = omega arith in
    let above : bit_xor (z / 2 ^ 128 * 2 ^ 1 % 2 ^ 128) (z % 2 ^ 128 / 2 ^ 127) ≡ z / 2 ^ 127 =
    ap (λ (n : ℕ). bit_xor n (z % 2 ^ 128 / 2 ^ 127)) kept ∙ (apart 1 (z / 2 ^ 128) (z % 2 ^ 128 / 2 ^ 127) (omega arith) ∙ sum) in
    ap₂ (λ (top rest : ℕ). bit_xor (bit_xor (bit_xor (bit_xor top (folded rest)) (folded rest / 2 ^ 1)) (folded rest / 2 ^ 2)) (folded rest / 2 ^ 7)) above below

-- so is the product of two blocks
pub halves_are : (x y : ℕ) → y < 2 ^ 128 → times x y ≡ of_halves (carryless x y / 2 ^ 128) (carryless x y % 2 ^ 128)
unfolding times carryless
halves_are x y h = times_are x y 128 h (omega arith) ∙ sym (halves_reduce (carryless x y) (blocks_bound x y h))
