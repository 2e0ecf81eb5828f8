-- Three products of words are the product of two blocks.

use Rattle.std.proofs.Common.{◌≡◌, ℕ, ◌*◌, ◌/◌, ◌%◌, ◌^◌, ◌<◌, sym, ap, ap₂, ◌∙◌, arith}
use Rattle.std.proofs.lemmas.Nat.{mod_below, pow_pos, shr_split, xor_comm, xor_mod, xor_shr}
use Rattle.std.specs.Int.Bits.{xor_assoc, xor_zero_l, xor_zero_r}
use Rattle.std.specs.Prelude.{bit_xor}
use Rattle.sshsuite.proofs.CarrylessLemmas.{first_linear, first_raised, second_linear, second_raised, words_bound}
use Rattle.sshsuite.proofs.LinearLemmas.{apart, exchanged, raised}
use Rattle.sshsuite.specs.Carryless.{carryless}
use Rattle.sshwire.specs.Masks.{xor_twice}

of_words : (x : ℕ) → x ≡ bit_xor (x / 2 ^ 64 * 2 ^ 64) (x % 2 ^ 64)
of_words x = sym (apart 64 (x / 2 ^ 64) (x % 2 ^ 64) (mod_below x (2 ^ 64) (pow_pos 64)) ∙ shr_split x 64)

-- of four products, two and the product of the sums leave the sum of the other two
left : (l a b h : ℕ) → bit_xor (bit_xor (bit_xor (bit_xor l a) (bit_xor b h)) l) h ≡ bit_xor b a
left l a b h =
    xor_assoc (bit_xor (bit_xor l a) (bit_xor b h)) l h
    ∙ (exchanged (bit_xor l a) (bit_xor b h) l h
    ∙ (ap₂ bit_xor (ap (λ (n : ℕ). bit_xor n l) (xor_comm l a) ∙ xor_twice a l) (xor_twice b h) ∙ xor_comm a b))

middle : (a0 a1 b0 b1 : ℕ)
    → bit_xor (bit_xor (carryless (bit_xor a0 a1) (bit_xor b0 b1)) (carryless a0 b0)) (carryless a1 b1) ≡ bit_xor (carryless a1 b0) (carryless a0 b1)
middle a0 a1 b0 b1 =
    ap (λ (n : ℕ). bit_xor (bit_xor n (carryless a0 b0)) (carryless a1 b1))
    (first_linear (bit_xor b0 b1) a0 a1 ∙ ap₂ bit_xor (second_linear a0 b0 b1) (second_linear a1 b0 b1))
    ∙ left (carryless a0 b0) (carryless a0 b1) (carryless a1 b0) (carryless a1 b1)

with_block : (a y : ℕ) → a < 2 ^ 128 → carryless a y ≡ bit_xor (carryless a (y / 2 ^ 64) * 2 ^ 64) (carryless a (y % 2 ^ 64))
with_block a y h =
    ap (carryless a) (of_words y)
    ∙ (second_linear a (y / 2 ^ 64 * 2 ^ 64) (y % 2 ^ 64) ∙ ap (λ (n : ℕ). bit_xor n (carryless a (y % 2 ^ 64))) (second_raised 64 a (y / 2 ^ 64) h))

-- the product of the sums of both halves, less those of the halves
abbrev pub middle_of : ℕ → ℕ → ℕ
middle_of x y =
    bit_xor (bit_xor (carryless (bit_xor (x % 2 ^ 64) (x / 2 ^ 64)) (bit_xor (y % 2 ^ 64) (y / 2 ^ 64))) (carryless (x % 2 ^ 64) (y % 2 ^ 64))) (carryless (x / 2 ^ 64) (y / 2 ^ 64))

-- the product of two blocks, by those of their halves
of_products : ℕ → ℕ → ℕ → ℕ
of_products low high both = bit_xor (bit_xor (high * 2 ^ 128) (both * 2 ^ 64)) low

by_words : (x y : ℕ) → x < 2 ^ 128 → y < 2 ^ 128
    → carryless x y ≡ of_products (carryless (x % 2 ^ 64) (y % 2 ^ 64)) (carryless (x / 2 ^ 64) (y / 2 ^ 64)) (middle_of x y)
unfolding of_products
by_words x y h l =
    ap (λ (n : ℕ). carryless n y) (of_words x)
    ∙ (first_linear y (x / 2 ^ 64 * 2 ^ 64) (x % 2 ^ 64)
    ∙ (ap₂ bit_xor
    (first_raised 64 64 (x / 2 ^ 64) y (omega arith) (omega arith) ∙ ap (λ (n : ℕ). n * 2 ^ 64) (with_block (x / 2 ^ 64) y (omega arith)))
    (with_block (x % 2 ^ 64) y (omega arith))
    ∙ (joined (carryless (x / 2 ^ 64) (y / 2 ^ 64)) (carryless (x / 2 ^ 64) (y % 2 ^ 64)) (carryless (x % 2 ^ 64) (y / 2 ^ 64)) (carryless (x % 2 ^ 64) (y % 2 ^ 64))
    ∙ ap (λ (n : ℕ). bit_xor (bit_xor (carryless (x / 2 ^ 64) (y / 2 ^ 64) * 2 ^ 128) (n * 2 ^ 64)) (carryless (x % 2 ^ 64) (y % 2 ^ 64)))
    (sym (middle (x % 2 ^ 64) (x / 2 ^ 64) (y % 2 ^ 64) (y / 2 ^ 64))))))
  where
    joined : (high one other low : ℕ)
        → bit_xor (bit_xor (high * 2 ^ 64) one * 2 ^ 64) (bit_xor (other * 2 ^ 64) low) ≡ bit_xor (bit_xor (high * 2 ^ 128) (bit_xor one other * 2 ^ 64)) low
    joined high one other low =
        let top : high * 2 ^ 64 * 2 ^ 64 ≡ high * 2 ^ 128 = omega arith in
        ap (λ (n : ℕ). bit_xor n (bit_xor (other * 2 ^ 64) low)) (raised 64 (high * 2 ^ 64) one ∙ ap (λ (n : ℕ). bit_xor n (one * 2 ^ 64)) top)
        ∙ (sym (xor_assoc (bit_xor (high * 2 ^ 128) (one * 2 ^ 64)) (other * 2 ^ 64) low)
        ∙ ap (λ (n : ℕ). bit_xor n low)
        (xor_assoc (high * 2 ^ 128) (one * 2 ^ 64) (other * 2 ^ 64) ∙ ap (bit_xor (high * 2 ^ 128)) (sym (raised 64 one other))))

below_is : (low high both : ℕ) → low < 2 ^ 128 → of_products low high both % 2 ^ 128 ≡ bit_xor low (both * 2 ^ 64 % 2 ^ 128)
unfolding of_products
below_is low high both h =
    let none : high * 2 ^ 128 % 2 ^ 128 ≡ 0 = omega arith in
    let own : low % 2 ^ 128 ≡ low = omega (arith, h) in
    xor_mod (bit_xor (high * 2 ^ 128) (both * 2 ^ 64)) low 128
    ∙ (ap₂ bit_xor (xor_mod (high * 2 ^ 128) (both * 2 ^ 64) 128 ∙ (ap (λ (n : ℕ). bit_xor n (both * 2 ^ 64 % 2 ^ 128)) none ∙ xor_zero_l (both * 2 ^ 64 % 2 ^ 128))) own
    ∙ xor_comm (both * 2 ^ 64 % 2 ^ 128) low)

above_is : (low high both : ℕ) → low < 2 ^ 128 → of_products low high both / 2 ^ 128 ≡ bit_xor high (both / 2 ^ 64)
unfolding of_products
above_is low high both h =
    let top : high * 2 ^ 128 / 2 ^ 128 ≡ high = omega arith in
    let part : both * 2 ^ 64 / 2 ^ 128 ≡ both / 2 ^ 64 = omega arith in
    let none : low / 2 ^ 128 ≡ 0 = omega (arith, h) in
    xor_shr (bit_xor (high * 2 ^ 128) (both * 2 ^ 64)) low 128
    ∙ (ap₂ bit_xor (xor_shr (high * 2 ^ 128) (both * 2 ^ 64) 128 ∙ ap₂ bit_xor top part) none ∙ xor_zero_r (bit_xor high (both / 2 ^ 64)))

-- the halves of the product of two blocks, by three products of words
pub low_half : (x y : ℕ) → x < 2 ^ 128 → y < 2 ^ 128
    → carryless x y % 2 ^ 128 ≡ bit_xor (carryless (x % 2 ^ 64) (y % 2 ^ 64)) (middle_of x y * 2 ^ 64 % 2 ^ 128)
low_half x y h l =
    ap (λ (n : ℕ). n % 2 ^ 128) (by_words x y h l)
    ∙ below_is (carryless (x % 2 ^ 64) (y % 2 ^ 64)) (carryless (x / 2 ^ 64) (y / 2 ^ 64)) (middle_of x y) (words_bound (x % 2 ^ 64) (y % 2 ^ 64) (omega arith) (omega arith))

pub high_half : (x y : ℕ) → x < 2 ^ 128 → y < 2 ^ 128
    → carryless x y / 2 ^ 128 ≡ bit_xor (carryless (x / 2 ^ 64) (y / 2 ^ 64)) (middle_of x y / 2 ^ 64)
high_half x y h l =
    ap (λ (n : ℕ). n / 2 ^ 128) (by_words x y h l)
    ∙ above_is (carryless (x % 2 ^ 64) (y % 2 ^ 64)) (carryless (x / 2 ^ 64) (y / 2 ^ 64)) (middle_of x y) (words_bound (x % 2 ^ 64) (y % 2 ^ 64) (omega arith) (omega arith))
