-- Linear maps over GF(2): two that agree on powers of 2 are one.

use Rattle.std.proofs.Common.{◌≡◌, ℕ, zero, suc, ◌+◌, ◌*◌, ◌/◌, ◌%◌, ◌^◌, ◌<◌, refl, sym, ap, ap₂, ◌∙◌, arith}
use Rattle.std.proofs.lemmas.Nat.{and_block, and_comm, and_le_l, div_below, mod_below, pow_pos, shr_split, xor_block, xor_comm, xor_mod, xor_shr}
use Rattle.std.specs.Int.Bits.{and_zero_l, xor_assoc, xor_zero_l, xor_zero_r}
use Rattle.std.specs.Prelude.{bit_and, bit_xor}

-- linear over GF(2)
abbrev pub IsLinear : (ℕ → ℕ) → Type 0
IsLinear h = (a b : ℕ) → h (bit_xor a b) ≡ bit_xor (h a) (h b)

pub exchanged : (a b c d : ℕ) → bit_xor (bit_xor a b) (bit_xor c d) ≡ bit_xor (bit_xor a c) (bit_xor b d)
exchanged a b c d =
    xor_assoc a b (bit_xor c d)
    ∙ (ap (bit_xor a) (sym (xor_assoc b c d) ∙ (ap (λ (x : ℕ). bit_xor x d) (xor_comm b c) ∙ xor_assoc c b d)) ∙ sym (xor_assoc a c (bit_xor b d)))

-- the sum of two numbers of which one has no bit below a place and the other none from it on
pub apart : (k a r : ℕ) → r < 2 ^ k → bit_xor (a * 2 ^ k) r ≡ a * 2 ^ k + r
apart k a r h =
    let front : a * 2 ^ k ≡ a * 2 ^ k + 0 = omega arith in
    let back : r ≡ 0 * 2 ^ k + r = omega arith in
    ap₂ bit_xor front back ∙ (xor_block k a 0 0 r (pow_pos k) h ∙ ap₂ (λ (x y : ℕ). x * 2 ^ k + y) (xor_zero_r a) (xor_zero_l r))

pub sum_linear : (g h : ℕ → ℕ) → IsLinear g → IsLinear h → IsLinear (λ a. bit_xor (g a) (h a))
sum_linear g h lg lh a b = ap₂ bit_xor (lg a b) (lh a b) ∙ exchanged (g a) (g b) (h a) (h b)

pub then_linear : (g h : ℕ → ℕ) → IsLinear g → IsLinear h → IsLinear (λ a. h (g a))
then_linear g h lg lh a b = ap h (lg a b) ∙ lh (g a) (g b)

pub raised : (k : ℕ) → IsLinear (λ a. a * 2 ^ k)
raised k a b =
    let parts = xor_block k a b 0 0 (pow_pos k) (pow_pos k) in
    let none : bit_xor 0 0 ≡ 0 = xor_zero_l 0 in
    sym (ap₂ bit_xor (plus (a * 2 ^ k)) (plus (b * 2 ^ k)) ∙ (parts ∙ (ap (λ (x : ℕ). bit_xor a b * 2 ^ k + x) none ∙ sym (plus (bit_xor a b * 2 ^ k)))))
  where
    plus : (n : ℕ) → n ≡ n + 0
    plus n = omega arith

pub raised_within : (k : ℕ) → IsLinear (λ a. a * 2 ^ k % 2 ^ 128)
raised_within k a b = ap (λ (x : ℕ). x % 2 ^ 128) (raised k a b) ∙ xor_mod (a * 2 ^ k) (b * 2 ^ k) 128

pub lowered : (k : ℕ) → IsLinear (λ a. a / 2 ^ k)
lowered k a b = xor_shr a b k

pub same_linear : IsLinear (λ a. a)
same_linear a b = refl

-- linear maps that agree on powers of 2 are one
pub agree : (g h : ℕ → ℕ) (m : ℕ) → IsLinear g → IsLinear h → g 0 ≡ h 0 → ((k : ℕ) → k < m → g (2 ^ k) ≡ h (2 ^ k)) → (z : ℕ) → z < 2 ^ m → g z ≡ h z
agree g h zero lg lh none e z low = let is : z ≡ 0 = omega (arith, low) in ap g is ∙ (none ∙ ap h (sym is))
agree g h (suc m) lg lh none e z low =
    let last : g (z / 2 ^ m * 2 ^ m) ≡ h (z / 2 ^ m * 2 ^ m) = by_bit (z / 2 ^ m) (div_below z (2 ^ m) 2 (pow_pos m) (below_twice m z low)) in
    let rest : g (z % 2 ^ m) ≡ h (z % 2 ^ m) = agree g h m lg lh none (λ k l. e k (omega arith)) (z % 2 ^ m) (mod_below z (2 ^ m) (pow_pos m)) in
    ap g (parted m z) ∙ (lg (z / 2 ^ m * 2 ^ m) (z % 2 ^ m) ∙ (ap₂ bit_xor last rest ∙ (sym (lh (z / 2 ^ m * 2 ^ m) (z % 2 ^ m)) ∙ ap h (sym (parted m z)))))
  where
    by_bit : (t : ℕ) → t < 2 → g (t * 2 ^ m) ≡ h (t * 2 ^ m)
    by_bit zero l = let z0 : 0 * 2 ^ m ≡ 0 = omega arith in ap g z0 ∙ (none ∙ ap h (sym z0))
    by_bit (suc zero) l = let z1 : 1 * 2 ^ m ≡ 2 ^ m = omega arith in ap g z1 ∙ (e m (omega arith) ∙ ap h (sym z1))
    by_bit (suc (suc t)) l = absurd (omega arith)

    below_twice : (m z : ℕ) → z < 2 ^ suc m → z < 2 * 2 ^ m
    below_twice m z l = omega (arith, l)

    parted : (m z : ℕ) → z ≡ bit_xor (z / 2 ^ m * 2 ^ m) (z % 2 ^ m)
    parted m z = sym (apart m (z / 2 ^ m) (z % 2 ^ m) (mod_below z (2 ^ m) (pow_pos m)) ∙ shr_split z m)

pub two_bits : (s t : ℕ) → s < 2 → t < 2 → (s + t) % 2 ≡ bit_xor s t
two_bits zero zero h k = refl
two_bits zero (suc zero) h k = refl
two_bits (suc zero) zero h k = refl
two_bits (suc zero) (suc zero) h k = refl
two_bits (suc (suc s)) t h k = absurd (omega arith)
two_bits s (suc (suc t)) h k = absurd (omega arith)

three_bits : (s t u : ℕ) → s < 2 → t < 2 → u < 2 → bit_and (bit_xor s t) u ≡ bit_xor (bit_and s u) (bit_and t u)
three_bits zero zero zero h k l = refl
three_bits zero zero (suc zero) h k l = refl
three_bits zero (suc zero) zero h k l = refl
three_bits zero (suc zero) (suc zero) h k l = refl
three_bits (suc zero) zero zero h k l = refl
three_bits (suc zero) zero (suc zero) h k l = refl
three_bits (suc zero) (suc zero) zero h k l = refl
three_bits (suc zero) (suc zero) (suc zero) h k l = refl
three_bits (suc (suc s)) t u h k l = absurd (omega arith)
three_bits s (suc (suc t)) u h k l = absurd (omega arith)
three_bits s t (suc (suc u)) h k l = absurd (omega arith)

by_halves : (a m : ℕ) → bit_and a m ≡ bit_and (a / 2 ^ 1) (m / 2 ^ 1) * 2 ^ 1 + bit_and (a % 2 ^ 1) (m % 2 ^ 1)
by_halves a m =
    ap₂ bit_and (sym (shr_split a 1)) (sym (shr_split m 1))
    ∙ and_block 1 (a / 2 ^ 1) (m / 2 ^ 1) (a % 2 ^ 1) (m % 2 ^ 1) (mod_below a (2 ^ 1) (pow_pos 1)) (mod_below m (2 ^ 1) (pow_pos 1))

-- the bits under a mask
pub masked_linear : (n m : ℕ) → m < 2 ^ n → IsLinear (λ a. bit_and a m)
masked_linear zero m h a b =
    let is : m ≡ 0 = omega (arith, h) in
    let none : (c : ℕ) → bit_and c m ≡ 0 = λ c. ap (bit_and c) is ∙ (and_comm c 0 ∙ and_zero_l c) in
    none (bit_xor a b) ∙ sym (ap₂ bit_xor (none a) (none b) ∙ xor_zero_l 0)
masked_linear (suc n) m h a b =
    let last : (c : ℕ) → c % 2 ^ 1 < 2 = λ c. mod_below c (2 ^ 1) (pow_pos 1) in
    let high = masked_linear n (m / 2 ^ 1) (half n m h) (a / 2 ^ 1) (b / 2 ^ 1) in
    let low = three_bits (a % 2 ^ 1) (b % 2 ^ 1) (m % 2 ^ 1) (last a) (last b) (last m) in
    let small : (c : ℕ) → bit_and (c % 2 ^ 1) (m % 2 ^ 1) < 2 ^ 1 = λ c. let less = and_le_l (c % 2 ^ 1) (m % 2 ^ 1) in let bound = last c in omega (arith, less, bound) in
    by_halves (bit_xor a b) m
    ∙ (ap₂ (λ (x y : ℕ). x * 2 ^ 1 + y)
    (ap (λ (x : ℕ). bit_and x (m / 2 ^ 1)) (xor_shr a b 1) ∙ high)
    (ap (λ (x : ℕ). bit_and x (m % 2 ^ 1)) (xor_mod a b 1) ∙ low)
    ∙ (sym (xor_block 1 (bit_and (a / 2 ^ 1) (m / 2 ^ 1)) (bit_and (b / 2 ^ 1) (m / 2 ^ 1)) (bit_and (a % 2 ^ 1) (m % 2 ^ 1)) (bit_and (b % 2 ^ 1) (m % 2 ^ 1)) (small a) (small b))
    ∙ sym (ap₂ bit_xor (by_halves a m) (by_halves b m))))
  where
    half : (n m : ℕ) → m < 2 ^ suc n → m / 2 ^ 1 < 2 ^ n
    half n m h = omega (arith, h)
