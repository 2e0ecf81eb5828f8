-- Products of numbers whose bits stand five places apart have no carries between these: so their bits at such places are those of the product over GF(2).

use Rattle.std.proofs.Common.{◌≡◌, ℕ, zero, suc, ◌+◌, ◌-◌, ◌*◌, ◌%◌, ◌^◌, ◌<◌, ◌≤◌, ◌/◌, Bool, true, false, refl, sym, ap, ap₂, ◌∙◌, arith, cond, eqb, ltb}
use Rattle.std.proofs.lemmas.Bool.{eqb-true, lt-ltb}
use Rattle.std.proofs.lemmas.Nat.{and_block, and_mask, pow-add, pow_pos, xor_block, xor_mod, xor_shr}
use Rattle.std.proofs.Math.Nat.{add-mul, mul_assoc, mul_comm}
use Rattle.std.specs.Int.Bits.{and_zero_l, xor_zero_l}
use Rattle.std.specs.Prelude.{bit_and, bit_xor}
use Rattle.sshsuite.proofs.CarrylessLemmas.{at_none, by_bit, first_linear, first_raised}
use Rattle.sshsuite.proofs.LinearLemmas.{IsLinear, agree, apart, masked_linear, two_bits}
use Rattle.sshsuite.proofs.TestLemmas.{all_below, at_each}
use Rattle.sshsuite.specs.Carryless.{carryless, each_fifth}

-- a number by digits of five bits, the first the highest
pub num : ℕ → (ℕ → ℕ) → ℕ
num zero f = 0
num (suc n) f = num n f * 2 ^ 5 + f n

-- the product over GF(2) of so many digits and a number
pub digit_product : ℕ → (ℕ → ℕ) → ℕ → ℕ
digit_product zero a b = 0
digit_product (suc n) a b = bit_xor (digit_product n a b * 2 ^ 5) (a n * b)

-- the product in integers, by digits
pub wide : ℕ → (ℕ → ℕ) → ℕ → ℕ
wide zero a b = 0
wide (suc n) a b = wide n a b * 2 ^ 5 + a n * b

both : (n : ℕ) (f g : ℕ → ℕ) → num n f + num n g ≡ num n (λ i. f i + g i)
unfolding num
both zero f g = refl
both (suc n) f g = let before = both n f g in omega (arith, before)

same_num : (n : ℕ) (f g : ℕ → ℕ) → ((i : ℕ) → f i ≡ g i) → num n f ≡ num n g
unfolding num
same_num zero f g h = refl
same_num (suc n) f g h = let before = same_num n f g h in let last = h n in omega (arith, before, last)

odd_digits : (n : ℕ) (f : ℕ → ℕ) → ((i : ℕ) → f i < 2 ^ 5) → bit_and (num n f) (num n (λ i. 1)) ≡ num n (λ i. f i % 2)
unfolding num
odd_digits zero f h = and_zero_l 0
odd_digits (suc n) f h =
    and_block 5 (num n f) (num n (λ i. 1)) (f n) 1 (h n) (omega arith)
    ∙ ap₂ (λ (x y : ℕ). x * 2 ^ 5 + y) (odd_digits n f h) (and_mask (f n) 1)

xor_num : (n : ℕ) (f g : ℕ → ℕ) → ((i : ℕ) → f i < 2 ^ 5) → ((i : ℕ) → g i < 2 ^ 5) → bit_xor (num n f) (num n g) ≡ num n (λ i. bit_xor (f i) (g i))
unfolding num
xor_num zero f g h k = xor_zero_l 0
xor_num (suc n) f g h k =
    xor_block 5 (num n f) (num n g) (f n) (g n) (h n) (k n) ∙ ap (λ (m : ℕ). m * 2 ^ 5 + bit_xor (f n) (g n)) (xor_num n f g h k)

-- the odd digits of a sum, where no digit goes beyond five bits
pub odd_sum : (n : ℕ) (f g : ℕ → ℕ) → ((i : ℕ) → f i + g i < 2 ^ 5)
    → bit_and (num n f + num n g) (num n (λ i. 1)) ≡ bit_xor (bit_and (num n f) (num n (λ i. 1))) (bit_and (num n g) (num n (λ i. 1)))
odd_sum n f g h =
    ap (λ (x : ℕ). bit_and x (num n (λ i. 1))) (both n f g)
    ∙ (odd_digits n (λ i. f i + g i) h
    ∙ (same_num n (λ i. (f i + g i) % 2) (λ i. bit_xor (f i % 2) (g i % 2)) (λ i. last (f i) (g i) ∙ two_bits (f i % 2) (g i % 2) (omega arith) (omega arith))
    ∙ (sym (xor_num n (λ i. f i % 2) (λ i. g i % 2) (λ i. omega arith) (λ i. omega arith))
    ∙ ap₂ bit_xor (sym (odd_digits n f (λ i. let low = h i in omega (arith, low)))) (sym (odd_digits n g (λ i. let low = h i in omega (arith, low)))))))
  where
    last : (s t : ℕ) → (s + t) % 2 ≡ (s % 2 + t % 2) % 2
    last s t = omega arith

-- 13 digits, as the last of 26
low_half : (ℕ → ℕ) → ℕ → ℕ
low_half b i = cond (ltb i 13) 0 (b (i - 13))

low_half_is : (b : ℕ → ℕ) → num 26 (low_half b) ≡ num 13 b
unfolding num low_half
low_half_is b = omega arith

-- the digits of the product of so many
product_digits : ℕ → (ℕ → ℕ) → (ℕ → ℕ) → ℕ → ℕ
product_digits zero a b i = 0
product_digits (suc n) a b i = cond (ltb i 25) (product_digits n a b (i + 1)) 0 + a n * low_half b i

half_bit : (b : ℕ → ℕ) (i : ℕ) → ((i : ℕ) → b i < 2) → low_half b i < 2
unfolding low_half
half_bit b i h = bounded (ltb i 13) (b (i - 13)) (h (i - 13))
  where
    bounded : (c : Bool) (x : ℕ) → x < 2 → cond c 0 x < 2
    bounded true x h = omega arith
    bounded false x h = h

bit_product : (s t : ℕ) → s < 2 → t < 2 → s * t < 2
bit_product zero t h k = omega arith
bit_product (suc zero) t h k = omega (arith, k)
bit_product (suc (suc s)) t h k = absurd (omega arith)

digits_bound : (n : ℕ) (a b : ℕ → ℕ) → ((i : ℕ) → a i < 2) → ((i : ℕ) → b i < 2) → (i : ℕ) → product_digits n a b i ≤ n
unfolding product_digits
digits_bound zero a b h k i = omega arith
digits_bound (suc n) a b h k i =
    let before = bounded (ltb i 25) (product_digits n a b (i + 1)) n (digits_bound n a b h k (i + 1)) in
    let last = bit_product (a n) (low_half b i) (h n) (half_bit b i k) in
    omega (arith, before, last)
  where
    bounded : (c : Bool) (x n : ℕ) → x ≤ n → cond c x 0 ≤ n
    bounded true x n h = h
    bounded false x n h = omega arith

front_none : (n : ℕ) (a b : ℕ → ℕ) (i : ℕ) → i + n < 13 → product_digits n a b i ≡ 0
unfolding product_digits low_half
front_none zero a b i h = refl
front_none (suc n) a b i h =
    let before : ltb i 25 ≡ true = lt-ltb i 25 (omega arith) in
    let half : ltb i 13 ≡ true = lt-ltb i 13 (omega arith) in
    rw before (rw half (let e = front_none n a b (i + 1) (omega arith) in omega (arith, e)))

moved : (f : ℕ → ℕ) → f 0 ≡ 0 → num 26 f * 2 ^ 5 ≡ num 26 (λ i. cond (ltb i 25) (f (i + 1)) 0)
unfolding num
moved f e = omega (arith, e)

scaled : (n t : ℕ) (f : ℕ → ℕ) → t < 2 → t * num n f ≡ num n (λ i. t * f i)
unfolding num
scaled zero t f h = omega arith
scaled (suc n) zero f h = let before = scaled n zero f h in omega (arith, before)
scaled (suc n) (suc zero) f h = let before = scaled n (suc zero) f h in omega (arith, before)
scaled (suc n) (suc (suc t)) f h = absurd (omega arith)

by_half : (b : ℕ → ℕ) (t : ℕ) → t < 2 → t * num 13 b ≡ num 26 (λ i. t * low_half b i)
by_half b t h = ap (λ (x : ℕ). t * x) (sym (low_half_is b)) ∙ scaled 26 t (low_half b) h

none : 0 ≡ num 26 (λ i. 0)
unfolding num
none = refl

wide_digits : (n : ℕ) (a b : ℕ → ℕ) → n ≤ 13 → ((i : ℕ) → a i < 2) → wide n a (num 13 b) ≡ num 26 (product_digits n a b)
unfolding wide product_digits
wide_digits zero a b h k = none
wide_digits (suc n) a b h k =
    ap₂ ◌+◌ (ap (λ (x : ℕ). x * 2 ^ 5) (wide_digits n a b (omega arith) k) ∙ moved (product_digits n a b) (front_none n a b 0 (omega arith))) (by_half b (a n) (k n))
    ∙ both 26 (λ i. cond (ltb i 25) (product_digits n a b (i + 1)) 0) (λ i. a n * low_half b i)

own_bits : (n : ℕ) (f : ℕ → ℕ) → ((i : ℕ) → f i < 2) → bit_and (num n f) (num n (λ i. 1)) ≡ num n f
own_bits n f h =
    odd_digits n f (λ i. let low = h i in omega (arith, low)) ∙ same_num n (λ i. f i % 2) f (λ i. let low = h i in omega (arith, low))

odd_moved : (f : ℕ → ℕ) → f 0 ≡ 0 → ((i : ℕ) → f i < 2 ^ 5) → bit_and (num 26 f * 2 ^ 5) (num 26 (λ i. 1)) ≡ bit_and (num 26 f) (num 26 (λ i. 1)) * 2 ^ 5
odd_moved f e h =
    ap (λ (x : ℕ). bit_and x (num 26 (λ i. 1))) (moved f e)
    ∙ (odd_digits 26 (λ i. cond (ltb i 25) (f (i + 1)) 0) (λ i. bounded (ltb i 25) (f (i + 1)) (h (i + 1)))
    ∙ (same_num 26 (λ i. cond (ltb i 25) (f (i + 1)) 0 % 2) (λ i. cond (ltb i 25) (f (i + 1) % 2) 0) (λ i. inside (ltb i 25) (f (i + 1)))
    ∙ (sym (moved (λ i. f i % 2) (ap (λ (x : ℕ). x % 2) e)) ∙ ap (λ (x : ℕ). x * 2 ^ 5) (sym (odd_digits 26 f h)))))
  where
    bounded : (c : Bool) (x : ℕ) → x < 2 ^ 5 → cond c x 0 < 2 ^ 5
    bounded true x h = h
    bounded false x h = omega arith

    inside : (c : Bool) (x : ℕ) → cond c x 0 % 2 ≡ cond c (x % 2) 0
    inside true x = refl
    inside false x = refl

-- the bits at the places of an integer product are those of the product over GF(2)
pub odd_product : (n : ℕ) (a b : ℕ → ℕ) → n ≤ 13 → ((i : ℕ) → a i < 2) → ((i : ℕ) → b i < 2)
    → bit_and (wide n a (num 13 b)) (num 26 (λ i. 1)) ≡ digit_product n a (num 13 b)
unfolding wide digit_product
odd_product zero a b l h k = and_zero_l (num 26 (λ i. 1))
odd_product (suc n) a b l h k =
    let p : ℕ → ℕ = product_digits n a b in
    let none : p 0 ≡ 0 = front_none n a b 0 (omega arith) in
    let low : (i : ℕ) → p i < 2 ^ 5 = λ i. let bound = digits_bound n a b h k i in omega (arith, bound) in
    let is : wide n a (num 13 b) ≡ num 26 p = wide_digits n a b (omega arith) h in
    let last : (i : ℕ) → a n * low_half b i < 2 = λ i. bit_product (a n) (low_half b i) (h n) (half_bit b i k) in
    ap (λ (x : ℕ). bit_and x (num 26 (λ i. 1)))
    (ap₂ ◌+◌ (ap (λ (x : ℕ). x * 2 ^ 5) is ∙ moved p none) (by_half b (a n) (h n)))
    ∙ (odd_sum 26 (λ i. cond (ltb i 25) (p (i + 1)) 0) (λ i. a n * low_half b i)
    (λ i. let first = bounded (ltb i 25) (p (i + 1)) n (digits_bound n a b h k (i + 1)) in let second = last i in omega (arith, first, second, l))
    ∙ ap₂ bit_xor
    (ap (λ (x : ℕ). bit_and x (num 26 (λ i. 1))) (sym (moved p none)) ∙ (odd_moved p none low
    ∙ ap (λ (x : ℕ). x * 2 ^ 5) (ap (λ (x : ℕ). bit_and x (num 26 (λ i. 1))) (sym is) ∙ odd_product n a b (omega arith) h k)))
    (own_bits 26 (λ i. a n * low_half b i) last ∙ sym (by_half b (a n) (h n))))
  where
    bounded : (c : Bool) (x n : ℕ) → x ≤ n → cond c x 0 ≤ n
    bounded true x n h = h
    bounded false x n h = omega arith

times_wide : (n : ℕ) (f : ℕ → ℕ) (y : ℕ) → num n f * y ≡ wide n f y
unfolding num wide
times_wide zero f y = omega arith
times_wide (suc n) f y =
    add-mul (num n f * 2 ^ 5) (f n) y ∙ ap (λ (x : ℕ). x + f n * y) (turned (num n f) ∙ ap (λ (x : ℕ). x * 2 ^ 5) (times_wide n f y))
  where
    turned : (a : ℕ) → a * 2 ^ 5 * y ≡ a * y * 2 ^ 5
    turned a = mul_assoc a (2 ^ 5) y ∙ (ap (λ (x : ℕ). a * x) (mul_comm (2 ^ 5) y) ∙ sym (mul_assoc a y (2 ^ 5)))

num_below : (n : ℕ) (f : ℕ → ℕ) → ((i : ℕ) → f i < 2) → num n f < 2 ^ (5 * n)
unfolding num
num_below zero f h = pow_pos 0
num_below (suc n) f h =
    let before = num_below n f h in
    let last = h n in
    let at : 5 * suc n ≡ 5 * n + 5 = omega arith in
    let top : 2 ^ (5 * suc n) ≡ 2 ^ (5 * n) * 2 ^ 5 = ap (λ (k : ℕ). 2 ^ k) at ∙ pow-add 2 (5 * n) 5 in omega (arith, before, last, top)

digits_are : (n : ℕ) (f : ℕ → ℕ) (y : ℕ) → n ≤ 13 → ((i : ℕ) → f i < 2) → digit_product n f y ≡ carryless (num n f) y
unfolding num digit_product
digits_are zero f y l h = sym (at_none (λ x. carryless x y) (first_linear y))
digits_are (suc n) f y l h =
    let low = h n in
    ap₂ bit_xor
    (ap (λ (x : ℕ). x * 2 ^ 5) (digits_are n f y (omega arith) h) ∙ sym (first_raised 5 (5 * n) (num n f) y (omega arith) (num_below n f h)))
    (sym (by_bit (f n) y low))
    ∙ (sym (first_linear y (num n f * 2 ^ 5) (f n)) ∙ ap (λ (x : ℕ). carryless x y) (apart 5 (num n f) (f n) (omega (arith, low))))

-- a number with bits at each fifth place alone
pub record IsHoled (a : ℕ) : Type 0 where
  pub digit : ℕ → ℕ
  pub bits : (i : ℕ) → digit i < 2
  pub is : a ≡ num 13 digit

pub holed_below : (a : ℕ) → IsHoled a → a < 2 ^ 65
holed_below a h = let low = num_below 13 h.digit h.bits in let is = h.is in omega (arith, low, is)

-- each fifth bit of a product
abbrev pub wide_fifths : ℕ
wide_fifths = 0x21084210842108421084210842108421

ones : num 26 (λ i. 1) ≡ wide_fifths
unfolding num
ones = refl

-- the bits of an integer product at each fifth place are the product over GF(2)
pub holed_product : (a b : ℕ) → IsHoled a → IsHoled b → bit_and (a * b) wide_fifths ≡ carryless a b
holed_product a b h k =
    ap₂ bit_and (ap₂ ◌*◌ h.is k.is ∙ times_wide 13 h.digit (num 13 k.digit)) (sym ones)
    ∙ (odd_product 13 h.digit k.digit (omega arith) h.bits k.bits ∙ (digits_are 13 h.digit (num 13 k.digit) (omega arith) h.bits ∙ sym (ap₂ carryless h.is k.is)))

digit_at : ℕ → ℕ → ℕ
digit_at v i = v / 2 ^ (5 * (12 - i)) % 2

digits_linear : IsLinear (λ v. num 13 (digit_at v))
unfolding digit_at
digits_linear a b =
    same_num 13 (digit_at (bit_xor a b)) (λ i. bit_xor (digit_at a i) (digit_at b i))
    (λ i. ap (λ (x : ℕ). x % 2) (xor_shr a b (5 * (12 - i))) ∙ xor_mod (a / 2 ^ (5 * (12 - i))) (b / 2 ^ (5 * (12 - i))) 1)
    ∙ sym (xor_num 13 (digit_at a) (digit_at b) (λ i. omega arith) (λ i. omega arith))

fifth_of_power : ℕ → Bool
fifth_of_power k = eqb (bit_and (2 ^ k) each_fifth) (num 13 (digit_at (2 ^ k)))

all_fifths : all_below 64 fifth_of_power ≡ true
unfolding fifth_of_power num digit_at
all_fifths = refl

fifth_of_none : bit_and 0 each_fifth ≡ num 13 (digit_at 0)
unfolding num digit_at
fifth_of_none = refl

-- each fifth bit of a word is such a number
pub fifth_holed : (v : ℕ) → v < 2 ^ 64 → IsHoled (bit_and v each_fifth)
unfolding fifth_of_power digit_at
fifth_holed v h = record {
  digit = digit_at v;
  bits = λ i. omega arith;
  is = agree (λ a. bit_and a each_fifth) (λ a. num 13 (digit_at a)) 64 (masked_linear 64 each_fifth (omega arith)) digits_linear fifth_of_none
      (λ k l. eqb-true (bit_and (2 ^ k) each_fifth) (num 13 (digit_at (2 ^ k))) (at_each 64 fifth_of_power all_fifths k l)) v h;
}
