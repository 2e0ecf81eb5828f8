-- A word is the sum of five numbers with holes, each raised to its place. The products of two words' numbers, those of a place
-- together, under the mask and raised to that place, are the product over GF(2).

use Rattle.std.proofs.Common.{◌≡◌, ℕ, zero, suc, ◌+◌, ◌*◌, ◌/◌, ◌%◌, ◌^◌, ◌<◌, ◌≤◌, Bool, true, List, [], ◌∷◌, length, refl, sym, ap, ap₂, ◌∙◌, arith, eqb}
use Rattle.std.proofs.lemmas.Bool.{eqb-true}
use Rattle.std.proofs.lemmas.Nat.{and_le_r, pow-add, pow_pos, shl_below, xor_lt, xor_mod}
use Rattle.std.proofs.Math.Nat.{mul_assoc}
use Rattle.std.specs.Int.Bits.{and_zero_l, xor_assoc, xor_zero_l, xor_zero_r}
use Rattle.std.specs.Prelude.{bit_and, bit_xor, slice_index}
use Rattle.sshsuite.proofs.CarrylessLemmas.{at_none, first_linear, first_raised, second_linear, second_raised, widened, words_bound}
use Rattle.sshsuite.proofs.HolesLemmas.{IsHoled, fifth_holed, holed_below, holed_product, wide_fifths}
use Rattle.sshsuite.proofs.LinearLemmas.{IsLinear, agree, exchanged, lowered, masked_linear, raised, raised_within, same_linear, sum_linear, then_linear}
use Rattle.sshsuite.proofs.TestLemmas.{all_below, at_each}
use Rattle.sshsuite.specs.Carryless.{carryless, each_fifth, fifths}

-- the sum of what stands at the places, from the lowest on
value : List ℕ → ℕ
value [] = 0
value (c ∷ cs) = bit_xor c (value cs * 2 ^ 1)

-- two lists of places, place by place
added : List ℕ → List ℕ → List ℕ
added [] ds = ds
added (c ∷ cs) [] = c ∷ cs
added (c ∷ cs) (d ∷ ds) = bit_xor c d ∷ added cs ds

-- the second raised by so many places
added_at : ℕ → List ℕ → List ℕ → List ℕ
added_at zero cs ds = added cs ds
added_at (suc i) [] ds = 0 ∷ added_at i [] ds
added_at (suc i) (c ∷ cs) ds = c ∷ added_at i cs ds

scaled : ℕ → List ℕ → List ℕ
scaled a [] = []
scaled a (b ∷ bs) = a * b ∷ scaled a bs

-- what stands at the places, and the products of two lists of numbers, the first raised by so many places
places : ℕ → List ℕ → List ℕ → List ℕ → List ℕ
places i cs [] bs = cs
places i cs (a ∷ es) bs = places (suc i) (added_at i cs (scaled a bs)) es bs

-- each fifth bit of what stands at each place
masked : List ℕ → List ℕ
masked [] = []
masked (c ∷ cs) = bit_and c wide_fifths ∷ masked cs

-- a sum with each fifth bit of what stands at the places from this one on, raised to it
raised_on : ℕ → ℕ → List ℕ → ℕ
raised_on sum i [] = sum
raised_on sum i (c ∷ cs) = raised_on (bit_xor sum (bit_and c wide_fifths * 2 ^ i % 2 ^ 128)) (suc i) cs

mask_linear : IsLinear (λ a. bit_and a wide_fifths)
mask_linear = masked_linear 128 wide_fifths (omega arith)

value_added : (cs ds : List ℕ) → value (added cs ds) ≡ bit_xor (value cs) (value ds)
unfolding value added
value_added [] ds = sym (xor_zero_l (value ds))
value_added (c ∷ cs) [] = sym (xor_zero_r (bit_xor c (value cs * 2 ^ 1)))
value_added (c ∷ cs) (d ∷ ds) =
    ap (bit_xor (bit_xor c d)) (ap (λ (x : ℕ). x * 2 ^ 1) (value_added cs ds) ∙ raised 1 (value cs) (value ds))
    ∙ exchanged c d (value cs * 2 ^ 1) (value ds * 2 ^ 1)

raised_more : (v i : ℕ) → v * 2 ^ i * 2 ^ 1 ≡ v * 2 ^ suc i
raised_more v i =
    mul_assoc v (2 ^ i) (2 ^ 1) ∙ ap (λ (p : ℕ). v * p) (sym (pow-add 2 i 1) ∙ ap (λ (k : ℕ). 2 ^ k) (let e : i + 1 ≡ suc i = omega arith in e))

raised_before : (v i : ℕ) → v * 2 ^ 1 * 2 ^ i ≡ v * 2 ^ suc i
raised_before v i =
    mul_assoc v (2 ^ 1) (2 ^ i) ∙ ap (λ (p : ℕ). v * p) (sym (pow-add 2 1 i) ∙ ap (λ (k : ℕ). 2 ^ k) (let e : 1 + i ≡ suc i = omega arith in e))

value_added_at : (i : ℕ) (cs ds : List ℕ) → value (added_at i cs ds) ≡ bit_xor (value cs) (value ds * 2 ^ i)
unfolding value added_at
value_added_at zero cs ds = value_added cs ds ∙ ap (bit_xor (value cs)) (let e : value ds ≡ value ds * 2 ^ 0 = omega arith in e)
value_added_at (suc i) [] ds =
    ap (λ (x : ℕ). bit_xor 0 (x * 2 ^ 1)) (value_added_at i [] ds ∙ xor_zero_l (value ds * 2 ^ i)) ∙ ap (bit_xor 0) (raised_more (value ds) i)
value_added_at (suc i) (c ∷ cs) ds =
    ap (λ (x : ℕ). bit_xor c (x * 2 ^ 1)) (value_added_at i cs ds)
    ∙ (ap (bit_xor c) (raised 1 (value cs) (value ds * 2 ^ i) ∙ ap (bit_xor (value cs * 2 ^ 1)) (raised_more (value ds) i))
    ∙ sym (xor_assoc c (value cs * 2 ^ 1) (value ds * 2 ^ suc i)))

masked_added : (cs ds : List ℕ) → masked (added cs ds) ≡ added (masked cs) (masked ds)
unfolding masked added
masked_added [] ds = refl
masked_added (c ∷ cs) [] = refl
masked_added (c ∷ cs) (d ∷ ds) = ap₂ ◌∷◌ (mask_linear c d) (masked_added cs ds)

masked_added_at : (i : ℕ) (cs ds : List ℕ) → masked (added_at i cs ds) ≡ added_at i (masked cs) (masked ds)
unfolding masked added_at
masked_added_at zero cs ds = masked_added cs ds
masked_added_at (suc i) [] ds = ap₂ ◌∷◌ (and_zero_l wide_fifths) (masked_added_at i [] ds)
masked_added_at (suc i) (c ∷ cs) ds = ap (λ (ns : List ℕ). bit_and c wide_fifths ∷ ns) (masked_added_at i cs ds)

abbrev EachHoled : List ℕ → Type 0
EachHoled [] = Unit {0}
EachHoled (a ∷ es) = IsHoled a × EachHoled es

value_below : (es : List ℕ) → EachHoled es → value es < 2 ^ (65 + length es)
unfolding value
value_below [] h = pow_pos 65
value_below (a ∷ es) h =
    xor_lt (65 + length (a ∷ es)) a (value es * 2 ^ 1) (widened a 65 (65 + length (a ∷ es)) (holed_below a h.0) (omega arith))
    (widened (value es * 2 ^ 1) (65 + length es + 1) (65 + length (a ∷ es)) (shl_below (value es) (65 + length es) 1 (value_below es h.1)) (omega arith))

-- one word's products
row : (a : ℕ) (bs : List ℕ) → IsHoled a → EachHoled bs → value (masked (scaled a bs)) ≡ carryless a (value bs)
unfolding value masked scaled
row a [] h k = sym (at_none (λ y. carryless a y) (second_linear a))
row a (b ∷ bs) h k =
    ap₂ bit_xor (holed_product a b h k.0)
    (ap (λ (x : ℕ). x * 2 ^ 1) (row a bs h k.1) ∙ sym (second_raised 1 a (value bs) (widened a 65 128 (holed_below a h) (omega arith))))
    ∙ sym (second_linear a b (value bs * 2 ^ 1))

-- all products of two lists are the product of their values
value_places : (i : ℕ) (cs es bs : List ℕ) → length es ≤ 60 → EachHoled es → EachHoled bs
    → value (masked (places i cs es bs)) ≡ bit_xor (value (masked cs)) (carryless (value es) (value bs) * 2 ^ i)
unfolding places value
value_places i cs [] bs l h k =
    let none : carryless 0 (value bs) ≡ 0 = at_none (λ x. carryless x (value bs)) (first_linear (value bs)) in
    let z : 0 * 2 ^ i ≡ 0 = omega arith in
    sym (ap (bit_xor (value (masked cs))) (ap (λ (x : ℕ). x * 2 ^ i) none ∙ z) ∙ xor_zero_r (value (masked cs)))
value_places i cs (a ∷ es) bs l h k =
    let one : value (masked (added_at i cs (scaled a bs))) ≡ bit_xor (value (masked cs)) (carryless a (value bs) * 2 ^ i) =
    ap value (masked_added_at i cs (scaled a bs)) ∙ (value_added_at i (masked cs) (masked (scaled a bs))
    ∙ ap (λ (x : ℕ). bit_xor (value (masked cs)) (x * 2 ^ i)) (row a bs h.0 k)) in
    let rest : carryless (value es * 2 ^ 1) (value bs) * 2 ^ i ≡ carryless (value es) (value bs) * 2 ^ suc i =
    ap (λ (x : ℕ). x * 2 ^ i) (first_raised 1 (65 + length es) (value es) (value bs) (omega (arith, l)) (value_below es h.1))
    ∙ raised_before (carryless (value es) (value bs)) i in
    let all : carryless (bit_xor a (value es * 2 ^ 1)) (value bs) * 2 ^ i ≡ bit_xor (carryless a (value bs) * 2 ^ i) (carryless (value es * 2 ^ 1) (value bs) * 2 ^ i) =
    ap (λ (x : ℕ). x * 2 ^ i) (first_linear (value bs) a (value es * 2 ^ 1)) ∙ raised i (carryless a (value bs)) (carryless (value es * 2 ^ 1) (value bs)) in
    value_places (suc i) (added_at i cs (scaled a bs)) es bs (omega (arith, l)) h.1 k
    ∙ (ap₂ bit_xor one (sym rest)
    ∙ (xor_assoc (value (masked cs)) (carryless a (value bs) * 2 ^ i) (carryless (value es * 2 ^ 1) (value bs) * 2 ^ i)
    ∙ ap (bit_xor (value (masked cs))) (sym all)))

raised_value : (sum i : ℕ) (cs : List ℕ) → raised_on sum i cs ≡ bit_xor sum (value (masked cs) * 2 ^ i % 2 ^ 128)
unfolding raised_on value masked
raised_value sum i [] =
    let z : 0 * 2 ^ i ≡ 0 = omega arith in
    sym (ap (λ (x : ℕ). bit_xor sum (x % 2 ^ 128)) z ∙ xor_zero_r sum)
raised_value sum i (c ∷ cs) =
    raised_value (bit_xor sum (bit_and c wide_fifths * 2 ^ i % 2 ^ 128)) (suc i) cs
    ∙ (xor_assoc sum (bit_and c wide_fifths * 2 ^ i % 2 ^ 128) (value (masked cs) * 2 ^ suc i % 2 ^ 128)
    ∙ ap (bit_xor sum)
    (sym (raised_within i (bit_and c wide_fifths) (value (masked cs) * 2 ^ 1)
    ∙ ap (λ (x : ℕ). bit_xor (bit_and c wide_fifths * 2 ^ i % 2 ^ 128) (x % 2 ^ 128)) (raised_before (value (masked cs)) i))))

whole : (c : ℕ) (cs : List ℕ) → raised_on (bit_and c wide_fifths) 1 cs ≡ value (masked (c ∷ cs)) % 2 ^ 128
unfolding value masked
whole c cs =
    let small : bit_and c wide_fifths % 2 ^ 128 ≡ bit_and c wide_fifths =
    let top = and_le_r c wide_fifths in omega (arith, top) in
    raised_value (bit_and c wide_fifths) 1 cs
    ∙ (ap (λ (x : ℕ). bit_xor x (value (masked cs) * 2 ^ 1 % 2 ^ 128)) (sym small)
    ∙ sym (xor_mod (bit_and c wide_fifths) (value (masked cs) * 2 ^ 1) 128))

-- so many of a word's numbers, from this one on
fifths_from : ℕ → ℕ → ℕ → List ℕ
fifths_from zero i x = []
fifths_from (suc n) i x = bit_and (x / 2 ^ i) each_fifth ∷ fifths_from n (suc i) x

from_linear : (n i : ℕ) → IsLinear (λ x. value (fifths_from n i x))
unfolding value fifths_from
from_linear zero i = λ a b. sym (xor_zero_l 0)
from_linear (suc n) i =
    sum_linear (λ x. bit_and (x / 2 ^ i) each_fifth) (λ x. value (fifths_from n (suc i) x) * 2 ^ 1)
    (then_linear (λ x. x / 2 ^ i) (λ x. bit_and x each_fifth) (lowered i) (masked_linear 64 each_fifth (omega arith)))
    (then_linear (λ x. value (fifths_from n (suc i) x)) (λ x. x * 2 ^ 1) (from_linear n (suc i)) (raised 1))

fifths_linear : IsLinear (λ x. value (fifths x))
unfolding value fifths fifths_from
fifths_linear =
    sum_linear (λ x. bit_and x each_fifth) (λ x. value (fifths_from 4 1 x) * 2 ^ 1) (masked_linear 64 each_fifth (omega arith))
    (then_linear (λ x. value (fifths_from 4 1 x)) (λ x. x * 2 ^ 1) (from_linear 4 1) (raised 1))

power_kept : ℕ → Bool
power_kept k = eqb (value (fifths (2 ^ k))) (2 ^ k)

all_kept : all_below 64 power_kept ≡ true
unfolding power_kept value fifths
all_kept = refl

-- a word's five numbers are together the word
word_of : (x : ℕ) → x < 2 ^ 64 → value (fifths x) ≡ x
unfolding power_kept
word_of x h =
    agree (λ a. value (fifths a)) (λ a. a) 64 fifths_linear same_linear (at_none (λ a. value (fifths a)) fifths_linear)
    (λ k l. eqb-true (value (fifths (2 ^ k))) (2 ^ k) (at_each 64 power_kept all_kept k l)) x h

each_holed : (x : ℕ) → x < 2 ^ 64 → EachHoled (fifths x)
unfolding fifths
each_holed x h =
    (fifth_holed x h, (fifth_holed (x / 2 ^ 1) (omega arith), (fifth_holed (x / 2 ^ 2) (omega arith), (fifth_holed (x / 2 ^ 3) (omega arith), (fifth_holed (x / 2 ^ 4) (omega arith), tt)))))

five : (x : ℕ) → length (fifths x) ≤ 60
unfolding fifths
five x = omega arith

-- the products of two words' numbers, es the code has them
abbrev pub joined : List ℕ → List ℕ → ℕ
joined a b =
    let m : ℕ → ℕ = λ c. bit_and c wide_fifths in
    let p : ℕ → ℕ → ℕ = λ i j. slice_index a i * slice_index b j in
    let c0 = p 0 0 in
    let c1 = bit_xor (p 0 1) (p 1 0) in
    let c2 = bit_xor (bit_xor (p 0 2) (p 1 1)) (p 2 0) in
    let c3 = bit_xor (bit_xor (bit_xor (p 0 3) (p 1 2)) (p 2 1)) (p 3 0) in
    let c4 = bit_xor (bit_xor (bit_xor (bit_xor (p 0 4) (p 1 3)) (p 2 2)) (p 3 1)) (p 4 0) in
    let c5 = bit_xor (bit_xor (bit_xor (p 1 4) (p 2 3)) (p 3 2)) (p 4 1) in
    let c6 = bit_xor (bit_xor (p 2 4) (p 3 3)) (p 4 2) in
    let c7 = bit_xor (p 3 4) (p 4 3) in
    let c8 = p 4 4 in
    bit_xor (bit_xor (bit_xor (bit_xor (bit_xor (bit_xor (bit_xor (bit_xor (m c0) (m c1 * 2 ^ 1 % 2 ^ 128)) (m c2 * 2 ^ 2 % 2 ^ 128)) (m c3 * 2 ^ 3 % 2 ^ 128)) (m c4 * 2 ^ 4 % 2 ^ 128))
    (m c5 * 2 ^ 5 % 2 ^ 128)) (m c6 * 2 ^ 6 % 2 ^ 128)) (m c7 * 2 ^ 7 % 2 ^ 128)) (m c8 * 2 ^ 8 % 2 ^ 128)

head_or : List ℕ → ℕ
head_or [] = 0
head_or (c ∷ cs) = c

rest_of : List ℕ → List ℕ
rest_of [] = []
rest_of (c ∷ cs) = cs

joined_of : (x y : ℕ) → joined (fifths x) (fifths y) ≡ value (masked (places 0 [] (fifths x) (fifths y))) % 2 ^ 128
unfolding fifths places added added_at scaled raised_on head_or rest_of
joined_of x y = whole (head_or (places 0 [] (fifths x) (fifths y))) (rest_of (places 0 [] (fifths x) (fifths y)))

-- they are the product of the words
pub words_are : (x y : ℕ) → x < 2 ^ 64 → y < 2 ^ 64 → carryless x y ≡ joined (fifths x) (fifths y)
unfolding masked value
words_are x y h l =
    let all : value (masked (places 0 [] (fifths x) (fifths y))) ≡ carryless x y =
    value_places 0 [] (fifths x) (fifths y) (five x) (each_holed x h) (each_holed y l)
    ∙ (xor_zero_l (carryless (value (fifths x)) (value (fifths y)) * 2 ^ 0)
    ∙ (ap₂ (λ (a b : ℕ). carryless a b * 2 ^ 0) (word_of x h) (word_of y l) ∙ (let e : carryless x y * 2 ^ 0 ≡ carryless x y = omega arith in e))) in
    let bound = words_bound x y h l in
    sym (joined_of x y ∙ (ap (λ (n : ℕ). n % 2 ^ 128) all ∙ (let e : carryless x y % 2 ^ 128 ≡ carryless x y = omega (arith, bound) in e)))
