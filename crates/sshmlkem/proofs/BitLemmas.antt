-- Bits of numbers, and numbers of bits.

use Rattle.std.proofs.Common.{◌≡◌, ℕ, zero, suc, ◌+◌, ◌-◌, ◌*◌, ◌/◌, ◌%◌, ◌^◌, ◌≤◌, ◌<◌, List, length, refl, sym, ap, ap₂, ◌∙◌, arith}
use Rattle.std.proofs.Math.Nat.{add-mul, add-mul-mod_self_right, mod-eq_of_lt, mul_assoc, mul_comm, pow-suc}
use Rattle.std.proofs.lemmas.List.{ext_get_or}
use Rattle.std.proofs.lemmas.List.FromFn.{get_or-map-range_with_len, length-map-range_with_len}
use Rattle.std.proofs.lemmas.Nat.{div-add-mod', div-mul-add, div_below, field_of, mod-mul-add, mod-pow-add, mod_below, mul-add-lt, mul-le, pow-add, shr-shr, shr_high}
use Rattle.std.specs.Prelude.{slice_index}
use Rattle.sshmlkem.specs.Bits.{bit_of, each, number_at, regrouped}

-- a table
pub each_at : (n : ℕ) (f : ℕ → ℕ) (k : ℕ) → k < n → slice_index (each n f) k ≡ f k
unfolding each
each_at n f k h = get_or-map-range_with_len f 0 n k k 0 h (omega arith)

pub each_long : (n : ℕ) (f : ℕ → ℕ) → length (each n f) ≡ n
unfolding each
each_long n f = length-map-range_with_len f 0 n

pub each_is : (n : ℕ) (f : ℕ → ℕ) (xs : List ℕ) → length xs ≡ n → ((k : ℕ) → k < n → slice_index xs k ≡ f k) → xs ≡ each n f
each_is n f xs long h =
    let own = each_long n f in
    ext_get_or 0 xs (each n f) (long ∙ sym own) (λ k less. let in' : k < n = omega (arith, less, long) in h k in' ∙ sym (each_at n f k in'))

pub each_same : (n : ℕ) (f g : ℕ → ℕ) → ((k : ℕ) → k < n → f k ≡ g k) → each n f ≡ each n g
each_same n f g h = each_is n g (each n f) (each_long n f) (λ k less. each_at n f k less ∙ h k less)

-- a bit
bit_below : (d : ℕ) (xs : List ℕ) (n : ℕ) → bit_of d xs n < 2
unfolding bit_of
bit_below d xs n = omega arith

pub bit_at : (d : ℕ) (xs : List ℕ) (i s n : ℕ) → n ≡ d * i + s → s < d → bit_of d xs n ≡ slice_index xs i / 2 ^ s % 2
unfolding bit_of
bit_at d xs i s n e h =
    let turned : n ≡ i * d + s = e ∙ ap (λ (x : ℕ). x + s) (mul_comm d i) in
    let row : n / d ≡ i = ap (λ (x : ℕ). x / d) turned ∙ div-mul-add i d s h in
    let column : n % d ≡ s = ap (λ (x : ℕ). x % d) turned ∙ mod-mul-add i d s h in
    ap₂ (λ (x y : ℕ). slice_index xs x / 2 ^ y % 2) row column

one_more : (n d : ℕ) → n % 2 ^ suc d ≡ n % 2 ^ d + n / 2 ^ d % 2 * 2 ^ d
one_more n d =
    let by = mod-pow-add n 1 d in
    let same : 1 + d ≡ suc d = omega arith in
    let at : n % 2 ^ suc d ≡ n / 2 ^ d % 2 * 2 ^ d + n % 2 ^ d = ap (λ (x : ℕ). n % 2 ^ x) (sym same) ∙ by in
    omega (arith, at)

-- bits that stand in one number
pub number_within : (d : ℕ) (xs : List ℕ) (i s n len : ℕ) → n ≡ d * i + s → s + len ≤ d → number_at d xs n len ≡ slice_index xs i / 2 ^ s % 2 ^ len
unfolding number_at
number_within d xs i s n zero e h = omega arith
number_within d xs i s n (suc len) e h =
    let before = number_within d xs i s n len e (omega (arith, h)) in
    let bit = bit_at d xs i (s + len) (n + len) (omega (arith, e)) (omega (arith, h)) in
    let x : ℕ = slice_index xs i in
    let apart : x / 2 ^ (s + len) % 2 ≡ x / 2 ^ s / 2 ^ len % 2 = ap (λ (y : ℕ). y % 2) (sym (shr-shr x s len)) in
    ap₂ (λ (a b : ℕ). a + b * 2 ^ len) before (bit ∙ apart) ∙ sym (one_more (x / 2 ^ s) len)

-- bits of two parts
pub number_split : (d : ℕ) (xs : List ℕ) (n p q : ℕ) → number_at d xs n (p + q) ≡ number_at d xs n p + number_at d xs (n + p) q * 2 ^ p
unfolding number_at
number_split d xs n p zero = let same : p + 0 ≡ p = omega arith in rw same (omega arith)
number_split d xs n p (suc q) =
    let same : p + suc q ≡ suc (p + q) = omega arith in
    let before = number_split d xs n p q in
    let a : ℕ = number_at d xs n p in
    let b : ℕ = number_at d xs (n + p) q in
    let c : ℕ = bit_of d xs (n + p + q) in
    let at : bit_of d xs (n + (p + q)) ≡ c = ap (bit_of d xs) (omega arith) in
    let powers : 2 ^ (p + q) ≡ 2 ^ q * 2 ^ p = pow-add 2 p q ∙ mul_comm (2 ^ p) (2 ^ q) in
    let last : c * 2 ^ (p + q) ≡ c * 2 ^ q * 2 ^ p = ap (λ (x : ℕ). c * x) powers ∙ sym (mul_assoc c (2 ^ q) (2 ^ p)) in
    let both : (b + c * 2 ^ q) * 2 ^ p ≡ b * 2 ^ p + c * 2 ^ q * 2 ^ p = add-mul b (c * 2 ^ q) (2 ^ p) in
    rw same (ap₂ (λ (x y : ℕ). x + y * 2 ^ (p + q)) before at ∙ omega (arith, last, both))

-- bits that stand in two numbers
pub number_of_two : (d : ℕ) (xs : List ℕ) (i s j t n p q : ℕ) → n ≡ d * i + s → s + p ≤ d → n + p ≡ d * j + t → t + q ≤ d
    → number_at d xs n (p + q) ≡ slice_index xs i / 2 ^ s % 2 ^ p + slice_index xs j / 2 ^ t % 2 ^ q * 2 ^ p
number_of_two d xs i s j t n p q e h f k =
    number_split d xs n p q ∙ ap₂ (λ (x y : ℕ). x + y * 2 ^ p) (number_within d xs i s n p e h) (number_within d xs j t (n + p) q f k)

-- a number of bits has these bits
pub number_below : (d : ℕ) (xs : List ℕ) (n len : ℕ) → number_at d xs n len < 2 ^ len
unfolding number_at
number_below d xs n zero = omega arith
number_below d xs n (suc len) =
    let before = number_below d xs n len in
    let low = bit_below d xs (n + len) in
    let most : bit_of d xs (n + len) * 2 ^ len ≤ 1 * 2 ^ len = mul-le (bit_of d xs (n + len)) (2 ^ len) 1 (2 ^ len) (omega (arith, low)) (omega arith) in
    let double = pow-suc 2 len in
    omega (arith, before, most, double)

low_part : (d : ℕ) (xs : List ℕ) (n p q : ℕ) → number_at d xs n (p + q) % 2 ^ p ≡ number_at d xs n p
low_part d xs n p q =
    let a : ℕ = number_at d xs n p in
    let small : a < 2 ^ p = number_below d xs n p in
    ap (λ (x : ℕ). x % 2 ^ p) (number_split d xs n p q) ∙ (add-mul-mod_self_right a (number_at d xs (n + p) q) (2 ^ p) ∙ mod-eq_of_lt small)

pub number_bit : (d : ℕ) (xs : List ℕ) (n len j : ℕ) → j < len → number_at d xs n len / 2 ^ j % 2 ≡ bit_of d xs (n + j)
unfolding number_at
number_bit d xs n len j h =
    let rest : ℕ = len - suc j in
    let all : suc j + rest ≡ len = omega arith in
    let a : ℕ = number_at d xs n len in
    let same : 1 + j ≡ suc j = omega arith in
    let cut : a % 2 ^ suc j ≡ number_at d xs n (suc j) = ap (λ (x : ℕ). number_at d xs n x % 2 ^ suc j) (sym all) ∙ low_part d xs n (suc j) rest in
    let whole : a % 2 ^ (1 + j) / 2 ^ j ≡ a / 2 ^ j % 2 = field_of a 1 j in
    let small = number_below d xs n j in
    let top : (bit_of d xs (n + j) * 2 ^ j + number_at d xs n j) / 2 ^ j ≡ bit_of d xs (n + j) = shr_high (bit_of d xs (n + j)) j (number_at d xs n j) small in
    let turned : number_at d xs n j + bit_of d xs (n + j) * 2 ^ j ≡ bit_of d xs (n + j) * 2 ^ j + number_at d xs n j = omega arith in
    sym whole ∙ (ap (λ (x : ℕ). a % 2 ^ x / 2 ^ j) same ∙ (ap (λ (x : ℕ). x / 2 ^ j) (cut ∙ turned) ∙ top))

-- bits that are the same make the same number
pub number_same : (d : ℕ) (xs : List ℕ) (n e : ℕ) (ys : List ℕ) (m len : ℕ) → ((j : ℕ) → j < len → bit_of d xs (n + j) ≡ bit_of e ys (m + j))
    → number_at d xs n len ≡ number_at e ys m len
unfolding number_at
number_same d xs n e ys m zero h = refl
number_same d xs n e ys m (suc len) h =
    ap₂ (λ (a b : ℕ). a + b * 2 ^ len) (number_same d xs n e ys m len (λ j less. h j (omega (arith, less)))) (h len (omega arith))

-- numbers that are put into other groups of bits, and back
bit_again : (v w m : ℕ) (xs : List ℕ) → 0 < w → (t : ℕ) → t < w * m → bit_of w (each m (λ k. number_at v xs (w * k) w)) t ≡ bit_of v xs t
unfolding bit_of
bit_again v w m xs some t h =
    let row : t / w < m = div_below t w m some (let turned = mul_comm w m in omega (arith, h, turned)) in
    let column : t % w < w = mod_below t w some in
    let place : w * (t / w) + t % w ≡ t = ap (λ (x : ℕ). x + t % w) (mul_comm w (t / w)) ∙ div-add-mod' t w in
    ap (λ (x : ℕ). x / 2 ^ (t % w) % 2) (each_at m (λ k. number_at v xs (w * k) w) (t / w) row)
    ∙ (number_bit v xs (w * (t / w)) w (t % w) column ∙ ap (bit_of v xs) place)

pub regrouped_back : (v w m n : ℕ) (xs : List ℕ) → 0 < v → 0 < w → v * n ≡ w * m → length xs ≡ n → ((i : ℕ) → slice_index xs i < 2 ^ v)
    → regrouped w v n (regrouped v w m xs) ≡ xs
unfolding regrouped
regrouped_back v w m n xs v_some w_some sizes long low =
    sym (each_is n (λ k. number_at w (each m (λ k. number_at v xs (w * k) w)) (v * k) v) xs long (λ k h. sym (back k h)))
  where
    whole : (x : ℕ) → x < 2 ^ v → x / 1 % 2 ^ v ≡ x
    whole x h = let one : x / 1 ≡ x = omega arith in ap (λ (y : ℕ). y % 2 ^ v) one ∙ mod-eq_of_lt h

    back : (k : ℕ) → k < n → number_at w (each m (λ k. number_at v xs (w * k) w)) (v * k) v ≡ slice_index xs k
    back k h =
        number_same w _ (v * k) v xs (v * k) v (λ j less. bit_again v w m xs w_some (v * k + j) (let in' = mul-add-lt k v j n h less in
        let one = mul_comm v k in let all = mul_comm n v in omega (arith, in', one, all, sizes)))
        ∙ (number_within v xs k 0 (v * k) v (omega arith) (omega arith) ∙ whole (slice_index xs k) (low k))
