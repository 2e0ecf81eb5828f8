-- Powers modulo any odd number, divided by a power of 2^8192.

use Rattle.std.proofs.Common.{◌≡◌, ℕ, zero, suc, ◌+◌, ◌-◌, ◌*◌, ◌/◌, ◌%◌, ◌^◌, ◌<◌, ◌≤◌, refl, sym, ap, ap₂, ◌∙◌, add-one, arith, List, eqb, length}
use Rattle.std.proofs.lemmas.Bool.{eq-eqb, eqb-true}
use Rattle.std.proofs.Math.Nat.{add-mul-mod_self_left, div-add-mod, div-div-eq-div-mul, mod-eq_of_lt, mul-mod_right, pow-suc, pow-zero}
use Rattle.std.proofs.lemmas.Nat.{mod-mul-add, mul-mod, mul-mod_first, mul-mod_second, mul-pow, pow-add}
use Rattle.std.specs.Prelude.{slice_index}
use Rattle.sshsuite.specs.LongNumbers.{number_of, weight}
use Rattle.sshsuite.proofs.LongNumberLemmas.{number_all}
use Rattle.sshsuite.proofs.MontgomeryLemmas.{lowest}
use Rattle.sshsuite.proofs.PowerLemmas.{cancelled}
use Rattle.sshsuite.proofs.TestLemmas.{by_both}

-- The inverse of an odd word.
pub refined_is : (odd y : ℕ) → (odd * (y * ((odd * y % 2 ^ 64 + 2) % 2 ^ 64) % 2 ^ 64) + 1) % 2 ^ 64 ≡ (odd * y + 1) * (odd * y + 1) % 2 ^ 64
refined_is odd y =
    let w : ℕ = 2 ^ 64 in
    let z : ℕ = (odd * y % w + 2) % w in
    rest odd y (odd * y) (odd * y % w) (odd * y / w) z ((odd * y % w + 2) / w) (y * z % w) (y * z / w) refl (omega arith) (omega arith) (omega arith)
  where
    same : (x k y : ℕ) → x + 2 ^ 64 * k ≡ y → x % 2 ^ 64 ≡ y % 2 ^ 64
    same x k y e = omega arith

    rest : (odd y t t1 q1 z q2 r q3 : ℕ) → t ≡ odd * y → t ≡ 2 ^ 64 * q1 + t1 → t1 + 2 ≡ 2 ^ 64 * q2 + z → y * z ≡ 2 ^ 64 * q3 + r → (odd * r + 1) % 2 ^ 64 ≡ (t + 1) * (t + 1) % 2 ^ 64
    rest odd y t t1 q1 z q2 r q3 et e1 e2 e3 =
        let m1 : t * t ≡ t * (2 ^ 64 * q1 + t1) = ap (λ (n : ℕ). t * n) e1 in
        let m2 : t * (t1 + 2) ≡ t * (2 ^ 64 * q2 + z) = ap (λ (n : ℕ). t * n) e2 in
        let m3 : odd * (y * z) ≡ odd * (2 ^ 64 * q3 + r) = ap (λ (n : ℕ). odd * n) e3 in
        let m4 : odd * (y * z) ≡ t * z = rw et (omega arith) in
        same (odd * r + 1) (odd * q3 + t * q2 + t * q1) ((t + 1) * (t + 1)) (omega (arith, m1, m2, m3, m4))

-- twice as many zeros
doubled : (k m a b : ℕ) → 2 ^ 64 ≡ k * k * m → a % k ≡ 0 → b % 2 ^ 64 ≡ a * a % 2 ^ 64 → b % (k * k) ≡ 0
doubled k m a b e h is =
    let q : ℕ = a / k in
    let whole : a ≡ k * q = let parts = div-add-mod a k in omega (arith, parts, h) in
    let u : ℕ = b / 2 ^ 64 in
    let v : ℕ = a * a / 2 ^ 64 in
    let f : b + 2 ^ 64 * v ≡ a * a + 2 ^ 64 * u = omega (arith, is) in
    let g : b + k * k * (m * v) ≡ k * k * (q * q + m * u) = joined k m a b q u v e whole f in
    sym (add-mul-mod_self_left b (k * k) (m * v)) ∙ ap (λ (n : ℕ). n % (k * k)) g ∙ mul-mod_right (k * k) (q * q + m * u)
  where
    joined : (k m a b q u v : ℕ) → 2 ^ 64 ≡ k * k * m → a ≡ k * q → b + 2 ^ 64 * v ≡ a * a + 2 ^ 64 * u → b + k * k * (m * v) ≡ k * k * (q * q + m * u)
    joined k m a b q u v e w f =
        let e1 : 2 ^ 64 * v ≡ k * k * m * v = ap (λ (n : ℕ). n * v) e in
        let e2 : 2 ^ 64 * u ≡ k * k * m * u = ap (λ (n : ℕ). n * u) e in
        let e3 : a * a ≡ k * q * (k * q) = ap₂ ◌*◌ w w in omega (arith, e1, e2, e3, f)

pub inverted : (odd y1 y2 y3 y4 y5 y6 : ℕ) → odd % 2 ≡ 1
    → (odd * y1 + 1) % 2 ^ 64 ≡ (odd * 1 + 1) * (odd * 1 + 1) % 2 ^ 64 → (odd * y2 + 1) % 2 ^ 64 ≡ (odd * y1 + 1) * (odd * y1 + 1) % 2 ^ 64
    → (odd * y3 + 1) % 2 ^ 64 ≡ (odd * y2 + 1) * (odd * y2 + 1) % 2 ^ 64 → (odd * y4 + 1) % 2 ^ 64 ≡ (odd * y3 + 1) * (odd * y3 + 1) % 2 ^ 64
    → (odd * y5 + 1) % 2 ^ 64 ≡ (odd * y4 + 1) * (odd * y4 + 1) % 2 ^ 64 → (odd * y6 + 1) % 2 ^ 64 ≡ (odd * y5 + 1) * (odd * y5 + 1) % 2 ^ 64
    → (odd * y6 + 1) % 2 ^ 64 ≡ 0
inverted odd y1 y2 y3 y4 y5 y6 h e1 e2 e3 e4 e5 e6 =
    let d1 : (odd * y1 + 1) % 2 ^ 2 ≡ 0 = doubled 2 (2 ^ 62) (odd * 1 + 1) (odd * y1 + 1) refl (omega (arith, h)) e1 in
    let d2 : (odd * y2 + 1) % 2 ^ 4 ≡ 0 = doubled (2 ^ 2) (2 ^ 60) (odd * y1 + 1) (odd * y2 + 1) refl d1 e2 in
    let d3 : (odd * y3 + 1) % 2 ^ 8 ≡ 0 = doubled (2 ^ 4) (2 ^ 56) (odd * y2 + 1) (odd * y3 + 1) refl d2 e3 in
    let d4 : (odd * y4 + 1) % 2 ^ 16 ≡ 0 = doubled (2 ^ 8) (2 ^ 48) (odd * y3 + 1) (odd * y4 + 1) refl d3 e4 in
    let d5 : (odd * y5 + 1) % 2 ^ 32 ≡ 0 = doubled (2 ^ 16) (2 ^ 32) (odd * y4 + 1) (odd * y5 + 1) refl d4 e5 in
    doubled (2 ^ 32) 1 (odd * y5 + 1) (odd * y6 + 1) refl d5 e6

-- Steps of a power.
more : (r x y m : ℕ) → x % m ≡ y % m → r * x % m ≡ r * y % m
more r x y m e = sym (mul-mod_second r x m) ∙ ap (λ (n : ℕ). r * n % m) e ∙ mul-mod_second r y m

both : (x y u v m : ℕ) → x % m ≡ u % m → y % m ≡ v % m → x * y % m ≡ u * v % m
both x y u v m e f = mul-mod x y m ∙ ap₂ (λ (a b : ℕ). a * b % m) e f ∙ sym (mul-mod u v m)

pub squared_is : (r n p b q m : ℕ) → r * q % m ≡ p * p % m → r ^ n * p % m ≡ b ^ (n + 1) % m → r ^ (2 * n + 1) * q % m ≡ b ^ (2 * n + 1 + 1) % m
squared_is r n p b q m e h =
    let k : ℕ = r ^ n in
    let split : r ^ (2 * n + 1) ≡ k * k * r = power_twice r n in
    let turned : k * k * r * q ≡ k * k * (r * q) = omega arith in
    let paired : k * k * (p * p) ≡ k * p * (k * p) = omega arith in
    let at : n + 1 + (n + 1) ≡ 2 * n + 1 + 1 = omega arith in
    ap (λ (x : ℕ). x * q % m) split ∙ ap (λ (x : ℕ). x % m) turned ∙ more (k * k) (r * q) (p * p) m e ∙ ap (λ (x : ℕ). x % m) paired
    ∙ both (k * p) (k * p) (b ^ (n + 1)) (b ^ (n + 1)) m h h ∙ ap (λ (x : ℕ). x % m) (sym (pow-add b (n + 1) (n + 1))) ∙ ap (λ (x : ℕ). b ^ x % m) at
  where
    power_twice : (r n : ℕ) → r ^ (2 * n + 1) ≡ r ^ n * r ^ n * r
    power_twice r n =
        let at : 2 * n + 1 ≡ suc (n + n) = omega arith in
        ap (λ (x : ℕ). r ^ x) at ∙ pow-suc r (n + n) ∙ ap (λ (x : ℕ). x * r) (pow-add r n n)

pub multiplied_is : (r n b q u m : ℕ) → r * u % m ≡ q * b % m → r ^ n * q % m ≡ b ^ (n + 1) % m → r ^ (n + 1) * u % m ≡ b ^ (n + 1 + 1) % m
multiplied_is r n b q u m e h =
    let k : ℕ = r ^ n in
    let split : r ^ (n + 1) ≡ k * r = ap (λ (x : ℕ). r ^ x) (add-one n) ∙ pow-suc r n in
    let turned : k * r * u ≡ k * (r * u) = omega arith in
    let moved : k * (q * b) ≡ k * q * b = omega arith in
    ap (λ (x : ℕ). x * u % m) split ∙ ap (λ (x : ℕ). x % m) turned ∙ more k (r * u) (q * b) m e ∙ ap (λ (x : ℕ). x % m) moved
    ∙ both (k * q) b (b ^ (n + 1)) b m h refl ∙ ap (λ (x : ℕ). x % m) (sym (pow-suc b (n + 1)) ∙ ap (λ (x : ℕ). b ^ x) (sym (add-one (n + 1))))

pub even_step : (r n p b q m bit : ℕ) → bit ≡ 0 → r * q % m ≡ p * p % m → r ^ n * p % m ≡ b ^ (n + 1) % m → r ^ (2 * n + 1 + bit) * q % m ≡ b ^ (2 * n + 1 + bit + 1) % m
even_step r n p b q m bit e sq h =
    let at : 2 * n + 1 + bit ≡ 2 * n + 1 = omega (arith, e) in
    rw at (squared_is r n p b q m sq h)

pub odd_step : (r n p b q u m bit : ℕ) → bit ≡ 1 → r * q % m ≡ p * p % m → r * u % m ≡ q * b % m → r ^ n * p % m ≡ b ^ (n + 1) % m
    → r ^ (2 * n + 1 + bit) * u % m ≡ b ^ (2 * n + 1 + bit + 1) % m
odd_step r n p b q u m bit e sq pr h =
    rw e (multiplied_is r (2 * n + 1) b q u m pr (squared_is r n p b q m sq h))

-- A power, by the bits of the exponent, the highest first.
unfoldable pub IsScaled : ℕ → ℕ → ℕ → ℕ → ℕ → ℕ → Type 0
IsScaled r e b m i p = r ^ (e / 2 ^ (32 - i) - 1) * p % m ≡ b ^ (e / 2 ^ (32 - i) - 1 + 1) % m

pub scaled_by : (r b m n k p : ℕ) → n ≡ k → r ^ n * p % m ≡ b ^ (n + 1) % m → r ^ k * p % m ≡ b ^ (k + 1) % m
scaled_by r b m n k p e h = rw e at h

itself : (r b m : ℕ) → r ^ 0 * b % m ≡ b ^ (0 + 1) % m
itself r b m =
    let one : r ^ 0 * b ≡ b = rw (pow-zero r) (omega arith) in
    let same : b ^ 1 ≡ b = pow-suc b 0 ∙ rw (pow-zero b) (omega arith) in
    ap (λ (n : ℕ). n % m) (one ∙ sym same)

front_of : (e i : ℕ) → i < 32 → e / 2 ^ (31 - i) / 2 ≡ e / 2 ^ (32 - i)
front_of e i h =
    let at : suc (31 - i) ≡ 32 - i = omega arith in
    div-div-eq-div-mul e (2 ^ (31 - i)) 2 ∙ ap (λ (n : ℕ). e / n) (sym (pow-suc 2 (31 - i)) ∙ ap (λ (n : ℕ). 2 ^ n) at)

pub scaled_none : (r e b m : ℕ) → e < 2 ^ 32 → IsScaled r e b m 0 b
unfolding IsScaled
scaled_none r e b m h =
    let none : 0 ≡ e / 2 ^ (32 - 0) - 1 = omega arith in
    scaled_by r b m 0 (e / 2 ^ (32 - 0) - 1) b none (itself r b m)

pub scaled_same : (r e b m i f p : ℕ) → i < 32 → f ≡ e / 2 ^ (31 - i) → f ≤ 1 → IsScaled r e b m i p → IsScaled r e b m (i + 1) p
unfolding IsScaled
scaled_same r e b m i f p h is low so =
    let q = front_of e i h in
    let at : 31 - i ≡ 32 - (i + 1) = omega arith in
    let next : f ≡ e / 2 ^ (32 - (i + 1)) = is ∙ ap (λ (n : ℕ). e / 2 ^ n) at in
    let half : f / 2 ≡ e / 2 ^ (32 - i) = ap (λ (n : ℕ). n / 2) is ∙ q in
    scaled_by r b m (e / 2 ^ (32 - i) - 1) (e / 2 ^ (32 - (i + 1)) - 1) p (omega (arith, low, next, half)) so

pub scaled_more : (r e b m i f p u : ℕ) → i < 32 → f ≡ e / 2 ^ (31 - i) → 1 < f → IsScaled r e b m i p
    → ((n : ℕ) → r ^ n * p % m ≡ b ^ (n + 1) % m → r ^ (2 * n + 1 + f % 2) * u % m ≡ b ^ (2 * n + 1 + f % 2 + 1) % m) → IsScaled r e b m (i + 1) u
unfolding IsScaled
scaled_more r e b m i f p u h is some so step =
    let q = front_of e i h in
    let at : 31 - i ≡ 32 - (i + 1) = omega arith in
    let next : f ≡ e / 2 ^ (32 - (i + 1)) = is ∙ ap (λ (n : ℕ). e / 2 ^ n) at in
    let half : f / 2 ≡ e / 2 ^ (32 - i) = ap (λ (n : ℕ). n / 2) is ∙ q in
    let n : ℕ = e / 2 ^ (32 - i) - 1 in
    scaled_by r b m (2 * n + 1 + f % 2) (e / 2 ^ (32 - (i + 1)) - 1) u (omega (arith, some, next, half)) (step n so)

pub scaled_all : (r e b m i p : ℕ) → i ≡ 32 → 0 < e → IsScaled r e b m i p → r ^ (e - 1) * p % m ≡ b ^ e % m
unfolding IsScaled
scaled_all r e b m i p at some so =
    let last : e / 2 ^ (32 - i) ≡ e = rw at (omega arith) in
    let plain = scaled_by r b m (e / 2 ^ (32 - i) - 1) (e - 1) p (ap (λ (n : ℕ). n - 1) last) so in
    let back : e - 1 + 1 ≡ e = omega arith in plain ∙ ap (λ (n : ℕ). b ^ n % m) back

-- A power of 2^8192 has an inverse modulo an odd number.
one_power : (x m j : ℕ) → 1 < m → x % m ≡ 1 → x ^ j % m ≡ 1
one_power x m zero h e = ap (λ (n : ℕ). n % m) (pow-zero x) ∙ mod-eq_of_lt h
one_power x m (suc j) h e =
    let rest : x ^ j % m ≡ 1 % m = one_power x m j h e ∙ sym (mod-eq_of_lt h) in
    let first : x % m ≡ 1 % m = e ∙ sym (mod-eq_of_lt h) in
    ap (λ (n : ℕ). n % m) (pow-suc x j) ∙ both (x ^ j) x 1 1 m rest first ∙ mod-eq_of_lt h

inverse_power : (x y m j : ℕ) → 1 < m → x * y % m ≡ 1 → x ^ j * y ^ j % m ≡ 1
inverse_power x y m j h e = ap (λ (n : ℕ). n % m) (sym (mul-pow x y j)) ∙ one_power (x * y) m j h e

weight_inverse : (n m e : ℕ) → 1 < m → m % 2 ≡ 1 → weight n ^ e * (((m + 1) / 2) ^ (64 * n)) ^ e % m ≡ 1
unfolding weight
weight_inverse n m e h odd =
    let half : 2 * ((m + 1) / 2) ≡ 1 * m + 1 = omega (arith, odd) in
    let one : 2 * ((m + 1) / 2) % m ≡ 1 = ap (λ (k : ℕ). k % m) half ∙ mod-mul-add 1 m 1 h in
    inverse_power (2 ^ (64 * n)) (((m + 1) / 2) ^ (64 * n)) m e h (inverse_power 2 ((m + 1) / 2) m (64 * n) h one)

-- Both sides of a comparison.
same_test : (a b c d : ℕ) → (a ≡ b → c ≡ d) → (c ≡ d → a ≡ b) → eqb a b ≡ eqb c d
same_test a b c d f g = by_both (eqb a b) (eqb c d) (λ h. eq-eqb c d (f (eqb-true a b h))) (λ h. eq-eqb a b (g (eqb-true c d h)))

scaled_side : (r e p k own u m : ℕ) → 0 < e → r * own % m ≡ p * k % m → r ^ (e - 1) * p % m ≡ u % m → r ^ e * own % m ≡ u * k % m
scaled_side r e p k own u m some ho hp =
    let at : suc (e - 1) ≡ e = omega arith in
    let w : ℕ = r ^ (e - 1) in
    let split : r ^ e ≡ w * r = ap (λ (n : ℕ). r ^ n) (sym at) ∙ pow-suc r (e - 1) in
    let turned : w * r * own ≡ w * (r * own) = omega arith in
    let moved : w * (p * k) ≡ w * p * k = omega arith in
    ap (λ (n : ℕ). n * own % m) split ∙ ap (λ (n : ℕ). n % m) turned ∙ more w (r * own) (p * k) m ho ∙ ap (λ (n : ℕ). n % m) moved ∙ both (w * p) k u k m hp refl

pub power_test : (n e b f m p s own other one : ℕ) → 0 < e → 1 < m → m % 2 ≡ 1 → one ≡ 1 → f < m → own < m → other < m
    → weight n ^ (e - 1) * p % m ≡ b ^ e % m → weight n ^ (e - 1) * s % m ≡ one ^ e % m → weight n * own % m ≡ p * one % m → weight n * other % m ≡ s * f % m
    → eqb own other ≡ eqb (b ^ e % m) f
power_test n e b f m p s own other one some big odd is low lo lx hp hs ho hx =
    let r : ℕ = weight n ^ e in
    let left : r * own % m ≡ b ^ e % m = scaled_side (weight n) e p one own (b ^ e) m some ho hp ∙ ap (λ (k : ℕ). b ^ e * k % m) is ∙ ap (λ (k : ℕ). k % m) (times_one (b ^ e)) in
    let right : r * other % m ≡ f =
    scaled_side (weight n) e s f other (one ^ e) m some hx hs ∙ ap (λ (k : ℕ). k ^ e * f % m) is ∙ sym (mul-mod_first (1 ^ e) f m) ∙ ap (λ (k : ℕ). k * f % m) (one_power 1 m e big (mod-eq_of_lt big)) ∙ ap (λ (k : ℕ). k % m) (one_times f) ∙ mod-eq_of_lt low in
    same_test own other (b ^ e % m) f
    (λ h. sym left ∙ ap (λ (k : ℕ). r * k % m) h ∙ right)
    (λ h. sym (mod-eq_of_lt lo) ∙ cancelled r ((((m + 1) / 2) ^ (64 * n)) ^ e) m own other (weight_inverse n m e big odd) big (left ∙ h ∙ sym right) ∙ mod-eq_of_lt lx)
  where
    times_one : (k : ℕ) → k * 1 ≡ k
    times_one k = omega arith

    one_times : (k : ℕ) → 1 * k ≡ k
    one_times k = omega arith

-- The lowest word of a number.
pub odd_word : (words : List ℕ) (n : ℕ) → length words ≡ n + 1 → number_of words % 2 ≡ 1 → slice_index words 0 % 2 ≡ 1
odd_word words n long odd =
    let parts = lowest words n in
    let whole = number_all words (n + 1) (sym long) in omega (arith, parts, whole, odd)

pub odd_test : (words : List ℕ) (n : ℕ) → length words ≡ n + 1 → eqb (slice_index words 0 % 2) 1 ≡ eqb (number_of words % 2) 1
odd_test words n long =
    let parts = lowest words n in
    let whole = number_all words (n + 1) (sym long) in
    let same : slice_index words 0 % 2 ≡ number_of words % 2 = omega (arith, parts, whole) in ap (λ (k : ℕ). eqb k 1) same

pub small_is : (words : List ℕ) (n : ℕ) → length words ≡ n + 1 → number_of words < 2 ^ 64 → slice_index words 0 ≡ number_of words
small_is words n long low =
    let parts = lowest words n in
    let whole = number_all words (n + 1) (sym long) in omega (arith, parts, whole, low)
