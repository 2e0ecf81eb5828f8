-- Powers modulo the prime of group 14, of numbers that are 2^2048 times the powers.

use Rattle.std.proofs.Common.{◌≡◌, ℕ, zero, suc, ◌+◌, ◌-◌, ◌*◌, ◌%◌, ◌^◌, ◌<◌, ◌≤◌, List, length, refl, sym, ap, ◌∙◌, add-one, arith, Bool, true, false, cond, eqb, ltb}
use Rattle.std.proofs.Math.Nat.{mod-eq_of_lt, pow-suc, pow-zero}
use Rattle.std.proofs.lemmas.Nat.{mod_below, mul-mod, mul-mod_first, mul-mod_second, pow-add}
use Rattle.std.proofs.lemmas.Bool.{and_parts, le-ltb, ltb-true}
use Rattle.std.specs.Prelude.{◌&&◌, Option, None, Some}
use Rattle.sshcurve.specs.Bits.{bit_at}
use Rattle.sshsuite.specs.Group14.{generator, is_positive_body, is_within, number_high, peer_number, power, prime}
use Rattle.sshsuite.specs.LongNumbers.{number_of, number_to, weight}
use Rattle.sshcurve.specs.Scalar.{number_in, number_to as bits_to}
use Rattle.sshsuite.specs.declared.group14.TheConstants.{ONE, PRIME, PRIME_LESS_ONE, TWO, UNIT, UNIT_SQUARE}

-- The constants.
pub prime_is : number_of PRIME ≡ prime
unfolding number_of number_to weight prime
prime_is = refl

pub less_one_is : number_of PRIME_LESS_ONE ≡ prime - 1
unfolding number_of number_to weight prime
less_one_is = refl

pub unit_is : number_of UNIT ≡ weight 32 * 1 % prime
unfolding number_of number_to weight prime
unit_is = refl

pub unit_square_is : number_of UNIT_SQUARE ≡ weight 32 * weight 32 % prime
unfolding number_of number_to weight prime
unit_square_is = refl

pub one_is : number_of ONE ≡ 1
unfolding number_of number_to weight
one_is = refl

pub two_is : number_of TWO ≡ generator
unfolding number_of number_to weight
two_is = refl

-- one through 2^2048, modulo the prime
abbrev inverse : ℕ
inverse = 0xf1d8005ff5b8c4112ffb39750e04f8f47b9f13a8b88bc0d138357328129d2c3f4fb076749f1093dafcf49f0dc56104d33e5d407469d9aa3c469dd452656c4b8c561ac43e5c47f020451eaf1b6d6b588b8369d0482fd5e6c8281582ff0f06d4e43f217fc36c8d15ae7ad34029dccfedd510771b76e4cd91bb6394e97b82ad74c62d747f72c59261cd43e22ff42b9c2053713e5fb11c276327a72545b06b5b32ce64efadef56a4345a22159875387974238f38ab5dd67c6e91116096a36ddd96a0f2111f35f58b216b80289086b09148f6dc5436edb441bc5ba41f0256a7f399daeae00940b306a2b0ed48a96bbcbc056c804cb001a0de6e7ef5a04400c911dbc3

inverse_is : weight 32 * inverse % prime ≡ 1
unfolding weight prime
inverse_is = refl

pub prime_big : 2 < prime
unfolding prime
prime_big = omega arith

pub one_below : number_of ONE < prime
one_below = let h = prime_big in rw one_is (omega (arith, h))

pub unit_square_below : number_of UNIT_SQUARE < prime
unit_square_below = let h = prime_big in rw unit_square_is (mod_below (weight 32 * weight 32) prime (omega (arith, h)))

-- a factor that has an inverse is left out
pub cancelled : (r k p u v : ℕ) → r * k % p ≡ 1 → 1 < p → r * u % p ≡ r * v % p → u % p ≡ v % p
cancelled r k p u v one some same = back u ∙ ap (λ (n : ℕ). k * n % p) same ∙ sym (back v)
  where
    back : (n : ℕ) → n % p ≡ k * (r * n % p) % p
    back n =
        let e : 1 * n ≡ n = omega arith in
        let f : r * k * n ≡ k * (r * n) = omega arith in
        sym (ap (λ (m : ℕ). m % p) e) ∙ ap (λ (m : ℕ). m * n % p) (sym one) ∙ mul-mod_first (r * k) n p ∙ ap (λ (m : ℕ). m % p) f ∙ sym (mul-mod_second k (r * n) p)

of_prime : (u v : ℕ) → weight 32 * u % prime ≡ weight 32 * v % prime → u < prime → u ≡ v % prime
of_prime u v e h = let big = prime_big in sym (mod-eq_of_lt h) ∙ cancelled (weight 32) inverse prime u v inverse_is (omega (arith, big)) e

-- a product of numbers that stand for u and v stands for the product
pub product_is : (a b out u v : ℕ) → weight 32 * out % prime ≡ a * b % prime → out < prime → a ≡ weight 32 * u % prime → b ≡ weight 32 * v % prime → out ≡ weight 32 * (u * v) % prime
product_is a b out u v e h ea eb =
    let r : ℕ = weight 32 in
    let f : r * u * (r * v) ≡ r * (r * (u * v)) = omega arith in
    of_prime out (r * (u * v))
    (e ∙ ap (λ (n : ℕ). n * b % prime) ea ∙ ap (λ (n : ℕ). r * u % prime * n % prime) eb ∙ sym (mul-mod (r * u) (r * v) prime) ∙ ap (λ (n : ℕ). n % prime) f) h

-- a number times 2^4096 stands for itself
pub factor_is : (base s out : ℕ) → weight 32 * out % prime ≡ base * s % prime → out < prime → s ≡ weight 32 * weight 32 % prime → out ≡ weight 32 * base % prime
factor_is base s out e h es =
    let r : ℕ = weight 32 in
    let f : base * (r * r) ≡ r * (r * base) = omega arith in
    of_prime out (r * base) (e ∙ ap (λ (n : ℕ). base * n % prime) es ∙ mul-mod_second base (r * r) prime ∙ ap (λ (n : ℕ). n % prime) f) h

-- what is stood for comes of the product with one
pub result_is : (a out u : ℕ) → weight 32 * out % prime ≡ a * 1 % prime → out < prime → a ≡ weight 32 * u % prime → out ≡ u % prime
result_is a out u e h ea =
    let f : weight 32 * u * 1 ≡ weight 32 * u = omega arith in
    of_prime out u (e ∙ ap (λ (n : ℕ). n * 1 % prime) ea ∙ mul-mod_first (weight 32 * u) 1 prime ∙ ap (λ (n : ℕ). n % prime) f) h

first : (y : ℕ) → y ^ 1 ≡ y
first y = let e : 1 * y ≡ y = omega arith in pow-suc y 0 ∙ (ap (λ (k : ℕ). k * y) (pow-zero y) ∙ e)

pub chosen_is : (x y bit : ℕ) (sq pr : List ℕ) → bit < 2 → number_of sq ≡ weight 32 * (x * x) % prime → number_of pr ≡ weight 32 * (x * x * y) % prime
    → number_of (cond (eqb bit 1) pr sq) ≡ weight 32 * (x * x * y ^ bit) % prime
chosen_is x y zero sq pr h e f =
    let g : x * x ≡ x * x * y ^ 0 = plain (x * x) (y ^ 0) (pow-zero y) in e ∙ ap (λ (n : ℕ). weight 32 * n % prime) g
  where
    plain : (n k : ℕ) → k ≡ 1 → n ≡ n * k
    plain n k e = rw e (omega arith)
chosen_is x y (suc zero) sq pr h e f = f ∙ ap (λ (n : ℕ). weight 32 * (x * x * n) % prime) (sym (first y))
chosen_is x y (suc (suc bit)) sq pr h e f = absurd (omega arith)

-- The bits of the exponent, the highest first.
pub power_none : (base : ℕ) (bytes : List ℕ) → weight 32 * 1 % prime ≡ weight 32 * base ^ bits_to bytes 0 % prime
unfolding bits_to
power_none base bytes = ap (λ (n : ℕ). weight 32 * n % prime) (sym (pow-zero base))

pub power_more : (base : ℕ) (bytes : List ℕ) (n : ℕ)
    → weight 32 * (base ^ bits_to bytes n * base ^ bits_to bytes n * base ^ bit_at bytes (8 * length bytes - 1 - n)) % prime ≡ weight 32 * base ^ bits_to bytes (n + 1) % prime
unfolding bits_to
power_more base bytes n =
    let k : ℕ = bits_to bytes n in
    let bit : ℕ = bit_at bytes (8 * length bytes - 1 - n) in
    let e : k + k + bit ≡ 2 * k + bit = omega arith in
    rw (add-one n) (ap (λ (m : ℕ). weight 32 * m % prime) (sym (pow-add base (k + k) bit ∙ ap (λ (m : ℕ). m * base ^ bit) (pow-add base k k)) ∙ ap (λ (m : ℕ). base ^ m) e))

pub power_all : (base : ℕ) (bytes : List ℕ) (i : ℕ) → i ≡ 8 * length bytes → base ^ bits_to bytes i % prime ≡ power base bytes
unfolding power number_in
power_all base bytes i e = ap (λ (n : ℕ). base ^ bits_to bytes n % prime) e

-- The modulus as the code has it.
pub below_modulus : (n : ℕ) → n < prime → n < number_of PRIME
below_modulus n h = rw prime_is h

pub below_prime : (n : ℕ) → n < number_of PRIME → n < prime
below_prime n h = rw prime_is at h

pub by_prime : (x y : ℕ) → x % number_of PRIME ≡ y % number_of PRIME → x % prime ≡ y % prime
by_prime x y h = rw prime_is at h

bit_true : (b : Bool) (r : ℕ) → r ≡ cond b 1 0 → eqb r 1 ≡ b
bit_true true r e = rw e refl
bit_true false r e = rw e refl

pub within_then : (n r s : ℕ) → r ≡ cond (ltb (number_of ONE) n) 1 0 → eqb r 1 ≡ true → s ≡ cond (ltb n (number_of PRIME_LESS_ONE)) 1 0 → eqb s 1 ≡ is_within n
within_then n r s er is es =
    let first : ltb 1 n ≡ true = ap (λ (k : ℕ). ltb k n) (sym one_is) ∙ sym (bit_true (ltb (number_of ONE) n) r er) ∙ is in
    rw first (bit_true (ltb n (number_of PRIME_LESS_ONE)) s es ∙ ap (ltb n) less_one_is)

pub within_else : (n r : ℕ) → r ≡ cond (ltb (number_of ONE) n) 1 0 → eqb r 1 ≡ false → eqb r 1 ≡ is_within n
within_else n r er isnt =
    let first : ltb 1 n ≡ false = ap (λ (k : ℕ). ltb k n) (sym one_is) ∙ sym (bit_true (ltb (number_of ONE) n) r er) ∙ isnt in
    rw first isnt

prime_fits : prime < weight 32
unfolding weight prime
prime_fits = omega arith

-- no number from 2^2048 on is in the range
pub beyond : (n : ℕ) → weight 32 ≤ n → is_within n ≡ false
beyond n h =
    let fits = prime_fits in
    let last : ltb n (prime - 1) ≡ false = le-ltb n (prime - 1) (omega (arith, fits)) in
    rw last (both_false (ltb 1 n))
  where
    both_false : (b : Bool) → (b && false) ≡ false
    both_false true = refl
    both_false false = refl

-- a peer's share
pub peer_refused : (peer : List ℕ) → is_positive_body peer ≡ false → ◌≡◌ {A = Option ℕ} None (peer_number peer)
unfolding peer_number
peer_refused peer e = rw e refl

pub peer_beyond : (peer : List ℕ) → is_positive_body peer ≡ true → weight 32 ≤ number_high peer → ◌≡◌ {A = Option ℕ} None (peer_number peer)
unfolding peer_number
peer_beyond peer e h = rw (e, beyond (number_high peer) h) refl

pub peer_is : (peer : List ℕ) → is_positive_body peer ≡ true → cond (is_within (number_high peer)) (Some (number_high peer)) None ≡ peer_number peer
unfolding peer_number
peer_is peer e = rw e refl

pub two_below : number_of TWO < prime
two_below = let h = prime_big in rw two_is (omega (arith, h))

small_of : (m n : ℕ) (b c : Bool) → is_within n ≡ c → ◌≡◌ {A = Option ℕ} (Some m) (cond (b && c) (Some n) None) → m < prime
small_of m n true true is e =
    let low = ltb-true n (prime - 1) (and_parts (ltb 1 n) (ltb n (prime - 1)) is).1 in
    let same : m ≡ n = same_some m n e in omega (arith, low, same)
  where
    same_some : (x y : ℕ) → ◌≡◌ {A = Option ℕ} (Some x) (Some y) → x ≡ y
    same_some x y e = cc
small_of m n true false is e = cc
small_of m n false c is e = cc

pub peer_small : (m : ℕ) (peer : List ℕ) → ◌≡◌ {A = Option ℕ} (Some m) (peer_number peer) → m < prime
unfolding peer_number
peer_small m peer e = small_of m (number_high peer) (is_positive_body peer) (is_within (number_high peer)) refl e
