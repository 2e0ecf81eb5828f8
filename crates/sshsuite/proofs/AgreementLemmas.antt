-- Two sides of diffie-hellman-group14-sha256 come to one shared secret.

use Rattle.std.proofs.Common.{◌≡◌, ℕ, zero, suc, ◌+◌, ◌-◌, ◌*◌, ◌/◌, ◌%◌, ◌^◌, ◌<◌, Bool, true, List, [], ◌∷◌, length, refl, sym, ap, ◌∙◌, arith, cond, eqb, leb, ltb}
use Rattle.std.proofs.Math.Nat.{div-add-mod, mod-eq_of_lt, mod-one, pos_of_ne-zero, pow-suc, pow-zero}
use Rattle.std.proofs.lemmas.Bool.{and_parts, cond_both, eqb-false, eqb-true, leb-false, lt-ltb, ltb-true}
use Rattle.std.proofs.lemmas.Nat.{mod-mul-add, mod_below, mul-add-lt, pow-add, pow-mod}
use Rattle.std.specs.Int.{byte_at, bytes_high_first}
use Rattle.std.specs.Prelude.{◌&&◌, None, Some}
use Rattle.sshsuite.specs.Group14.{bytes_high, generator, group14_share, group14_shared, is_positive_body, is_within, number_body, number_high, peer_number, power, prime, secret_body, secret_with}
use Rattle.sshsuite.specs.Group14Laws.{byte_is, length_high, prime_short, some_power}
use Rattle.sshsuite.specs.MpintBody.{mpint_body}
use Rattle.sshcurve.specs.Scalar.{number_in}

-- The number of the bytes of a number.
split : (n w : ℕ) → 0 < w → n / w % 256 * w + n % w ≡ n % (w * 256)
split n w some =
    let q : ℕ = n / w in
    let low : n % w < w = mod_below n w some in
    let whole : w * q + n % w ≡ n = div-add-mod n w in
    let parts : q ≡ q / 256 * 256 + q % 256 = omega arith in
    let e : w * q ≡ q / 256 * (w * 256) + q % 256 * w = ap (λ (k : ℕ). w * k) parts ∙ spread w (q / 256) (q % 256) in
    let both : q / 256 * (w * 256) + (q % 256 * w + n % w) ≡ n = omega (arith, whole, e) in
    let fits : q % 256 * w + n % w < w * 256 = mul-add-lt (q % 256) w (n % w) 256 (omega arith) low in
    sym (mod-mul-add (q / 256) (w * 256) (q % 256 * w + n % w) fits) ∙ ap (λ (k : ℕ). k % (w * 256)) both
  where
    spread : (w a b : ℕ) → w * (a * 256 + b) ≡ a * (w * 256) + b * w
    spread w a b = omega arith

high_of_bytes : (k n : ℕ) → number_high (bytes_high_first k n) ≡ n % 256 ^ k
unfolding number_high
high_of_bytes zero n = sym (ap (λ (d : ℕ). n % d) (pow-zero 256) ∙ mod-one n)
high_of_bytes (suc k) n =
    let rest = high_of_bytes k n in
    let long = length_high k n in
    let more : 256 ^ suc k ≡ 256 ^ k * 256 = pow-suc 256 k in
    let front : byte_at k n * 256 ^ length (bytes_high_first k n) ≡ n / 256 ^ k % 256 * 256 ^ k = ap (λ (b : ℕ). b * 256 ^ length (bytes_high_first k n)) (byte_is k n) ∙ ap (λ (d : ℕ). n / 256 ^ k % 256 * 256 ^ d) long in
    let all : byte_at k n * 256 ^ length (bytes_high_first k n) + number_high (bytes_high_first k n) ≡ n / 256 ^ k % 256 * 256 ^ k + n % 256 ^ k = omega (arith, front, rest) in
    all ∙ split n (256 ^ k) (some_power k) ∙ ap (λ (d : ℕ). n % d) (sym more)

-- Bodies.
nothing : (b n : ℕ) → b ≡ 0 → b * n ≡ 0
nothing b n e = rw e (omega arith)

high_of_body : (bytes : List ℕ) → number_high (mpint_body bytes) ≡ number_high bytes
unfolding number_high
high_of_body [] = refl
high_of_body (b ∷ bytes) =
    let w : ℕ = 256 ^ length bytes in
    let all : ℕ = b * w + number_high bytes in
    cond_both (eqb b 0) (mpint_body bytes) (cond (leb 128 b) (0 ∷ b ∷ bytes) (b ∷ bytes)) (λ (xs : List ℕ). number_high xs ≡ all)
    (λ is. let none = nothing b w (eqb-true b 0 is) in let rest = high_of_body bytes in omega (arith, none, rest))
    (λ _. cond_both (leb 128 b) (0 ∷ b ∷ bytes) (b ∷ bytes) (λ (xs : List ℕ). number_high xs ≡ all) (λ _. omega arith) (λ _. refl))

body_positive : (bytes : List ℕ) → 0 < number_high bytes → is_positive_body (mpint_body bytes) ≡ true
unfolding number_high is_positive_body
body_positive [] h = absurd (omega arith)
body_positive (b ∷ bytes) h =
    cond_both (eqb b 0) (mpint_body bytes) (cond (leb 128 b) (0 ∷ b ∷ bytes) (b ∷ bytes)) (λ (xs : List ℕ). is_positive_body xs ≡ true)
    (λ is. let none = nothing b (256 ^ length bytes) (eqb-true b 0 is) in body_positive bytes (omega (arith, none, h)))
    (λ isnt. cond_both (leb 128 b) (0 ∷ b ∷ bytes) (b ∷ bytes) (λ (xs : List ℕ). is_positive_body xs ≡ true)
    (λ high. high) (λ low. plain b bytes (pos_of_ne-zero (eqb-false b 0 isnt)) (leb-false 128 b low)))
  where
    plain : (b : ℕ) (bytes : List ℕ) → 0 < b → b < 128 → is_positive_body (b ∷ bytes) ≡ true
    plain b [] some low = let e = lt-ltb 0 b some in let f = lt-ltb b 128 low in rw (e, f) refl
    plain b (c ∷ bytes) some low = let e = lt-ltb 0 b some in let f = lt-ltb b 128 low in rw (e, f) refl

-- a share is read as its number
pub read_of_body : (n : ℕ) → is_within n ≡ true → peer_number (number_body n) ≡ Some n
unfolding peer_number number_body bytes_high
read_of_body n within =
    let bytes : List ℕ = bytes_high_first 256 n in
    let low = ltb-true 1 n (and_parts (ltb 1 n) (ltb n (prime - 1)) within).0 in
    let high = ltb-true n (prime - 1) (and_parts (ltb 1 n) (ltb n (prime - 1)) within).1 in
    let short = prime_short in
    let fits : n < 256 ^ 256 = omega (arith, high, short) in
    let is : number_high bytes ≡ n = high_of_bytes 256 n ∙ mod-eq_of_lt fits in
    let same : number_high (mpint_body bytes) ≡ n = high_of_body bytes ∙ is in
    let positive : is_positive_body (mpint_body bytes) ≡ true = body_positive bytes (omega (arith, is, low)) in
    given (is_positive_body (mpint_body bytes)) (number_high (mpint_body bytes)) n positive same within
  where
    given : (b : Bool) (m n : ℕ) → b ≡ true → m ≡ n → is_within n ≡ true → cond (b && is_within m) (Some m) None ≡ Some n
    given b m n eb em within = rw (eb, em, within) refl

-- Powers of powers.
pow_twice : (g a b : ℕ) → (g ^ a) ^ b ≡ g ^ (a * b)
pow_twice g a zero = let e : a * 0 ≡ 0 = omega arith in pow-zero (g ^ a) ∙ sym (ap (λ (k : ℕ). g ^ k) e ∙ pow-zero g)
pow_twice g a (suc b) =
    let e : a * suc b ≡ a * b + a = omega arith in
    pow-suc (g ^ a) b ∙ ap (λ (k : ℕ). k * g ^ a) (pow_twice g a b) ∙ sym (ap (λ (k : ℕ). g ^ k) e ∙ pow-add g (a * b) a)

exchanged : (g a b p : ℕ) → (g ^ a % p) ^ b % p ≡ (g ^ b % p) ^ a % p
exchanged g a b p =
    let e : a * b ≡ b * a = omega arith in
    pow-mod (g ^ a) b p ∙ ap (λ (k : ℕ). k % p) (pow_twice g a b ∙ ap (λ (k : ℕ). g ^ k) e ∙ sym (pow_twice g b a)) ∙ sym (pow-mod (g ^ b) a p)

powers_agree : (x y : List ℕ) → power (power generator y) x ≡ power (power generator x) y
unfolding power
powers_agree x y = exchanged generator (number_in y) (number_in x) prime

shared_is : (x y : List ℕ) → is_within (power generator y) ≡ true → group14_shared x (group14_share y) ≡ secret_with x (Some (power generator y))
unfolding group14_shared group14_share
shared_is x y within = ap (secret_with x) (read_of_body (power generator y) within)

same_secret : (x y : List ℕ) → secret_with x (Some (power generator y)) ≡ secret_with y (Some (power generator x))
unfolding secret_with
same_secret x y = ap secret_body (powers_agree x y)

pub shared_agree : (x y : List ℕ) → is_within (power generator x) ≡ true → is_within (power generator y) ≡ true → group14_shared x (group14_share y) ≡ group14_shared y (group14_share x)
shared_agree x y hx hy = shared_is x y hy ∙ same_secret x y ∙ sym (shared_is y x hx)
