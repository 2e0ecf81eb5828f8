-- The number of little-endian bytes, by bits and bytes; the bytes of a scalar have its number.

use Rattle.std.proofs.Common.{◌≡◌, ℕ, zero, suc, ◌+◌, ◌-◌, ◌*◌, ◌/◌, ◌%◌, ◌^◌, ◌<◌, ◌≤◌, List, [], ◌∷◌, ◌++◌, length, refl, sym, ap, ap₂, ◌∙◌, arith, slice_index, append-nil}
use Rattle.std.proofs.Math.Nat.{pow-suc, pow-zero, mod-one, div-one, div-div-eq-div-mul, mod-lt, div-add-mod}
use Rattle.std.proofs.lemmas.Nat.{mod-mul-add}
use Rattle.std.specs.Int.{byte_at, bytes_low_first}
use Rattle.sshcurve.specs.Bits.{bit_at}
use Rattle.sshcurve.specs.Scalar.{number_to, number_in, bytes_of_halves, encode_scalar}

-- the number of eight bits
abbrev pub byte_bits : ℕ → ℕ
byte_bits b = b / 2 ^ 0 % 2 + 2 * (b / 2 ^ 1 % 2) + 4 * (b / 2 ^ 2 % 2) + 8 * (b / 2 ^ 3 % 2) + 16 * (b / 2 ^ 4 % 2) + 32 * (b / 2 ^ 5 % 2) + 64 * (b / 2 ^ 6 % 2) + 128 * (b / 2 ^ 7 % 2)

pub byte_bits_is : (b : ℕ) → b < 256 → byte_bits b ≡ b
byte_bits_is b h = omega arith

-- a bit of the bytes behind the first
later_bit : (b : ℕ) (bytes : List ℕ) (i : ℕ) → bit_at (b ∷ bytes) (i + 8) ≡ bit_at bytes i
unfolding bit_at
later_bit b bytes i =
    let e : (i + 8) / 8 ≡ suc (i / 8) = omega arith in
    let f : (i + 8) % 8 ≡ i % 8 = omega arith in
    ap₂ (λ (j k : ℕ). slice_index (b ∷ bytes) j / 2 ^ k % 2) e f

number_more : (bytes : List ℕ) (n i : ℕ) → 8 * length bytes - 1 - n ≡ i → number_to bytes (suc n) ≡ 2 * number_to bytes n + bit_at bytes i
unfolding number_to
number_more bytes n i e = ap (λ (j : ℕ). 2 * number_to bytes n + bit_at bytes j) e

later_number : (b : ℕ) (bytes : List ℕ) (n : ℕ) → n ≤ 8 * length bytes → number_to (b ∷ bytes) n ≡ number_to bytes n
unfolding number_to
later_number b bytes zero h = refl
later_number b bytes (suc n) h =
    let i : ℕ = 8 * length bytes - 1 - n in
    let e : 8 * suc (length bytes) - 1 - n ≡ i + 8 = omega arith in
    ap₂ (λ (k j : ℕ). 2 * k + bit_at (b ∷ bytes) j) (later_number b bytes n (omega arith)) e ∙ ap (λ (k : ℕ). 2 * number_to bytes n + k) (later_bit b bytes i)

-- the number of a first byte and others
pub number_first : (b : ℕ) (bytes : List ℕ) → number_in (b ∷ bytes) ≡ byte_bits b + 256 * number_in bytes
unfolding number_in bit_at
number_first b bytes =
    let l : ℕ = 8 * length bytes in
    let all : List ℕ = b ∷ bytes in
    let e : 8 * suc (length bytes) ≡ suc (suc (suc (suc (suc (suc (suc (suc l))))))) = omega arith in
    let n0 = later_number b bytes l (omega arith) in
    let n1 = number_more all l 7 (omega arith) in
    let n2 = number_more all (suc l) 6 (omega arith) in
    let n3 = number_more all (suc (suc l)) 5 (omega arith) in
    let n4 = number_more all (suc (suc (suc l))) 4 (omega arith) in
    let n5 = number_more all (suc (suc (suc (suc l)))) 3 (omega arith) in
    let n6 = number_more all (suc (suc (suc (suc (suc l))))) 2 (omega arith) in
    let n7 = number_more all (suc (suc (suc (suc (suc (suc l)))))) 1 (omega arith) in
    let n8 = number_more all (suc (suc (suc (suc (suc (suc (suc l))))))) 0 (omega arith) in
    ap (number_to all) e ∙ omega (arith, n0, n1, n2, n3, n4, n5, n6, n7, n8)

-- Bytes of a number.
pub byte_is : (i n : ℕ) → byte_at i n ≡ n / 256 ^ i % 256
byte_is zero n = ap (λ (k : ℕ). k % 256) (sym (div-one n) ∙ ap (λ (k : ℕ). n / k) (sym (pow-zero 256)))
byte_is (suc i) n = refl

pub power_positive : (k : ℕ) → 0 < 256 ^ k
power_positive zero = omega (arith, pow-zero 256)
power_positive (suc k) = let h = power_positive k in omega (arith, h, pow-suc 256 k)

bytes_apart : (x k : ℕ) → 0 < k → x % 256 + 256 * (x / 256 % k) ≡ x % (256 * k)
bytes_apart x k h =
    let q : ℕ = x / 256 in
    let low : q % k < k = mod-lt q h in
    let parts : k * (q / k) + q % k ≡ q = div-add-mod q k in
    let e : q / k * (256 * k) + (x % 256 + 256 * (q % k)) ≡ x = omega (arith, parts) in
    sym (ap (λ (n : ℕ). n % (256 * k)) (sym e) ∙ mod-mul-add (q / k) (256 * k) (x % 256 + 256 * (q % k)) (omega (arith, low)))

pub split_byte : (n i k : ℕ) → 0 < k → n / 256 ^ i % 256 + 256 * (n / 256 ^ suc i % k) ≡ n / 256 ^ i % (256 * k)
split_byte n i k h =
    let e : n / 256 ^ suc i ≡ n / 256 ^ i / 256 = ap (λ (d : ℕ). n / d) (pow-suc 256 i) ∙ sym (div-div-eq-div-mul n (256 ^ i) 256) in
    ap (λ (d : ℕ). n / 256 ^ i % 256 + 256 * (d % k)) e ∙ bytes_apart (n / 256 ^ i) k h

number_of_bytes : (i k n : ℕ) (rest : List ℕ) → number_in (bytes_low_first i k n ++ rest) ≡ n / 256 ^ i % 256 ^ k + 256 ^ k * number_in rest
number_of_bytes i zero n rest =
    let e : 1 * number_in rest ≡ number_in rest = omega arith in
    let z : number_in rest ≡ 0 + number_in rest = omega arith in
    z ∙ sym (ap₂ ◌+◌ (ap (λ (k : ℕ). n / 256 ^ i % k) (pow-zero 256) ∙ mod-one (n / 256 ^ i)) (ap (λ (k : ℕ). k * number_in rest) (pow-zero 256) ∙ e))
number_of_bytes i (suc k) n rest =
    let b : ℕ = byte_at i n in
    let h : b ≡ n / 256 ^ i % 256 = byte_is i n in
    let low : b < 256 = omega (arith, h) in
    let e : 256 ^ suc k ≡ 256 * 256 ^ k = omega (arith, pow-suc 256 k) in
    let f = number_of_bytes (suc i) k n rest in
    let g = split_byte n i (256 ^ k) (power_positive k) in
    number_first b (bytes_low_first (suc i) k n ++ rest)
    ∙ ap₂ (λ (x y : ℕ). x + 256 * y) (byte_bits_is b low ∙ h) f
    ∙ (let r : n / 256 ^ i % 256 + 256 * (n / 256 ^ suc i % 256 ^ k + 256 ^ k * number_in rest) ≡ n / 256 ^ i % (256 * 256 ^ k) + 256 * 256 ^ k * number_in rest = omega (arith, g) in r)
    ∙ sym (ap (λ (d : ℕ). n / 256 ^ i % d + d * number_in rest) e)

number_of_empty : number_in [] ≡ 0
unfolding number_in number_to
number_of_empty = refl

-- the bytes of a scalar have its number
pub number_of_scalar : (n : ℕ) → n < 2 ^ 256 → number_in (encode_scalar n) ≡ n
unfolding encode_scalar bytes_of_halves
number_of_scalar n h =
    let low : ℕ = n % 2 ^ 128 in
    let high : ℕ = n / 2 ^ 128 in
    let first = number_of_bytes 0 16 low (bytes_low_first 0 16 high) in
    let second = number_of_bytes 0 16 high [] in
    ap number_in (ap (λ (xs : List ℕ). bytes_low_first 0 16 low ++ xs) (sym (append-nil (bytes_low_first 0 16 high))))
    ∙ number_of_bytes 0 16 low (bytes_low_first 0 16 high ++ []) ∙ ap (λ (k : ℕ). low / 1 % 256 ^ 16 + 256 ^ 16 * k) second
    ∙ ap (λ (k : ℕ). low / 1 % 256 ^ 16 + 256 ^ 16 * (high / 1 % 256 ^ 16 + 256 ^ 16 * k)) number_of_empty ∙ omega arith
