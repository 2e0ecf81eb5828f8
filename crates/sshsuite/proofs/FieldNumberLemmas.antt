-- Elements compute with numbers modulo 2^255 - 19.

use Rattle.std.proofs.Common.{◌≡◌, ℕ, zero, suc, ◌+◌, ◌-◌, ◌*◌, ◌/◌, ◌%◌, ◌^◌, ◌<◌, ◌≤◌, List, refl, sym, ap, ◌∙◌, arith}
use Rattle.std.proofs.Math.Nat.{pow-suc, pow-zero}
use Rattle.std.proofs.lemmas.Nat.{pow-add}
use Rattle.sshcurve.specs.Bits.{number_of_32}
use Rattle.sshsuite.specs.FieldElement.{add, decode, eleventh, encode, inverse, loose_difference, loose_sum, mul, none, one, root_power, scaled, squared, squares, sub, to_50, to_250}
use Rattle.sshsuite.proofs.EncodingLemmas.{decode_value, encode_value}
use Rattle.sshsuite.proofs.WordLemmas.{AreWords}
use Rattle.sshsuite.proofs.FieldLemmas.{add_value, difference_loose, mul_loose, multiple, scaled_loose, square_loose, sub_value, sum_loose, tight}
use Rattle.sshsuite.proofs.LimbLemmas.{wider}
use Rattle.sshcurve.specs.FieldBytes.{bytes_of_number}
use Rattle.sshsuite.specs.FieldValues.{HasNumber, AreBelow, value}
use Rattle.sshcurve.specs.FieldNumbers.{minus, plus, power, reciprocal, times, field}

sums : (x y m n : ℕ) → x % field ≡ m → y % field ≡ n → (x + y) % field ≡ (m + n) % field
sums x y m n h k = omega arith

pub add_number : (a b : List ℕ) (m n : ℕ) → HasNumber a m → HasNumber b n → HasNumber (add a b) (plus m n)
unfolding plus
add_number a b m n h k =
    let out = add_value a b h.below k.below in
    record { below = out.0; number = out.1 ∙ sums (value a) (value b) m n h.number k.number }

differences : (s x y m n : ℕ) → (s + y) % field ≡ x % field → x % field ≡ m → y % field ≡ n → s % field ≡ (m + field - n) % field
differences s x y m n e h k = omega arith

pub sub_number : (a b : List ℕ) (m n : ℕ) → HasNumber a m → HasNumber b n → HasNumber (sub a b) (minus m n)
unfolding minus
sub_number a b m n h k =
    let out = sub_value a b h.below k.below in
    record { below = out.0; number = differences (value (sub a b)) (value a) (value b) m n out.1 h.number k.number }

parted : (x y q r m n : ℕ) → x ≡ field * q + m → y ≡ field * r + n → x * y ≡ m * n + field * (q * y + m * r)
parted x y q r m n h k = rw (h, k) (omega arith)

parts : (x m : ℕ) → x % field ≡ m → x ≡ field * (x / field) + m
parts x m h = omega arith

pub products : (x y m n : ℕ) → x % field ≡ m → y % field ≡ n → x * y % field ≡ m * n % field
products x y m n h k =
    multiple (x * y) (m * n) (x / field * y + m * (y / field)) (parted x y (x / field) (y / field) m n (parts x m h) (parts y n k))

-- the limbs are below a bound, and of this number
pub record HasBelow (k : ℕ) (a : List ℕ) (n : ℕ) : Type 0 where
  pub below : AreBelow k a
  pub number : value a % field ≡ n

pub has_below : (k l : ℕ) (a : List ℕ) (n : ℕ) → k ≤ l → HasBelow k a n → HasBelow l a n
has_below k l a n e h = record { below = wider k l a e h.below; number = h.number }

-- limbs of a product
abbrev pub HasTight : List ℕ → ℕ → Type 0
HasTight = HasBelow tight

-- limbs that may be a sum's or a difference's
abbrev pub HasLoose : List ℕ → ℕ → Type 0
HasLoose = HasBelow (2 ^ 54)

-- limbs between both: one more sum or difference of them is loose
abbrev pub HasHalf : List ℕ → ℕ → Type 0
HasHalf = HasBelow (2 ^ 53)

pub loose_number : (a : List ℕ) (n : ℕ) → HasNumber a n → HasLoose a n
loose_number a n h = record { below = wider (2 ^ 52) (2 ^ 54) a (omega arith) h.below; number = h.number }

pub tight_number : (a : List ℕ) (n : ℕ) → HasTight a n → HasNumber a n
tight_number a n h = record { below = wider tight (2 ^ 52) a (omega arith) h.below; number = h.number }

pub tight_half : (a : List ℕ) (n : ℕ) → HasTight a n → HasHalf a n
tight_half a n h = has_below tight (2 ^ 53) a n (omega arith) h

pub half_loose : (a : List ℕ) (n : ℕ) → HasHalf a n → HasLoose a n
half_loose a n h = has_below (2 ^ 53) (2 ^ 54) a n (omega arith) h

pub tight_loose : (a : List ℕ) (n : ℕ) → HasTight a n → HasLoose a n
tight_loose a n h = half_loose a n (tight_half a n h)

pub tight_by : (a : List ℕ) (m n : ℕ) → m ≡ n → HasTight a m → HasTight a n
tight_by a m n e h = record { below = h.below; number = h.number ∙ e }

sum_below : (k l top : ℕ) (a b : List ℕ) (m n : ℕ) → k + l ≤ top → top ≤ 2 ^ 54 → HasBelow k a m → HasBelow l b n → HasBelow top (loose_sum a b) (plus m n)
unfolding plus
sum_below k l top a b m n e t ha hb =
    let out = sum_loose k l top a b e t ha.below hb.below in
    record { below = out.0; number = ap (λ (x : ℕ). x % field) out.1 ∙ sums (value a) (value b) m n ha.number hb.number }

-- the sum of tight limbs
pub sum_half : (a b : List ℕ) (m n : ℕ) → HasTight a m → HasTight b n → HasHalf (loose_sum a b) (plus m n)
sum_half a b m n h k = sum_below tight tight (2 ^ 53) a b m n (omega arith) (omega arith) h k

-- the sum of two such
pub sum_number : (a b : List ℕ) (m n : ℕ) → HasHalf a m → HasHalf b n → HasLoose (loose_sum a b) (plus m n)
sum_number a b m n h k = sum_below (2 ^ 53) (2 ^ 53) (2 ^ 54) a b m n (omega arith) (omega arith) h k

difference_below : (k top : ℕ) (a b : List ℕ) (m n : ℕ) → k + 4503599627370494 ≤ top → top ≤ 2 ^ 54 → HasBelow k a m → HasTight b n
    → HasBelow top (loose_difference a b) (minus m n)
unfolding minus
difference_below k top a b m n e t ha hb =
    let out = difference_loose k top a b e t ha.below hb.below in
    record { below = out.0; number = differences (value (loose_difference a b)) (value a) (value b) m n out.1 ha.number hb.number }

-- the difference of tight limbs
pub difference_half : (a b : List ℕ) (m n : ℕ) → HasTight a m → HasTight b n → HasHalf (loose_difference a b) (minus m n)
difference_half a b m n h k = difference_below tight (2 ^ 53) a b m n (omega arith) (omega arith) h k

-- tight limbs subtracted of a sum
pub difference_number : (a b : List ℕ) (m n : ℕ) → HasHalf a m → HasTight b n → HasLoose (loose_difference a b) (minus m n)
difference_number a b m n h k = difference_below (2 ^ 53) (2 ^ 54) a b m n (omega arith) (omega arith) h k

pub mul_tight : (a b : List ℕ) (m n : ℕ) → HasLoose a m → HasLoose b n → HasTight (mul a b) (times m n)
unfolding times
mul_tight a b m n h k =
    let out = mul_loose a b h.below k.below in
    record { below = out.0; number = out.1 ∙ products (value a) (value b) m n h.number k.number }

-- factors in the other order
pub exchange : (m n : ℕ) → times m n ≡ times n m
unfolding times
exchange m n = ap (λ (k : ℕ). k % field) (other m n)
  where
    other : (m n : ℕ) → m * n ≡ n * m
    other m n = omega arith

pub mul_number : (a b : List ℕ) (m n : ℕ) → HasNumber a m → HasNumber b n → HasNumber (mul a b) (times m n)
mul_number a b m n h k = tight_number (mul a b) (times m n) (mul_tight a b m n (loose_number a m h) (loose_number b n k))

pub square_tight : (a : List ℕ) (m : ℕ) → HasLoose a m → HasTight (squared a) (times m m)
unfolding times
square_tight a m h =
    let out = square_loose a h.below in
    record { below = out.0; number = out.1 ∙ products (value a) (value a) m m h.number h.number }

pub square_number : (a : List ℕ) (m : ℕ) → HasNumber a m → HasNumber (squared a) (times m m)
square_number a m h = tight_number (squared a) (times m m) (square_tight a m (loose_number a m h))

pub scaled_tight : (a : List ℕ) (n m : ℕ) → n < 2 ^ 32 → HasLoose a m → HasTight (scaled a n) (times n m)
unfolding times
scaled_tight a n m low h =
    let out = scaled_loose a n h.below low in
    record { below = out.0; number = out.1 ∙ products n (value a) n m (omega (arith, low)) h.number }

-- Powers.
number_by : (a : List ℕ) (m n : ℕ) → m ≡ n → HasNumber a m → HasNumber a n
number_by a m n e h = record { below = h.below; number = h.number ∙ e }

power_sum : (x d e n : ℕ) → d + e ≡ n → times (power x d) (power x e) ≡ power x n
unfolding times power
power_sum x d e n is =
    sym (products (x ^ d) (x ^ e) (x ^ d % field) (x ^ e % field) refl refl)
    ∙ ap (λ (k : ℕ). k % field) (sym (pow-add x d e) ∙ ap (λ (k : ℕ). x ^ k) is)

mul_power : (a b : List ℕ) (x d e n : ℕ) → HasNumber a (power x d) → HasNumber b (power x e) → d + e ≡ n → HasNumber (mul a b) (power x n)
mul_power a b x d e n h k is = number_by (mul a b) (times (power x d) (power x e)) (power x n) (power_sum x d e n is) (mul_number a b (power x d) (power x e) h k)

square_power : (a : List ℕ) (x e n : ℕ) → HasNumber a (power x e) → e + e ≡ n → HasNumber (squared a) (power x n)
square_power a x e n h is = number_by (squared a) (times (power x e) (power x e)) (power x n) (power_sum x e e n is) (square_number a (power x e) h)

squares_power : (a : List ℕ) (x e k : ℕ) → HasNumber a (power x e) → HasNumber (squares a k) (power x (e * 2 ^ k))
unfolding squares
squares_power a x e zero h = number_by a (power x e) (power x (e * 2 ^ 0)) (ap (power x) (omega arith)) h
squares_power a x e (suc k) h =
    square_power (squares a k) x (e * 2 ^ k) (e * 2 ^ suc k) (squares_power a x e k h) (doubled e (2 ^ k) (2 ^ suc k) (omega arith))
  where
    doubled : (e p q : ℕ) → q ≡ 2 * p → e * p + e * p ≡ e * q
    doubled e p q is = rw is (omega arith)

raised : (a : List ℕ) (x e n k : ℕ) → HasNumber a (power x e) → e * 2 ^ k ≡ n → HasNumber (squares a k) (power x n)
raised a x e n k h is = number_by (squares a k) (power x (e * 2 ^ k)) (power x n) (ap (power x) is) (squares_power a x e k h)

eleventh_power : (a : List ℕ) (x : ℕ) → HasNumber a (power x 1) → HasNumber (eleventh a) (power x 11)
unfolding eleventh
eleventh_power a x h =
    let two = square_power a x 1 2 h refl in
    let eight = raised (squared a) x 2 8 2 two refl in
    let nine = mul_power (squares (squared a) 2) a x 8 1 9 eight h refl in
    mul_power (mul (squares (squared a) 2) a) (squared a) x 9 2 11 nine two refl

to_50_power : (a : List ℕ) (x : ℕ) → HasNumber a (power x 1) → HasNumber (to_50 a) (power x 1125899906842623)
unfolding to_50
to_50_power a x h =
    let a2 : List ℕ = squared a in
    let a9 : List ℕ = mul (squares a2 2) a in
    let a11 : List ℕ = mul a9 a2 in
    let a31 : List ℕ = mul (squared a11) a9 in
    let to_10 : List ℕ = mul (squares a31 5) a31 in
    let to_20 : List ℕ = mul (squares to_10 10) to_10 in
    let to_40 : List ℕ = mul (squares to_20 20) to_20 in
    let h2 = square_power a x 1 2 h refl in
    let h9 = mul_power (squares a2 2) a x 8 1 9 (raised a2 x 2 8 2 h2 refl) h refl in
    let h11 = mul_power a9 a2 x 9 2 11 h9 h2 refl in
    let h22 = square_power a11 x 11 22 h11 refl in
    let h31 = mul_power (squared a11) a9 x 22 9 31 h22 h9 refl in
    let h10 = mul_power (squares a31 5) a31 x 992 31 1023 (raised a31 x 31 992 5 h31 refl) h31 refl in
    let h20 = mul_power (squares to_10 10) to_10 x 1047552 1023 1048575 (raised to_10 x 1023 1047552 10 h10 refl) h10 refl in
    let h40 = mul_power (squares to_20 20) to_20 x 1099510579200 1048575 1099511627775 (raised to_20 x 1048575 1099510579200 20 h20 refl) h20 refl in
    mul_power (squares to_40 10) to_10 x 1125899906841600 1023 1125899906842623 (raised to_40 x 1099511627775 1125899906841600 10 h40 refl) h10 refl

to_250_power : (a : List ℕ) (x : ℕ) → HasNumber a (power x 1)
    → HasNumber (to_250 a) (power x 1809251394333065553493296640760748560207343510400633813116524750123642650623)
unfolding to_250
to_250_power a x h =
    let b : List ℕ = to_50 a in
    let c : List ℕ = mul (squares b 50) b in
    let d : List ℕ = mul (squares c 100) c in
    let hb = to_50_power a x h in
    let hc = mul_power (squares b 50) b x 1267650600228228275596796362752 1125899906842623 1267650600228229401496703205375 (raised b x 1125899906842623 1267650600228228275596796362752 50 hb refl) hb refl in
    let hd = mul_power (squares c 100) c x 1606938044258990275541962092339894951921974764381296132096000 1267650600228229401496703205375 1606938044258990275541962092341162602522202993782792835301375 (raised c x 1267650600228229401496703205375 1606938044258990275541962092339894951921974764381296132096000 100 hc refl) hc refl in
    mul_power (squares d 50) b x 1809251394333065553493296640760748560207343510400633813116523624223735808000 1125899906842623 1809251394333065553493296640760748560207343510400633813116524750123642650623 (raised d x 1606938044258990275541962092341162602522202993782792835301375 1809251394333065553493296640760748560207343510400633813116523624223735808000 50 hd refl) hb refl

first_power : (x y : ℕ) → y % field ≡ x → x ≡ power x 1
unfolding power
first_power x y h = let own : x ^ 1 ≡ x = pow-suc x 0 ∙ (ap (λ (k : ℕ). k * x) (pow-zero x) ∙ unit x) in small x y h ∙ ap (λ (k : ℕ). k % field) (sym own)
  where
    unit : (x : ℕ) → 1 * x ≡ x
    unit x = omega arith

    small : (x y : ℕ) → y % field ≡ x → x ≡ x % field
    small x y h = omega arith

pub inverse_number : (a : List ℕ) (x : ℕ) → HasNumber a x → HasNumber (inverse a) (reciprocal x)
unfolding inverse reciprocal
inverse_number a x h =
    let one : HasNumber a (power x 1) = number_by a x (power x 1) (first_power x (value a) h.number) h in
    mul_power (squares (to_250 a) 5) (eleventh a) x 57896044618658097711785492504343953926634992332820282019728792003956564819936 11
    57896044618658097711785492504343953926634992332820282019728792003956564819947
    (raised (to_250 a) x 1809251394333065553493296640760748560207343510400633813116524750123642650623 57896044618658097711785492504343953926634992332820282019728792003956564819936 5 (to_250_power a x one) refl)
    (eleventh_power a x one) refl

pub decode_tight : (bytes : List ℕ) → AreWords bytes → HasTight (decode bytes) (number_of_32 bytes % 2 ^ 255 % field)
decode_tight bytes are =
    let out = decode_value bytes are in
    record { below = wider (2 ^ 51) tight (decode bytes) (omega arith) out.0; number = ap (λ (n : ℕ). n % field) out.1 }

pub decode_number : (bytes : List ℕ) → AreWords bytes → HasNumber (decode bytes) (number_of_32 bytes % 2 ^ 255 % field)
decode_number bytes are = tight_number (decode bytes) (number_of_32 bytes % 2 ^ 255 % field) (decode_tight bytes are)

pub encode_number : (a : List ℕ) (n : ℕ) → HasNumber a n → encode a ≡ bytes_of_number n
encode_number a n h = encode_value a h.below ∙ ap bytes_of_number h.number

pub none_tight : HasTight none 0
none_tight = record { below = record { l0 = omega arith; l1 = omega arith; l2 = omega arith; l3 = omega arith; l4 = omega arith }; number = refl }

pub one_tight : HasTight one 1
one_tight = record { below = record { l0 = omega arith; l1 = omega arith; l2 = omega arith; l3 = omega arith; l4 = omega arith }; number = refl }

pub none_number : HasNumber none 0
none_number = tight_number none 0 none_tight

pub one_number : HasNumber one 1
one_number = tight_number one 1 one_tight

-- the power of which a square root is made: (p - 5) / 8
pub root_power_number : (a : List ℕ) (x : ℕ) → HasNumber a x → HasNumber (root_power a) (power x 7237005577332262213973186563042994240829374041602535252466099000494570602493)
unfolding root_power
root_power_number a x h =
    let one : HasNumber a (power x 1) = number_by a x (power x 1) (first_power x (value a) h.number) h in
    mul_power (squares (to_250 a) 2) a x 7237005577332262213973186563042994240829374041602535252466099000494570602492 1
    7237005577332262213973186563042994240829374041602535252466099000494570602493
    (raised (to_250 a) x 1809251394333065553493296640760748560207343510400633813116524750123642650623 7237005577332262213973186563042994240829374041602535252466099000494570602492 2 (to_250_power a x one) refl)
    one refl
