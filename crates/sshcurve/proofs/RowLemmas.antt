-- The base point's multiple by rows of bits over the points [256^i]B is the multiple by the number of the bits.

use Rattle.std.proofs.Common.{◌≡◌, ℕ, zero, suc, ◌+◌, ◌-◌, ◌*◌, ◌^◌, ◌<◌, List, length, cond, eqb, refl, sym, ap, ap₂, ◌∙◌, arith}
use Rattle.std.proofs.Math.Nat.{pow-suc, pow-zero}
use Rattle.sshcurve.specs.Bits.{bit_at}
use Rattle.sshcurve.specs.Scalar.{number_in}
use Rattle.sshcurve.specs.EdwardsNumbers.{Coordinates, added, base_at, base_multiple, doubled, row_to, rows_to, times_256}
use Rattle.sshcurve.specs.Curve.{multiple}
use Rattle.sshcurve.proofs.MultipleLemmas.{multiple_on, multiple_one, multiple_sum}
use Rattle.sshcurve.specs.Represents.{Represents, base}
use Rattle.sshcurve.proofs.CoordinateLemmas.{base_on, base_represents, bit_below_2, by_point, neutral_represents, number_of_256_bits, number_of_bits, sum_represents, multiple_twice, twice_represents}

-- the row of bit j: the sum of 256^i over those of the n lowest bytes whose bit j is 1
row_number : List ℕ → ℕ → ℕ → ℕ
row_number bytes j zero = 0
row_number bytes j (suc n) = row_number bytes j n + bit_at bytes (8 * n + j) * 256 ^ n

-- the eight rows together
all_rows : List ℕ → ℕ → ℕ
all_rows bytes n =
    row_number bytes 0 n + 2 * row_number bytes 1 n + 4 * row_number bytes 2 n + 8 * row_number bytes 3 n + 16 * row_number bytes 4 n + 32 * row_number bytes 5 n
    + 64 * row_number bytes 6 n + 128 * row_number bytes 7 n

-- the number of the eight bits of byte n
unfoldable pub eight_bits : List ℕ → ℕ → ℕ
eight_bits bytes n =
    bit_at bytes (8 * n + 0) + 2 * bit_at bytes (8 * n + 1) + 4 * bit_at bytes (8 * n + 2) + 8 * bit_at bytes (8 * n + 3) + 16 * bit_at bytes (8 * n + 4)
    + 32 * bit_at bytes (8 * n + 5) + 64 * bit_at bytes (8 * n + 6) + 128 * bit_at bytes (8 * n + 7)

number_more : (bytes : List ℕ) (m i : ℕ) → 255 - m ≡ i → number_of_bits bytes (suc m) ≡ 2 * number_of_bits bytes m + bit_at bytes i
unfolding number_of_bits
number_more bytes m i e = ap (λ (j : ℕ). 2 * number_of_bits bytes m + bit_at bytes j) e

-- the number of the bits of the k + 1 highest bytes, by that of the k highest
pub byte_more : (bytes : List ℕ) (n k : ℕ) → suc n + k ≡ 32 → number_of_bits bytes (8 * suc k) ≡ 256 * number_of_bits bytes (8 * k) + eight_bits bytes n
unfolding eight_bits
byte_more bytes n k h =
    let l : ℕ = 8 * k in
    let e : 8 * suc k ≡ suc (suc (suc (suc (suc (suc (suc (suc l))))))) = omega arith in
    let n1 = number_more bytes l (8 * n + 7) (omega (arith, h)) in
    let n2 = number_more bytes (suc l) (8 * n + 6) (omega (arith, h)) in
    let n3 = number_more bytes (suc (suc l)) (8 * n + 5) (omega (arith, h)) in
    let n4 = number_more bytes (suc (suc (suc l))) (8 * n + 4) (omega (arith, h)) in
    let n5 = number_more bytes (suc (suc (suc (suc l)))) (8 * n + 3) (omega (arith, h)) in
    let n6 = number_more bytes (suc (suc (suc (suc (suc l))))) (8 * n + 2) (omega (arith, h)) in
    let n7 = number_more bytes (suc (suc (suc (suc (suc (suc l)))))) (8 * n + 1) (omega (arith, h)) in
    let n8 = number_more bytes (suc (suc (suc (suc (suc (suc (suc l))))))) (8 * n + 0) (omega (arith, h)) in
    ap (number_of_bits bytes) e ∙ omega (arith, n1, n2, n3, n4, n5, n6, n7, n8)

-- the rows of n + 1 bytes, by those of n
rows_more : (bytes : List ℕ) (n : ℕ) → all_rows bytes (suc n) ≡ all_rows bytes n + 256 ^ n * eight_bits bytes n
unfolding all_rows row_number eight_bits
rows_more bytes n =
    together (256 ^ n) (row_number bytes 0 n) (row_number bytes 1 n) (row_number bytes 2 n) (row_number bytes 3 n) (row_number bytes 4 n) (row_number bytes 5 n) (row_number bytes 6 n) (row_number bytes 7 n)
    (bit_at bytes (8 * n + 0)) (bit_at bytes (8 * n + 1)) (bit_at bytes (8 * n + 2)) (bit_at bytes (8 * n + 3)) (bit_at bytes (8 * n + 4)) (bit_at bytes (8 * n + 5)) (bit_at bytes (8 * n + 6)) (bit_at bytes (8 * n + 7))
  where
    together : (k r0 r1 r2 r3 r4 r5 r6 r7 b0 b1 b2 b3 b4 b5 b6 b7 : ℕ)
        → r0 + b0 * k + 2 * (r1 + b1 * k) + 4 * (r2 + b2 * k) + 8 * (r3 + b3 * k) + 16 * (r4 + b4 * k) + 32 * (r5 + b5 * k) + 64 * (r6 + b6 * k) + 128 * (r7 + b7 * k)
        ≡ r0 + 2 * r1 + 4 * r2 + 8 * r3 + 16 * r4 + 32 * r5 + 64 * r6 + 128 * r7 + k * (b0 + 2 * b1 + 4 * b2 + 8 * b3 + 16 * b4 + 32 * b5 + 64 * b6 + 128 * b7)
    together k r0 r1 r2 r3 r4 r5 r6 r7 b0 b1 b2 b3 b4 b5 b6 b7 = omega arith

-- the rows of the n lowest bytes and the bits of the k others make the whole number
rows_and_bits : (bytes : List ℕ) (n k : ℕ) → n + k ≡ 32 → all_rows bytes n + 256 ^ n * number_of_bits bytes (8 * k) ≡ number_of_bits bytes 256
unfolding all_rows row_number
rows_and_bits bytes zero k h =
    let e : 8 * k ≡ 256 = omega (arith, h) in
    let f : 0 + 1 * number_of_bits bytes (8 * k) ≡ number_of_bits bytes (8 * k) = omega arith in
    ap (λ (i : ℕ). 0 + i * number_of_bits bytes (8 * k)) (pow-zero 256) ∙ f ∙ ap (number_of_bits bytes) e
rows_and_bits bytes (suc n) k h =
    ap₂ (λ (r i : ℕ). r + i * number_of_bits bytes (8 * k)) (rows_more bytes n) (pow-suc 256 n)
    ∙ together (all_rows bytes n) (256 ^ n) (eight_bits bytes n) (number_of_bits bytes (8 * k))
    ∙ ap (λ (i : ℕ). all_rows bytes n + 256 ^ n * i) (sym (byte_more bytes n k h))
    ∙ rows_and_bits bytes n (suc k) (omega (arith, h))
  where
    together : (r i b f : ℕ) → r + i * b + i * 256 * f ≡ r + i * (256 * f + b)
    together r i b f = omega arith

all_rows_are : (bytes : List ℕ) → all_rows bytes 32 ≡ number_of_bits bytes 256
unfolding number_of_bits
all_rows_are bytes = let e : all_rows bytes 32 ≡ all_rows bytes 32 + 256 ^ 32 * 0 = omega arith in e ∙ rows_and_bits bytes 32 0 refl

-- the points [256^i]B
represents_twice : (c : Coordinates) (n : ℕ) → Represents c (multiple n base) → Represents (doubled c) (multiple (2 * n) base)
represents_twice c n h = by_point (doubled c) _ _ (sym (multiple_twice n base base_on)) (twice_represents c (multiple n base) (multiple_on n base base_on) h)

represents_256 : (c : Coordinates) (n : ℕ) → Represents c (multiple n base) → Represents (times_256 c) (multiple (256 * n) base)
unfolding times_256
represents_256 c n h =
    let e : 2 * (2 * (2 * (2 * (2 * (2 * (2 * (2 * n))))))) ≡ 256 * n = omega arith in
    by_point _ _ _ (ap (λ (k : ℕ). multiple k base) e)
    (represents_twice _ _ (represents_twice _ _ (represents_twice _ _ (represents_twice _ _ (represents_twice _ _ (represents_twice _ _ (represents_twice _ _ (represents_twice c n h))))))))

base_at_represents : (i : ℕ) → Represents (base_at i) (multiple (256 ^ i) base)
unfolding base_at
base_at_represents zero = by_point _ _ _ (sym (multiple_one base base_on) ∙ ap (λ (k : ℕ). multiple k base) (sym (pow-zero 256))) base_represents
base_at_represents (suc i) =
    let e : 256 * 256 ^ i ≡ 256 ^ suc i = omega (arith, pow-suc 256 i) in
    by_point _ _ _ (ap (λ (k : ℕ). multiple k base) e) (represents_256 (base_at i) (256 ^ i) (base_at_represents i))

row_represents : (bytes : List ℕ) (j : ℕ) (c : Coordinates) (m : ℕ) → Represents c (multiple m base) → (n : ℕ)
    → Represents (row_to bytes j c n) (multiple (m + row_number bytes j n) base)
unfolding row_to row_number
row_represents bytes j c m h zero = let e : m ≡ m + 0 = omega arith in by_point c _ _ (ap (λ (k : ℕ). multiple k base) e) h
row_represents bytes j c m h (suc n) =
    let k : ℕ = m + row_number bytes j n in
    each (bit_at bytes (8 * n + j)) (row_to bytes j c n) k (row_number bytes j n) refl (bit_below_2 bytes (8 * n + j)) (row_represents bytes j c m h n)
  where
    each : (bit : ℕ) (before : Coordinates) (k r : ℕ) → k ≡ m + r → bit < 2 → Represents before (multiple k base)
        → Represents (cond (eqb bit 1) (added before (base_at n)) before) (multiple (m + (r + bit * 256 ^ n)) base)
    each zero before k r e h s = let f : k ≡ m + (r + 0 * 256 ^ n) = omega (arith, e) in by_point before _ _ (ap (λ (i : ℕ). multiple i base) f) s
    each (suc zero) before k r e h s =
        let f : k + 256 ^ n ≡ m + (r + 1 * 256 ^ n) = omega (arith, e) in
        by_point (added before (base_at n)) _ _ (sym (multiple_sum k (256 ^ n) base base_on) ∙ ap (λ (i : ℕ). multiple i base) f)
        (sum_represents before (base_at n) (multiple k base) (multiple (256 ^ n) base) (multiple_on k base base_on) (multiple_on (256 ^ n) base base_on) s (base_at_represents n))
    each (suc (suc bit)) before k r e h s = absurd (omega arith)

rows_number : List ℕ → ℕ → ℕ
rows_number bytes zero = 0
rows_number bytes (suc k) = 2 * rows_number bytes k + row_number bytes (7 - k) 32

rows_represent : (bytes : List ℕ) (k : ℕ) → Represents (rows_to bytes k) (multiple (rows_number bytes k) base)
unfolding rows_to rows_number multiple
rows_represent bytes zero = neutral_represents
rows_represent bytes (suc k) =
    row_represents bytes (7 - k) (doubled (rows_to bytes k)) (2 * rows_number bytes k) (represents_twice (rows_to bytes k) (rows_number bytes k) (rows_represent bytes k)) 32

rows_are : (bytes : List ℕ) → rows_number bytes 8 ≡ all_rows bytes 32
unfolding rows_number all_rows
rows_are bytes = omega arith

-- The base point's multiple by rows is that by the number of the bits.
pub base_multiple_represents : (bytes : List ℕ) → Represents (base_multiple bytes) (multiple (number_of_bits bytes 256) base)
unfolding base_multiple
base_multiple_represents bytes = by_point (rows_to bytes 8) _ _ (ap (λ (k : ℕ). multiple k base) (rows_are bytes ∙ all_rows_are bytes)) (rows_represent bytes 8)

-- for 32 bytes, by their number
pub rows_represent_number : (bytes : List ℕ) → length bytes ≡ 32 → Represents (base_multiple bytes) (multiple (number_in bytes) base)
rows_represent_number bytes long = by_point _ _ _ (ap (λ (k : ℕ). multiple k base) (number_of_256_bits bytes long)) (base_multiple_represents bytes)
