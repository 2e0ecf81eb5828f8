-- A block that is worked on at once is worked on byte by byte.

use Rattle.std.proofs.Common.{◌≡◌, ℕ, zero, suc, ◌+◌, ◌*◌, ◌/◌, ◌%◌, ◌^◌, ◌<◌, ◌≤◌, Bool, true, false, refl, sym, ap, ap₂, ◌∙◌, arith, cond, eqb}
use Rattle.std.proofs.lemmas.Bool.{eqb-true}
use Rattle.std.proofs.lemmas.Nat.{and_block, and_mask, pow-add, xor_block, xor_lt, xor_mod, xor_shr}
use Rattle.std.specs.Int.Bits.{and_zero_l, and_zero_r, xor_zero_l}
use Rattle.std.specs.Prelude.{bit_and, bit_xor}
use Rattle.sshsuite.specs.Aes.{chosen, doubled, doubled_by, highest_bits, inverse, mapped, others_raised, product, product_to, sub_bytes, turned}
use Rattle.sshsuite.specs.AesBytes.{block_of, byte_inverse, byte_mapped, byte_product, byte_product_to, byte_turned, s_box, xtime, xtime_by}
use Rattle.sshsuite.proofs.LinearLemmas.{apart}
use Rattle.sshsuite.proofs.ListOfEight.{each_of_8}
use Rattle.sshsuite.proofs.TestLemmas.{at_each}

-- all values are bytes
abbrev pub AreBytes : (ℕ → ℕ) → Type 0
AreBytes f = (i : ℕ) → f i < 2 ^ 8

-- Blocks of any length.
pub same_until : (n : ℕ) (f g : ℕ → ℕ) → ((i : ℕ) → i < n → f i ≡ g i) → block_of n f ≡ block_of n g
unfolding block_of
same_until zero f g h = refl
same_until (suc n) f g h =
    let before = same_until n f g (λ i k. h i (omega arith)) in
    let last = h n (omega arith) in omega (arith, before, last)

-- the same values everywhere
pub same_block : (n : ℕ) (f g : ℕ → ℕ) → ((i : ℕ) → f i ≡ g i) → block_of n f ≡ block_of n g
same_block n f g h = same_until n f g (λ i _. h i)

-- a sum byte by byte
pub xor_of : (n : ℕ) (f g : ℕ → ℕ) → AreBytes f → AreBytes g → bit_xor (block_of n f) (block_of n g) ≡ block_of n (λ i. bit_xor (f i) (g i))
unfolding block_of
xor_of zero f g h k = xor_zero_l 0
xor_of (suc n) f g h k =
    xor_block 8 (block_of n f) (block_of n g) (f n) (g n) (h n) (k n) ∙ ap (λ (m : ℕ). m * 2 ^ 8 + bit_xor (f n) (g n)) (xor_of n f g h k)

-- a product bit by bit, byte by byte
pub and_of : (n : ℕ) (f g : ℕ → ℕ) → AreBytes f → AreBytes g → bit_and (block_of n f) (block_of n g) ≡ block_of n (λ i. bit_and (f i) (g i))
unfolding block_of
and_of zero f g h k = and_zero_l 0
and_of (suc n) f g h k =
    and_block 8 (block_of n f) (block_of n g) (f n) (g n) (h n) (k n) ∙ ap (λ (m : ℕ). m * 2 ^ 8 + bit_and (f n) (g n)) (and_of n f g h k)

-- one bit of a sum
pub sum_at : (j a b : ℕ) → bit_xor a b / 2 ^ j % 2 ≡ bit_xor (a / 2 ^ j % 2) (b / 2 ^ j % 2)
sum_at j a b = ap (λ (x : ℕ). x % 2 ^ 1) (xor_shr a b j) ∙ xor_mod (a / 2 ^ j) (b / 2 ^ j) 1

-- a product with a number, byte by byte
pub times : (c n : ℕ) (f : ℕ → ℕ) → block_of n f * c ≡ block_of n (λ i. f i * c)
unfolding block_of
times c zero f = omega arith
times c (suc n) f = let before = times c n f in omega (arith, before)

-- the power of 2 of a byte more
pub next_power : (n : ℕ) → 2 ^ (8 * suc n) ≡ 2 ^ (8 * n) * 2 ^ 8
next_power n = ap (λ (x : ℕ). 2 ^ x) (let e : 8 * suc n ≡ 8 * n + 8 = omega arith in e) ∙ pow-add 2 (8 * n) 8

-- a block of n bytes has 8 n bits
pub below_power : (n : ℕ) (f : ℕ → ℕ) → AreBytes f → block_of n f < 2 ^ (8 * n)
unfolding block_of
below_power zero f h = omega arith
below_power (suc n) f h =
    let before = below_power n f h in
    let last = h n in
    let power = next_power n in omega (arith, before, last, power)

-- so no bit of a block is cut off
pub whole : (f : ℕ → ℕ) → AreBytes f → block_of 16 f % 2 ^ 128 ≡ block_of 16 f
whole f h = let below = below_power 16 f h in omega (arith, below)

-- bytes times a number, where these are bytes again
pub times_whole : (c : ℕ) (f : ℕ → ℕ) → AreBytes (λ i. f i * c) → block_of 16 f * c % 2 ^ 128 ≡ block_of 16 (λ i. f i * c)
times_whole c f h = ap (λ (x : ℕ). x % 2 ^ 128) (times c 16 f) ∙ whole (λ i. f i * c) h

-- the bits with one number
shifted_by : (k p b : ℕ) → k < 8 → b < 2 ^ 8 → ((p * 2 ^ 8 + b) / 2 ^ k / 2 ^ 8 ≡ p / 2 ^ k) × ((p * 2 ^ 8 + b) / 2 ^ k % 2 ^ 8 % 2 ≡ b / 2 ^ k % 2)
shifted_by k p b low h =
    each_of_8 (λ k. ((p * 2 ^ 8 + b) / 2 ^ k / 2 ^ 8 ≡ p / 2 ^ k) × ((p * 2 ^ 8 + b) / 2 ^ k % 2 ^ 8 % 2 ≡ b / 2 ^ k % 2))
    (omega arith, omega arith) (omega arith, omega arith) (omega arith, omega arith) (omega arith, omega arith)
    (omega arith, omega arith) (omega arith, omega arith) (omega arith, omega arith) (omega arith, omega arith) k low

-- the lowest bit of the last byte, and those of the others
cut : (m ones : ℕ) → bit_and m (ones * 2 ^ 8 + 1) ≡ bit_and (m / 2 ^ 8) ones * 2 ^ 8 + m % 2 ^ 8 % 2
cut m ones =
    let split : m ≡ m / 2 ^ 8 * 2 ^ 8 + m % 2 ^ 8 = omega arith in
    ap (λ (x : ℕ). bit_and x (ones * 2 ^ 8 + 1)) split
    ∙ (and_block 8 (m / 2 ^ 8) ones (m % 2 ^ 8) 1 (omega arith) (omega arith)
    ∙ ap (λ (x : ℕ). bit_and (m / 2 ^ 8) ones * 2 ^ 8 + x) (and_mask (m % 2 ^ 8) 1))

-- of a block, the bit with one number of each byte
bits_of : (n k : ℕ) (f : ℕ → ℕ) → k < 8 → AreBytes f → bit_and (block_of n f / 2 ^ k) (block_of n (λ i. 1)) ≡ block_of n (λ i. f i / 2 ^ k % 2)
unfolding block_of
bits_of zero k f h low = and_zero_r (0 / 2 ^ k)
bits_of (suc n) k f h low =
    let parts = shifted_by k (block_of n f) (f n) h (low n) in
    cut ((block_of n f * 2 ^ 8 + f n) / 2 ^ k) (block_of n (λ i. 1))
    ∙ ap₂ (λ (x y : ℕ). x * 2 ^ 8 + y) (ap (λ (x : ℕ). bit_and x (block_of n (λ i. 1))) parts.0 ∙ bits_of n k f h low) parts.1

-- Blocks of 16 bytes.
pub repeated : (c : ℕ) → block_of 16 (λ i. c) ≡ c * 0x01010101010101010101010101010101
unfolding block_of
repeated c = omega arith

-- the bit with one number of each of 16 bytes
pub lowest_bits : (k : ℕ) (f : ℕ → ℕ) → k < 8 → AreBytes f
    → bit_and (block_of 16 f / 2 ^ k) 0x01010101010101010101010101010101 ≡ block_of 16 (λ i. f i / 2 ^ k % 2)
lowest_bits k f low h = ap (bit_and (block_of 16 f / 2 ^ k)) (sym (repeated 1)) ∙ bits_of 16 k f low h

-- the highest bit of each byte
highest_is : (f : ℕ → ℕ) → AreBytes f → highest_bits (block_of 16 f) ≡ block_of 16 (λ i. f i / 2 ^ 7 % 2)
unfolding highest_bits
highest_is f h = lowest_bits 7 f (omega arith) h

-- the seven others, one place higher
raised_is : (f : ℕ → ℕ) → AreBytes f → others_raised (block_of 16 f) ≡ block_of 16 (λ i. f i % 2 ^ 7 * 2)
unfolding others_raised
raised_is f h =
    ap (λ (x : ℕ). x * 2 % 2 ^ 128)
    (ap (bit_and (block_of 16 f)) (sym (repeated 0x7f)) ∙ (and_of 16 f (λ i. 0x7f) h (λ i. omega arith)
    ∙ same_block 16 (λ i. bit_and (f i) 0x7f) (λ i. f i % 2 ^ 7) (λ i. and_mask (f i) 7)))
    ∙ times_whole 2 (λ i. f i % 2 ^ 7) (λ i. omega arith)

-- both are the byte times x
pub xtime_is : (b : ℕ) → b < 2 ^ 8 → bit_xor (b % 2 ^ 7 * 2) (b / 2 ^ 7 % 2 * 0x1b) ≡ xtime b
unfolding xtime
xtime_is b h =
    eqb-true (bit_xor (b % 2 ^ 7 * 2) (b / 2 ^ 7 % 2 * 0x1b)) (xtime b)
    (at_each 256 (λ b. eqb (bit_xor (b % 2 ^ 7 * 2) (b / 2 ^ 7 % 2 * 0x1b)) (xtime b)) refl b h)

-- a byte times x is a byte
xtime_byte : (b : ℕ) → b < 2 ^ 8 → xtime b < 2 ^ 8
xtime_byte b h =
    let small = xor_lt 8 (b % 2 ^ 7 * 2) (b / 2 ^ 7 % 2 * 0x1b) (omega arith) (omega arith) in
    let is = xtime_is b h in omega (arith, small, is)

-- each byte times x
doubled_is : (f : ℕ → ℕ) → AreBytes f → doubled (block_of 16 f) ≡ block_of 16 (λ i. xtime (f i))
unfolding doubled
doubled_is f h =
    ap₂ bit_xor (raised_is f h) (ap (λ (x : ℕ). x * 0x1b % 2 ^ 128) (highest_is f h) ∙ times_whole 0x1b (λ i. f i / 2 ^ 7 % 2) (λ i. omega arith))
    ∙ (xor_of 16 (λ i. f i % 2 ^ 7 * 2) (λ i. f i / 2 ^ 7 % 2 * 0x1b) (λ i. omega arith) (λ i. omega arith)
    ∙ same_block 16 (λ i. bit_xor (f i % 2 ^ 7 * 2) (f i / 2 ^ 7 % 2 * 0x1b)) (λ i. xtime (f i)) (λ i. xtime_is (f i) (h i)))

-- a byte where a bit is set
masked : (b t : ℕ) → b < 2 ^ 8 → t < 2 → bit_and b (t * 0xff) ≡ cond (eqb t 1) b 0
masked b zero h low = and_zero_r b
masked b (suc zero) h low = and_mask b 8 ∙ omega (arith, h)
masked b (suc (suc t)) h low = absurd (omega arith)

-- the bytes where the others have a bit
chosen_is : (f g : ℕ → ℕ) (k : ℕ) → k < 8 → AreBytes f → AreBytes g
    → chosen (block_of 16 f) (block_of 16 g) k ≡ block_of 16 (λ i. cond (eqb (f i / 2 ^ k % 2) 1) (g i) 0)
unfolding chosen
chosen_is f g k small h l =
    ap (bit_and (block_of 16 g))
    (ap (λ (x : ℕ). x * 0xff % 2 ^ 128) (lowest_bits k f small h) ∙ times_whole 0xff (λ i. f i / 2 ^ k % 2) (λ i. omega arith))
    ∙ (and_of 16 g (λ i. f i / 2 ^ k % 2 * 0xff) l (λ i. omega arith)
    ∙ same_block 16 (λ i. bit_and (g i) (f i / 2 ^ k % 2 * 0xff)) (λ i. cond (eqb (f i / 2 ^ k % 2) 1) (g i) 0)
    (λ i. masked (g i) (f i / 2 ^ k % 2) (l i) (omega arith)))

-- a byte times a power of x is a byte
xtime_by_byte : (b n : ℕ) → b < 2 ^ 8 → xtime_by b n < 2 ^ 8
unfolding xtime_by
xtime_by_byte b zero h = h
xtime_by_byte b (suc n) h = xtime_byte (xtime_by b n) (xtime_by_byte b n h)

-- each byte times a power of x
doubled_by_is : (f : ℕ → ℕ) (n : ℕ) → AreBytes f → doubled_by (block_of 16 f) n ≡ block_of 16 (λ i. xtime_by (f i) n)
unfolding doubled_by xtime_by
doubled_by_is f zero h = refl
doubled_by_is f (suc n) h = ap doubled (doubled_by_is f n h) ∙ doubled_is (λ i. xtime_by (f i) n) (λ i. xtime_by_byte (f i) n (h i))

-- one of two bytes is a byte
pub either_byte : (c : Bool) (a b : ℕ) → a < 2 ^ 8 → b < 2 ^ 8 → cond c a b < 2 ^ 8
either_byte true a b h k = h
either_byte false a b h k = k

-- a sum of such products is a byte
product_to_byte : (a b n : ℕ) → b < 2 ^ 8 → byte_product_to a b n < 2 ^ 8
unfolding byte_product_to
product_to_byte a b zero h = omega arith
product_to_byte a b (suc n) h =
    xor_lt 8 (byte_product_to a b n) (cond (eqb (a / 2 ^ n % 2) 1) (xtime_by b n) 0) (product_to_byte a b n h)
    (either_byte (eqb (a / 2 ^ n % 2) 1) (xtime_by b n) 0 (xtime_by_byte b n h) (omega arith))

-- the sums of the products with the first bits
product_to_is : (f g : ℕ → ℕ) (n : ℕ) → n ≤ 8 → AreBytes f → AreBytes g
    → product_to (block_of 16 f) (block_of 16 g) n ≡ block_of 16 (λ i. byte_product_to (f i) (g i) n)
unfolding product_to byte_product_to
product_to_is f g zero small h l = sym (repeated 0)
product_to_is f g (suc n) small h l =
    ap₂ bit_xor (product_to_is f g n (omega arith) h l)
    (ap (λ (x : ℕ). chosen (block_of 16 f) x n) (doubled_by_is g n l)
    ∙ chosen_is f (λ i. xtime_by (g i) n) n (omega arith) h (λ i. xtime_by_byte (g i) n (l i)))
    ∙ xor_of 16 (λ i. byte_product_to (f i) (g i) n) (λ i. cond (eqb (f i / 2 ^ n % 2) 1) (xtime_by (g i) n) 0)
    (λ i. product_to_byte (f i) (g i) n (l i))
    (λ i. either_byte (eqb (f i / 2 ^ n % 2) 1) (xtime_by (g i) n) 0 (xtime_by_byte (g i) n (l i)) (omega arith))

-- a product of bytes is a byte
product_byte : (a b : ℕ) → b < 2 ^ 8 → byte_product a b < 2 ^ 8
unfolding byte_product
product_byte a b h = product_to_byte a b 8 h

-- a sum of bytes is a byte
pub xor_byte : (a b : ℕ) → a < 2 ^ 8 → b < 2 ^ 8 → bit_xor a b < 2 ^ 8
xor_byte a b h l = xor_lt 8 a b h l

-- a number that is the block of these bytes
pub record IsBlock (a : ℕ) (f : ℕ → ℕ) : Type 0 where
  pub bytes : AreBytes f
  pub is : a ≡ block_of 16 f

-- bytes and their block
pub its_block : (f : ℕ → ℕ) → AreBytes f → IsBlock (block_of 16 f) f
its_block f h = record { bytes = h; is = refl }

-- other bytes that are the same
pub same_bytes : {a : ℕ} {f : ℕ → ℕ} → IsBlock a f → (g : ℕ → ℕ) → ((i : ℕ) → f i ≡ g i) → IsBlock a g
same_bytes {f} k g e = record { bytes = λ i. rw (e i) at (k.bytes i); is = k.is ∙ same_block 16 f g e }

-- the sum of two such blocks
pub sum_block : {a b : ℕ} {f g : ℕ → ℕ} → IsBlock a f → IsBlock b g → IsBlock (bit_xor a b) (λ i. bit_xor (f i) (g i))
sum_block {f} {g} k l = record {
  bytes = λ i. xor_byte (f i) (g i) (k.bytes i) (l.bytes i);
  is = ap₂ bit_xor k.is l.is ∙ xor_of 16 f g k.bytes l.bytes;
}

-- its bytes times x
pub doubled_block : {a : ℕ} {f : ℕ → ℕ} → IsBlock a f → IsBlock (doubled a) (λ i. xtime (f i))
doubled_block {f} k = record { bytes = λ i. xtime_byte (f i) (k.bytes i); is = ap doubled k.is ∙ doubled_is f k.bytes }

-- the products of bytes
product_block : {a b : ℕ} {f g : ℕ → ℕ} → IsBlock a f → IsBlock b g → IsBlock (product a b) (λ i. byte_product (f i) (g i))
unfolding product byte_product
product_block {f} {g} k l = record {
  bytes = λ i. product_byte (f i) (g i) (l.bytes i);
  is = ap₂ product k.is l.is ∙ product_to_is f g 8 (omega arith) k.bytes l.bytes;
}

-- the inverses of bytes
inverse_block : {a : ℕ} {f : ℕ → ℕ} → IsBlock a f → IsBlock (inverse a) (λ i. byte_inverse (f i))
unfolding inverse byte_inverse
inverse_block k =
    let k2 = product_block k k in
    let k3 = product_block k2 k in
    let k6 = product_block k3 k3 in
    let k12 = product_block k6 k6 in
    let k15 = product_block k12 k3 in
    let k30 = product_block k15 k15 in
    let k60 = product_block k30 k30 in
    let k120 = product_block k60 k60 in
    let k240 = product_block k120 k120 in
    product_block (product_block k240 k12) k2

-- each byte turned by a bit
turned_is : (f : ℕ → ℕ) → AreBytes f → turned (block_of 16 f) ≡ block_of 16 (λ i. byte_turned (f i))
unfolding turned byte_turned
turned_is f h =
    ap₂ bit_xor (raised_is f h) (highest_is f h)
    ∙ (xor_of 16 (λ i. f i % 2 ^ 7 * 2) (λ i. f i / 2 ^ 7 % 2) (λ i. omega arith) (λ i. omega arith)
    ∙ same_block 16 (λ i. bit_xor (f i % 2 ^ 7 * 2) (f i / 2 ^ 7 % 2)) (λ i. f i % 2 ^ 7 * 2 + f i / 2 ^ 7)
    (λ i. apart 1 (f i % 2 ^ 7) (f i / 2 ^ 7 % 2) (omega arith) ∙ let low = h i in omega (arith, low)))

-- its bytes turned by a bit
turned_block : {a : ℕ} {f : ℕ → ℕ} → IsBlock a f → IsBlock (turned a) (λ i. byte_turned (f i))
unfolding byte_turned
turned_block {f} k = record {
  bytes = λ i. let low = k.bytes i in omega (arith, low);
  is = ap turned k.is ∙ turned_is f k.bytes;
}

-- the affine map of its bytes
mapped_block : {a : ℕ} {f : ℕ → ℕ} → IsBlock a f → IsBlock (mapped a) (λ i. byte_mapped (f i))
unfolding mapped byte_mapped
mapped_block k =
    let b = turned_block k in
    let c = turned_block b in
    let d = turned_block c in
    let e = turned_block d in
    let constant : IsBlock 0x63636363636363636363636363636363 (λ i. 0x63) = record { bytes = λ i. omega arith; is = sym (repeated 0x63) } in
    sum_block (sum_block (sum_block (sum_block (sum_block k b) c) d) e) constant

-- the S-box of its bytes
pub s_box_block : {a : ℕ} {f : ℕ → ℕ} → IsBlock a f → IsBlock (sub_bytes a) (λ i. s_box (f i))
unfolding sub_bytes s_box
s_box_block k = mapped_block (inverse_block k)

-- the S-box of a byte is a byte
pub s_box_byte : (b : ℕ) → b < 2 ^ 8 → s_box b < 2 ^ 8
s_box_byte b h = (s_box_block (its_block (λ i. b) (λ i. h))).bytes 0
