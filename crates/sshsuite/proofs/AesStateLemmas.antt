-- Rounds over a block are the standard's over its bytes.

use Rattle.std.proofs.Common.{◌≡◌, ℕ, zero, suc, ◌+◌, ◌-◌, ◌*◌, ◌/◌, ◌%◌, ◌^◌, ◌<◌, ◌≤◌, inl, inr, true, false, List, length, refl, sym, ap, ap₂, ◌∙◌, arith, cond, eqb, ltb}
use Rattle.std.proofs.lemmas.Bool.{cases_Bool, eqb-false, eqb-true, le-ltb, lt-ltb}
use Rattle.std.proofs.lemmas.Nat.{and_le_l, and_mask, mod-mul-add, or_block, or_lt, or_shifted, pow-add, shl_below, shr_high, xor_comm, xor_mod}
use Rattle.std.specs.Int.Bits.{and_zero_r, or_zero_l, or_zero_r, xor_assoc, xor_zero_l, xor_zero_r}
use Rattle.std.specs.Prelude.{bit_and, bit_or, bit_xor, slice_index}
use Rattle.sshsuite.specs.Aes.{after_rounds, cipher, last_round, mix_columns, number_at, round, shift_rows, turned_words}
use Rattle.sshsuite.specs.AesBytes.{below_in_column, block_of, byte_product, byte_product_to, encrypted_state, mixed_column, s_box, shifted_row, state_after, with_key, xtime, xtime_by}
use Rattle.sshsuite.proofs.AesLemmas.{AreBytes, IsBlock, and_of, below_power, doubled_block, either_byte, its_block, next_power, s_box_block, same_bytes, same_until, sum_at, sum_block, xor_byte, xtime_is}
use Rattle.sshsuite.proofs.LinearLemmas.{exchanged, raised}

-- bits that one of two blocks has, byte by byte
or_of : (n : ℕ) (f g : ℕ → ℕ) → AreBytes f → AreBytes g → bit_or (block_of n f) (block_of n g) ≡ block_of n (λ i. bit_or (f i) (g i))
unfolding block_of
or_of zero f g h k = or_zero_l 0
or_of (suc n) f g h k =
    or_block 8 (block_of n f) (block_of n g) (f n) (g n) (h n) (k n) ∙ ap (λ (m : ℕ). m * 2 ^ 8 + bit_or (f n) (g n)) (or_of n f g h k)

-- a byte has no bit beyond its mask
whole_byte : (a : ℕ) → a < 2 ^ 8 → bit_and a 0xff ≡ a
whole_byte a h = let is = and_mask a 8 in omega (arith, is, h)

-- other bytes that are the same below 16
pub same_below : {a : ℕ} {f : ℕ → ℕ} → IsBlock a f → (g : ℕ → ℕ) → AreBytes g → ((i : ℕ) → i < 16 → f i ≡ g i) → IsBlock a g
same_below {f} k g h e = record { bytes = h; is = k.is ∙ same_until 16 f g e }

-- bits that two blocks both have
both_block : {a b : ℕ} {f g : ℕ → ℕ} → IsBlock a f → IsBlock b g → IsBlock (bit_and a b) (λ i. bit_and (f i) (g i))
both_block {f} {g} k l = record {
  bytes = λ i. let less = and_le_l (f i) (g i) in let low = k.bytes i in omega (arith, less, low);
  is = ap₂ bit_and k.is l.is ∙ and_of 16 f g k.bytes l.bytes;
}

-- bits that one of two blocks has
either_block : {a b : ℕ} {f g : ℕ → ℕ} → IsBlock a f → IsBlock b g → IsBlock (bit_or a b) (λ i. bit_or (f i) (g i))
either_block {f} {g} k l = record {
  bytes = λ i. or_lt 8 (f i) (g i) (k.bytes i) (l.bytes i);
  is = ap₂ bit_or k.is l.is ∙ or_of 16 f g k.bytes l.bytes;
}

-- A block in two parts.
pub split : (n m : ℕ) (f : ℕ → ℕ) → block_of (n + m) f ≡ block_of n f * 2 ^ (8 * m) + block_of m (λ i. f (i + n))
unfolding block_of
split n zero f = ap (λ (x : ℕ). block_of x f) (let e : n + 0 ≡ n = omega arith in e) ∙ omega arith
split n (suc m) f =
    let before = split n m f in
    let power = next_power m in
    let place : f (n + m) ≡ f (m + n) = ap f (omega arith) in
    ap (λ (x : ℕ). block_of x f) (let e : n + suc m ≡ suc (n + m) = omega arith in e) ∙ rw power (omega (arith, before, place))

-- the same for 16 bytes
parted : (n m : ℕ) (f : ℕ → ℕ) → n + m ≡ 16 → block_of 16 f ≡ block_of n f * 2 ^ (8 * m) + block_of m (λ i. f (i + n))
parted n m f all = ap (λ (x : ℕ). block_of x f) (sym all) ∙ split n m f

-- a block turned by n bytes
turned_by : (n m : ℕ) (f : ℕ → ℕ) → n + m ≡ 16 → AreBytes f
    → bit_or (block_of 16 f * 2 ^ (8 * n) % 2 ^ 128) (block_of 16 f / 2 ^ (8 * m)) ≡ block_of 16 (λ i. f ((i + n) % 16))
turned_by n m f all h =
    let g : ℕ → ℕ = λ i. f ((i + n) % 16) in
    let high : ℕ = block_of n f in
    let low : ℕ = block_of m (λ i. f (i + n)) in
    let low_small = below_power m (λ i. f (i + n)) (λ i. h (i + n)) in
    let parts = parted n m f all in
    let powers : 2 ^ (8 * m) * 2 ^ (8 * n) ≡ 2 ^ 128
    = sym (pow-add 2 (8 * m) (8 * n)) ∙ ap (λ (x : ℕ). 2 ^ x) (let e : 8 * m + 8 * n ≡ 128 = omega (arith, all) in e) in
    let moved : block_of 16 f * 2 ^ (8 * n) ≡ high * 2 ^ 128 + low * 2 ^ (8 * n)
    = ap (λ (x : ℕ). x * 2 ^ (8 * n)) parts ∙ (let more = ap (λ (x : ℕ). high * x) powers in omega (arith, more)) in
    let fits : low * 2 ^ (8 * n) < 2 ^ 128
    = rw (pow-add 2 (8 * m) (8 * n), powers) at (shl_below low (8 * m) (8 * n) low_small) in
    let front : block_of 16 f * 2 ^ (8 * n) % 2 ^ 128 ≡ low * 2 ^ (8 * n) = ap (λ (x : ℕ). x % 2 ^ 128) moved ∙ mod-mul-add high (2 ^ 128) _ fits in
    let back : block_of 16 f / 2 ^ (8 * m) ≡ high = ap (λ (x : ℕ). x / 2 ^ (8 * m)) parts ∙ shr_high high (8 * m) low low_small in
    ap₂ bit_or front back ∙ (or_shifted low (8 * n) high (below_power n f h)
    ∙ (ap₂ (λ (x y : ℕ). x * 2 ^ (8 * n) + y) (same_until m (λ i. f (i + n)) g (λ i k. ap f (omega (arith, all))))
    (same_until n f (λ i. g (i + m)) (λ i k. ap f (omega (arith, all)))) ∙ sym (parted m n g (omega (arith, all)))))

-- such a block by its bytes
turned_block : (n m : ℕ) {a : ℕ} {f : ℕ → ℕ} → n + m ≡ 16 → IsBlock a f
    → IsBlock (bit_or (a * 2 ^ (8 * n) % 2 ^ 128) (a / 2 ^ (8 * m))) (λ i. f ((i + n) % 16))
turned_block n m {f} all k = record {
  bytes = λ i. k.bytes ((i + n) % 16);
  is = ap (λ (x : ℕ). bit_or (x * 2 ^ (8 * n) % 2 ^ 128) (x / 2 ^ (8 * m))) k.is ∙ turned_by n m f all k.bytes;
}

-- a block moved by m bytes to its end
zeros : (n : ℕ) → block_of n (λ i. 0) ≡ 0
unfolding block_of
zeros zero = refl
zeros (suc n) = let before = zeros n in omega (arith, before)

-- its bytes: zeros, and then those before
pub moved_block : (n m : ℕ) {a : ℕ} {f : ℕ → ℕ} → n + m ≡ 16 → IsBlock a f → IsBlock (a / 2 ^ (8 * m)) (λ i. cond (ltb i m) 0 (f (i - m)))
moved_block n m {f} all k =
    let g : ℕ → ℕ = λ i. cond (ltb i m) 0 (f (i - m)) in
    let low : ℕ = block_of m (λ i. f (i + n)) in
    let back : block_of 16 f / 2 ^ (8 * m) ≡ block_of n f
    = ap (λ (x : ℕ). x / 2 ^ (8 * m)) (parted n m f all)
    ∙ shr_high (block_of n f) (8 * m) low (below_power m (λ i. f (i + n)) (λ i. k.bytes (i + n))) in
    let first : block_of m g ≡ 0 = same_until m g (λ i. 0) (λ i small. rw (lt-ltb i m small) refl) ∙ zeros m in
    let last : block_of n (λ i. g (i + m)) ≡ block_of n f = same_until n (λ i. g (i + m)) f (λ i _.
    rw (le-ltb (i + m) m (omega arith)) (ap f (let e : i + m - m ≡ i = omega arith in e))) in
    let parts : block_of 16 g ≡ block_of m g * 2 ^ (8 * n) + block_of n (λ i. g (i + m)) = parted m n g (omega (arith, all)) in
    let whole : block_of 16 g ≡ block_of n f = parts ∙ (ap₂ (λ (x y : ℕ). x * 2 ^ (8 * n) + y) first last ∙ omega arith) in
    record {
      bytes = λ i. either_byte (ltb i m) 0 (f (i - m)) (omega arith) (k.bytes (i - m));
      is = ap (λ (x : ℕ). x / 2 ^ (8 * m)) k.is ∙ (back ∙ sym whole);
    }

-- Rows.
unfoldable row_mask : ℕ → ℕ → ℕ
row_mask r i = cond (eqb (i % 4) r) 0xff 0

-- the mask as a number
mask_is : (r : ℕ) → r < 4 → 0xff000000ff000000ff000000ff000000 / 2 ^ (8 * r) ≡ block_of 16 (row_mask r)
unfolding block_of row_mask
mask_is zero h = refl
mask_is (suc zero) h = refl
mask_is (suc (suc zero)) h = refl
mask_is (suc (suc (suc zero))) h = refl
mask_is (suc (suc (suc (suc r)))) h = absurd (omega arith)

-- and with its bytes
mask_block : (r : ℕ) → r < 4 → IsBlock (0xff000000ff000000ff000000ff000000 / 2 ^ (8 * r)) (row_mask r)
unfolding row_mask
mask_block r low = record { bytes = λ i. either_byte (eqb (i % 4) r) 0xff 0 (omega arith) (omega arith); is = mask_is r low }

-- of four bytes the one of this row
chosen_row : (t : ℕ) (a : ℕ → ℕ) → t < 4 → AreBytes a
    → bit_or (bit_or (bit_or (bit_and (a 0) (cond (eqb t 0) 0xff 0)) (bit_and (a 1) (cond (eqb t 1) 0xff 0))) (bit_and (a 2) (cond (eqb t 2) 0xff 0)))
    (bit_and (a 3) (cond (eqb t 3) 0xff 0)) ≡ a t
chosen_row zero a h k = simp (whole_byte (a 0) (k 0), and_zero_r, or_zero_r) refl
chosen_row (suc zero) a h k = simp (whole_byte (a 1) (k 1), and_zero_r, or_zero_r, or_zero_l) refl
chosen_row (suc (suc zero)) a h k = simp (whole_byte (a 2) (k 2), and_zero_r, or_zero_r, or_zero_l) refl
chosen_row (suc (suc (suc zero))) a h k = simp (whole_byte (a 3) (k 3), and_zero_r, or_zero_l) refl
chosen_row (suc (suc (suc (suc t)))) a h k = absurd (omega arith)

-- ShiftRows of a block
pub shifted_block : {a : ℕ} {f : ℕ → ℕ} → IsBlock a f → IsBlock (shift_rows a) (shifted_row f)
unfolding shift_rows shifted_row row_mask
shifted_block {f} k =
    let row0 = both_block k (mask_block 0 (omega arith)) in
    let row1 = both_block (turned_block 4 12 refl k) (mask_block 1 (omega arith)) in
    let row2 = both_block (turned_block 8 8 refl k) (mask_block 2 (omega arith)) in
    let row3 = both_block (turned_block 12 4 refl k) (mask_block 3 (omega arith)) in
    same_below (either_block (either_block (either_block row0 row1) row2) row3) (shifted_row f) (λ i. k.bytes ((i + 4 * (i % 4)) % 16)) (λ i low.
    ap (λ (x : ℕ). bit_or (bit_or (bit_or (bit_and (f x) (row_mask 0 i)) (bit_and (f ((i + 4) % 16)) (row_mask 1 i)))
    (bit_and (f ((i + 8) % 16)) (row_mask 2 i))) (bit_and (f ((i + 12) % 16)) (row_mask 3 i))) (let e : i ≡ (i + 4 * 0) % 16 = omega arith in e)
    ∙ chosen_row (i % 4) (λ t. f ((i + 4 * t) % 16)) (omega arith) (λ t. k.bytes ((i + 4 * t) % 16)))

-- Columns.
join_left : (f : ℕ → ℕ) → block_of 15 (λ i. f (i + 1)) * 2 ^ 8 ≡ block_of 16 (λ i. cond (ltb i 15) (f (i + 1)) 0)
unfolding block_of
join_left f = omega arith

-- a block moved by one byte to its start
left_block : {a : ℕ} {f : ℕ → ℕ} → IsBlock a f → IsBlock (a * 2 ^ 8 % 2 ^ 128) (λ i. cond (ltb i 15) (f (i + 1)) 0)
left_block {f} k =
    let parts = split 1 15 f in
    let low = below_power 15 (λ i. f (i + 1)) (λ i. k.bytes (i + 1)) in
    let front : block_of 16 f * 2 ^ 8 % 2 ^ 128 ≡ block_of 15 (λ i. f (i + 1)) * 2 ^ 8 = omega (arith, parts, low) in
    record {
      bytes = λ i. either_byte (ltb i 15) (f (i + 1)) 0 (k.bytes (i + 1)) (omega arith);
      is = ap (λ (x : ℕ). x * 2 ^ 8 % 2 ^ 128) k.is ∙ (front ∙ join_left f);
    }

-- the mask of all rows but the last
unfoldable other_rows : ℕ → ℕ
other_rows i = cond (eqb (i % 4) 3) 0 0xff

-- as a number
other_block : IsBlock 0xffffff00ffffff00ffffff00ffffff00 other_rows
unfolding block_of other_rows
other_block = record { bytes = λ i. either_byte (eqb (i % 4) 3) 0 0xff (omega arith) (omega arith); is = refl }

-- the place below in the same column
abbrev pub next : ℕ → ℕ
next i = 4 * (i / 4) + (i + 1) % 4

-- from both movements each byte comes from the place below
next_is : (f : ℕ → ℕ) (i : ℕ) → AreBytes f → i < 16
    → bit_or (bit_and (cond (ltb i 15) (f (i + 1)) 0) (other_rows i)) (bit_and (cond (ltb i 3) 0 (f (i - 3))) (row_mask 3 i)) ≡ f (next i)
unfolding other_rows row_mask
next_is f i h low =
    elim (cases_Bool (eqb (i % 4) 3)) [
      | inl e ↦
          let at = eqb-true (i % 4) 3 e in
          let large : ltb i 3 ≡ false = le-ltb i 3 (omega (arith, at)) in
          let place : i - 3 ≡ next i = omega (arith, at) in
          rw e (rw large (ap (λ (x : ℕ). bit_or x (bit_and (f (i - 3)) 0xff)) (and_zero_r (cond (ltb i 15) (f (i + 1)) 0))
          ∙ (or_zero_l (bit_and (f (i - 3)) 0xff) ∙ (whole_byte (f (i - 3)) (h (i - 3)) ∙ ap f place))))
      | inr e ↦
          let off = eqb-false (i % 4) 3 e in
          let small : ltb i 15 ≡ true = lt-ltb i 15 (omega (arith, off)) in
          let place : i + 1 ≡ next i = omega (arith, off) in
          rw e (rw small (ap (bit_or (bit_and (f (i + 1)) 0xff)) (and_zero_r (cond (ltb i 3) 0 (f (i - 3))))
          ∙ (or_zero_r (bit_and (f (i + 1)) 0xff) ∙ (whole_byte (f (i + 1)) (h (i + 1)) ∙ ap f place))))
    ]

-- the columns turned by one byte
pub turned_words_block : {a : ℕ} {f : ℕ → ℕ} → IsBlock a f → IsBlock (turned_words a) (λ i. f (next i))
unfolding turned_words
turned_words_block {f} k =
    same_below (either_block (both_block (left_block k) other_block) (both_block (moved_block 13 3 refl k) (mask_block 3 (omega arith))))
    (λ i. f (next i)) (λ i. k.bytes (next i)) (λ i low. next_is f i k.bytes low)

-- 2 and 3 times a byte
product_2 : (a : ℕ) → byte_product 2 a ≡ xtime a
unfolding byte_product byte_product_to xtime_by
product_2 a = simp (xor_zero_r, xor_zero_l) refl

-- 3 times a byte
product_3 : (a : ℕ) → byte_product 3 a ≡ bit_xor a (xtime a)
unfolding byte_product byte_product_to xtime_by
product_3 a = simp (xor_zero_r, xor_zero_l) refl

-- bits times 0x1b
times_27_bits : (s t : ℕ) → s < 2 → t < 2 → bit_xor s t * 0x1b ≡ bit_xor (s * 0x1b) (t * 0x1b)
times_27_bits zero zero h k = refl
times_27_bits zero (suc zero) h k = refl
times_27_bits (suc zero) zero h k = refl
times_27_bits (suc zero) (suc zero) h k = refl
times_27_bits (suc (suc s)) t h k = absurd (omega arith)
times_27_bits s (suc (suc t)) h k = absurd (omega arith)

-- x times a sum
xtime_sum : (a b : ℕ) → a < 2 ^ 8 → b < 2 ^ 8 → xtime (bit_xor a b) ≡ bit_xor (xtime a) (xtime b)
xtime_sum a b h k =
    let low = ap (λ (x : ℕ). x * 2) (xor_mod a b 7) ∙ raised 1 (a % 2 ^ 7) (b % 2 ^ 7) in
    let high = ap (λ (x : ℕ). x * 0x1b) (sum_at 7 a b) ∙ times_27_bits (a / 2 ^ 7 % 2) (b / 2 ^ 7 % 2) (omega arith) (omega arith) in
    sym (xtime_is (bit_xor a b) (xor_byte a b h k))
    ∙ (ap₂ bit_xor low high
    ∙ (exchanged (a % 2 ^ 7 * 2) (b % 2 ^ 7 * 2) (a / 2 ^ 7 % 2 * 0x1b) (b / 2 ^ 7 % 2 * 0x1b) ∙ ap₂ bit_xor (xtime_is a h) (xtime_is b k)))

-- 2 a + 3 b + c + d, where x is taken out of a and b
mixed_byte : (a b c d : ℕ) → a < 2 ^ 8 → b < 2 ^ 8
    → bit_xor (bit_xor (bit_xor (xtime (bit_xor a b)) b) c) d ≡ bit_xor (bit_xor (bit_xor (byte_product 2 a) (byte_product 3 b)) c) d
mixed_byte a b c d h k =
    ap (λ (x : ℕ). bit_xor (bit_xor x c) d)
    (ap (λ (x : ℕ). bit_xor x b) (xtime_sum a b h k)
    ∙ (xor_assoc (xtime a) (xtime b) b ∙ (ap (bit_xor (xtime a)) (xor_comm (xtime b) b ∙ sym (product_3 b))
    ∙ ap (λ (x : ℕ). bit_xor x (byte_product 3 b)) (sym (product_2 a)))))

-- the bytes of a mixed column
pub mixed_is : (f : ℕ → ℕ) → AreBytes f → (i : ℕ)
    → bit_xor (bit_xor (bit_xor (xtime (bit_xor (f i) (f (next i)))) (f (next i))) (f (next (next i)))) (f (next (next (next i)))) ≡ mixed_column f i
unfolding mixed_column below_in_column
mixed_is f h i =
    let e0 : i ≡ 4 * (i / 4) + (i % 4 + 0) % 4 = omega arith in
    let e1 : next i ≡ 4 * (i / 4) + (i % 4 + 1) % 4 = omega arith in
    let e2 : next (next i) ≡ 4 * (i / 4) + (i % 4 + 2) % 4 = omega arith in
    let e3 : next (next (next i)) ≡ 4 * (i / 4) + (i % 4 + 3) % 4 = omega arith in
    mixed_byte (f i) (f (next i)) (f (next (next i))) (f (next (next (next i)))) (h i) (h (next i))
    ∙ ap₂ bit_xor (ap₂ bit_xor (ap₂ bit_xor (ap (λ (p : ℕ). byte_product 2 (f p)) e0) (ap (λ (p : ℕ). byte_product 3 (f p)) e1)) (ap f e2)) (ap f e3)

-- MixColumns of a block
mixed_block : {a : ℕ} {f : ℕ → ℕ} → IsBlock a f → IsBlock (mix_columns a) (mixed_column f)
unfolding mix_columns
mixed_block {f} k =
    let b = turned_words_block k in
    let c = turned_words_block b in
    let d = turned_words_block c in
    same_bytes (sum_block (sum_block (sum_block (doubled_block (sum_block k b)) b) c) d) (mixed_column f) (mixed_is f k.bytes)

-- Rounds.
abbrev pub substituted : (ℕ → ℕ) → ℕ → ℕ
substituted f i = s_box (f i)

-- AddRoundKey of a block
pub keyed_block : {a b : ℕ} {f k : ℕ → ℕ} → IsBlock a f → IsBlock b k → IsBlock (bit_xor a b) (with_key f k)
unfolding with_key
keyed_block l m = sum_block l m

-- the states are bytes
pub states_bytes : (keys : ℕ → ℕ → ℕ) (f : ℕ → ℕ) (n : ℕ) → ((j : ℕ) → AreBytes (keys j)) → AreBytes f → AreBytes (state_after keys f n)
unfolding state_after
states_bytes keys f zero k h = (keyed_block (its_block f h) (its_block (keys 0) (k 0))).bytes
states_bytes keys f (suc n) k h =
    let before = its_block (state_after keys f n) (states_bytes keys f n k h) in
    (keyed_block (mixed_block (shifted_block (s_box_block before))) (its_block (keys (suc n)) (k (suc n)))).bytes

-- round keys that are blocks of these bytes
abbrev pub AreKeys : List ℕ → (ℕ → ℕ → ℕ) → Type 0
AreKeys keys by = (j : ℕ) → j < length keys → slice_index keys j ≡ block_of 16 (by j)

-- the block after so many rounds is the state
states_block : (keys : List ℕ) (by : ℕ → ℕ → ℕ) (f : ℕ → ℕ) (n : ℕ) → ((j : ℕ) → AreBytes (by j)) → AreKeys keys by → AreBytes f → n < length keys
    → IsBlock (after_rounds keys (block_of 16 f) n) (state_after by f n)
unfolding after_rounds state_after round
states_block keys by f zero k are h low = keyed_block (its_block f h) (record { bytes = k 0; is = are 0 low })
states_block keys by f (suc n) k are h low =
    keyed_block (mixed_block (shifted_block (s_box_block (states_block keys by f n k are h (omega arith)))))
    (record { bytes = k (suc n); is = are (suc n) low })

-- a block encrypted, with as many rounds but the last as there are keys but two
abbrev last_state : (ℕ → ℕ → ℕ) → (ℕ → ℕ) → ℕ → ℕ → ℕ → ℕ
last_state by f before last = with_key (shifted_row (substituted (state_after by f before))) (by last)

-- it is the last state
pub cipher_by_state : (keys : List ℕ) (by : ℕ → ℕ → ℕ) (f : ℕ → ℕ) → 2 ≤ length keys → ((j i : ℕ) → by j i < 2 ^ 8) → AreKeys keys by
    → ((i : ℕ) → f i < 2 ^ 8) → cipher keys (block_of 16 f) ≡ block_of 16 (last_state by f (length keys - 2) (length keys - 1))
unfolding cipher last_round
cipher_by_state keys by f some k are h =
    let n : ℕ = length keys - 2 in
    let last : ℕ = length keys - 1 in
    (keyed_block (shifted_block (s_box_block (states_block keys by f n k are h (omega (arith, some)))))
    (record { bytes = k last; is = are last (omega (arith, some)) })).is

-- which the standard names by the number of rounds
pub cipher_is : (keys : List ℕ) (by : ℕ → ℕ → ℕ) (f : ℕ → ℕ) (rounds : ℕ) → 1 ≤ rounds → length keys ≡ rounds + 1 → ((j i : ℕ) → by j i < 2 ^ 8)
    → AreKeys keys by → ((i : ℕ) → f i < 2 ^ 8) → cipher keys (block_of 16 f) ≡ block_of 16 (encrypted_state rounds by f)
unfolding encrypted_state
cipher_is keys by f rounds some long k are h =
    let before : length keys - 2 ≡ rounds - 1 = omega (arith, long) in
    let last : length keys - 1 ≡ rounds = omega (arith, long) in
    cipher_by_state keys by f (omega (arith, some, long)) k are h ∙ ap₂ (λ (m n : ℕ). block_of 16 (last_state by f m n)) before last

-- 16 bytes of a list
pub number_is : (bytes : List ℕ) (i : ℕ) → number_at bytes i ≡ block_of 16 (λ k. slice_index bytes (i + k))
unfolding number_at block_of
number_is bytes i =
    let first : slice_index bytes (i + 0) ≡ slice_index bytes i = ap (slice_index bytes) (omega arith) in
    omega (arith, first)
