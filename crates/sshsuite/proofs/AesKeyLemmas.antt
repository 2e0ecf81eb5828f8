-- Round keys are those of the standard's key schedule.

use Rattle.std.proofs.Common.{◌≡◌, ℕ, zero, suc, ◌+◌, ◌-◌, ◌*◌, ◌/◌, ◌%◌, ◌^◌, ◌<◌, true, false, List, [], ◌∷◌, length, refl, sym, ap, ap₂, ◌∙◌, arith, cond, eqb, ltb}
use Rattle.std.proofs.lemmas.Bool.{le-ltb, lt-ltb, ltb-true}
use Rattle.std.specs.Int.Bits.{xor_assoc, xor_zero_r}
use Rattle.std.specs.Prelude.{bit_xor, slice_index}
use Rattle.sshsuite.specs.Aes.{cipher, last_word, next_key, next_pair, number_at, round_keys, short_round_keys, sub_bytes, summed_words, turned_words}
use Rattle.sshsuite.specs.AesBytes.{IsExpanded, IsShortSchedule, block_of, encrypted_state, key_state, s_box, xtime, xtime_by}
use Rattle.sshsuite.proofs.AesLemmas.{AreBytes, IsBlock, below_power, either_byte, s_box_block, same_bytes, same_until, sum_block}
use Rattle.sshsuite.proofs.AesStateLemmas.{cipher_is, moved_block, next, number_is, same_below, split, turned_words_block}
use Rattle.sshsuite.proofs.TestLemmas.{at_each}

-- the last word, four times
four_times : (f : ℕ → ℕ) → block_of 4 (λ i. f (i + 12)) * 0x00000001000000010000000100000001 ≡ block_of 16 (λ i. f (12 + i % 4))
unfolding block_of
four_times f = omega arith

-- the last word of a block, four times
last_block : {a : ℕ} {f : ℕ → ℕ} → IsBlock a f → IsBlock (last_word a) (λ i. f (12 + i % 4))
unfolding last_word
last_block {f} k =
    let parts = split 12 4 f in
    let low = below_power 4 (λ i. f (i + 12)) (λ i. k.bytes (i + 12)) in
    let word : block_of 16 f % 2 ^ 32 ≡ block_of 4 (λ i. f (i + 12)) = omega (arith, parts, low) in
    let times : ℕ → ℕ = λ x. x * 0x00000001000000010000000100000001 in
    let whole : times (block_of 4 (λ i. f (i + 12))) % 2 ^ 128 ≡ times (block_of 4 (λ i. f (i + 12))) = omega (arith, low) in
    record {
      bytes = λ i. k.bytes (12 + i % 4);
      is = ap (λ (x : ℕ). times (x % 2 ^ 32) % 2 ^ 128) k.is ∙ (ap (λ (x : ℕ). times x % 2 ^ 128) word ∙ (whole ∙ four_times f));
    }

-- the sum of a word and the one before
abbrev pair_sum : (ℕ → ℕ) → ℕ → ℕ
pair_sum f i = bit_xor (f i) (cond (ltb i 4) 0 (f (i - 4)))

-- the sum of each word and all before it
abbrev sum_of : (ℕ → ℕ) → ℕ → ℕ
sum_of f i = bit_xor (pair_sum f i) (cond (ltb i 8) 0 (pair_sum f (i - 8)))

-- the words of a block summed
summed_block : {a : ℕ} {f : ℕ → ℕ} → IsBlock a f → IsBlock (summed_words a) (sum_of f)
unfolding summed_words
summed_block k =
    let pairs = sum_block k (moved_block 12 4 refl k) in
    sum_block pairs (moved_block 8 8 refl pairs)

-- the round constant
constant_block : (c : ℕ) → c < 2 ^ 8 → IsBlock (c * 0x01000000010000000100000001000000 % 2 ^ 128) (λ i. cond (eqb (i % 4) 0) c 0)
unfolding block_of
constant_block c h = record { bytes = λ i. either_byte (eqb (i % 4) 0) c 0 h (omega arith); is = omega (arith, h) }

-- the sum at a place, by its word and row
sum_0 : (f : ℕ → ℕ) (r : ℕ) → r < 4 → sum_of f (0 + r) ≡ f (0 + r)
sum_0 f r h =
    let e : ltb (0 + r) 4 ≡ true = lt-ltb (0 + r) 4 (omega arith) in
    let d : ltb (0 + r) 8 ≡ true = lt-ltb (0 + r) 8 (omega arith) in
    simp (e, d, xor_zero_r) refl

-- that of the second word
sum_1 : (f : ℕ → ℕ) (r : ℕ) → r < 4 → sum_of f (4 + r) ≡ bit_xor (f (4 + r)) (f (0 + r))
sum_1 f r h =
    let e : ltb (4 + r) 4 ≡ false = le-ltb (4 + r) 4 (omega arith) in
    let d : ltb (4 + r) 8 ≡ true = lt-ltb (4 + r) 8 (omega arith) in
    let at : 4 + r - 4 ≡ 0 + r = omega arith in
    simp (e, d, at, xor_zero_r) refl

-- that of the third
sum_2 : (f : ℕ → ℕ) (r : ℕ) → r < 4 → sum_of f (8 + r) ≡ bit_xor (bit_xor (f (8 + r)) (f (4 + r))) (f (0 + r))
sum_2 f r h =
    let e : ltb (8 + r) 4 ≡ false = le-ltb (8 + r) 4 (omega arith) in
    let d : ltb (8 + r) 8 ≡ false = le-ltb (8 + r) 8 (omega arith) in
    let at : 8 + r - 4 ≡ 4 + r = omega arith in
    let low : 8 + r - 8 ≡ 0 + r = omega arith in
    let g : ltb (0 + r) 4 ≡ true = lt-ltb (0 + r) 4 (omega arith) in
    simp (e, d, at, low, g, xor_zero_r) refl

-- that of the last
sum_3 : (f : ℕ → ℕ) (r : ℕ) → r < 4 → sum_of f (12 + r) ≡ bit_xor (bit_xor (f (12 + r)) (f (8 + r))) (bit_xor (f (4 + r)) (f (0 + r)))
sum_3 f r h =
    let e : ltb (12 + r) 4 ≡ false = le-ltb (12 + r) 4 (omega arith) in
    let d : ltb (12 + r) 8 ≡ false = le-ltb (12 + r) 8 (omega arith) in
    let at : 12 + r - 4 ≡ 8 + r = omega arith in
    let low : 12 + r - 8 ≡ 4 + r = omega arith in
    let g : ltb (4 + r) 4 ≡ false = le-ltb (4 + r) 4 (omega arith) in
    let lower : 4 + r - 4 ≡ 0 + r = omega arith in
    simp (e, d, at, low, g, lower) refl

-- a word further it is the sum before and the word
sum_next : (f : ℕ → ℕ) (c r : ℕ) → c < 3 → r < 4 → sum_of f (4 * suc c + r) ≡ bit_xor (f (4 * suc c + r)) (sum_of f (4 * c + r))
sum_next f zero r h low = sum_1 f r low ∙ ap (bit_xor (f (4 + r))) (sym (sum_0 f r low))
sum_next f (suc zero) r h low = sum_2 f r low ∙ (xor_assoc (f (8 + r)) (f (4 + r)) (f (0 + r)) ∙ ap (bit_xor (f (8 + r))) (sym (sum_1 f r low)))
sum_next f (suc (suc zero)) r h low =
    sum_3 f r low ∙ (xor_assoc (f (12 + r)) (f (8 + r)) (bit_xor (f (4 + r)) (f (0 + r)))
    ∙ ap (bit_xor (f (12 + r))) (sym (xor_assoc (f (8 + r)) (f (4 + r)) (f (0 + r))) ∙ sym (sum_2 f r low)))
sum_next f (suc (suc (suc c))) r h low = absurd (omega arith)

-- a word by its number
two : (w : ℕ → ℕ → ℕ) (n m r : ℕ) → n ≡ m → w n r ≡ w m r
two w n m r e = ap (λ (x : ℕ). w x r) e

-- a round key's bytes are bytes, each by its word and row
schedule_bytes : (w : ℕ → ℕ → ℕ) → ((n r : ℕ) → w n r < 2 ^ 8) → (j : ℕ) → AreBytes (key_state w j)
unfolding key_state
schedule_bytes w h j i = h (4 * j + i / 4) (i % 4)

-- the byte of a round key with this word and row
key_at : (w : ℕ → ℕ → ℕ) (j c r : ℕ) → r < 4 → key_state w j (4 * c + r) ≡ w (4 * j + c) r
unfolding key_state
key_at w j c r h = ap₂ w (let e : 4 * j + (4 * c + r) / 4 ≡ 4 * j + c = omega arith in e) (let e : (4 * c + r) % 4 ≡ r = omega arith in e)

-- the words of round key p by those of round key q and what the first of them takes in
record IsNext (w : ℕ → ℕ → ℕ) (q p : ℕ) (t : ℕ → ℕ) : Type 0 where
  first : (r : ℕ) → r < 4 → w (4 * p) r ≡ bit_xor (w (4 * q) r) (t r)
  other : (c r : ℕ) → c < 3 → r < 4 → w (4 * p + suc c) r ≡ bit_xor (w (4 * q + suc c) r) (w (4 * p + c) r)

-- so its words are sums of those before and what the first takes in
words_are : (w : ℕ → ℕ → ℕ) (q p : ℕ) (t : ℕ → ℕ) (r : ℕ) → IsNext w q p t → r < 4 → (c : ℕ) → c < 4
    → bit_xor (sum_of (key_state w q) (4 * c + r)) (t r) ≡ w (4 * p + c) r
words_are w q p t r new low zero h =
    ap (λ (x : ℕ). bit_xor x (t r)) (sum_0 (key_state w q) r low ∙ (key_at w q 0 r low ∙ two w (4 * q + 0) (4 * q) r (omega arith)))
    ∙ (sym (new.first r low) ∙ two w (4 * p) (4 * p + 0) r (omega arith))
words_are w q p t r new low (suc c) h =
    let f : ℕ → ℕ = key_state w q in
    ap (λ (x : ℕ). bit_xor x (t r)) (sum_next f c r (omega arith) low)
    ∙ (xor_assoc (f (4 * suc c + r)) (sum_of f (4 * c + r)) (t r)
    ∙ (ap₂ bit_xor (key_at w q (suc c) r low) (words_are w q p t r new low c (omega arith)) ∙ sym (new.other c r (omega arith) low)))

-- a block of such sums is the next round key
new_key : {a : ℕ} (w : ℕ → ℕ → ℕ) (q p : ℕ) (t : ℕ → ℕ) → IsBlock a (λ i. bit_xor (sum_of (key_state w q) i) (t (i % 4))) → IsNext w q p t
    → ((n r : ℕ) → w n r < 2 ^ 8) → IsBlock a (key_state w p)
unfolding key_state
new_key w q p t k new small = same_below k (key_state w p) (schedule_bytes w small p) (λ i low.
    ap (λ (x : ℕ). bit_xor (sum_of (key_state w q) x) (t (i % 4))) (let e : i ≡ 4 * (i / 4) + i % 4 = omega arith in e)
    ∙ words_are w q p t (i % 4) new (omega arith) (i / 4) (omega arith))

-- what the first word takes in: the turned last word before, by the S-box, and a constant, or the last word by the S-box alone
abbrev taken : (ℕ → ℕ) → ℕ → ℕ → ℕ
taken g c r = bit_xor (s_box (g (12 + (r + 1) % 4))) (cond (eqb r 0) c 0)

-- the sums for the first way
first_block : {a b : ℕ} {f g : ℕ → ℕ} (c : ℕ) → IsBlock a f → IsBlock b g → c < 2 ^ 8
    → IsBlock (bit_xor (summed_words a) (bit_xor (sub_bytes (turned_words (last_word b))) (c * 0x01000000010000000100000001000000 % 2 ^ 128)))
    (λ i. bit_xor (sum_of f i) (taken g c (i % 4)))
first_block {f} {g} c k l low =
    same_bytes (sum_block (summed_block k) (sum_block (s_box_block (turned_words_block (last_block l))) (constant_block c low)))
    (λ i. bit_xor (sum_of f i) (taken g c (i % 4))) (λ i.
    ap (λ (x : ℕ). bit_xor (sum_of f i) (bit_xor (s_box (g (12 + x))) (cond (eqb (i % 4) 0) c 0))) (let e : next i % 4 ≡ (i % 4 + 1) % 4 = omega arith in e))

-- the sums for the second
second_block : {a b : ℕ} {f g : ℕ → ℕ} → IsBlock a f → IsBlock b g
    → IsBlock (bit_xor (summed_words a) (sub_bytes (last_word b))) (λ i. bit_xor (sum_of f i) (s_box (g (12 + i % 4))))
second_block k l = sum_block (summed_block k) (s_box_block (last_block l))

-- the first round keys are the key's bytes
start_block : (bytes : List ℕ) (w : ℕ → ℕ → ℕ) (j : ℕ) → ((n r : ℕ) → n < 4 * j + 4 → r < 4 → w n r ≡ slice_index bytes (4 * n + r))
    → ((n r : ℕ) → w n r < 2 ^ 8) → IsBlock (number_at bytes (16 * j)) (key_state w j)
unfolding key_state
start_block bytes w j first small = record {
  bytes = schedule_bytes w small j;
  is = number_is bytes (16 * j) ∙ same_until 16 (λ k. slice_index bytes (16 * j + k)) (λ i. w (4 * j + i / 4) (i % 4)) (λ i low.
      ap (slice_index bytes) (let e : 16 * j + i ≡ 4 * (4 * j + i / 4) + i % 4 = omega arith in e)
      ∙ sym (first (4 * j + i / 4) (i % 4) (omega arith) (omega arith)));
}

-- values from a number on
abbrev values_from : ℕ → ℕ → (ℕ → ℕ) → List ℕ
values_from i zero f = []
values_from i (suc n) f = f i ∷ values_from (suc i) n f

-- each stands at its place
value_at : (n i j : ℕ) (f : ℕ → ℕ) → j < n → slice_index (values_from i n f) j ≡ f (i + j)
value_at zero i j f h = absurd (omega arith)
value_at (suc n) i zero f h = ap f (omega arith)
value_at (suc n) i (suc j) f h = value_at n (suc i) j f (omega arith) ∙ ap f (omega arith)

-- A key of 32 bytes: the words of a pair of round keys after a pair.
next_words : (key : ℕ → ℕ) (w : ℕ → ℕ → ℕ) (q p c r : ℕ) → IsExpanded key w → p ≡ q + 2 → c < 3 → r < 4
    → w (4 * p + suc c) r ≡ bit_xor (w (4 * q + suc c) r) (w (4 * p + c) r)
next_words key w q p c r expanded at h low =
    two w (4 * p + suc c) (4 * q + suc c + 8) r (omega (arith, at))
    ∙ (expanded.other (4 * q + suc c) r (λ e. omega (arith, e, h)) low
    ∙ ap (bit_xor (w (4 * q + suc c) r)) (two w (4 * q + suc c + 7) (4 * p + c) r (omega (arith, at))))

-- the first of a pair after the one before it
next_first : (key : ℕ → ℕ) (w : ℕ → ℕ → ℕ) (m : ℕ) → IsExpanded key w → m < 7
    → IsNext w (2 * m) (2 * suc m) (taken (key_state w (2 * m + 1)) (2 ^ m))
next_first key w m expanded low = record {
  first = λ r small. two w (4 * (2 * suc m)) (8 * m + 8) r (omega arith)
      ∙ (expanded.eighth m r low small ∙ ap₂ bit_xor (two w (8 * m) (4 * (2 * m)) r (omega arith))
      (ap (λ (x : ℕ). bit_xor (s_box x) (cond (eqb r 0) (2 ^ m) 0)) (two w (8 * m + 7) (4 * (2 * m + 1) + 3) ((r + 1) % 4) (omega arith)
      ∙ sym (key_at w (2 * m + 1) 3 ((r + 1) % 4) (omega arith)))));
  other = λ c r h small. next_words key w (2 * m) (2 * suc m) c r expanded (omega arith) h small;
}

-- the second
next_second : (key : ℕ → ℕ) (w : ℕ → ℕ → ℕ) (m : ℕ) → IsExpanded key w → m < 7
    → IsNext w (2 * m + 1) (2 * suc m + 1) (λ r. s_box (key_state w (2 * suc m) (12 + r)))
next_second key w m expanded low = record {
  first = λ r small. two w (4 * (2 * suc m + 1)) (8 * m + 12) r (omega arith)
      ∙ (expanded.fourth m r low small ∙ ap₂ bit_xor (two w (8 * m + 4) (4 * (2 * m + 1)) r (omega arith))
      (ap s_box (two w (8 * m + 11) (4 * (2 * suc m) + 3) r (omega arith) ∙ sym (key_at w (2 * suc m) 3 r small))));
  other = λ c r h small. next_words key w (2 * m + 1) (2 * suc m + 1) c r expanded (omega arith) h small;
}

-- its constant is a byte
constant_small : (m : ℕ) → m < 7 → 2 ^ m < 2 ^ 8
constant_small m h = ltb-true (2 ^ m) 256 (at_each 7 (λ m. ltb (2 ^ m) 256) refl m h)

-- the pairs, one after another
abbrev pair_after : List ℕ → ℕ → List ℕ
pair_after bytes zero = number_at bytes 0 ∷ number_at bytes 16 ∷ []
pair_after bytes (suc m) = next_pair (pair_after bytes m) (2 ^ m)

-- which two round keys a pair has
abbrev IsPair : List ℕ → (ℕ → ℕ → ℕ) → ℕ → Type 0
IsPair pair w m = IsBlock (slice_index pair 0) (key_state w (2 * m)) × IsBlock (slice_index pair 1) (key_state w (2 * m + 1))

-- these are the round keys, two by two
pairs_are : (bytes : List ℕ) (w : ℕ → ℕ → ℕ) → IsExpanded (λ k. slice_index bytes k) w → ((n r : ℕ) → w n r < 2 ^ 8) → (m : ℕ) → m < 8
    → IsPair (pair_after bytes m) w m
unfolding next_pair
pairs_are bytes w expanded small zero low =
    (start_block bytes w 0 (λ n r h l. expanded.first n r (omega arith) l) small, start_block bytes w 1 (λ n r h l. expanded.first n r h l) small)
pairs_are bytes w expanded small (suc m) low =
    let key : ℕ → ℕ = λ k. slice_index bytes k in
    let k : IsPair (pair_after bytes m) w m = pairs_are bytes w expanded small m (omega arith) in
    let first = new_key w (2 * m) (2 * suc m) (taken (key_state w (2 * m + 1)) (2 ^ m))
    (first_block (2 ^ m) k.0 k.1 (constant_small m (omega arith))) (next_first key w m expanded (omega arith)) small in (
      first,
      new_key w (2 * m + 1) (2 * suc m + 1) (λ r. s_box (key_state w (2 * suc m) (12 + r)))
          (second_block k.1 first) (next_second key w m expanded (omega arith)) small,
    )

-- one of a pair
of_pair : (pair : List ℕ) (w : ℕ → ℕ → ℕ) (m r : ℕ) → r < 2 → IsPair pair w m → slice_index pair r ≡ block_of 16 (key_state w (2 * m + r))
of_pair pair w m zero h k = k.0.is ∙ ap (λ (x : ℕ). block_of 16 (key_state w x)) (omega arith)
of_pair pair w m (suc zero) h k = k.1.is
of_pair pair w m (suc (suc r)) h k = absurd (omega arith)

-- all round keys
round_keys_are : (bytes : List ℕ) (w : ℕ → ℕ → ℕ) → IsExpanded (λ k. slice_index bytes k) w → ((n r : ℕ) → w n r < 2 ^ 8) → (j : ℕ) → j < 15
    → slice_index (round_keys bytes) j ≡ block_of 16 (key_state w j)
unfolding round_keys
round_keys_are bytes w expanded small j low =
    let n : ℕ = 0 + j in
    value_at 15 0 j (λ n. slice_index (pair_after bytes (n / 2)) (n % 2)) low
    ∙ (of_pair (pair_after bytes (n / 2)) w (n / 2) (n % 2) (omega arith) (pairs_are bytes w expanded small (n / 2) (omega arith))
    ∙ ap (λ (x : ℕ). block_of 16 (key_state w x)) (let e : 2 * (n / 2) + n % 2 ≡ j = omega arith in e))

-- and how many they are
round_keys_long : (bytes : List ℕ) → length (round_keys bytes) ≡ 15
unfolding round_keys
round_keys_long bytes = refl

-- a block encrypted by a key of 32 bytes
pub cipher_by_key : (key : List ℕ) (w : ℕ → ℕ → ℕ) (state : ℕ → ℕ) → IsExpanded (λ k. slice_index key k) w → ((n r : ℕ) → w n r < 2 ^ 8)
    → ((i : ℕ) → state i < 2 ^ 8) → cipher (round_keys key) (block_of 16 state) ≡ block_of 16 (encrypted_state 14 (key_state w) state)
cipher_by_key key w state expanded small h =
    let long = round_keys_long key in
    cipher_is (round_keys key) (key_state w) state 14 (omega arith) long (schedule_bytes w small)
    (λ j low. round_keys_are key w expanded small j (omega (arith, low, long))) h

-- A key of 16 bytes: the words of a round key after one.
short_next : (key : ℕ → ℕ) (w : ℕ → ℕ → ℕ) (m : ℕ) → IsShortSchedule key w → m < 10 → IsNext w m (suc m) (taken (key_state w m) (xtime_by 1 m))
short_next key w m schedule low = record {
  first = λ r small. two w (4 * suc m) (4 * m + 4) r (omega arith)
      ∙ (schedule.fourth m r low small
      ∙ ap (λ (x : ℕ). bit_xor (w (4 * m) r) (bit_xor (s_box x) (cond (eqb r 0) (xtime_by 1 m) 0))) (sym (key_at w m 3 ((r + 1) % 4) (omega arith))));
  other = λ c r h small. two w (4 * suc m + suc c) (4 * m + suc c + 4) r (omega arith)
      ∙ (schedule.other (4 * m + suc c) r (λ e. omega (arith, e, h)) small
      ∙ ap (bit_xor (w (4 * m + suc c) r)) (two w (4 * m + suc c + 3) (4 * suc m + c) r (omega arith)));
}

-- its constant is a byte
short_constant : (m : ℕ) → m < 10 → xtime_by 1 m < 2 ^ 8
unfolding xtime_by xtime
short_constant m h = ltb-true (xtime_by 1 m) 256 (at_each 10 (λ m. ltb (xtime_by 1 m) 256) refl m h)

-- the round keys, one after another
abbrev key_after : List ℕ → ℕ → ℕ
key_after bytes zero = number_at bytes 0
key_after bytes (suc m) = next_key (key_after bytes m) (xtime_by 1 m)

-- these are the round keys of the schedule
short_key_is : (bytes : List ℕ) (w : ℕ → ℕ → ℕ) → IsShortSchedule (λ k. slice_index bytes k) w → ((n r : ℕ) → w n r < 2 ^ 8) → (m : ℕ) → m < 11
    → IsBlock (key_after bytes m) (key_state w m)
unfolding next_key
short_key_is bytes w schedule small zero low = start_block bytes w 0 (λ n r h l. schedule.first n r h l) small
short_key_is bytes w schedule small (suc m) low =
    let k = short_key_is bytes w schedule small m (omega arith) in
    new_key w m (suc m) (taken (key_state w m) (xtime_by 1 m)) (first_block (xtime_by 1 m) k k (short_constant m (omega arith)))
    (short_next (λ k. slice_index bytes k) w m schedule (omega arith)) small

-- all of them
short_keys_are : (bytes : List ℕ) (w : ℕ → ℕ → ℕ) → IsShortSchedule (λ k. slice_index bytes k) w → ((n r : ℕ) → w n r < 2 ^ 8) → (j : ℕ) → j < 11
    → slice_index (short_round_keys bytes) j ≡ block_of 16 (key_state w j)
unfolding short_round_keys xtime_by xtime
short_keys_are bytes w schedule small j low =
    value_at 11 0 j (key_after bytes) low
    ∙ ((short_key_is bytes w schedule small (0 + j) (omega arith)).is ∙ ap (λ (x : ℕ). block_of 16 (key_state w x)) (let e : 0 + j ≡ j = omega arith in e))

-- and how many they are
short_keys_long : (bytes : List ℕ) → length (short_round_keys bytes) ≡ 11
unfolding short_round_keys
short_keys_long bytes = refl

-- a block encrypted by a key of 16 bytes
pub cipher_by_short_key : (key : List ℕ) (w : ℕ → ℕ → ℕ) (state : ℕ → ℕ) → IsShortSchedule (λ k. slice_index key k) w
    → ((n r : ℕ) → w n r < 2 ^ 8) → ((i : ℕ) → state i < 2 ^ 8)
    → cipher (short_round_keys key) (block_of 16 state) ≡ block_of 16 (encrypted_state 10 (key_state w) state)
cipher_by_short_key key w state schedule small h =
    let long = short_keys_long key in
    cipher_is (short_round_keys key) (key_state w) state 10 (omega arith) long (schedule_bytes w small)
    (λ j low. short_keys_are key w schedule small j (omega (arith, low, long))) h
