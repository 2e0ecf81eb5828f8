-- Numbers of words as bytes, the highest first.

use Rattle.std.proofs.Common.{◌≡◌, ℕ, zero, suc, ◌+◌, ◌-◌, ◌*◌, ◌/◌, ◌%◌, ◌^◌, ◌<◌, ◌≤◌, List, [], ◌∷◌, ◌++◌, length, drop, take, refl, sym, ap, ap₂, ◌∙◌, add-one, arith, true, false, cond, ltb, leb, inl, inr}
use Rattle.std.proofs.Math.Nat.{add-mul-div_left, div-div-eq-div-mul, pos_of_ne-zero, pow-zero}
use Rattle.std.proofs.lemmas.List.{append-nil, drop-drop, drop_all, drop_at, drop_more, length-drop, length-replicate, length-take-le, take-replicate}
use borrow.Rule.Slice.PartMut.{put_mid}
use Rattle.std.proofs.lemmas.Nat.{div-mul-add, mul-le, pow-add}
use Rattle.std.proofs.lemmas.Bool.{and_parts, cases_lt, false≢true, le-ltb, leb-true, lt-ltb, ltb-true}
use Rattle.std.specs.Int.{byte_at, bytes_high_first, from_be_bytes, to_be_bytes, w64}
use Rattle.std.specs.Prelude.{◌||◌, Option, None, Some, replicate, slice_index, slice_set}
use Rattle.sshsuite.specs.Bits.{high_word_at}
use Rattle.sshsuite.specs.Group14.{bytes_high, is_positive_body, number_high}
use Rattle.sshsuite.specs.Group14Laws.{byte_is, some_power}
use Rattle.sshsuite.specs.LongNumbers.{number_of, number_to, weight}
use Rattle.sshsuite.proofs.LongNumberLemmas.{number_all, number_below, number_more, number_none, number_set, weight_more, weight_none}

-- what a word counts, in bytes
pub weight_bytes : (n : ℕ) → weight n ≡ 256 ^ (8 * n)
weight_bytes zero = weight_none ∙ sym (pow-zero 256)
weight_bytes (suc n) =
    let e : 8 * suc n ≡ 8 + 8 * n = omega arith in
    let at : suc n ≡ n + 1 = sym (add-one n) in
    ap weight at ∙ weight_more n ∙ ap (λ (k : ℕ). 2 ^ 64 * k) (weight_bytes n) ∙ sym (ap (λ (k : ℕ). 256 ^ k) e ∙ pow-add 256 8 (8 * n))

-- A byte of a number.
high_byte : (k j n w : ℕ) → n < 256 ^ k → byte_at (k + j) (n + 256 ^ k * w) ≡ byte_at j w
high_byte k j n w h =
    let e : n + 256 ^ k * w ≡ w * 256 ^ k + n = omega arith in
    byte_is (k + j) (n + 256 ^ k * w) ∙ ap (λ (d : ℕ). (n + 256 ^ k * w) / d % 256) (pow-add 256 k j) ∙ ap (λ (d : ℕ). d % 256) (sym (div-div-eq-div-mul (n + 256 ^ k * w) (256 ^ k) (256 ^ j)))
    ∙ ap (λ (d : ℕ). d / 256 ^ k / 256 ^ j % 256) e ∙ ap (λ (d : ℕ). d / 256 ^ j % 256) (div-mul-add w (256 ^ k) n h) ∙ sym (byte_is j w)

low_byte : (j i n w : ℕ) → byte_at j (n + 256 ^ (j + 1 + i) * w) ≡ byte_at j n
low_byte j i n w =
    let e : n + 256 ^ (j + 1 + i) * w ≡ n + 256 ^ j * (256 * (256 ^ i * w)) = rw (pow-add 256 (j + 1) i, pow-add 256 j 1) (omega arith) in
    byte_is j (n + 256 ^ (j + 1 + i) * w) ∙ ap (λ (d : ℕ). d / 256 ^ j % 256) e ∙ ap (λ (d : ℕ). d % 256) (add-mul-div_left n (256 * (256 ^ i * w)) (some_power j))
    ∙ above (n / 256 ^ j) (256 ^ i * w) ∙ sym (byte_is j n)
  where
    above : (x y : ℕ) → (x + 256 * y) % 256 ≡ x % 256
    above x y = omega arith

low_bytes : (j k n w : ℕ) → j ≤ k → bytes_high_first j (n + 256 ^ k * w) ≡ bytes_high_first j n
low_bytes zero k n w h = refl
low_bytes (suc j) k n w h =
    let at : j + 1 + (k - (j + 1)) ≡ k = omega arith in
    let e : byte_at j (n + 256 ^ k * w) ≡ byte_at j n = ap (λ (d : ℕ). byte_at j (n + 256 ^ d * w)) (sym at) ∙ low_byte j (k - (j + 1)) n w in
    let rest = low_bytes j k n w (omega arith) in rw (e, rest) refl

-- the bytes of a number, and of a word above it
word_bytes : (k n w : ℕ) → n < 256 ^ k → bytes_high_first (suc (suc (suc (suc (suc (suc (suc (suc k)))))))) (n + 256 ^ k * w) ≡ to_be_bytes w64 w ++ bytes_high_first k n
word_bytes k n w h =
    let x : ℕ = n + 256 ^ k * w in
    let d7 : byte_at (suc (suc (suc (suc (suc (suc (suc k))))))) x ≡ byte_at 7 w = place 7 (suc (suc (suc (suc (suc (suc (suc k))))))) k n w h (omega arith) in
    let d6 : byte_at (suc (suc (suc (suc (suc (suc k)))))) x ≡ byte_at 6 w = place 6 (suc (suc (suc (suc (suc (suc k)))))) k n w h (omega arith) in
    let d5 : byte_at (suc (suc (suc (suc (suc k))))) x ≡ byte_at 5 w = place 5 (suc (suc (suc (suc (suc k))))) k n w h (omega arith) in
    let d4 : byte_at (suc (suc (suc (suc k)))) x ≡ byte_at 4 w = place 4 (suc (suc (suc (suc k)))) k n w h (omega arith) in
    let d3 : byte_at (suc (suc (suc k))) x ≡ byte_at 3 w = place 3 (suc (suc (suc k))) k n w h (omega arith) in
    let d2 : byte_at (suc (suc k)) x ≡ byte_at 2 w = place 2 (suc (suc k)) k n w h (omega arith) in
    let d1 : byte_at (suc k) x ≡ byte_at 1 w = place 1 (suc k) k n w h (omega arith) in
    let d0 : byte_at k x ≡ byte_at 0 w = place 0 k k n w h (omega arith) in
    let rest = low_bytes k k n w (omega arith) in
    made (byte_at (suc (suc (suc (suc (suc (suc (suc k))))))) x) (byte_at (suc (suc (suc (suc (suc (suc k)))))) x) (byte_at (suc (suc (suc (suc (suc k))))) x) (byte_at (suc (suc (suc (suc k)))) x) (byte_at (suc (suc (suc k))) x) (byte_at (suc (suc k)) x) (byte_at (suc k) x) (byte_at k x)
    (byte_at 7 w) (byte_at 6 w) (byte_at 5 w) (byte_at 4 w) (byte_at 3 w) (byte_at 2 w) (byte_at 1 w) (byte_at 0 w) (bytes_high_first k x) (bytes_high_first k n) d7 d6 d5 d4 d3 d2 d1 d0 rest
  where
    place : (j m k n w : ℕ) → n < 256 ^ k → m ≡ k + j → byte_at m (n + 256 ^ k * w) ≡ byte_at j w
    place j m k n w h e = ap (λ (d : ℕ). byte_at d (n + 256 ^ k * w)) e ∙ high_byte k j n w h

    made : (a7 a6 a5 a4 a3 a2 a1 a0 b7 b6 b5 b4 b3 b2 b1 b0 : ℕ) (xs ys : List ℕ) → a7 ≡ b7 → a6 ≡ b6 → a5 ≡ b5 → a4 ≡ b4 → a3 ≡ b3 → a2 ≡ b2 → a1 ≡ b1 → a0 ≡ b0 → xs ≡ ys
        → a7 ∷ a6 ∷ a5 ∷ a4 ∷ a3 ∷ a2 ∷ a1 ∷ a0 ∷ xs ≡ b7 ∷ b6 ∷ b5 ∷ b4 ∷ b3 ∷ b2 ∷ b1 ∷ b0 ∷ ys
    made a7 a6 a5 a4 a3 a2 a1 a0 b7 b6 b5 b4 b3 b2 b1 b0 xs ys e7 e6 e5 e4 e3 e2 e1 e0 e = rw (e7, e6, e5, e4, e3, e2, e1, e0, e) refl

pub bytes_more : (words : List ℕ) (i : ℕ) → ((k : ℕ) → slice_index words k < 2 ^ 64)
    → bytes_high_first (8 * (i + 1)) (number_to words (i + 1)) ≡ to_be_bytes w64 (slice_index words i) ++ bytes_high_first (8 * i) (number_to words i)
bytes_more words i h =
    let n : ℕ = number_to words i in
    let w : ℕ = slice_index words i in
    let at : 8 * (i + 1) ≡ suc (suc (suc (suc (suc (suc (suc (suc (8 * i)))))))) = omega arith in
    let e : number_to words (i + 1) ≡ n + 256 ^ (8 * i) * w = number_more words i ∙ ap (λ (k : ℕ). n + k * w) (weight_bytes i) in
    let low : n < 256 ^ (8 * i) = let b = number_below words i h in let f = weight_bytes i in omega (arith, b, f) in
    ap (λ (k : ℕ). bytes_high_first k (number_to words (i + 1))) at ∙ ap (λ (m : ℕ). bytes_high_first (suc (suc (suc (suc (suc (suc (suc (suc (8 * i))))))))) m) e ∙ word_bytes (8 * i) n w low

-- The number of bytes.
one_more : (xs : List ℕ) (i j : ℕ) → i < length xs → j ≡ i + 1 → drop i xs ≡ slice_index xs i ∷ drop j xs
one_more xs i j h e = drop_more xs i 0 h ∙ ap (λ (k : ℕ). slice_index xs i ∷ drop k xs) (sym e)

eight_more : (xs : List ℕ) (i : ℕ) → i + 8 ≤ length xs
    → drop i xs ≡ slice_index xs i ∷ slice_index xs (i + 1) ∷ slice_index xs (i + 2) ∷ slice_index xs (i + 3) ∷ slice_index xs (i + 4) ∷ slice_index xs (i + 5) ∷ slice_index xs (i + 6) ∷ slice_index xs (i + 7) ∷ drop (i + 8) xs
eight_more xs i h =
    one_more xs i (i + 1) (omega arith) refl ∙ ap (λ (t : List ℕ). slice_index xs i ∷ t) (one_more xs (i + 1) (i + 2) (omega arith) (omega arith)
    ∙ ap (λ (t : List ℕ). slice_index xs (i + 1) ∷ t) (one_more xs (i + 2) (i + 3) (omega arith) (omega arith)
    ∙ ap (λ (t : List ℕ). slice_index xs (i + 2) ∷ t) (one_more xs (i + 3) (i + 4) (omega arith) (omega arith)
    ∙ ap (λ (t : List ℕ). slice_index xs (i + 3) ∷ t) (one_more xs (i + 4) (i + 5) (omega arith) (omega arith)
    ∙ ap (λ (t : List ℕ). slice_index xs (i + 4) ∷ t) (one_more xs (i + 5) (i + 6) (omega arith) (omega arith)
    ∙ ap (λ (t : List ℕ). slice_index xs (i + 5) ∷ t) (one_more xs (i + 6) (i + 7) (omega arith) (omega arith)
    ∙ ap (λ (t : List ℕ). slice_index xs (i + 6) ∷ t) (one_more xs (i + 7) (i + 8) (omega arith) (omega arith))))))))

worth : (b j k m : ℕ) → m ≡ j + k → b * 256 ^ m ≡ 256 ^ k * (b * 256 ^ j)
worth b j k m e = ap (λ (d : ℕ). b * 256 ^ d) e ∙ (ap (λ (d : ℕ). b * d) (pow-add 256 j k) ∙ turned b (256 ^ j) (256 ^ k))
  where
    turned : (x y z : ℕ) → x * (y * z) ≡ z * (x * y)
    turned x y z = omega arith

high_eight : (b7 b6 b5 b4 b3 b2 b1 b0 : ℕ) (rest : List ℕ)
    → number_high (b7 ∷ b6 ∷ b5 ∷ b4 ∷ b3 ∷ b2 ∷ b1 ∷ b0 ∷ rest) ≡ number_high rest + 256 ^ length rest * from_be_bytes w64 (b7 ∷ b6 ∷ b5 ∷ b4 ∷ b3 ∷ b2 ∷ b1 ∷ b0 ∷ [])
unfolding number_high
high_eight b7 b6 b5 b4 b3 b2 b1 b0 rest =
    let k : ℕ = length rest in
    summed (256 ^ k) _ _ _ _ _ _ _ _ b7 b6 b5 b4 b3 b2 b1 b0 (number_high rest)
    (worth b7 7 k (suc (suc (suc (suc (suc (suc (suc k))))))) (omega arith)) (worth b6 6 k (suc (suc (suc (suc (suc (suc k)))))) (omega arith))
    (worth b5 5 k (suc (suc (suc (suc (suc k))))) (omega arith)) (worth b4 4 k (suc (suc (suc (suc k)))) (omega arith)) (worth b3 3 k (suc (suc (suc k))) (omega arith))
    (worth b2 2 k (suc (suc k)) (omega arith)) (worth b1 1 k (suc k) (omega arith)) (worth b0 0 k k (omega arith))
  where
    summed : (w a7 a6 a5 a4 a3 a2 a1 a0 b7 b6 b5 b4 b3 b2 b1 b0 r : ℕ) → a7 ≡ w * (b7 * 256 ^ 7) → a6 ≡ w * (b6 * 256 ^ 6) → a5 ≡ w * (b5 * 256 ^ 5) → a4 ≡ w * (b4 * 256 ^ 4) → a3 ≡ w * (b3 * 256 ^ 3)
        → a2 ≡ w * (b2 * 256 ^ 2) → a1 ≡ w * (b1 * 256 ^ 1) → a0 ≡ w * (b0 * 256 ^ 0)
        → a7 + (a6 + (a5 + (a4 + (a3 + (a2 + (a1 + (a0 + r))))))) ≡ r + w * from_be_bytes w64 (b7 ∷ b6 ∷ b5 ∷ b4 ∷ b3 ∷ b2 ∷ b1 ∷ b0 ∷ [])
    summed w a7 a6 a5 a4 a3 a2 a1 a0 b7 b6 b5 b4 b3 b2 b1 b0 r e7 e6 e5 e4 e3 e2 e1 e0 = omega (arith, e7, e6, e5, e4, e3, e2, e1, e0)

-- the words before a place have the number of the last bytes
pub read_none : (words bytes : List ℕ) (n : ℕ) → length bytes ≤ n → number_to words 0 ≡ number_high (drop (n - 0) bytes)
unfolding number_high
read_none words bytes n long = number_none words ∙ ap number_high (sym (drop_all (n - 0) bytes (omega (arith, long))))

eight_then : (xs : List ℕ) (i j : ℕ) → i + 8 ≤ length xs → i + 8 ≡ j
    → drop i xs ≡ slice_index xs i ∷ slice_index xs (i + 1) ∷ slice_index xs (i + 2) ∷ slice_index xs (i + 3) ∷ slice_index xs (i + 4) ∷ slice_index xs (i + 5) ∷ slice_index xs (i + 6) ∷ slice_index xs (i + 7) ∷ drop j xs
eight_then xs i j h e = rw (sym e) (eight_more xs i h)

pub read_more : (words bytes : List ℕ) (m i : ℕ) → length bytes ≡ 8 * m → i < m → length words ≡ m → number_to words i ≡ number_high (drop (8 * m - 8 * i) bytes)
    → number_to (slice_set words i (high_word_at bytes (8 * (m - 1 - i)))) (i + 1) ≡ number_high (drop (8 * m - 8 * (i + 1)) bytes)
unfolding high_word_at
read_more words bytes m i long h l so =
    let at : ℕ = 8 * (m - 1 - i) in
    let rest : List ℕ = drop (8 * m - 8 * i) bytes in
    let k : at + 8 ≡ 8 * m - 8 * i = omega arith in
    let j : 8 * m - 8 * (i + 1) ≡ at = omega arith in
    let more : length rest ≡ 8 * i = length-drop (8 * m - 8 * i) bytes ∙ omega (arith, long) in
    let b : ℕ → ℕ = slice_index bytes in
    number_set words i (high_word_at bytes at) (omega (arith, l)) ∙ ap (λ (n : ℕ). n + weight i * high_word_at bytes at) so
    ∙ ap (λ (n : ℕ). number_high rest + n * high_word_at bytes at) (weight_bytes i ∙ ap (λ (n : ℕ). 256 ^ n) (sym more))
    ∙ sym (ap (λ (n : ℕ). number_high (drop n bytes)) j ∙ ap number_high (eight_then bytes at (8 * m - 8 * i) (omega (arith, long)) k)
    ∙ high_eight (b at) (b (at + 1)) (b (at + 2)) (b (at + 3)) (b (at + 4)) (b (at + 5)) (b (at + 6)) (b (at + 7)) rest)

pub read_all : (words bytes : List ℕ) (m i : ℕ) → i ≡ m → length words ≡ m → number_to words i ≡ number_high (drop (8 * m - 8 * i) bytes) → number_of words ≡ number_high bytes
read_all words bytes m i e long so =
    let none : 8 * m - 8 * i ≡ 0 = omega (arith, e) in
    number_all words i (e ∙ sym long) ∙ so ∙ ap (λ (n : ℕ). number_high (drop n bytes)) none

pub written_all : (bytes words : List ℕ) (i : ℕ) → i ≡ 32 → length words ≡ 32 → drop (256 - 8 * i) bytes ≡ bytes_high_first (8 * i) (number_to words i) → bytes ≡ bytes_high (number_of words)
unfolding bytes_high
written_all bytes words i e long so = (rw e at so) ∙ ap (bytes_high_first 256) (sym (number_all words 32 (sym long)))

-- what a write of eight bytes leaves from its first byte on
pub put_dropped : (a k m r : ℕ) (xs ys : List ℕ) → a ≤ length xs → r ≡ a → a + k ≡ m → drop r (put_mid a k xs ys) ≡ ys ++ drop m xs
put_dropped a k m r xs ys h e f =
    ap (λ (n : ℕ). drop n (put_mid a k xs ys)) e ∙ drop_at (take a xs) (ys ++ drop k (drop a xs)) a (length-take-le a xs h)
    ∙ ap (λ (t : List ℕ). ys ++ t) (drop-drop k a xs ∙ ap (λ (n : ℕ). drop n xs) f)

-- zeros before bytes
pub zeros_before : (m : ℕ) (bytes : List ℕ) → number_high (replicate m 0 ++ bytes) ≡ number_high bytes
unfolding number_high
zeros_before zero bytes = refl
zeros_before (suc m) bytes = let e = zeros_before m bytes in omega (arith, e)

pub filled_is : (m n : ℕ) (bytes : List ℕ) → n ≤ m → put_mid (m - n) (m - (m - n)) (replicate m 0) bytes ≡ replicate (m - n) 0 ++ bytes
filled_is m n bytes h =
    let front : take (m - n) (replicate m 0) ≡ replicate (m - n) 0 = take-replicate (m - n) m 0 (omega arith) in
    let none : drop (m - (m - n)) (drop (m - n) (replicate m 0)) ≡ [] =
    drop_all (m - (m - n)) (drop (m - n) (replicate m 0)) (let e = length-drop {A = ℕ} (m - n) (replicate m 0) in let f = length-replicate {A = ℕ} m 0 in omega (arith, e, f)) in
    ap₂ ◌++◌ front (ap (λ (t : List ℕ). bytes ++ t) none ∙ append-nil bytes)

-- Bodies of mpints.
pub positive_some : (body : List ℕ) → is_positive_body body ≡ true → 0 < length body
unfolding is_positive_body
positive_some [] e = absurd (false≢true e)
positive_some (b ∷ bytes) e = omega arith

-- what stands after the zero, or the body where its first byte isn't zero
nothing : (n : ℕ) → 0 * n ≡ 0
nothing n = omega arith

pub after_zero : (body : List ℕ) → is_positive_body body ≡ true → slice_index body 0 ≡ 0
    → (number_high (drop 1 body) ≡ number_high body) × (0 < length (drop 1 body)) × (0 < slice_index (drop 1 body) 0)
unfolding is_positive_body number_high
after_zero [] e none = absurd (false≢true e)
after_zero (b ∷ []) e none = absurd (let h = ltb-true 0 b (and_parts (ltb 0 b) (ltb b 128) e).0 in omega (arith, h, none))
after_zero (b ∷ c ∷ bytes) e none =
    let both : (ltb 0 b || leb 128 c) ≡ true = (and_parts (ltb b 128) (ltb 0 b || leb 128 c) e).1 in
    let first : ltb 0 b ≡ false = le-ltb 0 b (omega (arith, none)) in
    let high : 128 ≤ c = leb-true 128 c (rw first at both) in
    let same : b ≡ 0 = none in
    let head : b * 256 ^ suc (length bytes) ≡ 0 = ap (λ (n : ℕ). n * 256 ^ suc (length bytes)) same ∙ nothing (256 ^ suc (length bytes)) in
    (omega (arith, head), omega arith, omega (arith, high))

pub not_zero : (body : List ℕ) → is_positive_body body ≡ true → (slice_index body 0 ≡ 0 → ⊥) → 0 < slice_index body 0
not_zero body e some = pos_of_ne-zero some

pub high_below : (bytes : List ℕ) → ((k : ℕ) → slice_index bytes k < 256) → number_high bytes < 256 ^ length bytes
unfolding number_high
high_below [] h = let e = pow-zero 256 in omega (arith, e)
high_below (b ∷ bytes) h =
    let rest = high_below bytes (λ k. h (suc k)) in
    let first : b * 256 ^ length bytes ≤ 255 * 256 ^ length bytes = mul-le b (256 ^ length bytes) 255 (256 ^ length bytes) (let l = h 0 in omega (arith, l)) (omega arith) in
    let at : suc (length bytes) ≡ 1 + length bytes = omega arith in
    let e : 256 ^ suc (length bytes) ≡ 256 * 256 ^ length bytes = ap (λ (n : ℕ). 256 ^ n) at ∙ pow-add 256 1 (length bytes) in omega (arith, rest, first, e)

pub more_bytes : (m n : ℕ) → m ≤ n → 256 ^ m ≤ 256 ^ n
more_bytes m n h =
    let at : n ≡ m + (n - m) = omega arith in
    let e : 256 ^ n ≡ 256 ^ m * 256 ^ (n - m) = ap (λ (k : ℕ). 256 ^ k) at ∙ pow-add 256 m (n - m) in
    let one : 256 ^ m * 1 ≤ 256 ^ m * 256 ^ (n - m) = mul-le (256 ^ m) 1 (256 ^ m) (256 ^ (n - m)) (omega arith) (let s = some_power (n - m) in omega (arith, s)) in omega (arith, e, one)

pub high_small : (bytes : List ℕ) → length bytes ≤ 256 → ((k : ℕ) → slice_index bytes k < 256) → number_high bytes < weight 32
high_small bytes short h = let low = high_below bytes h in let e = weight_bytes 32 in let more = more_bytes (length bytes) 256 short in omega (arith, low, e, more)

pub high_big : (bytes : List ℕ) → 256 < length bytes → 0 < slice_index bytes 0 → weight 32 ≤ number_high bytes
unfolding number_high
high_big [] long first = absurd (omega arith)
high_big (b ∷ bytes) long first =
    let e = weight_bytes 32 in
    let more = more_bytes 256 (length bytes) (omega arith) in
    let top : 1 * 256 ^ length bytes ≤ b * 256 ^ length bytes = mul-le 1 (256 ^ length bytes) b (256 ^ length bytes) (omega arith) (omega arith) in omega (arith, e, more, top)

-- what is read of a body
pub read_none_of : (n : ℕ) → weight 32 ≤ n → ◌≡◌ {A = Option ℕ} None (cond (ltb n (weight 32)) (Some n) None)
read_none_of n h = rw (le-ltb n (weight 32) h) refl

pub read_some_of : (m n : ℕ) → m ≡ n → n < weight 32 → ◌≡◌ {A = Option ℕ} (Some m) (cond (ltb n (weight 32)) (Some n) None)
read_some_of m n e h = rw (lt-ltb n (weight 32) h) (ap (λ (k : ℕ). Some k) e)

some_same : (x y : ℕ) → ◌≡◌ {A = Option ℕ} (Some x) (Some y) → x ≡ y
some_same x y e = cc

pub given_number : (m n : ℕ) → ◌≡◌ {A = Option ℕ} (Some m) (cond (ltb n (weight 32)) (Some n) None) → m ≡ n
given_number m n e =
    elim (cases_lt n (weight 32)) [
      | inl less ↦ some_same m n (rw (lt-ltb n (weight 32) less) at e)
      | inr more ↦ absurd (none_some m (rw (le-ltb n (weight 32) more) at e))
    ]
  where
    none_some : (m : ℕ) → ◌≡◌ {A = Option ℕ} (Some m) None → ⊥
    none_some m e = cc

pub given_none : (n : ℕ) → ◌≡◌ {A = Option ℕ} None (cond (ltb n (weight 32)) (Some n) None) → weight 32 ≤ n
given_none n e =
    elim (cases_lt n (weight 32)) [
      | inl less ↦ absurd (none_some n (rw (lt-ltb n (weight 32) less) at e))
      | inr more ↦ more
    ]
  where
    none_some : (m : ℕ) → ◌≡◌ {A = Option ℕ} None (Some m) → ⊥
    none_some m e = cc
