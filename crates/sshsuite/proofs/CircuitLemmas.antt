-- What keeps sums and products of bits keeps the circuit of the S-box: so it works on the bytes of a block at once, and on the bits of a byte.

use Rattle.std.proofs.Common.{◌≡◌, ℕ, suc, ◌/◌, ◌%◌, ◌^◌, ◌<◌, Bool, true, false, List, [], ◌∷◌, refl, sym, ap, ap₂, ◌∙◌, arith, cond, eqb}
use Rattle.std.proofs.lemmas.Nat.{and_mod, and_shr, xor_mod}
use Rattle.std.specs.Prelude.{bit_and, bit_xor, slice_index}
use Rattle.sshsuite.specs.AesBytes.{block_of}
use Rattle.sshsuite.specs.SBox.{circuit}
use Rattle.sshsuite.proofs.AesLemmas.{and_of, same_block, sum_at, xor_of}
use Rattle.sshsuite.proofs.ListOfEight.{each_of_8, eight}

-- the block of numbers, of each its lowest 8 bits
unfoldable pub block : (ℕ → ℕ) → ℕ
block f = block_of 16 (λ i. f i % 2 ^ 8)

-- blocks added are the block of the sums
pub block_xor : (f g : ℕ → ℕ) → bit_xor (block f) (block g) ≡ block (λ i. bit_xor (f i) (g i))
unfolding block
block_xor f g =
    xor_of 16 (λ i. f i % 2 ^ 8) (λ i. g i % 2 ^ 8) (λ i. omega arith) (λ i. omega arith)
    ∙ same_block 16 (λ i. bit_xor (f i % 2 ^ 8) (g i % 2 ^ 8)) (λ i. bit_xor (f i) (g i) % 2 ^ 8) (λ i. sym (xor_mod (f i) (g i) 8))

-- blocks multiplied bit by bit are the block of the products
block_and : (f g : ℕ → ℕ) → bit_and (block f) (block g) ≡ block (λ i. bit_and (f i) (g i))
unfolding block
block_and f g =
    and_of 16 (λ i. f i % 2 ^ 8) (λ i. g i % 2 ^ 8) (λ i. omega arith) (λ i. omega arith)
    ∙ same_block 16 (λ i. bit_and (f i % 2 ^ 8) (g i % 2 ^ 8)) (λ i. bit_and (f i) (g i) % 2 ^ 8) (λ i. sym (and_mod (f i) (g i) 8))

-- the sum of two numbers that are blocks
pub summed : (m n : ℕ) (a b : ℕ → ℕ) → m ≡ block a → n ≡ block b → bit_xor m n ≡ block (λ i. bit_xor (a i) (b i))
summed m n a b e f = ap₂ bit_xor e f ∙ block_xor a b

-- one bit of a product
product_at : (j a b : ℕ) → bit_and a b / 2 ^ j % 2 ≡ bit_and (a / 2 ^ j % 2) (b / 2 ^ j % 2)
product_at j a b = ap (λ (x : ℕ). x % 2 ^ 1) (and_shr a b j) ∙ and_mod (a / 2 ^ j) (b / 2 ^ j) 1

-- a gate: the sum or the product of the numbers at two places
data Gate : Type 0 where
  sum : ℕ → ℕ → Gate
  product : ℕ → ℕ → Gate

-- numbers, with this one put at a place
abbrev put : ℕ → ℕ → (ℕ → ℕ) → ℕ → ℕ
put n new v k = cond (eqb k n) new (v k)

-- the numbers after all gates, which put theirs from this place on
abbrev values : List Gate → ℕ → (ℕ → ℕ) → ℕ → ℕ
values [] n v = v
values (sum a b ∷ more) n v = values more (suc n) (put n (bit_xor (v a) (v b)) v)
values (product a b ∷ more) n v = values more (suc n) (put n (bit_and (v a) (v b)) v)

-- the gates of the circuit in its order, the sums that it answers last: its x7 to x0 stand at 0 to 7, the first gate's number at 8, s7 to s0 at 115 to 122
abbrev gates : List Gate
gates =
    sum 4 2 ∷ sum 7 1 ∷ sum 7 4 ∷ sum 7 2 ∷ sum 6 5 ∷ sum 12 0 ∷ sum 13 4 ∷ sum 9 8 ∷ sum 13 7 ∷ sum 13 1 ∷ sum 17 11 ∷ sum 3 15 ∷ sum 19 2
    ∷ sum 19 6 ∷ sum 20 0 ∷ sum 20 12 ∷ sum 21 10 ∷ sum 0 24 ∷ sum 23 24 ∷ sum 23 11 ∷ sum 12 24 ∷ sum 9 28 ∷ sum 7 28 ∷ product 15 20
    ∷ product 18 22 ∷ sum 32 31 ∷ product 14 0 ∷ sum 34 31 ∷ product 9 28 ∷ product 17 13 ∷ sum 37 36 ∷ product 16 25 ∷ sum 39 36
    ∷ product 10 24 ∷ product 8 26 ∷ sum 42 41 ∷ product 11 23 ∷ sum 44 41 ∷ sum 33 43 ∷ sum 35 45 ∷ sum 38 43 ∷ sum 40 45 ∷ sum 46 21
    ∷ sum 47 27 ∷ sum 48 29 ∷ sum 49 30 ∷ sum 50 51 ∷ product 50 52 ∷ sum 53 55 ∷ product 54 56 ∷ sum 57 51 ∷ sum 52 53 ∷ sum 51 55
    ∷ product 60 59 ∷ sum 61 53 ∷ sum 52 62 ∷ sum 56 62 ∷ product 53 64 ∷ sum 65 63 ∷ sum 56 65 ∷ product 58 67 ∷ sum 54 68 ∷ sum 69 66
    ∷ sum 58 62 ∷ sum 58 69 ∷ sum 62 66 ∷ sum 71 70 ∷ product 73 20 ∷ product 66 22 ∷ product 62 0 ∷ product 72 28 ∷ product 69 13
    ∷ product 58 25 ∷ product 71 24 ∷ product 74 26 ∷ product 70 23 ∷ product 73 15 ∷ product 66 18 ∷ product 62 14 ∷ product 72 9
    ∷ product 69 17 ∷ product 58 16 ∷ product 71 10 ∷ product 74 8 ∷ product 70 11 ∷ sum 90 91 ∷ sum 85 86 ∷ sum 80 88 ∷ sum 84 85
    ∷ sum 77 87 ∷ sum 77 80 ∷ sum 82 83 ∷ sum 75 78 ∷ sum 81 82 ∷ sum 91 92 ∷ sum 87 95 ∷ sum 97 100 ∷ sum 79 93 ∷ sum 78 101 ∷ sum 93 104
    ∷ sum 89 104 ∷ sum 99 105 ∷ sum 96 105 ∷ sum 79 106 ∷ sum 108 109 ∷ sum 76 110 ∷ sum 111 112 ∷ sum 95 107 ∷ sum 103 109 ∷ sum 94 112
    ∷ sum 98 113 ∷ sum 100 113 ∷ sum 102 114 ∷ sum 111 119 ∷ sum 106 110 ∷ []

-- a map from functions that keeps sums
abbrev KeepsSums : ((ℕ → ℕ) → ℕ) → Type 0
KeepsSums h = (a b : ℕ → ℕ) → bit_xor (h a) (h b) ≡ h (λ i. bit_xor (a i) (b i))

-- and one that keeps products
abbrev KeepsProducts : ((ℕ → ℕ) → ℕ) → Type 0
KeepsProducts h = (a b : ℕ → ℕ) → bit_and (h a) (h b) ≡ h (λ i. bit_and (a i) (b i))

-- it keeps a choice of two
either : (h : (ℕ → ℕ) → ℕ) (c : Bool) (m n : ℕ) (a b : ℕ → ℕ) → m ≡ h a → n ≡ h b → cond c m n ≡ h (λ i. cond c (a i) (b i))
either h true m n a b e f = e
either h false m n a b e f = f

-- it keeps the numbers after any gates
kept_values : (h : (ℕ → ℕ) → ℕ) → KeepsSums h → KeepsProducts h → (all : List Gate) (n : ℕ) (v : ℕ → ℕ) (w : ℕ → ℕ → ℕ)
    → ((k : ℕ) → v k ≡ h (w k)) → (k : ℕ) → values all n v k ≡ h (λ i. values all n (λ m. w m i) k)
kept_values h s p [] n v w e k = e k
kept_values h s p (sum a b ∷ more) n v w e k =
    let new : bit_xor (v a) (v b) ≡ h (λ i. bit_xor (w a i) (w b i)) = ap₂ bit_xor (e a) (e b) ∙ s (w a) (w b) in
    kept_values h s p more (suc n) (put n (bit_xor (v a) (v b)) v) (λ m i. put n (bit_xor (w a i) (w b i)) (λ l. w l i) m)
    (λ m. either h (eqb m n) _ (v m) (λ i. bit_xor (w a i) (w b i)) (w m) new (e m)) k
kept_values h s p (product a b ∷ more) n v w e k =
    let new : bit_and (v a) (v b) ≡ h (λ i. bit_and (w a i) (w b i)) = ap₂ bit_and (e a) (e b) ∙ p (w a) (w b) in
    kept_values h s p more (suc n) (put n (bit_and (v a) (v b)) v) (λ m i. put n (bit_and (w a i) (w b i)) (λ l. w l i) m)
    (λ m. either h (eqb m n) _ (v m) (λ i. bit_and (w a i) (w b i)) (w m) new (e m)) k

-- so it keeps the circuit
kept : (h : (ℕ → ℕ) → ℕ) → KeepsSums h → KeepsProducts h → (x : ℕ → ℕ → ℕ) (k : ℕ) → k < 8
    → slice_index (circuit (eight (λ n. h (x n)))) k ≡ h (λ i. slice_index (circuit (eight (λ n. x n i))) k)
unfolding circuit
kept h s p x =
    let at = kept_values h s p gates 8 (λ n. h (x n)) x (λ n. refl) in
    each_of_8 (λ k. slice_index (circuit (eight (λ n. h (x n)))) k ≡ h (λ i. slice_index (circuit (eight (λ n. x n i))) k))
    (at 115) (at 116) (at 117) (at 118) (at 119) (at 120) (at 121) (at 122)

-- the circuit works on each byte of blocks
pub by_bytes : (x : ℕ → ℕ → ℕ) (k : ℕ) → k < 8
    → slice_index (circuit (eight (λ n. block (x n)))) k ≡ block (λ i. slice_index (circuit (eight (λ n. x n i))) k)
by_bytes x k low = kept block block_xor block_and x k low

-- and on each bit of bytes
pub by_bits : (j : ℕ) (x : ℕ → ℕ) (k : ℕ) → k < 8
    → slice_index (circuit (eight x)) k / 2 ^ j % 2 ≡ slice_index (circuit (eight (λ n. x n / 2 ^ j % 2))) k
by_bits j x k low =
    sym (kept (λ a. a 0 / 2 ^ j % 2) (λ a b. sym (sum_at j (a 0) (b 0))) (λ a b. sym (product_at j (a 0) (b 0))) (λ n i. x n) k low)
