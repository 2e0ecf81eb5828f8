-- Eight blocks by their planes are the eight blocks.

use Rattle.std.proofs.Common.{◌≡◌, ℕ, zero, suc, ◌+◌, ◌-◌, ◌*◌, ◌/◌, ◌%◌, ◌^◌, ◌<◌, ◌≤◌, Bool, true, false, List, [], ◌∷◌, length, refl, sym, ap, ap₂, ◌∙◌, arith, cond, eqb}
use Rattle.std.specs.Int.Bits.{xor_assoc, xor_zero_r}
use Rattle.std.specs.Prelude.{bit_xor, slice_index}
use Rattle.sshsuite.specs.Aes.{cipher, shift_rows, turned_words}
use Rattle.sshsuite.specs.AesBytes.{block_of, mixed_column, s_box, shifted_row, state_after, with_key, xtime}
use Rattle.sshsuite.specs.SBox.{circuit}
use Rattle.sshsuite.specs.SlicedAes.{eight_ciphers, exchanged, gathered, images, joined, key_planes, keyed, mixed_plane, mixed_planes, planes_after, shifted_planes, spread, turned_planes}
use Rattle.sshsuite.proofs.AesLemmas.{AreBytes, its_block, s_box_block, same_block, sum_at, xor_byte}
use Rattle.sshsuite.proofs.AesStateLemmas.{AreKeys, cipher_by_state, keyed_block, mixed_is, next, shifted_block, states_bytes, substituted, turned_words_block}
use Rattle.sshsuite.proofs.CircuitLemmas.{block, block_xor, by_bits, by_bytes, summed}
use Rattle.sshsuite.proofs.ListOfEight.{at_eight, each_of_8, eight, eight_same}
use Rattle.sshsuite.proofs.SlicedLemmas.{byte_of, bytes_of, joined_are, of_bytes, plane_is, scaled, whole_block}
use Rattle.sshsuite.proofs.SlicedSamples.{byte_joined, byte_planes, image_at, own_bits, xtime_first, xtime_next}

-- the number of eight bits, the first the lowest
abbrev number_of : (ℕ → ℕ) → ℕ
number_of b = b 0 + 2 * b 1 + 4 * b 2 + 8 * b 3 + 16 * b 4 + 32 * b 5 + 64 * b 6 + 128 * b 7

-- whose bits they are
bit_of_number : (b : ℕ → ℕ) → ((j : ℕ) → b j < 2) → (j : ℕ) → j < 8 → number_of b / 2 ^ j % 2 ≡ b j
bit_of_number b h =
    each_of_8 (λ j. number_of b / 2 ^ j % 2 ≡ b j) (omega (arith, h)) (omega (arith, h)) (omega (arith, h)) (omega (arith, h))
    (omega (arith, h)) (omega (arith, h)) (omega (arith, h)) (omega (arith, h))

-- bits that are joined are that number
joined_bits : (b : ℕ → ℕ) → ((j : ℕ) → b j < 2) → byte_joined (eight b) ≡ number_of b
unfolding byte_planes
joined_bits b h =
    let n : ℕ = number_of b in
    ap byte_joined (eight_same b (λ j. n / 2 ^ j % 2) (λ j low. sym (bit_of_number b h j low)))
    ∙ own_bits n (omega (arith, h))

-- bit k of eight bytes, as a byte
gather : ℕ → (ℕ → ℕ) → ℕ
gather k t = byte_joined (eight (λ j. t j / 2 ^ k % 2))

-- which is a byte
gather_byte : (k : ℕ) (t : ℕ → ℕ) → gather k t < 2 ^ 8
unfolding gather
gather_byte k t = let is = joined_bits (λ j. t j / 2 ^ k % 2) (λ j. omega arith) in omega (arith, is)

-- bit j of it is bit k of byte j
bit_is : (j k : ℕ) (t : ℕ → ℕ) → j < 8 → gather k t / 2 ^ j % 2 ≡ t j / 2 ^ k % 2
unfolding gather
bit_is j k t low =
    let b : ℕ → ℕ = λ j. t j / 2 ^ k % 2 in
    ap (λ (x : ℕ). x / 2 ^ j % 2) (joined_bits b (λ j. omega arith)) ∙ bit_of_number b (λ j. omega arith) j low

-- the bits of a byte tell it
same_bits : (a b : ℕ) → ((j : ℕ) → j < 8 → a / 2 ^ j % 2 ≡ b / 2 ^ j % 2) → a % 2 ^ 8 ≡ b % 2 ^ 8
same_bits a b e =
    let e0 = e 0 (omega arith) in let e1 = e 1 (omega arith) in let e2 = e 2 (omega arith) in let e3 = e 3 (omega arith) in
    let e4 = e 4 (omega arith) in let e5 = e 5 (omega arith) in let e6 = e 6 (omega arith) in let e7 = e 7 (omega arith) in
    omega (arith, e0, e1, e2, e3, e4, e5, e6, e7)

-- all bytes of all blocks
abbrev AllBytes : (ℕ → ℕ → ℕ) → Type 0
AllBytes s = (j : ℕ) → AreBytes (s j)

-- a plane of blocks
plane : (ℕ → ℕ → ℕ) → ℕ → ℕ
plane s k = block (λ i. gather k (λ j. s j i))

-- all planes of blocks
sliced : (ℕ → ℕ → ℕ) → List ℕ
sliced s = eight (plane s)

-- the blocks themselves
abbrev blocks : (ℕ → ℕ → ℕ) → List ℕ
blocks s = eight (λ j. block_of 16 (s j))

-- a block is a plane where its bytes have the plane's bits
is_plane : (k : ℕ) (f : ℕ → ℕ) (s : ℕ → ℕ → ℕ) → ((i j : ℕ) → j < 8 → f i / 2 ^ j % 2 ≡ s j i / 2 ^ k % 2) → block f ≡ plane s k
unfolding block plane
is_plane k f s e =
    same_block 16 (λ i. f i % 2 ^ 8) (λ i. gather k (λ j. s j i) % 2 ^ 8)
    (λ i. same_bits (f i) (gather k (λ j. s j i)) (λ j low. e i j low ∙ sym (bit_is j k (λ j. s j i) low)))

-- what the code gathers of blocks is a plane
gathered_is : (k : ℕ) (s : ℕ → ℕ → ℕ) → k < 8 → AllBytes s → gathered (blocks s) k ≡ plane s k
unfolding gathered gather plane
gathered_is k s low h =
    ap joined (eight_same _ (λ j. block (λ i. s j i / 2 ^ k % 2)) (λ j _. plane_is k (s j) low (h j)))
    ∙ joined_are (λ j i. s j i / 2 ^ k % 2) (λ j i _. omega arith)

-- blocks exchanged are their planes
exchanged_is : (s : ℕ → ℕ → ℕ) → AllBytes s → exchanged (blocks s) ≡ sliced s
unfolding exchanged sliced
exchanged_is s h = eight_same (gathered (blocks s)) (plane s) (λ k low. gathered_is k s low h)

-- the planes of planes are the blocks
back : (j : ℕ) (t : ℕ → ℕ) → j < 8 → ((j : ℕ) → t j < 2 ^ 8) → gather j (λ k. gather k t) ≡ t j
unfolding gather byte_planes
back j t low h = ap byte_joined (eight_same (λ k. gather k t / 2 ^ j % 2) (λ k. t j / 2 ^ k % 2) (λ k _. bit_is j k t low)) ∙ own_bits (t j) (h j)

-- what is gathered of planes is a block
planes_of_planes : (j : ℕ) (s : ℕ → ℕ → ℕ) → j < 8 → AllBytes s → gathered (sliced s) j ≡ block_of 16 (s j)
unfolding sliced plane block
planes_of_planes j s low h =
    let t : ℕ → ℕ → ℕ = λ k i. gather k (λ j. s j i) in
    let bytes : AllBytes t = λ k i. gather_byte k (λ j. s j i) in
    ap (λ (p : List ℕ). gathered p j) (eight_same (plane s) (λ k. block_of 16 (t k)) (λ k _. of_bytes (t k) (bytes k)))
    ∙ (gathered_is j t low bytes ∙ (of_bytes (λ i. gather j (λ k. t k i)) (λ i. gather_byte j (λ k. t k i))
    ∙ same_block 16 (λ i. gather j (λ k. t k i)) (s j) (λ i. back j (λ j. s j i) low (λ j. h j i))))

-- planes exchanged are the blocks
exchanged_back : (s : ℕ → ℕ → ℕ) → AllBytes s → exchanged (sliced s) ≡ blocks s
unfolding exchanged
exchanged_back s h = eight_same (gathered (sliced s)) (λ j. block_of 16 (s j)) (λ j low. planes_of_planes j s low h)

-- a bit that stands at all eight places of a byte
ones : (j b : ℕ) → j < 8 → b < 2 → b * 0xff / 2 ^ j % 2 ≡ b
ones j b low h =
    each_of_8 (λ j. b * 0xff / 2 ^ j % 2 ≡ b) (omega (arith, h)) (omega (arith, h)) (omega (arith, h)) (omega (arith, h))
    (omega (arith, h)) (omega (arith, h)) (omega (arith, h)) (omega (arith, h)) j low

-- the S-box: a bit of its constant in each byte
constant : ℕ → ℕ → ℕ
constant k i = 0x63 / 2 ^ k % 2 * 0xff

-- the images as the code has them: the circuit and this constant, which is 0 at four planes
with_constant : (q : List ℕ)
    → bit_xor (slice_index q 0) 0xffffffffffffffffffffffffffffffff ∷ bit_xor (slice_index q 1) 0xffffffffffffffffffffffffffffffff
    ∷ slice_index q 2 ∷ slice_index q 3 ∷ slice_index q 4 ∷ bit_xor (slice_index q 5) 0xffffffffffffffffffffffffffffffff
    ∷ bit_xor (slice_index q 6) 0xffffffffffffffffffffffffffffffff ∷ slice_index q 7 ∷ []
    ≡ eight (λ k. bit_xor (slice_index q k) (block (constant k)))
unfolding constant block block_of
with_constant q = rw (xor_zero_r (slice_index q 2), xor_zero_r (slice_index q 3), xor_zero_r (slice_index q 4), xor_zero_r (slice_index q 7)) refl

-- a bit of an image
image_bits : (k j : ℕ) (t : ℕ → ℕ) → k < 8 → j < 8 → ((j : ℕ) → t j < 2 ^ 8)
    → bit_xor (slice_index (circuit (eight (λ n. gather n t))) k) (constant k 0) / 2 ^ j % 2 ≡ s_box (t j) / 2 ^ k % 2
unfolding byte_planes constant
image_bits k j t low small h =
    sum_at j (slice_index (circuit (eight (λ n. gather n t))) k) (constant k 0)
    ∙ (ap₂ bit_xor (by_bits j (λ n. gather n t) k low
    ∙ ap (λ (p : List ℕ). slice_index (circuit p) k) (eight_same (λ n. gather n t / 2 ^ j % 2) (λ n. t j / 2 ^ n % 2) (λ n _. bit_is j n t small)))
    (ones j (0x63 / 2 ^ k % 2) small (omega arith)) ∙ image_at (t j) k (h j) low)

-- a plane of images
image_is : (k : ℕ) (s : ℕ → ℕ → ℕ) → k < 8 → AllBytes s
    → bit_xor (slice_index (circuit (sliced s)) k) (block (constant k)) ≡ plane (λ j i. s_box (s j i)) k
unfolding sliced plane constant
image_is k s low h =
    let q : ℕ → ℕ = λ i. slice_index (circuit (eight (λ n. gather n (λ j. s j i)))) k in
    summed _ _ q (constant k) (by_bytes (λ n i. gather n (λ j. s j i)) k low) refl
    ∙ is_plane k (λ i. bit_xor (q i) (constant k i)) (λ j i. s_box (s j i)) (λ i j small. image_bits k j (λ j. s j i) low small (λ j. h j i))

-- all of them
images_are : (s : ℕ → ℕ → ℕ) → AllBytes s → images (sliced s) ≡ sliced (λ j i. s_box (s j i))
unfolding images sliced
images_are s h =
    with_constant (circuit (sliced s))
    ∙ eight_same (λ k. bit_xor (slice_index (circuit (sliced s)) k) (block (constant k))) (plane (λ j i. s_box (s j i))) (λ k low. image_is k s low h)

-- the rows
shifted_plane : (f : ℕ → ℕ) → shift_rows (block f) ≡ block (shifted_row f)
unfolding block shifted_row
shifted_plane f = (shifted_block (its_block (λ i. f i % 2 ^ 8) (λ i. omega arith))).is

-- the rows of all planes
shifted_are : (s : ℕ → ℕ → ℕ) → shifted_planes (sliced s) ≡ sliced (λ j. shifted_row (s j))
unfolding shifted_planes sliced plane shifted_row
shifted_are s = eight_same (λ k. shift_rows (plane s k)) (plane (λ j. shifted_row (s j))) (λ k _. shifted_plane (λ i. gather k (λ j. s j i)))

-- the columns
turned_plane : (f : ℕ → ℕ) → turned_words (block f) ≡ block (λ i. f (next i))
unfolding block
turned_plane f = (turned_words_block (its_block (λ i. f i % 2 ^ 8) (λ i. omega arith))).is

-- the columns of all planes
turned_are : (s : ℕ → ℕ → ℕ) → turned_planes (sliced s) ≡ sliced (λ j i. s j (next i))
unfolding turned_planes sliced plane
turned_are s = eight_same (λ k. turned_words (plane s k)) (plane (λ j i. s j (next i))) (λ k _. turned_plane (λ i. gather k (λ j. s j i)))

-- sums of planes
plane_sum : (k : ℕ) (s u : ℕ → ℕ → ℕ) → bit_xor (plane s k) (plane u k) ≡ plane (λ j i. bit_xor (s j i) (u j i)) k
unfolding plane
plane_sum k s u =
    block_xor (λ i. gather k (λ j. s j i)) (λ i. gather k (λ j. u j i))
    ∙ is_plane k (λ i. bit_xor (gather k (λ j. s j i)) (gather k (λ j. u j i))) (λ j i. bit_xor (s j i) (u j i)) (λ i j low.
    sum_at j (gather k (λ j. s j i)) (gather k (λ j. u j i))
    ∙ (ap₂ bit_xor (bit_is j k (λ j. s j i) low) (bit_is j k (λ j. u j i) low) ∙ sym (sum_at k (s j i) (u j i))))

-- sums of all planes
keyed_are : (s u : ℕ → ℕ → ℕ) → keyed (sliced s) (sliced u) ≡ sliced (λ j i. bit_xor (s j i) (u j i))
unfolding keyed sliced
keyed_are s u = eight_same (λ k. bit_xor (plane s k) (plane u k)) (plane (λ j i. bit_xor (s j i) (u j i))) (λ k _. plane_sum k s u)

-- the planes of doubled bytes
doubled_first : (s : ℕ → ℕ → ℕ) → AllBytes s → plane s 7 ≡ plane (λ j i. xtime (s j i)) 0
unfolding plane
doubled_first s h =
    is_plane 0 (λ i. gather 7 (λ j. s j i)) (λ j i. xtime (s j i)) (λ i j low. bit_is j 7 (λ j. s j i) low ∙ xtime_first (s j i) (h j i))

-- the others: the plane before, to which the highest is added where 0x1b has a bit
doubled_next : (c : Bool) (k : ℕ) (s : ℕ → ℕ → ℕ) → c ≡ eqb (0x1b / 2 ^ suc k % 2) 1 → k < 7 → AllBytes s
    → cond c (bit_xor (plane s k) (plane s 7)) (plane s k) ≡ plane (λ j i. xtime (s j i)) (suc k)
unfolding plane
doubled_next true k s e small h =
    block_xor (λ i. gather k (λ j. s j i)) (λ i. gather 7 (λ j. s j i))
    ∙ is_plane (suc k) (λ i. bit_xor (gather k (λ j. s j i)) (gather 7 (λ j. s j i))) (λ j i. xtime (s j i)) (λ i j low.
    sum_at j (gather k (λ j. s j i)) (gather 7 (λ j. s j i))
    ∙ (ap₂ bit_xor (bit_is j k (λ j. s j i) low) (bit_is j 7 (λ j. s j i) low) ∙ xtime_next true (s j i) k e (h j i) small))
doubled_next false k s e small h =
    is_plane (suc k) (λ i. gather k (λ j. s j i)) (λ j i. xtime (s j i)) (λ i j low.
    bit_is j k (λ j. s j i) low ∙ xtime_next false (s j i) k e (h j i) small)

-- plane k of these, by the planes before
abbrev doubled_plane : List ℕ → ℕ → ℕ
doubled_plane u zero = slice_index u 7
doubled_plane u (suc k) = cond (eqb (0x1b / 2 ^ suc k % 2) 1) (bit_xor (slice_index u k) (slice_index u 7)) (slice_index u k)

-- these are the planes of doubled bytes
doubled_are : (s : ℕ → ℕ → ℕ) → AllBytes s → (k : ℕ) → k < 8 → doubled_plane (sliced s) k ≡ plane (λ j i. xtime (s j i)) k
unfolding sliced
doubled_are s h zero low = doubled_first s h
doubled_are s h (suc k) low =
    ap (λ (x : ℕ). cond (eqb (0x1b / 2 ^ suc k % 2) 1) (bit_xor x (plane s 7)) x) (at_eight (plane s) k (omega arith))
    ∙ doubled_next (eqb (0x1b / 2 ^ suc k % 2) 1) k s refl (omega arith) h

-- a plane of mixed columns
abbrev mixed_sum : (ℕ → ℕ) → ℕ → ℕ
mixed_sum f i = bit_xor (bit_xor (xtime (bit_xor (f i) (f (next i)))) (f (next i))) (bit_xor (f (next (next i))) (f (next (next (next i)))))

-- a plane as the code mixes it
column : (k : ℕ) (s : ℕ → ℕ → ℕ) (doubled : ℕ) → doubled ≡ plane (λ j i. xtime (bit_xor (s j i) (s j (next i)))) k
    → mixed_plane (plane (λ j i. s j (next i)) k) (plane (λ j i. bit_xor (s j i) (s j (next i))) k) doubled ≡ plane (λ j. mixed_sum (s j)) k
unfolding mixed_plane plane
column k s doubled e =
    let u : ℕ → ℕ → ℕ = λ j i. bit_xor (s j i) (s j (next i)) in
    ap₂ bit_xor (ap (λ (x : ℕ). bit_xor x (plane (λ j i. s j (next i)) k)) e ∙ plane_sum k (λ j i. xtime (u j i)) (λ j i. s j (next i)))
    (ap turned_words (turned_plane (λ i. gather k (λ j. u j i))) ∙ turned_plane (λ i. gather k (λ j. u j (next i))))
    ∙ plane_sum k (λ j i. bit_xor (xtime (u j i)) (s j (next i))) (λ j i. u j (next (next i)))

-- the same bytes have the same planes
same_sliced : (s u : ℕ → ℕ → ℕ) → ((j i : ℕ) → s j i ≡ u j i) → sliced s ≡ sliced u
unfolding sliced plane
same_sliced s u e =
    eight_same (plane s) (plane u) (λ k _. is_plane k (λ i. gather k (λ j. s j i)) u (λ i j low.
    bit_is j k (λ j. s j i) low ∙ ap (λ (x : ℕ). x / 2 ^ k % 2) (e j i)))

-- the planes of mixed columns, by those turned and those of the sums
mixed_by : List ℕ → List ℕ → List ℕ
mixed_by b u = eight (λ k. mixed_plane (slice_index b k) (slice_index u k) (doubled_plane u k))

-- all planes of mixed columns
mixed_are : (s : ℕ → ℕ → ℕ) → AllBytes s → mixed_planes (sliced s) ≡ sliced (λ j. mixed_column (s j))
unfolding mixed_planes sliced mixed_by
mixed_are s h =
    let b : ℕ → ℕ → ℕ = λ j i. s j (next i) in
    let u : ℕ → ℕ → ℕ = λ j i. bit_xor (s j i) (b j i) in
    let hu : AllBytes u = λ j i. xor_byte (s j i) (b j i) (h j i) (h j (next i)) in
    let sums : keyed (sliced s) (turned_planes (sliced s)) ≡ sliced u = ap (keyed (sliced s)) (turned_are s) ∙ keyed_are s b in
    let same : mixed_by (turned_planes (sliced s)) (keyed (sliced s) (turned_planes (sliced s))) ≡ mixed_by (sliced b) (sliced u)
    = ap₂ mixed_by (turned_are s) sums in
    same
    ∙ (eight_same (λ k. mixed_plane (plane b k) (plane u k) (doubled_plane (sliced u) k)) (plane (λ j. mixed_sum (s j)))
    (λ k low. column k s _ (doubled_are u hu k low))
    ∙ same_sliced (λ j. mixed_sum (s j)) (λ j. mixed_column (s j)) (λ j i.
    sym (xor_assoc (bit_xor (xtime (u j i)) (b j i)) (b j (next i)) (b j (next (next i)))) ∙ mixed_is (s j) (h j) i))

-- a round key
spread_is : (k : ℕ) (f : ℕ → ℕ) → k < 8 → AreBytes f → spread (block_of 16 f) k ≡ plane (λ j. f) k
unfolding spread
spread_is k f low h =
    ap (λ (x : ℕ). x * 0xff % 2 ^ 128) (plane_is k f low h)
    ∙ (scaled 0xff (λ i. f i / 2 ^ k % 2) (λ i. omega arith) (λ i. omega arith)
    ∙ is_plane k (λ i. f i / 2 ^ k % 2 * 0xff) (λ j. f) (λ i j small. ones j (f i / 2 ^ k % 2) small (omega arith)))

-- all planes of a round key
key_is : (f : ℕ → ℕ) → AreBytes f → key_planes (block_of 16 f) ≡ sliced (λ j. f)
unfolding key_planes sliced
key_is f h = eight_same (spread (block_of 16 f)) (plane (λ j. f)) (λ k low. spread_is k f low h)

-- rounds
key_added : (s : ℕ → ℕ → ℕ) (f : ℕ → ℕ) (key : ℕ) → AreBytes f → key ≡ block_of 16 f → keyed (sliced s) (key_planes key) ≡ sliced (λ j. with_key (s j) f)
unfolding with_key
key_added s f key h e = ap (λ (x : ℕ). keyed (sliced s) (key_planes x)) e ∙ (ap (keyed (sliced s)) (key_is f h) ∙ keyed_are s (λ j. f))

-- SubBytes and ShiftRows
rows_are : (s : ℕ → ℕ → ℕ) → AllBytes s → shifted_planes (images (sliced s)) ≡ sliced (λ j. shifted_row (substituted (s j)))
rows_are s h = ap shifted_planes (images_are s h) ∙ shifted_are (λ j. substituted (s j))

-- they give bytes
rows_bytes : (s : ℕ → ℕ → ℕ) → AllBytes s → AllBytes (λ j. shifted_row (substituted (s j)))
rows_bytes s h j = (shifted_block (s_box_block (its_block (s j) (h j)))).bytes

-- the planes after so many rounds are those of the states
rounds_are : (keys : List ℕ) (by : ℕ → ℕ → ℕ) (s : ℕ → ℕ → ℕ) (n : ℕ) → ((j : ℕ) → AreBytes (by j))
    → AreKeys keys by → AllBytes s → n < length keys
    → planes_after keys (blocks s) n ≡ sliced (λ j. state_after by (s j) n)
unfolding planes_after state_after
rounds_are keys by s zero k are h low =
    ap (λ (p : List ℕ). keyed p (key_planes (slice_index keys 0))) (exchanged_is s h) ∙ key_added s (by 0) (slice_index keys 0) (k 0) (are 0 low)
rounds_are keys by s (suc n) k are h low =
    let t : ℕ → ℕ → ℕ = λ j. state_after by (s j) n in
    let ht : AllBytes t = λ j. states_bytes by (s j) n k (h j) in
    let r : ℕ → ℕ → ℕ = λ j. shifted_row (substituted (t j)) in
    ap (λ (p : List ℕ). keyed (mixed_planes p) (key_planes (slice_index keys (suc n))))
    (ap (λ (p : List ℕ). shifted_planes (images p)) (rounds_are keys by s n k are h (omega arith)) ∙ rows_are t ht)
    ∙ (ap (λ (p : List ℕ). keyed p (key_planes (slice_index keys (suc n)))) (mixed_are r (rows_bytes t ht))
    ∙ key_added (λ j. mixed_column (r j)) (by (suc n)) (slice_index keys (suc n)) (k (suc n)) (are (suc n) low))

-- eight blocks of these bytes encrypted
eight_are : (keys : List ℕ) (by : ℕ → ℕ → ℕ) (s : ℕ → ℕ → ℕ) → 2 ≤ length keys → ((j : ℕ) → AreBytes (by j))
    → AreKeys keys by → AllBytes s
    → eight_ciphers keys (blocks s) ≡ eight (λ j. cipher keys (block_of 16 (s j)))
unfolding eight_ciphers
eight_are keys by s some k are h =
    let n : ℕ = length keys - 2 in
    let last : ℕ = length keys - 1 in
    let t : ℕ → ℕ → ℕ = λ j. state_after by (s j) n in
    let ht : AllBytes t = λ j. states_bytes by (s j) n k (h j) in
    let r : ℕ → ℕ → ℕ = λ j. shifted_row (substituted (t j)) in
    let e : ℕ → ℕ → ℕ = λ j. with_key (r j) (by last) in
    ap (λ (p : List ℕ). exchanged (keyed p (key_planes (slice_index keys last))))
    (ap (λ (p : List ℕ). shifted_planes (images p)) (rounds_are keys by s n k are h (omega (arith, some))) ∙ rows_are t ht)
    ∙ (ap exchanged (key_added r (by last) (slice_index keys last) (k last) (are last (omega (arith, some))))
    ∙ (exchanged_back e (λ j. (keyed_block (its_block (r j) (rows_bytes t ht j)) (its_block (by last) (k last))).bytes)
    ∙ eight_same (λ j. block_of 16 (e j)) (λ j. cipher keys (block_of 16 (s j))) (λ j _. sym (cipher_by_state keys by (s j) some k are (h j)))))

-- eight blocks of 128 bits
pub eight_is : (keys : List ℕ) (b : ℕ → ℕ) → 2 ≤ length keys → ((j : ℕ) → slice_index keys j < 2 ^ 128) → ((j : ℕ) → b j < 2 ^ 128)
    → eight_ciphers keys (eight b) ≡ eight (λ j. cipher keys (b j))
eight_is keys b some k h =
    let is : (j : ℕ) → b j ≡ block_of 16 (byte_of (b j)) = λ j. whole_block (b j) (h j) in
    ap (eight_ciphers keys) (eight_same b (λ j. block_of 16 (byte_of (b j))) (λ j _. is j))
    ∙ (eight_are keys (λ j. byte_of (slice_index keys j)) (λ j. byte_of (b j)) some (λ j. bytes_of (slice_index keys j))
    (λ j _. whole_block (slice_index keys j) (k j)) (λ j. bytes_of (b j))
    ∙ eight_same (λ j. cipher keys (block_of 16 (byte_of (b j)))) (λ j. cipher keys (b j)) (λ j _. ap (cipher keys) (sym (is j))))
