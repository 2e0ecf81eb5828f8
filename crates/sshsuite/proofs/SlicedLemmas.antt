-- SubBytes of a block by its bits.

use Rattle.std.proofs.Common.{◌≡◌, ℕ, ◌-◌, ◌*◌, ◌/◌, ◌%◌, ◌^◌, ◌<◌, List, [], ◌∷◌, refl, sym, ap, ◌∙◌, arith}
use Rattle.std.specs.Prelude.{bit_and, bit_xor, slice_index}
use Rattle.sshsuite.specs.Aes.{sub_bytes}
use Rattle.sshsuite.specs.AesBytes.{block_of, s_box}
use Rattle.sshsuite.specs.SBox.{circuit}
use Rattle.sshsuite.specs.SlicedAes.{joined, planes}
use Rattle.sshsuite.proofs.AesLemmas.{AreBytes, its_block, lowest_bits, repeated, s_box_block, s_box_byte, same_block, times_whole}
use Rattle.sshsuite.proofs.CircuitLemmas.{block, by_bytes, summed}
use Rattle.sshsuite.proofs.ListOfEight.{each_of_8, eight, eight_same}
use Rattle.sshsuite.proofs.SlicedSamples.{byte_by_circuit, byte_joined, byte_planes, image_bit}

-- a number is the block of its bytes
unfoldable pub byte_of : ℕ → ℕ → ℕ
byte_of a i = a / 2 ^ (8 * (15 - i)) % 2 ^ 8

-- it is the block of them
pub whole_block : (a : ℕ) → a < 2 ^ 128 → a ≡ block_of 16 (byte_of a)
unfolding block_of byte_of
whole_block a h = omega (arith, h)

-- of bytes, all bits are their lowest 8
pub of_bytes : (f : ℕ → ℕ) → AreBytes f → block f ≡ block_of 16 f
unfolding block
of_bytes f h = same_block 16 (λ i. f i % 2 ^ 8) f (λ i. let low = h i in omega (arith, low))

-- the bits of each byte
pub plane_is : (k : ℕ) (f : ℕ → ℕ) → k < 8 → AreBytes f → bit_and (block_of 16 f / 2 ^ k) 0x01010101010101010101010101010101 ≡ block (λ i. f i / 2 ^ k % 2)
unfolding block
plane_is k f h low = lowest_bits k f h low ∙ same_block 16 (λ i. f i / 2 ^ k % 2) (λ i. f i / 2 ^ k % 2 % 2 ^ 8) (λ i. omega arith)

-- the planes of a block are its bits
planes_are : (f : ℕ → ℕ) → AreBytes f → planes (block_of 16 f) ≡ eight (λ k. block (λ i. f i / 2 ^ k % 2))
unfolding planes
planes_are f h =
    let a : ℕ = block_of 16 f in
    let first : a ≡ a / 2 ^ 0 = omega arith in
    let bits : ℕ → ℕ → ℕ = λ x k. bit_and (x / 2 ^ k) 0x01010101010101010101010101010101 in
    ap (λ (x : ℕ). bit_and x 0x01010101010101010101010101010101 ∷ bits a 1 ∷ bits a 2 ∷ bits a 3 ∷ bits a 4 ∷ bits a 5 ∷ bits a 6 ∷ bits a 7 ∷ []) first
    ∙ eight_same (bits a) (λ k. block (λ i. f i / 2 ^ k % 2)) (λ k low. plane_is k f low h)

-- bytes times a number, where these are bytes again
pub scaled : (c : ℕ) (q : ℕ → ℕ) → AreBytes q → AreBytes (λ i. q i * c) → block q * c % 2 ^ 128 ≡ block (λ i. q i * c)
scaled c q h l =
    ap (λ (x : ℕ). x * c % 2 ^ 128) (of_bytes q h)
    ∙ (times_whole c q l ∙ sym (of_bytes (λ i. q i * c) l))

-- bits put to their places
raised : (k : ℕ) (q : ℕ → ℕ) → k < 8 → ((i : ℕ) → q i < 2) → block q * 2 ^ k % 2 ^ 128 ≡ block (λ i. q i * 2 ^ k)
raised k q low h =
    scaled (2 ^ k) q (λ i. let bit = h i in omega (arith, bit)) (λ i. let bit = h i in each_of_8 (λ k. q i * 2 ^ k < 2 ^ 8)
    (omega (arith, bit)) (omega (arith, bit)) (omega (arith, bit)) (omega (arith, bit))
    (omega (arith, bit)) (omega (arith, bit)) (omega (arith, bit)) (omega (arith, bit)) k low)

-- bits of the same byte are joined to it
pub joined_are : (q : ℕ → ℕ → ℕ) → ((k i : ℕ) → k < 8 → q k i < 2)
    → joined (eight (λ k. block (q k))) ≡ block (λ i. byte_joined (eight (λ k. q k i)))
unfolding joined byte_joined
joined_are q h =
    let up : (k : ℕ) → k < 8 → block (q k) * 2 ^ k % 2 ^ 128 ≡ block (λ i. q k i * 2 ^ k) = λ k low. raised k (q k) low (λ i. h k i low) in
    summed _ _ _ _ (summed _ _ _ _ (summed _ _ _ _ (summed _ _ _ _ (summed _ _ _ _ (summed _ _ _ _
    (summed _ _ (q 0) (λ i. q 1 i * 2 ^ 1) refl (up 1 (omega arith))) (up 2 (omega arith))) (up 3 (omega arith)))
    (up 4 (omega arith))) (up 5 (omega arith))) (up 6 (omega arith))) (up 7 (omega arith))

-- the same numbers have the same block
ap_block : (f g : ℕ → ℕ) → ((i : ℕ) → f i ≡ g i) → block f ≡ block g
unfolding block
ap_block f g h = same_block 16 (λ i. f i % 2 ^ 8) (λ i. g i % 2 ^ 8) (λ i. ap (λ (x : ℕ). x % 2 ^ 8) (h i))

-- the bytes of a number are bytes
pub bytes_of : (a : ℕ) → AreBytes (byte_of a)
unfolding byte_of
bytes_of a = λ i. omega arith

-- the circuit of a block of these bytes
by_block : (f : ℕ → ℕ) → AreBytes f → bit_xor (joined (circuit (planes (block_of 16 f)))) 0x63636363636363636363636363636363 ≡ block_of 16 (λ i. s_box (f i))
unfolding byte_planes byte_joined joined
by_block f h =
    let q : ℕ → ℕ → ℕ = λ k i. slice_index (circuit (byte_planes (f i))) k in
    let constants : 0x63636363636363636363636363636363 ≡ block (λ i. 0x63) = sym (repeated 0x63) ∙ sym (of_bytes (λ i. 0x63) (λ i. omega arith)) in
    let images : joined (circuit (planes (block_of 16 f))) ≡ block (λ i. byte_joined (eight (λ k. q k i)))
    = ap (λ (p : List ℕ). joined (circuit p)) (planes_are f h)
    ∙ (ap joined (eight_same (slice_index (circuit (eight (λ k. block (λ i. f i / 2 ^ k % 2))))) (λ k. block (q k)) (by_bytes (λ k i. f i / 2 ^ k % 2)))
    ∙ joined_are q (λ k i low. image_bit (f i) k (h i) low)) in
    summed _ _ (λ i. byte_joined (eight (λ k. q k i))) (λ i. 0x63) images constants
    ∙ (ap_block (λ i. bit_xor (byte_joined (eight (λ k. q k i))) 0x63) (λ i. s_box (f i)) (λ i. byte_by_circuit (f i) (h i))
    ∙ of_bytes (λ i. s_box (f i)) (λ i. s_box_byte (f i) (h i)))

-- the circuit is SubBytes
pub by_circuit : (a : ℕ) → a < 2 ^ 128 → bit_xor (joined (circuit (planes a))) 0x63636363636363636363636363636363 ≡ sub_bytes a
by_circuit a h =
    let is : a ≡ block_of 16 (byte_of a) = whole_block a h in
    let low : AreBytes (byte_of a) = bytes_of a in
    ap (λ (x : ℕ). bit_xor (joined (circuit (planes x))) 0x63636363636363636363636363636363) is
    ∙ (by_block (byte_of a) low ∙ (sym (s_box_block (its_block (byte_of a) low)).is ∙ ap sub_bytes (sym is)))
