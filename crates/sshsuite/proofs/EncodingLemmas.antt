-- Limbs that are read of bytes have the number of these without their highest bit, and limbs are written as the bytes of their
-- number modulo 2^255 - 19.

use Rattle.std.proofs.Common.{◌≡◌, ℕ, ◌+◌, ◌*◌, ◌/◌, ◌%◌, ◌^◌, ◌<◌, ◌++◌, List, [], ◌∷◌, refl, ap, ap₂, ◌∙◌, arith}
use Rattle.std.specs.Int.{w64, to_le_bytes}
use Rattle.std.specs.Prelude.{bit_or, slice_index}
use Rattle.sshcurve.specs.Bits.{bytes_of_words, number_of_32, word_at}
use Rattle.sshsuite.specs.FieldElement.{add, canonical, decode, encode, none, packed}
use Rattle.sshsuite.proofs.FieldLemmas.{AreTight, add_tight, below_tight, bounded, least, radix}
use Rattle.sshsuite.proofs.LimbLemmas.{reduced_value, wider}
use Rattle.sshsuite.proofs.WordLemmas.{AreWords, or_high}
use Rattle.sshcurve.specs.FieldBytes.{bytes_of_number}
use Rattle.sshsuite.specs.FieldValues.{AreBelow, value, weighed}
use Rattle.sshcurve.specs.FieldNumbers.{field}

-- Bytes to limbs.
limb1 : (x y : ℕ) → x < 2 ^ 64 → bit_or (x / 2 ^ 51) (y * 2 ^ 13 % 2 ^ 64) % 2 ^ 51 ≡ y % 2 ^ 38 * 2 ^ 13 + x / 2 ^ 51
limb1 x y h =
    let e : y * 2 ^ 13 % 2 ^ 64 ≡ y % 2 ^ 51 * 2 ^ 13 = omega arith in
    ap (λ (n : ℕ). n % 2 ^ 51) (ap (bit_or (x / 2 ^ 51)) e ∙ or_high (y % 2 ^ 51) 13 (x / 2 ^ 51) (omega arith)) ∙ omega arith

limb2 : (x y : ℕ) → x < 2 ^ 64 → bit_or (x / 2 ^ 38) (y * 2 ^ 26 % 2 ^ 64) % 2 ^ 51 ≡ y % 2 ^ 25 * 2 ^ 26 + x / 2 ^ 38
limb2 x y h =
    let e : y * 2 ^ 26 % 2 ^ 64 ≡ y % 2 ^ 38 * 2 ^ 26 = omega arith in
    ap (λ (n : ℕ). n % 2 ^ 51) (ap (bit_or (x / 2 ^ 38)) e ∙ or_high (y % 2 ^ 38) 26 (x / 2 ^ 38) (omega arith)) ∙ omega arith

limb3 : (x y : ℕ) → x < 2 ^ 64 → bit_or (x / 2 ^ 25) (y * 2 ^ 39 % 2 ^ 64) % 2 ^ 51 ≡ y % 2 ^ 12 * 2 ^ 39 + x / 2 ^ 25
limb3 x y h =
    let e : y * 2 ^ 39 % 2 ^ 64 ≡ y % 2 ^ 25 * 2 ^ 39 = omega arith in
    ap (λ (n : ℕ). n % 2 ^ 51) (ap (bit_or (x / 2 ^ 25)) e ∙ or_high (y % 2 ^ 25) 39 (x / 2 ^ 25) (omega arith)) ∙ omega arith

five_limbs : (w0 w1 w2 w3 l0 l1 l2 l3 l4 : ℕ) → w3 < 2 ^ 64 → l0 ≡ w0 % 2 ^ 51 → l1 ≡ w1 % 2 ^ 38 * 2 ^ 13 + w0 / 2 ^ 51 → l2 ≡ w2 % 2 ^ 25 * 2 ^ 26 + w1 / 2 ^ 38
    → l3 ≡ w3 % 2 ^ 12 * 2 ^ 39 + w2 / 2 ^ 25 → l4 ≡ w3 / 2 ^ 12 % 2 ^ 51
    → weighed l0 l1 l2 l3 l4 + 2 ^ 255 * (w3 / 2 ^ 63) ≡ w0 + 2 ^ 64 * w1 + 2 ^ 128 * w2 + 2 ^ 192 * w3
five_limbs w0 w1 w2 w3 l0 l1 l2 l3 l4 h e0 e1 e2 e3 e4 = omega arith

least_of : (x y q : ℕ) → x + 2 ^ 255 * q ≡ y → x < 2 ^ 255 → x ≡ y % 2 ^ 255
least_of x y q e h = omega arith

pub decode_value : (bytes : List ℕ) → AreWords bytes → AreBelow (2 ^ 51) (decode bytes) × (value (decode bytes) ≡ number_of_32 bytes % 2 ^ 255)
unfolding decode number_of_32
decode_value bytes are =
    let w0 : ℕ = word_at bytes 0 in
    let w1 : ℕ = word_at bytes 8 in
    let w2 : ℕ = word_at bytes 16 in
    let w3 : ℕ = word_at bytes 24 in
    let below : AreBelow (2 ^ 51) (decode bytes) = record { l0 = least w0; l1 = least _; l2 = least _; l3 = least _; l4 = least _ } in
    let e = five_limbs w0 w1 w2 w3 (w0 % 2 ^ 51) (bit_or (w0 / 2 ^ 51) (w1 * 2 ^ 13 % 2 ^ 64) % 2 ^ 51) (bit_or (w1 / 2 ^ 38) (w2 * 2 ^ 26 % 2 ^ 64) % 2 ^ 51)
    (bit_or (w2 / 2 ^ 25) (w3 * 2 ^ 39 % 2 ^ 64) % 2 ^ 51) (w3 / 2 ^ 12 % 2 ^ 51) are.w3 refl (limb1 w0 w1 are.w0) (limb2 w1 w2 are.w1) (limb3 w2 w3 are.w2) refl in
    (below, least_of (value (decode bytes)) (w0 + 2 ^ 64 * w1 + 2 ^ 128 * w2 + 2 ^ 192 * w3) (w3 / 2 ^ 63) e (bounded _ _ _ _ _ below.l0 below.l1 below.l2 below.l3 below.l4))

-- Limbs to bytes.
word0 : (l0 l1 : ℕ) → l0 < 2 ^ 51 → bit_or l0 (l1 * 2 ^ 51 % 2 ^ 64) ≡ l1 % 2 ^ 13 * 2 ^ 51 + l0
word0 l0 l1 h = let e : l1 * 2 ^ 51 % 2 ^ 64 ≡ l1 % 2 ^ 13 * 2 ^ 51 = omega arith in ap (bit_or l0) e ∙ or_high (l1 % 2 ^ 13) 51 l0 h

word1 : (l1 l2 : ℕ) → l1 < 2 ^ 51 → bit_or (l1 / 2 ^ 13) (l2 * 2 ^ 38 % 2 ^ 64) ≡ l2 % 2 ^ 26 * 2 ^ 38 + l1 / 2 ^ 13
word1 l1 l2 h = let e : l2 * 2 ^ 38 % 2 ^ 64 ≡ l2 % 2 ^ 26 * 2 ^ 38 = omega arith in ap (bit_or (l1 / 2 ^ 13)) e ∙ or_high (l2 % 2 ^ 26) 38 (l1 / 2 ^ 13) (omega arith)

word2 : (l2 l3 : ℕ) → l2 < 2 ^ 51 → bit_or (l2 / 2 ^ 26) (l3 * 2 ^ 25 % 2 ^ 64) ≡ l3 % 2 ^ 39 * 2 ^ 25 + l2 / 2 ^ 26
word2 l2 l3 h = let e : l3 * 2 ^ 25 % 2 ^ 64 ≡ l3 % 2 ^ 39 * 2 ^ 25 = omega arith in ap (bit_or (l2 / 2 ^ 26)) e ∙ or_high (l3 % 2 ^ 39) 25 (l2 / 2 ^ 26) (omega arith)

word3 : (l3 l4 : ℕ) → l3 < 2 ^ 51 → bit_or (l3 / 2 ^ 39) (l4 * 2 ^ 12 % 2 ^ 64) ≡ l4 % 2 ^ 52 * 2 ^ 12 + l3 / 2 ^ 39
word3 l3 l4 h = let e : l4 * 2 ^ 12 % 2 ^ 64 ≡ l4 % 2 ^ 52 * 2 ^ 12 = omega arith in ap (bit_or (l3 / 2 ^ 39)) e ∙ or_high (l4 % 2 ^ 52) 12 (l3 / 2 ^ 39) (omega arith)

four_words : (l0 l1 l2 l3 l4 w0 w1 w2 w3 : ℕ) → l4 < 2 ^ 51 → w0 ≡ l1 % 2 ^ 13 * 2 ^ 51 + l0 → w1 ≡ l2 % 2 ^ 26 * 2 ^ 38 + l1 / 2 ^ 13
    → w2 ≡ l3 % 2 ^ 39 * 2 ^ 25 + l2 / 2 ^ 26 → w3 ≡ l4 % 2 ^ 52 * 2 ^ 12 + l3 / 2 ^ 39
    → w0 + 2 ^ 64 * w1 + 2 ^ 128 * w2 + 2 ^ 192 * w3 ≡ weighed l0 l1 l2 l3 l4
four_words l0 l1 l2 l3 l4 w0 w1 w2 w3 h e0 e1 e2 e3 = omega arith

same_words : (v w : List ℕ) → slice_index v 0 ≡ slice_index w 0 → slice_index v 1 ≡ slice_index w 1 → slice_index v 2 ≡ slice_index w 2
    → slice_index v 3 ≡ slice_index w 3 → bytes_of_words v ≡ bytes_of_words w
unfolding bytes_of_words
same_words v w e0 e1 e2 e3 =
    ap₂ ◌++◌ (ap (to_le_bytes w64) e0) (ap₂ ◌++◌ (ap (to_le_bytes w64) e1) (ap₂ ◌++◌ (ap (to_le_bytes w64) e2) (ap (to_le_bytes w64) e3)))

words_of : (words : List ℕ) (n : ℕ) → slice_index words 0 < 2 ^ 64 → slice_index words 1 < 2 ^ 64 → slice_index words 2 < 2 ^ 64
    → slice_index words 0 + 2 ^ 64 * slice_index words 1 + 2 ^ 128 * slice_index words 2 + 2 ^ 192 * slice_index words 3 ≡ n
    → bytes_of_words words ≡ bytes_of_number n
unfolding bytes_of_number
words_of words n h0 h1 h2 is =
    let e0 : slice_index words 0 ≡ n % 2 ^ 64 = omega arith in
    let e1 : slice_index words 1 ≡ n / 2 ^ 64 % 2 ^ 64 = omega arith in
    let e2 : slice_index words 2 ≡ n / 2 ^ 128 % 2 ^ 64 = omega arith in
    let e3 : slice_index words 3 ≡ n / 2 ^ 192 = omega arith in
    same_words words (n % 2 ^ 64 ∷ n / 2 ^ 64 % 2 ^ 64 ∷ n / 2 ^ 128 % 2 ^ 64 ∷ n / 2 ^ 192 ∷ []) e0 e1 e2 e3

packed_value : (l : List ℕ) → AreBelow (2 ^ 51) l → bytes_of_words (packed l) ≡ bytes_of_number (value l)
unfolding packed
packed_value l h =
    let l0 : ℕ = slice_index l 0 in
    let l1 : ℕ = slice_index l 1 in
    let l2 : ℕ = slice_index l 2 in
    let l3 : ℕ = slice_index l 3 in
    let l4 : ℕ = slice_index l 4 in
    let e0 = word0 l0 l1 h.l0 in
    let e1 = word1 l1 l2 h.l1 in
    let e2 = word2 l2 l3 h.l2 in
    let e3 = word3 l3 l4 h.l3 in
    let b0 : slice_index (packed l) 0 < 2 ^ 64 = omega (arith, e0, h.l0) in
    let b1 : slice_index (packed l) 1 < 2 ^ 64 = omega (arith, e1, h.l1) in
    let b2 : slice_index (packed l) 2 < 2 ^ 64 = omega (arith, e2, h.l2) in
    words_of (packed l) (value l) b0 b1 b2 (four_words l0 l1 l2 l3 l4 _ _ _ _ h.l4 e0 e1 e2 e3)

-- One subtraction of the modulus.
tight_value : (l0 l1 l2 l3 l4 : ℕ) → l0 < 2 ^ 52 → l1 < 2 ^ 51 → l2 < 2 ^ 51 → l3 < 2 ^ 51 → l4 < 2 ^ 51 → weighed l0 l1 l2 l3 l4 < 2 * field
tight_value l0 l1 l2 l3 l4 h0 h1 h2 h3 h4 = omega arith

canonical_value : (l : List ℕ) → AreTight l → AreBelow (2 ^ 51) (canonical l) × (value (canonical l) ≡ value l % field)
unfolding canonical
canonical_value l h =
    reduced_value (2 ^ 51) 19 (2 ^ 53) (2 ^ 255) field weighed radix l (wider (2 ^ 52) (2 ^ 53) l (omega arith) (below_tight l h))
    (tight_value _ _ _ _ _ h.l0 h.l1 h.l2 h.l3 h.l4)

none_below : AreBelow (2 ^ 52) none
none_below = record { l0 = omega arith; l1 = omega arith; l2 = omega arith; l3 = omega arith; l4 = omega arith }

pub encode_value : (a : List ℕ) → AreBelow (2 ^ 52) a → encode a ≡ bytes_of_number (value a % field)
unfolding encode
encode_value a h =
    let sum = add_tight a none h none_below in
    let out = canonical_value (add a none) sum.0 in
    packed_value (canonical (add a none)) out.0 ∙ ap bytes_of_number (out.1 ∙ (sum.1 ∙ ap (λ (n : ℕ). n % field) (plain (value a))))
  where
    plain : (n : ℕ) → n + 0 ≡ n
    plain n = omega arith
