-- What is seen by computing: of each byte its image by the circuit.

use Rattle.std.proofs.Common.{◌≡◌, ℕ, suc, ◌*◌, ◌/◌, ◌%◌, ◌^◌, ◌<◌, Bool, true, List, [], ◌∷◌, refl, ap, ◌∙◌, cond, eqb, ltb}
use Rattle.std.proofs.lemmas.Bool.{eqb-true, ltb-true}
use Rattle.std.specs.Prelude.{bit_xor, slice_index}
use Rattle.sshsuite.specs.AesBytes.{byte_inverse, byte_mapped, byte_product, byte_product_to, byte_turned, s_box, xtime, xtime_by}
use Rattle.sshsuite.specs.SBox.{circuit}
use Rattle.sshsuite.proofs.TestLemmas.{all_below, at_each}

-- the bits of a byte
unfoldable pub byte_planes : ℕ → List ℕ
byte_planes b =
    b / 2 ^ 0 % 2 ∷ b / 2 ^ 1 % 2 ∷ b / 2 ^ 2 % 2 ∷ b / 2 ^ 3 % 2 ∷ b / 2 ^ 4 % 2 ∷ b / 2 ^ 5 % 2 ∷ b / 2 ^ 6 % 2 ∷ b / 2 ^ 7 % 2 ∷ []

-- the byte of bits
unfoldable pub byte_joined : List ℕ → ℕ
byte_joined p =
    bit_xor (bit_xor (bit_xor (bit_xor (bit_xor (bit_xor (bit_xor (slice_index p 0) (slice_index p 1 * 2 ^ 1))
    (slice_index p 2 * 2 ^ 2)) (slice_index p 3 * 2 ^ 3)) (slice_index p 4 * 2 ^ 4))
    (slice_index p 5 * 2 ^ 5)) (slice_index p 6 * 2 ^ 6)) (slice_index p 7 * 2 ^ 7)

fits : ℕ → Bool
fits b = eqb (bit_xor (byte_joined (circuit (byte_planes b))) 0x63) (s_box b)

all_fit : all_below 256 fits ≡ true
unfolding fits byte_joined circuit byte_planes s_box byte_mapped byte_turned byte_product byte_inverse byte_product_to xtime_by xtime
all_fit = refl

pub byte_by_circuit : (b : ℕ) → b < 256 → bit_xor (byte_joined (circuit (byte_planes b))) 0x63 ≡ s_box b
unfolding fits
byte_by_circuit b h = eqb-true (bit_xor (byte_joined (circuit (byte_planes b))) 0x63) (s_box b) (at_each 256 fits all_fit b h)

-- its image has bits
has_bit : ℕ → ℕ → Bool
has_bit b k = ltb (slice_index (circuit (byte_planes b)) k) 2

has_bits : ℕ → Bool
has_bits b = all_below 8 (has_bit b)

all_bits : all_below 256 has_bits ≡ true
unfolding has_bits has_bit circuit byte_planes
all_bits = refl

pub image_bit : (b k : ℕ) → b < 256 → k < 8 → slice_index (circuit (byte_planes b)) k < 2
unfolding has_bits has_bit
image_bit b k h low = ltb-true (slice_index (circuit (byte_planes b)) k) 2 (at_each 8 (has_bit b) (at_each 256 has_bits all_bits b h) k low)

-- the bits of a byte are it
is_own : ℕ → Bool
is_own b = eqb (byte_joined (byte_planes b)) b

all_own : all_below 256 is_own ≡ true
unfolding is_own byte_joined byte_planes
all_own = refl

pub own_bits : (b : ℕ) → b < 256 → byte_joined (byte_planes b) ≡ b
unfolding is_own
own_bits b h = eqb-true (byte_joined (byte_planes b)) b (at_each 256 is_own all_own b h)

-- each bit of the image, with the constant
bit_fits : ℕ → ℕ → Bool
bit_fits b k = eqb (bit_xor (slice_index (circuit (byte_planes b)) k) (0x63 / 2 ^ k % 2)) (s_box b / 2 ^ k % 2)

bits_fit : ℕ → Bool
bits_fit b = all_below 8 (bit_fits b)

all_bits_fit : all_below 256 bits_fit ≡ true
unfolding bits_fit bit_fits circuit byte_planes s_box byte_mapped byte_turned byte_product byte_inverse byte_product_to xtime_by xtime
all_bits_fit = refl

pub image_at : (b k : ℕ) → b < 256 → k < 8 → bit_xor (slice_index (circuit (byte_planes b)) k) (0x63 / 2 ^ k % 2) ≡ s_box b / 2 ^ k % 2
unfolding bits_fit bit_fits
image_at b k h low =
    eqb-true (bit_xor (slice_index (circuit (byte_planes b)) k) (0x63 / 2 ^ k % 2)) (s_box b / 2 ^ k % 2)
    (at_each 8 (bit_fits b) (at_each 256 bits_fit all_bits_fit b h) k low)

-- each bit of a byte times x: the lowest is the highest before, the others the one below, to which the highest is added where 0x1b has a bit
first_fits : ℕ → Bool
first_fits b = eqb (b / 2 ^ 7 % 2) (xtime b / 2 ^ 0 % 2)

all_first_fit : all_below 256 first_fits ≡ true
unfolding first_fits xtime
all_first_fit = refl

pub xtime_first : (b : ℕ) → b < 256 → b / 2 ^ 7 % 2 ≡ xtime b / 2 ^ 0 % 2
unfolding first_fits
xtime_first b h = eqb-true (b / 2 ^ 7 % 2) (xtime b / 2 ^ 0 % 2) (at_each 256 first_fits all_first_fit b h)

next_bit : ℕ → ℕ → Bool → ℕ
next_bit b k c = cond c (bit_xor (b / 2 ^ k % 2) (b / 2 ^ 7 % 2)) (b / 2 ^ k % 2)

next_fits : ℕ → ℕ → Bool
next_fits b k = eqb (next_bit b k (eqb (0x1b / 2 ^ suc k % 2) 1)) (xtime b / 2 ^ suc k % 2)

nexts_fit : ℕ → Bool
nexts_fit b = all_below 7 (next_fits b)

all_nexts_fit : all_below 256 nexts_fit ≡ true
unfolding nexts_fit next_fits next_bit xtime
all_nexts_fit = refl

pub xtime_next : (c : Bool) (b k : ℕ) → c ≡ eqb (0x1b / 2 ^ suc k % 2) 1 → b < 256 → k < 7
    → cond c (bit_xor (b / 2 ^ k % 2) (b / 2 ^ 7 % 2)) (b / 2 ^ k % 2) ≡ xtime b / 2 ^ suc k % 2
unfolding nexts_fit next_fits next_bit
xtime_next c b k e h low =
    ap (next_bit b k) e
    ∙ eqb-true (next_bit b k (eqb (0x1b / 2 ^ suc k % 2) 1)) (xtime b / 2 ^ suc k % 2) (at_each 7 (next_fits b) (at_each 256 nexts_fit all_nexts_fit b h) k low)
