-- The encoding of the base point's multiple by rows is that by doubling and adding (RFC 8032 section 5.1.4); so is that of verification's sum.

use Rattle.std.proofs.Common.{◌≡◌, ℕ, List, sym, ◌∙◌, Some}
use Rattle.sshcurve.specs.Curve.{Affine, OnCurve, sum, opposite, multiple}
use Rattle.sshcurve.specs.EdwardsNumbers as numbers
use Rattle.sshcurve.specs.EdwardsNumbers.{Coordinates, added, base_multiple, base_numbers, bytes_of_point}
use Rattle.sshcurve.specs.DecodingNumbers.{point_in}
use Rattle.sshcurve.proofs.GroupLemmas.{opposite_on, sum_on}
use Rattle.sshcurve.proofs.MultipleLemmas.{multiple_on}
use Rattle.sshcurve.specs.Represents.{Represents, base}
use Rattle.sshcurve.proofs.CoordinateLemmas.{base_on, base_represents, multiple_represents, number_of_bits, opposite_represents, sum_represents}
use Rattle.sshcurve.proofs.RowLemmas.{base_multiple_represents}
use Rattle.sshcurve.proofs.DecodingLemmas.{bytes_are}
use Rattle.sshcurve.proofs.DecodedLemmas.{read_point}

-- coordinates of one point have one encoding
same_bytes : (c k : Coordinates) (p : Affine) → OnCurve p → Represents c p → Represents k p → bytes_of_point c ≡ bytes_of_point k
same_bytes c k p hp hc hk = bytes_are c p hp hc ∙ sym (bytes_are k p hp hk)

bits_represent : (bytes : List ℕ) (c : Coordinates) (p : Affine) → OnCurve p → Represents c p → Represents (numbers.multiple bytes c) (multiple (number_of_bits bytes 256) p)
unfolding numbers.multiple
bits_represent bytes c p hp hc = multiple_represents bytes c p hp hc 256

-- a multiple of the base point
pub base_multiple_bytes : (bytes : List ℕ) → bytes_of_point (base_multiple bytes) ≡ bytes_of_point (numbers.multiple bytes base_numbers)
base_multiple_bytes bytes =
    same_bytes _ _ (multiple (number_of_bits bytes 256) base) (multiple_on (number_of_bits bytes 256) base base_on) (base_multiple_represents bytes) (bits_represent bytes base_numbers base base_on base_represents)

-- what verification compares with R: [S]B - [k]A, for the point A of a key (RFC 8032 section 5.1.7)
pub verification_bytes : (key : List ℕ) (a : Coordinates) → point_in key ≡ Some a → (answer k : List ℕ)
    → bytes_of_point (added (base_multiple answer) (numbers.multiple k (numbers.opposite a))) ≡ bytes_of_point (added (numbers.multiple answer base_numbers) (numbers.multiple k (numbers.opposite a)))
verification_bytes key a e answer k =
    let read = read_point key a e in
    let s : Affine = multiple (number_of_bits answer 256) base in
    let on = multiple_on (number_of_bits answer 256) base base_on in
    let minus_key : Affine = opposite read.p in
    let on_minus = opposite_on read.p read.on in
    let product : Affine = multiple (number_of_bits k 256) minus_key in
    let on_product = multiple_on (number_of_bits k 256) minus_key on_minus in
    let product_is = bits_represent k (numbers.opposite a) minus_key on_minus (opposite_represents a read.p read.on read.represents) in
    same_bytes _ _ (sum s product) (sum_on s product on on_product)
    (sum_represents _ _ s product on on_product (base_multiple_represents answer) product_is)
    (sum_represents _ _ s product on on_product (bits_represent answer base_numbers base base_on base_represents) product_is)
