-- The public number of X25519 is (Z + Y) / (Z - Y) of the base point's multiple by rows: one inversion and no ladder (RFC 7748 section 4.1).

use Rattle.std.proofs.Common.{◌≡◌, ◌≢◌, ℕ, zero, suc, ◌+◌, ◌-◌, ◌*◌, ◌<◌, List, [], ◌∷◌, length, refl, sym, ap, ap₂, ◌∙◌, arith}
use Prim.{tt}
use Rattle.sshcurve.specs.Bits.{bit_at}
use Rattle.sshcurve.specs.Scalar.{number_in, number_to}
use Rattle.sshpolynomials.specs.Polynomials.{given, var, num, ◌⊕◌, ◌⊖◌, ◌⊗◌}
use Rattle.sshcurve.specs.FieldNumbers.{field, minus, plus, reciprocal, times}
use Rattle.sshcurve.specs.X25519Numbers.{clamped, x25519_number}
use Rattle.sshcurve.specs.EdwardsNumbers.{Coordinates, base_multiple}
use Rattle.sshcurve.specs.Curve.{Affine, OnCurve, multiple}
use Rattle.sshcurve.proofs.FieldLemmas.{inverse, minus_low, reciprocal_low, times_low, times_nonzero}
use Rattle.sshcurve.proofs.CurveLemmas.{deduced}
use Rattle.sshcurve.proofs.GroupLemmas.{cancelled}
use Rattle.sshcurve.proofs.MultipleLemmas.{multiple_on}
use Rattle.sshcurve.specs.Represents.{Represents, base}
use Rattle.sshcurve.proofs.CoordinateLemmas.{base_on}
use Rattle.sshcurve.proofs.OrderLemmas.{multiple_y}
use Rattle.sshcurve.proofs.StepLemmas.{one_minus_nonzero}
use Rattle.sshcurve.proofs.LadderLemmas.{bits_to, u_of}
use Rattle.sshcurve.proofs.AgreementLemmas.{bit_255, clamped_nonzero, public_is}
use Rattle.sshcurve.proofs.RowLemmas.{rows_represent_number}
use Rattle.sshcurve.proofs.SignatureLemmas.{length_clamped}

-- a scalar whose bit 255 is 0 has the number of its other bits
later_bits : (s : List ℕ) → length s ≡ 32 → bit_at s 255 ≡ 0 → (n : ℕ) → number_to s (suc n) ≡ bits_to s n
unfolding number_to bits_to
later_bits s long top zero =
    let place : 8 * length s - 1 - 0 ≡ 255 = omega (arith, long) in ap (λ (i : ℕ). 2 * 0 + bit_at s i) place ∙ omega (arith, top)
later_bits s long top (suc n) =
    let place : 8 * length s - 1 - suc n ≡ 254 - n = omega (arith, long) in
    ap₂ (λ (k i : ℕ). 2 * k + bit_at s i) (later_bits s long top n) place

scalar_is : (s : List ℕ) → length s ≡ 32 → bit_at s 255 ≡ 0 → number_in s ≡ bits_to s 255
unfolding number_in
scalar_is s long top = let e : 8 * length s ≡ suc 255 = omega (arith, long) in ap (number_to s) e ∙ later_bits s long top 255

-- the u-coordinate of extended coordinates
quotient_of_coordinates : (c : Coordinates) (p : Affine) → OnCurve p → Represents c p → p.y ≢ 1 → times (plus c.z c.y) (reciprocal (minus c.z c.y)) ≡ u_of p
unfolding u_of times plus minus
quotient_of_coordinates c p hp hc not_one =
    let b : ℕ = minus 1 p.y in
    let b_nonzero = one_minus_nonzero p.y hp.y_low not_one in
    let y_is : c.y ≡ times p.y c.z = ap (λ (k : Coordinates). k.y) hc.is in
    let e : minus c.z c.y ≡ times c.z b = ap (minus c.z) y_is
    ∙ deduced (var 1 ⊖ var 0 ⊗ var 1) (var 1 ⊗ (num 1 ⊖ var 0)) [] (p.y ∷ c.z ∷ []) (hp.y_low, (hc.low, tt)) tt refl in
    let f : plus c.z c.y ≡ times c.z (plus 1 p.y) = ap (plus c.z) y_is
    ∙ deduced (var 1 ⊕ var 0 ⊗ var 1) (var 1 ⊗ (num 1 ⊕ var 0)) [] (p.y ∷ c.z ∷ []) (hp.y_low, (hc.low, tt)) tt refl in
    let k : ℕ = times c.z b in
    let k_low : k < field = times_low c.z b in
    let k_nonzero : k ≢ 0 = times_nonzero c.z b hc.low (minus_low 1 p.y) hc.some b_nonzero in
    ap₂ (λ (x z : ℕ). times x (reciprocal z)) f e
    ∙ cancelled (times (times c.z (plus 1 p.y)) (reciprocal k)) (times (plus 1 p.y) (reciprocal b)) k (times_low (times c.z (plus 1 p.y)) (reciprocal k)) (times_low (plus 1 p.y) (reciprocal b)) k_low k_nonzero
    (deduced (var 1 ⊗ (num 1 ⊕ var 0) ⊗ var 2 ⊗ (var 1 ⊗ (num 1 ⊖ var 0))) ((num 1 ⊕ var 0) ⊗ var 3 ⊗ (var 1 ⊗ (num 1 ⊖ var 0)))
    (given (var 1 ⊗ (num 1 ⊕ var 0)) (var 1 ⊗ (num 1 ⊖ var 0) ⊗ var 2) (num 1) ∷ given (num 0 ⊖ (num 1 ⊕ var 0) ⊗ var 1) ((num 1 ⊖ var 0) ⊗ var 3) (num 1) ∷ [])
    (p.y ∷ c.z ∷ reciprocal k ∷ reciprocal b ∷ []) (hp.y_low, (hc.low, (reciprocal_low k, (reciprocal_low b, tt))))
    (inverse k k_low k_nonzero, (inverse b (minus_low 1 p.y) b_nonzero, tt)) refl)

-- the public number of a clamped scalar, by rows
pub public_by_table : (bytes : List ℕ) → length bytes ≡ 32
    → times (plus (base_multiple (clamped bytes)).z (base_multiple (clamped bytes)).y) (reciprocal (minus (base_multiple (clamped bytes)).z (base_multiple (clamped bytes)).y))
    ≡ x25519_number (clamped bytes) 9
public_by_table bytes long =
    let s : List ℕ = clamped bytes in
    let s_long = length_clamped bytes long in
    let n : ℕ = number_in s in
    let same = scalar_is s s_long (bit_255 bytes long) in
    let some = clamped_nonzero bytes long in
    let p : Affine = multiple n base in
    quotient_of_coordinates (base_multiple s) p (multiple_on n base base_on) (rows_represent_number s s_long)
    (λ (e : (multiple n base).y ≡ 1). multiple_y (bits_to s 255) some (ap (λ (k : ℕ). (multiple k base).y) (sym same) ∙ e))
    ∙ ap (λ (k : ℕ). u_of (multiple k base)) same ∙ sym (public_is s some)
