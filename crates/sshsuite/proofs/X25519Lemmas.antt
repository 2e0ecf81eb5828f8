-- The code computes X25519 on numbers.

use Rattle.std.proofs.Common.{◌≡◌, ℕ, zero, suc, ◌-◌, ◌%◌, ◌^◌, ◌<◌, inl, inr, Bool, true, false, List, sym, ap, subst, arith, cond, eqb, ltb}
use Rattle.std.proofs.lemmas.Bool.{and_parts, cases_Bool, eqb-true, ltb-true}
use Rattle.std.specs.Prelude.{◌&&◌, slice_index, Option, None, Some}
use Rattle.sshcurve.specs.Bits.{bit_at, number_of_32}
use Rattle.sshsuite.specs.Curve25519.{affine, ladder, ladder_bit, ladder_start, ladder_step, small_of, swapped, times_first, x25519}
use Rattle.sshcurve.specs.X25519Numbers.{clamped, Ladder, climb, exchanged, step, x25519_number}
use Rattle.sshsuite.specs.FieldElement.{decode, scaled}
use Rattle.sshsuite.specs.declared.curve25519.LadderState.{LadderState}
use Rattle.sshsuite.proofs.WordLemmas.{AreWords}
use Rattle.sshsuite.proofs.FieldNumberLemmas.{HasLoose, HasTight, decode_tight, difference_half, encode_number, exchange, half_loose, inverse_number, mul_number, mul_tight, none_tight, one_tight, scaled_tight, square_tight, sum_half, tight_by, tight_loose, tight_number}
use Rattle.sshcurve.specs.FieldBytes.{bytes_of_number}
use Rattle.sshcurve.specs.FieldNumbers.{minus, plus, times, field}
use Rattle.sshsuite.specs.FieldValues.{weighed}

-- the limbs are those of the variables
pub record HasNumbers (s : LadderState) (t : Ladder) : Type 0 where
  pub x2 : HasTight s.x2 t.x2
  pub z2 : HasTight s.z2 t.z2
  pub x3 : HasTight s.x3 t.x3
  pub z3 : HasTight s.z3 t.z3

-- a number that is found small is this one
abbrev IsSmall : Option ℕ → ℕ → Type 0
IsSmall None u = Unit {0}
IsSmall (Some n) u = (n < 2 ^ 32) × (n ≡ u)

small_is : (x1 : List ℕ) (u : ℕ) → HasTight x1 u → IsSmall (small_of x1) u
unfolding small_of
small_is x1 u h =
    let b0 : Bool = ltb (slice_index x1 0) (2 ^ 32) in
    let b4 : Bool = eqb (slice_index x1 4) 0 in
    let b3 : Bool = eqb (slice_index x1 3) 0 in
    let b2 : Bool = eqb (slice_index x1 2) 0 in
    let b1 : Bool = eqb (slice_index x1 1) 0 in
    let all : Bool = b1 && (b2 && (b3 && (b4 && b0))) in
    elim (cases_Bool all) [
      | inl is ↦
          let e1 = and_parts b1 (b2 && (b3 && (b4 && b0))) is in
          let e2 = and_parts b2 (b3 && (b4 && b0)) e1.1 in
          let e3 = and_parts b3 (b4 && b0) e2.1 in
          let e4 = and_parts b4 b0 e3.1 in
          let own = found (slice_index x1 0) (slice_index x1 1) (slice_index x1 2) (slice_index x1 3) (slice_index x1 4) u
          (eqb-true (slice_index x1 1) 0 e1.0) (eqb-true (slice_index x1 2) 0 e2.0) (eqb-true (slice_index x1 3) 0 e3.0) (eqb-true (slice_index x1 4) 0 e4.0)
          (ltb-true (slice_index x1 0) (2 ^ 32) e4.1) h.number in
          subst (λ (b : Bool). IsSmall (cond b (Some (slice_index x1 0)) None) u) (sym is) own
      | inr isnt ↦ subst (λ (b : Bool). IsSmall (cond b (Some (slice_index x1 0)) None) u) (sym isnt) tt
    ]
  where
    found : (l0 l1 l2 l3 l4 u : ℕ) → l1 ≡ 0 → l2 ≡ 0 → l3 ≡ 0 → l4 ≡ 0 → l0 < 2 ^ 32 → weighed l0 l1 l2 l3 l4 % field ≡ u → (l0 < 2 ^ 32) × (l0 ≡ u)
    found l0 l1 l2 l3 l4 u e1 e2 e3 e4 low e = (low, omega (arith, e1, e2, e3, e4, low, e))

first_is : (x1 : List ℕ) (u : ℕ) (small : Option ℕ) (a : List ℕ) (m : ℕ) → HasTight x1 u → IsSmall small u → HasLoose a m → HasTight (times_first x1 small a) (times u m)
unfolding times_first
first_is x1 u None a m h is k = mul_tight x1 a u m (tight_loose x1 u h) k
first_is x1 u (Some n) a m h is k = tight_by (scaled a n) (times n m) (times u m) (ap (λ (i : ℕ). times i m) is.1) (scaled_tight a n m is.0 k)

step_numbers : (s : LadderState) (t : Ladder) (x1 : List ℕ) (u : ℕ) (small : Option ℕ) → HasNumbers s t → HasTight x1 u → IsSmall small u
    → HasNumbers (ladder_step s x1 small) (step t u)
unfolding ladder_step step
step_numbers s t x1 u small h k is =
    let a = half_loose _ _ (sum_half s.x2 s.z2 t.x2 t.z2 h.x2 h.z2) in
    let b = half_loose _ _ (difference_half s.x2 s.z2 t.x2 t.z2 h.x2 h.z2) in
    let aa = square_tight _ _ a in
    let bb = square_tight _ _ b in
    let e = half_loose _ _ (difference_half _ _ _ _ aa bb) in
    let c = half_loose _ _ (sum_half s.x3 s.z3 t.x3 t.z3 h.x3 h.z3) in
    let d = half_loose _ _ (difference_half s.x3 s.z3 t.x3 t.z3 h.x3 h.z3) in
    let da = mul_tight _ _ _ _ d a in
    let cb = tight_by _ _ _ (exchange (minus t.x2 t.z2) (plus t.x3 t.z3)) (mul_tight _ _ _ _ b c) in
    let sum = half_loose _ _ (sum_half _ _ _ _ da cb) in
    let difference = half_loose _ _ (difference_half _ _ _ _ da cb) in
    let factor = half_loose _ _ (sum_half _ _ _ _ aa (scaled_tight _ 121665 _ (omega arith) e)) in
    record {
      x2 = mul_tight _ _ _ _ (tight_loose _ _ aa) (tight_loose _ _ bb);
      z2 = mul_tight _ _ _ _ e factor;
      x3 = square_tight _ _ sum;
      z3 = first_is x1 u small _ _ k is (tight_loose _ _ (square_tight _ _ difference));
    }

swapped_numbers : (s : LadderState) (t : Ladder) → HasNumbers s t → HasNumbers (swapped s) (exchanged t)
swapped_numbers s t h = record { x2 = h.x3; z2 = h.z3; x3 = h.x2; z3 = h.z2 }

-- a step on the points in the order that a bit says
bit_numbers : (b : Bool) (s : LadderState) (t : Ladder) (x1 : List ℕ) (u : ℕ) → HasNumbers s t → HasTight x1 u
    → HasNumbers (cond b (swapped (ladder_step (cond b (swapped s) s) x1 (small_of x1))) (ladder_step (cond b (swapped s) s) x1 (small_of x1)))
    (cond b (exchanged (step (exchanged t) u)) (step t u))
bit_numbers true s t x1 u h k =
    swapped_numbers (ladder_step (swapped s) x1 (small_of x1)) (step (exchanged t) u)
    (step_numbers (swapped s) (exchanged t) x1 u (small_of x1) (swapped_numbers s t h) k (small_is x1 u k))
bit_numbers false s t x1 u h k = step_numbers s t x1 u (small_of x1) h k (small_is x1 u k)

climb_numbers : (scalar x1 : List ℕ) (u n : ℕ) → HasTight x1 u → HasNumbers (ladder scalar x1 n) (climb scalar u n)
unfolding ladder climb ladder_start ladder_bit
climb_numbers scalar x1 u zero k = record { x2 = one_tight; z2 = none_tight; x3 = k; z3 = one_tight }
climb_numbers scalar x1 u (suc n) k =
    let s : LadderState = ladder scalar x1 n in
    let t : Ladder = climb scalar u n in
    let h : HasNumbers s t = climb_numbers scalar x1 u n k in
    bit_numbers (eqb (bit_at scalar (254 - n)) 1) s t x1 u h k

pub x25519_is : (scalar point : List ℕ) → AreWords point
    → x25519 scalar point ≡ bytes_of_number (x25519_number (clamped scalar) (number_of_32 point % 2 ^ 255 % field))
unfolding x25519 affine x25519_number
x25519_is scalar point are =
    let h = climb_numbers (clamped scalar) (decode point) (number_of_32 point % 2 ^ 255 % field) 255 (decode_tight point are) in
    encode_number _ _ (mul_number _ _ _ _ (tight_number _ _ h.x2) (inverse_number _ _ (tight_number _ _ h.z2)))
