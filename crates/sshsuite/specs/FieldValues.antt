-- The numbers of elements, which are five limbs of 51 bits.

use Rattle.std.proofs.Common.{◌≡◌, ℕ, ◌+◌, ◌*◌, ◌%◌, ◌^◌, ◌<◌, List}
use Rattle.std.specs.Prelude.{slice_index}
use Rattle.sshcurve.specs.FieldNumbers.{field}

-- the number of five limbs
abbrev pub weighed : ℕ → ℕ → ℕ → ℕ → ℕ → ℕ
weighed c0 c1 c2 c3 c4 =
    c0 + 2251799813685248 * c1 + 5070602400912917605986812821504 * c2 + 11417981541647679048466287755595961091061972992 * c3
    + 25711008708143844408671393477458601640355247900524685364822016 * c4

-- the number of five limbs of 51 bits, as a list
abbrev pub value : List ℕ → ℕ
value a = weighed (slice_index a 0) (slice_index a 1) (slice_index a 2) (slice_index a 3) (slice_index a 4)

-- each of five limbs is below the number
pub record AreBelow (n : ℕ) (a : List ℕ) : Type 0 where
  pub l0 : slice_index a 0 < n
  pub l1 : slice_index a 1 < n
  pub l2 : slice_index a 2 < n
  pub l3 : slice_index a 3 < n
  pub l4 : slice_index a 4 < n

-- the limbs are below 2^52, and of this number
pub record HasNumber (a : List ℕ) (n : ℕ) : Type 0 where
  pub below : AreBelow (2 ^ 52) a
  pub number : value a % field ≡ n
