-- Draws: random bytes of a program.

use Rattle.std.specs.Prelude.{◌≡◌, ◌≢◌, ℕ, List, [], length, replicate}
use Rattle.rezdolin.specs.declared.inputs.SideInput.{SideInput}

-- There are bytes, and all are equal, as those of a buffer are that nobody filled.
abbrev pub IsUniform : List ℕ → Type 0
IsUniform bytes = (byte : ℕ) × (bytes ≢ []) × (bytes ≡ replicate (length bytes) byte)

-- No draw of a side has bytes that are all equal.
pub record AreDrawn (side : SideInput) : Type 0 where
  pub cookie : IsUniform side.cookie.now → ⊥
  pub exchange_random : IsUniform side.exchange_random.now → ⊥
  pub padding_seed : IsUniform side.padding_seed.now → ⊥
