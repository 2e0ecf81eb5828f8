-- The frame round the record of an endpoint.

use Rattle.std.specs.Prelude.{◌≡◌, ◌≢◌, ℕ, List, [], ◌∷◌, ◌++◌, length}
use Rattle.rezdolin.specs.declared.frame.FrameFault.{FrameFault}
use Rattle.rezdolin.specs.declared.frame.FrameFault.TheVariants as frame

-- the version, the digest of the parts, and the record
abbrev pub framed : List ℕ → List ℕ → List ℕ
framed digest text = (0 ∷ 0 ∷ 0 ∷ 1 ∷ []) ++ (digest ++ text)

-- bytes are a frame with this digest, of 32 bytes
abbrev pub IsFrameOf : List ℕ → List ℕ → Type 0
IsFrameOf bytes digest = (length digest ≡ 32) × ((text : List ℕ) × (bytes ≡ framed digest text))

-- why there is no record of this digest in bytes: they are no frame, or one with another digest
abbrev pub IsFrameFault : List ℕ → List ℕ → FrameFault → Type 0
IsFrameFault bytes digest frame.Record = (other : List ℕ) → IsFrameOf bytes other → ⊥
IsFrameFault bytes digest frame.Parts = (other : List ℕ) × IsFrameOf bytes other × (other ≢ digest)
