-- What a write answers, and what is written.

use Rattle.std.specs.Prelude.{ℕ, Bool, List, false, not, take, ◌==◌, ◌&&◌, Option, Result, Ok, Err}
use Rattle.std.specs.Io.KnownBytes.{Appends}
use Rattle.sshlab.specs.declared.streams.Broken.{Broken}

-- a write took no byte of some
abbrev pub takes_none : Result ℕ Broken → ℕ → Bool
takes_none (Ok n) len = n == 0 && not (len == 0)
takes_none (Err e) len = false

-- known bytes grew by all of these where it is done, and else by a prefix of them
abbrev pub WritesPrefix : {T : Type 0} → Option (List ℕ) → Option (List ℕ) → Result T Broken → List ℕ → Type 0
WritesPrefix old new (Ok done) bytes = Appends old new bytes
WritesPrefix old new (Err broken) bytes = (n : ℕ) × Appends old new (take n bytes)
