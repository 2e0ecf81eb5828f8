-- What a reader of a record reads: what was written, wherever it stands.

use Rattle.std.specs.Prelude.{◌≡◌, List, ℕ}
use Rattle.sshcore.specs.declared.record_reading.RecordReader.{RecordReader}

-- Of the text of something that can be written that thing is read, and what follows it is left; nothing is found wrong.
abbrev pub Reads : {X : Type 0} → (X → List ℕ → List ℕ) → (X → Type 0) → RecordReader → X → RecordReader → Type 0
Reads {X} text fits old result new =
    (x : X) (rest : List ℕ) → fits x → old.reader ≡ text x rest → (result ≡ x) × (new.reader ≡ rest) × (new.is_whole ≡ old.is_whole)
