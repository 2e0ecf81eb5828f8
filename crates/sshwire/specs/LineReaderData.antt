-- What a caller sees of a line reader.

use Rattle.std.specs.Prelude.{ℕ, List, [], length}
use Rattle.sshwire.specs.declared.fault.WireFault.{WireFault}
use Rattle.sshwire.specs.declared.line_form.LineForm.{LineForm}

-- how far a line reader is: it has so many other lines left and holds an unfinished line, or has answered a version line, or has refused
pub data Progress : Type 0 where
  Waits : ℕ → List ℕ → Progress
  Finished : Progress
  Refused : WireFault → Progress

-- what contracts see of a line reader: its progress, and how many bytes the last call used
pub record LineReaderData : Type 0 where
  pub progress : Progress
  pub taken : ℕ

-- what contracts see of a reader that was given a form: what they see of a line reader, and the form
pub record PeerLineReaderData : Type 0 where
  pub state : LineReaderData
  pub form : LineForm

-- the bytes of the unfinished line that a reader of this progress holds, else none
abbrev pub unfinished : Progress → List ℕ
unfinished (Waits left line) = line
unfinished Finished = []
unfinished (Refused code) = []

-- how many other lines a reader of this progress still accepts; none once it has answered or refused
abbrev pub others_left : Progress → ℕ
others_left (Waits left line) = left
others_left Finished = 0
others_left (Refused code) = 0

-- how many bytes a reader of this progress holds: those of the unfinished line, else none
abbrev pub held : Progress → ℕ
held (Waits left line) = length line
held Finished = 0
held (Refused code) = 0
