-- What a line reader that was given a form holds, and what a caller sees of it.

use Rattle.std.specs.Prelude.{◌≡◌, ℕ, List, []}
use Rattle.sshwire.specs.declared.peer_line_reader.Ending.{Ending}
use Rattle.sshwire.specs.declared.peer_line_reader.Ending.TheVariants as ending
use Rattle.sshwire.specs.declared.peer_line_reader.PeerLineReader.TheInside.{Inside}
use Rattle.sshwire.specs.Lines.{IsUnfinished}
use Rattle.sshwire.specs.LineReaderData.{PeerLineReaderData, Progress, Waits, Finished, Refused}

-- what a caller sees of the fields
abbrev pub progress_of : Ending → ℕ → List ℕ → Progress
progress_of ending.Open left line = Waits left line
progress_of ending.Done left line = Finished
progress_of (ending.Refused code) left line = Refused code

-- the twin of a `PeerLineReader`
abbrev pub peer_line_reader_data : Inside → PeerLineReaderData
peer_line_reader_data r = record { state = record { progress = progress_of r.ending r.left r.line.items; taken = r.taken }; form = r.form }

-- a reader that is open holds an unfinished line, and else nothing
abbrev pub HoldsLine : Ending → List ℕ → Type 0
HoldsLine ending.Open line = IsUnfinished line
HoldsLine _ line = line ≡ []

-- what the fields of a `PeerLineReader` always are: an open one holds an unfinished line, any other nothing
abbrev pub IsInside : Inside → Type 0
IsInside r = HoldsLine r.ending r.line.items
