-- What a call of `LineReader::feed` answers, or of `PeerLineReader::feed` by its form.

use Rattle.std.specs.Prelude.{◌≡◌, ◌≢◌, ℕ, ◌+◌, ◌≤◌, ◌⊎◌, List, ◌++◌, length, take, drop, Option, None, Some, Result, Ok, Err, Vec}
use Rattle.sshwire.specs.declared.fault.WireFault.{WireFault}
use Rattle.sshwire.specs.declared.fault.WireFault.TheVariants.{Memory}
use Rattle.sshwire.specs.declared.line_reader.LineStep.{LineStep}
use Rattle.sshwire.specs.declared.line_reader.LineStep.TheVariants as step
use Rattle.sshwire.specs.declared.line_reader.LineReader.TheInside.{Inside}
use Rattle.sshwire.specs.declared.peer_line_reader.PeerStep.{PeerStep}
use Rattle.sshwire.specs.declared.peer_line_reader.PeerStep.TheVariants as peer
use Rattle.sshwire.specs.declared.line_form.LineForm.{LineForm}
use Rattle.sshwire.specs.declared.line_form.LineForm.TheVariants.{Strict}
use Rattle.sshwire.specs.Lines.{LineOpen, LineRefusedBy, PreambleBy}
use Rattle.sshwire.specs.Reading.{Reading, More, Got, Stops, TakesLine}
use Rattle.sshwire.specs.LineReaderData.{LineReaderData, Progress, Waits, Finished, Refused}

-- what a caller sees of the one field: how the reader stands, without its form
abbrev pub line_reader_data : Inside → LineReaderData
line_reader_data r = r.lines.state

-- what the one field of a `LineReader` always is: a reader of the strict form
abbrev pub IsInside : Inside → Type 0
IsInside r = r.lines.form ≡ Strict

-- what an open reader answers whose unfinished line and piece have this reading
abbrev pub FeedAnswer : Reading → List ℕ → Result LineStep WireFault → LineReaderData → Type 0
FeedAnswer r piece (Ok step.More) new =
    (left : ℕ) × (line : List ℕ) × (r ≡ More left line) × (new.progress ≡ Waits left line) × (new.taken ≡ length piece)
FeedAnswer r piece (Ok (step.Done version used)) new =
    (r ≡ Got version (drop used piece)) × (new.progress ≡ Finished) × (new.taken ≡ used)
FeedAnswer r piece (Err code) new = Stops code r (drop new.taken piece) × (new.progress ≡ Refused code)

-- what it answers by a form, with the bytes before the LF of a version line
abbrev pub TakeAnswer : {Z : Type 0} → LineForm → Reading → List ℕ → Result (Option (Vec ℕ Z)) WireFault → LineReaderData → Type 0
TakeAnswer form r piece (Ok None) new =
    (left : ℕ) × (line : List ℕ) × (r ≡ More left line) × (new.progress ≡ Waits left line) × (new.taken ≡ length piece)
TakeAnswer form r piece (Ok (Some line)) new = TakesLine form r line.items (drop new.taken piece) × (new.progress ≡ Finished)
TakeAnswer form r piece (Err code) new = Stops code r (drop new.taken piece) × (new.progress ≡ Refused code)

-- how that leaves the reader
abbrev pub TakeLeaves : {Z : Type 0} → Result (Option (Vec ℕ Z)) WireFault → Progress → Type 0
TakeLeaves (Ok None) progress = progress ≢ Finished
TakeLeaves (Ok (Some line)) progress = progress ≡ Finished
TakeLeaves (Err code) progress = progress ≡ Refused code

-- an answer of `PeerLineReader::feed` in the words of `LineReader::feed`: more, or a text and how many bytes were used
abbrev pub step_of : PeerStep → LineStep
step_of peer.More = step.More
step_of (peer.Done version used) = step.Done version used

-- an answer of `PeerLineReader::feed`, as `LineReader::feed` has it
abbrev pub answer_of : Result PeerStep WireFault → Result LineStep WireFault
answer_of (Ok s) = Ok (step_of s)
answer_of (Err code) = Err code

-- the refusal is given again, and nothing is used (profile)
pub record IsAgain (code : WireFault) (result : Result LineStep WireFault) (new : LineReaderData) : Type 0 where
  pub answer : result ≡ Err code
  pub for_good : new.progress ≡ Refused code
  pub nothing_used : new.taken ≡ 0

-- a reader of at most k other lines has received these bytes, and neither a version line nor a refusal has come
abbrev pub StandsOpen : ℕ → List ℕ → Progress → Type 0
StandsOpen k received (Waits left line) = LineOpen k received left line
StandsOpen k received Finished = ⊥
StandsOpen k received (Refused code) = ⊥

-- A refusal tells its place, the last byte used, unless memory ran out (profile).
abbrev pub TellsRefusalBy : LineForm → ℕ → List ℕ → List ℕ → WireFault → LineReaderData → Type 0
TellsRefusalBy form k received piece code new =
    code ≢ Memory → (place : ℕ) × (place + 1 ≡ length received + new.taken) × LineRefusedBy form k (received ++ piece) place code

-- a refusal is that of its place, the last byte used, by the strict form, unless memory ran out (profile)
abbrev pub TellsRefusal : ℕ → List ℕ → List ℕ → WireFault → LineReaderData → Type 0
TellsRefusal k received piece code new = TellsRefusalBy Strict k received piece code new

-- no place of the bytes is refused (RFC 4253 section 4.2)
abbrev pub NoneRefusedBy : LineForm → ℕ → List ℕ → Type 0
NoneRefusedBy form k bytes = (place : ℕ) (code : WireFault) → LineRefusedBy form k bytes place code → ⊥

-- no place of the bytes is refused, by the strict form (RFC 4253 section 4.2)
abbrev pub NoneRefused : ℕ → List ℕ → Type 0
NoneRefused k bytes = NoneRefusedBy Strict k bytes

-- what the answer says of the bytes received so far and the piece: still open; a preamble that ends at the last byte used; or refused (RFC
-- 4253 section 4.2)
abbrev pub PreambleAnswerBy : LineForm → ℕ → List ℕ → List ℕ → Result LineStep WireFault → LineReaderData → Type 0
PreambleAnswerBy form k received piece (Ok step.More) new = StandsOpen k (received ++ piece) new.progress × (new.taken ≡ length piece)
PreambleAnswerBy form k received piece (Ok (step.Done version used)) new =
    (used ≤ length piece) × PreambleBy form k version (received ++ take used piece) × (new.progress ≡ Finished) × (new.taken ≡ used)
PreambleAnswerBy form k received piece (Err code) new = TellsRefusalBy form k received piece code new × (new.progress ≡ Refused code)

-- what the answer says of the bytes received so far and the piece, by the strict form (RFC 4253 section 4.2)
abbrev pub PreambleAnswer : ℕ → List ℕ → List ℕ → Result LineStep WireFault → LineReaderData → Type 0
PreambleAnswer k received piece result new = PreambleAnswerBy Strict k received piece result new

-- No other answer comes than the one that the bytes received so far and the piece have, unless memory runs out (RFC 4253 section 4.2).
pub record OnlyPreambleAnswerBy (form : LineForm) (k : ℕ) (received piece : List ℕ) (result : Result LineStep WireFault) : Type 0 where
  pub more : (left : ℕ) (line : List ℕ) → LineOpen k (received ++ piece) left line → (result ≡ Ok step.More) ⊎ (result ≡ Err Memory)
  pub done : (used : ℕ) (text : List ℕ) → used ≤ length piece → PreambleBy form k text (received ++ take used piece)
      → (result ≡ Ok (step.Done text used)) ⊎ (result ≡ Err Memory)
  pub refused : (place : ℕ) (code : WireFault) → LineRefusedBy form k (received ++ piece) place code → (result ≡ Err code) ⊎ (result ≡ Err Memory)

-- no other answer is returned than the one that all the bytes have, by the strict form, unless memory runs out (RFC 4253 section 4.2)
abbrev pub OnlyPreambleAnswer : ℕ → List ℕ → List ℕ → Result LineStep WireFault → Type 0
OnlyPreambleAnswer k received piece result = OnlyPreambleAnswerBy Strict k received piece result

-- After More the reader may be fed again, after Done not; after a refusal it stays refused.
abbrev pub Leaves : Result LineStep WireFault → Progress → Type 0
Leaves (Ok step.More) progress = progress ≢ Finished
Leaves (Ok (step.Done version used)) progress = progress ≡ Finished
Leaves (Err code) progress = progress ≡ Refused code
