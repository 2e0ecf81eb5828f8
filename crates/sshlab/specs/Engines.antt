-- What the engines `show` and `check` do with their input and output.

use Rattle.std.specs.Prelude.{◌≡◌, ◌<◌, ◌≤◌, ℕ, List, length, take, true, Option, Result, Ok, Err}
use Rattle.std.specs.List.{list_all}
use Rattle.std.specs.Io.KnownBytes.{Appends, Keeps}
use Rattle.sshlab.specs.Recordings.{IsFirstBadLine, is_recorded}
use Rattle.sshlab.specs.TextLines.{lines}
use Rattle.sshlab.specs.declared.tool_fault.ToolFault.{ToolFault}
use Rattle.sshlab.specs.declared.tool_fault.ToolFault.TheVariants as fault
use Rattle.sshlab.specs.declared.scenario.TheConstants.{TEXT_LIMIT}

-- reading the input can fail so
abbrev pub IsInputFault : ToolFault → Type 0
IsInputFault fault.Read = Unit {0}
IsInputFault fault.TooLong = Unit {0}
IsInputFault fault.Memory = Unit {0}
IsInputFault _ = ⊥

-- the bytes are a recording
pub record IsRecording (bytes : List ℕ) : Type 0 where
  pub within : length bytes ≤ TEXT_LIMIT
  pub recorded : list_all is_recorded (lines bytes) ≡ true

-- What the bytes of the input are where it is judged so. A recording of no more bytes than the limit, where the engine ends well or a write
-- failed; else the first bad line has this number, or there are more bytes. Nothing is said where a read failed or memory ran out.
abbrev pub Judges : {T : Type 0} → List ℕ → Result T ToolFault → Type 0
Judges bytes (Ok done) = IsRecording bytes
Judges bytes (Err fault.Write) = IsRecording bytes
Judges bytes (Err (fault.Recording k)) = (length bytes ≤ TEXT_LIMIT) × IsFirstBadLine k (lines bytes)
Judges bytes (Err fault.TooLong) = TEXT_LIMIT < length bytes
Judges bytes (Err fault.Read) = Unit {0}
Judges bytes (Err fault.Memory) = Unit {0}

-- known bytes grew by all of the text where it is done, by a prefix of it where a write failed, and else stay as they were
abbrev pub WritesText : {T : Type 0} → Option (List ℕ) → Option (List ℕ) → Result T ToolFault → List ℕ → Type 0
WritesText old new (Ok done) text = Appends old new text
WritesText old new (Err fault.Write) text = (n : ℕ) × Appends old new (take n text)
WritesText old new (Err _) text = Keeps old new
