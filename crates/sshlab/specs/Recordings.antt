-- What a recording says.

use Rattle.std.specs.Prelude.{◌≡◌, ◌+◌, ℕ, List, [], ◌∷◌, ◌++◌, codes, take, drop, length, ◌==◌, ◌||◌, Bool, true, false, Option, Some, None, is_some, option_map, if◌then◌else◌}
use Rattle.std.specs.List.{flat_map, list_all}
use Rattle.std.specs.Str.{bytes_eq}
use Rattle.std.specs.Result.{result_ok}
use Rattle.hex.specs.Hex.{decode_of}
use Rattle.sshneg.specs.declared.side.Side.{Side}
use Rattle.sshneg.specs.declared.side.Side.TheVariants.{Client, Server}
use Rattle.sshlab.specs.TextLines.{lines}
use Rattle.sshlab.specs.declared.tool_fault.ToolFault.{ToolFault}
use Rattle.sshlab.specs.declared.tool_fault.ToolFault.TheVariants as fault

-- what a side sent by these digits: two in either case for each of at least one byte
abbrev pub sent_by : Side → List ℕ → Option (Side × List ℕ)
sent_by side [] = None
sent_by side (digit ∷ digits) = option_map (λ bytes. (side, bytes)) (result_ok (decode_of (digit ∷ digits)))

-- What a line says: `c HEX` are bytes that the client sent, `s HEX` those that the server sent, at least one byte, each as two hexadecimal
-- digits. Any other line says nothing.
unfoldable pub piece_of : List ℕ → Option (Side × List ℕ)
piece_of line =
    if bytes_eq (take 2 line) (codes "c ") then sent_by Client (drop 2 line)
    else if bytes_eq (take 2 line) (codes "s ") then sent_by Server (drop 2 line) else None

-- a recording may have the line: it is empty, or says what a side sent
abbrev pub is_recorded : List ℕ → Bool
is_recorded line = (length line == 0) || is_some (piece_of line)

-- the bytes that a line says this side sent; none, if the line is empty or of the other side
abbrev pub of_side : Side → Option (Side × List ℕ) → List ℕ
of_side Client (Some (Client, bytes)) = bytes
of_side Server (Some (Server, bytes)) = bytes
of_side _ _ = []

-- the bytes that a side sent by a line
abbrev pub sent : Side → List ℕ → List ℕ
sent side line = of_side side (piece_of line)

-- all that a side sent, in the order of the lines
abbrev pub stream : Side → List ℕ → List ℕ
stream side text = flat_map (sent side) (lines text)

-- Line k, counted from 1, is the first that no recording may have.
pub record IsFirstBadLine (k : ℕ) (ls : List (List ℕ)) : Type 0 where
  pub before : List (List ℕ)
  pub line : List ℕ
  pub after : List (List ℕ)
  pub is : ls ≡ before ++ line ∷ after
  pub place : k ≡ length before + 1
  pub readable : list_all is_recorded before ≡ true
  pub bad : is_recorded line ≡ false

-- why lines are no recording; running out of memory has no cause in them
abbrev pub IsRecordingCause : List (List ℕ) → ToolFault → Type 0
IsRecordingCause ls (fault.Recording k) = IsFirstBadLine k ls
IsRecordingCause ls fault.Memory = Unit {0}
IsRecordingCause ls _ = ⊥
