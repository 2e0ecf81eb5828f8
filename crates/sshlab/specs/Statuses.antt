-- The program's exit statuses: 0 done, 1 not complete, 2 bad words or input, 3 out of memory, 4 a read or write that failed.

use Rattle.std.specs.Prelude.{◌≡◌, ◌⊎◌, ℕ, List, Some, String, codes, map, string_bytes}
use Rattle.std.specs.List.{slice_get}
use Rattle.std.specs.declared.alloc.Global.{Global}
use Rattle.std.specs.declared.io.ErrorKind.{ErrorKind}
use Rattle.std.specs.declared.io.ErrorKind.TheVariants.{OutOfMemory}
use Rattle.sshlab.specs.declared.command_fault.CommandFault.{CommandFault}
use Rattle.sshlab.specs.declared.command_fault.CommandFault.TheVariants as command
use Rattle.sshlab.specs.declared.scenario.ScenarioFault.TheVariants as scenario
use Rattle.sshlab.specs.declared.request.Request.{Request}
use Rattle.sshlab.specs.declared.request.Request.TheVariants as asks
use Rattle.sshlab.specs.declared.tool_fault.ToolFault.TheVariants as fault

-- the exit status of a failure of the program
abbrev pub status_of : CommandFault → ℕ
status_of command.Words = 2
status_of command.Version = 2
status_of command.Schedule = 2
status_of (command.Scenario scenario.Memory) = 3
status_of (command.Scenario cause) = 2
status_of (command.Tool fault.Read) = 4
status_of (command.Tool fault.Write) = 4
status_of (command.Tool fault.Memory) = 3
status_of (command.Tool fault.TooLong) = 2
status_of (command.Tool (fault.Recording k)) = 2
status_of command.Memory = 3

-- neither the input nor the output is its cause
abbrev pub IsNoToolFault : CommandFault → Type 0
IsNoToolFault command.Words = Unit {0}
IsNoToolFault command.Version = Unit {0}
IsNoToolFault command.Schedule = Unit {0}
IsNoToolFault (command.Scenario cause) = Unit {0}
IsNoToolFault (command.Tool cause) = ⊥
IsNoToolFault command.Memory = Unit {0}

-- the program's words begin with this one
abbrev pub IsFirstWord : List ℕ → List (String Global) → Type 0
IsFirstWord name words = slice_get (map string_bytes words) 0 ≡ Some name

-- what the first word asks for
abbrev pub IsAsked : List (String Global) → Request → Type 0
IsAsked words (asks.Greet client server schedule) = IsFirstWord (codes "greet") words
IsAsked words (asks.Predict session) = IsFirstWord (codes "predict") words
IsAsked words (asks.Run session) = IsFirstWord (codes "run") words
IsAsked words asks.Show = IsFirstWord (codes "show") words
IsAsked words asks.Check = IsFirstWord (codes "check") words

-- two sides are to greet each other: no input is read
abbrev pub IsGreet : Request → Type 0
IsGreet (asks.Greet client server schedule) = Unit {0}
IsGreet _ = ⊥

-- the first word asks for something of a scenario or of a recording, which is read from the input
abbrev pub AsksForInput : List (String Global) → Type 0
AsksForInput words = IsFirstWord (codes "predict") words ⊎ IsFirstWord (codes "run") words ⊎ IsFirstWord (codes "show") words ⊎ IsFirstWord (codes "check") words

-- the words can't be had, since memory ran out or for another cause
abbrev pub words_status : ErrorKind → ℕ
words_status OutOfMemory = 3
words_status _ = 2
