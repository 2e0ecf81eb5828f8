-- What is answered to messages of a channel (RFC 4254).

use Rattle.std.specs.Prelude.{ℕ, ◌==◌, ◌||◌, ◌-◌, Bool, nat_le, nat_lt, List, Option, None, Some, codes, if◌then◌else◌}
use Rattle.std.specs.Str.{bytes_eq}
use Rattle.sshauth.specs.declared.channel.TheConstants.{CHANNEL_CLOSE, CONFIRMATION, DATA, DISCONNECT, EXTENDED_DATA, OPEN_FAILURE, REQUEST, REQUEST_DONE, REQUEST_REFUSED, WINDOW}
use Rattle.sshauth.specs.declared.channel_answers.Stage.{Stage}
use Rattle.sshauth.specs.declared.channel_answers.Stage.TheVariants as stage
use Rattle.sshauth.specs.declared.channel_answers.ClientStep.{ClientStep}
use Rattle.sshauth.specs.declared.channel_answers.ClientStep.TheVariants as step
use Rattle.sshauth.specs.declared.channel_answers.Credit.{Credit}
use Rattle.sshauth.specs.declared.channel_answers.OpenAnswer.{OpenAnswer}
use Rattle.sshauth.specs.declared.channel_answers.OpenAnswer.TheVariants as opened
use Rattle.sshauth.specs.declared.channel_answers.RequestAnswer.{RequestAnswer}
use Rattle.sshauth.specs.declared.channel_answers.RequestAnswer.TheVariants as request

-- a message that no channel has to be open for
abbrev pub step_besides : ℕ → ClientStep
step_besides number = if number == DISCONNECT then step.Disconnected else step.Besides

-- a message on an open channel
abbrev pub step_on_channel : ℕ → ClientStep
step_on_channel number =
    if number == DATA then step.TellOutput
    else if number == EXTENDED_DATA then step.TellError
    else if number == REQUEST then step.LookForEnd
    else if number == CHANNEL_CLOSE then step.Leave
    else step_besides number

-- what a client does about a message: it asks for its command once, as the channel is confirmed, and ends the command's input once
abbrev pub client_step : Stage → ℕ → ClientStep
client_step stage.Opening number =
    if number == CONFIRMATION then step.AskCommand else if number == OPEN_FAILURE then step.NoChannel else step_besides number
client_step stage.Asking number =
    if number == REQUEST_DONE then step.EndInput else if number == REQUEST_REFUSED then step.NoCommand else step_on_channel number
client_step stage.Running number = step_on_channel number

-- half of a window
abbrev pub half_window : ℕ
half_window = 524288

-- what is left of a window is granted anew up to all of it, as soon as it is half or less
abbrev pub refilled : ℕ → Credit
refilled left =
    if nat_lt half_window left then record { left = left; granted = 0 } else record { left = WINDOW; granted = WINDOW - left }

-- a window after so many bytes, where they are no more than it lets through
abbrev pub after_bytes : ℕ → ℕ → Option Credit
after_bytes left count = if nat_le count left then Some (refilled (left - count)) else None

-- a server has one channel at a time, of the type `session`
abbrev pub open_answer : List ℕ → Bool → OpenAnswer
open_answer kind has_one =
    if bytes_eq kind (codes "session") then (if has_one then opened.Second else opened.Confirms) else opened.UnknownType

-- a server answers a command and a shell by its line, takes a terminal and variables, and refuses all else
abbrev pub request_answer : List ℕ → RequestAnswer
request_answer name =
    if bytes_eq name (codes "exec") || bytes_eq name (codes "shell") then request.Finishes
    else if bytes_eq name (codes "pty-req") || bytes_eq name (codes "env") then request.Takes
    else request.Refuses
