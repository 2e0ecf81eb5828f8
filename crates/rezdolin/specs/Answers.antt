-- Ends and refusals as numbers.

use Rattle.std.specs.Prelude.{ℕ, length}
use Rattle.sshneg.specs.declared.choice.NoCommon.{NoCommon}
use Rattle.sshneg.specs.declared.choice.NoCommon.TheVariants as field
use Rattle.sshcore.specs.declared.config_fault.ConfigFault.TheVariants as config
use Rattle.sshcore.specs.declared.end.Fault.{Fault}
use Rattle.sshcore.specs.declared.end.Fault.TheVariants as fault
use Rattle.sshcore.specs.ConfigRules.{rule_number}
use Rattle.sshcore.specs.EndData.{Authenticated, Closed, Disconnected, EndData, Failed, Open}
use Rattle.rezdolin.specs.declared.answers.EndNumbers.{EndNumbers}
use Rattle.rezdolin.specs.declared.answers.StepAnswer.{StepAnswer}
use Rattle.rezdolin.specs.declared.answers.TheConstants.{END_AUTHENTICATED, END_CLOSED, END_DISCONNECTED, END_FAILED, END_OPEN, STATUS_ANSWERED, STATUS_CONFIG, STATUS_DRAWS, STATUS_MEMORY, STATUS_PARTS, STATUS_RECORD, STATUS_ROOM, STATUS_UNASKED, STATUS_UNREADABLE}
use Rattle.rezdolin.specs.declared.parts.NoConfig.{NoConfig}
use Rattle.rezdolin.specs.declared.parts.NoConfig.TheVariants as no
use Rattle.rezdolin.specs.declared.steps.Came.{Came}
use Rattle.rezdolin.specs.declared.steps.NoStep.{NoStep}
use Rattle.rezdolin.specs.declared.steps.NoStep.TheVariants as step
use Rattle.rezdolin.specs.declared.texts.InputFault.TheVariants as input

-- the numbers of how an endpoint is: its end, the code of its failure, and a detail of that
abbrev pub three : ℕ → ℕ → ℕ → EndNumbers
three e f d = record { end = e; fault = f; detail = d }

-- a field of the KEXINIT, in its order (RFC 4253 section 7.1)
abbrev pub field_number : NoCommon → ℕ
field_number field.Kex = 1
field_number field.HostKey = 2
field_number field.EncryptionClientToServer = 3
field_number field.EncryptionServerToClient = 4
field_number field.MacClientToServer = 5
field_number field.MacServerToClient = 6
field_number field.CompressionClientToServer = 7
field_number field.CompressionServerToClient = 8

-- a failure, with the number of the message or of the field that some have
abbrev pub fault_numbers : Fault → EndNumbers
fault_numbers fault.Version = three END_FAILED 1 0
fault_numbers fault.Length = three END_FAILED 2 0
fault_numbers fault.Padding = three END_FAILED 3 0
fault_numbers fault.Mac = three END_FAILED 4 0
fault_numbers (fault.Malformed number) = three END_FAILED 5 number
fault_numbers (fault.Unexpected number) = three END_FAILED 6 number
fault_numbers (fault.Strict number) = three END_FAILED 7 number
fault_numbers (fault.NoCommon f) = three END_FAILED 8 (field_number f)
fault_numbers fault.Exchange = three END_FAILED 9 0
fault_numbers fault.HostKey = three END_FAILED 10 0
fault_numbers fault.Signature = three END_FAILED 11 0
fault_numbers fault.Service = three END_FAILED 12 0
fault_numbers fault.TooManyTries = three END_FAILED 13 0
fault_numbers fault.NoMoreMethods = three END_FAILED 14 0
fault_numbers fault.Memory = three END_FAILED 15 0
fault_numbers fault.Cut = three END_FAILED 16 0
fault_numbers fault.TooMuchIgnored = three END_FAILED 17 0

-- how an endpoint has ended
abbrev pub end_numbers : EndData → EndNumbers
end_numbers Open = three END_OPEN 0 0
end_numbers (Authenticated a) = three END_AUTHENTICATED 0 0
end_numbers (Failed f) = fault_numbers f
end_numbers (Closed reason) = three END_CLOSED 0 reason
end_numbers (Disconnected reason) = three END_DISCONNECTED 0 reason

-- an answer without an endpoint: why, and of refused parts the number
abbrev pub no_endpoint : ℕ → ℕ → StepAnswer
no_endpoint why number =
    record { status = why; config = number; end = END_OPEN; fault = 0; detail = 0; used = 0; sent_len = 0; record_len = 0; told_len = 0 }

-- what a room has to have, and nothing else
abbrev pub no_room : ℕ → ℕ → ℕ → StepAnswer
no_room sent bytes told =
    record { status = STATUS_ROOM; config = 0; end = END_OPEN; fault = 0; detail = 0; used = 0; sent_len = sent; record_len = bytes; told_len = told }

-- the answer where there is no config
abbrev pub no_config : NoConfig → StepAnswer
no_config (no.Input input.Unreadable) = no_endpoint STATUS_UNREADABLE 0
no_config (no.Input input.Memory) = no_endpoint STATUS_MEMORY 0
no_config (no.Parts config.Memory) = no_endpoint STATUS_MEMORY 0
no_config (no.Parts code) = no_endpoint STATUS_CONFIG (rule_number code)
no_config (no.Unfit number) = no_endpoint STATUS_CONFIG number

-- the answer where a call doesn't go on
abbrev pub no_step : NoStep → StepAnswer
no_step step.Unreadable = no_endpoint STATUS_UNREADABLE 0
no_step step.Draws = no_endpoint STATUS_DRAWS 0
no_step (step.Config f) = no_config f
no_step step.Record = no_endpoint STATUS_RECORD 0
no_step step.Parts = no_endpoint STATUS_PARTS 0
no_step step.Unasked = no_endpoint STATUS_UNASKED 0
no_step step.Memory = no_endpoint STATUS_MEMORY 0

-- the answer of an endpoint that has come to this
abbrev pub step_answer : Came → StepAnswer
step_answer came = record {
  status = STATUS_ANSWERED;
  config = 0;
  end = came.end.end;
  fault = came.end.fault;
  detail = came.end.detail;
  used = came.used;
  sent_len = length came.sent.items;
  record_len = length came.record.items;
  told_len = length came.told.items;
}

-- the answer to a call whose rooms are too small: how many bytes each of the three has to have
abbrev pub lacks_room : Came → StepAnswer
lacks_room came = no_room (length came.sent.items) (length came.record.items) (length came.told.items)
