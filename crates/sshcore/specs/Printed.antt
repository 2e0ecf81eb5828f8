-- What is printed of a failure.

use Rattle.std.specs.Prelude.{ℕ, List, ◌++◌, codes, decimal}
use Rattle.sshneg.specs.Printed.{field_text}
use Rattle.sshcore.specs.declared.end.Fault.{Fault}
use Rattle.sshcore.specs.declared.end.Fault.TheVariants as fault

-- the failure's code, and after it the number of the message, or the field without a choice (profile)
abbrev pub fault_text : Fault → List ℕ
fault_text fault.Version = codes "F1"
fault_text fault.Length = codes "F2"
fault_text fault.Padding = codes "F3"
fault_text fault.Mac = codes "F4"
fault_text (fault.Malformed number) = codes "F5 " ++ decimal number
fault_text (fault.Unexpected number) = codes "F6 " ++ decimal number
fault_text (fault.Strict number) = codes "F7 " ++ decimal number
fault_text (fault.NoCommon field) = codes "F8 " ++ field_text field
fault_text fault.Exchange = codes "F9"
fault_text fault.HostKey = codes "F10"
fault_text fault.Signature = codes "F11"
fault_text fault.Service = codes "F12"
fault_text fault.TooManyTries = codes "F13"
fault_text fault.NoMoreMethods = codes "F14"
fault_text fault.Memory = codes "F15"
fault_text fault.Cut = codes "F16"
fault_text fault.TooMuchIgnored = codes "F17"
