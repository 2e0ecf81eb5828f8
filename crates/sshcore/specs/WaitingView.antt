-- What contracts see of a packet that waits for its answer.

use Rattle.std.specs.Prelude.{Option, None, Some}
use Rattle.sshcore.specs.declared.asking_waiting.Waiting.{Waiting}
use Rattle.sshcore.specs.AskingData.{WaitingData}
use Rattle.sshcore.specs.QuestionsView.{pending_question}

-- the twin of a packet that waits for an answer
abbrev pub waiting_data : Waiting → WaitingData
waiting_data w = record { payload = w.payload.items; question = pending_question w.pending; pending = w.pending }

-- the twin of the packet that waits, if one does
abbrev pub waiting_of : Option Waiting → Option WaitingData
waiting_of None = None
waiting_of (Some w) = Some (waiting_data w)
