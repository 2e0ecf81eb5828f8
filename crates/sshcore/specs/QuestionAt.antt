-- What a packet asks of an endpoint that keeps this.

use Rattle.std.specs.Prelude.{ℕ, List, Option, None, Result, Ok, Err}
use Rattle.sshmsg.specs.declared.fault.MsgFault.{MsgFault}
use Rattle.sshmsg.specs.MessageData.{MessageData}
use Rattle.sshmsg.specs.Messages.{message_in}
use Rattle.sshmsg.specs.Numbers.{message_number}
use Rattle.sshneg.specs.declared.side.Side.{Side}
use Rattle.sshpacket.specs.Suite.{SuiteData}
use Rattle.sshcore.specs.declared.phase_table.Disposition.{Disposition}
use Rattle.sshcore.specs.declared.phase_table.Disposition.TheVariants as disposition
use Rattle.sshcore.specs.EndpointParts.{ConfigData}
use Rattle.sshcore.specs.KnownBefore.{Known}
use Rattle.sshcore.specs.Plan.{is_waiting}
use Rattle.sshcore.specs.Questions.{QuestionData}
use Rattle.sshcore.specs.StateData.{StateData}
use Rattle.sshcore.specs.Step.{asked_in}
use Rattle.sshcore.specs.Table.{disposition_by}
use Rattle.sshcore.specs.Work.{step}

-- what a message asks; what can't be read asks nothing
abbrev pub message_question : SuiteData → Side → ConfigData → Known → Result MessageData MsgFault → Option QuestionData
message_question m role config known (Ok message) = asked_in (step m role config known message)
message_question m role config known (Err e) = None

-- what a packet asks, by its line of the phase table: only one that is read asks
unfoldable pub disposition_question : SuiteData → Side → ConfigData → Known → Disposition → List ℕ → Option QuestionData
disposition_question m role config known disposition.Reads payload = message_question m role config known (message_in known.shares payload)
disposition_question m role config known _ payload = None

-- What the packet with this payload asks of an endpoint that keeps this, if it is read. A client asks whether the host key is trusted, and
-- for the signature of the next attempt. A server asks whether a request or a query is accepted, and for the signature of the exchange
-- hash. A signature is asked for only where the suite doesn't hold the key. The last try of a query, and what proves nothing, ask nothing
-- (profile).
abbrev pub question_at : SuiteData → Side → ConfigData → StateData → List ℕ → Option QuestionData
question_at m role config old payload =
    disposition_question m role config old.known (disposition_by role old.phase old.known.strict old.guess (is_waiting old.known.left) (message_number payload)) payload
