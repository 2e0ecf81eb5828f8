-- What a step comes to, before it is sent.

use Rattle.std.specs.Prelude.{◌≡◌, Bool, List, ℕ, Option, None, Some}
use Rattle.sshmsg.specs.Numbers.{message_number}
use Rattle.sshpacket.specs.KeysData.{KeysData}
use Rattle.sshpacket.specs.Stream.{Units}
use Rattle.sshcore.specs.declared.reply.Reply as reply
use Rattle.sshcore.specs.declared.reply.Switch as switch
use Rattle.sshcore.specs.Brings.{IsOngoing, Moves}
use Rattle.sshcore.specs.EndData.{Reply}
use Rattle.sshcore.specs.EndpointParts.{Setup}
use Rattle.sshcore.specs.Exchange.{keys_by}
use Rattle.sshcore.specs.Plan.{is_waiting}
use Rattle.sshcore.specs.Replies.{disposition_reply}
use Rattle.sshcore.specs.ReplyView.{answers_of, replied}
use Rattle.sshcore.specs.Standing.{exchange_received}
use Rattle.sshcore.specs.StateData.{StateData}
use Rattle.sshcore.specs.Table.{disposition_by}

-- Where keys are switched, these are the next ones, the endpoint is strict or not, and nothing was sealed before (RFC 4253 section
-- 7.3, OpenSSH PROTOCOL section 1.10).
abbrev pub SwitchesTo : Option switch.Switch → Bool → KeysData → StateData → Type 0
SwitchesTo None strict next kept = Unit {0}
SwitchesTo (Some s) strict next kept = (s.keys ≡ next) × (kept.known.strict ≡ strict) × (kept.sending.keys ≡ None)

-- What a step comes to: the reply of the definitions, the keys of the exchange where they are switched, and where the session goes on
-- the endpoint stands after the packet. Nothing is sent yet.
pub record Comes (setup : Setup) (old new : StateData) (payload : List ℕ) (made : reply.Reply) (r : Reply) : Type 0 where
  pub reply_is : replied (answers_of made) new.end ≡ r
  pub switches : SwitchesTo made.switch old.known.strict (keys_by setup.suite old.known.algorithms (exchange_received setup.suite setup.role setup.config old.known payload) setup.role) new
  pub unsent : new.sending ≡ old.sending
  pub moves : IsOngoing new.end → Moves setup payload old new

-- the same of a step that changes no keys
abbrev pub ComesPlainly : Setup → StateData → StateData → List ℕ → Units → Reply → Type 0
ComesPlainly setup old new payload answers r = Comes setup old new payload (record { answers = answers; switch = None }) r

-- What a step comes to at a packet with this sequence number: the reply of its line of the phase table.
abbrev pub ComesTo : Setup → StateData → StateData → ℕ → List ℕ → reply.Reply → Type 0
ComesTo setup old new packet payload made =
    Comes setup old new payload made
    (disposition_reply setup old.known packet (disposition_by setup.role old.phase old.known.strict old.guess (is_waiting old.known.left) (message_number payload)) payload)
