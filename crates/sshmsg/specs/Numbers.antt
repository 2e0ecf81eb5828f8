-- The number in front of each message (RFC 4250 section 4.1.2), and what a refusal says.

use Rattle.std.specs.Prelude.{◌≡◌, ◌≢◌, ℕ, List, [], ◌∷◌, None}
use Rattle.sshwire.specs.declared.share_form.ShareForm.{ShareForm}
use Rattle.sshmsg.specs.declared.fault.MsgFault.{MsgFault}
use Rattle.sshmsg.specs.declared.fault.MsgFault.TheVariants.{Malformed, Memory, Unrecognised}
use Rattle.sshmsg.specs.declared.numbers.TheConstants.{SSH_MSG_EXT_INFO, SSH_MSG_KEXINIT, SSH_MSG_USERAUTH_FAILURE}
use Rattle.sshmsg.specs.MessageData.{form_of, layout, MessageData}
use Rattle.sshmsg.specs.Messages.{Spells}

-- the number of a message (RFC 4250 section 4.1.2)
abbrev pub number_of : MessageData → ℕ
number_of m = (layout m).0

-- no message of this number holds a list
abbrev pub HasNoList : ℕ → Type 0
HasNoList n = (n ≢ SSH_MSG_EXT_INFO) × (n ≢ SSH_MSG_KEXINIT) × (n ≢ SSH_MSG_USERAUTH_FAILURE)

-- the number in front of a payload; 0 for no bytes
abbrev pub message_number : List ℕ → ℕ
message_number [] = 0
message_number (n ∷ fields) = n

-- The payload is refused so: it has no bytes; or no message has its number; or one has it, and no message is spelled.
abbrev pub IsRefused : ShareForm → List ℕ → MsgFault → Type 0
IsRefused shares [] fault = fault ≡ Malformed 0
IsRefused shares (n ∷ fields) (Unrecognised number) = (number ≡ n) × (form_of shares n ≡ None)
IsRefused shares (n ∷ fields) (Malformed number) = (number ≡ n) × (form_of shares n ≢ None) × ((m : MessageData) → Spells shares m (n ∷ fields) → ⊥)
IsRefused shares (n ∷ fields) Memory = ⊥
