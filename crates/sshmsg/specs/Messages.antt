-- What it is that a payload spells a message (RFC 4253 sections 7 to 11, RFC 5656 section 4, RFC 4252 sections 5 to 8, and message 7 of RFC 8308
-- section 2.3), and the same as a function.

use Rattle.std.specs.Prelude.{◌≡◌, ℕ, List, [], ◌∷◌, Option, None, Some, Result, Ok, Err}
use Rattle.sshwire.specs.declared.fault.WireFault.{WireFault}
use Rattle.sshwire.specs.declared.share_form.ShareForm.{ShareForm}
use Rattle.sshmsg.specs.declared.fault.MsgFault.{MsgFault}
use Rattle.sshmsg.specs.declared.fault.MsgFault.TheVariants.{Malformed, Unrecognised}
use Rattle.sshmsg.specs.MessageData.{Form, MessageData, form_of}
use Rattle.sshmsg.specs.Form.{FillsForm, form_at}

-- the payload spells the message: its number, and fields that fill the number's form
pub record Spells (shares : ShareForm) (content : MessageData) (payload : List ℕ) : Type 0 where
  pub number : ℕ
  pub form : Form
  pub fields : List ℕ
  pub known : form_of shares number ≡ Some form
  pub fills : FillsForm form content fields
  pub payload_is : payload ≡ number ∷ fields

-- a form that was read to the end, or the number is malformed
abbrev pub whole_form : ℕ → Result (MessageData × List ℕ) WireFault → Result MessageData MsgFault
whole_form n (Ok (content, [])) = Ok content
whole_form n (Ok (content, b ∷ bs)) = Err (Malformed n)
whole_form n (Err e) = Err (Malformed n)

-- what the fields say in the form of this number; a number without a form is refused as unrecognised
abbrev pub in_form : ℕ → List ℕ → Option Form → Result MessageData MsgFault
in_form n fields None = Err (Unrecognised n)
in_form n fields (Some form) = whole_form n (form_at form fields)

-- the message that a payload spells, or why there is none: no row of its number, or a row and no message
unfoldable pub message_in : ShareForm → List ℕ → Result MessageData MsgFault
message_in shares [] = Err (Malformed 0)
message_in shares (n ∷ fields) = in_form n fields (form_of shares n)
