-- The laws of the crates below that the lemmas here rest on.

use Rattle.std.proofs.Common.{◌≡◌, ◌≢◌, ℕ, true, List, Ok}
use Rattle.std.specs.Prelude.{◌↔◌}
use Rattle.sshwire.specs.declared.share_form.ShareForm.{ShareForm}
use Rattle.sshmsg.specs.MessageData.{KexInitData, MessageData}
use Rattle.sshmsg.specs.Messages.{message_in}
use Rattle.sshmsg.specs.Numbers.{message_number, number_of}
use Rattle.sshneg.specs.Markers.{IsRightGuess}
use Rattle.sshneg.specs.Strictness.{is_right_guess}

pub record Below : Type 0 where
  -- a payload begins with the number of its message
  pub numbers : (form : ShareForm) (payload : List ℕ) (c : MessageData) → message_in form payload ≡ Ok c → message_number payload ≡ number_of c
  -- the form of shares decides how 30 and 31 are read, and nothing else
  pub alike : (form other : ShareForm) (payload : List ℕ) → message_number payload ≢ 30 → message_number payload ≢ 31 → message_in form payload ≡ message_in other payload
  -- the test of a guess decides whether it is right
  pub right : (client server : KexInitData) → (is_right_guess client server ≡ true) ↔ IsRightGuess client server
