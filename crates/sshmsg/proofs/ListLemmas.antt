-- Messages that hold a list: read to the end before memory is asked for.

use Rattle.std.proofs.Common.{◌≡◌, ℕ, ◌+◌, ◌-◌, ◌<◌, List, [], ◌∷◌, ◌++◌, length, Result, Ok, refl, sym, ◌∙◌, arith}
use Rattle.sshwire.specs.declared.fault.WireFault.{WireFault}
use Rattle.sshwire.specs.declared.share_form.ShareForm.{ShareForm}
use Rattle.sshmsg.specs.MessageData.{ext_info, extensions, form_of, kexinit, MessageData, userauth_failure}
use Rattle.sshmsg.specs.Form.{form_at}
use Rattle.sshmsg.specs.Lists.{pair_at}
use Rattle.sshmsg.specs.Messages.{message_in, whole_form}
use Rattle.sshmsg.specs.View.{HoldsList}
use Rattle.sshmsg.proofs.ExtensionLemmas.{one_pair}

-- what was read with nothing after it is the message
pub read_whole : (n : ℕ) (r : Result (MessageData × List ℕ) WireFault) (m : MessageData) (rest : List ℕ) → r ≡ Ok (m, rest) → length rest ≡ 0 → whole_form n r ≡ Ok m
read_whole n r m [] e none = rw e refl
read_whole n r m (b ∷ bs) e none = absurd (omega (arith, none))

-- and so running out of memory is told of a message
pub out_of_memory : (n : ℕ) (r : Result (MessageData × List ℕ) WireFault) (m : MessageData) (rest : List ℕ) → HoldsList m → r ≡ Ok (m, rest) → length rest ≡ 0
    → (x : MessageData) × (whole_form n r ≡ Ok x) × HoldsList x
out_of_memory n r m rest holds e none = (m, read_whole n r m rest e none, holds)

-- what stands after a pair, after some pairs more
pub pass_pair : (count counter : ℕ) (all bytes : List ℕ) (pair : List ℕ × List ℕ) (after : List ℕ) → counter < count → pair_at bytes ≡ Ok (pair, after)
    → ((found : List (List ℕ × List ℕ)) × (form_at (extensions (count - counter) found) bytes ≡ form_at (extensions count []) all))
    → (found : List (List ℕ × List ℕ)) × (form_at (extensions (count - (counter + 1)) found) after ≡ form_at (extensions count []) all)
pass_pair count counter all bytes pair after h e (found, is) = (found ++ pair ∷ [], sym (one_pair count counter found bytes pair after h e) ∙ is)

-- The rows of the messages that hold lists, in whatever form shares are.
pub ext_info_read : (shares : ShareForm) (payload fields : List ℕ) → payload ≡ 7 ∷ fields → message_in shares payload ≡ whole_form 7 (form_at ext_info fields)
unfolding message_in form_of
ext_info_read shares payload fields is = rw is refl

pub kexinit_read : (shares : ShareForm) (payload fields : List ℕ) → payload ≡ 20 ∷ fields → message_in shares payload ≡ whole_form 20 (form_at kexinit fields)
unfolding message_in form_of
kexinit_read shares payload fields is = rw is refl

pub failure_read : (shares : ShareForm) (payload fields : List ℕ) → payload ≡ 51 ∷ fields → message_in shares payload ≡ whole_form 51 (form_at userauth_failure fields)
unfolding message_in form_of
failure_read shares payload fields is = rw is refl
