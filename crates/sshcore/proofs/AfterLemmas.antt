-- What is known after a payload, by its number.

use Rattle.std.proofs.Common.{◌≡◌, ◌≢◌, ℕ, ◌==◌, false, List, Ok, refl, ap, ◌∙◌}
use Rattle.std.proofs.lemmas.Bool.{ne_eqb}
use Rattle.sshwire.specs.declared.share_form.ShareForm.TheVariants.{Mpint}
use Rattle.sshmsg.specs.MessageData.{MethodData, UserauthRequest}
use Rattle.sshmsg.specs.Messages.{message_in}
use Rattle.sshmsg.specs.Numbers.{message_number}
use Rattle.sshpacket.specs.Suite.{SuiteData}
use Rattle.sshcore.specs.Authenticating.{confirmed_attempt, counted_request, failed_attempt, tried_key}
use Rattle.sshcore.specs.Brings.{carried_after, received_counted, received_newkeys, received_one}
use Rattle.sshcore.specs.StateData.{Carried}
use Rattle.sshcore.specs.KnownBefore.{Known}
use Rattle.sshcore.specs.EndpointParts.{ConfigData, DecisionsData}
use Rattle.sshcore.specs.Plan.{listed_in}
use Rattle.sshcore.specs.Requests.{is_successful}
use Rattle.sshcore.specs.Standing.{after_payload}
use Rattle.sshcore.specs.Table.{is_ignorable}
use Rattle.sshcore.specs.Tries.{successful_key_in, tried_in, tried_with}

module _ (m : SuiteData) (d : DecisionsData) (config : ConfigData) (known : Known) (payload : List ℕ) where
  -- a payload that is neither NEWKEYS nor a request nor an answer to one counts, if it says nothing
  pub after_counted : message_number payload ≢ 21 → message_number payload ≢ 50 → message_number payload ≢ 51 → message_number payload ≢ 60 → after_payload m d config known payload ≡ received_counted known payload
  after_counted newkeys request failure confirmation =
      let k : (message_number payload == 21) ≡ false = ne_eqb (message_number payload) 21 newkeys in
      let r : (message_number payload == 50) ≡ false = ne_eqb (message_number payload) 50 request in
      let f : (message_number payload == 51) ≡ false = ne_eqb (message_number payload) 51 failure in
      let c : (message_number payload == 60) ≡ false = ne_eqb (message_number payload) 60 confirmation in
      rw (k, r, f, c) refl

  -- the same, by the number that it has; and one that says something changes nothing
  pub counted_number : (n : ℕ) → message_number payload ≡ n → n ≢ 21 → n ≢ 50 → n ≢ 51 → n ≢ 60 → after_payload m d config known payload ≡ received_counted known payload
  counted_number n is newkeys request failure confirmation = after_counted (rw is newkeys) (rw is request) (rw is failure) (rw is confirmation)

  pub received_number : (n : ℕ) → message_number payload ≡ n → n ≢ 21 → n ≢ 50 → n ≢ 51 → n ≢ 60 → is_ignorable n ≡ false → after_payload m d config known payload ≡ received_one known
  received_number n is newkeys request failure confirmation heeded =
      let none : is_ignorable (message_number payload) ≡ false = ap is_ignorable is ∙ heeded in
      counted_number n is newkeys request failure confirmation ∙ rw none refl

  -- from NEWKEYS on what says nothing counts
  pub newkeys_after : message_number payload ≡ 21 → after_payload m d config known payload ≡ received_newkeys config known
  newkeys_after is = rw is refl

  -- a request counts, and may complete a method
  pub request_after : (user service : List ℕ) (method : MethodData) → message_number payload ≡ 50 → message_in Mpint payload ≡ Ok (UserauthRequest user service method)
      → after_payload m d config known payload ≡ counted_request known (tried_with user service method (is_successful m d config known user service method))
  unfolding tried_in
  request_after user service method is read = rw (is, read) refl

  -- after a FAILURE the plan goes on to the next attempt that is listed
  pub failure_after : (listed : List (List ℕ)) → message_number payload ≡ 51 → listed_in payload ≡ listed → after_payload m d config known payload ≡ failed_attempt known listed
  failure_after listed is lists = rw (is, lists) refl

  -- and after a PK_OK to the attempt itself
  pub pk_ok_after : message_number payload ≡ 60 → after_payload m d config known payload ≡ confirmed_attempt known
  pk_ok_after is = rw is refl

  -- what is carried along changes after requests alone
  pub carried_stays : (c : Carried) → message_number payload ≢ 50 → carried_after m d config known c payload ≡ c
  carried_stays c request = let r : (message_number payload == 50) ≡ false = ne_eqb (message_number payload) 50 request in rw r refl

  pub carried_number : (c : Carried) (n : ℕ) → message_number payload ≡ n → n ≢ 50 → carried_after m d config known c payload ≡ c
  carried_number c n is request = carried_stays c (rw is request)

  pub carried_request : (c : Carried) (user service : List ℕ) (method : MethodData) → message_number payload ≡ 50 → message_in Mpint payload ≡ Ok (UserauthRequest user service method)
      → carried_after m d config known c payload ≡ tried_key c method (is_successful m d config known user service method)
  unfolding successful_key_in
  carried_request c user service method is read = rw (is, read) refl
