-- How a request of authentication is answered.

use Rattle.std.proofs.Common.{◌≡◌, ℕ, Bool, true, false, cond, List, [], ◌∷◌, refl}
use Rattle.std.specs.Prelude.{◌&&◌}
use Rattle.sshmsg.specs.MessageData.{MessageData, MethodData, NoMethod, OtherMethod, Password, PasswordChange, PublicKey, PublicKeyQuery, UserauthFailure, UserauthPkOk, UserauthSuccess}
use Rattle.sshmsg.specs.Written.{written_message}
use Rattle.sshneg.specs.ChoiceReadings.{is_in}
use Rattle.sshpacket.specs.Suite.{SuiteData}
use Rattle.sshcore.specs.declared.end.Fault.TheVariants as fault
use Rattle.sshcore.specs.Attempts.{agreed_by}
use Rattle.sshcore.specs.EndData.{Authenticated, Reply, fails, goes}
use Rattle.sshcore.specs.KnownBefore.{Known}
use Rattle.sshcore.specs.EndpointParts.{ConfigData, DecisionsData}
use Rattle.sshcore.specs.Requests.{completes, is_last_try, is_successful, more_reply, query_answer, tried_reply}
use Rattle.sshcore.proofs.StepLemmas.{method_reply, request_reply, would_do}

-- what tells that a request ends nothing: a FAILURE, or a PK_OK to a query whose key would do
pub data IsRefusal (m : SuiteData) (d : DecisionsData) (config : ConfigData) (known : Known) (user service : List ℕ) (x : MessageData) : Type 0 where
  Refused : (partial : Bool) → x ≡ UserauthFailure config.methods partial → IsRefusal m d config known user service x
  Confirmed : (algorithm key : List ℕ) → would_do m d config known user service algorithm key ≡ true → x ≡ UserauthPkOk algorithm key → IsRefusal m d config known user service x

-- For a service that the server doesn't have; successful, so that all required methods are completed; the last that is granted;
-- or one more, and it is told so.
pub data IsAnswered (m : SuiteData) (d : DecisionsData) (config : ConfigData) (known : Known) (user service : List ℕ) (method : MethodData) (r : Reply) : Type 0 where
  Elsewhere : is_in config.services service ≡ false → r ≡ fails fault.Service → IsAnswered m d config known user service method r
  Succeeds : is_in config.services service ≡ true → is_successful m d config known user service method ≡ true → completes config known user service method true ≡ true
      → r ≡ record { answers = written_message UserauthSuccess ∷ []; end = Authenticated (agreed_by known user service) } → IsAnswered m d config known user service method r
  Last : is_last_try config known ≡ true → r ≡ fails fault.TooManyTries → IsAnswered m d config known user service method r
  More : (x : MessageData) → IsRefusal m d config known user service x → is_last_try config known ≡ false → r ≡ goes (written_message x ∷ []) → IsAnswered m d config known user service method r

module _ (m : SuiteData) (d : DecisionsData) (config : ConfigData) (known : Known) (user service : List ℕ) (method : MethodData) where
  by_more : (x : MessageData) → IsRefusal m d config known user service x → (last : Bool) → is_last_try config known ≡ last
      → IsAnswered m d config known user service method (cond last (fails fault.TooManyTries) (goes (written_message x ∷ [])))
  by_more x is true e = Last e refl
  by_more x is false e = More x is e refl

  by_query : (algorithm key : List ℕ) (would : Bool) → would_do m d config known user service algorithm key ≡ would
      → IsAnswered m d config known user service method (more_reply config known (query_answer config algorithm key would))
  by_query algorithm key true e = by_more (UserauthPkOk algorithm key) (Confirmed algorithm key e refl) (is_last_try config known) refl
  by_query algorithm key false e = by_more (UserauthFailure config.methods false) (Refused false refl) (is_last_try config known) refl

  by_tried : is_in config.services service ≡ true → (successful done : Bool) → is_successful m d config known user service method ≡ successful → completes config known user service method successful ≡ done
      → IsAnswered m d config known user service method (cond (successful && done) (record { answers = written_message UserauthSuccess ∷ []; end = Authenticated (agreed_by known user service) })
      (more_reply config known (UserauthFailure config.methods successful)))
  by_tried has true true e f = Succeeds has e f refl
  by_tried has true false e f = by_more (UserauthFailure config.methods true) (Refused true refl) (is_last_try config known) refl
  by_tried has false done e f = by_more (UserauthFailure config.methods false) (Refused false refl) (is_last_try config known) refl

  by_method : is_in config.services service ≡ true → IsAnswered m d config known user service method (tried_reply config known user service method (is_successful m d config known user service method))
  by_method has = by_tried has (is_successful m d config known user service method) (completes config known user service method (is_successful m d config known user service method)) refl refl

module _ (m : SuiteData) (d : DecisionsData) (config : ConfigData) (known : Known) (user service : List ℕ) where
  each_method : is_in config.services service ≡ true → (method : MethodData) → IsAnswered m d config known user service method (method_reply m d config known user service method)
  each_method has NoMethod = by_method m d config known user service NoMethod has
  each_method has (Password password) = by_method m d config known user service (Password password) has
  each_method has (PasswordChange old new) = by_method m d config known user service (PasswordChange old new) has
  each_method has (PublicKey algorithm key signature) = by_method m d config known user service (PublicKey algorithm key signature) has
  each_method has (PublicKeyQuery algorithm key) =
      by_query m d config known user service (PublicKeyQuery algorithm key) algorithm key (would_do m d config known user service algorithm key) refl
  each_method has (OtherMethod name fields) = by_method m d config known user service (OtherMethod name fields) has

  pub answered : (method : MethodData) → IsAnswered m d config known user service method (request_reply m d config known user service method)
  unfolding request_reply
  answered method = by (is_in config.services service) refl
    where
      by : (has : Bool) → is_in config.services service ≡ has
          → IsAnswered m d config known user service method (cond has (method_reply m d config known user service method) (fails fault.Service))
      by true e = each_method e method
      by false e = Elsewhere e refl
