-- What is read as it was written, and what was accepted of two configs.

use Rattle.std.specs.Prelude.{◌≡◌, ◌≤◌, ℕ, true, false, nat_le, List, [], codes, length, take, Some, Ok, slice_get}
use Rattle.std.specs.List.{AllByRecursion}
use Rattle.sshwire.specs.declared.share_form.ShareForm.{ShareForm}
use Rattle.sshwire.specs.TypeReadings.{is_name}
use Rattle.sshmsg.specs.MessageData.{KexInit, MessageData, UserauthBanner, UserauthRequest}
use Rattle.sshmsg.specs.Messages.{message_in}
use Rattle.sshmsg.specs.Written.{written_message}
use Rattle.sshneg.specs.declared.side.Side.TheVariants.{Client, Server}
use Rattle.sshneg.specs.ChoiceReadings.{is_in}
use Rattle.sshneg.specs.Fields.{AlgorithmsData}
use Rattle.sshneg.specs.Markers.{strict_marker}
use Rattle.sshpacket.specs.Suite.{SuiteData}
use Rattle.sshpacket.specs.declared.limits.TheConstants.{BLOB_LIMIT}
use Rattle.sshcore.specs.ConfigParts.{AttemptData, ByKey, ByNothing, ByPassword, ClientData, CredentialData, ServerData, client_offer, server_offer}
use Rattle.sshcore.specs.ConfigRules.{IsListed}
use Rattle.sshcore.specs.EndpointParts.{DecisionsData}
use Rattle.sshcore.specs.Work.{init_in, reply_in}
use Rattle.sshworld.specs.Agreement.{answer_of_server, host_key_of_server, session_between}
use Rattle.sshworld.specs.Held.{held_method}
use Rattle.sshworld.specs.Offered.{offered}
use Rattle.sshworld.specs.Wordings.{answer_to, signature_of_server}

-- it is read again, whatever the form of shares is
abbrev pub ReadsAgain : MessageData → Type 0
ReadsAgain content = (form : ShareForm) → message_in form (written_message content) ≡ Ok content

-- the algorithm of a key is a name, by the test
abbrev pub IsTestedName : CredentialData → Type 0
IsTestedName ByNothing = Unit {0}
IsTestedName (ByPassword password) = Unit {0}
IsTestedName (ByKey algorithm secret ask) = is_name algorithm ≡ true

-- its public key is short enough for a PK_OK, by the test
abbrev pub HasShortBlob : SuiteData → CredentialData → Type 0
HasShortBlob m ByNothing = Unit {0}
HasShortBlob m (ByPassword password) = Unit {0}
HasShortBlob m (ByKey algorithm secret ask) = nat_le (length (m.blob algorithm secret)) BLOB_LIMIT ≡ true

-- what was accepted of two configs
pub record AreSound (c : ClientData) (s : ServerData) : Type 0 where
  pub client_unmarked : is_in c.side.kex_algorithms (strict_marker Client) ≡ false
  pub client_unasking : is_in c.side.kex_algorithms (codes "ext-info-c") ≡ false
  pub server_unmarked : is_in s.side.kex_algorithms (strict_marker Server) ≡ false
  pub named : AllByRecursion (λ (a : AttemptData). IsTestedName a.proving) c.plan
  pub required : AllByRecursion IsListed s.required
  pub tries : 1 ≤ s.tries

-- both KEXINITs are read again
pub record AreOffersRead (c : ClientData) (s : ServerData) : Type 0 where
  pub client : ReadsAgain (KexInit (client_offer c))
  pub server : ReadsAgain (KexInit (server_offer s))

-- and so is what follows, with these algorithms
pub record IsRead (m : SuiteData) (d : DecisionsData) (c : ClientData) (s : ServerData) (a : AlgorithmsData) : Type 0 where
  pub init : message_in (m.share_form a.kex) (written_message (init_in (m.share_form a.kex) (m.share a.kex c.side.random))) ≡ Ok (init_in (m.share_form a.kex) (m.share a.kex c.side.random))
  pub reply : message_in (m.share_form a.kex) (written_message (reply_in (m.share_form a.kex) (host_key_of_server m s a.host_key) (answer_of_server m c s a.kex).share (signature_of_server m c s a)))
      ≡ Ok (reply_in (m.share_form a.kex) (host_key_of_server m s a.host_key) (answer_of_server m c s a.kex).share (signature_of_server m c s a))
  pub banner : (text : List ℕ) → s.banner ≡ Some text → ReadsAgain (UserauthBanner text [])
  pub answers : (i : ℕ) (r : AttemptData) → slice_get (offered m d s c.plan) i ≡ Some r → ReadsAgain (answer_to m d s (take i (offered m d s c.plan)) r)
  pub short : (i : ℕ) (r : AttemptData) → slice_get (offered m d s c.plan) i ≡ Some r → HasShortBlob m r.proving
  pub requests : (i : ℕ) (r : AttemptData) → slice_get (offered m d s c.plan) i ≡ Some r
      → ReadsAgain (UserauthRequest r.user r.service (held_method m (session_between m c s a) r.user r.service r.proving))
