-- What a suite signs whose keys it holds.

use Rattle.std.proofs.Common.{◌≡◌, ℕ, Bool, true, false, List, [], ◌∷◌, length, Some, refl, ap, ◌∙◌}
use Rattle.sshmsg.specs.MessageData.{MethodData, UserauthRequest}
use Rattle.sshmsg.specs.Written.{written_message}
use Rattle.sshneg.specs.Derivations.{signed_text}
use Rattle.sshpacket.specs.Suite.{SuiteData}
use Rattle.sshcore.specs.Attempts.{signed_method}
use Rattle.sshcore.specs.ConfigParts.{AttemptData, ByKey, ByNothing, ByPassword, CredentialData}
use Rattle.sshcore.specs.EndData.{goes}
use Rattle.sshcore.specs.EndpointParts.{DecisionsData}
use Rattle.sshcore.specs.Plan.{unasked}
use Rattle.sshcore.proofs.StepLemmas.{attempt_reply, method_by, request_of, signature_by}
use Rattle.sshworld.specs.Held.{IsHeld, held_method, held_request}

-- its signature is that which is made
pub signed_held : (m : SuiteData) (d : DecisionsData) (number : ℕ) (algorithm secret input : List ℕ) → m.holds algorithm secret ≡ true
    → signature_by m d number algorithm secret input ≡ Some (m.sign algorithm secret input)
signed_held m d number algorithm secret input held = rw held refl

method_held : (m : SuiteData) (d : DecisionsData) (number : ℕ) (session user service : List ℕ) (p : CredentialData) → IsHeld m p
    → method_by m d number session user service p ≡ held_method m session user service p
method_held m d number session user service ByNothing held = refl
method_held m d number session user service (ByPassword password) held = refl
method_held m d number session user service (ByKey algorithm secret true) held = refl
method_held m d number session user service (ByKey algorithm secret false) held =
    ap (signed_method algorithm (m.blob algorithm secret)) (signed_held m d number algorithm secret (signed_text session user service algorithm (m.blob algorithm secret)) held)

pub request_held : (m : SuiteData) (d : DecisionsData) (number : ℕ) (session : List ℕ) (a : AttemptData) → IsHeld m a.proving → request_of m d number session a ≡ held_request m session a
request_held m d number session a held =
    ap (λ (method : MethodData). written_message (UserauthRequest a.user a.service method)) (method_held m d number session a.user a.service a.proving held)

-- the first of these attempts is made so
pub attempt_held : (m : SuiteData) (d : DecisionsData) (session : List ℕ) (left : List AttemptData) (a : AttemptData) (later : List AttemptData) → left ≡ a ∷ later → IsHeld m a.proving
    → attempt_reply m d session left ≡ goes (held_request m session a ∷ [])
attempt_held m d session left a later is held =
    ap (λ (l : List AttemptData). attempt_reply m d session l) is ∙ ap (λ (r : List ℕ). goes (r ∷ [])) (request_held m d (length later) session a held)

-- an attempt itself is by the key of its query
pub held_itself : (m : SuiteData) (a : AttemptData) → IsHeld m a.proving → IsHeld m (unasked a.proving)
held_itself m a held = by a.proving held
  where
    by : (p : CredentialData) → IsHeld m p → IsHeld m (unasked p)
    by ByNothing h = h
    by (ByPassword password) h = h
    by (ByKey algorithm secret ask) h = h
