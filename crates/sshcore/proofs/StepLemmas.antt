-- What a step comes to by decisions, told without its question: each decision where it is taken.

use Rattle.std.proofs.Common.{◌≡◌, ℕ, Bool, true, false, cond, List, [], ◌∷◌, length, Option, None, Some, Ok, refl, ap, ◌∙◌, if◌then◌else◌}
use Rattle.std.specs.Prelude.{◌&&◌, codes, nat_le}
use Rattle.std.specs.Str.{bytes_eq}
use Rattle.sshmsg.specs.declared.numbers.TheConstants.{SSH_MSG_SERVICE_ACCEPT, SSH_MSG_USERAUTH_PK_OK}
use Rattle.sshmsg.specs.MessageData.{Disconnect, KexEcdhInit, KexEcdhReply, KexInit, KexdhInit, KexdhReply, MessageData, MethodData, NoMethod, OtherMethod, Password, PasswordChange, PublicKey, PublicKeyQuery, ServiceAccept, ServiceRequest, UserauthFailure, UserauthPkOk, UserauthRequest, UserauthSuccess}
use Rattle.sshmsg.specs.Written.{written_message}
use Rattle.sshneg.specs.declared.side.Side.{Side}
use Rattle.sshneg.specs.ChoiceReadings.{is_in}
use Rattle.sshneg.specs.Derivations.{ExchangeData, signed_text}
use Rattle.sshneg.specs.ExchangeEnd.{exchange_hash}
use Rattle.sshpacket.specs.declared.limits.TheConstants.{BLOB_LIMIT}
use Rattle.sshpacket.specs.Suite.{ResponseData, SuiteData}
use Rattle.sshcore.specs.declared.end.Fault.TheVariants as fault
use Rattle.sshcore.specs.Attempts.{answers_query, attempt_step, credential_step, method_with, own_request, own_signature, pk_ok_step, request_with, signed_method, success_reply}
use Rattle.sshcore.specs.ConfigParts.{AttemptData, ByKey, ByNothing, ByPassword, CredentialData}
use Rattle.sshcore.specs.EndData.{Closed, Reply, fails, goes}
use Rattle.sshcore.specs.EndpointParts.{ConfigData, DecisionsData, KeyProof, ProofData, Setup}
use Rattle.sshcore.specs.Exchange.{answer_with, exchange_with, secret_of}
use Rattle.sshcore.specs.KnownBefore.{Known}
use Rattle.sshcore.specs.Plan.{confirmed, next_after}
use Rattle.sshcore.specs.Questions.{AnswerData, QuestionData, SignatureQuestion, UserQuestion, decided, found_in, is_yes}
use Rattle.sshcore.specs.Requests.{claim_step, is_last_try, is_successful, method_step, more_reply, query_answer, query_reply, query_step, request_step, tried_reply}
use Rattle.sshcore.specs.Signatures.{fitting}
use Rattle.sshcore.specs.Step.{AtOnce, Asks, Step, asked_in, settled, signed_step}
use Rattle.sshcore.specs.Tries.{is_decided, is_supported, proof_in}
use Rattle.sshcore.specs.Work.{accept_step, answered_step, init_step, kexinit_reply, reply_step, service_reply, signed_by, signed_reply, step, userauth, work}

-- the signature of an input by a private key, which the suite makes where it holds the key, and whoever decides where it doesn't
abbrev pub signature_by : SuiteData → DecisionsData → ℕ → List ℕ → List ℕ → List ℕ → Option (List ℕ)
signature_by m d number algorithm secret input =
    if m.holds algorithm secret then Some (m.sign algorithm secret input) else fitting (d.signature number algorithm (m.blob algorithm secret) input)

-- the method of an attempt's request, after which so many are left
abbrev pub method_by : SuiteData → DecisionsData → ℕ → List ℕ → List ℕ → List ℕ → CredentialData → MethodData
method_by m d number session user service ByNothing = NoMethod
method_by m d number session user service (ByPassword password) = Password password
method_by m d number session user service (ByKey algorithm secret true) = PublicKeyQuery algorithm (m.blob algorithm secret)
method_by m d number session user service (ByKey algorithm secret false) =
    signed_method algorithm (m.blob algorithm secret) (signature_by m d number algorithm secret (signed_text session user service algorithm (m.blob algorithm secret)))

-- the request of an attempt
abbrev pub request_of : SuiteData → DecisionsData → ℕ → List ℕ → AttemptData → List ℕ
request_of m d number session a = written_message (UserauthRequest a.user a.service (method_by m d number session a.user a.service a.proving))

-- the first of the attempts that are left is made
abbrev pub attempt_reply : SuiteData → DecisionsData → List ℕ → List AttemptData → Reply
attempt_reply m d session [] = fails fault.NoMoreMethods
attempt_reply m d session (a ∷ later) = goes (request_of m d (length later) session a ∷ [])

-- the next attempt whose method is listed is made
abbrev pub failure_reply : SuiteData → DecisionsData → Known → List (List ℕ) → Reply
failure_reply m d known listed = attempt_reply m d known.session (next_after listed known.left)

-- the attempt of a query is made, where a PK_OK is of its key
abbrev pub pk_ok_reply : SuiteData → DecisionsData → Known → List ℕ → List ℕ → Reply
pk_ok_reply m d known algorithm key =
    if answers_query m algorithm key known.left then attempt_reply m d known.session (confirmed known.left)
    else fails (fault.Unexpected SSH_MSG_USERAUTH_PK_OK)

-- the first attempt is made, once the service is accepted
abbrev pub accept_reply : SuiteData → DecisionsData → Known → List ℕ → Reply
accept_reply m d known service =
    if bytes_eq service userauth then attempt_reply m d known.session known.left else fails (fault.Unexpected SSH_MSG_SERVICE_ACCEPT)

-- a server's answer to a client's share
abbrev pub answered_by : SuiteData → DecisionsData → ConfigData → Known → ExchangeData → Option ResponseData → Reply
answered_by m d config known x None = fails fault.Exchange
answered_by m d config known x (Some answer) =
    signed_reply config known x (signature_by m d 0 known.algorithms.host_key (secret_of config.host_keys known.algorithms.host_key) (exchange_hash m known.algorithms.kex x))

-- the same, as the message has it
unfoldable pub init_reply : SuiteData → DecisionsData → Side → ConfigData → Known → MessageData → Reply
init_reply m d role config known message =
    answered_by m d config known (exchange_with m role config known.algorithms known.version known.kexinit (Ok message))
    (answer_with m role config known.algorithms (Ok message))

-- what a client does at the server's share
abbrev pub trusted_by : SuiteData → DecisionsData → Known → ExchangeData → List ℕ → Option ResponseData → Reply
trusted_by m d known x signature answer =
    if d.host_key known.algorithms.host_key x.host_key then signed_by m known x signature answer else fails fault.HostKey

-- the same, as the message has it
unfoldable pub reply_reply : Setup → Known → MessageData → List ℕ → Reply
reply_reply setup known message signature =
    trusted_by setup.suite setup.decisions known (exchange_with setup.suite setup.role setup.config known.algorithms known.version known.kexinit (Ok message)) signature
    (answer_with setup.suite setup.role setup.config known.algorithms (Ok message))

-- the key of a query would do: it may be asked about, and the decision is yes
abbrev pub would_do : SuiteData → DecisionsData → ConfigData → Known → List ℕ → List ℕ → List ℕ → List ℕ → Bool
would_do m d config known user service algorithm key =
    is_in config.methods (codes "publickey") && (is_supported m algorithm
    && (nat_le (length key) BLOB_LIMIT && d.user known.request user service (KeyProof algorithm key)))

-- what a server does at a request for a service that it has
abbrev pub method_reply : SuiteData → DecisionsData → ConfigData → Known → List ℕ → List ℕ → MethodData → Reply
method_reply m d config known user service (PublicKeyQuery algorithm key) = more_reply config known (query_answer config algorithm key (would_do m d config known user service algorithm key))
method_reply m d config known user service method = tried_reply config known user service method (is_successful m d config known user service method)

-- what a server does at a request
unfoldable pub request_reply : SuiteData → DecisionsData → ConfigData → Known → List ℕ → List ℕ → MethodData → Reply
request_reply m d config known user service method =
    if is_in config.services service then method_reply m d config known user service method else fails fault.Service

-- what a message is answered
unfoldable pub worked : Setup → Known → MessageData → Reply
worked setup known (Disconnect reason description language) = record { answers = []; end = Closed reason }
worked setup known (KexInit peer) = kexinit_reply setup.suite setup.role setup.config known peer
worked setup known (KexdhInit e) = init_reply setup.suite setup.decisions setup.role setup.config known (KexdhInit e)
worked setup known (KexEcdhInit client_share) = init_reply setup.suite setup.decisions setup.role setup.config known (KexEcdhInit client_share)
worked setup known (KexdhReply host_key f signature) = reply_reply setup known (KexdhReply host_key f signature) signature
worked setup known (KexEcdhReply host_key server_share signature) = reply_reply setup known (KexEcdhReply host_key server_share signature) signature
worked setup known (ServiceRequest service) = service_reply setup.config service
worked setup known (ServiceAccept service) = accept_reply setup.suite setup.decisions known service
worked setup known (UserauthRequest user service method) = request_reply setup.suite setup.decisions setup.config known user service method
worked setup known (UserauthFailure listed partial) = failure_reply setup.suite setup.decisions known listed
worked setup known UserauthSuccess = success_reply known
worked setup known (UserauthPkOk algorithm key) = pk_ok_reply setup.suite setup.decisions known algorithm key
worked setup known _ = goes []

-- by a test, of which one outcome is answered at once
by_test : (d : DecisionsData) (test : Bool) (s : Step) (x r : Reply) → settled d s ≡ x → settled d (cond test s (AtOnce r)) ≡ cond test x r
by_test d true s x r e = e
by_test d false s x r e = refl

module _ (m : SuiteData) (d : DecisionsData) where
  pub signed_is : (number : ℕ) (algorithm secret input : List ℕ) (replies : Option (List ℕ) → Reply)
      → settled d (signed_step m number algorithm secret input replies) ≡ replies (signature_by m d number algorithm secret input)
  signed_is number algorithm secret input replies = by (m.holds algorithm secret)
    where
      by : (held : Bool)
          → settled d (cond held (AtOnce (replies (Some (m.sign algorithm secret input)))) (Asks (SignatureQuestion number algorithm (m.blob algorithm secret) input) (λ answer. replies (fitting (found_in answer)))))
          ≡ replies (cond held (Some (m.sign algorithm secret input)) (fitting (d.signature number algorithm (m.blob algorithm secret) input)))
      by true = refl
      by false = refl

  pub attempt_is : (session : List ℕ) (left : List AttemptData) → settled d (attempt_step m session left) ≡ attempt_reply m d session left
  attempt_is session [] = refl
  attempt_is session (a ∷ later) = by a.proving refl
    where
      by : (c : CredentialData) → a.proving ≡ c → settled d (credential_step m (length later) session a c)
          ≡ goes (written_message (UserauthRequest a.user a.service (method_by m d (length later) session a.user a.service c)) ∷ [])
      by ByNothing is = rw is refl
      by (ByPassword password) is = rw is refl
      by (ByKey algorithm secret true) is = rw is refl
      by (ByKey algorithm secret false) is =
          signed_is (length later) algorithm secret (signed_text session a.user a.service algorithm (m.blob algorithm secret)) (λ signature. goes (request_with m signature a ∷ []))
          ∙ ap (λ (c : CredentialData). goes (written_message (UserauthRequest a.user a.service (method_with m (signature_by m d (length later) algorithm secret (signed_text session a.user a.service algorithm (m.blob algorithm secret))) c)) ∷ [])) is

  -- an attempt that asks nobody
  held_attempt : (held : Bool) (r : Option (List ℕ) → Reply) (made : Option (List ℕ)) (q : QuestionData) (replies : AnswerData → Reply) → asked_in (cond held (AtOnce (r made)) (Asks q replies)) ≡ None
      → r made ≡ settled d (cond held (AtOnce (r made)) (Asks q replies))
  held_attempt true r made q replies calm = refl
  held_attempt false r made q replies calm = absurd cc

  pub calm_attempt : (session : List ℕ) (a : AttemptData) (later : List AttemptData) → asked_in (attempt_step m session (a ∷ later)) ≡ None
      → goes (own_request m session a ∷ []) ≡ settled d (attempt_step m session (a ∷ later))
  calm_attempt session a later calm = by a.proving refl calm
    where
      by : (c : CredentialData) → a.proving ≡ c → asked_in (credential_step m (length later) session a c) ≡ None
          → goes (request_with m (own_signature m session a c) a ∷ []) ≡ settled d (credential_step m (length later) session a c)
      by ByNothing is e = refl
      by (ByPassword password) is e = refl
      by (ByKey algorithm secret true) is e = refl
      by (ByKey algorithm secret false) is e =
          held_attempt (m.holds algorithm secret) (λ signature. goes (request_with m signature a ∷ [])) (own_signature m session a (ByKey algorithm secret false)) _ _ e

  pub accept_is : (known : Known) (service : List ℕ) → settled d (accept_step m known service) ≡ accept_reply m d known service
  accept_is known service =
      by_test d (bytes_eq service userauth) (attempt_step m known.session known.left) (attempt_reply m d known.session known.left) (fails (fault.Unexpected 6)) (attempt_is known.session known.left)

  pub pk_ok_is : (known : Known) (algorithm key : List ℕ) → settled d (pk_ok_step m known algorithm key) ≡ pk_ok_reply m d known algorithm key
  pk_ok_is known algorithm key =
      by_test d (answers_query m algorithm key known.left) (attempt_step m known.session (confirmed known.left)) (attempt_reply m d known.session (confirmed known.left)) (fails (fault.Unexpected 60))
      (attempt_is known.session (confirmed known.left))

  pub answered_is : (config : ConfigData) (known : Known) (x : ExchangeData) (o : Option ResponseData) → settled d (answered_step m config known x o) ≡ answered_by m d config known x o
  answered_is config known x None = refl
  answered_is config known x (Some answer) =
      signed_is 0 known.algorithms.host_key (secret_of config.host_keys known.algorithms.host_key) (exchange_hash m known.algorithms.kex x) (signed_reply config known x)

  pub init_is : (role : Side) (config : ConfigData) (known : Known) (message : MessageData) → settled d (init_step m role config known message) ≡ init_reply m d role config known message
  unfolding init_step init_reply
  init_is role config known message =
      answered_is config known (exchange_with m role config known.algorithms known.version known.kexinit (Ok message)) (answer_with m role config known.algorithms (Ok message))

  -- a query, by whether it is the last try and whether its key may be asked about
  query_by : (last listed named short : Bool) (q : QuestionData) (f : Reply) (g : Bool → Reply)
      → settled d (cond last (AtOnce f) (cond (listed && (named && short)) (Asks q (λ answer. g (is_yes answer))) (AtOnce (g false)))) ≡ cond last f (g (listed && (named && (short && is_yes (decided d q)))))
  query_by true listed named short q f g = refl
  query_by false true true true q f g = refl
  query_by false true true false q f g = refl
  query_by false true false short q f g = refl
  query_by false false named short q f g = refl

  query_is : (config : ConfigData) (known : Known) (user service algorithm key : List ℕ)
      → settled d (query_step m config known user service algorithm key) ≡ more_reply config known (query_answer config algorithm key (would_do m d config known user service algorithm key))
  query_is config known user service algorithm key =
      query_by (is_last_try config known) (is_in config.methods (codes "publickey")) (is_supported m algorithm) (nat_le (length key) BLOB_LIMIT)
      (UserQuestion known.request user service (KeyProof algorithm key) false) (fails fault.TooManyTries) (query_reply config algorithm key)

  claim_is : (config : ConfigData) (known : Known) (user service : List ℕ) (method : MethodData) (o : Option ProofData)
      → settled d (claim_step config known user service method o) ≡ tried_reply config known user service method (is_decided d known.request user service o)
  claim_is config known user service x None = refl
  claim_is config known user service x (Some proof) = refl

  pub method_is : (config : ConfigData) (known : Known) (user service : List ℕ) (method : MethodData)
      → settled d (method_step m config known user service method) ≡ method_reply m d config known user service method
  method_is config known user service NoMethod = claim_is config known user service NoMethod (proof_in m config known.session user service NoMethod)
  method_is config known user service (Password password) = claim_is config known user service (Password password) (proof_in m config known.session user service (Password password))
  method_is config known user service (PasswordChange old new) = claim_is config known user service (PasswordChange old new) (proof_in m config known.session user service (PasswordChange old new))
  method_is config known user service (PublicKey algorithm key signature) = claim_is config known user service (PublicKey algorithm key signature) (proof_in m config known.session user service (PublicKey algorithm key signature))
  method_is config known user service (PublicKeyQuery algorithm key) = query_is config known user service algorithm key
  method_is config known user service (OtherMethod name fields) = claim_is config known user service (OtherMethod name fields) (proof_in m config known.session user service (OtherMethod name fields))

  pub request_is : (config : ConfigData) (known : Known) (user service : List ℕ) (method : MethodData)
      → settled d (request_step m config known user service method) ≡ request_reply m d config known user service method
  unfolding request_step request_reply
  request_is config known user service method =
      by_test d (is_in config.services service) (method_step m config known user service method) (method_reply m d config known user service method) (fails fault.Service) (method_is config known user service method)

module _ (setup : Setup) (known : Known) where
  pub reply_is : (message : MessageData) (signature : List ℕ) → settled setup.decisions (reply_step setup.suite setup.role setup.config known message signature) ≡ reply_reply setup known message signature
  unfolding reply_step reply_reply
  reply_is message signature = refl

  -- what a message is answered, each decision where it is taken
  pub work_is : (c : MessageData) → work setup known c ≡ worked setup known c
  unfolding step worked
  work_is (KexdhInit e) = init_is setup.suite setup.decisions setup.role setup.config known (KexdhInit e)
  work_is (KexEcdhInit share) = init_is setup.suite setup.decisions setup.role setup.config known (KexEcdhInit share)
  work_is (KexdhReply host_key f signature) = reply_is (KexdhReply host_key f signature) signature
  work_is (KexEcdhReply host_key share signature) = reply_is (KexEcdhReply host_key share signature) signature
  work_is (ServiceAccept service) = accept_is setup.suite setup.decisions known service
  work_is (UserauthRequest user service method) = request_is setup.suite setup.decisions setup.config known user service method
  work_is (UserauthFailure listed partial) = attempt_is setup.suite setup.decisions known.session (next_after listed known.left)
  work_is (UserauthPkOk algorithm key) = pk_ok_is setup.suite setup.decisions known algorithm key
  work_is _ = refl

-- Where nothing is asked, nothing depends on who decides; and where something is, on the answer alone.
pub calm_alike : (d e : DecisionsData) (s : Step) → asked_in s ≡ None → settled d s ≡ settled e s
calm_alike d e (AtOnce r) calm = refl
calm_alike d e (Asks q replies) calm = absurd cc
