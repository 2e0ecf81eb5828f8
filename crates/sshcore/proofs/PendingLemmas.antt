-- What a packet asks, by what the code has found out; and that what is kept of it is enough for its answer.

use Rattle.std.proofs.Common.{◌≡◌, ℕ, suc, ◌-◌, ◌≤◌, Bool, true, false, cond, List, [], ◌∷◌, drop, length, Bor, Option, None, Some, option_map, Result, Ok, Err, refl, sym, ap, subst, ◌∙◌, arith}
use Rattle.std.specs.Prelude.{IfOk, IfSome}
use Rattle.sshneg.specs.ChoiceReadings.{is_in}
use Rattle.sshmsg.specs.declared.message.Method.{Method}
use Rattle.sshmsg.specs.declared.fault.MsgFault.{MsgFault}
use Rattle.sshwire.specs.declared.mpint.Mpint.{Mpint}
use Rattle.sshmsg.specs.declared.message.Message.{Message}
use Rattle.sshmsg.specs.declared.message.Message.TheVariants as message
use Rattle.sshmsg.specs.View.{message_data}
use Rattle.sshmsg.specs.MessageData.{KexEcdhInit, KexEcdhReply, KexdhInit, KexdhReply, MessageData, MethodData, ServiceAccept, UserauthFailure, UserauthPkOk, UserauthRequest}
use Rattle.sshmsg.specs.Messages.{message_in}
use Rattle.sshmsg.specs.Numbers.{number_of}
use Rattle.sshmsg.specs.Written.{written_message}
use Rattle.sshneg.specs.declared.side.Side.{Side}
use Rattle.sshneg.specs.declared.side.Side.TheVariants.{Client}
use Rattle.sshneg.specs.ExchangeEnd.{exchange_by}
use Rattle.sshpacket.specs.declared.limits.TheConstants.{PACKET_LIMIT}
use Rattle.sshpacket.specs.Suite.{SuiteData}
use Rattle.sshcore.specs.declared.phase_table.Disposition.{Disposition}
use Rattle.sshcore.specs.declared.phase_table.Disposition.TheVariants as disposition
use Rattle.sshcore.specs.declared.pending.Claim.{Claim}
use Rattle.sshcore.specs.declared.pending.Claim.TheVariants as claim
use Rattle.sshcore.specs.declared.pending.Pending.{Pending}
use Rattle.sshcore.specs.declared.pending.Pending.TheVariants as pending
use Rattle.sshcore.specs.Attempts.{answers_query, attempt_step, credential_step, failure_step, pk_ok_step, request_with, signed_method}
use Rattle.sshcore.specs.ConfigParts.{AttemptData, ByKey, ByNothing, ByPassword, CredentialData}
use Rattle.sshcore.specs.EndData.{Reply, goes}
use Rattle.sshcore.specs.EndpointParts.{ConfigData, DecisionsData}
use Rattle.sshcore.specs.Exchange.{exchange_with, host_key_read, share_read}
use Rattle.sshcore.specs.Authenticating.{FitsClaim}
use Rattle.sshcore.specs.Judging.{Accepted, Confirmed, Failed, FitsAttempt, FitsPending, IsMadeAfter, IsReplyKept, KeepsMethod, KeepsReply, KeepsRequest, KeepsShare, SkipsTo}
use Rattle.sshcore.specs.KnownBefore.{Known}
use Rattle.sshcore.specs.Plan.{confirmed, next_after, next_listed, proving_name}
use Rattle.sshcore.specs.QuestionAt.{disposition_question}
use Rattle.sshcore.specs.Questions.{AnswerData, HostKeyQuestion, QuestionData, SignatureQuestion, decided, found_in, is_yes, taken}
use Rattle.sshcore.specs.Requests.{request_step}
use Rattle.sshcore.specs.Signatures.{fitting}
use Rattle.sshcore.specs.Phases.{past_kexinit}
use Rattle.sshcore.specs.QuestionsView.{claim_method}
use Rattle.sshcore.specs.StateData.{StateData, left_of}
use Rattle.sshcore.specs.Step.{AtOnce, Asks, asked_in, settled}
use Rattle.sshcore.specs.Table.{is_of_method}
use Rattle.sshcore.specs.Work.{accept_step, init_step, reply_step, step}
use Rattle.sshcore.proofs.AttemptLemmas.{left_next}
use Rattle.sshcore.proofs.SignatureLemmas.{listed_fewer}
use Rattle.sshcore.proofs.WorksLemmas as works
use Rattle.sshcore.proofs.WorksLemmas.{HasPlace}

-- the step of each message
module _ (m : SuiteData) (role : Side) (config : ConfigData) (known : Known) (c : MessageData) where
  pub step_request : (user service : List ℕ) (method : MethodData) → c ≡ UserauthRequest user service method → step m role config known c ≡ request_step m config known user service method
  unfolding step
  step_request user service method is = rw is refl

  pub step_accept : (service : List ℕ) → c ≡ ServiceAccept service → step m role config known c ≡ accept_step m known service
  unfolding step
  step_accept service is = rw is refl

  pub step_failure : (listed : List (List ℕ)) (partial : Bool) → c ≡ UserauthFailure listed partial → step m role config known c ≡ failure_step m known listed
  unfolding step
  step_failure listed partial is = rw is refl

  pub step_pk_ok : (algorithm key : List ℕ) → c ≡ UserauthPkOk algorithm key → step m role config known c ≡ pk_ok_step m known algorithm key
  unfolding step
  step_pk_ok algorithm key is = rw is refl

  pub step_kexdh_init : (e : List ℕ) → c ≡ KexdhInit e → step m role config known c ≡ init_step m role config known c
  unfolding step
  step_kexdh_init e is = rw is refl

  pub step_kex_ecdh_init : (share : List ℕ) → c ≡ KexEcdhInit share → step m role config known c ≡ init_step m role config known c
  unfolding step
  step_kex_ecdh_init share is = rw is refl

  pub step_kexdh_reply : (host_key f signature : List ℕ) → c ≡ KexdhReply host_key f signature → step m role config known c ≡ reply_step m role config known c signature
  unfolding step
  step_kexdh_reply host_key f signature is = rw is refl

  pub step_kex_ecdh_reply : (host_key share signature : List ℕ) → c ≡ KexEcdhReply host_key share signature → step m role config known c ≡ reply_step m role config known c signature
  unfolding step
  step_kex_ecdh_reply host_key share signature is = rw is refl

  -- a client asks for the host key that it has received
  pub reply_asks : role ≡ Client → (host_key signature : List ℕ) → host_key_read (Ok c) ≡ host_key
      → ◌≡◌ {A = Option QuestionData} (Some (HostKeyQuestion known.algorithms.host_key host_key)) (asked_in (reply_step m role config known c signature))
  unfolding reply_step exchange_with exchange_by
  reply_asks client host_key signature read = rw (client, ← read) refl

  -- of messages that always ask, nothing asks nothing
  pub reply_not_calm : (signature : List ℕ) → step m role config known c ≡ reply_step m role config known c signature → asked_in (step m role config known c) ≡ None → ⊥
  unfolding reply_step
  reply_not_calm signature is calm = let bad : asked_in (reply_step m role config known c signature) ≡ None = ap asked_in (sym is) ∙ calm in cc

-- only what is read asks
module _ (m : SuiteData) (role : Side) (config : ConfigData) (known : Known) where
  pub disposition_on : (l : Disposition) (payload : List ℕ) (c : MessageData) → l ≡ disposition.Reads → message_in known.shares payload ≡ Ok c
      → asked_in (step m role config known c) ≡ disposition_question m role config known l payload
  unfolding disposition_question
  disposition_on l payload c is read = rw (is, read) refl

  pub disposition_unread : (l : Disposition) (payload : List ℕ) (e : MsgFault) → l ≡ disposition.Reads → message_in known.shares payload ≡ Err e
      → ◌≡◌ {A = Option QuestionData} None (disposition_question m role config known l payload)
  unfolding disposition_question
  disposition_unread l payload e is read = rw (is, read) refl

  pub disposition_off : (l : Disposition) (payload : List ℕ) → (l ≡ disposition.Reads → ⊥) → disposition_question m role config known l payload ≡ None
  unfolding disposition_question
  disposition_off disposition.Reads payload off = absurd (off refl)
  disposition_off disposition.Drops payload off = refl
  disposition_off disposition.Deviates payload off = refl
  disposition_off disposition.Unknown payload off = refl
  disposition_off disposition.Unexpected payload off = refl

-- what is made of a value, if there is one
pub none_of : {A B : Type 0} (f : A → B) (o : Option A) (q : Option B) → option_map f o ≡ q → o ≡ None → ◌≡◌ {A = Option B} None q
none_of f o q e is = sym (ap (option_map f) is) ∙ e

pub some_of : {A B : Type 0} (f : A → B) (o : Option A) (q : Option B) (x : A) → option_map f o ≡ q → o ≡ Some x → ◌≡◌ {A = Option B} (Some (f x)) q
some_of f o q x e is = sym (ap (option_map f) is) ∙ e

-- An attempt whose signature was asked for is made by the signature that was given.
module _ (m : SuiteData) (d : DecisionsData) where
  signed_asks : (held : Bool) (number : ℕ) (algorithm blob input : List ℕ) (r : Reply) (replies : Option (List ℕ) → Reply) (q : QuestionData)
      → asked_in (cond held (AtOnce r) (Asks (SignatureQuestion number algorithm blob input) (λ answer. replies (fitting (found_in answer))))) ≡ Some q
      → (q ≡ SignatureQuestion number algorithm blob input)
      × (settled d (cond held (AtOnce r) (Asks (SignatureQuestion number algorithm blob input) (λ answer. replies (fitting (found_in answer))))) ≡ replies (fitting (found_in (decided d q))))
  signed_asks true number algorithm blob input r replies q asks = absurd cc
  signed_asks false number algorithm blob input r replies q asks =
      let same : SignatureQuestion number algorithm blob input ≡ q = cc in
      (sym same, ap (λ (x : QuestionData). replies (fitting (found_in (decided d x)))) same)

  pub asked_attempt : (session : List ℕ) (a : AttemptData) (later : List AttemptData) (number : ℕ) (algorithm blob input : List ℕ)
      → asked_in (attempt_step m session (a ∷ later)) ≡ Some (SignatureQuestion number algorithm blob input)
      → settled d (attempt_step m session (a ∷ later))
      ≡ goes (written_message (UserauthRequest a.user a.service (signed_method algorithm blob (fitting (found_in (decided d (SignatureQuestion number algorithm blob input)))))) ∷ [])
  asked_attempt session a later number algorithm blob input asks = by a.proving refl asks
    where
      by : (c : CredentialData) → a.proving ≡ c → asked_in (credential_step m (length later) session a c) ≡ Some (SignatureQuestion number algorithm blob input)
          → settled d (credential_step m (length later) session a c)
          ≡ goes (written_message (UserauthRequest a.user a.service (signed_method algorithm blob (fitting (found_in (decided d (SignatureQuestion number algorithm blob input)))))) ∷ [])
      by ByNothing is e = absurd cc
      by (ByPassword password) is e = absurd cc
      by (ByKey own secret true) is e = absurd cc
      by (ByKey own secret false) is e =
          let two = signed_asks (m.holds own secret) (length later) own (m.blob own secret) _ _ (λ signature. goes (request_with m signature a ∷ [])) (SignatureQuestion number algorithm blob input) e in
          let name : algorithm ≡ own = cc in
          let key : blob ≡ m.blob own secret = cc in
          two.1 ∙ rw (is, name, key) refl

  -- none is left: then nothing is asked
  pub asked_some : (session : List ℕ) (left : List AttemptData) (q : QuestionData) → asked_in (attempt_step m session left) ≡ Some q → (a : AttemptData) × (later : List AttemptData) × (left ≡ a ∷ later)
  asked_some session [] q asks = absurd cc
  asked_some session (a ∷ later) q asks = (a, later, refl)

-- what is kept of each message is what its answer needs
module _ (m : SuiteData) (role : Side) (config : ConfigData) (known : Known) (c : MessageData) where
  pub reply_fits : (host_key share signature : List ℕ) → number_of c ≡ 31 → share_read (Ok c) ≡ share → host_key_read (Ok c) ≡ host_key → step m role config known c ≡ reply_step m role config known c signature
      → length share ≤ PACKET_LIMIT → length host_key ≤ PACKET_LIMIT → length signature ≤ PACKET_LIMIT → (p : Pending) → KeepsReply host_key share signature p → FitsPending m role config known c p
  reply_fits host_key share signature number read told is a b e (pending.Reply algorithm own_host_key own_share own_signature) (x, y, z) =
      subst (λ (h : List ℕ). IsReplyKept m role config known c h own_share.items own_signature.items) (sym x)
      (subst (λ (s : List ℕ). IsReplyKept m role config known c host_key s own_signature.items) (sym y)
      (subst (λ (g : List ℕ). IsReplyKept m role config known c host_key share g) (sym z)
      (record { number = number; share_is = read; host_key_is = told; step_is = is; short_share = a; short_host_key = b; short_signature = e })))
  reply_fits host_key share signature number read told is a b e (pending.Init algorithm prepared) k = absurd k
  reply_fits host_key share signature number read told is a b e (pending.Request n user service claim) k = absurd k
  reply_fits host_key share signature number read told is a b e (pending.Attempt skipped confirms n algorithm blob input) k = absurd k

  pub init_fits : (share : List ℕ) → number_of c ≡ 30 → share_read (Ok c) ≡ share → (p : Pending) → KeepsShare m role config known share p → FitsPending m role config known c p
  init_fits share number read (pending.Init algorithm prepared) k = (share, number, read, k)
  init_fits share number read (pending.Reply algorithm own_host_key own_share own_signature) k = absurd k
  init_fits share number read (pending.Request n user service claim) k = absurd k
  init_fits share number read (pending.Attempt skipped confirms n algorithm blob input) k = absurd k

  pub request_fits : (user service : List ℕ) (method : MethodData) → c ≡ UserauthRequest user service method → (p : Pending) → KeepsRequest config known user service method p → FitsPending m role config known c p
  request_fits user service method is (pending.Request n own_user own_service claim) (x, y, k) = (method, rw (is, x, y) refl, k)
  request_fits user service method is (pending.Init algorithm prepared) k = absurd k
  request_fits user service method is (pending.Reply algorithm own_host_key own_share own_signature) k = absurd k
  request_fits user service method is (pending.Attempt skipped confirms n algorithm blob input) k = absurd k

  attempt_fits : (skipped : ℕ) (confirms : Bool) → IsMadeAfter m known c skipped confirms → (p : Pending) → FitsAttempt skipped confirms p → FitsPending m role config known c p
  attempt_fits skipped confirms after (pending.Attempt own_skipped own_confirms n algorithm blob input) (x, y, a, b) =
      (subst (λ (k : ℕ). IsMadeAfter m known c k own_confirms) (sym x) (subst (λ (k : Bool). IsMadeAfter m known c skipped k) (sym y) after), a, b)
  attempt_fits skipped confirms after (pending.Init algorithm prepared) k = absurd k
  attempt_fits skipped confirms after (pending.Reply algorithm own_host_key own_share own_signature) k = absurd k
  attempt_fits skipped confirms after (pending.Request n user service claim) k = absurd k

  pub accept_fits : (service : List ℕ) → c ≡ ServiceAccept service → (p : Pending) → FitsAttempt 0 false p → FitsPending m role config known c p
  accept_fits service is p fits = attempt_fits 0 false (Accepted service is refl refl) p fits

  pub failure_fits : (listed : List (List ℕ)) (partial : Bool) → c ≡ UserauthFailure listed partial → (p : Pending) → SkipsTo (next_after listed known.left) known.left p → FitsPending m role config known c p
  failure_fits listed partial is p (skipped, next, fits) = attempt_fits skipped false (Failed listed partial is next refl) p fits

  pub pk_ok_fits : (algorithm key : List ℕ) → c ≡ UserauthPkOk algorithm key → (p : Pending) → FitsAttempt 0 true p × (answers_query m algorithm key known.left ≡ true) → FitsPending m role config known c p
  pk_ok_fits algorithm key is p (fits, about) = attempt_fits 0 true (Confirmed algorithm key is about refl refl) p fits

-- what is so of a value, if there is one
pub some_weaker : {A : Type 0} (P Q : A → Type 0) (o : Option A) → ((x : A) → P x → Q x) → IfSome o P → IfSome o Q
some_weaker P Q None f p = tt
some_weaker P Q (Some x) f p = f x p

-- Of the messages of a key exchange method, one that asks nothing is a client's share.
module _ (m : SuiteData) (role : Side) (config : ConfigData) (known : Known) where
  pub only_init : (x : Message) → ((e : Mpint) → x ≡ message.KexdhInit e → ⊥) → ((share : Bor (List ℕ)) → x ≡ message.KexEcdhInit share → ⊥)
      → is_of_method (number_of (message_data x)) ≡ true → asked_in (step m role config known (message_data x)) ≡ None → ⊥
  only_init (message.Disconnect reason description language) a b n calm = cc
  only_init (message.Ignore bytes) a b n calm = cc
  only_init (message.Unimplemented number) a b n calm = cc
  only_init (message.Debug always text language) a b n calm = cc
  only_init (message.ServiceRequest service) a b n calm = cc
  only_init (message.ServiceAccept service) a b n calm = cc
  only_init (message.ExtInfo extensions) a b n calm = cc
  only_init (message.KexInit k) a b n calm = cc
  only_init message.NewKeys a b n calm = cc
  only_init (message.KexdhInit e) a b n calm = a e refl
  only_init (message.KexEcdhInit share) a b n calm = b share refl
  only_init (message.KexdhReply host_key f signature) a b n calm =
      reply_not_calm m role config known (message_data (message.KexdhReply host_key f signature)) signature.now (step_kexdh_reply m role config known (message_data (message.KexdhReply host_key f signature)) host_key.now f signature.now refl) calm
  only_init (message.KexEcdhReply host_key share signature) a b n calm =
      reply_not_calm m role config known (message_data (message.KexEcdhReply host_key share signature)) signature.now (step_kex_ecdh_reply m role config known (message_data (message.KexEcdhReply host_key share signature)) host_key.now share.now signature.now refl) calm
  only_init (message.UserauthRequest user service request) a b n calm = cc
  only_init (message.UserauthFailure methods partial) a b n calm = cc
  only_init message.UserauthSuccess a b n calm = cc
  only_init (message.UserauthBanner text language) a b n calm = cc
  only_init (message.UserauthPkOk algorithm key) a b n calm = cc

-- what is so of a value, if there is one, by two things that are
pub both_weaker : {A E : Type 0} (r : Result (Option A) E) (P Q R : A → Type 0) → ((x : A) → P x → Q x → R x) → IfOk r (λ o. IfSome o P) → IfOk r (λ o. IfSome o Q) → IfOk r (λ o. IfSome o R)
both_weaker (Ok None) P Q R f p q = tt
both_weaker (Ok (Some x)) P Q R f p q = f x p q
both_weaker (Err e) P Q R f p q = tt

pub ok_both : {A E : Type 0} (r : Result A E) (P Q R : A → Type 0) → ((x : A) → P x → Q x → R x) → IfOk r P → IfOk r Q → IfOk r R
ok_both (Ok x) P Q R f p q = f x p q
ok_both (Err e) P Q R f p q = tt

-- the attempts that are made next are the last ones of those that were left
listed_drop : (listed : List (List ℕ)) (l : List AttemptData) → next_listed listed l ≡ drop (length l - length (next_listed listed l)) l
unfolding next_listed
listed_drop listed [] = refl
listed_drop listed (a ∷ later) = by (is_in listed (proving_name a.proving)) (listed_drop listed later) (listed_fewer listed later)
  where
    by : (b : Bool) → next_listed listed later ≡ drop (length later - length (next_listed listed later)) later → length (next_listed listed later) ≤ length later
        → cond b (a ∷ later) (next_listed listed later) ≡ drop (length (a ∷ later) - length (cond b (a ∷ later) (next_listed listed later))) (a ∷ later)
    by true rest fewer = let none : length (a ∷ later) - length (a ∷ later) ≡ 0 = omega arith in rw none refl
    by false rest fewer = let more : length (a ∷ later) - length (next_listed listed later) ≡ suc (length later - length (next_listed listed later)) = omega (arith, fewer) in rw more rest

pub next_fewer : (listed : List (List ℕ)) (l : List AttemptData) → length (next_after listed l) ≤ length l
next_fewer listed [] = listed_fewer listed []
next_fewer listed (a ∷ later) = let fewer : length (next_listed listed later) ≤ length later = listed_fewer listed later in omega (arith, fewer)

next_drop : (listed : List (List ℕ)) (l : List AttemptData) → next_after listed l ≡ drop (length l - length (next_after listed l)) l
next_drop listed [] = listed_drop listed []
next_drop listed (a ∷ later) =
    let fewer : length (next_listed listed later) ≤ length later = listed_fewer listed later in
    let more : length (a ∷ later) - length (next_listed listed later) ≡ suc (length later - length (next_listed listed later)) = omega (arith, fewer) in
    rw more (listed_drop listed later)

pub skips_to : (listed : List (List ℕ)) (b : Bool) (l next : List AttemptData) (n k : ℕ) → next ≡ next_after listed l → n ≡ length l → k ≡ length next
    → (p : Pending) → FitsAttempt (n - k) false p → SkipsTo (next_after listed (left_of b l)) (left_of b l) p
skips_to listed b l next n k is counts short p fits =
    let same : n - k ≡ length l - length (next_after listed l) = ap (λ (x : ℕ). x - k) counts ∙ ap (λ (x : ℕ). length l - x) (short ∙ ap length is) in
    (n - k, by b, fits)
  where
    taken : (l : List AttemptData) → n ≡ length l → next ≡ next_after listed l → next_after listed l ≡ drop (n - k) l
    taken l counts is = let same : n - k ≡ length l - length (next_after listed l) = ap (λ (x : ℕ). x - k) counts ∙ ap (λ (x : ℕ). length l - x) (short ∙ ap length is) in next_drop listed l ∙ ap (λ (x : ℕ). drop x l) (sym same)

    confirmed_length : (l : List AttemptData) → length (confirmed l) ≡ length l
    confirmed_length [] = refl
    confirmed_length (a ∷ later) = refl

    by : (b : Bool) → next_after listed (left_of b l) ≡ drop (n - k) (left_of b l)
    by true = taken (confirmed l) (counts ∙ sym (confirmed_length l)) (is ∙ left_next true listed l)
    by false = taken l counts is

-- a message that asks nothing, whatever is known
module _ (m : SuiteData) (role : Side) (config : ConfigData) (known : Known) where
  pub quiet_asks : (x : Message) → ((e : Mpint) → x ≡ message.KexdhInit e → ⊥) → ((share : Bor (List ℕ)) → x ≡ message.KexEcdhInit share → ⊥)
      → ((host_key : Bor (List ℕ)) (f : Mpint) (signature : Bor (List ℕ)) → x ≡ message.KexdhReply host_key f signature → ⊥) → ((host_key share signature : Bor (List ℕ)) → x ≡ message.KexEcdhReply host_key share signature → ⊥)
      → ((service : Bor (List ℕ)) → x ≡ message.ServiceAccept service → ⊥) → ((user service : Bor (List ℕ)) (request : Method) → x ≡ message.UserauthRequest user service request → ⊥)
      → ((methods : List (List ℕ)) (partial : Bool) → x ≡ message.UserauthFailure methods partial → ⊥) → ((algorithm key : Bor (List ℕ)) → x ≡ message.UserauthPkOk algorithm key → ⊥)
      → ◌≡◌ {A = Option QuestionData} None (asked_in (step m role config known (message_data x)))
  unfolding step
  quiet_asks (message.KexdhInit share) a b e f g h i j = absurd (a share refl)
  quiet_asks (message.KexEcdhInit share) a b e f g h i j = absurd (b share refl)
  quiet_asks (message.KexdhReply host_key s signature) a b e f g h i j = absurd (e host_key s signature refl)
  quiet_asks (message.KexEcdhReply host_key share signature) a b e f g h i j = absurd (f host_key share signature refl)
  quiet_asks (message.ServiceAccept service) a b e f g h i j = absurd (g service refl)
  quiet_asks (message.UserauthRequest user service request) a b e f g h i j = absurd (h user service request refl)
  quiet_asks (message.UserauthFailure methods partial) a b e f g h i j = absurd (i methods partial refl)
  quiet_asks (message.UserauthPkOk algorithm key) a b e f g h i j = absurd (j algorithm key refl)
  quiet_asks _ a b e f g h i j = refl

-- what is kept of a request fits its decision
pub claim_fits : (config : ConfigData) (known : Known) (method : MethodData) (c : Claim) → KeepsMethod config known method c → FitsClaim config known (claim_method c)
claim_fits config known method claim.None k = tt
claim_fits config known method (claim.Password password) k = tt
claim_fits config known method (claim.Query algorithm blob) k = (k.1, k.2, k.3)
claim_fits config known method (claim.Key algorithm blob) k = k.2

-- a client that is to make an attempt has had the exchange
pub attempt_late : (m : SuiteData) (role : Side) (old : StateData) (payload : List ℕ) (c : MessageData) → HasPlace role old payload c → (skipped : ℕ) (confirms : Bool)
    → IsMadeAfter m old.known c skipped confirms → past_kexinit old.phase ≡ true
attempt_late m role old payload c has skipped confirms (Accepted service is none off) = ap past_kexinit (works.at_accept role old payload c has (ap number_of is)).phase_is
attempt_late m role old payload c has skipped confirms (Failed listed partial is next off) = ap past_kexinit (works.at_failure role old payload c has (ap number_of is)).phase_is
attempt_late m role old payload c has skipped confirms (Confirmed algorithm key is about none on) = ap past_kexinit (works.at_confirmation role old payload c has (ap number_of is)).phase_is

-- A client trusts the host key that it asks about, if the answer is yes.
pub reply_trusts : (m : SuiteData) (d : DecisionsData) (role : Side) (config : ConfigData) (known : Known) (c : MessageData) (algorithm host_key signature : List ℕ) (answer : AnswerData) → role ≡ Client
    → host_key_read (Ok c) ≡ host_key → step m role config known c ≡ reply_step m role config known c signature → asked_in (step m role config known c) ≡ Some (HostKeyQuestion algorithm host_key)
    → decided d (HostKeyQuestion algorithm host_key) ≡ taken (HostKeyQuestion algorithm host_key) answer → d.host_key known.algorithms.host_key host_key ≡ is_yes answer
reply_trusts m d role config known c algorithm host_key signature answer client read is asks agrees =
    let own : Some (HostKeyQuestion known.algorithms.host_key host_key) ≡ asked_in (reply_step m role config known c signature) = reply_asks m role config known c client host_key signature read in
    let both : Some (HostKeyQuestion known.algorithms.host_key host_key) ≡ Some (HostKeyQuestion algorithm host_key) = own ∙ (ap asked_in (sym is) ∙ asks) in
    let same : known.algorithms.host_key ≡ algorithm = cc in
    let yes : d.host_key algorithm host_key ≡ is_yes answer = cc in
    ap (λ (name : List ℕ). d.host_key name host_key) same ∙ yes
