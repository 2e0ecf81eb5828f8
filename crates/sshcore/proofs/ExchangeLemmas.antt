-- What an endpoint does at the peer's exchange message, by what it has worked out.

use Rattle.std.proofs.Common.{◌≡◌, inl, inr, ℕ, zero, suc, ◌≤◌, ◌==◌, Bool, true, false, List, [], ◌∷◌, ◌++◌, length, Option, None, Some, Ok, refl, sym, ap, ◌∙◌, subst, arith}
use Rattle.std.specs.Prelude.{◌&&◌, nat_lt, option_map}
use Rattle.std.proofs.lemmas.Bool.{cases_Bool}
use Rattle.sshwire.specs.Types.{IsBytes}
use Rattle.sshwire.specs.declared.share_form.ShareForm.{ShareForm}
use Rattle.sshwire.specs.declared.share_form.ShareForm.TheVariants.{Hybrid, Mpint, OctetString}
use Rattle.sshmsg.specs.MessageData.{MessageData, NewKeys, ServiceRequest}
use Rattle.sshmsg.specs.Numbers.{message_number}
use Rattle.sshmsg.specs.Written.{written_message}
use Rattle.sshneg.specs.declared.side.Side.{Side}
use Rattle.sshneg.specs.declared.side.Side.TheVariants.{Client, Server}
use Rattle.sshneg.specs.Derivations.{ExchangeData}
use Rattle.sshneg.specs.ExchangeEnd.{exchange_by, exchange_hash}
use Rattle.sshneg.specs.Fields.{AlgorithmsData}
use Rattle.sshneg.specs.Markers.{other}
use Rattle.sshpacket.specs.KeysData.{KeysData}
use Rattle.sshpacket.specs.Stream.{Units}
use Rattle.sshpacket.specs.declared.limits.TheConstants.{SHARE_LIMIT}
use Rattle.sshpacket.specs.declared.suite.Response.{Response}
use Rattle.sshpacket.specs.Suite.{FitsShare, FitsShared, ResponseData, SuiteData, response_data}
use Rattle.sshcore.specs.declared.end.Fault.{Fault}
use Rattle.sshcore.specs.declared.end.Fault.TheVariants as fault
use Rattle.sshcore.specs.declared.phase_table.Phase.TheVariants as phase
use Rattle.sshcore.specs.declared.reply.Reply as reply
use Rattle.sshcore.specs.declared.reply.Switch as switch
use Rattle.sshcore.specs.Brings.{IsOngoing, StandsAt}
use Rattle.sshcore.specs.Comes.{SwitchesTo}
use Rattle.sshcore.specs.EndData.{EndData, Failed, Open, Reply, fails, goes}
use Rattle.sshcore.specs.Exchange.{answer_with, exchange_with, host_key_read, keys_by, secret_of, share_read}
use Rattle.sshcore.specs.Exchanged.{Accepts, AnswersInit, FailsBy, HasForm, JudgesReply, ReceivesExchange, Refuses, StandsAfter, client_shares, exchange_of_message, exchanged, kex_keys, server_shares, switching}
use Rattle.sshcore.specs.History.{FitsPacket}
use Rattle.sshcore.specs.StateData.{StateData, with_exchange}
use Rattle.sshcore.specs.ReplyView.{answers_of, replied}
use Rattle.sshcore.specs.EndpointParts.{ConfigData, DecisionsData}
use Rattle.sshcore.specs.KnownBefore.{Known}
use Rattle.sshcore.specs.Phases.{past_exchange, past_kexinit}
use Rattle.sshcore.specs.Prepared.{IsPrepared, IsPreparedBy}
use Rattle.sshcore.specs.declared.pending.Prepared.{Prepared}
use Rattle.sshcore.specs.Questions.{QuestionData, SignatureQuestion}
use Rattle.sshcore.specs.Signatures.{fitting}
use Rattle.sshcore.specs.Step.{asked_in, settled}
use Rattle.sshcore.specs.Work.{answered_step, init_step, reply_in, reply_step, signed_by, signed_reply, told_by, userauth}

-- a share and a shared secret in their form are short
pub share_short : (form : ShareForm) (share : List ℕ) → FitsShare form share → length share ≤ SHARE_LIMIT
share_short Mpint share h = h.short
share_short OctetString share h = h
share_short Hybrid share h = h

pub shared_short : (form : ShareForm) (shared : List ℕ) → FitsShared form shared → length shared ≤ SHARE_LIMIT
shared_short Mpint shared h = h.short
shared_short OctetString shared (inl e) = rw e (omega arith)
shared_short OctetString shared (inr h) = h.short
shared_short Hybrid shared h = h

-- a decision on a name, of an equal one
pub decided : (decide : List ℕ → Bool) (name other_name : List ℕ) (answer b : Bool) → name ≡ other_name → answer ≡ decide name → answer ≡ b → decide other_name ≡ b
decided decide name other_name answer b e is known = cc

-- what is made by a name and bytes, of equal ones
pub made_none : {A : Type 0} (view : A → List ℕ) (make : List ℕ → List ℕ → Option (List ℕ)) (name other_name bytes other_bytes : List ℕ) (o : Option A)
    → name ≡ other_name → bytes ≡ other_bytes → option_map view o ≡ make name bytes → o ≡ None → make other_name other_bytes ≡ None
made_none view make name other_name bytes other_bytes o e f is none =
    let made : option_map view o ≡ None = ap (option_map view) none in
    cc

pub made_some : {A : Type 0} (view : A → List ℕ) (make : List ℕ → List ℕ → Option (List ℕ)) (name other_name bytes other_bytes : List ℕ) (o : Option A) (x : A)
    → name ≡ other_name → bytes ≡ other_bytes → option_map view o ≡ make name bytes → o ≡ Some x → make other_name other_bytes ≡ Some (view x)
made_some view make name other_name bytes other_bytes o x e f is some =
    let made : option_map view o ≡ Some (view x) = ap (option_map view) some in
    cc

-- the answer that a suite gives, without where it lies in memory
pub given_none : (o : Option Response) (given : Option ResponseData) → option_map (λ r. response_data r) o ≡ given → o ≡ None → given ≡ None
given_none o given is none =
    let made : option_map (λ r. response_data r) o ≡ None = ap (option_map (λ r. response_data r)) none in
    cc

pub given_answer : (o : Option Response) (given : Option ResponseData) (r : Response) → option_map (λ r. response_data r) o ≡ given → o ≡ Some r → given ≡ Some (response_data r)
given_answer o given r is some =
    let made : option_map (λ r. response_data r) o ≡ Some (response_data r) = ap (option_map (λ r. response_data r)) some in
    cc

-- the test that a list has bytes
are_bytes : List ℕ → Bool
are_bytes [] = true
are_bytes (b ∷ bs) = nat_lt b 256 && are_bytes bs

tested_bytes : (bytes : List ℕ) → are_bytes bytes ≡ true → IsBytes bytes
unfolding are_bytes
tested_bytes [] e i = omega arith
tested_bytes (b ∷ bs) e zero = grind arith
tested_bytes (b ∷ bs) e (suc i) = tested_bytes bs (grind arith) i

-- NEWKEYS fits a packet
pub newkeys_fits : FitsPacket (written_message NewKeys)
unfolding written_message are_bytes
newkeys_fits = record { some = omega arith; short = omega arith; bytes = tested_bytes (written_message NewKeys) refl }

pub newkeys_kind : (message_number (written_message NewKeys) == 21) ≡ true
unfolding written_message
newkeys_kind = refl

pub reply_kind : (form : ShareForm) (host_key share signature : List ℕ) → (message_number (written_message (reply_in form host_key share signature)) == 21) ≡ false
unfolding written_message
reply_kind Mpint host_key share signature = refl
reply_kind OctetString host_key share signature = refl
reply_kind Hybrid host_key share signature = refl

-- the keys of an exchange, by its shared secret and its hash
keys_of_exchange : (m : SuiteData) (a : AlgorithmsData) (x : ExchangeData) (role : Side) → kex_keys m a x.shared (exchange_hash m a.kex x) role ≡ keys_by m a x role
keys_of_exchange m a x Client = refl
keys_of_exchange m a x Server = refl

-- what has failed doesn't go on
not_ongoing : (end : EndData) (f : Fault) → end ≡ Failed f → IsOngoing end → ⊥
not_ongoing end f e (inl on) = cc
not_ongoing end f e (inr (a, on)) = cc

module _ (m : SuiteData) (role : Side) (config : ConfigData) (old new : StateData) (made : reply.Reply) (message : MessageData) where
  -- a failure, whatever is hashed
  pub receives_failure : (f : Fault) (r : Reply) → r ≡ fails f → FailsBy old new f made → ReceivesExchange m role config old new made message r
  receives_failure f r e failed =
      let ends : new.end ≡ Failed f = ap (λ (x : Reply). x.end) failed.reply_is in
      record {
        reply_is = failed.reply_is ∙ sym e;
        switches = subst (λ (o : Option switch.Switch). SwitchesTo o old.known.strict (keys_by m old.known.algorithms (exchange_of_message m role config old.known message) role) new) (sym failed.no_switch) tt;
        unsent = failed.unsent;
        carries = λ on. absurd (not_ongoing new.end f ends on);
        stands = λ on. absurd (not_ongoing new.end f ends on);
      }

  -- where it goes on it stands after the exchange, with these answers, NEWKEYS and what follows it
  receives_on : (x : ExchangeData) (hash : List ℕ) (answers more : Units) → exchange_of_message m role config old.known message ≡ x
      → hash ≡ exchange_hash m old.known.algorithms.kex x → old.end ≡ Open → old.sending.keys ≡ None → StandsAfter m role config old new x.host_key x.shared hash
      → made ≡ switching m role old x.shared hash answers more
      → ReceivesExchange m role config old new made message (goes (answers ++ (written_message NewKeys ∷ more)))
  receives_on x hash answers more e is ongoing clear stands made_is =
      let keys : (side : Side) → kex_keys m old.known.algorithms x.shared hash side ≡ keys_by m old.known.algorithms x side = λ side.
      ap (λ (h : List ℕ). kex_keys m old.known.algorithms x.shared h side) is ∙ keys_of_exchange m old.known.algorithms x side in
      record {
        reply_is = ap (λ (k : reply.Reply). replied (answers_of k) new.end) made_is
            ∙ ap (λ (end : EndData). replied (answers ++ (written_message NewKeys ∷ more)) end) (ap (λ (k : StateData). k.end) stands.kept ∙ ongoing);
        switches = subst (λ (k : reply.Reply). SwitchesTo k.switch old.known.strict (keys_by m old.known.algorithms (exchange_of_message m role config old.known message) role) new) (sym made_is) (
          keys role ∙ ap (λ (y : ExchangeData). keys_by m old.known.algorithms y role) (sym e),
          ap (λ (k : StateData). k.known.strict) stands.kept,
          ap (λ (k : StateData). k.sending.keys) stands.kept ∙ clear,
        );
        unsent = ap (λ (k : StateData). k.sending) stands.kept;
        carries = λ _. subst (λ (y : ExchangeData). new.carried ≡ with_exchange config (keys_by m old.known.algorithms y (other role)) y.host_key old.carried) (sym e)
            (ap (λ (k : StateData). k.carried) stands.kept ∙ ap (λ (k : KeysData). with_exchange config k x.host_key old.carried) (keys (other role)));
        stands = λ _. subst (λ (y : ExchangeData). StandsAt new phase.NewKeys old.guess (record old.known { session = exchange_hash m old.known.algorithms.kex y })) (sym e) (record {
          phase_is = ap (λ (k : StateData). k.phase) stands.kept;
          guess_is = ap (λ (k : StateData). k.guess) stands.kept;
          known_is = ap (λ (k : StateData). k.known) stands.kept ∙ ap (λ (h : List ℕ). record old.known { session = h }) is;
        });
      }

-- What a server asks at this share: nothing where the suite holds its key, or gives no shared secret; else the signature of what is hashed.
module _ (m : SuiteData) (config : ConfigData) (known : Known) (message : MessageData) (share : List ℕ) (read : share_read (Ok message) ≡ share) where
  exchange_of_share : (answer : ResponseData) → m.respond known.algorithms.kex config.random share ≡ Some answer
      → exchange_with m Server config known.algorithms known.version known.kexinit (Ok message) ≡ exchanged Server config known (server_shares m config known share answer)
  unfolding exchange_with exchange_by
  exchange_of_share answer given = rw (read, given) refl

  pub held_asks_none : m.holds known.algorithms.host_key (secret_of config.host_keys known.algorithms.host_key) ≡ true → ◌≡◌ {A = Option QuestionData} None (asked_in (init_step m Server config known message))
  unfolding init_step
  held_asks_none held = by (answer_with m Server config known.algorithms (Ok message))
    where
      by : (o : Option ResponseData) → ◌≡◌ {A = Option QuestionData} None (asked_in (answered_step m config known (exchange_with m Server config known.algorithms known.version known.kexinit (Ok message)) o))
      by None = refl
      by (Some answer) = rw held refl

  pub refused_asks_none : m.respond known.algorithms.kex config.random share ≡ None → ◌≡◌ {A = Option QuestionData} None (asked_in (init_step m Server config known message))
  unfolding init_step
  refused_asks_none none = rw (read, none) refl

  pub unheld_asks : (role : Side) (answer : ResponseData) → role ≡ Server → m.respond known.algorithms.kex config.random share ≡ Some answer
      → m.holds known.algorithms.host_key (secret_of config.host_keys known.algorithms.host_key) ≡ false
      → Some (SignatureQuestion 0 known.algorithms.host_key (m.blob known.algorithms.host_key (secret_of config.host_keys known.algorithms.host_key))
      (exchange_hash m known.algorithms.kex (exchanged role config known (server_shares m config known share answer)))) ≡ asked_in (init_step m Server config known message)
  unfolding init_step
  unheld_asks role answer is given off =
      let own : asked_in (init_step m Server config known message) ≡ Some (SignatureQuestion 0 known.algorithms.host_key (m.blob known.algorithms.host_key (secret_of config.host_keys known.algorithms.host_key))
      (exchange_hash m known.algorithms.kex (exchanged Server config known (server_shares m config known share answer)))) = rw (exchange_of_share answer given, read, given, off) refl in
      ap (λ (r : Side). Some (SignatureQuestion 0 known.algorithms.host_key (m.blob known.algorithms.host_key (secret_of config.host_keys known.algorithms.host_key))
      (exchange_hash m known.algorithms.kex (exchanged r config known (server_shares m config known share answer))))) is ∙ sym own

  -- a server that asks nothing and has answered holds its key
  pub calm_held : (answer : ResponseData) → m.respond known.algorithms.kex config.random share ≡ Some answer → asked_in (init_step m Server config known message) ≡ None
      → m.holds known.algorithms.host_key (secret_of config.host_keys known.algorithms.host_key) ≡ true
  calm_held answer given calm = elim (cases_Bool (m.holds known.algorithms.host_key (secret_of config.host_keys known.algorithms.host_key))) [
    | inl on ↦ on
    | inr off ↦ absurd (let bad : Some _ ≡ None = unheld_asks Server answer refl given off ∙ calm in cc)
  ]

  -- what it replies, whoever decides: it fails without a shared secret, and signs where it holds its key
  pub settled_fails : (d : DecisionsData) → m.respond known.algorithms.kex config.random share ≡ None → settled d (init_step m Server config known message) ≡ fails fault.Exchange
  unfolding init_step
  settled_fails d none = rw (read, none) refl

  -- one that asks nothing and doesn't hold its key has no shared secret
  pub settled_unheld : (d : DecisionsData) → m.holds known.algorithms.host_key (secret_of config.host_keys known.algorithms.host_key) ≡ false
      → asked_in (init_step m Server config known message) ≡ None → settled d (init_step m Server config known message) ≡ fails fault.Exchange
  settled_unheld d off calm = by (m.respond known.algorithms.kex config.random share) refl
    where
      by : (o : Option ResponseData) → m.respond known.algorithms.kex config.random share ≡ o → settled d (init_step m Server config known message) ≡ fails fault.Exchange
      by None none = settled_fails d none
      by (Some answer) given = absurd (let bad : Some _ ≡ None = unheld_asks Server answer refl given off ∙ calm in cc)

  pub settled_held : (d : DecisionsData) (answer : ResponseData) (hash : List ℕ) → m.respond known.algorithms.kex config.random share ≡ Some answer
      → m.holds known.algorithms.host_key (secret_of config.host_keys known.algorithms.host_key) ≡ true
      → hash ≡ exchange_hash m known.algorithms.kex (exchanged Server config known (server_shares m config known share answer))
      → settled d (init_step m Server config known message)
      ≡ signed_reply config known (exchange_of_message m Server config known message) (Some (m.sign known.algorithms.host_key (secret_of config.host_keys known.algorithms.host_key) hash))
  unfolding init_step
  settled_held d answer hash given on is = rw (is, exchange_of_share answer given, read, given, on) refl

  -- and else by the signature that was given
  pub settled_asked : (d : DecisionsData) (answer : ResponseData) (hash : List ℕ) → m.respond known.algorithms.kex config.random share ≡ Some answer
      → m.holds known.algorithms.host_key (secret_of config.host_keys known.algorithms.host_key) ≡ false
      → hash ≡ exchange_hash m known.algorithms.kex (exchanged Server config known (server_shares m config known share answer))
      → settled d (init_step m Server config known message)
      ≡ signed_reply config known (exchange_of_message m Server config known message)
      (fitting (d.signature 0 known.algorithms.host_key (m.blob known.algorithms.host_key (secret_of config.host_keys known.algorithms.host_key)) hash))
  unfolding init_step
  settled_asked d answer hash given off is = rw (is, exchange_of_share answer given, read, given, off) refl

-- The exchange hash of a server that has answered so, its host key, and the message with its signature.
pub record IsSigned (m : SuiteData) (role : Side) (config : ConfigData) (known : Known) (share : List ℕ) (answer : ResponseData) (signature hash host_key payload : List ℕ) : Type 0 where
  pub hash_is : hash ≡ exchange_hash m known.algorithms.kex (exchanged role config known (server_shares m config known share answer))
  pub host_key_is : host_key ≡ (server_shares m config known share answer).host_key
  pub payload_is : payload ≡ written_message (reply_in (m.share_form known.algorithms.kex) (server_shares m config known share answer).host_key answer.share signature)

-- A server, that receives this share.
module _ (m : SuiteData) (config : ConfigData) (old new : StateData) (made : reply.Reply) (message : MessageData) (share : List ℕ) (read : share_read (Ok message) ≡ share) where
  -- what it hashes, once it has answered
  hashed_server : (answer : ResponseData) → m.respond old.known.algorithms.kex config.random share ≡ Some answer
      → exchange_of_message m Server config old.known message ≡ exchanged Server config old.known (server_shares m config old.known share answer)
  unfolding exchange_with exchange_by
  hashed_server answer given = rw (read, given) refl

  -- without a signature it fails
  pub init_unsigned : FailsBy old new fault.Exchange made
      → ReceivesExchange m Server config old new made message (signed_reply config old.known (exchange_of_message m Server config old.known message) None)
  init_unsigned failed = receives_failure m Server config old new made message fault.Exchange (fails fault.Exchange) refl failed

  -- else it answers
  answers_as_server : (answer : ResponseData) (hash host_key payload signature : List ℕ) → m.respond old.known.algorithms.kex config.random share ≡ Some answer
      → old.end ≡ Open → old.phase ≡ phase.Exchange → HasForm m old
      → IsSigned m Server config old.known share answer signature hash host_key payload → AnswersInit m Server config old new host_key answer.shared hash payload made
      → ReceivesExchange m Server config old new made message (signed_reply config old.known (exchange_of_message m Server config old.known message) (Some signature))
  answers_as_server answer hash host_key payload signature given ongoing at form signed sent =
      let x : ExchangeData = exchanged Server config old.known (server_shares m config old.known share answer) in
      let told : Units = told_by config old.known in
      let same : payload ≡ written_message (reply_in old.known.shares x.host_key answer.share signature) =
      signed.payload_is ∙ ap (λ (f : ShareForm). written_message (reply_in f x.host_key answer.share signature)) (sym (form.form (ap past_kexinit at))) in
      let is : signed_reply config old.known (exchange_of_message m Server config old.known message) (Some signature) ≡ goes (payload ∷ written_message NewKeys ∷ told) =
      ap (λ (y : ExchangeData). signed_reply config old.known y (Some signature)) (hashed_server answer given) ∙ ap (λ (p : List ℕ). goes (p ∷ written_message NewKeys ∷ told)) (sym same) in
      subst (λ (r : Reply). ReceivesExchange m Server config old new made message r) (sym is)
      (receives_on m Server config old new made message x hash (payload ∷ []) told (hashed_server answer given) signed.hash_is ongoing (form.clear (ap past_exchange at))
      (subst (λ (h : List ℕ). StandsAfter m Server config old new h answer.shared hash) signed.host_key_is sent.stands) sent.made_is)

  pub init_answers : (role : Side) (answer : ResponseData) (hash host_key payload signature : List ℕ) → role ≡ Server
      → m.respond old.known.algorithms.kex config.random share ≡ Some answer → old.end ≡ Open → old.phase ≡ phase.Exchange → HasForm m old
      → IsSigned m role config old.known share answer signature hash host_key payload → AnswersInit m role config old new host_key answer.shared hash payload made
      → ReceivesExchange m Server config old new made message (signed_reply config old.known (exchange_of_message m Server config old.known message) (Some signature))
  init_answers role answer hash host_key payload signature is given ongoing at form signed sent =
      answers_as_server answer hash host_key payload signature given ongoing at form (subst (λ (r : Side). IsSigned m r config old.known share answer signature hash host_key payload) is signed)
      (subst (λ (r : Side). AnswersInit m r config old new host_key answer.shared hash payload made) is sent)

-- A client, that receives this host key and share.
module _ (m : SuiteData) (d : DecisionsData) (config : ConfigData) (old new : StateData) (made : reply.Reply) (message : MessageData) (host_key share signature : List ℕ)
    (read : share_read (Ok message) ≡ share) (told : host_key_read (Ok message) ≡ host_key) where
  -- what it hashes, once it has made the shared secret
  hashed_client : (shared : List ℕ) → m.shared old.known.algorithms.kex config.random share ≡ Some shared
      → exchange_of_message m Client config old.known message ≡ exchanged Client config old.known (client_shares m config old.known host_key share shared)
  unfolding exchange_with exchange_by
  hashed_client shared given = rw (read, told, given) refl

  -- and what it replies, where it trusts the host key
  reply_is : (shared : List ℕ) → d.host_key old.known.algorithms.host_key host_key ≡ true → m.shared old.known.algorithms.kex config.random share ≡ Some shared
      → settled d (reply_step m Client config old.known message signature)
      ≡ signed_by m old.known (exchanged Client config old.known (client_shares m config old.known host_key share shared)) signature (Some (record { share = share; shared = shared }))
  unfolding reply_step
  reply_is shared trusts given = rw (hashed_client shared given, trusts, read, given) refl

  -- it fails where it doesn't trust the host key
  pub reply_distrusts : d.host_key old.known.algorithms.host_key host_key ≡ false → FailsBy old new fault.HostKey made
      → ReceivesExchange m Client config old new made message (settled d (reply_step m Client config old.known message signature))
  unfolding reply_step exchange_with exchange_by
  reply_distrusts off failed =
      receives_failure m Client config old new made message fault.HostKey (settled d (reply_step m Client config old.known message signature)) (rw (told, off) refl) failed

  -- and where there is no shared secret
  pub reply_fails : d.host_key old.known.algorithms.host_key host_key ≡ true → m.shared old.known.algorithms.kex config.random share ≡ None → FailsBy old new fault.Exchange made
      → ReceivesExchange m Client config old new made message (settled d (reply_step m Client config old.known message signature))
  unfolding reply_step exchange_with exchange_by
  reply_fails trusts none failed =
      receives_failure m Client config old new made message fault.Exchange (settled d (reply_step m Client config old.known message signature)) (rw (told, trusts, read, none) refl) failed

  -- else the signature decides
  judged_as_client : (shared : List ℕ) → d.host_key old.known.algorithms.host_key host_key ≡ true → m.shared old.known.algorithms.kex config.random share ≡ Some shared
      → old.end ≡ Open → old.phase ≡ phase.Exchange → HasForm m old
      → JudgesReply m Client config old new (client_shares m config old.known host_key share shared) signature made
      → ReceivesExchange m Client config old new made message (settled d (reply_step m Client config old.known message signature))
  judged_as_client shared trusts given ongoing at form (Refuses off failed) =
      receives_failure m Client config old new made message fault.Signature (settled d (reply_step m Client config old.known message signature))
      (reply_is shared trusts given ∙ rw off refl) failed
  judged_as_client shared trusts given ongoing at form (Accepts on sent) =
      let x : ExchangeData = exchanged Client config old.known (client_shares m config old.known host_key share shared) in
      let request : List ℕ = written_message (ServiceRequest userauth) in
      let is : settled d (reply_step m Client config old.known message signature) ≡ goes (written_message NewKeys ∷ request ∷ []) = reply_is shared trusts given ∙ rw on refl in
      subst (λ (r : Reply). ReceivesExchange m Client config old new made message r) (sym is)
      (receives_on m Client config old new made message x (exchange_hash m old.known.algorithms.kex x) [] (request ∷ []) (hashed_client shared given) refl ongoing (form.clear (ap past_exchange at)) sent.stands sent.made_is)

  pub reply_judged : (role : Side) (shared body : List ℕ) → role ≡ Client → shared ≡ body → d.host_key old.known.algorithms.host_key host_key ≡ true
      → m.shared old.known.algorithms.kex config.random share ≡ Some body → old.end ≡ Open → old.phase ≡ phase.Exchange → HasForm m old
      → JudgesReply m role config old new (client_shares m config old.known host_key share shared) signature made
      → ReceivesExchange m Client config old new made message (settled d (reply_step m Client config old.known message signature))
  reply_judged role shared body is same trusts given ongoing at form judged =
      judged_as_client body trusts given ongoing at form
      (subst (λ (l : List ℕ). JudgesReply m Client config old new (client_shares m config old.known host_key share l) signature made) same
      (subst (λ (r : Side). JudgesReply m r config old new (client_shares m config old.known host_key share shared) signature made) is judged))

-- what was prepared, and that nothing was
pub prepared_is : (m : SuiteData) (role : Side) (config : ConfigData) (known : Known) (share : List ℕ) (o : Option Prepared) (p : Prepared) → o ≡ Some p → IsPreparedBy m role config known share o → IsPrepared m role config known share p
prepared_is m role config known share o p is by = subst (λ (x : Option Prepared). IsPreparedBy m role config known share x) is by

pub none_prepared : (m : SuiteData) (role : Side) (config : ConfigData) (known : Known) (share : List ℕ) (o : Option Prepared) → o ≡ None → IsPreparedBy m role config known share o → m.respond known.algorithms.kex config.random share ≡ None
none_prepared m role config known share o is by = subst (λ (x : Option Prepared). IsPreparedBy m role config known share x) is by
