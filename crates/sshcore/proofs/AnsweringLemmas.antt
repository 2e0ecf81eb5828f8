-- A packet that asked is answered by what is kept of it, as all decisions that answer so would have it.

use Rattle.std.proofs.Common.{◌≡◌, ℕ, Bool, true, false, cond, List, [], ◌∷◌, drop, Option, Some, Ok, refl, sym, ap, subst, ◌∙◌, arith}
use Rattle.std.specs.Prelude.{◌&&◌}
use Rattle.std.specs.Str.{bytes_eq}
use Rattle.sshmsg.specs.MessageData.{KexEcdhInit, KexdhInit, MessageData, MethodData, UserauthRequest}
use Rattle.sshmsg.specs.Numbers.{number_of}
use Rattle.sshmsg.specs.Written.{written_message}
use Rattle.sshneg.specs.declared.side.Side.{Side}
use Rattle.sshneg.specs.declared.side.Side.TheVariants.{Server}
use Rattle.sshneg.specs.ExchangeEnd.{exchange_hash}
use Rattle.sshpacket.specs.Stream.{Units}
use Rattle.sshpacket.specs.Suite.{SuiteData, response_data}
use Rattle.sshcore.specs.declared.end.Fault.TheVariants as fault
use Rattle.sshcore.specs.declared.pending.Claim.{Claim}
use Rattle.sshcore.specs.declared.pending.Claim.TheVariants as claim
use Rattle.sshcore.specs.declared.pending.Prepared.{Prepared}
use Rattle.sshcore.specs.declared.phase_table.Phase.TheVariants as phase
use Rattle.sshcore.specs.Attempts.{answers_query, attempt_step, signed_method}
use Rattle.sshcore.specs.Authenticating.{claimed_reply, claims, counted_request, tried_key}
use Rattle.sshcore.specs.Comes.{ComesPlainly}
use Rattle.sshcore.specs.ConfigParts.{AttemptData}
use Rattle.sshcore.specs.EndData.{Reply, fails, goes}
use Rattle.sshcore.specs.EndpointParts.{ConfigData, DecisionsData, Setup}
use Rattle.sshcore.specs.Exchange.{secret_of, share_read}
use Rattle.sshcore.specs.Exchanged.{exchange_of_message, exchanged, server_shares}
use Rattle.sshcore.specs.Judging.{Accepted, Confirmed, Failed, IsMadeAfter, KeepsMethod}
use Rattle.sshcore.specs.KnownBefore.{Known}
use Rattle.sshcore.specs.Plan.{confirmed, next_after}
use Rattle.sshcore.specs.Prepared.{IsPrepared}
use Rattle.sshcore.specs.Questions.{AnswerData, SignatureQuestion, decided, found_in, taken}
use Rattle.sshcore.specs.QuestionsView.{claim_method}
use Rattle.sshcore.specs.Signatures.{fitting}
use Rattle.sshcore.specs.ReplyView.{replied}
use Rattle.sshcore.specs.StateData.{StateData, left_of}
use Rattle.sshcore.specs.Step.{AtOnce, Step, asked_in, settled}
use Rattle.sshcore.specs.Tries.{tried_with}
use Rattle.sshcore.specs.Work.{init_step, signed_reply, step, userauth, work}
use Rattle.sshcore.proofs.ExchangeLemmas.{settled_asked, unheld_asks}
use Rattle.sshcore.proofs.PendingLemmas.{asked_attempt, asked_some, step_accept, step_failure, step_pk_ok}
use Rattle.sshcore.proofs.WorksLemmas as works
use Rattle.sshcore.proofs.WorksLemmas.{HasPlace}

-- a client's share, in either form
pub step_init : (m : SuiteData) (role : Side) (config : ConfigData) (known : Known) (c : MessageData) → number_of c ≡ 30 → step m role config known c ≡ init_step m role config known c
unfolding step
step_init m role config known (KexdhInit e) n = refl
step_init m role config known (KexEcdhInit share) n = refl
step_init m role config known _ n = absurd (omega (arith, n))

-- A server answers a share by the signature that was given.
pub init_signs : (m : SuiteData) (d : DecisionsData) (role : Side) (config : ConfigData) (known : Known) (c : MessageData) (share : List ℕ) (p : Prepared) (algorithm : List ℕ) (answer : AnswerData) → role ≡ Server
    → number_of c ≡ 30 → share_read (Ok c) ≡ share → IsPrepared m role config known share p → m.holds known.algorithms.host_key (secret_of config.host_keys known.algorithms.host_key) ≡ false
    → asked_in (step m role config known c) ≡ Some (SignatureQuestion 0 algorithm p.host_key.items p.hash.items)
    → decided d (SignatureQuestion 0 algorithm p.host_key.items p.hash.items) ≡ taken (SignatureQuestion 0 algorithm p.host_key.items p.hash.items) answer
    → settled d (init_step m Server config known c) ≡ signed_reply config known (exchange_of_message m Server config known c) (fitting (found_in answer))
init_signs m d role config known c share p algorithm answer server number read is off asks agrees =
    let secret : List ℕ = secret_of config.host_keys known.algorithms.host_key in
    let hash : p.hash.items ≡ exchange_hash m known.algorithms.kex (exchanged Server config known (server_shares m config known share (response_data p.response))) =
    subst (λ (r : Side). p.hash.items ≡ exchange_hash m known.algorithms.kex (exchanged r config known (server_shares m config known share (response_data p.response)))) server is.hash in
    let own : Some (SignatureQuestion 0 known.algorithms.host_key (m.blob known.algorithms.host_key secret) (exchange_hash m known.algorithms.kex (exchanged Server config known (server_shares m config known share (response_data p.response)))))
    ≡ asked_in (init_step m Server config known c) = unheld_asks m config known c share read Server (response_data p.response) refl is.response off in
    let here : asked_in (init_step m Server config known c) ≡ Some (SignatureQuestion 0 algorithm p.host_key.items p.hash.items) =
    ap (λ (r : Side). asked_in (init_step m r config known c)) (sym server) ∙ (ap asked_in (sym (step_init m role config known c number)) ∙ asks) in
    let both : Some (SignatureQuestion 0 known.algorithms.host_key (m.blob known.algorithms.host_key secret) (exchange_hash m known.algorithms.kex (exchanged Server config known (server_shares m config known share (response_data p.response)))))
    ≡ Some (SignatureQuestion 0 algorithm p.host_key.items p.hash.items) = own ∙ here in
    let name : known.algorithms.host_key ≡ algorithm = cc in
    let found : d.signature 0 algorithm p.host_key.items p.hash.items ≡ found_in answer = cc in
    settled_asked m config known c share read d (response_data p.response) p.hash.items is.response off hash
    ∙ ap (λ (o : Option (List ℕ)). signed_reply config known (exchange_of_message m Server config known c) (fitting o))
    (ap (λ (l : List ℕ). d.signature 0 l (m.blob known.algorithms.host_key secret) p.hash.items) name ∙ (ap (λ (l : List ℕ). d.signature 0 algorithm l p.hash.items) (sym is.host_key) ∙ found))

-- what is kept of a request is enough for its reply, and for what it comes to
module _ (config : ConfigData) (known : Known) (method : MethodData) where
  pub claimed_kept : (user service : List ℕ) (c : Claim) → KeepsMethod config known method c → (b : Bool) → claimed_reply config known user service (claim_method c) b ≡ claimed_reply config known user service method b
  claimed_kept user service claim.None k b = rw k refl
  claimed_kept user service (claim.Password password) k b = rw k refl
  claimed_kept user service (claim.Query algorithm blob) k b = rw k.0 refl
  claimed_kept user service (claim.Key algorithm blob) k b = rw k.1 refl

  pub counted_kept : (old new : StateData) (user service : List ℕ) (c : Claim) → KeepsMethod config known method c → (b : Bool)
      → new ≡ record old { end = new.end; known = counted_request old.known (tried_with user service (claim_method c) (claims (claim_method c) && b)); carried = tried_key old.carried (claim_method c) (claims (claim_method c) && b) }
      → new ≡ record old { end = new.end; known = counted_request old.known (tried_with user service method (claims method && b)); carried = tried_key old.carried method (claims method && b) }
  counted_kept old new user service claim.None k b e = rw k e
  counted_kept old new user service (claim.Password password) k b e = rw k e
  counted_kept old new user service (claim.Query algorithm blob) k b e = rw k.0 e
  counted_kept old new user service (claim.Key algorithm blob) k b e = rw k.1 e

-- A client makes the attempt by the signature that was given.
module _ (setup : Setup) (old new : StateData) (payload : List ℕ) (answers : Units) (c : MessageData) (has : HasPlace setup.role old payload c) (number : ℕ) (algorithm blob input : List ℕ) (signature : Option (List ℕ))
    (found : signature ≡ fitting (found_in (decided setup.decisions (SignatureQuestion number algorithm blob input))))
    (asks : asked_in (step setup.suite setup.role setup.config old.known c) ≡ Some (SignatureQuestion number algorithm blob input)) where
  abbrev Made : List AttemptData → Type 0
  Made left = (a : AttemptData) (later : List AttemptData) → left ≡ a ∷ later
      → replied answers new.end ≡ goes (written_message (UserauthRequest a.user a.service (signed_method algorithm blob signature)) ∷ [])

  abbrev KeepsLeft : List AttemptData → Type 0
  KeepsLeft left = new ≡ record old { phase = phase.Auth; known = record old.known { left = left; first = false } }

  -- the attempt is the first of those that are left
  made_first : (left : List AttemptData) → asked_in (attempt_step setup.suite old.known.session left) ≡ Some (SignatureQuestion number algorithm blob input) → Made left
      → replied answers new.end ≡ settled setup.decisions (attempt_step setup.suite old.known.session left)
  made_first left q made =
      let one = asked_some setup.suite setup.decisions old.known.session left (SignatureQuestion number algorithm blob input) q in
      let first : asked_in (attempt_step setup.suite old.known.session (one.0 ∷ one.1)) ≡ Some (SignatureQuestion number algorithm blob input) =
      subst (λ (l : List AttemptData). asked_in (attempt_step setup.suite old.known.session l) ≡ Some (SignatureQuestion number algorithm blob input)) one.2 q in
      made one.0 one.1 one.2
      ∙ (ap (λ (o : Option (List ℕ)). goes (written_message (UserauthRequest one.0.user one.0.service (signed_method algorithm blob o)) ∷ [])) found
      ∙ (sym (asked_attempt setup.suite setup.decisions old.known.session one.0 one.1 number algorithm blob input first)
      ∙ ap (λ (l : List AttemptData). settled setup.decisions (attempt_step setup.suite old.known.session l)) (sym one.2)))

  -- by a test, of which one outcome asks
  tested : (b : Bool) (s : Step) (r : Reply) → asked_in (cond b s (AtOnce r)) ≡ Some (SignatureQuestion number algorithm blob input)
      → (asked_in s ≡ Some (SignatureQuestion number algorithm blob input)) × (settled setup.decisions s ≡ settled setup.decisions (cond b s (AtOnce r)))
  tested true s r q = (q, refl)
  tested false s r q = absurd cc

  pub attempt_works : (skipped : ℕ) (confirms : Bool) → IsMadeAfter setup.suite old.known c skipped confirms → Made (left_of confirms (drop skipped old.known.left)) → KeepsLeft (left_of confirms (drop skipped old.known.left))
      → ComesPlainly setup old new payload answers (work setup old.known c)
  attempt_works skipped confirms (Accepted service is none off) made kept =
      let left : left_of confirms (drop skipped old.known.left) ≡ old.known.left = rw (none, off) refl in
      let q = tested (bytes_eq service userauth) (attempt_step setup.suite old.known.session old.known.left) (fails (fault.Unexpected 6))
      (ap asked_in (sym (step_accept setup.suite setup.role setup.config old.known c service is)) ∙ asks) in
      works.accept_works setup old new payload answers c has service is
      (made_first old.known.left q.0 (subst Made left made) ∙ q.1)
      (ap (λ (k : StateData). k.sending) kept)
      (ap (λ (k : StateData). k.carried) kept)
      (λ goes_on. record {
        phase_is = ap (λ (k : StateData). k.phase) kept;
        guess_is = ap (λ (k : StateData). k.guess) kept;
        known_is = ap (λ (k : StateData). k.known) kept ∙ ap (λ (l : List AttemptData). record old.known { left = l; first = false }) left;
      })
  attempt_works skipped confirms (Failed listed partial is next off) made kept =
      let left : left_of confirms (drop skipped old.known.left) ≡ next_after listed old.known.left = rw off (sym next) in
      let at = works.at_failure setup.role old payload c has (ap number_of is) in
      works.failure_works setup old new payload answers c has listed partial is
      (made_first (next_after listed old.known.left) (ap asked_in (sym (step_failure setup.suite setup.role setup.config old.known c listed partial is)) ∙ asks) (subst Made left made))
      (ap (λ (k : StateData). k.sending) kept)
      (stays (next_after listed old.known.left) at.phase_is (subst KeepsLeft left kept))
    where
      stays : (l : List AttemptData) → old.phase ≡ phase.Auth → KeepsLeft l → new ≡ record old { end = new.end; known = record old.known { left = l; first = false } }
      stays l at e = e ∙ (ap (λ p. record old { phase = p; known = record old.known { left = l; first = false } }) (sym at)
          ∙ ap (λ x. record old { end = x; known = record old.known { left = l; first = false } }) (sym (ap (λ (k : StateData). k.end) e)))
  attempt_works skipped confirms (Confirmed name key is about none on) made kept =
      let left : left_of confirms (drop skipped old.known.left) ≡ confirmed old.known.left = rw (none, on) refl in
      let at = works.at_confirmation setup.role old payload c has (ap number_of is) in
      let q = tested (answers_query setup.suite name key old.known.left) (attempt_step setup.suite old.known.session (confirmed old.known.left)) (fails (fault.Unexpected 60))
      (ap asked_in (sym (step_pk_ok setup.suite setup.role setup.config old.known c name key is)) ∙ asks) in
      works.pk_ok_works setup old new payload answers c has name key is
      (made_first (confirmed old.known.left) q.0 (subst Made left made) ∙ q.1)
      (ap (λ (k : StateData). k.sending) kept)
      (λ goes_on. stays (confirmed old.known.left) at.phase_is (subst KeepsLeft left kept))
    where
      stays : (l : List AttemptData) → old.phase ≡ phase.Auth → KeepsLeft l → new ≡ record old { end = new.end; known = record old.known { left = l; first = false } }
      stays l at e = e ∙ (ap (λ p. record old { phase = p; known = record old.known { left = l; first = false } }) (sym at)
          ∙ ap (λ x. record old { end = x; known = record old.known { left = l; first = false } }) (sym (ap (λ (k : StateData). k.end) e)))
