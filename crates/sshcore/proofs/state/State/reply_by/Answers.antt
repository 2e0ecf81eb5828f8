use Rattle.std.proofs.Common.{◌≡◌, ◌∷◌, [], List, rules, ℕ, Bool, Option, Some, Bor, option_map, sym, ap, subst, ◌∙◌, string_bytes}
use Rattle.std.proofs.lemmas.Result.{IfOk-weaker}
use Rattle.sshmsg.specs.Numbers.{number_of}
use Rattle.sshneg.specs.declared.side.Side.TheVariants.{Client, Server}
use Rattle.sshcore.specs.declared.pending.Pending.{Pending}
use Rattle.sshcore.specs.EndpointConfig.{config_data, role_of, setup_of}
use Rattle.sshcore.specs.Judging.{FitsPending}
use Rattle.sshcore.specs.Questions.{AnswerData, HostKeyQuestion, SignatureQuestion, decided, found_in, is_yes, taken}
use Rattle.sshcore.specs.QuestionsView.{answer_data, pending_question}
use Rattle.sshcore.specs.StateData.{state_data}
use Rattle.sshcore.specs.Step.{settled}
use Rattle.sshcore.proofs.WorksLemmas as works
use Rattle.sshcore.proofs.WorksLemmas.{has_place}
use Rattle.sshcore.proofs.PendingLemmas.{attempt_late, claim_fits, reply_trusts, step_request}
use Rattle.sshmsg.specs.MessageData.{UserauthRequest}
use Rattle.sshmsg.specs.Written.{written_message}
use Rattle.sshcore.specs.declared.pending.Pending.TheVariants as pending
use Rattle.sshcore.specs.Attempts.{signed_method}
use Rattle.sshcore.specs.Authenticating.{claimed_reply, claims, counted_request, tried_key}
use Rattle.sshcore.specs.declared.reply.Reply as reply
use Rattle.sshcore.specs.Comes.{Comes}
use Rattle.sshcore.specs.EndData.{Reply, goes}
use Rattle.sshcore.specs.Exchanged.{ReceivesExchange, exchange_of_message}
use Rattle.sshcore.specs.Requests.{request_step}
use Rattle.sshcore.specs.Signatures.{fitting}
use Rattle.sshcore.specs.Step.{asked_in}
use Rattle.sshcore.specs.Tries.{tried_with}
use Rattle.sshcore.specs.Work.{reply_step, signed_reply, step, work}
use Rattle.std.specs.Prelude.{◌&&◌}
use Rattle.sshcore.proofs.AnsweringLemmas.{attempt_works, claimed_kept, counted_kept, init_signs, step_init}
use Rattle.sshcore.proofs.RequestLemmas.{asked_request, decided_request}
use Rattle.sshcore.proofs.state.State.reply_by.Goals as goal

pub receive_reply-requires-clause-at : goal.receive_reply-requires-clause-at
receive_reply-requires-clause-at g c =
    let message = c.requires.asks.1 in
    let waits = c.requires.asks.2 in
    let has = has_place c.messages_law.ensures.complete c.numbers_law.ensures.message_number c.numbers_law.ensures.alike (role_of c.args.config.now) (state_data c.args.self.now) c.requires.asks.0 message waits.read.reads waits.read.spelled in
    let fits = subst (λ (p : Pending). FitsPending (g.S.Suite.meaning c.args.suite.now) (role_of c.args.config.now) (config_data c.args.config.now) (state_data c.args.self.now).known message p) c.in-Reply.is waits.fits in
    (works.at_reply _ _ _ _ has fits.number).phase_is

pub receive_reply-requires-clause-client : goal.receive_reply-requires-clause-client
receive_reply-requires-clause-client g c =
    let message = c.requires.asks.1 in
    let waits = c.requires.asks.2 in
    let has = has_place c.messages_law.ensures.complete c.numbers_law.ensures.message_number c.numbers_law.ensures.alike (role_of c.args.config.now) (state_data c.args.self.now) c.requires.asks.0 message waits.read.reads waits.read.spelled in
    let fits = subst (λ (p : Pending). FitsPending (g.S.Suite.meaning c.args.suite.now) (role_of c.args.config.now) (config_data c.args.config.now) (state_data c.args.self.now).known message p) c.in-Reply.is waits.fits in
    (works.at_reply _ _ _ _ has fits.number).side_is

pub receive_reply-requires-clause-host_key : goal.receive_reply-requires-clause-host_key
receive_reply-requires-clause-host_key g c =
    let message = c.requires.asks.1 in
    let waits = c.requires.asks.2 in
    let has = has_place c.messages_law.ensures.complete c.numbers_law.ensures.message_number c.numbers_law.ensures.alike (role_of c.args.config.now) (state_data c.args.self.now) c.requires.asks.0 message waits.read.reads waits.read.spelled in
    let fits = subst (λ (p : Pending). FitsPending (g.S.Suite.meaning c.args.suite.now) (role_of c.args.config.now) (config_data c.args.config.now) (state_data c.args.self.now).known message p) c.in-Reply.is waits.fits in
    rw c.deref.ensures.value fits.short_host_key

pub receive_reply-requires-clause-share : goal.receive_reply-requires-clause-share
receive_reply-requires-clause-share g c =
    let message = c.requires.asks.1 in
    let waits = c.requires.asks.2 in
    let has = has_place c.messages_law.ensures.complete c.numbers_law.ensures.message_number c.numbers_law.ensures.alike (role_of c.args.config.now) (state_data c.args.self.now) c.requires.asks.0 message waits.read.reads waits.read.spelled in
    let fits = subst (λ (p : Pending). FitsPending (g.S.Suite.meaning c.args.suite.now) (role_of c.args.config.now) (config_data c.args.config.now) (state_data c.args.self.now).known message p) c.in-Reply.is waits.fits in
    rw c.deref-in-Reply.ensures.value fits.short_share

pub receive_reply-requires-clause-signature : goal.receive_reply-requires-clause-signature
receive_reply-requires-clause-signature g c =
    let message = c.requires.asks.1 in
    let waits = c.requires.asks.2 in
    let has = has_place c.messages_law.ensures.complete c.numbers_law.ensures.message_number c.numbers_law.ensures.alike (role_of c.args.config.now) (state_data c.args.self.now) c.requires.asks.0 message waits.read.reads waits.read.spelled in
    let fits = subst (λ (p : Pending). FitsPending (g.S.Suite.meaning c.args.suite.now) (role_of c.args.config.now) (config_data c.args.config.now) (state_data c.args.self.now).known message p) c.in-Reply.is waits.fits in
    rw c.deref-in-Reply-2.ensures.value fits.short_signature

pub answer_init-requires-clause-at : goal.answer_init-requires-clause-at
answer_init-requires-clause-at g c =
    let message = c.requires.asks.1 in
    let waits = c.requires.asks.2 in
    let has = has_place c.messages_law.ensures.complete c.numbers_law.ensures.message_number c.numbers_law.ensures.alike (role_of c.args.config.now) (state_data c.args.self.now) c.requires.asks.0 message waits.read.reads waits.read.spelled in
    let fits = subst (λ (p : Pending). FitsPending (g.S.Suite.meaning c.args.suite.now) (role_of c.args.config.now) (config_data c.args.config.now) (state_data c.args.self.now).known message p) c.in-Init.is waits.fits in
    (works.at_init _ _ _ _ has fits.1).phase_is

pub answer_init-requires-clause-server : goal.answer_init-requires-clause-server
answer_init-requires-clause-server g c =
    let message = c.requires.asks.1 in
    let waits = c.requires.asks.2 in
    let has = has_place c.messages_law.ensures.complete c.numbers_law.ensures.message_number c.numbers_law.ensures.alike (role_of c.args.config.now) (state_data c.args.self.now) c.requires.asks.0 message waits.read.reads waits.read.spelled in
    let fits = subst (λ (p : Pending). FitsPending (g.S.Suite.meaning c.args.suite.now) (role_of c.args.config.now) (config_data c.args.config.now) (state_data c.args.self.now).known message p) c.in-Init.is waits.fits in
    (works.at_init _ _ _ _ has fits.1).side_is

pub answer_init-requires-clause-fits : goal.answer_init-requires-clause-fits
answer_init-requires-clause-fits g c =
    let message = c.requires.asks.1 in
    let waits = c.requires.asks.2 in
    let has = has_place c.messages_law.ensures.complete c.numbers_law.ensures.message_number c.numbers_law.ensures.alike (role_of c.args.config.now) (state_data c.args.self.now) c.requires.asks.0 message waits.read.reads waits.read.spelled in
    let fits = subst (λ (p : Pending). FitsPending (g.S.Suite.meaning c.args.suite.now) (role_of c.args.config.now) (config_data c.args.config.now) (state_data c.args.self.now).known message p) c.in-Init.is waits.fits in
    fits.3.0.fits

pub decide-requires-clause-at : goal.decide-requires-clause-at
decide-requires-clause-at g c =
    let message = c.requires.asks.1 in
    let waits = c.requires.asks.2 in
    let has = has_place c.messages_law.ensures.complete c.numbers_law.ensures.message_number c.numbers_law.ensures.alike (role_of c.args.config.now) (state_data c.args.self.now) c.requires.asks.0 message waits.read.reads waits.read.spelled in
    let fits = subst (λ (p : Pending). FitsPending (g.S.Suite.meaning c.args.suite.now) (role_of c.args.config.now) (config_data c.args.config.now) (state_data c.args.self.now).known message p) c.in-Request.is waits.fits in
    (works.at_user_request _ _ _ _ has (ap number_of fits.1)).phase_is

pub decide-requires-clause-fits : goal.decide-requires-clause-fits
decide-requires-clause-fits g c =
    let message = c.requires.asks.1 in
    let waits = c.requires.asks.2 in
    let has = has_place c.messages_law.ensures.complete c.numbers_law.ensures.message_number c.numbers_law.ensures.alike (role_of c.args.config.now) (state_data c.args.self.now) c.requires.asks.0 message waits.read.reads waits.read.spelled in
    let fits = subst (λ (p : Pending). FitsPending (g.S.Suite.meaning c.args.suite.now) (role_of c.args.config.now) (config_data c.args.config.now) (state_data c.args.self.now).known message p) c.in-Request.is waits.fits in
    claim_fits (config_data c.args.config.now) (state_data c.args.self.now).known fits.0 c.in-Request.claim fits.2

pub answer_attempt-requires-clause-late : goal.answer_attempt-requires-clause-late
answer_attempt-requires-clause-late g c =
    let message = c.requires.asks.1 in
    let waits = c.requires.asks.2 in
    let has = has_place c.messages_law.ensures.complete c.numbers_law.ensures.message_number c.numbers_law.ensures.alike (role_of c.args.config.now) (state_data c.args.self.now) c.requires.asks.0 message waits.read.reads waits.read.spelled in
    let fits = subst (λ (p : Pending). FitsPending (g.S.Suite.meaning c.args.suite.now) (role_of c.args.config.now) (config_data c.args.config.now) (state_data c.args.self.now).known message p) c.in-Attempt.is waits.fits in
    attempt_late (g.S.Suite.meaning c.args.suite.now) (role_of c.args.config.now) (state_data c.args.self.now) c.requires.asks.0 message has c.in-Attempt.skipped c.in-Attempt.confirms fits.0

pub returns-in-Reply-clause-comes : goal.returns-in-Reply-clause-comes
returns-in-Reply-clause-comes g c =
    let m = g.S.Suite.meaning c.args.suite.now in
    let role = role_of c.args.config.now in
    let config = config_data c.args.config.now in
    let old = state_data c.args.self.now in
    let known = old.known in
    let answer = answer_data c.args.answer in
    let new = state_data c.receive_reply.new.self in
    IfOk-weaker c.receive_reply.result _ _ (λ made receives payload message d waits agrees form.
    let fits = subst (λ (p : Pending). FitsPending m role config known message p) c.in-Reply.is waits.fits in
    let has = has_place c.messages_law.ensures.complete c.numbers_law.ensures.message_number c.numbers_law.ensures.alike (role_of c.args.config.now) (state_data c.args.self.now) payload message waits.read.reads waits.read.spelled in
    let asks : asked_in (step m role config known message) ≡ Some (HostKeyQuestion (string_bytes c.in-Reply.algorithm) c.in-Reply.host_key.items) = waits.asks ∙ ap (λ (p : Pending). Some (pending_question p)) c.in-Reply.is in
    let decides : decided d (HostKeyQuestion (string_bytes c.in-Reply.algorithm) c.in-Reply.host_key.items) ≡ taken (HostKeyQuestion (string_bytes c.in-Reply.algorithm) c.in-Reply.host_key.items) answer = subst (λ (p : Pending). decided d (pending_question p) ≡ taken (pending_question p) answer) c.in-Reply.is agrees in
    let side = (works.at_reply _ _ _ _ has fits.number).side_is in
    let trusts : d.host_key known.algorithms.host_key c.in-Reply.host_key.items ≡ is_yes answer =
    reply_trusts m d role config known message (string_bytes c.in-Reply.algorithm) c.in-Reply.host_key.items c.in-Reply.signature.items answer side fits.host_key_is fits.step_is asks decides in
    works.reply_works (setup_of m d c.args.config.now) old new payload made message has c.in-Reply.signature.items fits.number (ap (settled d) fits.step_is)
    (subst (λ (l : List ℕ). ReceivesExchange m Client config old new made message (settled d (reply_step m Client config known message l))) c.deref-in-Reply-2.ensures.value
    (receives d message (ap (d.host_key known.algorithms.host_key) c.deref.ensures.value ∙ (trusts ∙ sym c.is_yes.ensures)) (fits.share_is ∙ sym c.deref-in-Reply.ensures.value) (fits.host_key_is ∙ sym c.deref.ensures.value) form)))
    c.receive_reply.ensures.receives

pub returns-in-Init-clause-comes : goal.returns-in-Init-clause-comes
returns-in-Init-clause-comes g c =
    let m = g.S.Suite.meaning c.args.suite.now in
    let role = role_of c.args.config.now in
    let config = config_data c.args.config.now in
    let old = state_data c.args.self.now in
    let known = old.known in
    let answer = answer_data c.args.answer in
    let new = state_data c.answer_init.new.self in
    IfOk-weaker c.answer_init.result _ _ (λ made receives payload message d waits agrees form.
    let fits = subst (λ (p : Pending). FitsPending m role config known message p) c.in-Init.is waits.fits in
    let has = has_place c.messages_law.ensures.complete c.numbers_law.ensures.message_number c.numbers_law.ensures.alike (role_of c.args.config.now) (state_data c.args.self.now) payload message waits.read.reads waits.read.spelled in
    let asks : asked_in (step m role config known message) ≡ Some (SignatureQuestion 0 (string_bytes c.in-Init.algorithm) c.in-Init.prepared.host_key.items c.in-Init.prepared.hash.items) = waits.asks ∙ ap (λ (p : Pending). Some (pending_question p)) c.in-Init.is in
    let decides : decided d (SignatureQuestion 0 (string_bytes c.in-Init.algorithm) c.in-Init.prepared.host_key.items c.in-Init.prepared.hash.items) ≡ taken (SignatureQuestion 0 (string_bytes c.in-Init.algorithm) c.in-Init.prepared.host_key.items c.in-Init.prepared.hash.items) answer = subst (λ (p : Pending). decided d (pending_question p) ≡ taken (pending_question p) answer) c.in-Init.is agrees in
    let side = (works.at_init _ _ _ _ has fits.1).side_is in
    works.init_works (setup_of m d c.args.config.now) old new payload made message has fits.1 (ap (settled d) (step_init m role config known message fits.1))
    (subst (λ (r : Reply). ReceivesExchange m Server config old new made message r)
    (sym (init_signs m d role config known message fits.0 c.in-Init.prepared (string_bytes c.in-Init.algorithm) answer side fits.1 fits.2 fits.3.0 fits.3.1 asks decides))
    (subst (λ (o : Option (List ℕ)). ReceivesExchange m Server config old new made message (signed_reply config known (exchange_of_message m Server config known message) o)) c.signature_in.ensures.found
    (receives message fits.0 fits.2 fits.3.0 form))))
    c.answer_init.ensures.receives

pub returns-in_ok-answers-in-Request-clause-comes : goal.returns-in_ok-answers-in-Request-clause-comes
returns-in_ok-answers-in-Request-clause-comes g c =
    let m = g.S.Suite.meaning c.args.suite.now in
    let role = role_of c.args.config.now in
    let config = config_data c.args.config.now in
    let old = state_data c.args.self.now in
    let known = old.known in
    let answer = answer_data c.args.answer in
    let new = state_data c.decide.new.self in
    let user = string_bytes c.in-Request.user in
    let service = string_bytes c.in-Request.service in
    let named : c.deref-in-Request.result.now ≡ user = search rules in
    let served : c.deref-in-Request-2.result.now ≡ service = search rules in
    λ payload message d waits agrees form.
    let fits = subst (λ (p : Pending). FitsPending m role config known message p) c.in-Request.is waits.fits in
    let has = has_place c.messages_law.ensures.complete c.numbers_law.ensures.message_number c.numbers_law.ensures.alike (role_of c.args.config.now) (state_data c.args.self.now) payload message waits.read.reads waits.read.spelled in
    let asks : asked_in (step m role config known message) ≡ Some (pending_question (pending.Request c.in-Request.number c.in-Request.user c.in-Request.service c.in-Request.claim)) = waits.asks ∙ ap (λ (p : Pending). Some (pending_question p)) c.in-Request.is in
    let decides : decided d (pending_question (pending.Request c.in-Request.number c.in-Request.user c.in-Request.service c.in-Request.claim)) ≡ taken (pending_question (pending.Request c.in-Request.number c.in-Request.user c.in-Request.service c.in-Request.claim)) answer = subst (λ (p : Pending). decided d (pending_question p) ≡ taken (pending_question p) answer) c.in-Request.is agrees in
    let step_is = step_request m role config known message user service fits.0 fits.1 in
    let here : asked_in (request_step m config known user service fits.0) ≡ Some (pending_question (pending.Request c.in-Request.number c.in-Request.user c.in-Request.service c.in-Request.claim)) = ap asked_in (sym step_is) ∙ asks in
    let yes : c.is_yes-in-Request.result ≡ is_yes (decided d (pending_question (pending.Request c.in-Request.number c.in-Request.user c.in-Request.service c.in-Request.claim))) = c.is_yes-in-Request.ensures ∙ sym (ap is_yes decides) in
    subst (λ (r : reply.Reply). Comes (setup_of m d c.args.config.now) old new payload r (work (setup_of m d c.args.config.now) known message)) (sym c.into_reply.ensures)
    (works.user_request_works (setup_of m d c.args.config.now) old new payload c.in_ok-answers-in-Request.answers message has user service fits.0 fits.1
    (c.in_ok-answers-in-Request.ensures.gives
    ∙ rw (named, served) (claimed_kept config known fits.0 user service c.in-Request.claim fits.2 c.is_yes-in-Request.result
    ∙ (ap (claimed_reply config known user service fits.0) yes ∙ sym (asked_request m d config known user service fits.0 (pending_question (pending.Request c.in-Request.number c.in-Request.user c.in-Request.service c.in-Request.claim)) here))))
    c.in_ok-answers-in-Request.ensures.unsent
    (λ goes_on. subst (λ (b : Bool). new ≡ record old { end = new.end; known = counted_request known (tried_with user service fits.0 b); carried = tried_key old.carried fits.0 b })
    (ap (λ (b : Bool). claims fits.0 && b) yes ∙ sym (decided_request m d config known user service fits.0 (pending_question (pending.Request c.in-Request.number c.in-Request.user c.in-Request.service c.in-Request.claim)) here))
    (counted_kept config known fits.0 old new user service c.in-Request.claim fits.2 c.is_yes-in-Request.result (rw (sym named, sym served) (c.in_ok-answers-in-Request.ensures.stays goes_on)))))

pub returns-in_ok-answers-in-Attempt-clause-comes : goal.returns-in_ok-answers-in-Attempt-clause-comes
returns-in_ok-answers-in-Attempt-clause-comes g c =
    let m = g.S.Suite.meaning c.args.suite.now in
    let role = role_of c.args.config.now in
    let config = config_data c.args.config.now in
    let old = state_data c.args.self.now in
    let known = old.known in
    let answer = answer_data c.args.answer in
    let new = state_data c.answer_attempt.new.self in
    let name = string_bytes c.in-Attempt.algorithm in
    let named : c.deref-in-Attempt.result.now ≡ name = search rules in
    let signature = option_map (λ (s : Bor (List ℕ)). s.now) c.signature_in-signature.result in
    λ payload message d waits agrees form.
    let fits = subst (λ (p : Pending). FitsPending m role config known message p) c.in-Attempt.is waits.fits in
    let has = has_place c.messages_law.ensures.complete c.numbers_law.ensures.message_number c.numbers_law.ensures.alike (role_of c.args.config.now) (state_data c.args.self.now) payload message waits.read.reads waits.read.spelled in
    let asks : asked_in (step m role config known message) ≡ Some (SignatureQuestion c.in-Attempt.number (string_bytes c.in-Attempt.algorithm) c.in-Attempt.blob.items c.in-Attempt.input.items) = waits.asks ∙ ap (λ (p : Pending). Some (pending_question p)) c.in-Attempt.is in
    let decides : decided d (SignatureQuestion c.in-Attempt.number (string_bytes c.in-Attempt.algorithm) c.in-Attempt.blob.items c.in-Attempt.input.items) ≡ taken (SignatureQuestion c.in-Attempt.number (string_bytes c.in-Attempt.algorithm) c.in-Attempt.blob.items c.in-Attempt.input.items) answer = subst (λ (p : Pending). decided d (pending_question p) ≡ taken (pending_question p) answer) c.in-Attempt.is agrees in
    subst (λ (r : reply.Reply). Comes (setup_of m d c.args.config.now) old new payload r (work (setup_of m d c.args.config.now) known message)) (sym c.into_reply-in-Attempt.ensures)
    (attempt_works (setup_of m d c.args.config.now) old new payload c.in_ok-answers-in-Attempt.answers message has c.in-Attempt.number name c.in-Attempt.blob.items c.in-Attempt.input.items signature
    (c.signature_in-signature.ensures.found ∙ ap (λ (a : AnswerData). fitting (found_in a)) (sym decides)) asks c.in-Attempt.skipped c.in-Attempt.confirms fits.0
    (λ a later is. c.in_ok-answers-in-Attempt.ensures.gives a later is
    ∙ (ap (λ (l : List ℕ). goes (written_message (UserauthRequest a.user a.service (signed_method l c.deref-in-Attempt-2.result.now signature)) ∷ [])) named
    ∙ ap (λ (k : List ℕ). goes (written_message (UserauthRequest a.user a.service (signed_method name k signature)) ∷ [])) c.deref-in-Attempt-2.ensures.value))
    c.in_ok-answers-in-Attempt.ensures.stays)
