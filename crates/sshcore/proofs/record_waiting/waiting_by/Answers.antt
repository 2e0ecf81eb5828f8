use Rattle.std.proofs.Common.{◌≡◌, ◌∙◌, Some, ap, length, option_map, refl, rules, subst, sym, ◌≤◌}
use Rattle.sshpacket.specs.declared.limits.TheConstants.{PACKET_LIMIT}
use Rattle.sshcore.specs.AskingData.{WaitingData}
use Rattle.sshcore.specs.EndpointConfig.{config_data, role_of}
use Rattle.sshcore.specs.QuestionAt.{question_at}
use Rattle.sshcore.specs.QuestionsView.{pending_question}
use Rattle.sshcore.specs.StateData.{state_data}
use Rattle.sshcore.specs.Unread.{IsAsked, IsIdle}
use Rattle.sshcore.specs.WaitingView.{waiting_data}
use Rattle.sshcore.proofs.JudgingLemmas.{judged_asks, pending_asks, pending_judged}
use Rattle.sshcore.proofs.RecordMadeLemmas.{none_some, waits_for, waits_for_same}
use Rattle.sshcore.proofs.record_waiting.waiting_by.Goals as goal

pub returns-in_default-pending-clause-made : goal.returns-in_default-pending-clause-made
returns-in_default-pending-clause-made g c = λ v asked told.
    let m = g.S.Suite.meaning c.args.suite.now in
    let role = role_of c.args.config.now in
    let config = config_data c.args.config.now in
    let kept = state_data c.args.state.now in
    let payload = c.in-Some.payload.now in
    let w = waits_for m role config kept c.args.input.now v payload c.requires.open asked (told ∙ ap (λ o. option_map (λ x. x.now) o) c.in-Some.is) in
    none_some (question_at m role config kept payload) w.0.question
    (sym (judged_asks m role config kept payload (λ x s. c.messages_law.ensures.complete _ _ _ s) c.in-Ok.judged c.in-Ok.ensures) ∙ ap (λ o. option_map pending_question o) (sym c.pending.ensures ∙ c.in_default-pending.is))
    (ap (question_at m role config kept) (sym w.2) ∙ w.3.asks)

pub returns-in-Ok-new-clause-asked : goal.returns-in-Ok-new-clause-asked
returns-in-Ok-new-clause-asked g c = λ ongoing.
    let m = g.S.Suite.meaning c.args.suite.now in
    let role = role_of c.args.config.now in
    let config = config_data c.args.config.now in
    let kept = state_data c.args.state.now in
    let payload = c.in-Some.payload.now in
    let p = c.in-Some-pending.pending in
    let is = pending_judged m role config kept payload c.in-Ok.judged p (sym c.pending.ensures ∙ c.in-Some-pending.is) c.in-Ok.ensures in
    let idle : IsIdle c.args.input.now = search rules in
    let made : WaitingData = record { payload = payload; question = pending_question p; pending = p } in
    let short : length payload ≤ PACKET_LIMIT = search rules in
    let asked : IsAsked m role config kept c.args.input.now made =
    record {
      is_open = c.requires.open;
      idle = idle;
      short = short;
      asks = pending_asks m role config kept payload is.0 p (c.messages_law.ensures.complete _ _ _ is.1.read.spelled) is.1;
      keeps = record { message = is.0; waits = is.1; question_is = refl };
    } in
    subst (λ (w : WaitingData). IsAsked m role config kept c.args.input.now w) (sym c.in-Ok-new.ensures.same) asked

pub returns-in-Ok-new-clause-made : goal.returns-in-Ok-new-clause-made
returns-in-Ok-new-clause-made g c = λ v asked told.
    let m = g.S.Suite.meaning c.args.suite.now in
    let role = role_of c.args.config.now in
    let config = config_data c.args.config.now in
    let kept = state_data c.args.state.now in
    let payload = c.in-Some.payload.now in
    let p = c.in-Some-pending.pending in
    let is = pending_judged m role config kept payload c.in-Ok.judged p (sym c.pending.ensures ∙ c.in-Some-pending.is) c.in-Ok.ensures in
    let w = waits_for m role config kept c.args.input.now v payload c.requires.open asked (told ∙ ap (λ o. option_map (λ x. x.now) o) c.in-Some.is) in
    let same = sym c.in-Ok-new.ensures.same in
    waits_for_same m role config kept v w.0 (waiting_data c.in-Ok-new.waiting) w.1 (w.2 ∙ ap (λ (x : WaitingData). x.payload) same) w.3.asks
    (subst (λ (x : WaitingData). question_at m role config kept x.payload ≡ Some x.question) same (pending_asks m role config kept payload is.0 p (c.messages_law.ensures.complete _ _ _ is.1.read.spelled) is.1))
