use Rattle.std.proofs.Common.{Some, option_map, refl, sym, ap, subst, ◌∙◌}
use Rattle.sshcore.specs.AskingData.{WaitingData}
use Rattle.sshcore.specs.EndpointConfig.{config_data, role_of}
use Rattle.sshcore.specs.QuestionsView.{pending_question}
use Rattle.sshcore.specs.StateData.{state_data}
use Rattle.sshcore.specs.Unread.{TakesPacket}
use Rattle.sshcore.proofs.JudgingLemmas.{calm_pending, judged_asks, pending_asks, pending_judged}
use Rattle.sshcore.proofs.asking_input.take_packet.Goals as goal

pub returns-then-is_at_once-clause-takes : goal.returns-then-is_at_once-clause-takes
returns-then-is_at_once-clause-takes g c = (
  sym (judged_asks (g.S.Suite.meaning c.args.suite.now) (role_of c.args.config.now) (config_data c.args.config.now) (state_data c.args.state.now) c.args.payload.now (λ x s. c.messages_law.ensures.complete _ _ _ s)
      c.in_ok-judged.judged c.in_ok-judged.ensures)
      ∙ ap (λ o. option_map pending_question o) (calm_pending c.in_ok-judged.judged (sym c.is_at_once.ensures ∙ c.if-is_at_once.true)),
  c.in_ok-receive.ensures.brings,
)

pub returns-clause-takes : goal.returns-clause-takes
returns-clause-takes g c =
    let m = g.S.Suite.meaning c.args.suite.now in
    let role = role_of c.args.config.now in
    let config = config_data c.args.config.now in
    let old = state_data c.args.state.now in
    let p = c.in-Some.pending in
    let is = pending_judged m role config old c.args.payload.now c.in_ok-judged.judged p (sym c.pending.ensures ∙ c.in-Some.is) c.in_ok-judged.ensures in
    let made : WaitingData = record { payload = c.args.payload.now; question = pending_question p; pending = p } in
    subst (λ (w : WaitingData). TakesPacket m role config old old c.args.packet c.args.payload.now c.args.sent.now.items c.args.sent.now.items (Some w)) (sym c.in_ok-new-in-Some.ensures.same)
    (refl, refl, refl, pending_asks m role config old c.args.payload.now is.0 p (c.messages_law.ensures.complete _ _ _ is.1.read.spelled) is.1, record { message = is.0; waits = is.1; question_is = refl })
