use Rattle.std.proofs.Common.{rules, List, ℕ, subst}
use Rattle.sshcore.specs.EndpointConfig.{config_data, role_of}
use Rattle.sshcore.specs.Questions.{taken}
use Rattle.sshcore.specs.QuestionsView.{answer_data}
use Rattle.sshcore.specs.StateData.{state_data}
use Rattle.sshcore.specs.Unread.{AnswerSteps}
use Rattle.sshcore.specs.WaitingView.{waiting_data}
use Rattle.sshcore.proofs.asking_answer.answer_given.Goals as goal

pub returns-clause-steps : goal.returns-clause-steps
returns-clause-steps g c =
    let m = g.S.Suite.meaning c.args.suite.now in
    let role = role_of c.args.config.now in
    let config = config_data c.args.config.now in
    let w = waiting_data c.args.waiting.now in
    let old = state_data c.args.state.now in
    let last = state_data c.answer_packet.new.state in
    let answer = answer_data c.args.answer in (
      c.answer_packet.new.sent.items,
      search rules,
      subst (λ (l : List ℕ). AnswerSteps m role config (taken w.question answer) w c.args.input.now old c.answer_packet.new.input last l c.answer_packet.new.sent.items) c.new-sent.ensures.items
          c.in_ok-answer_packet.ensures.steps,
    )
