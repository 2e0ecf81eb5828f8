use Rattle.sshcore.specs.EndpointConfig.{setup_of}
use Rattle.sshcore.specs.StateData.{state_data}
use Rattle.sshcore.proofs.ReplyLemmas.{comes_works}
use Rattle.sshcore.proofs.WorksLemmas.{on_two}
use Rattle.sshcore.proofs.state.State.answer.Goals as goal

pub returns-clause-works : goal.returns-clause-works
returns-clause-works g c = on_two c.send_reply.result c.send_reply.ensures.gives c.send_reply.ensures.stays (λ gives stays payload message d waits agrees form.
    comes_works (setup_of (g.S.Suite.meaning c.args.suite.now) d c.args.config.now) _ (state_data c.reply_by.new.self) _ payload _ _ _ _ (c.in_ok-reply.ensures.comes payload message d waits agrees form) gives stays)
