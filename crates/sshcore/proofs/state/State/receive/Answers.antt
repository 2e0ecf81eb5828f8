use Rattle.sshcore.specs.EndpointConfig.{setup_of}
use Rattle.sshcore.specs.StateData.{state_data}
use Rattle.sshcore.proofs.ReplyLemmas.{comes_works}
use Rattle.sshcore.proofs.WorksLemmas.{on_two}
use Rattle.sshcore.proofs.state.State.receive.Goals as goal

pub returns-clause-brings : goal.returns-clause-brings
returns-clause-brings g c = on_two c.send_reply.result c.send_reply.ensures.gives c.send_reply.ensures.stays (λ gives stays d form.
    comes_works (setup_of (g.S.Suite.meaning c.args.suite.now) d c.args.config.now) _ (state_data c.reply_to.new.self) _ c.args.payload.now _ _ _ _ (c.in_ok-reply.ensures.comes d form) gives stays)
