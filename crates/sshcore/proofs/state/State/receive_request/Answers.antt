use Rattle.std.proofs.Common.{false, ap, ◌∙◌}
use Rattle.std.proofs.lemmas.Result.{IfOk-weaker}
use Rattle.sshmsg.specs.MessageData.{UserauthFailure}
use Rattle.sshmsg.specs.View.{method_data}
use Rattle.sshcore.specs.EndpointConfig.{config_data}
use Rattle.sshcore.specs.Requests.{more_reply}
use Rattle.sshcore.specs.StateData.{StateData, state_data}
use Rattle.sshcore.proofs.RequestLemmas.{reply_elsewhere, reply_vain}
use Rattle.sshcore.proofs.state.State.receive_request.Goals as goal

pub returns-in_default-clause-gives : goal.returns-in_default-clause-gives
returns-in_default-clause-gives g c = IfOk-weaker c.fail.result _ _ (λ answers given d.
    given ∙ (reply_elsewhere (g.S.Suite.meaning c.args.suite.now) d (config_data c.args.config.now) (state_data c.args.self.now).known c.args.user.now c.args.service.now (method_data c.args.method.now)
    c.service.result c.service.ensures.service c.in_default.is)) c.fail.ensures.gives

pub returns-clause-gives : goal.returns-clause-gives
returns-clause-gives g c =
    let config = config_data c.args.config.now in
    IfOk-weaker c.refuse_more.result _ _ (λ answers given d.
    given ∙ (ap (λ (k : StateData). more_reply config k.known (UserauthFailure config.methods false)) c.forget_others.ensures
    ∙ reply_vain (g.S.Suite.meaning c.args.suite.now) d config (state_data c.args.self.now).known c.args.user.now c.args.service.now (method_data c.args.method.now)
    c.service.result c.service.ensures.service c.in-Some.service c.in-Some.is c.requires.calm)) c.refuse_more.ensures.gives
