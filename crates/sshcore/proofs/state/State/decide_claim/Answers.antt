use Rattle.std.proofs.Common.{Bool, sym, ap, ◌∙◌, true, false}
use Rattle.std.proofs.lemmas.Result.{IfOk-weaker}
use Rattle.sshmsg.specs.MessageData.{UserauthFailure}
use Rattle.sshcore.specs.EndpointConfig.{config_data}
use Rattle.sshcore.specs.StateData.{StateData, state_data}
use Rattle.sshcore.specs.QuestionsView.{claim_method}
use Rattle.sshcore.specs.Requests.{more_reply, tried_reply}
use Rattle.sshcore.proofs.state.State.decide_claim.Goals as goal

pub returns-then-successful-clause-gives : goal.returns-then-successful-clause-gives
returns-then-successful-clause-gives c =
    let config = config_data c.args.config.now in
    let key = c.in_ok-keep_key.ensures in
    IfOk-weaker c.receive_successful.result _ _ (λ answers given.
    given ∙ (ap (λ (k : StateData). tried_reply config k.known c.args.user.now c.args.service.now (claim_method c.args.claim.now) true) key
    ∙ ap (λ (b : Bool). tried_reply config (state_data c.args.self.now).known c.args.user.now c.args.service.now (claim_method c.args.claim.now) b) (sym c.if-successful.true))) c.receive_successful.ensures.gives

pub returns-clause-gives : goal.returns-clause-gives
returns-clause-gives c =
    let config = config_data c.args.config.now in
    IfOk-weaker c.refuse_more.result _ _ (λ answers given.
    given ∙ (ap (λ (k : StateData). more_reply config k.known (UserauthFailure config.methods false)) c.forget_others.ensures
    ∙ ap (λ (b : Bool). tried_reply config (state_data c.args.self.now).known c.args.user.now c.args.service.now (claim_method c.args.claim.now) b) (sym c.if-successful.false))) c.refuse_more.ensures.gives
