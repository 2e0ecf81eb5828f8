use Rattle.std.proofs.Common.{◌≡◌, true, false, ap, ◌∙◌, rules}
use Rattle.std.proofs.lemmas.Result.{IfOk-weaker}
use Rattle.sshcore.specs.QuestionsView.{claim_method}
use Rattle.sshcore.specs.EndpointConfig.{config_data}
use Rattle.sshcore.specs.StateData.{StateData, state_data}
use Rattle.sshcore.specs.CompletedMethods.{is_complete}
use Rattle.sshcore.proofs.RequestLemmas.{successful_done, successful_more}
use Rattle.sshcore.proofs.state.State.receive_successful.Goals as goal

pub returns-then-is_complete-clause-gives : goal.returns-then-is_complete-clause-gives
returns-then-is_complete-clause-gives c =
    let done : is_complete (config_data c.args.config.now).required (state_data c.complete_method.new.self).known.completed ≡ true = search rules in
    IfOk-weaker c.succeed.result _ _ (λ answers given.
    given ∙ (successful_done (config_data c.args.config.now) (state_data c.args.self.now).known (state_data c.forget_others.new.self).known (state_data c.complete_method.new.self).known c.args.user.now c.args.service.now (claim_method c.args.claim.now)
    (ap (λ (k : StateData). k.known) c.forget_others.ensures) (ap (λ (k : StateData). k.known) c.in_ok-complete_method.ensures) done)) c.succeed.ensures.gives

pub returns-clause-gives : goal.returns-clause-gives
returns-clause-gives c =
    let none : is_complete (config_data c.args.config.now).required (state_data c.complete_method.new.self).known.completed ≡ false = search rules in
    IfOk-weaker c.refuse_more.result _ _ (λ answers given.
    given ∙ (successful_more (config_data c.args.config.now) (state_data c.args.self.now).known (state_data c.forget_others.new.self).known (state_data c.complete_method.new.self).known c.args.user.now c.args.service.now (claim_method c.args.claim.now)
    (ap (λ (k : StateData). k.known) c.forget_others.ensures) (ap (λ (k : StateData). k.known) c.in_ok-complete_method.ensures) none)) c.refuse_more.ensures.gives
