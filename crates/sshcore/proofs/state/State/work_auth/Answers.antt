use Rattle.std.proofs.Common.{◌≡◌, List, ℕ, None, false, sym, ap, subst, ◌∙◌}
use Rattle.sshmsg.specs.Numbers.{number_of}
use Rattle.sshmsg.specs.View.{message_data, method_data}
use Rattle.sshmsg.specs.MessageData.{MethodData}
use Rattle.sshpacket.specs.Suite.{SuiteData}
use Rattle.sshcore.specs.Authenticating.{counted_request, tried_key}
use Rattle.sshcore.specs.Brings.{IsOngoing}
use Rattle.sshcore.specs.EndData.{EndData, Reply}
use Rattle.sshcore.specs.EndpointConfig.{config_data, role_of, setup_of}
use Rattle.sshcore.specs.EndpointParts.{ConfigData, DecisionsData}
use Rattle.sshcore.specs.Requests.{is_successful, request_step}
use Rattle.sshcore.specs.StateData.{StateData, state_data}
use Rattle.sshcore.specs.Step.{asked_in, settled}
use Rattle.sshcore.specs.Tries.{tried_with}
use Rattle.sshcore.proofs.RequestLemmas.{vain_request, with_end}
use Rattle.sshcore.proofs.WorksLemmas as works
use Rattle.sshcore.proofs.WorksLemmas.{has_place, if_three, if_two}
use Rattle.sshcore.proofs.PendingLemmas.{step_failure, step_pk_ok, step_request}
use Rattle.sshcore.proofs.state.State.work_auth.Goals as goal

-- what is kept after a request that asks nothing
calm_stays : (m : SuiteData) (d : DecisionsData) (config : ConfigData) (old new : StateData) (user service : List ℕ) (method : MethodData) → asked_in (request_step m config old.known user service method) ≡ None
    → IsOngoing (settled d (request_step m config old.known user service method)).end
    → new ≡ record old { known = counted_request old.known (tried_with user service method false) }
    → new ≡ record old {
      end = new.end;
      known = counted_request old.known (tried_with user service method (is_successful m d config old.known user service method));
      carried = tried_key old.carried method (is_successful m d config old.known user service method);
    }
calm_stays m d config old new user service method calm goes_on stays =
    let vain : is_successful m d config old.known user service method ≡ false = vain_request m d config old.known user service method calm goes_on in
    rw vain (with_end old new (counted_request old.known (tried_with user service method false)) stays)

pub receive_request-requires-clause-at : goal.receive_request-requires-clause-at
receive_request-requires-clause-at g c =
    let has = has_place c.messages_law.ensures.complete c.numbers_law.ensures.message_number c.numbers_law.ensures.alike (role_of c.args.config.now) (state_data c.args.self.now) c.args.payload.now (message_data c.args.message.now) c.requires.reads c.requires.spelled in
    (works.at_user_request _ _ _ _ has (ap (λ x. number_of (message_data x)) c.in-UserauthRequest.is)).phase_is

pub receive_success-requires-clause-at : goal.receive_success-requires-clause-at
receive_success-requires-clause-at g c =
    let has = has_place c.messages_law.ensures.complete c.numbers_law.ensures.message_number c.numbers_law.ensures.alike (role_of c.args.config.now) (state_data c.args.self.now) c.args.payload.now (message_data c.args.message.now) c.requires.reads c.requires.spelled in
    (works.at_success _ _ _ _ has (ap (λ x. number_of (message_data x)) c.in-UserauthSuccess.is)).phase_is

pub returns-in-UserauthRequest-clause-comes : goal.returns-in-UserauthRequest-clause-comes
returns-in-UserauthRequest-clause-comes g c =
    let has = has_place c.messages_law.ensures.complete c.numbers_law.ensures.message_number c.numbers_law.ensures.alike (role_of c.args.config.now) (state_data c.args.self.now) c.args.payload.now (message_data c.args.message.now) c.requires.reads c.requires.spelled in
    if_three c.receive_request.result _ _ _ _ c.receive_request.ensures.gives c.receive_request.ensures.stays c.receive_request.ensures.unsent (λ answers gives stays unsent d.
    let setup = setup_of (g.S.Suite.meaning c.args.suite.now) d c.args.config.now in
    works.user_request_works setup _ _ _ answers _ has c.in-UserauthRequest.user.now c.in-UserauthRequest.service.now (method_data c.in-UserauthRequest.method) (ap message_data c.in-UserauthRequest.is) (gives d) unsent
    (λ goes_on. calm_stays (g.S.Suite.meaning c.args.suite.now) d (config_data c.args.config.now) (state_data c.args.self.now) (state_data c.receive_request.new.self) c.in-UserauthRequest.user.now c.in-UserauthRequest.service.now
    (method_data c.in-UserauthRequest.method) (ap asked_in (sym (step_request (g.S.Suite.meaning c.args.suite.now) (role_of c.args.config.now) (config_data c.args.config.now) (state_data c.args.self.now).known (message_data c.args.message.now) _ _ _ (ap message_data c.in-UserauthRequest.is))) ∙ c.requires.calm)
    (subst (λ (e : EndData). IsOngoing e) (ap (λ (r : Reply). r.end) (gives d)) goes_on) (stays goes_on)))

pub returns-in-UserauthFailure-clause-comes : goal.returns-in-UserauthFailure-clause-comes
returns-in-UserauthFailure-clause-comes g c =
    let has = has_place c.messages_law.ensures.complete c.numbers_law.ensures.message_number c.numbers_law.ensures.alike (role_of c.args.config.now) (state_data c.args.self.now) c.args.payload.now (message_data c.args.message.now) c.requires.reads c.requires.spelled in
    if_two c.receive_failure.result _ _ _ c.receive_failure.ensures.gives c.receive_failure.ensures.stays (λ answers gives stays d.
    let setup = setup_of (g.S.Suite.meaning c.args.suite.now) d c.args.config.now in
    works.failure_works setup _ _ _ answers _ has c.in-UserauthFailure.methods c.in-UserauthFailure.partial_success (ap message_data c.in-UserauthFailure.is) (gives d) (ap (λ (k : StateData). k.sending) stays) stays)

pub returns-in-UserauthSuccess-clause-comes : goal.returns-in-UserauthSuccess-clause-comes
returns-in-UserauthSuccess-clause-comes g c =
    let has = has_place c.messages_law.ensures.complete c.numbers_law.ensures.message_number c.numbers_law.ensures.alike (role_of c.args.config.now) (state_data c.args.self.now) c.args.payload.now (message_data c.args.message.now) c.requires.reads c.requires.spelled in
    if_three c.receive_success.result _ _ _ _ c.receive_success.ensures.gives c.receive_success.ensures.stays c.receive_success.ensures.unsent (λ answers gives stays unsent d.
    let setup = setup_of (g.S.Suite.meaning c.args.suite.now) d c.args.config.now in
    works.success_works setup _ _ _ answers _ has (ap message_data c.in-UserauthSuccess.is) gives unsent stays)

pub returns-in-UserauthPkOk-clause-comes : goal.returns-in-UserauthPkOk-clause-comes
returns-in-UserauthPkOk-clause-comes g c =
    let has = has_place c.messages_law.ensures.complete c.numbers_law.ensures.message_number c.numbers_law.ensures.alike (role_of c.args.config.now) (state_data c.args.self.now) c.args.payload.now (message_data c.args.message.now) c.requires.reads c.requires.spelled in
    if_three c.receive_pk_ok.result _ _ _ _ c.receive_pk_ok.ensures.gives c.receive_pk_ok.ensures.stays c.receive_pk_ok.ensures.unsent (λ answers gives stays unsent d.
    let setup = setup_of (g.S.Suite.meaning c.args.suite.now) d c.args.config.now in
    works.pk_ok_works setup _ _ _ answers _ has c.in-UserauthPkOk.algorithm.now c.in-UserauthPkOk.key.now (ap message_data c.in-UserauthPkOk.is) (gives d) unsent stays)

pub receive_request-requires-clause-calm : goal.receive_request-requires-clause-calm
receive_request-requires-clause-calm g c = ap asked_in (sym (step_request (g.S.Suite.meaning c.args.suite.now) (role_of c.args.config.now) (config_data c.args.config.now) (state_data c.args.self.now).known (message_data c.args.message.now) _ _ _ (ap message_data c.in-UserauthRequest.is))) ∙ c.requires.calm

pub receive_failure-requires-clause-calm : goal.receive_failure-requires-clause-calm
receive_failure-requires-clause-calm g c = ap asked_in (sym (step_failure (g.S.Suite.meaning c.args.suite.now) (role_of c.args.config.now) (config_data c.args.config.now) (state_data c.args.self.now).known (message_data c.args.message.now) _ c.in-UserauthFailure.partial_success (ap message_data c.in-UserauthFailure.is))) ∙ c.requires.calm

pub receive_pk_ok-requires-clause-calm : goal.receive_pk_ok-requires-clause-calm
receive_pk_ok-requires-clause-calm g c = ap asked_in (sym (step_pk_ok (g.S.Suite.meaning c.args.suite.now) (role_of c.args.config.now) (config_data c.args.config.now) (state_data c.args.self.now).known (message_data c.args.message.now) _ _ (ap message_data c.in-UserauthPkOk.is))) ∙ c.requires.calm
