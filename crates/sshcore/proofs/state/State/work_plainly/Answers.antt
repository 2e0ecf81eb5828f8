use Rattle.std.proofs.Common.{◌≡◌, refl, sym, ap, ◌∙◌}
use Rattle.std.proofs.lemmas.Bool.{true≢false}
use Rattle.sshcore.specs.Table.{is_of_method}
use Rattle.sshmsg.specs.MessageData as content
use Rattle.sshmsg.specs.MessageData.{MessageData}
use Rattle.sshmsg.specs.Numbers.{number_of}
use Rattle.sshmsg.specs.View.{kexinit_data, message_data}
use Rattle.sshcore.specs.EndpointConfig.{config_data, role_of, setup_of}
use Rattle.sshcore.specs.Step.{asked_in}
use Rattle.sshcore.specs.EndData.{end_data}
use Rattle.sshcore.specs.StateData.{state_data}
use Rattle.sshcore.proofs.WorksLemmas as works
use Rattle.sshcore.proofs.WorksLemmas.{IsNone, has_place, if_five, if_four}
use Rattle.sshcore.proofs.PendingLemmas.{step_accept}
use Rattle.sshcore.proofs.state.State.work_plainly.Goals as goal

pub receive_kexinit-requires-clause-read : goal.receive_kexinit-requires-clause-read
receive_kexinit-requires-clause-read g c =
    let has = has_place c.messages_law.ensures.complete c.numbers_law.ensures.message_number c.numbers_law.ensures.alike (role_of c.args.config.now) (state_data c.args.self.now) c.args.payload.now (message_data c.args.message.now) c.requires.reads c.requires.spelled in
    has.offers (kexinit_data c.deref.result.now) (ap message_data c.in-KexInit.is ∙ ap (λ k. content.KexInit (kexinit_data k)) (sym c.deref.ensures))

pub receive_new_keys-requires : goal.receive_new_keys-requires
receive_new_keys-requires g c =
    let has = has_place c.messages_law.ensures.complete c.numbers_law.ensures.message_number c.numbers_law.ensures.alike (role_of c.args.config.now) (state_data c.args.self.now) c.args.payload.now (message_data c.args.message.now) c.requires.reads c.requires.spelled in
    (works.at_newkeys _ _ _ _ has (ap (λ x. number_of (message_data x)) c.in-NewKeys.is)).phase_is

pub receive_service_request-requires-clause-at : goal.receive_service_request-requires-clause-at
receive_service_request-requires-clause-at g c =
    let has = has_place c.messages_law.ensures.complete c.numbers_law.ensures.message_number c.numbers_law.ensures.alike (role_of c.args.config.now) (state_data c.args.self.now) c.args.payload.now (message_data c.args.message.now) c.requires.reads c.requires.spelled in
    (works.at_request _ _ _ _ has (ap (λ x. number_of (message_data x)) c.in-ServiceRequest.is)).phase_is

pub returns-in-Disconnect-clause-comes : goal.returns-in-Disconnect-clause-comes
returns-in-Disconnect-clause-comes g c = λ d.
    let setup = setup_of (g.S.Suite.meaning c.args.suite.now) d c.args.config.now in
    let has = has_place c.messages_law.ensures.complete c.numbers_law.ensures.message_number c.numbers_law.ensures.alike (role_of c.args.config.now) (state_data c.args.self.now) c.args.payload.now (message_data c.args.message.now) c.requires.reads c.requires.spelled in
    works.disconnect_works setup _ _ _ c.none.result c.none.ensures _ has c.in-Disconnect.reason c.in-Disconnect.description.now c.in-Disconnect.language.now (ap message_data c.in-Disconnect.is) (ap end_data c.set.ensures) refl

pub returns-in-KexInit-clause-comes : goal.returns-in-KexInit-clause-comes
returns-in-KexInit-clause-comes g c =
    let has = has_place c.messages_law.ensures.complete c.numbers_law.ensures.message_number c.numbers_law.ensures.alike (role_of c.args.config.now) (state_data c.args.self.now) c.args.payload.now (message_data c.args.message.now) c.requires.reads c.requires.spelled in
    let is : message_data c.args.message.now ≡ content.KexInit (kexinit_data c.deref.result.now) = ap message_data c.in-KexInit.is ∙ ap (λ k. content.KexInit (kexinit_data k)) (sym c.deref.ensures) in
    if_five c.receive_kexinit.result _ _ _ _ _ _ c.receive_kexinit.ensures.gives c.receive_kexinit.ensures.unsent c.receive_kexinit.ensures.form c.receive_kexinit.ensures.carries c.receive_kexinit.ensures.moves (λ answers gives unsent form keys moves d.
    works.kexinit_works (setup_of (g.S.Suite.meaning c.args.suite.now) d c.args.config.now) _ _ _ answers _ has (kexinit_data c.deref.result.now) is gives unsent form keys moves)

pub returns-in_default-clause-comes : goal.returns-in_default-clause-comes
returns-in_default-clause-comes g c = λ d.
    let setup = setup_of (g.S.Suite.meaning c.args.suite.now) d c.args.config.now in
    let has = has_place c.messages_law.ensures.complete c.numbers_law.ensures.message_number c.numbers_law.ensures.alike (role_of c.args.config.now) (state_data c.args.self.now) c.args.payload.now (message_data c.args.message.now) c.requires.reads c.requires.spelled in
    let none : IsNone c.args.message.now = record {
      disconnect = c.in_default.not-Disconnect;
      request = c.in_default.not-ServiceRequest;
      accept = c.in_default.not-ServiceAccept;
      kexinit = c.in_default.not-KexInit;
      newkeys = c.in_default.not-NewKeys;
      kexdh_init = λ x is. absurd (true≢false (sym (ap (λ q. is_of_method (number_of (message_data q))) is) ∙ c.requires.other));
      kexdh_reply = λ x y z is. absurd (true≢false (sym (ap (λ q. is_of_method (number_of (message_data q))) is) ∙ c.requires.other));
      kex_ecdh_init = λ x is. absurd (true≢false (sym (ap (λ q. is_of_method (number_of (message_data q))) is) ∙ c.requires.other));
      kex_ecdh_reply = λ x y z is. absurd (true≢false (sym (ap (λ q. is_of_method (number_of (message_data q))) is) ∙ c.requires.other));
      user_request = c.in_default.not-UserauthRequest;
      failure = c.in_default.not-UserauthFailure;
      success = c.in_default.not-UserauthSuccess;
      confirmation = c.in_default.not-UserauthPkOk;
    } in
    let ignored = works.ignores setup (state_data c.args.self.now).known c.args.message.now none in
    works.plain_works setup _ _ _ c.none-in_default.result c.none-in_default.ensures _ has ignored.plain ignored.work_is c.requires.open c.count.ensures

pub returns-in-NewKeys-clause-comes : goal.returns-in-NewKeys-clause-comes
returns-in-NewKeys-clause-comes g c = λ d.
    let setup = setup_of (g.S.Suite.meaning c.args.suite.now) d c.args.config.now in
    let has = has_place c.messages_law.ensures.complete c.numbers_law.ensures.message_number c.numbers_law.ensures.alike (role_of c.args.config.now) (state_data c.args.self.now) c.args.payload.now (message_data c.args.message.now) c.requires.reads c.requires.spelled in
    works.newkeys_works setup _ _ _ c.none-in-NewKeys.result c.none-in-NewKeys.ensures _ has (ap message_data c.in-NewKeys.is) c.requires.open c.receive_new_keys.ensures

pub returns-in-ServiceRequest-clause-comes : goal.returns-in-ServiceRequest-clause-comes
returns-in-ServiceRequest-clause-comes g c =
    let has = has_place c.messages_law.ensures.complete c.numbers_law.ensures.message_number c.numbers_law.ensures.alike (role_of c.args.config.now) (state_data c.args.self.now) c.args.payload.now (message_data c.args.message.now) c.requires.reads c.requires.spelled in
    if_four c.receive_service_request.result _ _ _ _ _ c.receive_service_request.ensures.gives c.receive_service_request.ensures.unsent c.receive_service_request.ensures.carries c.receive_service_request.ensures.stands (λ answers gives unsent keys stands d.
    works.request_works (setup_of (g.S.Suite.meaning c.args.suite.now) d c.args.config.now) _ _ _ answers _ has c.in-ServiceRequest.service.now (ap message_data c.in-ServiceRequest.is) gives unsent keys stands)

pub returns-in-ServiceAccept-clause-comes : goal.returns-in-ServiceAccept-clause-comes
returns-in-ServiceAccept-clause-comes g c =
    let has = has_place c.messages_law.ensures.complete c.numbers_law.ensures.message_number c.numbers_law.ensures.alike (role_of c.args.config.now) (state_data c.args.self.now) c.args.payload.now (message_data c.args.message.now) c.requires.reads c.requires.spelled in
    if_four c.receive_service_accept.result _ _ _ _ _ c.receive_service_accept.ensures.gives c.receive_service_accept.ensures.unsent c.receive_service_accept.ensures.carries c.receive_service_accept.ensures.stands (λ answers gives unsent keys stands d.
    works.accept_works (setup_of (g.S.Suite.meaning c.args.suite.now) d c.args.config.now) _ _ _ answers _ has c.in-ServiceAccept.service.now (ap message_data c.in-ServiceAccept.is) (gives d) unsent keys stands)

pub receive_service_accept-requires-clause-at : goal.receive_service_accept-requires-clause-at
receive_service_accept-requires-clause-at g c =
    let has = has_place c.messages_law.ensures.complete c.numbers_law.ensures.message_number c.numbers_law.ensures.alike (role_of c.args.config.now) (state_data c.args.self.now) c.args.payload.now (message_data c.args.message.now) c.requires.reads c.requires.spelled in
    (works.at_accept _ _ _ _ has (ap (λ x. number_of (message_data x)) c.in-ServiceAccept.is)).phase_is

pub receive_service_accept-requires-clause-calm : goal.receive_service_accept-requires-clause-calm
receive_service_accept-requires-clause-calm g c =
    ap asked_in (sym (step_accept (g.S.Suite.meaning c.args.suite.now) (role_of c.args.config.now) (config_data c.args.config.now) (state_data c.args.self.now).known (message_data c.args.message.now) c.in-ServiceAccept.service.now (ap message_data c.in-ServiceAccept.is))) ∙ c.requires.calm
