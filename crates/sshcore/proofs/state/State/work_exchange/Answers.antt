use Rattle.std.proofs.Common.{◌≡◌, ℕ, ◌+◌, ◌≤◌, List, None, length, Ok, sym, subst, ap, ◌∙◌, arith}
use Rattle.std.proofs.lemmas.Result.{IfOk-weaker}
use Rattle.sshmsg.specs.MessageData as content
use Rattle.sshmsg.specs.MessageData.{MessageData}
use Rattle.sshmsg.specs.Lengths.{payload_length}
use Rattle.sshmsg.specs.Numbers.{number_of}
use Rattle.sshmsg.specs.View.{message_data}
use Rattle.sshpacket.specs.declared.limits.TheConstants.{PACKET_LIMIT}
use Rattle.sshneg.specs.declared.side.Side.{Side}
use Rattle.sshcore.specs.EndpointConfig.{config_data, role_of, setup_of}
use Rattle.sshcore.specs.Step.{asked_in}
use Rattle.sshcore.specs.Work.{init_step}
use Rattle.sshcore.specs.Exchange.{share_read}
use Rattle.sshcore.specs.StateData.{state_data}
use Rattle.sshcore.proofs.WorksLemmas as works
use Rattle.sshcore.proofs.WorksLemmas.{has_place}
use Rattle.sshcore.proofs.PendingLemmas.{only_init, step_kex_ecdh_init, step_kexdh_init}
use Rattle.sshcore.proofs.state.State.work_exchange.Goals as goal

pub receive_init-requires-clause-at : goal.receive_init-requires-clause-at
receive_init-requires-clause-at g c =
    let has = has_place c.messages_law.ensures.complete c.numbers_law.ensures.message_number c.numbers_law.ensures.alike (role_of c.args.config.now) (state_data c.args.self.now) c.args.payload.now (message_data c.args.message.now) c.requires.reads c.requires.spelled in
    (works.at_init _ _ _ _ has (ap (λ x. number_of (message_data x)) c.in-KexdhInit.is)).phase_is

pub receive_init-requires-clause-server : goal.receive_init-requires-clause-server
receive_init-requires-clause-server g c =
    let has = has_place c.messages_law.ensures.complete c.numbers_law.ensures.message_number c.numbers_law.ensures.alike (role_of c.args.config.now) (state_data c.args.self.now) c.args.payload.now (message_data c.args.message.now) c.requires.reads c.requires.spelled in
    (works.at_init _ _ _ _ has (ap (λ x. number_of (message_data x)) c.in-KexdhInit.is)).side_is

pub receive_init-requires-clause-short : goal.receive_init-requires-clause-short
receive_init-requires-clause-short g c =
    let whole : length c.args.payload.now ≡ payload_length (message_data c.args.message.now) = c.lengths_law.ensures.spelled _ _ _ c.requires.spelled in
    let parts : payload_length (message_data c.args.message.now) ≡ length c.in-KexdhInit.e + 5 = ap (λ x. payload_length (message_data x)) c.in-KexdhInit.is in
    let body : length c.body.result.now ≡ length c.in-KexdhInit.e = ap (λ (x : List ℕ). length x) c.body.ensures.body in
    let short : length c.args.payload.now ≤ PACKET_LIMIT = c.requires.short in
    omega arith

pub returns-in-KexdhInit-clause-comes : goal.returns-in-KexdhInit-clause-comes
returns-in-KexdhInit-clause-comes g c =
    let has = has_place c.messages_law.ensures.complete c.numbers_law.ensures.message_number c.numbers_law.ensures.alike (role_of c.args.config.now) (state_data c.args.self.now) c.args.payload.now (message_data c.args.message.now) c.requires.reads c.requires.spelled in
    let is : message_data c.args.message.now ≡ content.KexdhInit c.in-KexdhInit.e = ap message_data c.in-KexdhInit.is in
    IfOk-weaker c.receive_init.result _ _ (λ made given d form.
    works.init_works (setup_of (g.S.Suite.meaning c.args.suite.now) d c.args.config.now) _ _ _ made _ has (ap number_of is) (works.kexdh_init (setup_of (g.S.Suite.meaning c.args.suite.now) d c.args.config.now) _ _ c.in-KexdhInit.e is)
    (given d (message_data c.args.message.now) (ap (λ (x : MessageData). share_read (Ok x)) is ∙ sym c.body.ensures.body) (subst (λ (r : Side). asked_in (init_step (g.S.Suite.meaning c.args.suite.now) r (config_data c.args.config.now) (state_data c.args.self.now).known (message_data c.args.message.now)) ≡ None) (works.at_init _ _ _ _ has (ap number_of is)).side_is
    (ap asked_in (sym (step_kexdh_init (g.S.Suite.meaning c.args.suite.now) (role_of c.args.config.now) (config_data c.args.config.now) (state_data c.args.self.now).known (message_data c.args.message.now) c.in-KexdhInit.e is)) ∙ c.requires.calm)) form)) c.receive_init.ensures.receives

pub receive_init-requires-in-KexEcdhInit-clause-at : goal.receive_init-requires-in-KexEcdhInit-clause-at
receive_init-requires-in-KexEcdhInit-clause-at g c =
    let has = has_place c.messages_law.ensures.complete c.numbers_law.ensures.message_number c.numbers_law.ensures.alike (role_of c.args.config.now) (state_data c.args.self.now) c.args.payload.now (message_data c.args.message.now) c.requires.reads c.requires.spelled in
    (works.at_init _ _ _ _ has (ap (λ x. number_of (message_data x)) c.in-KexEcdhInit.is)).phase_is

pub receive_init-requires-in-KexEcdhInit-clause-server : goal.receive_init-requires-in-KexEcdhInit-clause-server
receive_init-requires-in-KexEcdhInit-clause-server g c =
    let has = has_place c.messages_law.ensures.complete c.numbers_law.ensures.message_number c.numbers_law.ensures.alike (role_of c.args.config.now) (state_data c.args.self.now) c.args.payload.now (message_data c.args.message.now) c.requires.reads c.requires.spelled in
    (works.at_init _ _ _ _ has (ap (λ x. number_of (message_data x)) c.in-KexEcdhInit.is)).side_is

pub receive_init-requires-in-KexEcdhInit-clause-short : goal.receive_init-requires-in-KexEcdhInit-clause-short
receive_init-requires-in-KexEcdhInit-clause-short g c =
    let whole : length c.args.payload.now ≡ payload_length (message_data c.args.message.now) = c.lengths_law.ensures.spelled _ _ _ c.requires.spelled in
    let parts : payload_length (message_data c.args.message.now) ≡ length c.in-KexEcdhInit.client_share.now + 5 = ap (λ x. payload_length (message_data x)) c.in-KexEcdhInit.is in
    let short : length c.args.payload.now ≤ PACKET_LIMIT = c.requires.short in
    omega arith

pub returns-in-KexEcdhInit-clause-comes : goal.returns-in-KexEcdhInit-clause-comes
returns-in-KexEcdhInit-clause-comes g c =
    let has = has_place c.messages_law.ensures.complete c.numbers_law.ensures.message_number c.numbers_law.ensures.alike (role_of c.args.config.now) (state_data c.args.self.now) c.args.payload.now (message_data c.args.message.now) c.requires.reads c.requires.spelled in
    let is : message_data c.args.message.now ≡ content.KexEcdhInit c.in-KexEcdhInit.client_share.now = ap message_data c.in-KexEcdhInit.is in
    IfOk-weaker c.receive_init-in-KexEcdhInit.result _ _ (λ made given d form.
    works.init_works (setup_of (g.S.Suite.meaning c.args.suite.now) d c.args.config.now) _ _ _ made _ has (ap number_of is) (works.kex_ecdh_init (setup_of (g.S.Suite.meaning c.args.suite.now) d c.args.config.now) _ _ c.in-KexEcdhInit.client_share.now is)
    (given d (message_data c.args.message.now) (ap (λ (x : MessageData). share_read (Ok x)) is) (subst (λ (r : Side). asked_in (init_step (g.S.Suite.meaning c.args.suite.now) r (config_data c.args.config.now) (state_data c.args.self.now).known (message_data c.args.message.now)) ≡ None) (works.at_init _ _ _ _ has (ap number_of is)).side_is
    (ap asked_in (sym (step_kex_ecdh_init (g.S.Suite.meaning c.args.suite.now) (role_of c.args.config.now) (config_data c.args.config.now) (state_data c.args.self.now).known (message_data c.args.message.now) c.in-KexEcdhInit.client_share.now is)) ∙ c.requires.calm)) form)) c.receive_init-in-KexEcdhInit.ensures.receives

pub unreachable-requires : goal.unreachable-requires
unreachable-requires g c =
    only_init (g.S.Suite.meaning c.args.suite.now) (role_of c.args.config.now) (config_data c.args.config.now) (state_data c.args.self.now).known c.args.message.now c.in_default.not-KexdhInit c.in_default.not-KexEcdhInit
    c.requires.exchange c.requires.calm
