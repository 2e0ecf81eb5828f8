use Rattle.std.proofs.Common.{◌≡◌, ◌≤◌, ◌+◌, ℕ, List, Ok, arith, length, ap, sym, ◌∙◌}
use Rattle.std.proofs.lemmas.Result.{IfOk-weaker}
use Rattle.sshmsg.specs.Lengths.{method_length, payload_length}
use Rattle.sshmsg.specs.MessageData.{MessageData, method_name}
use Rattle.sshmsg.specs.Numbers.{number_of}
use Rattle.sshmsg.specs.View.{message_data, method_data}
use Rattle.sshpacket.specs.declared.limits.TheConstants.{PACKET_LIMIT}
use Rattle.sshcore.specs.EndpointConfig.{config_data, role_of}
use Rattle.sshneg.specs.declared.side.Side.{Side}
use Rattle.sshcore.specs.Exchange.{host_key_read, share_read}
use Rattle.sshcore.specs.Step.{asked_in}
use Rattle.sshcore.specs.Work.{init_step}
use Rattle.sshcore.specs.StateData.{state_data}
use Rattle.sshcore.proofs.PendingLemmas.{accept_fits, failure_fits, init_fits, pk_ok_fits, quiet_asks, reply_asks, reply_fits, request_fits, some_weaker, step_accept, step_failure, step_kex_ecdh_init, step_kex_ecdh_reply, step_kexdh_init, step_kexdh_reply, step_pk_ok, step_request}
use Rattle.sshcore.proofs.WorksLemmas as works
use Rattle.sshcore.proofs.WorksLemmas.{has_place}
use Rattle.sshcore.proofs.state.State.pending_of.Goals as goal

pub pending_reply-requires : goal.pending_reply-requires
pending_reply-requires g c =
    let has = has_place c.messages_law.ensures.complete c.numbers_law.ensures.message_number c.numbers_law.ensures.alike (role_of c.args.config.now) (state_data c.args.self.now) c.args.payload.now (message_data c.args.message.now) c.requires.reads c.requires.spelled in
    record { at = (works.at_reply _ _ _ _ has (ap (λ x. number_of (message_data x)) c.in-KexdhReply.is)).phase_is }

pub pending_reply-requires-in-KexEcdhReply : goal.pending_reply-requires-in-KexEcdhReply
pending_reply-requires-in-KexEcdhReply g c =
    let has = has_place c.messages_law.ensures.complete c.numbers_law.ensures.message_number c.numbers_law.ensures.alike (role_of c.args.config.now) (state_data c.args.self.now) c.args.payload.now (message_data c.args.message.now) c.requires.reads c.requires.spelled in
    record { at = (works.at_reply _ _ _ _ has (ap (λ x. number_of (message_data x)) c.in-KexEcdhReply.is)).phase_is }

pub pending_init-requires-clause-at : goal.pending_init-requires-clause-at
pending_init-requires-clause-at g c =
    let has = has_place c.messages_law.ensures.complete c.numbers_law.ensures.message_number c.numbers_law.ensures.alike (role_of c.args.config.now) (state_data c.args.self.now) c.args.payload.now (message_data c.args.message.now) c.requires.reads c.requires.spelled in
    (works.at_init _ _ _ _ has (ap (λ x. number_of (message_data x)) c.in-KexdhInit.is)).phase_is

pub pending_init-requires-clause-server : goal.pending_init-requires-clause-server
pending_init-requires-clause-server g c =
    let has = has_place c.messages_law.ensures.complete c.numbers_law.ensures.message_number c.numbers_law.ensures.alike (role_of c.args.config.now) (state_data c.args.self.now) c.args.payload.now (message_data c.args.message.now) c.requires.reads c.requires.spelled in
    (works.at_init _ _ _ _ has (ap (λ x. number_of (message_data x)) c.in-KexdhInit.is)).side_is

pub pending_init-requires-in-KexEcdhInit-clause-at : goal.pending_init-requires-in-KexEcdhInit-clause-at
pending_init-requires-in-KexEcdhInit-clause-at g c =
    let has = has_place c.messages_law.ensures.complete c.numbers_law.ensures.message_number c.numbers_law.ensures.alike (role_of c.args.config.now) (state_data c.args.self.now) c.args.payload.now (message_data c.args.message.now) c.requires.reads c.requires.spelled in
    (works.at_init _ _ _ _ has (ap (λ x. number_of (message_data x)) c.in-KexEcdhInit.is)).phase_is

pub pending_init-requires-in-KexEcdhInit-clause-server : goal.pending_init-requires-in-KexEcdhInit-clause-server
pending_init-requires-in-KexEcdhInit-clause-server g c =
    let has = has_place c.messages_law.ensures.complete c.numbers_law.ensures.message_number c.numbers_law.ensures.alike (role_of c.args.config.now) (state_data c.args.self.now) c.args.payload.now (message_data c.args.message.now) c.requires.reads c.requires.spelled in
    (works.at_init _ _ _ _ has (ap (λ x. number_of (message_data x)) c.in-KexEcdhInit.is)).side_is

pub pending_init-requires-clause-short : goal.pending_init-requires-clause-short
pending_init-requires-clause-short g c =
    let whole : length c.args.payload.now ≡ payload_length (message_data c.args.message.now) = c.lengths_law.ensures.spelled _ _ _ c.requires.spelled in
    let parts : payload_length (message_data c.args.message.now) ≡ length c.in-KexdhInit.e + 5 = ap (λ x. payload_length (message_data x)) c.in-KexdhInit.is in
    let body : length c.body-in-KexdhInit.result.now ≡ length c.in-KexdhInit.e = ap (λ (x : List ℕ). length x) c.body-in-KexdhInit.ensures.body in
    let short : length c.args.payload.now ≤ PACKET_LIMIT = c.requires.short in
    omega arith

pub pending_init-requires-in-KexEcdhInit-clause-short : goal.pending_init-requires-in-KexEcdhInit-clause-short
pending_init-requires-in-KexEcdhInit-clause-short g c =
    let whole : length c.args.payload.now ≡ payload_length (message_data c.args.message.now) = c.lengths_law.ensures.spelled _ _ _ c.requires.spelled in
    let parts : payload_length (message_data c.args.message.now) ≡ length c.in-KexEcdhInit.client_share.now + 5 = ap (λ x. payload_length (message_data x)) c.in-KexEcdhInit.is in
    let short : length c.args.payload.now ≤ PACKET_LIMIT = c.requires.short in
    omega arith

pub returns-in-KexdhReply-clause-asks : goal.returns-in-KexdhReply-clause-asks
returns-in-KexdhReply-clause-asks g c =
    let has = has_place c.messages_law.ensures.complete c.numbers_law.ensures.message_number c.numbers_law.ensures.alike (role_of c.args.config.now) (state_data c.args.self.now) c.args.payload.now (message_data c.args.message.now) c.requires.reads c.requires.spelled in
    let is = ap message_data c.in-KexdhReply.is in
    IfOk-weaker c.pending_reply.result _ _ (λ o asks. asks
    ∙ (reply_asks (g.S.Suite.meaning c.args.suite.now) (role_of c.args.config.now) (config_data c.args.config.now) (state_data c.args.self.now).known (message_data c.args.message.now) (works.at_reply _ _ _ _ has (ap number_of is)).side_is c.in-KexdhReply.host_key.now c.in-KexdhReply.signature.now (ap (λ (x : MessageData). host_key_read (Ok x)) is)
    ∙ ap asked_in (sym (step_kexdh_reply (g.S.Suite.meaning c.args.suite.now) (role_of c.args.config.now) (config_data c.args.config.now) (state_data c.args.self.now).known (message_data c.args.message.now) c.in-KexdhReply.host_key.now c.in-KexdhReply.f c.in-KexdhReply.signature.now is)))) c.pending_reply.ensures.asks

pub returns-in-KexdhReply-clause-fits : goal.returns-in-KexdhReply-clause-fits
returns-in-KexdhReply-clause-fits g c =
    let is = ap message_data c.in-KexdhReply.is in
    let whole : length c.args.payload.now ≡ payload_length (message_data c.args.message.now) = c.lengths_law.ensures.spelled _ _ _ c.requires.spelled in
    let short : length c.args.payload.now ≤ PACKET_LIMIT = c.requires.short in
    let parts : payload_length (message_data c.args.message.now) ≡ length c.in-KexdhReply.host_key.now + length c.in-KexdhReply.f + length c.in-KexdhReply.signature.now + 13 = ap payload_length is in
    let body : length c.body.result.now ≡ length c.in-KexdhReply.f = ap (λ (x : List ℕ). length x) c.body.ensures.body in
    IfOk-weaker c.pending_reply.result _ _ (λ o fits. some_weaker _ _ o
    (reply_fits (g.S.Suite.meaning c.args.suite.now) (role_of c.args.config.now) (config_data c.args.config.now) (state_data c.args.self.now).known (message_data c.args.message.now) c.in-KexdhReply.host_key.now c.body.result.now c.in-KexdhReply.signature.now (ap number_of is) (ap (λ (x : MessageData). share_read (Ok x)) is ∙ sym c.body.ensures.body) (ap (λ (x : MessageData). host_key_read (Ok x)) is) (step_kexdh_reply (g.S.Suite.meaning c.args.suite.now) (role_of c.args.config.now) (config_data c.args.config.now) (state_data c.args.self.now).known (message_data c.args.message.now) c.in-KexdhReply.host_key.now c.in-KexdhReply.f c.in-KexdhReply.signature.now is)
    (omega arith) (omega arith) (omega arith)) fits) c.pending_reply.ensures.fits

pub returns-in-KexEcdhReply-clause-asks : goal.returns-in-KexEcdhReply-clause-asks
returns-in-KexEcdhReply-clause-asks g c =
    let has = has_place c.messages_law.ensures.complete c.numbers_law.ensures.message_number c.numbers_law.ensures.alike (role_of c.args.config.now) (state_data c.args.self.now) c.args.payload.now (message_data c.args.message.now) c.requires.reads c.requires.spelled in
    let is = ap message_data c.in-KexEcdhReply.is in
    IfOk-weaker c.pending_reply-in-KexEcdhReply.result _ _ (λ o asks. asks
    ∙ (reply_asks (g.S.Suite.meaning c.args.suite.now) (role_of c.args.config.now) (config_data c.args.config.now) (state_data c.args.self.now).known (message_data c.args.message.now) (works.at_reply _ _ _ _ has (ap number_of is)).side_is c.in-KexEcdhReply.host_key.now c.in-KexEcdhReply.signature.now (ap (λ (x : MessageData). host_key_read (Ok x)) is)
    ∙ ap asked_in (sym (step_kex_ecdh_reply (g.S.Suite.meaning c.args.suite.now) (role_of c.args.config.now) (config_data c.args.config.now) (state_data c.args.self.now).known (message_data c.args.message.now) c.in-KexEcdhReply.host_key.now c.in-KexEcdhReply.server_share.now c.in-KexEcdhReply.signature.now is)))) c.pending_reply-in-KexEcdhReply.ensures.asks

pub returns-in-KexEcdhReply-clause-fits : goal.returns-in-KexEcdhReply-clause-fits
returns-in-KexEcdhReply-clause-fits g c =
    let is = ap message_data c.in-KexEcdhReply.is in
    let whole : length c.args.payload.now ≡ payload_length (message_data c.args.message.now) = c.lengths_law.ensures.spelled _ _ _ c.requires.spelled in
    let short : length c.args.payload.now ≤ PACKET_LIMIT = c.requires.short in
    let parts : payload_length (message_data c.args.message.now) ≡ length c.in-KexEcdhReply.host_key.now + length c.in-KexEcdhReply.server_share.now + length c.in-KexEcdhReply.signature.now + 13 = ap payload_length is in
    IfOk-weaker c.pending_reply-in-KexEcdhReply.result _ _ (λ o fits. some_weaker _ _ o
    (reply_fits (g.S.Suite.meaning c.args.suite.now) (role_of c.args.config.now) (config_data c.args.config.now) (state_data c.args.self.now).known (message_data c.args.message.now) c.in-KexEcdhReply.host_key.now c.in-KexEcdhReply.server_share.now c.in-KexEcdhReply.signature.now (ap number_of is) (ap (λ (x : MessageData). share_read (Ok x)) is) (ap (λ (x : MessageData). host_key_read (Ok x)) is) (step_kex_ecdh_reply (g.S.Suite.meaning c.args.suite.now) (role_of c.args.config.now) (config_data c.args.config.now) (state_data c.args.self.now).known (message_data c.args.message.now) c.in-KexEcdhReply.host_key.now c.in-KexEcdhReply.server_share.now c.in-KexEcdhReply.signature.now is)
    (omega arith) (omega arith) (omega arith)) fits) c.pending_reply-in-KexEcdhReply.ensures.fits

pub returns-in-KexdhInit-clause-asks : goal.returns-in-KexdhInit-clause-asks
returns-in-KexdhInit-clause-asks g c =
    let has = has_place c.messages_law.ensures.complete c.numbers_law.ensures.message_number c.numbers_law.ensures.alike (role_of c.args.config.now) (state_data c.args.self.now) c.args.payload.now (message_data c.args.message.now) c.requires.reads c.requires.spelled in
    let is = ap message_data c.in-KexdhInit.is in
    let side = (works.at_init _ _ _ _ has (ap number_of is)).side_is in
    IfOk-weaker c.pending_init.result _ _ (λ o asks. asks (message_data c.args.message.now) (ap (λ (x : MessageData). share_read (Ok x)) is ∙ sym c.body-in-KexdhInit.ensures.body)
    ∙ (ap (λ (r : Side). asked_in (init_step (g.S.Suite.meaning c.args.suite.now) r (config_data c.args.config.now) (state_data c.args.self.now).known (message_data c.args.message.now))) (sym side)
    ∙ ap asked_in (sym (step_kexdh_init (g.S.Suite.meaning c.args.suite.now) (role_of c.args.config.now) (config_data c.args.config.now) (state_data c.args.self.now).known (message_data c.args.message.now) c.in-KexdhInit.e is)))) c.pending_init.ensures.asks

pub returns-in-KexdhInit-clause-fits : goal.returns-in-KexdhInit-clause-fits
returns-in-KexdhInit-clause-fits g c =
    let is = ap message_data c.in-KexdhInit.is in
    IfOk-weaker c.pending_init.result _ _ (λ o fits. some_weaker _ _ o (init_fits (g.S.Suite.meaning c.args.suite.now) (role_of c.args.config.now) (config_data c.args.config.now) (state_data c.args.self.now).known (message_data c.args.message.now) c.body-in-KexdhInit.result.now (ap number_of is) (ap (λ (x : MessageData). share_read (Ok x)) is ∙ sym c.body-in-KexdhInit.ensures.body)) fits) c.pending_init.ensures.fits

pub returns-in-KexEcdhInit-clause-asks : goal.returns-in-KexEcdhInit-clause-asks
returns-in-KexEcdhInit-clause-asks g c =
    let has = has_place c.messages_law.ensures.complete c.numbers_law.ensures.message_number c.numbers_law.ensures.alike (role_of c.args.config.now) (state_data c.args.self.now) c.args.payload.now (message_data c.args.message.now) c.requires.reads c.requires.spelled in
    let is = ap message_data c.in-KexEcdhInit.is in
    let side = (works.at_init _ _ _ _ has (ap number_of is)).side_is in
    IfOk-weaker c.pending_init-in-KexEcdhInit.result _ _ (λ o asks. asks (message_data c.args.message.now) (ap (λ (x : MessageData). share_read (Ok x)) is)
    ∙ (ap (λ (r : Side). asked_in (init_step (g.S.Suite.meaning c.args.suite.now) r (config_data c.args.config.now) (state_data c.args.self.now).known (message_data c.args.message.now))) (sym side)
    ∙ ap asked_in (sym (step_kex_ecdh_init (g.S.Suite.meaning c.args.suite.now) (role_of c.args.config.now) (config_data c.args.config.now) (state_data c.args.self.now).known (message_data c.args.message.now) c.in-KexEcdhInit.client_share.now is)))) c.pending_init-in-KexEcdhInit.ensures.asks

pub returns-in-KexEcdhInit-clause-fits : goal.returns-in-KexEcdhInit-clause-fits
returns-in-KexEcdhInit-clause-fits g c =
    let is = ap message_data c.in-KexEcdhInit.is in
    IfOk-weaker c.pending_init-in-KexEcdhInit.result _ _ (λ o fits. some_weaker _ _ o (init_fits (g.S.Suite.meaning c.args.suite.now) (role_of c.args.config.now) (config_data c.args.config.now) (state_data c.args.self.now).known (message_data c.args.message.now) c.in-KexEcdhInit.client_share.now (ap number_of is) (ap (λ (x : MessageData). share_read (Ok x)) is)) fits) c.pending_init-in-KexEcdhInit.ensures.fits

pub returns-in-UserauthRequest-clause-asks : goal.returns-in-UserauthRequest-clause-asks
returns-in-UserauthRequest-clause-asks g c =
    IfOk-weaker c.pending_request.result _ _ (λ o asks. asks ∙ ap asked_in (sym (step_request (g.S.Suite.meaning c.args.suite.now) (role_of c.args.config.now) (config_data c.args.config.now) (state_data c.args.self.now).known (message_data c.args.message.now) c.in-UserauthRequest.user.now c.in-UserauthRequest.service.now (method_data c.in-UserauthRequest.method) (ap message_data c.in-UserauthRequest.is)))) c.pending_request.ensures.asks

pub returns-in-UserauthRequest-clause-fits : goal.returns-in-UserauthRequest-clause-fits
returns-in-UserauthRequest-clause-fits g c =
    IfOk-weaker c.pending_request.result _ _ (λ o fits. some_weaker _ _ o (request_fits (g.S.Suite.meaning c.args.suite.now) (role_of c.args.config.now) (config_data c.args.config.now) (state_data c.args.self.now).known (message_data c.args.message.now) c.in-UserauthRequest.user.now c.in-UserauthRequest.service.now (method_data c.in-UserauthRequest.method) (ap message_data c.in-UserauthRequest.is)) fits) c.pending_request.ensures.fits

pub returns-in-ServiceAccept-clause-asks : goal.returns-in-ServiceAccept-clause-asks
returns-in-ServiceAccept-clause-asks g c =
    IfOk-weaker c.pending_accept.result _ _ (λ o asks. asks ∙ ap asked_in (sym (step_accept (g.S.Suite.meaning c.args.suite.now) (role_of c.args.config.now) (config_data c.args.config.now) (state_data c.args.self.now).known (message_data c.args.message.now) c.in-ServiceAccept.service.now (ap message_data c.in-ServiceAccept.is)))) c.pending_accept.ensures.asks

pub returns-in-ServiceAccept-clause-fits : goal.returns-in-ServiceAccept-clause-fits
returns-in-ServiceAccept-clause-fits g c =
    IfOk-weaker c.pending_accept.result _ _ (λ o fits. some_weaker _ _ o (accept_fits (g.S.Suite.meaning c.args.suite.now) (role_of c.args.config.now) (config_data c.args.config.now) (state_data c.args.self.now).known (message_data c.args.message.now) c.in-ServiceAccept.service.now (ap message_data c.in-ServiceAccept.is)) fits) c.pending_accept.ensures.fits

pub returns-in-UserauthFailure-clause-asks : goal.returns-in-UserauthFailure-clause-asks
returns-in-UserauthFailure-clause-asks g c =
    IfOk-weaker c.pending_next.result _ _ (λ o asks. asks ∙ ap asked_in (sym (step_failure (g.S.Suite.meaning c.args.suite.now) (role_of c.args.config.now) (config_data c.args.config.now) (state_data c.args.self.now).known (message_data c.args.message.now) c.in-UserauthFailure.methods c.in-UserauthFailure.partial_success (ap message_data c.in-UserauthFailure.is)))) c.pending_next.ensures.asks

pub returns-in-UserauthFailure-clause-fits : goal.returns-in-UserauthFailure-clause-fits
returns-in-UserauthFailure-clause-fits g c =
    IfOk-weaker c.pending_next.result _ _ (λ o fits. some_weaker _ _ o (failure_fits (g.S.Suite.meaning c.args.suite.now) (role_of c.args.config.now) (config_data c.args.config.now) (state_data c.args.self.now).known (message_data c.args.message.now) c.in-UserauthFailure.methods c.in-UserauthFailure.partial_success (ap message_data c.in-UserauthFailure.is)) fits) c.pending_next.ensures.fits

pub returns-in-UserauthPkOk-clause-asks : goal.returns-in-UserauthPkOk-clause-asks
returns-in-UserauthPkOk-clause-asks g c =
    IfOk-weaker c.pending_confirmed.result _ _ (λ o asks. asks ∙ ap asked_in (sym (step_pk_ok (g.S.Suite.meaning c.args.suite.now) (role_of c.args.config.now) (config_data c.args.config.now) (state_data c.args.self.now).known (message_data c.args.message.now) c.in-UserauthPkOk.algorithm.now c.in-UserauthPkOk.key.now (ap message_data c.in-UserauthPkOk.is)))) c.pending_confirmed.ensures.asks

pub returns-in-UserauthPkOk-clause-fits : goal.returns-in-UserauthPkOk-clause-fits
returns-in-UserauthPkOk-clause-fits g c =
    IfOk-weaker c.pending_confirmed.result _ _ (λ o fits. some_weaker _ _ o (pk_ok_fits (g.S.Suite.meaning c.args.suite.now) (role_of c.args.config.now) (config_data c.args.config.now) (state_data c.args.self.now).known (message_data c.args.message.now) c.in-UserauthPkOk.algorithm.now c.in-UserauthPkOk.key.now (ap message_data c.in-UserauthPkOk.is)) fits) c.pending_confirmed.ensures.fits

pub pending_request-requires-clause-user : goal.pending_request-requires-clause-user
pending_request-requires-clause-user g c =
    let m = method_data c.in-UserauthRequest.method in
    let whole : length c.args.payload.now ≡ payload_length (message_data c.args.message.now) = c.lengths_law.ensures.spelled _ _ _ c.requires.spelled in
    let short : length c.args.payload.now ≤ PACKET_LIMIT = c.requires.short in
    let parts : payload_length (message_data c.args.message.now) ≡ length c.in-UserauthRequest.user.now + length c.in-UserauthRequest.service.now + length (method_name m) + method_length m + 13 = ap (λ x. payload_length (message_data x)) c.in-UserauthRequest.is in
    omega arith

pub pending_request-requires-clause-method : goal.pending_request-requires-clause-method
pending_request-requires-clause-method g c =
    let m = method_data c.in-UserauthRequest.method in
    let whole : length c.args.payload.now ≡ payload_length (message_data c.args.message.now) = c.lengths_law.ensures.spelled _ _ _ c.requires.spelled in
    let short : length c.args.payload.now ≤ PACKET_LIMIT = c.requires.short in
    let parts : payload_length (message_data c.args.message.now) ≡ length c.in-UserauthRequest.user.now + length c.in-UserauthRequest.service.now + length (method_name m) + method_length m + 13 = ap (λ x. payload_length (message_data x)) c.in-UserauthRequest.is in
    works.fits_method m (omega arith)

pub returns-in_default : goal.returns-in_default
returns-in_default g c = record {
  asks = quiet_asks (g.S.Suite.meaning c.args.suite.now) (role_of c.args.config.now) (config_data c.args.config.now) (state_data c.args.self.now).known c.args.message.now c.in_default.not-KexdhInit c.in_default.not-KexEcdhInit
      c.in_default.not-KexdhReply c.in_default.not-KexEcdhReply c.in_default.not-ServiceAccept c.in_default.not-UserauthRequest c.in_default.not-UserauthFailure c.in_default.not-UserauthPkOk;
  fits = tt;
}
