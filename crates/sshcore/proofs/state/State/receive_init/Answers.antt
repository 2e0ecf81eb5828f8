use Rattle.std.proofs.Common.{◌≡◌, List, ℕ, Some, true, false, rules, sym, subst, ◌∙◌}
use Rattle.std.proofs.lemmas.Result.{IfOk-weaker}
use Rattle.sshneg.specs.declared.side.Side.{Side}
use Rattle.sshneg.specs.declared.side.Side.TheVariants.{Server}
use Rattle.sshpacket.specs.Suite.{response_data}
use Rattle.sshcore.specs.EndData.{Reply}
use Rattle.sshcore.specs.EndpointConfig.{config_data, role_of}
use Rattle.sshcore.specs.Exchange.{secret_of}
use Rattle.sshneg.specs.ExchangeEnd.{exchange_hash}
use Rattle.sshcore.specs.Exchanged.{ReceivesExchange, exchange_of_message, exchanged, server_shares}
use Rattle.sshcore.specs.Work.{signed_reply}
use Rattle.sshcore.specs.StateData.{state_data}
use Rattle.sshcore.specs.declared.end.Fault.TheVariants as fault
use Rattle.sshcore.proofs.ExchangeLemmas.{calm_held, none_prepared, prepared_is, receives_failure, settled_fails, settled_held, settled_unheld}
use Rattle.sshcore.proofs.state.State.receive_init.Goals as goal

pub returns-then-not-holds-clause-receives : goal.returns-then-not-holds-clause-receives
returns-then-not-holds-clause-receives g c =
    let m = g.S.Suite.meaning c.args.suite.now in
    let old = state_data c.args.self.now in
    let config = config_data c.args.config.now in
    let off : m.holds old.known.algorithms.host_key (secret_of config.host_keys old.known.algorithms.host_key) ≡ false = search rules in
    IfOk-weaker c.fail_reply.result _ _
    (λ made failed d message read calm form. receives_failure m Server config old (state_data c.fail_reply.new.self) made message fault.Exchange _ (settled_unheld m config old.known message c.args.share.now read d off calm) failed)
    c.fail_reply.ensures.fails

pub returns-in-None-clause-receives : goal.returns-in-None-clause-receives
returns-in-None-clause-receives g c =
    let m = g.S.Suite.meaning c.args.suite.now in
    let old = state_data c.args.self.now in
    let config = config_data c.args.config.now in
    let none = none_prepared m (role_of c.args.config.now) config old.known c.args.share.now c.in_ok-prepare_init.field-0 c.in-None.is c.in_ok-prepare_init.ensures in
    IfOk-weaker c.fail_reply-in-None.result _ _
    (λ made failed d message read calm form. receives_failure m Server config old (state_data c.fail_reply-in-None.new.self) made message fault.Exchange _ (settled_fails m config old.known message c.args.share.now read d none) failed)
    c.fail_reply-in-None.ensures.fails

pub returns-in_ok-signature-in-Some-clause-receives : goal.returns-in_ok-signature-in-Some-clause-receives
returns-in_ok-signature-in-Some-clause-receives g c =
    let m = g.S.Suite.meaning c.args.suite.now in
    let old = state_data c.args.self.now in
    let role = role_of c.args.config.now in
    let config = config_data c.args.config.now in
    let p = c.in-Some.prepared in
    let is = prepared_is m role config old.known c.args.share.now c.in_ok-prepare_init.field-0 p c.in-Some.is c.in_ok-prepare_init.ensures in
    IfOk-weaker c.answer_init.result _ _
    (λ made receives d message read calm form.
    let held : m.holds old.known.algorithms.host_key _ ≡ true = calm_held m config old.known message c.args.share.now read (response_data p.response) is.response calm in
    subst (λ (r : Reply). ReceivesExchange m Server config old (state_data c.answer_init.new.self) made message r)
    (sym (settled_held m config old.known message c.args.share.now read d (response_data p.response) p.hash.items is.response held (subst (λ (r : Side). p.hash.items ≡ exchange_hash m old.known.algorithms.kex (exchanged r config old.known (server_shares m config old.known c.args.share.now (response_data p.response)))) c.requires.server is.hash)))
    (subst (λ (l : List ℕ). ReceivesExchange m Server config old (state_data c.answer_init.new.self) made message
    (signed_reply config old.known (exchange_of_message m Server config old.known message) (Some l))) (c.deref.ensures.value ∙ c.in_ok-signature-in-Some.ensures.signed)
    (receives message c.args.share.now read is form)))
    c.answer_init.ensures.receives
