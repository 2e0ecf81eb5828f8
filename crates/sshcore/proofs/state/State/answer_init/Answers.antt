use Rattle.std.proofs.Common.{◌≡◌, List, ℕ, Bor, Option, option_map, sym, ap, subst, refl, rules, ◌∙◌}
use Rattle.std.proofs.lemmas.Result.{IfOk-weaker}
use Rattle.sshmsg.specs.Written.{written_message}
use Rattle.sshneg.specs.declared.side.Side.TheVariants.{Server}
use Rattle.sshpacket.specs.Suite.{response_data}
use Rattle.sshcore.specs.EndpointConfig.{config_data, role_of}
use Rattle.sshcore.specs.Exchanged.{ReceivesExchange, exchange_of_message}
use Rattle.sshcore.specs.StateData.{state_data}
use Rattle.sshcore.specs.Work.{reply_in, signed_reply}
use Rattle.sshcore.proofs.ExchangeLemmas.{init_answers, init_unsigned, reply_kind}
use Rattle.sshcore.proofs.MadeLemmas.{made_plain}
use Rattle.sshcore.proofs.state.State.answer_init.Goals as goal

pub returns-in_default-clause-receives : goal.returns-in_default-clause-receives
returns-in_default-clause-receives g c =
    let m = g.S.Suite.meaning c.args.suite.now in
    let old = state_data c.args.self.now in
    let config = config_data c.args.config.now in
    let new = state_data c.fail_reply.new.self in
    IfOk-weaker c.fail_reply.result _ _ (λ made failed message share read is form.
    subst (λ (o : Option (Bor (List ℕ))). ReceivesExchange m Server config old new made message
    (signed_reply config old.known (exchange_of_message m Server config old.known message) (option_map (λ (s : Bor (List ℕ)). s.now) o))) (sym c.in_default.is)
    (init_unsigned m config old new made message share read failed)) c.fail_reply.ensures.fails

pub finish_exchange-requires-clause-answer : goal.finish_exchange-requires-clause-answer
finish_exchange-requires-clause-answer g c =
    made_plain _ _ c.in_ok-answer.ensures (reply_kind c.share_form-form.result _ _ _)

pub returns-clause-receives : goal.returns-clause-receives
returns-clause-receives g c =
    let m = g.S.Suite.meaning c.args.suite.now in
    let old = state_data c.args.self.now in
    let role = role_of c.args.config.now in
    let config = config_data c.args.config.now in
    let new = state_data c.finish_exchange.new.self in
    let p = c.args.prepared.now in
    let kex = old.known.algorithms.kex in
    let signature = c.in-Some.signature.now in
    let form : c.share_form-form.result ≡ m.share_form kex = search rules in
    let payload : c.in_ok-answer.answer.items ≡ written_message (reply_in (m.share_form kex) p.host_key.items p.response.share.items signature) =
    c.in_ok-answer.ensures.same ∙ rw (form, c.deref.ensures.value, c.deref-2.ensures.value) refl in
    IfOk-weaker c.finish_exchange.result _ _ (λ made answers message share read is form.
    subst (λ (o : Option (Bor (List ℕ))). ReceivesExchange m Server config old new made message
    (signed_reply config old.known (exchange_of_message m Server config old.known message) (option_map (λ (s : Bor (List ℕ)). s.now) o))) (sym c.in-Some.is)
    (init_answers m config old new made message share read role (response_data p.response) p.hash.items p.host_key.items c.in_ok-answer.answer.items signature
    c.requires.server is.response c.requires.open c.requires.at form
    (record {
      hash_is = is.hash;
      host_key_is = is.host_key;
      payload_is = payload ∙ ap (λ (l : List ℕ). written_message (reply_in (m.share_form kex) l p.response.share.items signature)) is.host_key;
    }) answers)) c.finish_exchange.ensures
