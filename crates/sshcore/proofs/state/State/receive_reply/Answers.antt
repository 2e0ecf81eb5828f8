use Rattle.std.proofs.Common.{◌≡◌, ◌∙◌, List, None, Some, ap, rules, ℕ}
use Rattle.std.proofs.lemmas.Result.{IfOk-weaker}
use Rattle.sshcore.specs.EndpointConfig.{config_data, role_of}
use Rattle.sshcore.specs.StateData.{state_data}
use Rattle.sshcore.proofs.ExchangeLemmas.{made_none, made_some, reply_distrusts, reply_fails, reply_judged, shared_short}
use Rattle.sshcore.proofs.state.State.receive_reply.Goals as goal

pub returns-then-not-trusted-clause-receives : goal.returns-then-not-trusted-clause-receives
returns-then-not-trusted-clause-receives g c =
    let old = state_data c.args.self.now in
    let host_key : List ℕ = c.args.reply.now.host_key.now in
    IfOk-weaker c.fail_reply.result _ _
    (λ made failed d message decided read told form. reply_distrusts (g.S.Suite.meaning c.args.suite.now) d (config_data c.args.config.now) old (state_data c.fail_reply.new.self) made
    message host_key c.args.reply.now.share.now c.args.reply.now.signature.now read told (decided ∙ c.if-not-trusted.true) failed)
    c.fail_reply.ensures.fails

pub judge_reply-requires-clause-shared : goal.judge_reply-requires-clause-shared
judge_reply-requires-clause-shared g c =
    let m = g.S.Suite.meaning c.args.suite.now in
    let kex : List ℕ = c.unwrap-algorithms.result.now.kex in
    let random : List ℕ = (config_data c.args.config.now).random in
    let share : List ℕ = c.args.reply.now.share.now in
    let given : m.shared kex random share ≡ Some c.in-Some.shared.items =
    made_some (λ v. v.items) (λ (k r : List ℕ). m.shared k r share) c.kex.result.now kex c.exchange_random-random.result.now random c.in_ok-shared.field-0 c.in-Some.shared
    c.kex.ensures.kex c.exchange_random-random.ensures.random c.in_ok-shared.ensures c.in-Some.is in
    rw c.deref.ensures.value
    (shared_short (m.share_form kex) c.in-Some.shared.items
    ((g.met.S.Suite.lawful c.args.suite.now).shared_fits kex random share c.in-Some.shared.items c.exchange_random-random.ensures.random_length given))

pub returns-in-None-clause-receives : goal.returns-in-None-clause-receives
returns-in-None-clause-receives g c =
    let m = g.S.Suite.meaning c.args.suite.now in
    let old = state_data c.args.self.now in
    let random : List ℕ = (config_data c.args.config.now).random in
    let host_key : List ℕ = c.args.reply.now.host_key.now in
    let share : List ℕ = c.args.reply.now.share.now in
    let names : c.unwrap-algorithms.result.now ≡ old.known.algorithms = search rules in
    let none : m.shared old.known.algorithms.kex random share ≡ None =
    made_none (λ v. v.items) (λ (k r : List ℕ). m.shared k r share) c.kex.result.now old.known.algorithms.kex c.exchange_random-random.result.now random c.in_ok-shared.field-0
    (c.kex.ensures.kex ∙ ap (λ a. a.kex) names) c.exchange_random-random.ensures.random c.in_ok-shared.ensures c.in-None.is in
    IfOk-weaker c.fail_reply-in-None.result _ _
    (λ made failed d message decided read told form. reply_fails m d (config_data c.args.config.now) old (state_data c.fail_reply-in-None.new.self) made
    message host_key share c.args.reply.now.signature.now read told (decided ∙ c.if-not-trusted.false) none failed)
    c.fail_reply-in-None.ensures.fails

pub returns-in-Some-clause-receives : goal.returns-in-Some-clause-receives
returns-in-Some-clause-receives g c =
    let m = g.S.Suite.meaning c.args.suite.now in
    let old = state_data c.args.self.now in
    let random : List ℕ = (config_data c.args.config.now).random in
    let host_key : List ℕ = c.args.reply.now.host_key.now in
    let share : List ℕ = c.args.reply.now.share.now in
    let names : c.unwrap-algorithms.result.now ≡ old.known.algorithms = search rules in
    let given : m.shared old.known.algorithms.kex random share ≡ Some c.in-Some.shared.items =
    made_some (λ v. v.items) (λ (k r : List ℕ). m.shared k r share) c.kex.result.now old.known.algorithms.kex c.exchange_random-random.result.now random c.in_ok-shared.field-0
    c.in-Some.shared (c.kex.ensures.kex ∙ ap (λ a. a.kex) names) c.exchange_random-random.ensures.random c.in_ok-shared.ensures c.in-Some.is in
    IfOk-weaker c.judge_reply.result _ _
    (λ made judged d message decided read told form. reply_judged m d (config_data c.args.config.now) old (state_data c.judge_reply.new.self) made message host_key share c.args.reply.now.signature.now read told (role_of c.args.config.now) c.deref.result.now
    c.in-Some.shared.items c.requires.client c.deref.ensures.value (decided ∙ c.if-not-trusted.false) given c.requires.open c.requires.at form judged)
    c.judge_reply.ensures.judges
