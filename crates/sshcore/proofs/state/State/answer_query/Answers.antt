use Rattle.std.proofs.Common.{◌∙◌, ◌≡◌, ◌<◌, ◌≤◌, sym, ap, arith}
use Rattle.std.proofs.lemmas.Bool.{leb-false}
use Rattle.std.proofs.lemmas.Result.{IfOk-weaker}
use Rattle.sshcore.specs.declared.config_parts.TheConstants.{TRIES_LIMIT}
use Rattle.sshcore.specs.EndpointConfig.{config_data}
use Rattle.sshcore.specs.Requests.{query_reply}
use Rattle.sshcore.specs.StateData.{StateData}
use Rattle.sshcore.proofs.state.State.answer_query.Goals as goal

pub confirm-requires-clause-granted : goal.confirm-requires-clause-granted
confirm-requires-clause-granted c =
    let same : c.forget_others.new.self.request ≡ c.args.self.now.request = ap (λ (k : StateData). k.known.request) c.forget_others.ensures in
    let more : c.args.self.now.request < (config_data c.args.config.now).tries = leb-false (config_data c.args.config.now).tries c.args.self.now.request c.requires.more in
    let most : (config_data c.args.config.now).tries ≤ TRIES_LIMIT = c.tries_law.ensures in
    omega arith

pub refuse-requires-clause-granted : goal.refuse-requires-clause-granted
refuse-requires-clause-granted c =
    let same : c.forget_others.new.self.request ≡ c.args.self.now.request = ap (λ (k : StateData). k.known.request) c.forget_others.ensures in
    let more : c.args.self.now.request < (config_data c.args.config.now).tries = leb-false (config_data c.args.config.now).tries c.args.self.now.request c.requires.more in
    let most : (config_data c.args.config.now).tries ≤ TRIES_LIMIT = c.tries_law.ensures in
    omega arith

pub returns-then-would-clause-gives : goal.returns-then-would-clause-gives
returns-then-would-clause-gives c = IfOk-weaker c.confirm.result _ _ (λ answers given.
    given ∙ (ap (query_reply (config_data c.args.config.now) c.args.algorithm.now c.args.key.now) (sym c.if-would.true))) c.confirm.ensures.gives

pub returns-else-would-clause-gives : goal.returns-else-would-clause-gives
returns-else-would-clause-gives c = IfOk-weaker c.refuse.result _ _ (λ answers given.
    given ∙ (ap (query_reply (config_data c.args.config.now) c.args.algorithm.now c.args.key.now) (sym c.if-would.false))) c.refuse.ensures.gives
