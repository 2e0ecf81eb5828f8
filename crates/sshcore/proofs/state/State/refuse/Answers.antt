use Rattle.std.proofs.Common.{◌≤◌, [], ◌∷◌, List, ℕ, arith, length, ap, string_bytes, ◌∙◌}
use Rattle.std.proofs.lemmas.Result.{IfOk-weaker}
use Rattle.sshmsg.specs.MessageData.{UserauthFailure}
use Rattle.sshmsg.specs.Written.{written_message}
use Rattle.sshcore.specs.EndpointConfig.{config_data}
use Rattle.sshpacket.specs.Stream.{Units}
use Rattle.sshcore.specs.EndData.{end_data}
use Rattle.sshcore.specs.ReplyView.{replied}
use Rattle.sshcore.specs.StateData.{StateData}
use Rattle.sshcore.proofs.RequestLemmas.{few_texts}
use Rattle.sshcore.proofs.state.State.refuse.Goals as goal

pub list_of-requires : goal.list_of-requires
list_of-requires c =
    let few : length c.methods.result.now ≤ 1001 =
    few_texts c.names_law.ensures.body string_bytes c.methods.result.now (config_data c.args.config.now).methods c.methods.ensures.methods c.methods.ensures.short in
    omega arith

pub returns-clause-gives : goal.returns-clause-gives
returns-clause-gives c = IfOk-weaker c.message.result _ _ (λ answers is.
    ap (λ (a : Units). replied a (end_data c.count_request.new.self.end))
    (is ∙ ap (λ (l : List (List ℕ)). written_message (UserauthFailure l c.args.partial) ∷ []) (c.in_ok-methods.ensures ∙ c.methods.ensures.methods))
    ∙ ap (replied _) (ap (λ (k : StateData). k.end) c.count_request.ensures ∙ c.requires.open)) c.message.ensures
