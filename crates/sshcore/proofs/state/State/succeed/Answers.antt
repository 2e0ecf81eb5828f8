use Rattle.std.proofs.Common.{ap, ◌∙◌}
use Rattle.std.proofs.lemmas.Result.{IfOk-weaker}
use Rattle.sshpacket.specs.Stream.{Units}
use Rattle.sshcore.specs.EndData.{end_data}
use Rattle.sshcore.specs.ReplyView.{replied}
use Rattle.sshcore.specs.StateData.{StateData}
use Rattle.sshcore.proofs.state.State.succeed.Goals as goal

pub returns-clause-gives : goal.returns-clause-gives
returns-clause-gives c = IfOk-weaker c.message.result _ _ (λ answers is.
    ap (λ (a : Units). replied a (end_data c.count_request.new.self.end)) is
    ∙ ap (replied _) (ap (λ (k : StateData). k.end) c.count_request.ensures ∙ ap (λ (k : StateData). k.end) c.in_ok-authenticate.ensures)) c.message.ensures
