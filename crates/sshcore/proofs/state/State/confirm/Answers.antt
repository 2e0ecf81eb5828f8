use Rattle.std.proofs.Common.{List, ℕ, [], ◌∷◌, ap, ◌∙◌}
use Rattle.std.proofs.lemmas.Result.{IfOk-weaker}
use Rattle.sshmsg.specs.MessageData.{UserauthPkOk}
use Rattle.sshmsg.specs.Written.{written_message}
use Rattle.sshpacket.specs.Stream.{Units}
use Rattle.sshcore.specs.EndData.{end_data}
use Rattle.sshcore.specs.ReplyView.{replied}
use Rattle.sshcore.specs.StateData.{StateData}
use Rattle.sshcore.proofs.state.State.confirm.Goals as goal

pub returns-clause-gives : goal.returns-clause-gives
returns-clause-gives c = IfOk-weaker c.message.result _ _ (λ answers is.
    ap (λ (a : Units). replied a (end_data c.count_request.new.self.end)) (is ∙ ap (λ (l : List ℕ). written_message (UserauthPkOk l c.args.key.now) ∷ []) c.as_bytes.ensures.value)
    ∙ ap (replied _) (ap (λ (k : StateData). k.end) c.count_request.ensures ∙ c.requires.open)) c.message.ensures
