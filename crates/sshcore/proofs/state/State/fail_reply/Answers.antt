use Rattle.std.proofs.Common.{ap, ◌∙◌}
use Rattle.sshcore.specs.declared.reply.Reply as reply
use Rattle.sshcore.specs.EndData.{end_data}
use Rattle.sshcore.specs.ReplyView.{answers_of, replied}
use Rattle.sshcore.specs.StateData.{StateData}
use Rattle.sshcore.proofs.state.State.fail_reply.Goals as goal

pub returns-clause-fails : goal.returns-clause-fails
returns-clause-fails c = record {
  reply_is = ap (λ (r : reply.Reply). replied (answers_of r) (end_data c.fail.new.self.end)) c.into_reply.ensures ∙ c.in_ok-fail.ensures.gives;
  no_switch = ap (λ (r : reply.Reply). r.switch) c.into_reply.ensures;
  unsent = ap (λ (k : StateData). k.sending) c.in_ok-fail.ensures.stays;
}
