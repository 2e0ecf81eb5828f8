use Rattle.std.proofs.Common.{◌++◌, ◌∙◌, ap, subst}
use Rattle.sshwire.specs.Types.{IsBytes}
use Rattle.sshmsg.specs.View.{message_data}
use Rattle.sshmsg.specs.Written.{written_message}
use Rattle.sshcore.proofs.PayloadLemmas.{made}
use Rattle.sshcore.proofs.payloads.payload_of.Goals as goal

pub returns : goal.returns
returns c = made (message_data c.args.message.now) c.write.new.out.items
    (c.in_ok-write.ensures.appends ∙ ap (λ items. items ++ written_message (message_data c.args.message.now)) c.new-payload.ensures.items)
    c.requires (subst IsBytes c.deref.ensures.value c.bytes_law.ensures)
