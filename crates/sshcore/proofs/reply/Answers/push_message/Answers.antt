use Rattle.sshcore.proofs.MadeLemmas.{made_plain, quiet_message}
use Rattle.sshcore.proofs.reply.Answers.push_message.Goals as goal

pub push-requires : goal.push-requires
push-requires c = made_plain _ _ c.in_ok-payload_from.ensures (quiet_message _ c.requires.plain)
