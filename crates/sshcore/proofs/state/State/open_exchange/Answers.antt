use Rattle.std.proofs.Common.{ap, ◌∙◌}
use Rattle.sshpacket.specs.Stream.{Units}
use Rattle.sshcore.specs.ReplyView.{replied}
use Rattle.sshcore.specs.StateData.{state_data}
use Rattle.sshcore.proofs.state.State.open_exchange.Goals as goal

pub returns-clause-gives : goal.returns-clause-gives
returns-clause-gives g c =
    ap (λ (a : Units). replied a (state_data c.args.self.now).end) c.in_ok-answers.ensures ∙ ap (replied _) c.requires.open
