use Rattle.sshworld.proofs.ReceiverLemmas.{stands_front}
use Rattle.sshworld.proofs.greetings.Receiver.deliver.Goals as goal

pub returns-clause-stands : goal.returns-clause-stands
returns-clause-stands c = λ k s.
    stands_front k c.args.self.now.moved c.min.result c.args.sent.now c.receive.new.self (c.in_ok-receive.ensures.stands k _ s)
