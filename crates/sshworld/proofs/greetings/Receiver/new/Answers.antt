use Rattle.std.proofs.Common.{refl}
use Rattle.sshworld.proofs.greetings.Receiver.new.Goals as goal

pub returns-clause-stands : goal.returns-clause-stands
returns-clause-stands c = record { counted = refl; follows = (c.new.ensures.nothing, refl) }
