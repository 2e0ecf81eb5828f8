use Rattle.std.proofs.Common.{refl}
use Rattle.sshpacket.proofs.WaitLemmas.{waits_empty}
use Rattle.sshpacket.proofs.reader.PacketReader.going_on.Goals as goal

pub returns-clause-waits : goal.returns-clause-waits
returns-clause-waits c = λ m. waits_empty m _ refl c.new.ensures.items refl
