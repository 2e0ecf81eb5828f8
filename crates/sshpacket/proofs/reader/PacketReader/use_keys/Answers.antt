use Rattle.std.proofs.Common.{refl}
use Rattle.sshpacket.specs.PacketReaderData.{packet_reader_data}
use Rattle.sshpacket.proofs.WaitLemmas.{waits_empty}
use Rattle.sshpacket.proofs.reader.PacketReader.use_keys.Goals as goal

pub returns-then-reset-clause-waits : goal.returns-then-reset-clause-waits
unfolding packet_reader_data
returns-then-reset-clause-waits c = λ none m. waits_empty m _ none c.requires refl

pub returns-else-reset-clause-waits : goal.returns-else-reset-clause-waits
unfolding packet_reader_data
returns-else-reset-clause-waits c = λ none m. waits_empty m _ none c.requires refl
