use Rattle.sshpacket.proofs.ProtectedLaws.{faithful, means, packet_of_unit, reads, unit_of_packet}
use Rattle.sshpacket.proofs.packet_laws.packet_law.Goals as goal

pub returns-clause-faithful : goal.returns-clause-faithful
returns-clause-faithful c = faithful

pub returns-clause-found : goal.returns-clause-found
returns-clause-found c = means c.bytes_law.ensures.take c.types_law.ensures.uint32

pub returns-clause-only : goal.returns-clause-only
returns-clause-only c = reads c.bytes_law.ensures.take

pub returns-clause-unit : goal.returns-clause-unit
returns-clause-unit c = unit_of_packet c.types_law.ensures.uint32

pub returns-clause-packet : goal.returns-clause-packet
returns-clause-packet c = packet_of_unit
