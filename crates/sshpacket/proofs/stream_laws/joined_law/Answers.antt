use Rattle.sshpacket.proofs.JoinedLemmas.{found, only}
use Rattle.sshpacket.proofs.stream_laws.joined_law.Goals as goal

pub returns-clause-found : goal.returns-clause-found
returns-clause-found c = λ parsers at version len same each. found c.bytes_law.ensures.drop parsers at version len same each c.packet_law.ensures.found

pub returns-clause-only : goal.returns-clause-only
returns-clause-only c = λ parsers at version len same each. only c.bytes_law.ensures.drop parsers at version len same each c.packet_law.ensures.only
