use Rattle.sshpacket.proofs.Shares.{response, share, shared}
use Rattle.sshpacket.proofs.packet_laws.shares_law.Goals as goal

pub returns-clause-share : goal.returns-clause-share
returns-clause-share c = share c.types_law.ensures.canonical

pub returns-clause-shared : goal.returns-clause-shared
returns-clause-shared c = shared c.types_law.ensures.canonical

pub returns-clause-response : goal.returns-clause-response
returns-clause-response c = response c.types_law.ensures.canonical
