use Rattle.sshpacket.proofs.Writings.{stays_opened, stays_sealed}
use Rattle.sshpacket.proofs.packet_laws.advancing_law.Goals as goal

pub returns-clause-opened : goal.returns-clause-opened
returns-clause-opened c = stays_opened

pub returns-clause-sealed : goal.returns-clause-sealed
returns-clause-sealed c = stays_sealed
