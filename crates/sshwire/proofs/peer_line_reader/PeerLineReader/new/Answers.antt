use Rattle.sshwire.proofs.Readings.{nothing_received}
use Rattle.sshwire.proofs.peer_line_reader.PeerLineReader.new.Goals as goal

pub returns-clause-nothing : goal.returns-clause-nothing
returns-clause-nothing c = rw c.new.ensures.items (nothing_received c.args.form c.args.others)
