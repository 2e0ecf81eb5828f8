use Rattle.sshwire.proofs.Readings.{stops_in}
use Rattle.sshwire.proofs.peer_line_reader.take_bytes.Goals as goal

pub returns-in-Err-clause-reads : goal.returns-in-Err-clause-reads
returns-in-Err-clause-reads c =
    stops_in c.args.form c.in-Err.fault c.loop-i.left c.loop-i.line.items c.args.piece.now c.loop-i.i _ c.loop-i-test.true c.loop-i.invariant.reads c.in-Err.ensures
