use Rattle.std.proofs.Common.{Global, ap, ◌≡◌, true}
use Rattle.sshwire.specs.LineReaderData.{PeerLineReaderData}
use Rattle.sshwire.specs.Reading.{is_line_by}
use Rattle.sshwire.proofs.DeployedText.{taken}
use Rattle.sshwire.proofs.Steps.{peer_done, peer_more, peer_refused}
use Rattle.sshwire.proofs.peer_line_reader.PeerLineReader.advance.Goals.{in-Ok-None, in-Ok-Some, in-Err}
use Rattle.sshwire.proofs.peer_line_reader.PeerLineReader.advance.Goals as goal

pub of_unfinished-requires : goal.of_unfinished-requires
of_unfinished-requires c =
    let test : is_line_by c.args.self.now.form c.in-Ok-Some.line.items ≡ true = (let t = c.in-Ok-Some.ensures.line in rw c.in-Ok-Some.field-0-is at t) in
    (taken c.args.self.now.form c.in-Ok-Some.line.items test).test

pub returns-clause-reads : goal.returns-clause-reads
returns-clause-reads c = elim c.match-take_line.branch [
  | in-Ok-None w ↦ λ left line waits.
      peer_more c.args.self.now.form _ c.args.piece.now c.take_line.new.self.state w.in-Ok-None.field-0 c.match-take_line.result w.result-is w.in-Ok-None.field-0-is
      (w.in-Ok-None.ensures.reads left line waits)
  | in-Ok-Some w ↦ λ left line waits.
      let test : is_line_by c.args.self.now.form w.in-Ok-Some.line.items ≡ true = (let t = w.in-Ok-Some.ensures.line in rw w.in-Ok-Some.field-0-is at t) in
      peer_done c.args.self.now.form _ c.args.piece.now c.take_line.new.self.state w.in-Ok-Some.field-0 c.match-take_line.result w.in-Ok-Some.line w.of_unfinished.result _
      w.result-is w.in-Ok-Some.field-0-is test w.of_unfinished.ensures (ap (λ (d : PeerLineReaderData). d.state.taken) c.self.view_is) (w.in-Ok-Some.ensures.reads left line waits)
  | in-Err w ↦ λ left line waits.
      peer_refused Global c.args.self.now.form _ c.args.piece.now c.take_line.new.self.state c.match-take_line.result w.in-Err.fault w.result-is (w.in-Err.ensures.reads left line waits)
]
