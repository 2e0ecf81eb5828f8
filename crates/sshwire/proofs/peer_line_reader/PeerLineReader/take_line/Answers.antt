use Rattle.std.proofs.Common.{rules, Global, ◌≡◌, ◌≢◌, ℕ, List, None, Ok, length, refl, subst}
use Rattle.sshwire.specs.Feeding.{TakeAnswer}
use Rattle.sshwire.specs.LineReaderData.{Finished, LineReaderData, PeerLineReaderData, Waits}
use Rattle.sshwire.specs.PeerLineReaderInside.{progress_of}
use Rattle.sshwire.specs.Reading.{More, reading_by}
use Rattle.sshwire.proofs.Steps.{more_reads}
use Rattle.sshwire.proofs.peer_line_reader.PeerLineReader.take_line.Goals as goal

pub returns-in-Ok-None : goal.returns-in-Ok-None
returns-in-Ok-None c =
    let some : progress_of c.self.inside.ending c.self.inside.left c.self.inside.line.items ≢ Finished = search rules in
    let all : c.take_bytes-taken.result.0 ≡ length c.args.piece.now = search rules in
    let read : reading_by c.self.inside.form c.self.inside.left c.self.inside.line.items c.args.piece.now ≡ More c.take_bytes-taken.new.left c.take_bytes-taken.new.line.items = search rules in
    let new : LineReaderData = record {
      progress = progress_of c.self.inside.ending c.take_bytes-taken.new.left c.take_bytes-taken.new.line.items;
      taken = c.take_bytes-taken.result.0;
    } in
    record {
      line = tt;
      leaves = search rules;
      form = search rules;
      taken = search rules;
      again = search rules;
      reads = subst
          (λ (d : PeerLineReaderData). (k : ℕ) (text : List ℕ) → d.state.progress ≡ Waits k text → TakeAnswer {Z = Global} d.form (reading_by d.form k text c.args.piece.now) c.args.piece.now (Ok None) new)
          c.self.view_is
          (more_reads Global c.self.inside.form c.self.inside.ending c.self.inside.left c.self.inside.line.items c.take_bytes-taken.new.left c.take_bytes-taken.new.line.items
          c.args.piece.now new some refl all read);
    }
