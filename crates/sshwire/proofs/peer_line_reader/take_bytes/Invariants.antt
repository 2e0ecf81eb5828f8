use Rattle.std.proofs.Common.{◌≡◌, drop}
use Rattle.sshwire.specs.Lines.{IsUnfinished}
use Rattle.sshwire.specs.Reading.{reading_by}
use Rattle.sshwire.proofs.peer_line_reader.take_bytes.Given as goal

abbrev pub invariant-loop-i : goal.invariant-loop-i
invariant-loop-i l = record {
  held : IsUnfinished l.line.items;
  reads : reading_by l.fn.form l.left l.line.items (drop l.i l.piece) ≡ reading_by l.fn.form l.fn.left l.fn.line.items l.piece;
}
