use Rattle.std.proofs.Common.{◌≡◌, ℕ, false, take, drop, length}
use Rattle.std.specs.Io.KnownBytes.{Appends}
use Rattle.sshlab.proofs.streams.write_all.Given as goal

abbrev pub invariant-loop-rest : goal.invariant-loop-rest
invariant-loop-rest g l = record {
  open_still : g.S.Sink.has_failed l.sink ≡ false;
  written : (n : ℕ) × (l.rest ≡ drop n l.bytes) × Appends (g.S.Sink.contents l.fn.sink) (g.S.Sink.contents l.sink) (take n l.bytes);
}

abbrev pub decreases-loop-rest : goal.decreases-loop-rest
decreases-loop-rest g l = length l.rest
