use Rattle.std.proofs.Common.{◌≡◌, ◌<◌}
use Rattle.sshsuite.specs.Curve25519.{ladder, turned}
use Rattle.sshsuite.proofs.curve25519.ladder.Given as goal

abbrev pub invariant-loop-i : goal.invariant-loop-i
invariant-loop-i l = (turned l.state l.last ≡ ladder l.scalar l.x1 l.i) × (l.last < 2)
