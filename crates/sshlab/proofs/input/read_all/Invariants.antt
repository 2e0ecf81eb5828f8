use Rattle.std.proofs.Common.{◌≡◌, ◌+◌, ◌-◌, ◌≤◌, false, length}
use Rattle.std.specs.Io.KnownBytes.{Consumes}
use Rattle.sshlab.specs.declared.scenario.TheConstants.{TEXT_LIMIT}
use Rattle.sshlab.proofs.input.read_all.Given as goal

-- no read has failed, and a byte more than the limit ends it; what was read is what known bytes lost
abbrev pub invariant-loop-chunk : goal.invariant-loop-chunk
invariant-loop-chunk g l = record {
  open_still : g.I.Source.has_failed l.input ≡ false;
  within : length l.text.items ≤ TEXT_LIMIT + 1;
  taken : Consumes (g.I.Source.remaining l.fn.input) (g.I.Source.remaining l.input) l.text.items;
}

abbrev pub decreases-loop-chunk : goal.decreases-loop-chunk
decreases-loop-chunk g l = TEXT_LIMIT + 1 - length l.text.items
