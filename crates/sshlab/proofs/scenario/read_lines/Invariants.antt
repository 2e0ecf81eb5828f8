use Rattle.std.proofs.Common.{◌≡◌, length, take}
use Rattle.sshlab.specs.ScenarioDrafts.{drafted}
use Rattle.sshlab.specs.ScenarioText.{CanBeRead, statements_in}
use Rattle.sshlab.specs.TextLines.{lines}
use Rattle.sshlab.proofs.scenario.read_lines.Given as goal

-- the lines so far can be read, and give the draft
abbrev pub invariant-loop-line : goal.invariant-loop-line
invariant-loop-line l = record {
  counted : l.number ≡ length l.yielded;
  read : CanBeRead (take l.number (lines l.text));
  draft : l.draft ≡ drafted (statements_in (take l.number (lines l.text)));
}
