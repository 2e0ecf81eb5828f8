use Rattle.std.proofs.Common.{length}
use Rattle.sshlab.proofs.recorded_stream.whole_lines.Given as goal

-- each line takes at least its LF off the rest
abbrev pub decreases-loop-end : goal.decreases-loop-end
decreases-loop-end l = length l.rest
