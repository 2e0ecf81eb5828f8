use Rattle.std.proofs.Common.{length}
use Rattle.sshlab.proofs.recorded_stream.ClearPackets.read_packets.Given as goal

-- each packet takes at least a byte off the rest
abbrev pub decreases-loop-number : goal.decreases-loop-number
decreases-loop-number l = length l.rest
