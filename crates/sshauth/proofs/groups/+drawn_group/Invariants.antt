use Rattle.std.proofs.Common.{length}
use Rattle.sshauth.proofs.groups.+drawn_group.Given as goal

abbrev pub decreases-drawn_group : goal.decreases-drawn_group
decreases-drawn_group l = length l.drawn.now
