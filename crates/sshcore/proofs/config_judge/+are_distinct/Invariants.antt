use Rattle.std.proofs.Common.{length}
use Rattle.sshcore.proofs.config_judge.+are_distinct.Given as goal

abbrev pub decreases-are_distinct : goal.decreases-are_distinct
decreases-are_distinct l = length l.names.now
